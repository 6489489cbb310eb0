use Rattle.std.proofs.Common.{List, ℕ, subst, take, arith}
use Rattle.std.specs.Io.KnownBytes.{Appends}
use Rattle.aig_files.specs.Shown.{AppendsSome}
use Rattle.aig_files.proofs.ShownLemmas.{appends_first, appends_none, on_err}
use Rattle.aig_files.proofs.shown.Shown.write_escape.Goals as goal

pub returns-in_err-count-clause-broken : goal.returns-in_err-count-clause-broken
returns-in_err-count-clause-broken g c =
    let contents = g.W.Write.contents in
    let loop = c.loop-at in
    on_err c.from_residual.result _
    (subst (λ (bytes : List ℕ). AppendsSome (contents c.args.self.now) (contents c.write.new.self) bytes) c.escape-bytes.ensures.bytes
    (appends_first _ _ _ c.escape-bytes.result loop.at
    (subst (λ w. Appends (contents w) (contents loop.self-inside.inner) (take loop.at c.escape-bytes.result)) c.self.view_is loop.invariant.written)
    c.in_err-count.ensures.bytes))

pub returns-then-count-eq0-clause-broken : goal.returns-then-count-eq0-clause-broken
returns-then-count-eq0-clause-broken g c =
    let contents = g.W.Write.contents in
    let loop = c.loop-at in
    subst (λ (bytes : List ℕ). AppendsSome (contents c.args.self.now) (contents c.write.new.self) bytes) c.escape-bytes.ensures.bytes
    (appends_first _ _ _ c.escape-bytes.result loop.at
    (subst (λ w. Appends (contents w) (contents loop.self-inside.inner) (take loop.at c.escape-bytes.result)) c.self.view_is loop.invariant.written)
    (appends_none _ _ _ c.in_ok-count.count (omega (arith, c.if-count-eq0.true)) c.in_ok-count.ensures.bytes))
