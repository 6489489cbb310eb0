use Rattle.std.proofs.Common.{◌≡◌, ◌↔◌, ℕ, List, Contains, sym, subst, arith}
use Rattle.std.proofs.lemmas.Result.{on_ok_weaker}
use Rattle.aig_causes.specs.Causes.{moment}
use Rattle.aig_causes.specs.Explanation.{named_at}
use Rattle.aig_signals.specs.declared.text.Origin.TheVariants as origin
use Rattle.aig_why.specs.Lines.{AreLastTexts, IsOriginText}
use Rattle.aig_why.specs.state.Naming.{Adds}
use Rattle.aig_why.proofs.StartLemmas.{last_open, named_latches}
use Rattle.aig_why.proofs.lines.writer.Writer.push_last.Goals as goal

pub push_open_latches-requires-clause-latches : goal.push_open_latches-requires-clause-latches
push_open_latches-requires-clause-latches g c = λ p has.
    let found = c.in_ok-latches.ensures.only p (subst (λ (ps : List ℕ). Contains ps p) c.deref.ensures.value has) in
    omega (arith, found.1, c.requires.bench.named)

pub push_starts-requires-clause-latches : goal.push_starts-requires-clause-latches
push_starts-requires-clause-latches g c = λ p has.
    let found = c.in_ok-latches.ensures.only p (subst (λ (ps : List ℕ). Contains ps p) c.deref-else-frame-gt0.ensures.value has) in
    omega (arith, found.1, c.requires.bench.named)

pub returns-then-frame-gt0 : goal.returns-then-frame-gt0
returns-then-frame-gt0 g c = λ raw of resets_are literals frames come.
    let p = c.args.bench.now.pair in
    let e = c.args.explanation.now in
    let f = c.frame-frame.result in
    let latches = c.in_ok-latches.latches.items in
    let named = (named_at e.asked frames).latches in
    let old = c.args.self.now.text.items in
    let new = c.push_open_latches.new.self.text.items in
    let same = named_latches e.named latches named c.in_ok-latches.ensures come.named in
    on_ok_weaker c.push_open_latches.result
    (λ (adds : Adds (IsOriginText c.args.form raw (moment p f) (origin.NotExplained f) c.deref.result.now) old new).
    subst (λ (n : ℕ). Adds (AreLastTexts c.args.form raw (moment p n) named) old new) c.frame-frame.ensures
    (last_open c.args.form raw p f latches named old new c.if-frame-gt0.true same
    (subst (λ (ps : List ℕ). Adds (IsOriginText c.args.form raw (moment p f) (origin.NotExplained f) ps) old new) c.deref.ensures.value adds)))
    (c.push_open_latches.ensures.text raw of)

pub returns : goal.returns
returns g c = λ raw of resets_are literals frames come.
    let p = c.args.bench.now.pair in
    let e = c.args.explanation.now in
    let latches = c.in_ok-latches.latches.items in
    let named = (named_at e.asked frames).latches in
    let old = c.args.self.now.text.items in
    let new = c.push_starts.new.self.text.items in
    let same = named_latches e.named latches named c.in_ok-latches.ensures come.named in
    let at_0 : 0 ≡ e.frame = omega (arith, c.if-frame-gt0.false, c.frame-frame.ensures) in
    on_ok_weaker c.push_starts.result
    (λ (adds : Adds (AreLastTexts c.args.form raw (moment p 0) named) old new).
    subst (λ (n : ℕ). Adds (AreLastTexts c.args.form raw (moment p n) named) old new) at_0 adds)
    (c.push_starts.ensures raw of resets_are named
    (subst (λ (ps : List ℕ). (q : ℕ) → Contains ps q ↔ Contains named q) (sym c.deref-else-frame-gt0.ensures.value) same))
