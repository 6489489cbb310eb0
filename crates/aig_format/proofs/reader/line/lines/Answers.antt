use Rattle.std.proofs.Common.{ℕ, ◌≡◌, ◌+◌, ◌∷◌, [], arith, ap, length, length-append, refl, rules, subst}
use Rattle.std.proofs.lemmas.Grind.{common_steps}
use Rattle.std.proofs.lemmas.Result.{err_from_is_err_and}
use Rattle.aig_format.proofs.Keeping.{keeps_step, keeps_then, keeps_reads, err_reads}
use Rattle.aig_format.proofs.Lines.{fits_none, fits_push}
use Rattle.aig_format.proofs.Steps.{lines_taken, lines_on, lines_fail, lines_done}
use Rattle.aig_format.proofs.reader.line.lines.Goals as goal

pub push_buffered-requires-clause-fits : goal.push_buffered-requires-clause-fits
push_buffered-requires-clause-fits g c = λ j lt.
    let e : c.args.first + (c.loop-all.read + j) ≡ c.args.first + c.loop-all.read + j = omega arith in
    subst g.X.Line.fits e (c.requires.fits (c.loop-all.read + j) (omega (arith, lt)))

pub returns-then-read-count-clause-reads : goal.returns-then-read-count-clause-reads
returns-then-read-count-clause-reads g c =
    let i = c.loop-all.invariant in
    let t = c.in_ok-taken in
    let s = c.skip.ensures in
    let read : ℕ = c.loop-all.read + t.taken in
    let keeps = keeps_step i.keeps s.reported s.reader s.failures (omega (arith, s.more)) in
    let bytes = λ (reported : g.S.Source.reports c.args.s.now).
    lines_taken g.X.Line.line_at c.loop-all.all c.push_buffered.new.all c.args.count c.loop-all.read c.args.first t.taken t.size
    c.front.result.now _ _ _ _ _ (omega (arith, i.most, t.ensures.most)) c.front.ensures.buffered c.front.ensures.left s.left
    t.ensures.adds (i.bytes reported) in
    keeps_reads keeps (λ n. refl) (λ reported.
    lines_done g.X.Line.line_at c.push_buffered.new.all c.args.count read (c.args.first + read) _ _
    (omega (arith, c.if-read-count.true)) (bytes reported))

pub returns-then-read-count-clause-count : goal.returns-then-read-count-clause-count
returns-then-read-count-clause-count g c =
    omega (arith, c.in_ok-taken.ensures.adds.count, c.loop-all.invariant.count, c.if-read-count.true)

pub returns-then-read-count-clause-fits : goal.returns-then-read-count-clause-fits
returns-then-read-count-clause-fits g c =
    c.in_ok-taken.ensures.fits c.args.first (omega (arith, c.loop-all.invariant.count)) c.loop-all.invariant.fits

pub line-requires : goal.line-requires
line-requires g c =
    c.requires.fits (c.loop-all.read + c.in_ok-taken.taken)
    (omega (arith, c.loop-all.invariant.most, c.in_ok-taken.ensures.most, c.if-read-count.false))

pub returns-in_err-line-clause-reads : goal.returns-in_err-line-clause-reads
returns-in_err-line-clause-reads g c =
    let p = err_from_is_err_and c.from_residual-in_err-line.result c.from_residual-in_err-line.ensures.1 in
    let i = c.loop-all.invariant in
    let t = c.in_ok-taken in
    let s = c.skip.ensures in
    let read : ℕ = c.loop-all.read + t.taken in
    let keeps = keeps_step i.keeps s.reported s.reader s.failures (omega (arith, s.more)) in
    let bytes = λ (reported : g.S.Source.reports c.args.s.now).
    lines_taken g.X.Line.line_at c.loop-all.all c.push_buffered.new.all c.args.count c.loop-all.read c.args.first t.taken t.size
    c.front.result.now _ _ _ _ _ (omega (arith, i.most, t.ensures.most)) c.front.ensures.buffered c.front.ensures.left s.left
    t.ensures.adds (i.bytes reported) in
    rw (p.1, p.2)
    (err_reads keeps c.in_err-line.ensures.reads (λ reported fails.
    lines_fail g.X.Line.line_at _ c.push_buffered.new.all c.args.count read (c.args.first + read) _ _
    (omega (arith, i.most, t.ensures.most, c.if-read-count.false)) fails (bytes reported)))

pub loop-all-init : goal.loop-all-init
loop-all-init g c =
    rw c.new-all.ensures (record {
      bytes = λ reported. grind (arith, common_steps);
      count = search rules;
      most = search rules;
      fits = fits_none g.X.Line.holds c.args.first;
      keeps = search rules;
    })

pub loop-all-preserved : goal.loop-all-preserved
loop-all-preserved g c =
    let i = c.loop-all.invariant in
    let t = c.in_ok-taken in
    let s = c.skip.ensures in
    let read : ℕ = c.loop-all.read + t.taken in
    let keeps = keeps_step i.keeps s.reported s.reader s.failures (omega (arith, s.more)) in
    let bytes = λ (reported : g.S.Source.reports c.args.s.now).
    lines_taken g.X.Line.line_at c.loop-all.all c.push_buffered.new.all c.args.count c.loop-all.read c.args.first t.taken t.size
    c.front.result.now _ _ _ _ _ (omega (arith, i.most, t.ensures.most)) c.front.ensures.buffered c.front.ensures.left s.left
    t.ensures.adds (i.bytes reported) in
    record {
      bytes = λ reported.
          rw c.in_ok-push.ensures.ok
          (lines_on g.X.Line.line_at c.push_buffered.new.all c.args.count read (c.args.first + read) (c.args.first + (read + 1)) _
          c.in_ok-line.line _ _ (omega (arith, i.most, t.ensures.most, c.if-read-count.false)) (omega arith)
          (c.in_ok-line.ensures.reads.bytes (keeps.reported reported)) (bytes reported));
      count =
          omega (
            arith,
            ap length c.in_ok-push.ensures.ok,
            length-append c.push_buffered.new.all (c.in_ok-line.line ∷ []),
            t.ensures.adds.count,
            i.count,
          );
      most = omega (arith, i.most, t.ensures.most, c.if-read-count.false);
      fits =
          (let number : c.args.first + read ≡ c.args.first + length c.push_buffered.new.all =
          omega (arith, t.ensures.adds.count, i.count) in
          let before = t.ensures.fits c.args.first (omega (arith, i.count)) i.fits in
          rw c.in_ok-push.ensures.ok
          (fits_push g.X.Line.holds c.args.first c.push_buffered.new.all c.in_ok-line.line before
          (subst (λ (v : ℕ). g.X.Line.holds v c.in_ok-line.line) number c.in_ok-line.ensures.holds)));
      keeps = keeps_then keeps c.in_ok-line.ensures.reads;
    }
