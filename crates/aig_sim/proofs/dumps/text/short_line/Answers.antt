use Rattle.std.proofs.Common.{◌≡◌, ◌/◌, ◌%◌, ◌<◌, refl, arith}
use Rattle.aig_names.proofs.Codes.{code_last, code_more}
use Rattle.aig_sim.proofs.dumps.text.short_line.Goals as goal

pub returns-then-signal-lt-BASE-clause-line : goal.returns-then-signal-lt-BASE-clause-line
returns-then-signal-lt-BASE-clause-line c =
    let same : c.args.signal % 94 ≡ c.args.signal = omega arith in
    rw (same, code_last c.args.signal c.if-signal-lt-BASE.true) refl

pub returns-else-signal-lt-BASE-clause-line : goal.returns-else-signal-lt-BASE-clause-line
returns-else-signal-lt-BASE-clause-line c =
    let second : c.args.signal / 94 < 94 = omega (arith, c.requires) in
    rw (code_more c.args.signal c.if-signal-lt-BASE.false, code_last (c.args.signal / 94) second) refl
