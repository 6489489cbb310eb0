use Rattle.std.proofs.Common.{◌-◌, arith}
use Rattle.std.specs.Prelude.{reverse}
use Rattle.aig_prompt.proofs.ValueLemmas.{not_letters}
use Rattle.aig_prompt.proofs.value.binary_value.Goals as goal

pub returns-in-None-clause-refused : goal.returns-in-None-clause-refused
returns-in-None-clause-refused c = λ other bits size h.
    not_letters c.args.letters.now (reverse bits) (c.loop-place.place - 1)
    (omega (arith, c.loop-place-test.true, c.loop-place.invariant.within)) c.in-None.ensures h
