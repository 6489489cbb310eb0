use Rattle.std.proofs.Common.{refl}
use Rattle.aig_shell.specs.Session.{own_circuit}
use Rattle.aig_shell.proofs.explained.Asking.{names_nothing, names_own}
use Rattle.aig_shell.proofs.saved.Saved.{own_size}
use Rattle.aig_shell.proofs.session.Session.explanation.Goals as goal

pub text_of-requires-clause-size : goal.text_of-requires-clause-size
text_of-requires-clause-size c = own_size c.args.self.now

pub text_of-requires-clause-none : goal.text_of-requires-clause-none
text_of-requires-clause-none c =
    names_nothing c.args.self.now.run.bench.pair.circuit c.in_ok-naming.naming (rw c.circuit.ensures at c.in_ok-naming.ensures.input_values)
    (rw c.circuit.ensures at c.in_ok-naming.ensures.latch_values)

pub text_of-requires-clause-of : goal.text_of-requires-clause-of
text_of-requires-clause-of c = (
  own_circuit c.args.self.now,
  names_own c.args.self.now c.in_ok-naming.naming (rw c.circuit.ensures at c.in_ok-naming.ensures.inputs)
      (rw c.circuit.ensures at c.in_ok-naming.ensures.latches),
)

pub returns : goal.returns
returns c =
    c.text_of.ensures (own_circuit c.args.self.now)
    (names_own c.args.self.now c.in_ok-naming.naming (rw c.circuit.ensures at c.in_ok-naming.ensures.inputs)
    (rw c.circuit.ensures at c.in_ok-naming.ensures.latches)) refl
