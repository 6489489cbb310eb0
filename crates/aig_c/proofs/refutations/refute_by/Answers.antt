use Rattle.std.proofs.Common.{refl, ap}
use Rattle.std.specs.Prelude.{Some}
use Rattle.aig_commands.specs.Questions.{RefutesQuestion, asked_of}
use Rattle.aig_c.proofs.Endings.{after_err, after_ok}
use Rattle.aig_c.proofs.Silent.{refutes}
use Rattle.aig_c.proofs.refutations.refute_by.Goals as goal

pub returns-in-Ok-refute-clause-returns : goal.returns-in-Ok-refute-clause-returns
returns-in-Ok-refute-clause-returns c =
    after_ok (RefutesQuestion (asked_of c.args.asked.question) c.args.asked.circuit.now) c.refute.new.out.bytes _ (ap Some c.in-Ok.ensures) refl
    c.bytes.ensures c.in-Ok-refute.ensures.ends c.answer.ensures

pub returns-clause-returns : goal.returns-clause-returns
returns-clause-returns c =
    after_err (RefutesQuestion (asked_of c.args.asked.question) c.args.asked.circuit.now) (refutes (asked_of c.args.asked.question) c.args.asked.circuit.now)
    c.in-Err.fault c.refute.new.out.bytes _ (ap Some c.in-Ok.ensures) refl c.bytes-in-Err.ensures c.in-Err.ensures.ends c.refuse.ensures
