-- What is written of a reduction, from what it answers.
use Rattle.std.proofs.Common.{◌≡◌, List, ℕ, Ok, refl}
use Rattle.std.specs.Fmt.{decimal}
use Rattle.aig_parts.specs.declared.raw.Raw.{Raw}
use Rattle.aig_base.specs.Circuit.{IsCircuit}
use Rattle.aig_sim.specs.declared.witness.verdict.Verdict.TheVariants.{Initial, Constraint, NotBad, Confirmed}
use Rattle.aig_sim.specs.Verdict.{IsVerdict}
use Rattle.aig_sim.specs.WitnessText.{Witness, IsDecimal, SpellsWitness, witness_text}
use Rattle.aig_reduce.specs.declared.reduction.Reduction.{Reduction}
use Rattle.aig_reduce.specs.declared.reduction.Reduction.TheVariants as reductions
use Rattle.aig_reduce.specs.Answers.{IsGiven, AnswersReduction}
use Rattle.aig_reduce.specs.Irreducible.{IsConfirmedWitness}
use Rattle.aig_reduce.proofs.Irreducibles.{holds_reduced}
use Rattle.aig_commands.specs.Reduce.{HasDecimalPosition, Reduces, reduction_text, verdict_of}

-- the given witness is one that the circuit can run
given_confirmed : (raw : Raw) (text : List ℕ) (given : Witness) → IsGiven raw text given → IsVerdict raw given Confirmed
    → IsConfirmedWitness raw given
given_confirmed raw text given is confirmed = record {
  latches = is.text_is.start_is;
  widths = is.text_is.widths;
  some = is.text_is.some;
  property = is.admitted.0;
  verdict = confirmed;
}

-- a confirmed witness is spelled by its text
spells_confirmed : (raw : Raw) (w : Witness) → IsConfirmedWitness raw w → IsDecimal (decimal w.property) w.property
    → SpellsWitness raw (witness_text (decimal w.property) w.start w.rows) w
spells_confirmed raw w is position = record {
  start_is = is.latches;
  widths = is.widths;
  some = is.some;
  digits = decimal w.property;
  position = position;
  text_is = refl;
}

pub reduces : (raw : Raw) (text : List ℕ) → IsCircuit raw → (reduction : Reduction) → HasDecimalPosition reduction
    → AnswersReduction raw text reduction → Reduces text raw (Ok (verdict_of reduction)) (reduction_text reduction)
reduces raw text circuit (reductions.Reduced new) position (given, is, (confirmed, reduced)) =
    let holds = holds_reduced raw circuit given (given_confirmed raw text given is confirmed) new reduced in
    record {
      given = given;
      given_is = is;
      confirmed = confirmed;
      new = new;
      spelled = spells_confirmed raw new holds.confirmed position;
      holds = holds;
      reduced = reduced;
    }
reduces raw text circuit (reductions.Refused (Initial p)) position (given, is, (ne, verdict)) =
    record { given = given; given_is = is; verdict_is = verdict; written_is = refl }
reduces raw text circuit (reductions.Refused (Constraint t p)) position (given, is, (ne, verdict)) =
    record { given = given; given_is = is; verdict_is = verdict; written_is = refl }
reduces raw text circuit (reductions.Refused NotBad) position (given, is, (ne, verdict)) =
    record { given = given; given_is = is; verdict_is = verdict; written_is = refl }
reduces raw text circuit (reductions.Refused Confirmed) position (given, is, (ne, verdict)) = absurd (ne refl)
