-- The text of the witness of a run.
use Rattle.std.proofs.Common.{◌≡◌, ℕ, ◌+◌, List, [], length, map, take, Option, Err, refl, ap, arith}
use Rattle.std.specs.Fmt.{decimal}
use Rattle.std.proofs.lemmas.List.{length-map, length-take-le}
use Rattle.std.proofs.lemmas.List.Elements.{All-take}
use Rattle.aig_parts.specs.declared.latch.Latch.{Latch}
use Rattle.aig_parts.specs.declared.raw.Raw.{Raw}
use Rattle.aig_parts.specs.declared.ternary.Tern.{Tern}
use Rattle.aig_base.specs.Value.{start_of, reset_value}
use Rattle.aig_values.specs.InputRows.{HaveWidth}
use Rattle.aig_command.specs.declared.run_fault.RunFault.TheVariants as run_faults
use Rattle.aig_sim.specs.Reached.{IsFirstReached, ReachesNone}
use Rattle.aig_sim.specs.StimulusText.{SpellsRows}
use Rattle.aig_sim.specs.WitnessText.{IsDecimal, witness_text}
use Rattle.aig_sim.specs.declared.witness.reach_fault.ReachFault.{ReachFault}
use Rattle.aig_sim.specs.declared.witness.reach_fault.ReachFault.TheVariants as reaches
use Rattle.aig_commands.specs.Witness.{HasAsked, SpellsFirst, WritesWitness}

-- a value for each latch
pub start_length : (raw : Raw) → length (start_of raw) ≡ length raw.latches
start_length raw = length-map raw.latches (λ (x : Latch). reset_value x.reset)

pub spells_first : (raw : Raw) (start : List Tern) (rows : List (List Tern)) (asked : Option ℕ) (t p : ℕ)
    → length start ≡ length raw.latches → HaveWidth (length raw.inputs) rows
    → IsFirstReached raw start rows asked t p → IsDecimal (decimal p) p
    → SpellsFirst raw start rows asked (witness_text (decimal p) start (take (t + 1) rows))
spells_first raw start rows asked t p same widths first position = record {
  frame = t;
  property = p;
  first = first;
  spelled = record {
    start_is = same;
    widths = All-take (λ row. length row ≡ length raw.inputs) (t + 1) rows widths;
    some = λ none. (
        let long : length (take (t + 1) rows) ≡ t + 1 = length-take-le (t + 1) rows (let lt = first.reaches.frame in omega (arith, lt)) in
        omega (arith, long, ap length none));
    digits = decimal p;
    position = position;
    text_is = refl;
  };
}

-- no witness is written
pub reach_refused : (asked : Option ℕ) (stimulus : List ℕ) (raw : Raw) (rows : List (List Tern)) (fault : ReachFault)
    → HasAsked raw asked → SpellsRows (length raw.inputs) stimulus rows
    → (fault ≡ reaches.NoRun → ReachesNone raw (start_of raw) rows asked) → (fault ≡ reaches.Property → ⊥)
    → WritesWitness asked stimulus raw (Err (run_faults.Reach fault)) []
reach_refused asked stimulus raw rows reaches.NoRun has spelled none never = (has, (rows, spelled, none refl), refl)
reach_refused asked stimulus raw rows reaches.Property has spelled none never = absurd (never refl)
reach_refused asked stimulus raw rows reaches.Memory has spelled none never = refl
