-- The bench of a witness that was read.
use Rattle.std.proofs.Common.{◌≡◌, ℕ, ◌+◌, ◌*◌, ◌<◌, ◌≤◌, inl, inr, List, Ok, Err, length, ap, sym, ◌∙◌, subst, refl}
use Rattle.std.proofs.lemmas.Bool.{cases_lt}
use Rattle.aig_parts.specs.Limits.{cell_limit}
use Rattle.aig_parts.specs.declared.raw.Raw.{Raw}
use Rattle.aig_base.specs.Circuit.{IsCircuit}
use Rattle.aig_base.specs.Value.{start_of}
use Rattle.aig_sim.specs.declared.witness.verdict.Verdict.TheVariants as verdict
use Rattle.aig_sim.specs.Verdict.{IsVerdict}
use Rattle.aig_sim.specs.WitnessText.{Witness, SpellsWitness, IsAdmitted}
use Rattle.aig_bench.specs.BenchState.{CircuitAndRows}
use Rattle.aig_base.specs.Resets.{HasOtherResets}
use Rattle.aig_reduce.specs.state.Reducing.{Reducing}
use Rattle.aig_reduce.proofs.Tries.{reducing_begins}

-- a bench of a confirmed witness, where nothing has been tried
pub reduction_begins : (raw changed : Raw) (text : List ℕ) (given : Witness) (pair : CircuitAndRows) → IsCircuit raw
    → SpellsWitness raw text given → IsAdmitted raw given → IsVerdict raw given verdict.Confirmed
    → HasOtherResets raw changed → start_of changed ≡ given.start
    → pair ≡ record { circuit = changed; rows = given.rows }
    → Reducing raw given pair given.property given.start 0 0
reduction_begins raw changed text given pair circuit spells admitted confirmed resets starts e =
    subst (λ (p : CircuitAndRows). Reducing raw given p given.property given.start 0 0) (sym e)
    (reducing_begins raw given (record { circuit = changed; rows = given.rows }) (record {
      circuit = circuit;
      resets = resets;
      start_is = starts;
      confirmed = record {
        latches = spells.start_is;
        widths = spells.widths;
        some = spells.some;
        property = admitted.0;
        verdict = confirmed;
      };
    }) refl)

pub ok_is_no_error : {T E : Type 0} (t : T) (e : E) → Ok t ≡ Err e → ⊥
ok_is_no_error t e h = cc

-- the cells of a bench with other resets are within the limit
pub within_limit : (raw changed : Raw) (width frames : ℕ) → HasOtherResets raw changed → width ≡ length raw.inputs
    → ((width ≡ length changed.inputs) × (cell_limit < (changed.max_var + 1) * frames) → ⊥)
    → (raw.max_var + 1) * frames ≤ cell_limit
within_limit raw changed width frames h wide fits = elim (cases_lt cell_limit ((raw.max_var + 1) * frames)) [
  | inl over ↦ absurd (fits (
    wide ∙ ap length (sym h.inputs),
    subst (λ (n : ℕ). cell_limit < (n + 1) * frames) (sym h.size) over,
  ))
  | inr le ↦ le
]
