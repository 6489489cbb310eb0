-- What a fault says of a result.
use Rattle.std.proofs.Common.{◌≡◌, ◌≢◌, Result, Ok, Err, ◌∙◌, refl}
use Rattle.std.specs.Prelude.{IsErrAnd}
use Rattle.aig_bench.specs.declared.edit.EditFault.{EditFault}
use Rattle.aig_bench.specs.declared.edit.EditFault.TheVariants as faults
use Rattle.aig_bench.specs.BenchState.{CircuitAndRows}
use Rattle.aig_prompt.specs.declared.value.ValueFault.{ValueFault}
use Rattle.aig_prompt.specs.declared.value.ValueFault.TheVariants as values
use Rattle.aig_shell.specs.declared.refusal.Refusal.{Refusal}
use Rattle.aig_shell.specs.declared.refusal.Refusal.TheVariants as refusals
use Rattle.aig_shell.specs.Edits.{EndsEdit, IsImpossible}
use Rattle.aig_shell.specs.Request.{Request}

pub ends_err : {A : Type 0} (p q : CircuitAndRows) (r : Request) (result : Result A Refusal) (refusal : Refusal)
    → IsErrAnd result (λ e. e ≡ refusal) → (refusal ≢ refusals.Memory → IsImpossible p r) → q ≡ p → EndsEdit p r result q
ends_err p q r (Ok x) refusal is none same = absurd is
ends_err p q r (Err e) refusal is none same = (λ other. none (λ m. other (is ∙ m)), same)

pub ends_fault : {A : Type 0} (p q : CircuitAndRows) (r : Request) (result : Result A Refusal) (fault : EditFault)
    → IsErrAnd result (λ e. fault ≡ faults.Memory → e ≡ refusals.Memory) → (fault ≢ faults.Memory → IsImpossible p r) → q ≡ p
    → EndsEdit p r result q
ends_fault p q r (Ok x) fault is none same = absurd is
ends_fault p q r (Err e) fault is none same = (λ other. none (λ m. other (is m)), same)

pub not_malformed : (f : ValueFault) → f ≡ values.Malformed → f ≡ values.Memory → ⊥
not_malformed f a b = cc

pub not_other_width : (f : ValueFault) → f ≡ values.OtherWidth → f ≡ values.Memory → ⊥
not_other_width f a b = cc

pub not_wide : (f : ValueFault) → f ≡ values.Wide → f ≡ values.Memory → ⊥
not_wide f a b = cc
