-- What is said of a result or an option whose variant is not known.
use Rattle.std.proofs.Common.{◌≡◌, Option, Some, None, IfNone, refl, sym, subst}
use Rattle.std.specs.Prelude.{Result, Ok, Err, IfErr, OnOk, OnErr, IsErrAnd}

-- what holds anyway
pub on_ok : {T E P : Type 0} (r : Result T E) → P → OnOk r P
on_ok (Ok x) p = p
on_ok (Err e) p = tt

pub on_err : {T E P : Type 0} (r : Result T E) → P → OnErr r P
on_err (Ok x) p = tt
on_err (Err e) p = p

pub on_none : {T P : Type 0} (o : Option T) → P → IfNone o P
on_none None p = p
on_none (Some x) p = tt

-- what follows from it
pub none_then : {T P Q : Type 0} (o : Option T) → (P → Q) → IfNone o P → IfNone o Q
none_then None f h = f h
none_then (Some x) f h = tt

-- an option that has no value
pub has_none : {T : Type 0} (o : Option T) → ((x : T) → o ≡ Some x → ⊥) → o ≡ None
has_none None never = refl
has_none (Some x) never = absurd (never x refl)

-- an error that is known
pub known_err : {T E : Type 0} (r : Result T E) (e : E) (P : E → Type 0) → IsErrAnd r (λ f. f ≡ e) → P e → IfErr r P
known_err (Ok x) e P h p = tt
known_err (Err f) e P h p = subst P (sym h) p
