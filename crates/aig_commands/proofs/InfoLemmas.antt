-- What is reported of a circuit file.
use Rattle.std.proofs.Common.{◌≡◌, ◌≢◌, ℕ, List, Result, Err, refl, ap}
use Rattle.std.specs.Prelude.{Option, None, Some, IfSome}
use Rattle.aig_parts.specs.declared.fault.Fault.{Fault}
use Rattle.aig_parts.specs.declared.fault.Fault.TheVariants as circuits
use Rattle.aig_parts.specs.declared.raw.Raw.{Raw}

-- what holds of the bytes that a reader holds, where it says which
pub by_known : (left : Option (List ℕ)) {P : List ℕ → Type 0} → ((bytes : List ℕ) → left ≡ Some bytes → P bytes) → IfSome left P
by_known None h = tt
by_known (Some bytes) h = h bytes refl

-- a fault that is not of a read is not, whatever was to be read
pub no_read : {X : Type 0} (fault : Fault) → ◌≢◌ {A = Result Raw Fault} (Err fault) (Err circuits.Io)
    → ◌≢◌ {A = Result X Fault} (Err fault) (Err circuits.Io)
no_read fault other is = other (let e : fault ≡ circuits.Io = cc in ap (λ (f : Fault). Err f) e)
