-- A row with 0 in place of x.
use Rattle.std.proofs.Common.{◌≡◌, ◌≢◌, ℕ, suc, List, [], ◌∷◌, length, map, refl, ap}
use Rattle.std.specs.List.{AllZip}
use Rattle.std.proofs.lemmas.List.Elements.{All-nil, All-cons}
use Rattle.aig_parts.specs.declared.raw.Raw.{Raw}
use Rattle.aig_parts.specs.declared.ternary.Tern.{Tern}
use Rattle.aig_parts.specs.declared.ternary.Tern.TheVariants.{Zero, One, X}
use Rattle.aig_base.specs.Completion.{Completes}
use Rattle.aig_base.proofs.values.Refined.{kept}
use Rattle.aig_refute.specs.Models.{AreKnown}
use Rattle.aig_refute.specs.UnrolledWitness.{MakesBad}
use Rattle.aig_unroll.specs.Unrolled.{unrolled}

-- 0 in place of x
abbrev pub settled : Tern → Tern
settled Zero = Zero
settled One = One
settled X = Zero

pub settled_completes : (w : Tern) → Completes w (settled w)
settled_completes Zero = (λ e. (let no : ⊥ = cc in no), λ h. refl)
settled_completes One = (λ e. (let no : ⊥ = cc in no), λ h. refl)
settled_completes X = (λ e. (let no : ⊥ = cc in no), λ h. absurd (h refl))

pub row_completes : (row : List Tern) → AllZip Completes row (map settled row)
row_completes [] = tt
row_completes (w ∷ row) = (settled_completes w, row_completes row)

pub settled_known : (row : List Tern) → AreKnown (map settled row)
settled_known [] = All-nil (λ (w : Tern). w ≢ X)
settled_known (w ∷ row) =
    All-cons (λ (w : Tern). w ≢ X) (settled w) (map settled row) (settled_completes w).0 (settled_known row)

pub length_settled : (row : List Tern) → length (map settled row) ≡ length row
length_settled [] = refl
length_settled (w ∷ row) = ap suc (length_settled row)

-- it still makes the bad literal 1
pub makes_settled : (raw : Raw) (order : List ℕ) (k : ℕ) (row : List Tern) (t p : ℕ) → MakesBad raw order k row t p
    → MakesBad raw order k (map settled row) t p
makes_settled raw order k row t p (g, at, v) =
    (g, at, kept (unrolled raw order k) [] [] (row ∷ []) (map settled row ∷ []) (tt, (row_completes row, tt)) (λ e. (let no : ⊥ = cc in no)) v)
