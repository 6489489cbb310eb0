-- Symbols written one by one.
use Rattle.std.proofs.Common.{◌≡◌, ℕ, List, [], ◌∷◌, ◌++◌, Ok, Err, IsErr, Result, refl, sym, ap, ◌∙◌, append_assoc}
use Rattle.std.specs.Prelude.{Option}
use Rattle.std.specs.List.{flat_map}
use Rattle.std.proofs.lemmas.List.{append-nil}
use Rattle.std.proofs.lemmas.List.Concat.{flat_map-append}
use Rattle.aig_bytes.specs.Gathered.{Gathers}
use Rattle.aig_bytes.proofs.GatherLemmas.{gathers_then, gathers_stop, gathers_failed, gathers_same, gathers_none}

-- the items in front were written, and the others are left
pub record Front {Y X : Type 0} (written : X → Option (List ℕ)) (failures : X → ℕ) (f : Y → List ℕ) (old new : X) (held held' : List ℕ)
    (all left : List Y) : Type 0 where
  pub front : List Y
  pub split : all ≡ front ++ left
  pub gathers : Gathers {T = Unit {0}} {E = Unit {0}} written failures old new held held' (flat_map f front) (Ok tt)

module _ {Y X : Type 0} {written : X → Option (List ℕ)} {failures : X → ℕ} {f : Y → List ℕ} where
  pub front_more : {T E : Type 0} {old mid new : X} {held held' held'' : List ℕ} {all left left' : List Y} {x : T} (y : Y)
      → Front written failures f old mid held held' all left → left ≡ y ∷ left' → Gathers {E = E} written failures mid new held' held'' (f y) (Ok x)
      → Front written failures f old new held held'' all left'
  front_more {left'} y p e g =
      let w = gathers_then p.gathers g in
      record {
        front = p.front ++ y ∷ [];
        split = p.split ∙ ap (λ (ys : List Y). p.front ++ ys) e ∙ sym (append_assoc p.front (y ∷ []) left');
        gathers = gathers_same (record { forwarded = w.forwarded; wrote = w.wrote; ok = w.ok; err = tt; count = w.count })
            (ap (λ (bs : List ℕ). flat_map f p.front ++ bs) (sym (append-nil (f y))) ∙ sym (flat_map-append f p.front (y ∷ [])));
      }

  pub front_stops : {T E S F : Type 0} {old mid new : X} {held held' held'' held''' : List ℕ} {all left left' : List Y} {e : E} {s : Result S F} (y : Y)
      → Front written failures f old mid held held' all left → left ≡ y ∷ left' → Gathers {T = T} written failures mid new held' held'' (f y) (Err e) → IsErr s
      → Gathers written failures old new held held''' (flat_map f all) s
  front_stops {left'} y p e g h =
      gathers_same (gathers_then p.gathers (gathers_stop (flat_map f left') h (gathers_failed g h)))
      (sym (flat_map-append f p.front (y ∷ left')) ∙ ap (flat_map f) (ap (λ (ys : List Y). p.front ++ ys) (sym e) ∙ sym p.split))
