-- What is named so far.
use Rattle.std.proofs.Common.{◌≡◌, ◌≢◌, ℕ, zero, suc, ◌+◌, ◌<◌, List, [], ◌∷◌, ◌++◌, length, map, set, take, replicate}
use Rattle.std.proofs.Common.{get_or, Contains, Option, None, Some, slice_get, inl, inr, refl, sym, ap, ◌∙◌, subst}
use Rattle.std.proofs.Common.{arith}
use Rattle.std.proofs.lemmas.Bool.{cases_eq}
use Rattle.std.proofs.lemmas.List.{length-replicate, length-set, take_more}
use Rattle.std.proofs.lemmas.List.Elements.{Contains-append_left, Contains-push, Contains-push_cases}
use Rattle.std.proofs.lemmas.Option.{slice_get_within}
use Rattle.aig_parts.specs.declared.latch.Latch.{Latch}
use Rattle.aig_parts.specs.declared.raw.Raw.{Raw}
use Rattle.aig_parts.specs.declared.ternary.Tern.{Tern}
use Rattle.aig_base.specs.Sound.{IsSound}
use Rattle.aig_base.proofs.lists.Gets.{same_element, slice_get-set_other, slice_get-set_same}
use Rattle.aig_base.proofs.values.UniqueValue.{unique}
use Rattle.aig_causes.specs.Causes.{Has, Moment}
use Rattle.aig_why.specs.Lines.{AreBits, AreNamed}

all_none : {A : Type 0} (n p : ℕ) → p < n → slice_get (replicate {A = Option A} n None) p ≡ Some None
all_none zero p lt = absurd (omega (arith, lt))
all_none (suc n) zero lt = refl
all_none (suc n) (suc p) lt = all_none n p (omega (arith, lt))

nothing : (p : ℕ) → Contains [] p → ⊥
nothing p h = omega (arith, h.1)

-- no position
pub named_none : (raw : Raw) (m : Moment) (literals : List ℕ) (values : List (Option Tern))
    → values ≡ replicate (length literals) None → AreNamed raw m literals [] values
named_none raw m literals values is = record {
  size = ap length is ∙ length-replicate (length literals) None;
  named = λ p l w has at v. absurd (nothing p has);
  others = λ p lt no. ap (λ (xs : List (Option Tern)). slice_get xs p) is ∙ all_none (length literals) p lt;
}

-- one position more
pub named_push : (raw : Raw) → IsSound raw → (m : Moment) (literals positions : List ℕ) (values : List (Option Tern)) (p l : ℕ) (w : Tern)
    → AreNamed raw m literals positions values → slice_get literals p ≡ Some l → Has raw m l w
    → AreNamed raw m literals (positions ++ p ∷ []) (set values p (Some w))
named_push raw s m literals positions values p l w h at v = record {
  size = length-set values p (Some w) ∙ h.size;
  named = λ q k u has here is. elim (cases_eq q p) [
    | inl e ↦
        let one : l ≡ k =
        same_element literals p l k at (subst (λ (j : ℕ). slice_get literals j ≡ Some k) e here) in
        let same : w ≡ u =
        unique raw m.start m.rows s v (subst (λ (j : ℕ). Has raw m j u) (sym one) is) in
        ap (slice_get (set values p (Some w))) e ∙ slice_get-set_same values p (Some w) there ∙ ap (λ (x : Tern). Some (Some x)) same
    | inr other ↦
        let before : Contains positions q = elim (Contains-push_cases positions p q has) [
          | inl earlier ↦ earlier
          | inr is_p ↦ absurd (other (sym is_p))
        ] in
        slice_get-set_other values p q (Some w) other ∙ h.named q k u before here is
  ];
  others = λ q lt no.
      let other : q ≢ p = λ e. no (subst (λ (j : ℕ). Contains (positions ++ p ∷ []) j) (sym e) (Contains-push positions p)) in
      slice_get-set_other values p q (Some w) other
      ∙ h.others q lt (λ yes. no (Contains-append_left positions (p ∷ []) q yes));
}
  where
    there : p < length values
    there = omega (arith, h.size, slice_get_within literals p l at)

-- the next position of a list
pub named_more : (raw : Raw) → IsSound raw → (m : Moment) (literals positions : List ℕ) (values new : List (Option Tern)) (k l : ℕ)
    (w : Tern) → k < length positions → AreNamed raw m literals (take k positions) values
    → slice_get literals (get_or positions k 0) ≡ Some l → Has raw m l w
    → new ≡ set values (get_or positions k 0) (Some w) → AreNamed raw m literals (take (k + 1) positions) new
named_more raw s m literals positions values new k l w lt h at v is =
    subst (λ (ps : List ℕ). AreNamed raw m literals ps new) (sym (take_more positions k 0 lt))
    (subst (AreNamed raw m literals (take k positions ++ get_or positions k 0 ∷ [])) (sym is)
    (named_push raw s m literals (take k positions) values (get_or positions k 0) l w h at v))

-- the literal of a latch
pub latch_literal : (xs : List Latch) (p : ℕ) (x : Latch) → slice_get xs p ≡ Some x → slice_get (map (λ x. x.lit) xs) p ≡ Some x.lit
latch_literal [] p x at = let no : ⊥ = cc in absurd no
latch_literal (y ∷ xs) zero x at = let e : y ≡ x = cc in ap (λ (z : Latch). Some z.lit) e
latch_literal (y ∷ xs) (suc p) x at = latch_literal xs p x at

-- one value more
bits_push : (raw : Raw) (m : Moment) (literals : List ℕ) (bits : List (Option Tern)) (l : ℕ) (w : Tern) → AreBits raw m literals bits
    → Has raw m l w → AreBits raw m (literals ++ l ∷ []) (bits ++ Some w ∷ [])
bits_push raw m [] [] l w h v = ((w, refl, v), tt)
bits_push raw m [] (b ∷ bits) l w h v = absurd h
bits_push raw m (k ∷ literals) [] l w h v = absurd h
bits_push raw m (k ∷ literals) (b ∷ bits) l w h v = (h.0, bits_push raw m literals bits l w h.1 v)

pub bits_more : (raw : Raw) (m : Moment) (literals : List ℕ) (bits new : List (Option Tern)) (k : ℕ) (w : Tern) → k < length literals
    → AreBits raw m (take k literals) bits → Has raw m (get_or literals k 0) w → new ≡ bits ++ Some w ∷ []
    → AreBits raw m (take (k + 1) literals) new
bits_more raw m literals bits new k w lt h v is =
    subst (λ (ls : List ℕ). AreBits raw m ls new) (sym (take_more literals k 0 lt))
    (subst (AreBits raw m (take k literals ++ get_or literals k 0 ∷ [])) (sym is)
    (bits_push raw m (take k literals) bits (get_or literals k 0) w h v))
