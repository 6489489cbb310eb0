-- Latches that keep their values.
use Rattle.std.proofs.Common.{◌≡◌, ◌↔◌, inl, inr, ℕ, List, All, length, Some, Bool, true, false, IsTrue, slice_get, sym}
use Rattle.std.proofs.Common.{◌∙◌, subst, rules}
use Rattle.std.specs.Prelude.{nat_eq}
use Rattle.std.specs.Cmp.Lexicographic.{pointwise, same_text}
use Rattle.std.proofs.Math.Bool.{not}
use Rattle.std.proofs.lemmas.Bool.{cases_Bool, eqb-true}
use Rattle.std.proofs.lemmas.List.{nil_from_length}
use denote.Enum.Bare.{sameb, same_true, true_same}
use Rattle.aig_parts.specs.contracts.ternary.Tern.{the_type}
use Rattle.aig_parts.specs.declared.latch.Latch.{Latch}
use Rattle.aig_parts.specs.declared.raw.Raw.{Raw}
use Rattle.aig_parts.specs.declared.ternary.Tern.{Tern}
use Rattle.aig_base.specs.Circuit.{IsCircuit}
use Rattle.aig_base.specs.Value as value
use Rattle.aig_base.proofs.values.UniqueValue.{unique}
use Rattle.aig_causes.specs.Causes.{Has, Moment, Sources}
use Rattle.aig_causes.specs.Explanation.{AreKept, KeepsValue}
use Rattle.aig_causes.proofs.Together.{stepped}

-- a latch keeps its value where its next state has it
pub keeps_by_next : (raw : Raw) → IsCircuit raw → (m : Moment) (p : ℕ) (x : Latch) (a b : Tern)
    → slice_get raw.latches p ≡ Some x → Has raw m x.lit a → Has raw m x.next b → (r : Bool) → r ≡ sameb the_type a b
    → IsTrue r ↔ KeepsValue raw m p
keeps_by_next raw circuit m p x a b at va vb r is = (
  λ t y w here h.
      let same : a ≡ b = same_true the_type (search rules) a b (sym is ∙ t) in
      let one : x ≡ y = cc in
      let w_is : a ≡ w = unique raw m.start m.rows circuit.sound va (subst (λ (z : Latch). Has raw m z.lit w) (sym one) h) in
      let b_is : b ≡ w = cc in
      value.latch_next m.frame p y w here
      (subst (λ (z : Latch). Has raw m z.next w) one (subst (λ (u : Tern). Has raw m x.next u) b_is vb)),
  λ keeps.
      let below = stepped raw circuit m p x a at (keeps x a at va) in
      is ∙ true_same the_type a b (unique raw m.start m.rows circuit.sound below vb),
)

same_of_test : (xs ys : List ℕ) (r : Bool) → r ≡ not (pointwise nat_eq xs ys) → r ≡ false → xs ≡ ys
same_of_test xs ys r is e = same_text xs ys (elim (cases_Bool (pointwise nat_eq xs ys)) [
  | inl t ↦ sym t
  | inr f ↦ let no : ⊥ = cc in absurd no
])

-- what the tests of causes and of values tell
pub kept_by_tests : (raw : Raw) (m : Moment) (latches : List ℕ) (causes : Sources) (none other values : Bool)
    → none ≡ nat_eq (length causes.inputs) 0 → none ≡ true → other ≡ not (pointwise nat_eq causes.latches latches)
    → other ≡ false → IsTrue values ↔ All (KeepsValue raw m) latches → IsTrue values ↔ AreKept raw m latches causes
kept_by_tests raw m latches causes none other values none_is t other_is f keep = (
  λ h. record {
    no_inputs = nil_from_length causes.inputs (eqb-true (length causes.inputs) 0 (sym none_is ∙ t));
    same = same_of_test causes.latches latches other other_is f;
    values = keep.0 h;
  },
  λ h. keep.1 h.values,
)
