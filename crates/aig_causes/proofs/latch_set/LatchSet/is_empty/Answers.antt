use Rattle.std.proofs.Common.{ℕ, List, Bool, Contains, Decides, IsTrue, ◌↔◌, true, false, refl, subst}
use Rattle.std.proofs.Math.Bool.{beq, not}
use Rattle.std.proofs.lemmas.Bool.{false≢true}
use Rattle.std.proofs.lemmas.List.Elements.{Decides-contains, contains_decides}
use Rattle.std.specs.Cmp.{booleans_Decides}
use Rattle.aig_base.proofs.lists.Gets.{Contains-from_get, get_from_Contains}
use Rattle.aig_causes.specs.Explanation.{IsNamed}
use Rattle.aig_causes.proofs.latch_set.LatchSet.is_empty.Goals as goal

none_named : (r : Bool) (flags : List Bool) → Decides r (Contains flags true) → IsTrue (not r) ↔ ((p : ℕ) → IsNamed flags p → ⊥)
none_named true flags h = (
  λ no p at. absurd (false≢true no),
  λ none. let (k, at) = get_from_Contains flags true (h.0 refl) in absurd (none k at),
)
none_named false flags h = (λ _ p at. false≢true (h.1 (Contains-from_get flags p true at)), λ _. refl)

pub returns : goal.returns
returns c =
    subst (λ (flags : List Bool). IsTrue (not c.contains.result) ↔ ((p : ℕ) → IsNamed flags p → ⊥)) c.deref.ensures.value
    (none_named c.contains.result c.deref.result.now
    (Decides-contains c.deref.result.now true c.contains.result
    (contains_decides beq booleans_Decides c.deref.result.now true c.contains.result c.contains.ensures.cases)))
