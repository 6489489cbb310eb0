-- The gates that AND the negations of literals.
use Rattle.std.proofs.Common.{◌≡◌, ℕ, ◌+◌, ◌*◌, ◌<◌, List, [], ◌∷◌, ◌++◌, length, get_or, drop, refl, sym, ap, ◌∙◌}
use Rattle.std.proofs.Common.{append_assoc}
use Rattle.std.proofs.lemmas.List.{append-nil, drop_more}
use Rattle.aig_parts.specs.declared.gate.Gate.{Gate}
use Rattle.aig_parts.specs.Literal.{negation}
use Rattle.aig_base.specs.Renumbered.{ready_gate}
use Rattle.aig_certificate.specs.Strengthened.{chain, chain_end}

-- the gates so far and those of the literals that are left
pub record Linked (first start : ℕ) (literals : List ℕ) (i v l : ℕ) (old gates : List Gate) : Type 0 where
  pub gates_are : gates ++ chain v l (drop i literals) ≡ old ++ chain first start literals
  pub end_is : chain_end v l (drop i literals) ≡ chain_end first start literals

module _ (first start : ℕ) (literals : List ℕ) (old : List Gate) where
  pub link_start : (v l : ℕ) (gates : List Gate) → v ≡ first → l ≡ start → gates ≡ old
      → Linked first start literals 0 v l old gates
  link_start v l gates e f g = rw (e, f, g) (record { gates_are = refl; end_is = refl })

  pub link_more : (i v l x gate : ℕ) (gates gates' : List Gate) (g : Gate) → i < length literals → x ≡ get_or literals i 0
      → gate ≡ 2 * v → g ≡ ready_gate gate (negation x) l → gates' ≡ gates ++ g ∷ []
      → Linked first start literals i v l old gates → Linked first start literals (i + 1) (v + 1) gate old gates'
  unfolding chain chain_end
  link_more i v l x gate gates gates' g lt is at made more h =
      let left : drop i literals ≡ x ∷ drop (i + 1) literals =
      drop_more literals i 0 lt ∙ ap (λ y. y ∷ drop (i + 1) literals) (sym is) in
      let same : g ≡ ready_gate (2 * v) (negation x) l = made ∙ ap (λ n. ready_gate n (negation x) l) at in
      record {
        gates_are =
            ap (λ (gs : List Gate). gs ++ chain (v + 1) gate (drop (i + 1) literals)) more
            ∙ append_assoc gates (g ∷ []) (chain (v + 1) gate (drop (i + 1) literals))
            ∙ ap (λ (u : Gate). gates ++ u ∷ chain (v + 1) gate (drop (i + 1) literals)) same
            ∙ ap (λ n. gates ++ ready_gate (2 * v) (negation x) l ∷ chain (v + 1) n (drop (i + 1) literals)) at
            ∙ ap (λ (xs : List ℕ). gates ++ chain v l xs) (sym left) ∙ h.gates_are;
        end_is = ap (λ n. chain_end (v + 1) n (drop (i + 1) literals)) at
            ∙ ap (λ (xs : List ℕ). chain_end v l xs) (sym left) ∙ h.end_is;
      }

  pub link_all : (i v l : ℕ) (gates : List Gate) → drop i literals ≡ [] → Linked first start literals i v l old gates
      → (gates ≡ old ++ chain first start literals) × (l ≡ chain_end first start literals)
  unfolding chain chain_end
  link_all i v l gates none h = (
    sym (append-nil gates) ∙ ap (λ (xs : List ℕ). gates ++ chain v l xs) (sym none) ∙ h.gates_are,
    ap (λ (xs : List ℕ). chain_end v l xs) (sym none) ∙ h.end_is,
  )
