-- The text of a clause whose literals were made terms.
use Rattle.std.proofs.Common.{◌≡◌, ℕ, ◌+◌, ◌-◌, ◌/◌, ◌%◌, Bool, true, false, not, inl, inr, List, [], ◌∷◌, ◌++◌, refl}
use Rattle.std.proofs.Common.{sym, ap, ap₂, ◌∙◌}
use Rattle.std.proofs.Common.{append_assoc, arith}
use Rattle.std.specs.Prelude.{decimal}
use Rattle.aig_parts.specs.Literal.{negation}
use Rattle.aig_bytes.specs.Term.{term_text}
use Rattle.aig_cnf.specs.Dimacs.{literal_text, clause_text}
use Rattle.aig_cnf.specs.state.Terms.{literal_term}
use Rattle.aig_cnf.proofs.SignLemmas.{signs}

term_is : (l : ℕ) → term_text (literal_term l) ≡ literal_text l
unfolding literal_text
term_is l = elim (signs l) [
  | inl even ↦ rw even refl
  | inr odd ↦ rw odd refl
]

-- the term of a negated literal
negated_term : (l : ℕ) → (not (literal_term l).0, (literal_term l).1) ≡ literal_term (negation l)
negated_term l = elim (signs l) [
  | inl even ↦
      let next : (l + 1) % 2 ≡ 1 = omega (arith, even) in
      let same : (l + 1) / 2 ≡ l / 2 = omega (arith, even) in
      rw (even, next) (ap (λ (v : ℕ). (true, decimal (v + 1))) (sym same))
  | inr odd ↦
      let next : (l - 1) % 2 ≡ 0 = omega (arith, odd) in
      let same : (l - 1) / 2 ≡ l / 2 = omega (arith, odd) in
      rw (odd, next) (ap (λ (v : ℕ). (false, decimal (v + 1))) (sym same))
]

pub opposite : (l : ℕ) (s t : Bool × List ℕ) → s ≡ literal_term l → t ≡ (not s.0, s.1) → t ≡ literal_term (negation l)
opposite l s t e f = f ∙ ap (λ (x : Bool × List ℕ). (not x.0, x.1)) e ∙ negated_term l

pub pair_clause : (a b : ℕ) (s t : Bool × List ℕ) → s ≡ literal_term a → t ≡ literal_term b
    → term_text s ++ (term_text t ++ 48 ∷ 10 ∷ []) ≡ clause_text (a ∷ b ∷ [])
unfolding clause_text
pair_clause a b s t e f =
    let end : List ℕ = 48 ∷ 10 ∷ [] in
    ap₂ (λ (x y : List ℕ). x ++ (y ++ end)) (ap term_text e ∙ term_is a) (ap term_text f ∙ term_is b)
    ∙ sym (append_assoc (literal_text a) (literal_text b ++ []) end
    ∙ ap (λ (xs : List ℕ). literal_text a ++ xs) (append_assoc (literal_text b) [] end))

pub triple_clause : (a b d : ℕ) (s t u : Bool × List ℕ) → s ≡ literal_term a → t ≡ literal_term b → u ≡ literal_term d
    → term_text s ++ (term_text t ++ (term_text u ++ 48 ∷ 10 ∷ [])) ≡ clause_text (a ∷ b ∷ d ∷ [])
unfolding clause_text
triple_clause a b d s t u e f h =
    let end : List ℕ = 48 ∷ 10 ∷ [] in
    ap₂ (λ (x y : List ℕ). x ++ y) (ap term_text e ∙ term_is a)
    (ap₂ (λ (x y : List ℕ). x ++ (y ++ end)) (ap term_text f ∙ term_is b) (ap term_text h ∙ term_is d))
    ∙ sym (append_assoc (literal_text a) (literal_text b ++ (literal_text d ++ [])) end
    ∙ ap (λ (xs : List ℕ). literal_text a ++ xs) (append_assoc (literal_text b) (literal_text d ++ []) end
    ∙ ap (λ (xs : List ℕ). literal_text b ++ xs) (append_assoc (literal_text d) [] end)))
