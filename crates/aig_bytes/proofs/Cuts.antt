-- How a list is cut at a separator: in one way, if none stands in front.
use Rattle.std.proofs.Common.{◌≡◌, ◌≢◌, ℕ, List, [], ◌∷◌, ◌++◌, All, refl, sym, ap, ◌∙◌, subst}
use Rattle.std.proofs.lemmas.List.Elements.{All-head, All-tail}

pub split_at : (P : ℕ → Type 0) (a c b d : List ℕ) (x y : ℕ) → All (λ z. P z → ⊥) a → All (λ z. P z → ⊥) c → P x → P y
    → a ++ x ∷ b ≡ c ++ y ∷ d → (a ≡ c) × (x ∷ b ≡ y ∷ d)
split_at P [] [] b d x y p q s t e = (refl, e)
split_at P [] (z ∷ c) b d x y p q s t e =
    let is : x ≡ z = cc in absurd (All-head (λ z. P z → ⊥) z c q (subst P is s))
split_at P (z ∷ a) [] b d x y p q s t e =
    let is : y ≡ z = cc in absurd (All-head (λ z. P z → ⊥) z a p (subst P is t))
split_at P (z ∷ a) (u ∷ c) b d x y p q s t e =
    let same : z ≡ u = cc in
    let more : a ++ x ∷ b ≡ c ++ y ∷ d = cc in
    let r = split_at P a c b d x y (All-tail (λ z. P z → ⊥) z a p) (All-tail (λ z. P z → ⊥) u c q) s t more in
    (ap (λ (v : ℕ). v ∷ a) same ∙ ap (λ (vs : List ℕ). u ∷ vs) r.0, r.1)

-- one separator
pub split_once : (s : ℕ) (a b m n : List ℕ) → All (λ x. x ≢ s) a → All (λ x. x ≢ s) b → a ++ s ∷ m ≡ b ++ s ∷ n
    → (a ≡ b) × (m ≡ n)
split_once s a b m n p q e =
    let r = split_at (λ x. x ≡ s) a b m n s s p q refl refl e in
    let rest : s ∷ m ≡ s ∷ n = r.1 in
    (r.0, cc)

pub no_split : (s : ℕ) (a b m : List ℕ) → All (λ x. x ≢ s) b → a ++ s ∷ m ≡ b → ⊥
no_split s [] [] m q e = cc
no_split s [] (y ∷ b) m q e = let is : s ≡ y = cc in All-head (λ x. x ≢ s) y b q (sym is)
no_split s (x ∷ a) [] m q e = cc
no_split s (x ∷ a) (y ∷ b) m q e =
    let more : a ++ s ∷ m ≡ b = cc in no_split s a b m (All-tail (λ x. x ≢ s) y b q) more
