-- Bytes that are read one piece after another.
use Rattle.std.proofs.Common.{◌≡◌, ℕ, List, ◌++◌, ap, sym, ◌∙◌, append_assoc}

pub join2 : (t a r b s : List ℕ) → t ≡ a ++ r → r ≡ b ++ s → t ≡ (a ++ b) ++ s
join2 t a r b s p q = p ∙ ap (λ (x : List ℕ). a ++ x) q ∙ sym (append_assoc a b s)

-- the end
pub join_end : (t a r s : List ℕ) → t ≡ a ++ r → r ≡ s → t ≡ a ++ s
join_end t a r s p q = p ∙ ap (λ (x : List ℕ). a ++ x) q

pub apart3 : (a b c r : List ℕ) → (a ++ b ++ c) ++ r ≡ a ++ (b ++ (c ++ r))
apart3 a b c r = append_assoc (a ++ b) c r ∙ append_assoc a b (c ++ r)

pub apart5 : (a b c d e r : List ℕ) → (a ++ b ++ c ++ d ++ e) ++ r ≡ a ++ (b ++ (c ++ (d ++ (e ++ r))))
apart5 a b c d e r = append_assoc (a ++ b ++ c ++ d) e r ∙ append_assoc (a ++ b ++ c) d (e ++ r)
    ∙ apart3 a b c (d ++ (e ++ r))

pub apart6 : (a b c d e f r : List ℕ) → (a ++ b ++ c ++ d ++ e ++ f) ++ r ≡ a ++ (b ++ (c ++ (d ++ (e ++ (f ++ r)))))
apart6 a b c d e f r = append_assoc (a ++ b ++ c ++ d ++ e) f r ∙ apart5 a b c d e (f ++ r)

pub apart7 : (a b c d e f g r : List ℕ) → (a ++ b ++ c ++ d ++ e ++ f ++ g) ++ r
    ≡ a ++ (b ++ (c ++ (d ++ (e ++ (f ++ (g ++ r))))))
apart7 a b c d e f g r = append_assoc (a ++ b ++ c ++ d ++ e ++ f) g r ∙ apart6 a b c d e f (g ++ r)
