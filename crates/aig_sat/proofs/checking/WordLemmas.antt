-- Words of clauses that are written or added.
use Rattle.std.proofs.Common.{◌≡◌, ◌≢◌, ◌⊎◌, inl, inr, ℕ, ◌+◌, ◌<◌, ◌∙◌, List, length, get_or, set}
use Rattle.std.proofs.Common.{refl, sym, ap, subst, arith}
use Rattle.std.proofs.lemmas.Bool.{cases_eq, cases_lt}
use Rattle.std.proofs.lemmas.List.{length-set, get_or-set_same, get_or-set_other}
use Rattle.aig_sat.specs.checker.Clause.{is_true}
use Rattle.aig_sat.specs.checker.Words.{HasLiteral, IsLaidOut, KeepsMet, Shrinks, StandsAt, literal_at, size_at}

-- what met the first ones meets the second ones
pub met_then : (old new : List ℕ) → Shrinks old new → KeepsMet old new
met_then old new s values met p stands =
    let e : get_or new p 0 ≡ get_or old p 0 = s.heads p stands in
    let (k, k_in, k_true) = met p (omega (arith, e, stands)) in
    let (j, j_in, is) = s.kept p k stands (omega (arith, e, k_in)) in
    (j, j_in, ap (is_true values) is ∙ k_true)

-- the literals are where they were
pub same_shrinks : (old new : List ℕ) → ((p : ℕ) → StandsAt new p → get_or new p 0 ≡ get_or old p 0)
    → ((p k : ℕ) → StandsAt new p → k < size_at new p → literal_at new p k ≡ literal_at old p k) → Shrinks old new
same_shrinks old new heads same = record {
  heads = heads;
  kept = λ p k s inside. (k, inside, same p k s inside);
  had = λ p k s inside. (k, (let e : get_or new p 0 ≡ get_or old p 0 = heads p s in omega (arith, e, inside)), sym (same p k s inside));
}

-- words one after the other
pub shrinks_none : (words : List ℕ) → Shrinks words words
shrinks_none words = same_shrinks words words (λ p s. refl) (λ p k s inside. refl)

pub shrinks_then : (old mid new : List ℕ) → Shrinks old mid → Shrinks mid new → Shrinks old new
shrinks_then old mid new first second = record {
  heads = λ p s. second.heads p s ∙ first.heads p (stood p s);
  kept = λ p k s inside.
      let e : get_or new p 0 ≡ get_or mid p 0 = second.heads p s in
      let (j, j_in, j_is) = first.kept p k (stood p s) (omega (arith, e, inside)) in
      let (i, i_in, i_is) = second.kept p j s (omega (arith, e, j_in)) in
      (i, i_in, i_is ∙ j_is);
  had = λ p k s inside.
      let (j, j_in, j_is) = second.had p k s inside in
      let (i, i_in, i_is) = first.had p j (stood p s) j_in in
      (i, i_in, i_is ∙ j_is);
}
  where
    stood : (p : ℕ) → StandsAt new p → StandsAt mid p
    stood p s = let e : get_or new p 0 ≡ get_or mid p 0 = second.heads p s in omega (arith, e, s)

-- ---- words of one clause that change

-- only words of the clause at p after its first one change, and none of them becomes the first one of a clause
pub record ChangesAt (old new : List ℕ) (p : ℕ) : Type 0 where
  pub stands : StandsAt old p
  pub len : length new ≡ length old
  pub words : (q : ℕ) → (get_or new q 0 ≡ get_or old q 0)
      ⊎ ((p < q) × (q < p + (3 + size_at old p)) × (get_or new q 0 < 0x8000_0000))

changed_heads : (old new : List ℕ) (p : ℕ) → ChangesAt old new p → (q : ℕ) → StandsAt new q
    → get_or new q 0 ≡ get_or old q 0
changed_heads old new p c q stands = elim (c.words q) [
  | inl e ↦ e
  | inr w ↦ absurd (omega (arith, w.2, stands))
]

-- a word of another clause
changed_other : (old new : List ℕ) (p : ℕ) → IsLaidOut old → ChangesAt old new p → (r q : ℕ) → r ≢ p → StandsAt old r
    → r < q → q < r + (3 + size_at old r) → get_or new q 0 ≡ get_or old q 0
changed_other old new p laid c r q ne stands from to = elim (c.words q) [
  | inl e ↦ e
  | inr w ↦ elim (cases_lt r p) [
    | inl before ↦ absurd (omega (arith, c.stands, (laid r stands).1 p before (omega (arith, w.0, to))))
    | inr after ↦ absurd (omega (arith, stands, (laid p c.stands).1 r (omega (arith, ne, after)) (omega (arith, from, w.1))))
  ]
]

changes_none : (words : List ℕ) (p : ℕ) → StandsAt words p → ChangesAt words words p
changes_none words p stands = record { stands = stands; len = refl; words = λ q. inl refl }

-- one more word of the clause
write_changes : (old mid : List ℕ) (p i x : ℕ) → IsLaidOut old → ChangesAt old mid p → p < i
    → i < p + (3 + size_at old p) → x < 0x8000_0000 → ChangesAt old (set mid i x) p
write_changes old mid p i x laid c from to small = record {
  stands = c.stands;
  len = length-set mid i x ∙ c.len;
  words = λ q. elim (cases_eq q i) [
    | inl e ↦
        let inside : i < length mid = omega (arith, to, c.len, (laid p c.stands).0) in
        let now : get_or (set mid i x) q 0 ≡ x = ap (λ j. get_or (set mid i x) j 0) e ∙ get_or-set_same mid i x 0 inside in
        inr (omega (arith, e, from), omega (arith, e, to), omega (arith, now, small))
    | inr ne ↦
        let same : get_or (set mid i x) q 0 ≡ get_or mid q 0 = get_or-set_other mid i q x 0 ne in
        elim (c.words q) [
          | inl e ↦ inl (same ∙ e)
          | inr w ↦ inr (w.0, w.1, omega (arith, same, w.2))
        ]
  ];
}

-- the clause keeps its literals
pub changed_shrinks : (old new : List ℕ) (p : ℕ) → IsLaidOut old → ChangesAt old new p
    → ((k : ℕ) → k < size_at old p → HasLiteral new p (literal_at old p k))
    → ((k : ℕ) → k < size_at old p → HasLiteral old p (literal_at new p k)) → Shrinks old new
changed_shrinks old new p laid c kept had = record {
  heads = changed_heads old new p c;
  kept = λ r k now inside.
      let e : get_or new r 0 ≡ get_or old r 0 = changed_heads old new p c r now in
      elim (cases_eq r p) [
        | inl at ↦ subst (λ (x : ℕ). HasLiteral new x (literal_at old x k)) (sym at)
            (kept k (let h : get_or new p 0 ≡ get_or old p 0 = subst (λ (x : ℕ). get_or new x 0 ≡ get_or old x 0) at e in
            let i : k < size_at new p = subst (λ (x : ℕ). k < size_at new x) at inside in omega (arith, h, i)))
        | inr ne ↦ (k, inside, changed_other old new p laid c r (r + (3 + k)) ne (omega (arith, e, now)) (omega arith) (omega (arith, e, inside)))
      ];
  had = λ r k now inside.
      let e : get_or new r 0 ≡ get_or old r 0 = changed_heads old new p c r now in
      elim (cases_eq r p) [
        | inl at ↦ subst (λ (x : ℕ). HasLiteral old x (literal_at new x k)) (sym at)
            (had k (let h : get_or new p 0 ≡ get_or old p 0 = subst (λ (x : ℕ). get_or new x 0 ≡ get_or old x 0) at e in
            let i : k < size_at new p = subst (λ (x : ℕ). k < size_at new x) at inside in omega (arith, h, i)))
        | inr ne ↦ (
          k,
          omega (arith, e, inside),
          sym (changed_other old new p laid c r (r + (3 + k)) ne (omega (arith, e, now)) (omega arith) (omega (arith, e, inside))),
        )
      ];
}

-- a word before the literals is written
pub write_shrinks : (words : List ℕ) (p i x : ℕ) → IsLaidOut words → StandsAt words p → p < i → i < p + 3
    → x < 0x8000_0000 → Shrinks words (set words i x)
write_shrinks words p i x laid stands from to small =
    let same : (k : ℕ) → get_or (set words i x) (p + (3 + k)) 0 ≡ get_or words (p + (3 + k)) 0 =
    λ k. get_or-set_other words i (p + (3 + k)) x 0 (omega (arith, to)) in
    changed_shrinks words (set words i x) p laid
    (write_changes words words p i x laid (changes_none words p stands) from (omega (arith, to)) small)
    (λ k inside. (
      k,
      (let e : get_or (set words i x) p 0 ≡ get_or words p 0 = get_or-set_other words i p x 0 (omega (arith, from)) in
          omega (arith, e, inside)),
      same k,
    ))
    (λ k inside. (k, inside, sym (same k)))

-- ---- two literals of a clause that are exchanged, and a word before the literals that is written

abbrev exchanged : List ℕ → ℕ → ℕ → ℕ → ℕ → ℕ → ℕ → List ℕ
exchanged words p a b x y v = set (set (set words (p + (3 + a)) y) (p + (3 + b)) x) (p + 2) v

-- x and y are the literals a and b
pub record Exchanges (words : List ℕ) (p a b x y v : ℕ) : Type 0 where
  pub laid : IsLaidOut words
  pub first : a < size_at words p
  pub second : b < size_at words p
  pub is_first : x ≡ literal_at words p a
  pub is_second : y ≡ literal_at words p b
  pub small : v < 0x8000_0000

module _ (words : List ℕ) (p a b x y v : ℕ) (e : Exchanges words p a b x y v) where
  stands : StandsAt words p
  stands = omega (arith, e.first)

  literal_small : (k : ℕ) → k < size_at words p → literal_at words p k < 0x8000_0000
  literal_small k inside = (e.laid p stands).1 (p + (3 + k)) (omega arith) (omega (arith, inside))

  exchanged_changes : ChangesAt words (exchanged words p a b x y v) p
  exchanged_changes =
      write_changes words (set (set words (p + (3 + a)) y) (p + (3 + b)) x) p (p + 2) v e.laid
      (write_changes words (set words (p + (3 + a)) y) p (p + (3 + b)) x e.laid
      (write_changes words words p (p + (3 + a)) y e.laid (changes_none words p stands) (omega arith) (omega (arith, e.first))
      (omega (arith, e.is_second, literal_small b e.second)))
      (omega arith) (omega (arith, e.second)) (omega (arith, e.is_first, literal_small a e.first)))
      (omega arith) (omega arith) e.small

  head_same : get_or (exchanged words p a b x y v) p 0 ≡ get_or words p 0
  head_same =
      get_or-set_other (set (set words (p + (3 + a)) y) (p + (3 + b)) x) (p + 2) p v 0 (omega arith)
      ∙ get_or-set_other (set words (p + (3 + a)) y) (p + (3 + b)) p x 0 (omega arith)
      ∙ get_or-set_other words (p + (3 + a)) p y 0 (omega arith)

  at_second : literal_at (exchanged words p a b x y v) p b ≡ literal_at words p a
  at_second =
      let inside : p + (3 + b) < length (set words (p + (3 + a)) y) =
      omega (arith, length-set words (p + (3 + a)) y, e.second, (e.laid p stands).0) in
      get_or-set_other (set (set words (p + (3 + a)) y) (p + (3 + b)) x) (p + 2) (p + (3 + b)) v 0 (omega arith)
      ∙ get_or-set_same (set words (p + (3 + a)) y) (p + (3 + b)) x 0 inside ∙ e.is_first

  at_first : a ≢ b → literal_at (exchanged words p a b x y v) p a ≡ literal_at words p b
  at_first ne =
      let inside : p + (3 + a) < length words = omega (arith, e.first, (e.laid p stands).0) in
      get_or-set_other (set (set words (p + (3 + a)) y) (p + (3 + b)) x) (p + 2) (p + (3 + a)) v 0 (omega arith)
      ∙ get_or-set_other (set words (p + (3 + a)) y) (p + (3 + b)) (p + (3 + a)) x 0 (omega (arith, ne))
      ∙ get_or-set_same words (p + (3 + a)) y 0 inside ∙ e.is_second

  at_other : (k : ℕ) → k ≢ a → k ≢ b → literal_at (exchanged words p a b x y v) p k ≡ literal_at words p k
  at_other k na nb =
      get_or-set_other (set (set words (p + (3 + a)) y) (p + (3 + b)) x) (p + 2) (p + (3 + k)) v 0 (omega arith)
      ∙ get_or-set_other (set words (p + (3 + a)) y) (p + (3 + b)) (p + (3 + k)) x 0 (omega (arith, nb))
      ∙ get_or-set_other words (p + (3 + a)) (p + (3 + k)) y 0 (omega (arith, na))

  none_lost : (k : ℕ) → k < size_at words p → HasLiteral (exchanged words p a b x y v) p (literal_at words p k)
  none_lost k inside = elim (cases_eq k a) [
    | inl at ↦ (b, omega (arith, head_same, e.second), at_second ∙ ap (literal_at words p) (sym at))
    | inr na ↦ elim (cases_eq k b) [
      | inl at ↦ (
        a,
        omega (arith, head_same, e.first),
        at_first (λ is. na (at ∙ sym is)) ∙ ap (literal_at words p) (sym at),
      )
      | inr nb ↦ (k, omega (arith, head_same, inside), at_other k na nb)
    ]
  ]

  none_new : (k : ℕ) → k < size_at words p → HasLiteral words p (literal_at (exchanged words p a b x y v) p k)
  none_new k inside = elim (cases_eq k b) [
    | inl at ↦ (a, e.first, sym at_second ∙ ap (literal_at (exchanged words p a b x y v) p) (sym at))
    | inr nb ↦ elim (cases_eq k a) [
      | inl at ↦ (
        b,
        e.second,
        sym (at_first (λ is. nb (at ∙ is))) ∙ ap (literal_at (exchanged words p a b x y v) p) (sym at),
      )
      | inr na ↦ (k, inside, sym (at_other k na nb))
    ]
  ]

  pub exchanged_shrinks : Shrinks words (exchanged words p a b x y v)
  exchanged_shrinks =
      changed_shrinks words (exchanged words p a b x y v) p e.laid exchanged_changes none_lost none_new
