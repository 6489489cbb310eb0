-- What is no step of the binary form.
use Rattle.std.proofs.Common.{◌≡◌, ◌≢◌, ◌⊎◌, inl, inr, ℕ, ◌+◌, ◌*◌, ◌/◌, ◌<◌, List, [], ◌∷◌, ◌++◌, sym, ap, ◌∙◌, subst}
use Rattle.std.proofs.Common.{arith, append_assoc}
use Rattle.std.specs.Prelude.{Option}
use Rattle.std.specs.Option.{IsSomeAnd}
use Rattle.aig_bytes.specs.Bytes.{before}
use Rattle.std.proofs.Math.Nat.{add_assoc, mul-add, mul_assoc}
use Rattle.aig_sat.specs.proof.ProofBytes.{Groups, SpellsLiterals}
use Rattle.aig_sat.specs.proof.state.Taking.{LiteralsToCome, NumberToCome, PartToCome}
use Rattle.aig_sat.proofs.reading.TakingLemmas.{after, mapped, none_after}

-- bytes begin with one number
one_number : {n m : ℕ} {xs ys : List ℕ} (a b : List ℕ) → Groups n xs → Groups m ys → xs ++ a ≡ ys ++ b
    → (n ≡ m) × (a ≡ b)
one_number a b (Groups.last n below) (Groups.last m below') e =
    let same : n ≡ m = cc in
    let rest : a ≡ b = cc in (same, rest)
one_number a b (Groups.last n below) (Groups.more low m below' some others) e =
    let same : n ≡ 128 + low = cc in absurd (omega (arith, same, below))
one_number a b (Groups.more low n below some others) (Groups.last m below') e =
    let same : 128 + low ≡ m = cc in absurd (omega (arith, same, below'))
one_number a b (Groups.more {rest = xs} low n below some of_xs) (Groups.more {rest = ys} low' m below' some' of_ys) e =
    let heads : 128 + low ≡ 128 + low' = cc in
    let tails : xs ++ a ≡ ys ++ b = cc in
    let r = one_number a b of_xs of_ys tails in
    (omega (arith, heads, r.0), r.1)

-- a clause begins with a number
literals_number : (bytes : List ℕ) → LiteralsToCome bytes → NumberToCome bytes
literals_number bytes (taken, rest, clause, SpellsLiterals.end, is) = (0, 0 ∷ [], rest, omega arith, Groups.last 0 (omega arith), is)
literals_number bytes (taken, rest, clause, SpellsLiterals.literal {number = number} {rest = more} l below groups spelled, is) =
    (l + 2, number, more ++ rest, omega (arith, below), groups, is ∙ append_assoc number more rest)

-- what is to come after the number of a literal
literals_after : (n l : ℕ) (number bytes : List ℕ) → Groups n number → l + 2 ≡ n → LiteralsToCome (number ++ bytes)
    → LiteralsToCome bytes
literals_after n l number bytes groups e (taken, rest, clause, SpellsLiterals.end, is) =
    let r = one_number bytes rest groups (Groups.last 0 (omega arith)) is in absurd (omega (arith, e, r.0))
literals_after n l number bytes groups e
    (taken, rest, clause, SpellsLiterals.literal {number = number'} {rest = more} {clause = others} l' below groups' spelled, is) =
    let r = one_number bytes (more ++ rest) groups groups' (is ∙ append_assoc number' more rest) in
    (more, rest, others, spelled, r.1)

-- a number of no literal
no_literal_number : (n : ℕ) (number bytes : List ℕ) → Groups n number → 0 < n → (n / 2 ≡ 0) ⊎ (2147483647 < n / 2)
    → LiteralsToCome (number ++ bytes) → ⊥
no_literal_number n number bytes groups some other (taken, rest, clause, SpellsLiterals.end, is) =
    let r = one_number bytes rest groups (Groups.last 0 (omega arith)) is in omega (arith, some, r.0)
no_literal_number n number bytes groups some other
    (taken, rest, clause, SpellsLiterals.literal {number = number'} {rest = more} l below groups' spelled, is) =
    let r = one_number bytes (more ++ rest) groups groups' (is ∙ append_assoc number' more rest) in
    elim other [ inl zero ↦ omega (arith, r.0, zero) | inr over ↦ omega (arith, r.0, over, below) ]

-- ---- a number, group by group

-- one more group, which goes on
part_more : (number power low : ℕ) (bytes : List ℕ) → low < 128 → PartToCome number power ((128 + low) ∷ bytes)
    → PartToCome (number + power * low) (power * 128) bytes
part_more number power low bytes below h = by h.high h.part h.groups h.small h.is
  where
    nonlinear : (p l n m : ℕ) → m + p * (l + 128 * n) ≡ m + p * l + p * 128 * n
    nonlinear p l n m =
        ap (λ (x : ℕ). m + x) (mul-add p l (128 * n))
        ∙ sym (add_assoc m (p * l) (p * (128 * n))) ∙ ap (λ (x : ℕ). m + p * l + x) (sym (mul_assoc p 128 n))

    by : (high : ℕ) (part : List ℕ) → Groups high part → number + power * high < 34359738368
        → (128 + low) ∷ bytes ≡ part ++ h.rest → PartToCome (number + power * low) (power * 128) bytes
    by high part (Groups.last n below') small is =
        let same : 128 + low ≡ n = cc in absurd (omega (arith, same, below'))
    by high part (Groups.more {rest = more} low' n below' some groups) small is =
        let heads : 128 + low ≡ 128 + low' = cc in
        let tails : bytes ≡ more ++ h.rest = cc in
        let same : low' ≡ low = omega (arith, heads) in
        let whole : number + power * low + power * 128 * n < 34359738368 =
        subst (λ (x : ℕ). x < 34359738368) (nonlinear power low n number)
        (subst (λ (x : ℕ). number + power * (x + 128 * n) < 34359738368) same small) in
        record { high = n; part = more; rest = h.rest; groups = groups; some = inl some; small = whole; is = tails }

-- the last one is 0, and another one comes before it
no_last : (number power byte : ℕ) (bytes : List ℕ) → byte ≡ 0 → power ≢ 1 → PartToCome number power (byte ∷ bytes) → ⊥
no_last number power byte bytes zero other h = by h.high h.part h.groups h.some h.is
  where
    by : (high : ℕ) (part : List ℕ) → Groups high part → (0 < high) ⊎ (power ≡ 1) → byte ∷ bytes ≡ part ++ h.rest → ⊥
    by high part groups (inr one) is = other one
    by high part (Groups.last n below) (inl some) is =
        let same : byte ≡ n = cc in omega (arith, same, zero, some)
    by high part (Groups.more low n below some' groups) (inl some) is =
        let same : byte ≡ 128 + low = cc in omega (arith, same, zero)

-- ---- calls

pub number_goes_on : (o n : Option (List ℕ)) (number power low byte : ℕ) → o ≡ before (byte ∷ []) n → 128 + low ≡ byte
    → low < 128 → IsSomeAnd o (PartToCome number power) → IsSomeAnd n (PartToCome (number + power * low) (power * 128))
number_goes_on o n number power low byte e is below =
    after (PartToCome number power) (PartToCome (number + power * low) (power * 128)) o n (byte ∷ []) e
    (λ bytes h. part_more number power low bytes below (subst (λ (b : ℕ). PartToCome number power (b ∷ bytes)) (sym is) h))

pub number_refused : (o n : Option (List ℕ)) (number power byte : ℕ) → o ≡ before (byte ∷ []) n → byte ≡ 0 → power ≢ 1
    → IsSomeAnd o (PartToCome number power) → ⊥
number_refused o n number power byte e is_zero other =
    none_after (PartToCome number power) o n (byte ∷ []) e (λ bytes h. no_last number power byte bytes is_zero other h)

pub literal_refused : (o n : Option (List ℕ)) (number : ℕ) (taken : List ℕ) → o ≡ before taken n → Groups number taken
    → 0 < number → (number / 2 ≡ 0) ⊎ (2147483647 < number / 2) → IsSomeAnd o LiteralsToCome → ⊥
literal_refused o n number taken e groups some other =
    none_after LiteralsToCome o n taken e (λ bytes h. no_literal_number number taken bytes groups some other h)

pub literal_goes_on : (o n : Option (List ℕ)) (number l : ℕ) (taken : List ℕ) → o ≡ before taken n → Groups number taken
    → l + 2 ≡ number → IsSomeAnd o LiteralsToCome → IsSomeAnd n LiteralsToCome
literal_goes_on o n number l taken e groups is =
    after LiteralsToCome LiteralsToCome o n taken e (λ bytes h. literals_after number l taken bytes groups is h)

pub literals_begin : (o : Option (List ℕ)) → (IsSomeAnd o NumberToCome → ⊥) → IsSomeAnd o LiteralsToCome → ⊥
literals_begin o lacks h = lacks (mapped LiteralsToCome NumberToCome o literals_number h)
