-- The even literals of variables in order.
use Rattle.std.proofs.Common.{◌≡◌, ◌↔◌, ℕ, zero, suc, ◌+◌, ◌*◌, ◌<◌, All, List, [], ◌∷◌, ◌++◌, Bool, true, false}
use Rattle.std.proofs.Common.{IsTrue, length, map, take, get_or, refl, sym, ap, ap₂, subst, ◌∙◌, arith, length-append}
use Rattle.std.proofs.lemmas.Bool.{false≢true}
use Rattle.std.proofs.lemmas.List.{take_more, take_at, append_cancel_left, map-append, length-map}
use Rattle.std.proofs.lemmas.List.Elements.{All-same}
use Rattle.std.proofs.lemmas.List.FromFn.{length-map-range_with_len, get_or-map-range_with_len, map-range_with_len_more}
use Rattle.std.specs.List.{range_with_len}
use Rattle.aig_parts.specs.declared.raw.Raw.{Raw}
use Rattle.aig_base.specs.Sections.{definitions}
use Rattle.aig_base.specs.Renumbered.{evens, evens_from}
use Rattle.aig_base.specs.state.BinaryReady.{SectionsInOrder}
use Rattle.aig_base.specs.Sound.{IsDefinition}

pub length-evens_from : (v n : ℕ) → length (evens_from v n) ≡ n
length-evens_from v n = length-map-range_with_len (λ u. 2 * u) v n

pub get_or-evens_from : (v n i d : ℕ) → i < n → get_or (evens_from v n) i d ≡ 2 * (v + i)
get_or-evens_from v n i d lt = get_or-map-range_with_len (λ u. 2 * u) v n i (v + i) d lt refl

-- the even literals of variables from 1 on are definitions
pub evens_are : (ls : List ℕ) (n : ℕ) → ls ≡ evens n → All IsDefinition ls
evens_are ls n is = All-same IsDefinition ls (evens n) is (λ k d lt.
    let below : k < n = omega (arith, length-evens_from 1 n) in
    let e = get_or-evens_from 1 n k d below in
    subst IsDefinition (sym e) (omega arith, omega arith))

-- one more literal in order, where a test says so
pub in_order_more : (xs : List ℕ) (n v i x : ℕ) (b : Bool) → length xs ≡ n → i < n → get_or xs i 0 ≡ x
    → (IsTrue b ↔ (x ≡ 2 * (v + i)))
    → b ≡ true → take i xs ≡ evens_from v i → take (i + 1) xs ≡ evens_from v (i + 1)
in_order_more xs n v i x b size lt at test passed so =
    let below : i < length xs = omega arith in
    take_more xs i 0 below ∙ ap₂ (λ (ys : List ℕ) (y : ℕ). ys ++ y ∷ []) so (at ∙ test.0 passed)
    ∙ sym (map-range_with_len_more (λ u. 2 * u) v i (v + i) refl)

-- a literal out of order, where a test says so
pub in_order_no : (xs : List ℕ) (n v i x : ℕ) (b : Bool) → length xs ≡ n → i < n → get_or xs i 0 ≡ x
    → (IsTrue b ↔ (x ≡ 2 * (v + i)))
    → b ≡ false → IsTrue false ↔ (xs ≡ evens_from v n)
in_order_no xs n v i x b size lt at test failed = (
  λ h. absurd (false≢true h),
  λ e. absurd (false≢true (sym failed
      ∙ test.1 (sym at ∙ ap (λ (ys : List ℕ). get_or ys i 0) e ∙ get_or-evens_from v n i 0 lt))),
)

range-append : (v m n : ℕ) → range_with_len v (m + n) ≡ range_with_len v m ++ range_with_len (v + m) n
range-append v zero n = let e : 0 + n ≡ n = omega arith in let f : v + 0 ≡ v = omega arith in rw (e, f) refl
range-append v (suc m) n =
    let e : suc m + n ≡ suc (m + n) = omega arith in
    let f : v + suc m ≡ v + 1 + m = omega arith in
    rw (e, f) (ap (λ (xs : List ℕ). v ∷ xs) (range-append (v + 1) m n))

pub evens-append : (v m n : ℕ) → evens_from v (m + n) ≡ evens_from v m ++ evens_from (v + m) n
evens-append v m n = ap (map (λ u. 2 * u)) (range-append v m n)
    ∙ map-append (λ u. 2 * u) (range_with_len v m) (range_with_len (v + m) n)

-- one more variable
pub evens_more : (n : ℕ) → evens (n + 1) ≡ evens n ++ 2 * (n + 1) ∷ []
evens_more n =
    let e : 1 + n ≡ n + 1 = omega arith in
    evens-append 1 n 1 ∙ ap (λ (v : ℕ). evens n ++ 2 * v ∷ []) e

split_at : (i l a : ℕ) → evens (i + l + a) ≡ evens_from 1 i ++ evens_from (1 + i) l ++ evens_from (1 + i + l) a
split_at i l a =
    let e : 1 + (i + l) ≡ 1 + i + l = omega arith in
    evens-append 1 (i + l) a ∙ ap₂ (λ (us : List ℕ) (k : ℕ). us ++ evens_from k a) (evens-append 1 i l) e

same_front : (us vs ws zs : List ℕ) → length us ≡ length vs → us ++ ws ≡ vs ++ zs → (us ≡ vs) × (ws ≡ zs)
same_front us vs ws zs l e =
    let f : us ≡ vs = sym (take_at us ws (length us) refl) ∙ ap (take (length us)) e
    ∙ take_at vs zs (length us) (sym l) in
    (f, append_cancel_left us ws zs (e ∙ ap (λ (xs : List ℕ). xs ++ zs) (sym f)))

-- the definitions of three sections are in order where each section is, and the numbers add up
pub joined : (raw : Raw) → SectionsInOrder raw.inputs raw.latches raw.gates raw.max_var
    → definitions raw ≡ evens raw.max_var
joined raw h =
    ap₂ (λ (us vs : List ℕ). us ++ vs) (ap₂ (λ (us vs : List ℕ). us ++ vs) h.inputs_are h.latches_are) h.gates_are
    ∙ sym (split_at (length raw.inputs) (length raw.latches) (length raw.gates)) ∙ ap evens (sym h.size)

pub apart : (raw : Raw) → definitions raw ≡ evens raw.max_var
    → SectionsInOrder raw.inputs raw.latches raw.gates raw.max_var
apart raw h =
    let xs = raw.inputs in
    let ys : List ℕ = map (λ x. x.lit) raw.latches in
    let zs : List ℕ = map (λ g. g.lhs) raw.gates in
    let l : length ys ≡ length raw.latches = length-map raw.latches (λ x. x.lit) in
    let a : length zs ≡ length raw.gates = length-map raw.gates (λ g. g.lhs) in
    let size : raw.max_var ≡ length xs + length raw.latches + length raw.gates =
    omega (arith, ap length h, length-evens_from 1 raw.max_var, length-append (xs ++ ys) zs, length-append xs ys) in
    let whole = h ∙ ap evens size ∙ split_at (length xs) (length raw.latches) (length raw.gates) in
    let front = same_front (xs ++ ys) (evens_from 1 (length xs) ++ evens_from (1 + length xs) (length raw.latches)) zs _
    (omega (
      arith,
      length-append xs ys,
      length-append (evens_from 1 (length xs)) (evens_from (1 + length xs) (length raw.latches)),
      length-evens_from 1 (length xs),
      length-evens_from (1 + length xs) (length raw.latches),
    )) whole in
    let head = same_front xs (evens_from 1 (length xs)) ys _ (sym (length-evens_from 1 (length xs))) front.0 in
    record { size = size; inputs_are = head.0; latches_are = head.1; gates_are = front.1 }
