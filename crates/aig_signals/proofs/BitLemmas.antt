-- Words X[n]: their indices, and the table of their literals.
use Rattle.std.proofs.Common.{◌≡◌, ◌≢◌, ℕ, zero, suc, ◌+◌, ◌-◌, ◌<◌, ◌≤◌, Bool, true, false, List, [], ◌∷◌, ◌++◌}
use Rattle.std.proofs.Common.{length, get_or, take, drop, map, Option, None, Some, All, inl, inr, refl, sym, ap, subst}
use Rattle.std.proofs.Common.{◌∙◌, arith, append_assoc}
use Rattle.std.specs.Prelude.{◌==◌, min, max, fold, find, filter_map, flat_map, option_map, if◌then◌else◌, set}
use Rattle.std.specs.Option.{option_or}
use Rattle.std.specs.List.{range_with_len}
use Rattle.std.proofs.Math.Nat.{min-le_left, min-le_right, le-max_left, le-max_right}
use Rattle.std.proofs.lemmas.Bool.{eq-eqb}
use Rattle.std.proofs.lemmas.Bool.Decides.{eqb_tells}
use Rattle.std.proofs.lemmas.Grind.{get_or-set_at}
use Rattle.std.proofs.lemmas.List.{append-nil, get_or_default, take_all, take_more, drop_more, drop_all}
use Rattle.std.proofs.lemmas.List.{get_or-set_other, ext_get_or}
use Rattle.std.proofs.lemmas.List.Folds.{find-append}
use Rattle.std.proofs.lemmas.List.Sums.{fold_more}
use Rattle.std.proofs.lemmas.List.Elements.{All-nil, All-cons, All-weaker, All-get_or, All-from_get_or}
use Rattle.std.proofs.lemmas.List.Elements.{filter_map-append}
use Rattle.std.proofs.lemmas.List.FromFn.{get_or-map-range_with_len, length-map-range_with_len}
use Rattle.indexmap.proofs.IndexTableLemmas.Probe.{pigeonhole}
use Rattle.aig_parts.specs.declared.raw.Raw.{Raw}
use Rattle.aig_parts.specs.declared.symbols.Kind.{Kind}
use Rattle.aig_signals.specs.Names.{literals_of}
use Rattle.aig_signals.specs.declared.bits.WordBit.{WordBit}
use Rattle.aig_signals.specs.Bits.{bit_literal, bits_between, bits_named, all_bits, all_there, entry_bits, section_bits}
use Rattle.aig_signals.specs.Bits.{word_bits, least_index, greatest_index}

-- one word more
pub words_more : {X Y : Type 0} (h : X → Option Y) (now new all : List Y) (xs ys : List X) (x : X) → xs ≡ x ∷ ys
    → new ≡ now ++ filter_map h (x ∷ []) → now ++ filter_map h xs ≡ all → new ++ filter_map h ys ≡ all
words_more h now new all xs ys x is pushed e =
    ap (λ zs. zs ++ filter_map h ys) pushed ∙ append_assoc now (filter_map h (x ∷ [])) (filter_map h ys)
    ∙ ap (λ zs. now ++ zs) (sym (filter_map-append h (x ∷ []) ys)) ∙ ap (λ zs. now ++ filter_map h zs) (sym is) ∙ e

-- the first of some numbers
pub numbers_step : (k n : ℕ) → k < n → range_with_len k (n - k) ≡ k ∷ range_with_len (k + 1) (n - (k + 1))
numbers_step k n lt =
    let e : n - k ≡ suc (n - (k + 1)) = omega (arith, lt) in
    ap (range_with_len k) e

pub no_numbers : (k n : ℕ) → n ≤ k → range_with_len k (n - k) ≡ []
no_numbers k n le =
    let e : n - k ≡ 0 = omega (arith, le) in
    ap (range_with_len k) e

-- entries of a section, one by one
pub entries_start : (raw : Raw) (x : List ℕ) (kind : Kind) (bits : List WordBit)
    → bits ++ flat_map (entry_bits raw x kind) (range_with_len 0 (length (literals_of raw kind) - 0)) ≡ bits ++ section_bits raw x kind
unfolding section_bits
entries_start raw x kind bits =
    let e : length (literals_of raw kind) - 0 ≡ length (literals_of raw kind) = omega arith in
    ap (λ (n : ℕ). bits ++ flat_map (entry_bits raw x kind) (range_with_len 0 n)) e

module _ {A : Type 0} (f : ℕ → List A) (now new all : List A) (k n : ℕ) where
  pub entries_more : k < n → new ≡ now ++ f k → now ++ flat_map f (range_with_len k (n - k)) ≡ all
      → new ++ flat_map f (range_with_len (k + 1) (n - (k + 1))) ≡ all
  entries_more lt is h =
      ap (λ ys. ys ++ flat_map f (range_with_len (k + 1) (n - (k + 1)))) is
      ∙ append_assoc now (f k) (flat_map f (range_with_len (k + 1) (n - (k + 1))))
      ∙ ap (λ (ns : List ℕ). now ++ flat_map f ns) (sym (numbers_step k n lt)) ∙ h

module _ {A : Type 0} (f : ℕ → List A) (now all : List A) (k n : ℕ) where
  pub entries_end : n ≤ k → now ++ flat_map f (range_with_len k (n - k)) ≡ all → now ≡ all
  entries_end le h = sym (append-nil now) ∙ ap (λ (ns : List ℕ). now ++ flat_map f ns) (sym (no_numbers k n le)) ∙ h

-- the least index is no more than any, and the greatest no less
least_start : (n : ℕ) (bits : List WordBit) → fold (λ n b. min n b.index) n bits ≤ n
least_start n [] = omega arith
least_start n (bit ∷ bits) = omega (arith, least_start (min n bit.index) bits, min-le_left n bit.index)

least_each : (n : ℕ) (bits : List WordBit) → All (λ b. fold (λ n b. min n b.index) n bits ≤ b.index) bits
least_each n [] = All-nil (λ (b : WordBit). n ≤ b.index)
least_each n (bit ∷ bits) =
    All-cons (λ (b : WordBit). fold (λ n b. min n b.index) (min n bit.index) bits ≤ b.index) bit bits
    (omega (arith, least_start (min n bit.index) bits, min-le_right n bit.index)) (least_each (min n bit.index) bits)

greatest_start : (n : ℕ) (bits : List WordBit) → n ≤ fold (λ n b. max n b.index) n bits
greatest_start n [] = omega arith
greatest_start n (bit ∷ bits) = omega (arith, greatest_start (max n bit.index) bits, le-max_left n bit.index)

greatest_each : (n : ℕ) (bits : List WordBit) → All (λ b. b.index ≤ fold (λ n b. max n b.index) n bits) bits
greatest_each n [] = All-nil (λ (b : WordBit). b.index ≤ n)
greatest_each n (bit ∷ bits) =
    All-cons (λ (b : WordBit). b.index ≤ fold (λ n b. max n b.index) (max n bit.index) bits) bit bits
    (omega (arith, greatest_start (max n bit.index) bits, le-max_right n bit.index)) (greatest_each (max n bit.index) bits)

module _ (start n new : ℕ) (bits : List WordBit) (i : ℕ) (b : WordBit) (lt : i < length bits) (at : b ≡ get_or bits i b) where
  pub least_more : new ≡ min n b.index → n ≡ fold (λ n b. min n b.index) start (take i bits)
      → new ≡ fold (λ n b. min n b.index) start (take (i + 1) bits)
  least_more is h =
      is ∙ (λ j. min (h j) (at j).index) ∙ sym (fold_more (λ n b. min n b.index) start bits i b lt)

  pub greatest_more : new ≡ max n b.index → n ≡ fold (λ n b. max n b.index) start (take i bits)
      → new ≡ fold (λ n b. max n b.index) start (take (i + 1) bits)
  greatest_more is h =
      is ∙ (λ j. max (h j) (at j).index) ∙ sym (fold_more (λ n b. max n b.index) start bits i b lt)

module _ (bit : WordBit) (more : List WordBit) where
  pub least_greatest : least_index bit more ≤ greatest_index bit more
  least_greatest = omega (arith, least_start bit.index more, greatest_start bit.index more)

  pub indices_within : All (λ b. (least_index bit more ≤ b.index) × (b.index ≤ greatest_index bit more)) (bit ∷ more)
  indices_within =
      All-cons (λ (b : WordBit). (least_index bit more ≤ b.index) × (b.index ≤ greatest_index bit more)) bit more
      (least_start bit.index more, greatest_start bit.index more)
      (All-from_get_or (λ (b : WordBit). (least_index bit more ≤ b.index) × (b.index ≤ greatest_index bit more)) more bit (λ i lt. (
        All-get_or (λ (b : WordBit). least_index bit more ≤ b.index) more i bit lt (least_each bit.index more),
        All-get_or (λ (b : WordBit). b.index ≤ greatest_index bit more) more i bit lt (greatest_each bit.index more),
      )))

pub all_within : (bits : List WordBit) (bit : WordBit) (more : List WordBit) (first last : ℕ) → bits ≡ bit ∷ more
    → first ≡ least_index bit more → last ≡ greatest_index bit more
    → All (λ (b : WordBit). (first ≤ b.index) × (b.index ≤ last)) bits
all_within bits bit more first last is first_is last_is =
    rw (is, first_is, last_is) (indices_within bit more)

-- as the table wants them
pub within_table : (bits : List WordBit) (first last size : ℕ) → size ≡ last - first + 1 → first ≤ last
    → All (λ (b : WordBit). (first ≤ b.index) × (b.index ≤ last)) bits → All (λ (b : WordBit). (first ≤ b.index) × (b.index < first + size)) bits
within_table bits first last size is le =
    All-weaker (λ (b : WordBit). (first ≤ b.index) × (b.index ≤ last)) (λ (b : WordBit). (first ≤ b.index) × (b.index < first + size))
    (λ b h. (h.0, omega (arith, is, le, h.1))) bits

-- the table of literals
literal_or : (o p : Option WordBit) → option_map (λ b. b.literal) (option_or o p) ≡ option_or (option_map (λ b. b.literal) o) (option_map (λ b. b.literal) p)
literal_or None p = refl
literal_or (Some b) p = refl

or_none : (o : Option ℕ) → option_or o None ≡ o
or_none None = refl
or_none (Some x) = refl

module _ (bits : List WordBit) (k : ℕ) (d : WordBit) (lt : k < length bits) (n : ℕ) where
  literal_more : bit_literal (take (k + 1) bits) n
      ≡ option_or (bit_literal (take k bits) n) (option_map (λ b. b.literal) (find (λ b. b.index == n) (get_or bits k d ∷ [])))
  literal_more =
      ap (λ bs. bit_literal bs n) (take_more bits k d lt)
      ∙ ap (option_map (λ b. b.literal)) (find-append (λ b. b.index == n) (take k bits) (get_or bits k d ∷ []))
      ∙ literal_or (find (λ b. b.index == n) (take k bits)) (find (λ b. b.index == n) (get_or bits k d ∷ []))

  literal_new : ((get_or bits k d).index == n) ≡ true
      → bit_literal (take (k + 1) bits) n ≡ option_or (bit_literal (take k bits) n) (Some (get_or bits k d).literal)
  literal_new here =
      let e : find (λ (b : WordBit). b.index == n) (get_or bits k d ∷ []) ≡ Some (get_or bits k d) = rw here refl in
      literal_more ∙ ap (λ o. option_or (bit_literal (take k bits) n) (option_map (λ b. b.literal) o)) e

  literal_old : ((get_or bits k d).index == n) ≡ false → bit_literal (take (k + 1) bits) n ≡ bit_literal (take k bits) n
  literal_old other =
      let e : find (λ (b : WordBit). b.index == n) (get_or bits k d ∷ []) ≡ None = rw other refl in
      literal_more ∙ ap (λ o. option_or (bit_literal (take k bits) n) (option_map (λ b. b.literal) o)) e
      ∙ or_none (bit_literal (take k bits) n)

module _ (first size k : ℕ) (bits : List WordBit) (d : WordBit) (old new : List (Option ℕ)) where
  pub table_more : k < length bits → first ≤ (get_or bits k d).index → (get_or bits k d).index - first < length old
      → new ≡ set old ((get_or bits k d).index - first)
      (option_or (get_or old ((get_or bits k d).index - first) None) (Some (get_or bits k d).literal))
      → ((i : ℕ) → i < size → get_or old i None ≡ bit_literal (take k bits) (first + i))
      → (i : ℕ) → i < size → get_or new i None ≡ bit_literal (take (k + 1) bits) (first + i)
  table_more lt from within is before i less =
      let bit = get_or bits k d in
      let place : ℕ = bit.index - first in
      elim (eqb_tells bit.index (first + i)) [
        | inl here ↦
            let same : i ≡ place = omega (arith, here.1) in
            ap (λ xs. get_or xs i None) is
            ∙ get_or-set_at old place i (option_or (get_or old place None) (Some bit.literal)) None same within
            ∙ ap (λ (j : ℕ). option_or (get_or old j None) (Some bit.literal)) (sym same)
            ∙ ap (λ o. option_or o (Some bit.literal)) (before i less)
            ∙ sym (literal_new bits k d lt (first + i) here.0)
        | inr other ↦
            let apart : i ≢ place = λ e. other.1 (omega (arith, e, from)) in
            ap (λ xs. get_or xs i None) is
            ∙ get_or-set_other old place i (option_or (get_or old place None) (Some bit.literal)) None apart
            ∙ before i less ∙ sym (literal_old bits k d lt (first + i) other.0)
      ]

pub table_step : (first size k : ℕ) (bits : List WordBit) (b : WordBit) (old : List (Option ℕ)) (v w : Option ℕ) → k < length bits
    → b ≡ get_or bits k b → All (λ (b : WordBit). (first ≤ b.index) × (b.index < first + size)) bits → length old ≡ size
    → w ≡ get_or old (b.index - first) w → v ≡ option_or w (Some b.literal)
    → ((i : ℕ) → i < size → get_or old i None ≡ bit_literal (take k bits) (first + i))
    → (i : ℕ) → i < size → get_or (set old (b.index - first) v) i None ≡ bit_literal (take (k + 1) bits) (first + i)
table_step first size k bits b old v w lt at within long w_is v_is before =
    let here = All-get_or (λ (b : WordBit). (first ≤ b.index) × (b.index < first + size)) bits k b lt within in
    let same : (get_or bits k b).index ≡ b.index = ap (λ (x : WordBit). x.index) (sym at) in
    let place : b.index - first < length old = omega (arith, here.0, here.1, same, long) in
    let value : w ≡ get_or old (b.index - first) None = w_is ∙ get_or_default old (b.index - first) w None place in
    let new : set old (b.index - first) v ≡ set old ((get_or bits k b).index - first)
    (option_or (get_or old ((get_or bits k b).index - first) None) (Some (get_or bits k b).literal)) =
    ap (set old (b.index - first)) (v_is ∙ ap (λ o. option_or o (Some b.literal)) value)
    ∙ (λ j. set old ((at j).index - first) (option_or (get_or old ((at j).index - first) None) (Some (at j).literal))) in
    table_more first size k bits b old (set old (b.index - first) v) lt (omega (arith, here.0))
    (omega (arith, here.0, here.1, long)) new before

pub table_all : (first size k : ℕ) (bits : List WordBit) (table : List (Option ℕ)) → length bits ≤ k → length table ≡ size
    → ((i : ℕ) → i < size → get_or table i None ≡ bit_literal (take k bits) (first + i))
    → table ≡ map (bit_literal bits) (range_with_len first size)
table_all first size k bits table le long each =
    ext_get_or None table (map (bit_literal bits) (range_with_len first size))
    (long ∙ sym (length-map-range_with_len (bit_literal bits) first size))
    (λ i lt.
    let less : i < size = omega (arith, lt, long) in
    each i less ∙ ap (λ (bs : List WordBit). bit_literal bs (first + i)) (take_all k bits le)
    ∙ sym (get_or-map-range_with_len (bit_literal bits) first size i (first + i) None less refl))

-- literals that are all there
joined : (now : List ℕ) (x : ℕ) (o : Option (List ℕ)) → option_map (λ ys. now ++ ys) (option_map (λ ys. x ∷ ys) o)
    ≡ option_map (λ ys. (now ++ x ∷ []) ++ ys) o
joined now x None = refl
joined now x (Some ys) = ap (λ (zs : List ℕ). Some zs) (sym (append_assoc now (x ∷ []) ys))

module _ (xs : List (Option ℕ)) (i : ℕ) (now : List ℕ) (all : Option (List ℕ)) where
  pub there_more : (d : Option ℕ) (new : List ℕ) (x : ℕ) → i < length xs → get_or xs i d ≡ Some x → new ≡ now ++ x ∷ []
      → option_map (λ ys. now ++ ys) (all_there (drop i xs)) ≡ all
      → option_map (λ ys. new ++ ys) (all_there (drop (i + 1) xs)) ≡ all
  unfolding all_there
  there_more d new x lt is pushed h =
      ap (λ zs. option_map (λ ys. zs ++ ys) (all_there (drop (i + 1) xs))) pushed
      ∙ sym (joined now x (all_there (drop (i + 1) xs)))
      ∙ ap (λ o. option_map (λ ys. now ++ ys) (all_there (o ∷ drop (i + 1) xs))) (sym is)
      ∙ ap (λ zs. option_map (λ ys. now ++ ys) (all_there zs)) (sym (drop_more xs i d lt)) ∙ h

  pub there_missing : (d : Option ℕ) → i < length xs → get_or xs i d ≡ None
      → option_map (λ ys. now ++ ys) (all_there (drop i xs)) ≡ all → None ≡ all
  unfolding all_there
  there_missing d lt is h =
      ap (λ o. option_map (λ ys. now ++ ys) (all_there (o ∷ drop (i + 1) xs))) (sym is)
      ∙ ap (λ zs. option_map (λ ys. now ++ ys) (all_there zs)) (sym (drop_more xs i d lt)) ∙ h

  pub there_end : length xs ≤ i → option_map (λ ys. now ++ ys) (all_there (drop i xs)) ≡ all → Some now ≡ all
  unfolding all_there
  there_end le h =
      ap (λ (zs : List ℕ). Some zs) (sym (append-nil now))
      ∙ ap (λ zs. option_map (λ ys. now ++ ys) (all_there zs)) (sym (drop_all i xs le)) ∙ h

-- where all bits are there, there are as many words
mapped_some : (f : List ℕ → List ℕ) (o : Option (List ℕ)) (ys : List ℕ) → option_map f o ≡ Some ys → (zs : List ℕ) × (o ≡ Some zs)
mapped_some f None ys e = absurd (cc e)
mapped_some f (Some zs) ys e = (zs, refl)

each_there : (xs : List (Option ℕ)) (ys : List ℕ) → all_there xs ≡ Some ys → (i : ℕ) → i < length xs → get_or xs i None ≢ None
unfolding all_there
each_there [] ys all i lt = absurd (omega (arith, lt))
each_there (None ∷ more) ys all i lt = absurd (cc all)
each_there (Some x ∷ more) ys all zero lt = λ e. absurd (cc e)
each_there (Some x ∷ more) ys all (suc i) lt =
    let rest = mapped_some (λ ys. x ∷ ys) (all_there more) ys all in
    each_there more rest.0 rest.1 i (omega (arith, lt))

-- the place of the first word X[n]
place_of : List WordBit → ℕ → ℕ
place_of [] n = 0
place_of (bit ∷ bits) n = if bit.index == n then 0 else suc (place_of bits n)

place_is : (bits : List WordBit) (n : ℕ) (d : WordBit) → bit_literal bits n ≢ None
    → (place_of bits n < length bits) × ((get_or bits (place_of bits n) d).index ≡ n)
unfolding place_of
place_is [] n d there = absurd (there refl)
place_is (bit ∷ bits) n d there = elim (eqb_tells bit.index n) [
  | inl here ↦ rw here.0 (omega arith, here.1)
  | inr other ↦
      let rest = place_is bits n d (λ e. there (rw other.0 e)) in
      rw other.0 (omega (arith, rest.0), rest.1)
]

module _ (bits : List WordBit) (n k : ℕ) where
  d : WordBit
  d = record { index = 0; literal = 0 }

  few_bits : (ys : List ℕ) → all_there (map (bit_literal bits) (range_with_len n k)) ≡ Some ys → k ≤ length bits
  few_bits ys all =
      pigeonhole k (length bits) (λ i. place_of bits (n + i)) (λ i lt. (at i lt).0)
      (λ i j lt less e.
      let same : n + i ≡ n + j = sym (at i lt).1 ∙ ap (λ (p : ℕ). (get_or bits p d).index) e ∙ (at j less).1 in
      omega (arith, same))
    where
      at : (i : ℕ) → i < k → (place_of bits (n + i) < length bits) × ((get_or bits (place_of bits (n + i)) d).index ≡ n + i)
      at i lt =
          place_is bits (n + i) d (λ e. each_there (map (bit_literal bits) (range_with_len n k)) ys all i
          (omega (arith, lt, length-map-range_with_len (bit_literal bits) n k))
          (get_or-map-range_with_len (bit_literal bits) n k i (n + i) None lt refl ∙ e))

  pub too_many : length bits < k → None ≡ all_there (map (bit_literal bits) (range_with_len n k))
  too_many more =
      (elim (all_there (map (bit_literal bits) (range_with_len n k)))
      as (λ o. all_there (map (bit_literal bits) (range_with_len n k)) ≡ o → None ≡ o) [
        | None ↦ λ e. refl
        | Some ys ↦ λ e. absurd (omega (arith, more, few_bits ys e))
      ]) refl

-- the bits between two indices, where there are too few words for them, and by a table
pub between_missing : (bits : List WordBit) (first last : ℕ) → length bits ≤ last - first → first ≤ last → None ≡ bits_between bits first last
between_missing bits first last few le = too_many bits first (last + 1 - first) (omega (arith, few, le))

pub between_table : (bits : List WordBit) (table : List (Option ℕ)) (first last size : ℕ) → size ≡ last - first + 1 → first ≤ last
    → table ≡ map (bit_literal bits) (range_with_len first size) → all_there table ≡ bits_between bits first last
between_table bits table first last size is le table_is =
    let e : size ≡ last + 1 - first = omega (arith, is, le) in
    ap all_there (table_is ∙ ap (λ (n : ℕ). map (bit_literal bits) (range_with_len first n)) e)

pub named_is : (raw : Raw) (x : List ℕ) (bits : List WordBit) → bits ≡ word_bits raw x → all_bits bits ≡ bits_named raw x
unfolding bits_named
named_is raw x bits is = ap all_bits is
