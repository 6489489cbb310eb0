-- Tables as text: lines, blocks of columns, and all blocks.
use Rattle.std.proofs.Common.{◌≡◌, ℕ, zero, suc, ◌+◌, ◌-◌, ◌<◌, ◌≤◌, List, [], ◌∷◌, ◌++◌, length, get_or, map, take}
use Rattle.std.proofs.Common.{refl, sym, ap, ◌∙◌, subst, append_assoc, append-nil, arith}
use Rattle.std.specs.Prelude.{max, fold, sum, codes, decimal}
use Rattle.std.specs.List.{flat_map, range_with_len}
use Rattle.std.proofs.lemmas.List.{map_more, take_all}
use Rattle.std.proofs.lemmas.List.Sums.{fold-append, sum_by-cons, sum_by-append}
use Rattle.std.proofs.lemmas.Grind.{flat_map-append}
use Rattle.aig_prompt.specs.declared.table.Row.{Row}
use Rattle.aig_prompt.specs.Table.{TableRow, row_of, cell_at, name_text, cell_text, line_text, gap, block_text}
use Rattle.aig_prompt.specs.Table.{blocks_text}

-- the first of some numbers
numbers_step : (k n : ℕ) → k < n → range_with_len k (n - k) ≡ k ∷ range_with_len (k + 1) (n - (k + 1))
numbers_step k n lt =
    let e : n - k ≡ suc (n - (k + 1)) = omega (arith, lt) in
    ap (range_with_len k) e

no_numbers : (k n : ℕ) → n ≤ k → range_with_len k (n - k) ≡ []
no_numbers k n le =
    let e : n - k ≡ 0 = omega (arith, le) in
    ap (range_with_len k) e

-- texts of numbers from k up to n, one by one
module _ (f : ℕ → List ℕ) (now new all : List ℕ) (k n : ℕ) where
  pub places_more : k < n → new ≡ now ++ f k → now ++ flat_map f (range_with_len k (n - k)) ≡ all
      → new ++ flat_map f (range_with_len (k + 1) (n - (k + 1))) ≡ all
  places_more lt is h =
      ap (λ ys. ys ++ flat_map f (range_with_len (k + 1) (n - (k + 1)))) is
      ∙ append_assoc now (f k) (flat_map f (range_with_len (k + 1) (n - (k + 1))))
      ∙ ap (λ (ns : List ℕ). now ++ flat_map f ns) (sym (numbers_step k n lt)) ∙ h

module _ (f : ℕ → List ℕ) (now all : List ℕ) (k n : ℕ) where
  pub places_end : n ≤ k → now ++ flat_map f (range_with_len k (n - k)) ≡ all → now ≡ all
  places_end le h = sym (append-nil now) ∙ ap (λ (ns : List ℕ). now ++ flat_map f ns) (sym (no_numbers k n le)) ∙ h

-- a fold over one row more
pub fold_more : {X Y Z : Type 0} (f : Z → Y → Z) (g : X → Y) (a : Z) (xs : List X) (i : ℕ) (x : X) → i < length xs
    → x ≡ get_or xs i x → fold f a (map g (take (i + 1) xs)) ≡ f (fold f a (map g (take i xs))) (g x)
fold_more f g a xs i x lt is =
    ap (fold f a) (map_more g xs i x lt) ∙ fold-append f a (map g (take i xs)) (g (get_or xs i x) ∷ [])
    ∙ ap (λ y. f (fold f a (map g (take i xs))) (g y)) (sym is)

-- the width of the names of one row more
pub widths_more : (rows : List Row) (i old size new : ℕ) (row : Row) → i < length rows → row ≡ get_or rows i row
    → size ≡ length row.name.items → new ≡ max old size
    → old ≡ fold (λ width (r : TableRow). max width (length r.name)) 5 (map row_of (take i rows))
    → new ≡ fold (λ width (r : TableRow). max width (length r.name)) 5 (map row_of (take (i + 1) rows))
widths_more rows i old size new row lt is long more before =
    more ∙ ap (λ w. max w size) before
    ∙ ap (max (fold (λ width (r : TableRow). max width (length r.name)) 5 (map row_of (take i rows)))) long
    ∙ sym (fold_more (λ width (r : TableRow). max width (length r.name)) row_of 5 rows i row lt is)

-- a line ends
pub line_end : (names cells : ℕ) (name : List ℕ) (cell : ℕ → List ℕ) (begin end place : ℕ) (old now new : List ℕ) → end ≤ place
    → now ++ flat_map (λ k. cell_text cells (cell k)) (range_with_len place (end - place))
    ≡ (old ++ name_text names name) ++ flat_map (λ k. cell_text cells (cell k)) (range_with_len begin (end - begin))
    → new ≡ now ++ 10 ∷ [] → new ≡ old ++ line_text names cells name cell begin (end - begin)
unfolding line_text
line_end names cells name cell begin end place old now new le before pushed =
    let all : List ℕ = flat_map (λ k. cell_text cells (cell k)) (range_with_len begin (end - begin)) in
    pushed
    ∙ ap (λ t. t ++ 10 ∷ [])
    (places_end (λ k. cell_text cells (cell k)) now ((old ++ name_text names name) ++ all) place end le before)
    ∙ append_assoc (old ++ name_text names name) all (10 ∷ []) ∙ append_assoc old (name_text names name) (all ++ 10 ∷ [])

-- the texts of one row more
rows_push : {X Y : Type 0} (f : Y → List ℕ) (g : X → Y) (old now new : List ℕ) (xs : List X) (i : ℕ) (x : X)
    → i < length xs → x ≡ get_or xs i x → now ≡ old ++ flat_map f (map g (take i xs)) → new ≡ now ++ f (g x)
    → new ≡ old ++ flat_map f (map g (take (i + 1) xs))
rows_push f g old now new xs i x lt is before pushed =
    let front : List ℕ = flat_map f (map g (take i xs)) in
    let last : flat_map f (g x ∷ []) ≡ f (g x) = append-nil (f (g x)) in
    let more : map g (take (i + 1) xs) ≡ map g (take i xs) ++ g x ∷ [] =
    map_more g xs i x lt ∙ ap (λ y. map g (take i xs) ++ g y ∷ []) (sym is) in
    pushed ∙ ap (λ t. t ++ f (g x)) before ∙ append_assoc old front (f (g x))
    ∙ ap (λ t. old ++ (front ++ t)) (sym last)
    ∙ ap (λ t. old ++ t) (sym (flat_map-append f (map g (take i xs)) (g x ∷ [])) ∙ ap (flat_map f) (sym more))

pub rows_more : {X Y : Type 0} (f : Y → List ℕ) (g : X → Y) (old now new : List ℕ) (xs ys : List X) (i : ℕ) (x : X) → xs ≡ ys
    → i < length xs → x ≡ get_or xs i x → now ≡ old ++ flat_map f (map g (take i ys)) → new ≡ now ++ f (g x)
    → new ≡ old ++ flat_map f (map g (take (i + 1) ys))
rows_more {X = X} f g old now new xs ys i x same lt is before pushed =
    rows_push f g old now new ys i x (subst (λ (zs : List X). i < length zs) same lt)
    (subst (λ (zs : List X). x ≡ get_or zs i x) same is) before pushed

-- a block ends
pub block_end : (names cells t : ℕ) (xs ys : List Row) (i k n : ℕ) (old now : List ℕ) → xs ≡ ys → length xs ≤ i
    → now ≡ (old ++ line_text names cells (codes "frame") (λ place. decimal (t + place)) k n)
    ++ flat_map (λ row. line_text names cells row.name (cell_at row) k n) (map row_of (take i ys))
    → now ≡ old ++ block_text names cells t (map row_of ys) k n
unfolding block_text
block_end names cells t xs ys i k n old now same le is =
    let head : List ℕ = line_text names cells (codes "frame") (λ place. decimal (t + place)) k n in
    let f : TableRow → List ℕ = λ row. line_text names cells row.name (cell_at row) k n in
    is
    ∙ ap (λ (zs : List Row). (old ++ head) ++ flat_map f (map row_of zs))
    (take_all i ys (subst (λ (zs : List Row). length zs ≤ i) same le))
    ∙ append_assoc old head (flat_map f (map row_of ys))

-- before a block
pub gap_some : (now mid : List ℕ) (k : ℕ) → 0 < k → mid ≡ now ++ 10 ∷ [] → mid ≡ now ++ gap k
gap_some now mid zero lt is = absurd (omega (arith, lt))
gap_some now mid (suc k) lt is = is

pub gap_none : (now mid : List ℕ) (k : ℕ) → k ≤ 0 → mid ≡ now → mid ≡ now ++ gap k
gap_none now mid zero le is = is ∙ sym (append-nil now)
gap_none now mid (suc k) le is = absurd (omega (arith, le))

-- no block
pub blocks_none : (names cells t : ℕ) (rows : List TableRow) (text : List ℕ) → text ≡ text ++ blocks_text names cells t rows 0 []
unfolding blocks_text
blocks_none names cells t rows text = sym (append-nil text)

-- one block more
pub blocks_more : (names cells t : ℕ) (rows : List TableRow) (k : ℕ) (sizes : List ℕ) (n : ℕ)
    → blocks_text names cells t rows k (sizes ++ n ∷ [])
    ≡ blocks_text names cells t rows k sizes ++ (gap (k + sum sizes) ++ block_text names cells t rows (k + sum sizes) n)
unfolding blocks_text
blocks_more names cells t rows k [] n =
    let e : k + 0 ≡ k = omega arith in
    ap (λ text. gap k ++ text) (append-nil (block_text names cells t rows k n))
    ∙ ap (λ m. gap m ++ block_text names cells t rows m n) (sym e)
blocks_more names cells t rows k (m ∷ sizes) n =
    let e : (k + m) + sum sizes ≡ k + sum (m ∷ sizes) = omega (arith, sum_by-cons (λ (x : ℕ). x) m sizes) in
    let b : List ℕ = block_text names cells t rows k m in
    let rest : List ℕ = blocks_text names cells t rows (k + m) sizes in
    let last : List ℕ = gap (k + sum (m ∷ sizes)) ++ block_text names cells t rows (k + sum (m ∷ sizes)) n in
    ap (λ text. gap k ++ (b ++ text))
    (blocks_more names cells t rows (k + m) sizes n
    ∙ ap (λ j. rest ++ (gap j ++ block_text names cells t rows j n)) e)
    ∙ ap (λ text. gap k ++ text) (sym (append_assoc b rest last)) ∙ sym (append_assoc (gap k) (b ++ rest) last)

pub blocks_step : (names cells t : ℕ) (rows : List TableRow) (sizes : List ℕ) (begin end : ℕ) (old now mid new : List ℕ)
    → sum sizes ≡ begin → begin ≤ end → now ≡ old ++ blocks_text names cells t rows 0 sizes → mid ≡ now ++ gap begin
    → new ≡ mid ++ block_text names cells t rows begin (end - begin)
    → (more : List ℕ) × (sum more ≡ end) × (new ≡ old ++ blocks_text names cells t rows 0 more)
blocks_step names cells t rows sizes begin end old now mid new size le is parted pushed =
    let n : ℕ = end - begin in
    let here : 0 + sum sizes ≡ begin = omega (arith, size) in
    let b : List ℕ = block_text names cells t rows begin n in
    let front : List ℕ = blocks_text names cells t rows 0 sizes in
    let whole : blocks_text names cells t rows 0 (sizes ++ n ∷ []) ≡ front ++ (gap begin ++ b) =
    blocks_more names cells t rows 0 sizes n ∙ ap (λ k. front ++ (gap k ++ block_text names cells t rows k n)) here in
    let total : sum (sizes ++ n ∷ []) ≡ end =
    omega (arith, sum_by-append (λ (x : ℕ). x) sizes (n ∷ []), sum_by-cons (λ (x : ℕ). x) n [], size, le) in (
      sizes ++ n ∷ [],
      total,
      pushed ∙ ap (λ text. text ++ b) (parted ∙ ap (λ text. text ++ gap begin) is) ∙ append_assoc (old ++ front) (gap begin) b
          ∙ append_assoc old front (gap begin ++ b) ∙ ap (λ text. old ++ text) (sym whole),
    )
