-- Edits in turn.
use Rattle.std.proofs.Common.{◌≡◌, ℕ, zero, suc, ◌+◌, ◌-◌, ◌*◌, ◌<◌, ◌≤◌, ◌⊎◌, inl, inr, List, [], ◌∷◌, ◌++◌, length}
use Rattle.std.proofs.Common.{map, take, drop, get_or, replicate, refl, sym, ap, subst, ◌∙◌, arith}
use Rattle.std.specs.List.{flat_map, range_with_len, zip}
use Rattle.std.proofs.lemmas.List.{length-take-le, length-append, length-replicate, append_assoc, replicate_more}
use Rattle.std.proofs.lemmas.List.{drop_all}
use Rattle.aig_parts.specs.Limits.{cell_limit, frame_limit}
use Rattle.aig_parts.specs.declared.latch.Latch.{Latch}
use Rattle.aig_parts.specs.declared.ternary.Tern.{Tern}
use Rattle.aig_parts.specs.declared.ternary.Tern.TheVariants.{Zero}
use Rattle.aig_base.specs.Changes.{restarted}
use Rattle.aig_bench.specs.declared.edit.EditFault.{EditFault}
use Rattle.aig_bench.specs.declared.edit.EditFault.TheVariants as fault
use Rattle.aig_bench.specs.BenchState.{CircuitAndRows}
use Rattle.aig_bench.specs.Edit.{Edit, edited, Forbids, NoneApplies, add_frame, drop_frame}
use Rattle.aig_shell.specs.State.{Leads}

-- nothing is left to do
pub leads_end : (p q : CircuitAndRows) → q ≡ p → Leads p [] q
unfolding Leads
leads_end p q e = e

pub leads_one : (p q : CircuitAndRows) (e : Edit) → NoneApplies (Forbids p e) → q ≡ edited p e → Leads p (e ∷ []) q
unfolding Leads
leads_one p q e none is = (none, is)

-- edits after edits
pub leads_append : (xs : List Edit) (p mid q : CircuitAndRows) (ys : List Edit) → Leads p xs mid → Leads mid ys q → Leads p (xs ++ ys) q
unfolding Leads
leads_append [] p mid q ys h k = subst (λ m. Leads m ys q) h k
leads_append (e ∷ xs) p mid q ys h k = (h.0, leads_append xs (edited p e) mid q ys h.1 k)

le_or_lt : (m n : ℕ) → (m ≤ n) ⊎ (n < m)
le_or_lt m n = grind arith

within : (m n : ℕ) → ((m ≤ n → ⊥) → ⊥) → m ≤ n
within m n h = elim (le_or_lt m n) [ inl le ↦ le | inr lt ↦ absurd (h (λ le. omega (arith, lt, le))) ]

-- a frame that is added is within the limits
one_fits : (p : CircuitAndRows) (row : List Tern) → NoneApplies (Forbids p (add_frame row))
    → (length p.rows + 1 ≤ frame_limit) × ((p.circuit.max_var + 1) * (length p.rows + 1) ≤ cell_limit)
one_fits p row none = (
  within _ _ (λ far. none fault.Limit (λ h. far (omega (arith, h.1)))),
  within _ _ (λ far. none fault.Limit (λ h. far h.0)),
)

-- so are all of those that are added
pub all_fit : (n : ℕ) (p q : CircuitAndRows) (row : List Tern) → Leads p (replicate (suc n) (add_frame row)) q
    → (length p.rows + suc n ≤ frame_limit) × ((p.circuit.max_var + 1) * (length p.rows + suc n) ≤ cell_limit)
unfolding Leads
all_fit zero p q row h = one_fits p row h.0
all_fit (suc n) p q row h =
    let e : length (p.rows ++ row ∷ []) + suc n ≡ length p.rows + suc (suc n) = omega (arith, length-append p.rows (row ∷ [])) in
    let r = all_fit n (edited p (add_frame row)) q row h.1 in
    (subst (λ m. m ≤ frame_limit) e r.0, subst (λ m. (p.circuit.max_var + 1) * m ≤ cell_limit) e r.1)

-- no more frames are taken off than there are
pub all_there : (n : ℕ) (p q : CircuitAndRows) → Leads p (replicate n drop_frame) q → n ≤ length p.rows
unfolding Leads
all_there zero p q h = omega arith
all_there (suc n) p q h =
    let some : 0 < length p.rows = positive p.rows (h.0 fault.Empty) in
    let r : n ≤ length (take (length p.rows - 1) p.rows) = all_there n (edited p drop_frame) q h.1 in
    omega (arith, some, r, length-take-le (length p.rows - 1) p.rows (omega arith))
  where
    positive : (rows : List (List Tern)) → (rows ≡ [] → ⊥) → 0 < length rows
    positive [] h = absurd (h refl)
    positive (row ∷ rows) h = omega arith

-- an edit of each pair of two lists
abbrev pub paired : (ℕ → Tern → Edit) → List ℕ → List Tern → List Edit
paired f xs ws = map (λ pair. f pair.0 pair.1) (zip xs ws)

pub paired_next : (f : ℕ → Tern → Edit) (n d : ℕ) (xs : List ℕ) (ws : List Tern) → n < length xs → length ws ≡ length xs
    → paired f (drop n xs) (drop n ws) ≡ f (get_or xs n d) (get_or ws n Zero) ∷ paired f (drop (n + 1) xs) (drop (n + 1) ws)
paired_next f n d xs ws lt e =
    let r : suc n ≡ n + 1 = omega arith in
    subst (λ m. paired f (drop n xs) (drop n ws) ≡ f (get_or xs n d) (get_or ws n Zero) ∷ paired f (drop m xs) (drop m ws)) r
    (next n xs ws lt e)
  where
    next : (n : ℕ) (xs : List ℕ) (ws : List Tern) → n < length xs → length ws ≡ length xs
        → paired f (drop n xs) (drop n ws) ≡ f (get_or xs n d) (get_or ws n Zero) ∷ paired f (drop (suc n) xs) (drop (suc n) ws)
    next n [] ws lt e = absurd (omega arith)
    next n (x ∷ xs) [] lt e = absurd (omega (arith, e))
    next zero (x ∷ xs) (w ∷ ws) lt e = refl
    next (suc n) (x ∷ xs) (w ∷ ws) lt e = next n xs ws (omega (arith, lt)) (omega (arith, e))

pub paired_end : (f : ℕ → Tern → Edit) (n : ℕ) (xs : List ℕ) (ws : List Tern) → length xs ≤ n → paired f (drop n xs) (drop n ws) ≡ []
paired_end f n xs ws le = ap (λ (ys : List ℕ). paired f ys (drop n ws)) (drop_all n xs le)

-- these edits, the first of which is done
pub leads_step : (p mid q : CircuitAndRows) (e : Edit) (now rest : List Edit) → now ≡ e ∷ rest → Leads p (e ∷ []) mid
    → Leads mid rest q → Leads p now q
leads_step p mid q e now rest is h k = subst (λ es. Leads p es q) (sym is) (leads_append (e ∷ []) p mid q rest h k)

-- these edits, some of which are done
pub leads_some : (p mid q : CircuitAndRows) (now some rest : List Edit) → now ≡ some ++ rest → Leads p some mid
    → Leads mid rest q → Leads p now q
leads_some p mid q now some rest is h k = subst (λ es. Leads p es q) (sym is) (leads_append some p mid q rest h k)

pub leads_none : (p : CircuitAndRows) (now : List Edit) → now ≡ [] → Leads p now p
leads_none p now is = subst (λ es. Leads p es p) (sym is) (leads_end p p refl)

-- one of so many times the same
pub repeated_next : (n m : ℕ) (e : Edit) → n < m → replicate (m - n) e ≡ e ∷ replicate (m - (n + 1)) e
repeated_next n m e lt =
    let r : m - n ≡ suc (m - (n + 1)) = omega arith in
    ap (λ k. replicate k e) r

pub repeated_end : (n m : ℕ) (e : Edit) → m ≤ n → replicate (m - n) e ≡ []
repeated_end n m e le =
    let r : m - n ≡ 0 = omega arith in
    ap (λ k. replicate k e) r

-- the edits of one of so many frames
pub frames_next : (f : ℕ → List Edit) (t last : ℕ) → t < last
    → flat_map f (range_with_len t (last - t)) ≡ f t ++ flat_map f (range_with_len (t + 1) (last - (t + 1)))
frames_next f t last lt =
    let r : last - t ≡ suc (last - (t + 1)) = omega arith in
    ap (λ k. flat_map f (range_with_len t k)) r

pub frames_end : (f : ℕ → List Edit) (t last : ℕ) → last ≤ t → flat_map f (range_with_len t (last - t)) ≡ []
frames_end f t last le =
    let r : last - t ≡ 0 = omega arith in
    ap (λ k. flat_map f (range_with_len t k)) r

-- the frames that are left where one more is taken off
pub rows_less : (all rows new : List (List Tern)) (n : ℕ) → n < length all → rows ≡ take (length all - n) all
    → new ≡ take (length rows - 1) rows → new ≡ take (length all - (n + 1)) all
rows_less all rows new n lt is now =
    let size : length rows ≡ length all - n = ap length is ∙ length-take-le (length all - n) all (omega arith) in
    let less : length rows - 1 ≡ length all - (n + 1) = omega (arith, size) in
    now ∙ (λ i. take (less i) (is i)) ∙ take-take-le (length all - (n + 1)) (length all - n) all (omega arith)
  where
    take-take-le : (i j : ℕ) (xs : List (List Tern)) → i ≤ j → take i (take j xs) ≡ take i xs
    take-take-le zero j xs le = refl
    take-take-le (suc i) zero xs le = absurd (omega (arith, le))
    take-take-le (suc i) (suc j) [] le = refl
    take-take-le (suc i) (suc j) (x ∷ xs) le = ap (λ (ys : List (List Tern)). x ∷ ys) (take-take-le i j xs (omega (arith, le)))

pub rows_there : (all rows : List (List Tern)) (n : ℕ) → n < length all → rows ≡ take (length all - n) all → 0 < length rows
rows_there all rows n lt is =
    let size : length rows ≡ length all - n = ap length is ∙ length-take-le (length all - n) all (omega arith) in
    omega (arith, size, lt)

-- the frames that are there where one more is appended
pub rows_more : (all rows new : List (List Tern)) (row : List Tern) (n : ℕ) → rows ≡ all ++ replicate n row → new ≡ rows ++ row ∷ []
    → new ≡ all ++ replicate (n + 1) row
rows_more all rows new row n is now =
    now ∙ ap (λ (xs : List (List Tern)). xs ++ row ∷ []) is ∙ append_assoc all (replicate n row) (row ∷ [])
    ∙ ap (λ (xs : List (List Tern)). all ++ xs) (replicate_more n row)

-- a latch keeps its literal
pub restarted_lits : (l : ℕ) (w : Tern) (xs : List Latch) → map (λ (x : Latch). x.lit) (map (restarted l w) xs) ≡ map (λ (x : Latch). x.lit) xs
restarted_lits l w [] = refl
restarted_lits l w (x ∷ xs) = ap (λ (ls : List ℕ). x.lit ∷ ls) (restarted_lits l w xs)
