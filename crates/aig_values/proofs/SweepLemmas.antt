-- Gates that are evaluated at a frame one after the other.
use Rattle.std.proofs.Common.{◌≡◌, ℕ, ◌+◌, ◌<◌, ◌≤◌, List, [], ◌∷◌, length, All, fold, take, get_or, set, refl, sym, ap}
use Rattle.std.proofs.Common.{◌∙◌, subst}
use Rattle.std.proofs.lemmas.List.{length-set, get_or-set_same, set-set, set-get_or, take_all}
use Rattle.std.proofs.lemmas.List.Sums.{fold_more}
use Rattle.aig_parts.specs.declared.ternary.Tern.{Tern}
use Rattle.aig_parts.specs.declared.gate.Gate.{Gate}
use Rattle.aig_parts.specs.Literal.{variable}
use Rattle.aig_values.specs.Cells.{HasVariablesBelow, gate_value, with_gate_value, with_swept_row}
use Rattle.aig_values.specs.InputRows.{with_cell, row_at}

-- an evaluation adds no cell
pub length-swept : (row : List Tern) (gates : List Gate) → length (fold with_gate_value row gates) ≡ length row
length-swept row [] = refl
length-swept row (g ∷ gates) =
    length-swept (with_gate_value row g) gates ∙ length-set row (variable g.lhs) (gate_value row g)

-- the item that a loop reads
pub item_is : {A : Type 0} (P : A → Type 0) (xs : List A) (i : ℕ) (x : A) → All P xs → i < length xs → x ≡ get_or xs i x
    → P x
item_is P xs i x all lt is = subst P (sym is) (all i x lt)

-- the places of the gate that comes next are in the row as it is then
pub places_next : (row now : List Tern) (gates : List Gate) (i : ℕ) (g : Gate) → All (HasVariablesBelow (length row)) gates
    → i < length gates → g ≡ get_or gates i g → now ≡ fold with_gate_value row (take i gates) → HasVariablesBelow (length now) g
places_next row now gates i g all lt is e =
    subst (λ (n : ℕ). HasVariablesBelow n g) (sym (ap length e ∙ length-swept row (take i gates)))
    (item_is (HasVariablesBelow (length row)) gates i g all lt is)

-- a row after one gate more
pub row_more : (row : List Tern) (gates : List Gate) (i : ℕ) (g : Gate) → i < length gates → g ≡ get_or gates i g
    → with_gate_value (fold with_gate_value row (take i gates)) g ≡ fold with_gate_value row (take (i + 1) gates)
row_more row gates i g lt is =
    ap (with_gate_value (fold with_gate_value row (take i gates))) is ∙ sym (fold_more with_gate_value row gates i g lt)

-- rows after no gate
pub swept_none : (rows : List (List Tern)) (t : ℕ) → rows ≡ with_swept_row rows t []
swept_none rows t = sym (set-get_or rows t [])

pub length-with_swept_row : (rows : List (List Tern)) (t : ℕ) (gates : List Gate)
    → length (with_swept_row rows t gates) ≡ length rows
length-with_swept_row rows t gates = length-set rows t (fold with_gate_value (row_at rows t) gates)

-- rows after one gate more
pub swept_more : (rows now : List (List Tern)) (t : ℕ) (gates : List Gate) (i : ℕ) (g : Gate) → t < length rows
    → i < length gates → g ≡ get_or gates i g → now ≡ with_swept_row rows t (take i gates)
    → with_cell now t (variable g.lhs) (gate_value (row_at now t) g) ≡ with_swept_row rows t (take (i + 1) gates)
swept_more rows now t gates i g frame lt is e =
    let row : List Tern = fold with_gate_value (row_at rows t) (take i gates) in
    let here : row_at now t ≡ row = ap (λ (c : List (List Tern)). row_at c t) e ∙ get_or-set_same rows t row [] frame in
    ap (λ (r : List Tern). set now t (with_gate_value r g)) here
    ∙ ap (λ (c : List (List Tern)). set c t (with_gate_value row g)) e
    ∙ set-set rows t row (with_gate_value row g)
    ∙ ap (set rows t) (row_more (row_at rows t) gates i g lt is)

-- all gates were evaluated
pub swept_all : (rows now : List (List Tern)) (t : ℕ) (gates : List Gate) (i : ℕ) → length gates ≤ i
    → now ≡ with_swept_row rows t (take i gates) → now ≡ with_swept_row rows t gates
swept_all rows now t gates i le e = e ∙ ap (with_swept_row rows t) (take_all i gates le)
