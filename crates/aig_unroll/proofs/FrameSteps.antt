-- One more item of a frame.
use Rattle.std.proofs.Common.{◌≡◌, ℕ, ◌+◌, ◌<◌, ◌*◌, Bool, true, false, List, [], ◌∷◌, ◌++◌, length, map, take, get_or}
use Rattle.std.proofs.Common.{slice_index, Some, slice_get, if◌then◌else◌, refl, sym, ◌∙◌, ap, ap₂, append_assoc, arith}
use Rattle.std.specs.List.{range_with_len}
use Rattle.std.proofs.lemmas.List.FromFn.{map-range_with_len_more}
use Rattle.std.proofs.lemmas.List.Sums.{count_by_more_yes, count_by_more_no}
use Rattle.std.proofs.lemmas.List.{get_or_default}
use Rattle.std.proofs.lemmas.Option.{slice_get-get_or}
use Rattle.aig_parts.specs.declared.gate.Gate.{Gate}
use Rattle.aig_parts.specs.declared.latch.Latch.{Latch}
use Rattle.aig_base.specs.Renumbered.{ready_gate}
use Rattle.aig_unroll.specs.FrameLiteral.{is_uninitialised, uninitialised}
use Rattle.aig_unroll.specs.state.FrameTable.{first_at}

-- one more of the items by their places
pub joined_more : {X : Type 0} (f : ℕ → X) (front old new : List X) (i : ℕ) (x : X)
    → old ≡ front ++ map f (range_with_len 0 i) → new ≡ old ++ x ∷ [] → x ≡ f i
    → new ≡ front ++ map f (range_with_len 0 (i + 1))
joined_more f front old new i x so more is =
    let e : 0 + i ≡ i = omega arith in
    more ∙ ap₂ (λ (xs : List _) (y : _). xs ++ y ∷ []) so is
    ∙ append_assoc front (map f (range_with_len 0 i)) (f i ∷ [])
    ∙ ap (λ (xs : List _). front ++ xs) (sym (map-range_with_len_more f 0 i i e))

-- an item that was read
pub item_at : (xs : List ℕ) (i n : ℕ) → i < length xs → n ≡ get_or xs i n → n ≡ slice_index xs i
item_at xs i n lt is = is ∙ get_or_default xs i n 0 lt

-- a gate by equal sides
pub ready_same : (g : Gate) (lhs a b lhs' a' b' : ℕ) → g ≡ ready_gate lhs a b → lhs ≡ lhs' → a ≡ a' → b ≡ b'
    → g ≡ ready_gate lhs' a' b'
ready_same g lhs a b lhs' a' b' is e0 e1 e2 = is ∙ rw (e0, e1, e2) refl

-- one more latch of the first frame
pub first_more : (latches : List Latch) (offset variable variable' : ℕ) (old new : List ℕ) (i lit : ℕ) (x : Latch)
    (b : Bool)
    → i < length latches → x ≡ get_or latches i x → is_uninitialised x ≡ b
    → variable ≡ offset + uninitialised (take i latches)
    → old ≡ map (first_at latches offset) (range_with_len 0 i)
    → variable' ≡ (if b then variable + 1 else variable) → new ≡ old ++ lit ∷ []
    → lit ≡ (if b then 2 * variable' else x.reset)
    → (variable' ≡ offset + uninitialised (take (i + 1) latches))
    × (new ≡ map (first_at latches offset) (range_with_len 0 (i + 1)))
first_more latches offset variable variable' old new i lit x true lt is own number so up more at =
    let e = count_by_more_yes is_uninitialised latches i x lt (ap is_uninitialised (sym is) ∙ own) in
    let here : slice_get latches i ≡ Some x = slice_get-get_or latches i x lt ∙ ap Some (sym is) in
    let f : lit ≡ first_at latches offset i = rw (here, own) (at ∙ omega arith) in
    (omega arith, joined_more (first_at latches offset) [] old new i lit so more f)
first_more latches offset variable variable' old new i lit x false lt is own number so up more at =
    let e = count_by_more_no is_uninitialised latches i x lt (ap is_uninitialised (sym is) ∙ own) in
    let here : slice_get latches i ≡ Some x = slice_get-get_or latches i x lt ∙ ap Some (sym is) in
    let f : lit ≡ first_at latches offset i = rw (here, own) at in
    (omega arith, joined_more (first_at latches offset) [] old new i lit so more f)
