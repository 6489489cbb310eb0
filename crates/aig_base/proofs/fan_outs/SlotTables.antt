-- Slots whose counts and gates are in two tables.
use Rattle.std.proofs.Common.{◌≡◌, ℕ, zero, suc, ◌<◌, List, [], ◌∷◌, ◌++◌, length, get_or, set, replicate, slice_get, Some}
use Rattle.std.proofs.Common.{refl, ◌∙◌, ap, arith}
use Rattle.std.proofs.lemmas.Option.{none-some, same_Some}
use Rattle.aig_base.specs.declared.readers.slot_table.Slot.{Slot}
use Rattle.aig_base.specs.state.GateLists.{slots_of}

abbrev pub slot : ℕ → List ℕ → Slot
slot c g = record { count = c; gates = g }

pub slots_length : (cs : List ℕ) (gs : List (List ℕ)) → length cs ≡ length gs → length (slots_of cs gs) ≡ length cs
slots_length [] gs same = refl
slots_length (c ∷ cs) [] same = absurd (omega arith)
slots_length (c ∷ cs) (g ∷ gs) same = ap suc (slots_length cs gs (omega arith))

pub slot_read : (cs : List ℕ) (gs : List (List ℕ)) (v c : ℕ) (g : List ℕ) (d : Slot) → length cs ≡ length gs → v < length cs
    → c ≡ get_or cs v c → g ≡ get_or gs v g → slot c g ≡ get_or (slots_of cs gs) v d
slot_read [] gs v c g d same lt e f = absurd (omega arith)
slot_read (x ∷ cs) [] v c g d same lt e f = absurd (omega arith)
slot_read (x ∷ cs) (y ∷ gs) zero c g d same lt e f = ap (λ z. slot z g) e ∙ ap (slot x) f
slot_read (x ∷ cs) (y ∷ gs) (suc v) c g d same lt e f = slot_read cs gs v c g d (omega arith) (omega arith) e f

-- the gates of a slot
pub slot_gates : (cs : List ℕ) (gs : List (List ℕ)) (v : ℕ) (g : List ℕ) (s : Slot) → slice_get (slots_of cs gs) v ≡ Some s
    → g ≡ get_or gs v g → g ≡ s.gates
slot_gates [] gs v g s at f = absurd (none-some s at)
slot_gates (x ∷ cs) [] v g s at f = absurd (none-some s at)
slot_gates (x ∷ cs) (y ∷ gs) zero g s at f = f ∙ ap (λ (z : Slot). z.gates) (same_Some (slot x y) s at)
slot_gates (x ∷ cs) (y ∷ gs) (suc v) g s at f = slot_gates cs gs v g s at f

-- the count of a slot
pub slot_count : (cs : List ℕ) (gs : List (List ℕ)) (v c : ℕ) (s : Slot) → slice_get (slots_of cs gs) v ≡ Some s
    → c ≡ get_or cs v c → c ≡ s.count
slot_count [] gs v c s at f = absurd (none-some s at)
slot_count (x ∷ cs) [] v c s at f = absurd (none-some s at)
slot_count (x ∷ cs) (y ∷ gs) zero c s at f = f ∙ ap (λ (z : Slot). z.count) (same_Some (slot x y) s at)
slot_count (x ∷ cs) (y ∷ gs) (suc v) c s at f = slot_count cs gs v c s at f

pub slots_set : (cs : List ℕ) (gs : List (List ℕ)) (v c : ℕ) (g : List ℕ)
    → slots_of (set cs v c) (set gs v g) ≡ set (slots_of cs gs) v (slot c g)
slots_set [] gs v c g = refl
slots_set (x ∷ cs) [] zero c g = refl
slots_set (x ∷ cs) [] (suc v) c g = refl
slots_set (x ∷ cs) (y ∷ gs) zero c g = refl
slots_set (x ∷ cs) (y ∷ gs) (suc v) c g = ap (λ ss. slot x y ∷ ss) (slots_set cs gs v c g)

pub slots_pushed : (cs : List ℕ) (gs : List (List ℕ)) (c : ℕ) (g : List ℕ) → length cs ≡ length gs
    → slots_of (cs ++ c ∷ []) (gs ++ g ∷ []) ≡ slots_of cs gs ++ slot c g ∷ []
slots_pushed [] [] c g same = refl
slots_pushed [] (y ∷ gs) c g same = absurd (omega arith)
slots_pushed (x ∷ cs) [] c g same = absurd (omega arith)
slots_pushed (x ∷ cs) (y ∷ gs) c g same = ap (λ ss. slot x y ∷ ss) (slots_pushed cs gs c g (omega arith))

pub slots_replicated : (n c : ℕ) (g : List ℕ) → slots_of (replicate n c) (replicate n g) ≡ replicate n (slot c g)
slots_replicated zero c g = refl
slots_replicated (suc n) c g = ap (λ ss. slot c g ∷ ss) (slots_replicated n c g)
