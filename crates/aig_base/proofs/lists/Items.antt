-- Items of lists, and lists that go together.
use Rattle.std.proofs.Common.{◌≡◌, ℕ, ◌<◌, List, [], length, get_or, Some, slice_get, refl}
use Rattle.std.proofs.lemmas.Option.{slice_get_read}

-- the item that was read at a place, in an equal list
pub item_at : {A : Type 0} (xs ys : List A) (n : ℕ) (x : A) → xs ≡ ys → n < length xs → x ≡ get_or xs n x
    → slice_get ys n ≡ Some x
item_at xs ys n x e lt is = rw (← e) (slice_get_read xs (length xs) n x refl lt is)

-- lists that go together have one length
