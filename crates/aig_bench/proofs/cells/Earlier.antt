-- Values do not depend on the rows of later frames.
use Rattle.std.proofs.Common.{◌≡◌, ℕ, ◌<◌, List, slice_get, ◌∙◌, arith}
use Rattle.aig_parts.specs.declared.ternary.Tern.{Tern}
use Rattle.aig_parts.specs.declared.raw.Raw.{Raw}
use Rattle.aig_base.specs.Value as value
use Rattle.aig_base.specs.Value.{Value, start_of}

pub value_before : (raw : Raw) (start : List Tern) (old new : List (List Tern)) (n : ℕ)
    → ((t : ℕ) → t < n → slice_get new t ≡ slice_get old t) → {t l : ℕ} {w : Tern} → t < n
    → Value raw start old t l w → Value raw start new t l w
value_before raw start old new n same lt (value.constant_false t) = value.constant_false t
value_before raw start old new n same lt (value.constant_true t) = value.constant_true t
value_before raw start old new n same lt (value.input t p l w row at is cell) =
    value.input t p l w row at (same t lt ∙ is) cell
value_before raw start old new n same lt (value.latch_first p x w at is) = value.latch_first p x w at is
value_before raw start old new n same lt (value.latch_next t p x w at v) =
    value.latch_next t p x w at (value_before raw start old new n same (omega arith) v)
value_before raw start old new n same lt (value.gate t q g a b at va vb) =
    value.gate t q g a b at (value_before raw start old new n same lt va)
    (value_before raw start old new n same lt vb)
value_before raw start old new n same lt (value.negated t l w over odd v) =
    value.negated t l w over odd (value_before raw start old new n same lt v)
