use Rattle.std.proofs.Common.{ℕ, [], ◌∷◌, ap}
use Rattle.aig_bytes.proofs.WriteLemmas.{writes_then, writes_stop, writes_same}
use Rattle.aig_commands.proofs.entries.write_json_place.Goals as goal

pub returns-in_err-write_all : goal.returns-in_err-write_all
returns-in_err-write_all g c = writes_stop _ c.in_err-write_all.ensures c.from_residual.ensures.0

pub returns-in_err-write_all-2 : goal.returns-in_err-write_all-2
returns-in_err-write_all-2 g c =
    writes_then c.in_ok-write_all.ensures
    (writes_stop _ (writes_same c.in_err-write_all-2.ensures (ap (λ (l : ℕ). l ∷ []) c.letter.ensures))
    c.from_residual-in_err-write_all-2.ensures.0)

pub returns-in_err-write_all-3 : goal.returns-in_err-write_all-3
returns-in_err-write_all-3 g c =
    writes_then c.in_ok-write_all.ensures
    (writes_then (writes_same c.in_ok-write_all-2.ensures (ap (λ (l : ℕ). l ∷ []) c.letter.ensures))
    (writes_stop _ c.in_err-write_all-3.ensures c.from_residual-in_err-write_all-3.ensures.0))

pub returns-in_err-write_number : goal.returns-in_err-write_number
returns-in_err-write_number g c =
    writes_then c.in_ok-write_all.ensures
    (writes_then (writes_same c.in_ok-write_all-2.ensures (ap (λ (l : ℕ). l ∷ []) c.letter.ensures))
    (writes_then c.in_ok-write_all-3.ensures
    (writes_stop _ c.in_err-write_number.ensures c.from_residual-in_err-write_number.ensures.0)))

pub returns : goal.returns
returns g c =
    writes_then c.in_ok-write_all.ensures
    (writes_then (writes_same c.in_ok-write_all-2.ensures (ap (λ (l : ℕ). l ∷ []) c.letter.ensures))
    (writes_then c.in_ok-write_all-3.ensures (writes_then c.in_ok-write_number.ensures c.write_all-4.ensures)))
