use Rattle.std.proofs.Common.{ℕ, [], ◌∷◌, ap}
use Rattle.aig_bytes.proofs.WriteLemmas.{writes_then, writes_stop, writes_same}
use Rattle.aig_commands.proofs.entries.write_text_place.Goals as goal

pub returns-in_err-write_all : goal.returns-in_err-write_all
returns-in_err-write_all g c =
    writes_stop _ (writes_same c.in_err-write_all.ensures (ap (λ (l : ℕ). l ∷ 32 ∷ []) c.letter.ensures)) c.from_residual.ensures.0

pub returns-in_err-write_number : goal.returns-in_err-write_number
returns-in_err-write_number g c =
    writes_then (writes_same c.in_ok-write_all.ensures (ap (λ (l : ℕ). l ∷ 32 ∷ []) c.letter.ensures))
    (writes_stop _ c.in_err-write_number.ensures c.from_residual-in_err-write_number.ensures.0)

pub returns : goal.returns
returns g c =
    writes_then (writes_same c.in_ok-write_all.ensures (ap (λ (l : ℕ). l ∷ 32 ∷ []) c.letter.ensures))
    (writes_then c.in_ok-write_number.ensures c.write_all-2.ensures)
