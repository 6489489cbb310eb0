use Rattle.std.proofs.Common.{ℕ, ap, ◌∷◌, []}
use Rattle.aig_bytes.proofs.GatherLemmas.{gathers_then, gathers_stop, gathers_failed, gathers_same, gathers_held}
use Rattle.aig_format.proofs.writer.section.put_symbol.Goals as goal

pub returns-then-push_symbol : goal.returns-then-push_symbol
returns-then-push_symbol g c =
    gathers_held (rw c.letter-letter.ensures at (c.push_symbol.ensures.pushed c.if-push_symbol.true))

pub returns-in_err-put_all : goal.returns-in_err-put_all
returns-in_err-put_all g c =
    let h = c.from_residual.ensures.0 in
    rw (← c.push_symbol.ensures.full c.if-push_symbol.false)
    (gathers_stop _ h (gathers_failed (gathers_same c.in_err-put_all.ensures (ap (λ (b : ℕ). b ∷ []) c.letter-letter.ensures)) h))

pub returns-in_err-put_field : goal.returns-in_err-put_field
returns-in_err-put_field g c =
    let h = c.from_residual-in_err-put_field.ensures.0 in
    rw (← c.push_symbol.ensures.full c.if-push_symbol.false)
    (gathers_then (gathers_same c.in_ok-put_all.ensures (ap (λ (b : ℕ). b ∷ []) c.letter-letter.ensures))
    (gathers_stop _ h (gathers_stop _ h (gathers_failed c.in_err-put_field.ensures h))))

pub returns-in_err-put_all-2 : goal.returns-in_err-put_all-2
returns-in_err-put_all-2 g c =
    let h = c.from_residual-in_err-put_all-2.ensures.0 in
    rw (← c.push_symbol.ensures.full c.if-push_symbol.false)
    (gathers_then (gathers_same c.in_ok-put_all.ensures (ap (λ (b : ℕ). b ∷ []) c.letter-letter.ensures))
    (gathers_stop _ h (gathers_then c.in_ok-put_field.ensures (gathers_failed c.in_err-put_all-2.ensures h))))

pub returns : goal.returns
returns g c =
    rw (← c.push_symbol.ensures.full c.if-push_symbol.false)
    (gathers_then (gathers_same c.in_ok-put_all.ensures (ap (λ (b : ℕ). b ∷ []) c.letter-letter.ensures))
    (gathers_then (gathers_then c.in_ok-put_field.ensures c.in_ok-put_all-2.ensures) c.put_all-3.ensures))
