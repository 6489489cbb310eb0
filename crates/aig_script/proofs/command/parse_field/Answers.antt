use Rattle.std.proofs.Common.{◌≡◌, ◌∷◌, length, refl, sym, ap, ◌∙◌, arith}
use Rattle.aig_bytes.proofs.Results.{on_none}
use Rattle.aig_script.proofs.Digits.{one_end}
use Rattle.aig_script.proofs.command.parse_field.Goals as goal

pub returns-in_err-end-clause-none : goal.returns-in_err-end-clause-none
returns-in_err-end-clause-none c =
    let h = c.in_ok-number.ensures in
    let kind = rw c.in_ok-number.was at c.split_number.type_inv in
    on_none c.from_residual-in_err-end.result (λ n rest small e.
    let same : c.in_ok-number.rest.now ≡ 32 ∷ rest =
    one_end c.in_ok-number.number n c.in_ok-number.rest.now (32 ∷ rest) h.ends refl (sym h.some ∙ e) in
    omega (arith, c.in_err-end.ensures.cases, ap length same))

pub returns-then-end-eq32-clause-only : goal.returns-then-end-eq32-clause-only
returns-then-end-eq32-clause-only c n rest small e =
    let h = c.in_ok-number.ensures in
    let kind = rw c.in_ok-number.was at c.split_number.type_inv in
    let same : c.in_ok-end.end.now ∷ c.in_ok-end.after.now ≡ 32 ∷ rest =
    sym c.in_ok-end.ensures.cases.0
    ∙ one_end c.in_ok-number.number n c.in_ok-number.rest.now (32 ∷ rest) h.ends refl (sym h.some ∙ e) in
    cc

pub returns-else-end-eq32-clause-none : goal.returns-else-end-eq32-clause-none
returns-else-end-eq32-clause-none c n rest small e =
    let h = c.in_ok-number.ensures in
    let kind = rw c.in_ok-number.was at c.split_number.type_inv in
    let same : c.in_ok-end.end.now ∷ c.in_ok-end.after.now ≡ 32 ∷ rest =
    sym c.in_ok-end.ensures.cases.0
    ∙ one_end c.in_ok-number.number n c.in_ok-number.rest.now (32 ∷ rest) h.ends refl (sym h.some ∙ e) in
    let is : c.in_ok-end.end.now ≡ 32 = cc in
    omega (arith, is, c.if-end-eq32.false)
