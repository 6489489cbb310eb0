use Rattle.std.proofs.Common.{◌≡◌, [], length, sym, ap, ◌∙◌}
use Rattle.std.specs.Fmt.{decimal}
use Rattle.std.proofs.lemmas.Bool.{eqb-false}
use Rattle.std.proofs.lemmas.List.{append-nil}
use Rattle.aig_bytes.proofs.Results.{on_none}
use Rattle.aig_script.proofs.Digits.{one_end}
use Rattle.aig_script.proofs.command.parse_number.Goals as goal

pub returns-in_err-number-clause-none : goal.returns-in_err-number-clause-none
returns-in_err-number-clause-none c =
    on_none c.from_residual.result (λ n small e. c.in_err-number.ensures.none n [] small tt (e ∙ sym (append-nil (decimal n))))

pub returns-else-is_empty-clause-none : goal.returns-else-is_empty-clause-none
returns-else-is_empty-clause-none c n small e =
    let h = c.in_ok-number.ensures in
    let t = rw c.in_ok-number.was at c.split_number.type_inv in
    let none : c.in_ok-number.rest.now ≡ [] =
    one_end c.in_ok-number.number n c.in_ok-number.rest.now [] h.ends tt (sym h.some ∙ e ∙ sym (append-nil (decimal n))) in
    eqb-false (length c.in_ok-number.rest.now) 0 (sym c.is_empty.ensures ∙ c.if-is_empty.false) (ap length none)
