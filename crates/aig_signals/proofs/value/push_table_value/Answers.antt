use Rattle.std.proofs.Common.{List, ℕ, ◌++◌, sym, ap, ◌∙◌}
use Rattle.std.proofs.lemmas.Result.{on_ok_weaker}
use Rattle.aig_signals.proofs.TableLemmas.{table_known, table_one, table_some, table_unknown}
use Rattle.aig_signals.proofs.value.push_table_value.Goals as goal

pub returns-then-bits-eq1 : goal.returns-then-bits-eq1
returns-then-bits-eq1 c =
    on_ok_weaker c.push_binary.result
    (λ e. e ∙ ap (λ (xs : List ℕ). c.args.text.now.items ++ xs) (table_one c.args.bits.now c.if-bits-eq1.true))
    c.push_binary.ensures

pub returns-then-are_unknown : goal.returns-then-are_unknown
returns-then-are_unknown c =
    c.in_ok-push.ensures.items
    ∙ ap (λ (xs : List ℕ). c.args.text.now.items ++ xs)
    (table_unknown c.args.bits.now c.if-bits-eq1.false (sym c.are_unknown.ensures ∙ c.if-are_unknown.true))

pub returns-then-are_known : goal.returns-then-are_known
returns-then-are_known c =
    on_ok_weaker c.push_hexadecimal.result
    (λ e. e ∙ ap (λ (xs : List ℕ). c.args.text.now.items ++ xs) (table_known c.args.bits.now c.if-bits-eq1.false
    (sym c.are_unknown.ensures ∙ c.if-are_unknown.false) (sym c.are_known.ensures ∙ c.if-are_known.true)))
    c.push_hexadecimal.ensures

pub returns : goal.returns
returns c =
    on_ok_weaker c.push_binary-2.result
    (λ e. e ∙ ap (λ (xs : List ℕ). c.args.text.now.items ++ xs) (table_some c.args.bits.now c.if-bits-eq1.false
    (sym c.are_unknown.ensures ∙ c.if-are_unknown.false) (sym c.are_known.ensures ∙ c.if-are_known.false)))
    c.push_binary-2.ensures
