use Rattle.std.proofs.Common.{◌≡◌, ◌++◌, [], ℕ, List, map, append-nil, sym, ap, ◌∙◌, arith}
use Rattle.std.proofs.lemmas.Result.{on_ok_weaker}
use Rattle.aig_names.specs.Header.{scope_line, name_lines, closings}
use Rattle.aig_names.specs.Signals.{section_names}
use Rattle.aig_names.specs.state.Naming.{named}
use Rattle.aig_names.proofs.PathLemmas.{append_then}
use Rattle.aig_names.proofs.HeaderLemmas.{section_of, no_section}
use Rattle.aig_names.proofs.header.push_section.Goals as goal

pub returns : goal.returns
returns c =
    let old = c.args.text.now.items in
    let t1 = c.push_scope.new.text.items in
    let t2 = c.push_signals.new.text.items in
    let t3 = c.push_closings.new.text.items in
    let (kind, count, scope, shape) = c.args.row.now in
    let names = section_names c.args.symbols.now kind c.args.first count in
    let lines = name_lines shape.now [] names in
    let is : map named c.deref.result.now ≡ names = ap (map named) c.deref.ensures.value ∙ c.in_ok-signals.ensures in
    on_ok_weaker c.push_closings.result
    (λ h.
    append_then old t1 t3 (scope_line scope.now) (lines ++ closings 1) c.in_ok-push_scope.ensures
    (append_then t1 t2 t3 lines (closings 1)
    (c.in_ok-push_signals.ensures ∙ ap (λ xs. t1 ++ name_lines shape.now [] xs) is) h)
    ∙ ap (λ (xs : List ℕ). old ++ xs) (section_of c.args.symbols.now kind scope.now shape.now c.args.first count (omega (arith, c.if-count-eq0.false))))
    c.push_closings.ensures

pub returns-then-count-eq0 : goal.returns-then-count-eq0
returns-then-count-eq0 c =
    let (kind, count, scope, shape) = c.args.row.now in
    sym (ap (λ (xs : List ℕ). c.args.text.now.items ++ xs)
    (sym (no_section c.args.symbols.now kind scope.now shape.now c.args.first count c.if-count-eq0.true))
    ∙ append-nil c.args.text.now.items)
