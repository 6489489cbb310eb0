use Rattle.std.proofs.Common.{◌≡◌, ◌<◌, ◌-◌, ◌+◌, ℕ, List, ◌++◌, Some, length, take, drop, slice_get, sym, ap, subst, ◌∙◌, arith}
use Rattle.std.proofs.lemmas.List.{take_all, length-drop}
use Rattle.aig_format.specs.Header.{space, line_end}
use Rattle.aig_format.specs.Spelling.{symbol_line}
use Rattle.aig_format.specs.Spells.{greatest}
use Rattle.aig_format.proofs.BufferedSymbols.{line_spelled}
use Rattle.aig_format.proofs.Numbers.{field_takes}
use Rattle.aig_format.proofs.reader.symbol.symbol_in.Goals as goal

pub returns-clause-line : goal.returns-clause-line
returns-clause-line c =
    let b = c.args.bytes.now in
    let kind = c.in_ok-kind.kind in
    let p = c.in_ok-position.position in
    let start = c.in_ok-position.start in
    let size = c.in_ok-size.size in
    let found = c.in_ok-size.ensures in
    let whole : take (length b - start) (drop start b) ≡ drop start b =
    take_all (length b - start) (drop start b) (omega (arith, length-drop start b)) in
    line_spelled kind p start size b (omega (arith, c.if-bytes-lt9.false)) c.in_ok-kind.ensures c.in_ok-position.ensures.field
    (subst (λ (t : List ℕ). size < length t) whole found.within)
    (subst (λ (t : List ℕ). slice_get t size ≡ Some line_end) whole found.ended)
    ∙ ap (λ (t : List ℕ). symbol_line ((kind, p), take size t) ++ drop (start + size + 1) b) (sym whole)

pub returns-clause-position : goal.returns-clause-position
returns-clause-position c =
    let b = c.args.bytes.now in
    (field_takes greatest space (drop 1 b) c.in_ok-position.position (drop c.in_ok-position.start b) (omega arith) (omega arith)
    c.in_ok-position.ensures.field).1
