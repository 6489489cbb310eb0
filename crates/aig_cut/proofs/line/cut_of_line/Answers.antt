use Rattle.std.proofs.Common.{◌≡◌, ℕ, ◌∷◌, List, decimal, Some, ap, sym, subst, ◌∙◌, arith}
use Rattle.std.proofs.lemmas.Bool.{false≢true}
use Rattle.std.proofs.lemmas.Option.{none-some, same_Some}
use Rattle.aig_cut.specs.Cuts.{IsCutIn}
use Rattle.aig_cut.specs.Lines.{cut_line}
use Rattle.aig_cut.specs.state.Marks.{number_in}
use Rattle.aig_cut.proofs.LineLemmas.{parts_same, same_line, small_number}
use Rattle.aig_cut.proofs.line.cut_of_line.Goals as goal

pub returns-in_err-number-clause-none : goal.returns-in_err-number-clause-none
returns-in_err-number-clause-none c is cut there e =
    let parts = parts_same cut c.in_ok-letter.letter 32 c.in_ok-letter.word.now (sym c.in_ok-letter.ensures.some ∙ e) in
    none-some (number_in cut) (sym c.in_err-number.was
    ∙ c.decimal_of.ensures.only (number_in cut) (small_number c.args.circuit.now c.facts.ensures cut there) parts.2)

pub returns-else-is_cut_in-clause-none : goal.returns-else-is_cut_in-clause-none
returns-else-is_cut_in-clause-none c is cut there e =
    let raw = c.args.circuit.now in
    let n : ℕ = c.in_ok-number.number in
    let l : ℕ = c.in_ok-letter.letter in
    let parts = parts_same cut l 32 c.in_ok-letter.word.now (sym c.in_ok-letter.ensures.some ∙ e) in
    let small = small_number raw c.facts.ensures cut there in
    let same : n ≡ number_in cut =
    same_Some n (number_in cut) (sym c.in_ok-number.was ∙ c.decimal_of.ensures.only (number_in cut) small parts.2) in
    let lines : cut_line c.in_ok-cut.cut ≡ cut_line cut =
    sym c.in_ok-cut.ensures.some ∙ ap (λ (d : List ℕ). l ∷ 32 ∷ d) (sym c.in_ok-number.ensures.some)
    ∙ sym c.in_ok-letter.ensures.some ∙ e in
    let one : c.in_ok-cut.cut ≡ cut =
    same_line c.in_ok-cut.cut cut (omega (arith, c.in_ok-cut.ensures.number, same, small)) small lines in
    false≢true (sym c.if-is_cut_in.false ∙ c.is_cut_in.ensures.1 (subst (IsCutIn raw) (sym one) there))
