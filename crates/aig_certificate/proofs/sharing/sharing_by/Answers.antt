use Rattle.std.proofs.Common.{◌+◌, ◌<◌, ℕ, List, All, option_copied, sym, ap, subst, ◌∙◌}
use Rattle.std.proofs.lemmas.Result.{err_from_is_err_and}
use Rattle.aig_parts.specs.Literal.{variable}
use Rattle.aig_base.specs.Sound.{StandsTwice}
use Rattle.aig_certificate.specs.declared.mapping.Pair.{Pair}
use Rattle.aig_certificate.specs.state.Lines.{lines_of}
use Rattle.aig_certificate.specs.state.Said.{AreSaid, RefusesSaid, own_variables}
use Rattle.aig_certificate.proofs.MappingLines.{known_of}
use Rattle.aig_certificate.proofs.ReadPairs.{is_mapping, wrong_pairs, wrong_said}
use Rattle.aig_certificate.proofs.SaidPairs.{pairs_listed}
use Rattle.aig_certificate.proofs.sharing.sharing_by.Goals as goal

pub returns-in_err-pairs-clause-refused : goal.returns-in_err-pairs-clause-refused
returns-in_err-pairs-clause-refused c =
    let p = err_from_is_err_and c.from_residual.result c.from_residual.ensures.1 in
    rw (p.1, p.2) (wrong_pairs c.args.model.now c.args.certificate.now c.args.first.now (lines_of (option_copied c.args.lines))
    c.requires.named c.requires.lines c.in-Some.count c.in-Some.ensures.few c.in-Some.ensures.some c.in_err-pairs.field-0.0
    c.in_err-pairs.ensures.refused)

pub said_by-requires : goal.said_by-requires
said_by-requires c =
    subst (All (λ (p : Pair). variable p.certificate < c.max_var.result + 1)) (sym c.as_slice.ensures)
    (pairs_listed c.args.model.now c.args.certificate.now c.facts-2.ensures.sound c.in_ok-pairs.pairs c.in_ok-pairs.ensures.each
    (c.max_var.result + 1) (ap (λ (n : ℕ). n + 1) c.max_var.ensures.value))

pub returns-in_err-said-clause-refused : goal.returns-in_err-said-clause-refused
returns-in_err-said-clause-refused c =
    let p = err_from_is_err_and c.from_residual-in_err-said.result c.from_residual-in_err-said.ensures.1 in
    rw (p.1, p.2) (wrong_said c.args.model.now c.args.certificate.now c.args.first.now (lines_of (option_copied c.args.lines))
    c.requires.named c.requires.lines (known_of c.args.model.now c.args.certificate.now c.facts.ensures c.facts-2.ensures) c.in-Some.count c.in-Some.ensures.few c.in-Some.ensures.some c.in_ok-pairs.pairs
    c.in_ok-pairs.ensures.count c.in_ok-pairs.ensures.each c.in_ok-pairs.ensures.lines c.in_err-said.field-0.0
    (subst (λ (ps : List Pair). RefusesSaid ps c.in_err-said.field-0.0) c.as_slice.ensures c.in_err-said.ensures.refused))

pub returns-clause-sharing : goal.returns-clause-sharing
returns-clause-sharing c = record {
  is = (
    c.requires.named,
    is_mapping c.args.model.now c.args.certificate.now c.args.first.now (lines_of (option_copied c.args.lines)) c.requires.named
        c.requires.lines c.in-Some.count c.in-Some.ensures.few c.in-Some.ensures.some c.in_ok-pairs.pairs c.in_ok-pairs.ensures.count
        c.in_ok-pairs.ensures.lines,
    record {
      each = c.in_ok-pairs.ensures.each;
      once = subst (λ (ps : List Pair). (v : ℕ) → StandsTwice (own_variables ps) v → ⊥) c.as_slice.ensures c.in_ok-said.ensures.once;
    },
  );
  table = (
    c.in_ok-said.ensures.size ∙ ap (λ (n : ℕ). n + 1) c.max_var.ensures.value,
    subst (λ (ps : List Pair). AreSaid ps c.in_ok-said.said) c.as_slice.ensures c.in_ok-said.ensures.said,
  );
}
