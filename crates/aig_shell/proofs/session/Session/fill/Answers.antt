use Rattle.std.proofs.Common.{All, sym, subst, ◌∙◌}
use Rattle.aig_parts.specs.Literal.{variable}
use Rattle.aig_base.specs.Sections.{IsDefined}
use Rattle.aig_shell.specs.Tables.{IsCellOrDot}
use Rattle.aig_shell.proofs.tables.Differences.{signal_known}
use Rattle.aig_shell.proofs.session.Session.fill.Goals as goal

pub fill_now-requires : goal.fill_now-requires
fill_now-requires c =
    subst (All (λ l. IsDefined c.args.self.now.run.bench.pair.circuit (variable l))) (sym c.as_slice.ensures.value) c.requires

pub returns : goal.returns
returns c = λ signal are. record {
  current =
      subst (λ ls. IsCellOrDot c.args.self.now.run.bench.pair ls c.args.frame c.fill_now.new.text.items)
      (c.as_slice.ensures.value ∙ are.current) c.in_ok-fill_now.ensures;
  was = λ p h.
      subst (λ ls. IsCellOrDot p ls c.args.frame c.fill_was.new.text.items) (c.as_slice-2.ensures.value ∙ are.was p h)
      (c.in_ok-fill_was.ensures p h
      (subst (All (λ l. IsDefined p.circuit (variable l))) (sym (c.as_slice-2.ensures.value ∙ are.was p h))
      (signal_known p.circuit h.keeps.circuit signal)));
}
