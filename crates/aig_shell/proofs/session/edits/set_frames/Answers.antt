use Rattle.std.proofs.Common.{◌-◌, sym, subst, ◌∙◌}
use Rattle.std.proofs.lemmas.Bool.{false≢true}
use Rattle.aig_bench.specs.BenchState.{BenchState}
use Rattle.aig_shell.specs.State.{AreSettable, Leads, set_edits}
use Rattle.aig_shell.proofs.session.edits.set_frames.Goals as goal

pub set_one_by_one-requires : goal.set_one_by_one-requires
set_one_by_one-requires c =
    let same = c.set_many.ensures.kept (λ h. absurd (false≢true (sym c.if-set_many.false ∙ h))) in
    subst (λ (b : BenchState). AreSettable b.pair c.args.first c.args.end c.args.positions.now c.args.values.now) (sym same) c.requires

pub returns : goal.returns
returns c =
    let same = c.set_many.ensures.kept (λ h. absurd (false≢true (sym c.if-set_many.false ∙ h))) in
    subst
    (λ (b : BenchState). Leads b.pair (set_edits c.args.first (c.args.end - c.args.first) c.args.positions.now c.args.values.now) c.set_one_by_one.new.bench.pair)
    same c.set_one_by_one.ensures
