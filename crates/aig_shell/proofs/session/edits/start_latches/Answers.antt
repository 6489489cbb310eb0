use Rattle.std.proofs.Common.{ℕ, List, [], ◌∷◌, Contains, get_or, arith, sym, subst, ◌∙◌}
use Rattle.aig_parts.specs.declared.ternary.Tern.TheVariants.{Zero}
use Rattle.aig_base.specs.Sections.{IsLatchLiteral}
use Rattle.aig_bench.specs.Edit.{set_reset}
use Rattle.aig_shell.specs.State.{Leads}
use Rattle.aig_shell.proofs.editing.Leading.{leads_step, leads_none, paired_next, paired_end}
use Rattle.aig_shell.proofs.session.edits.start_latches.Goals as goal

pub start_latch-requires : goal.start_latch-requires
start_latch-requires c =
    let l = c.index-latches-place.result in
    subst (λ (ls : List ℕ). Contains ls l) (sym c.loop-place.invariant.same)
    (subst (IsLatchLiteral c.args.bench.now.pair.circuit) (sym c.index-latches-place.is)
    (c.requires.latches c.loop-place.place l c.loop-place-test.true))

pub loop-place-preserved : goal.loop-place-preserved
loop-place-preserved c =
    let inv = c.loop-place.invariant in
    let latches = c.args.latches.now in
    let values = c.args.values.now in
    let n = c.loop-place.place in
    let l = c.index-latches-place.result in
    record {
      leads = λ q h. inv.leads q
          (leads_step _ _ q (set_reset (get_or latches n l) (get_or values n Zero)) _ _
          (paired_next set_reset n l latches values c.loop-place-test.true c.requires.size)
          (subst (λ m. Leads c.loop-place.bench.pair (set_reset m (get_or values n Zero) ∷ []) c.start_latch.new.bench.pair)
          c.index-latches-place.is c.start_latch.ensures.leads) h);
      same = c.start_latch.ensures.latches ∙ inv.same;
    }

pub returns : goal.returns
returns c =
    c.loop-place.invariant.leads c.loop-place.bench.pair
    (leads_none _ _ (paired_end set_reset c.loop-place.place c.args.latches.now c.args.values.now
    (omega (arith, c.loop-place-test.false))))
