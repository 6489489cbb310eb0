use Rattle.std.proofs.Common.{◌≡◌, ◌≤◌, List, length, sym, ap, ◌∙◌, subst}
use Rattle.aig_parts.specs.Limits.{frame_limit}
use Rattle.aig_parts.specs.declared.ternary.Tern.{Tern}
use Rattle.aig_sim.specs.state.Checking.{SpellsFrames}
use Rattle.aig_sim.proofs.VerdictLemmas.{start_same}
use Rattle.aig_sim.proofs.witness.run.read_run.Goals as goal

pub read_start-requires : goal.read_start-requires
read_start-requires c =
    let (w, spells, parts, few) = c.in_ok-parts.ensures.parts in
    (w.start, c.in_ok-parts.parts.rows.now, parts.latches ∙ sym (ap length c.latches.ensures), parts.start_is)

pub read_rows-requires-clause-rows : goal.read_rows-requires-clause-rows
read_rows-requires-clause-rows c =
    let (w, spells, parts, few) = c.in_ok-parts.ensures.parts in (
      w.rows,
      sym parts.frames_are,
      subst (λ n. SpellsFrames n c.in_ok-parts.parts.rows.now w.rows) (sym (ap length c.inputs.ensures)) parts.rows_are,
    )

pub returns-clause-spelled : goal.returns-clause-spelled
returns-clause-spelled c =
    let (w, spells, parts, few) = c.in_ok-parts.ensures.parts in
    let (rest, read) = c.in_ok-start.ensures.read in
    let same : w.rows ≡ c.in_ok-rows.rows.rows = sym (ap (λ r. r.rows) (c.in_ok-rows.ensures w.rows (sym parts.frames_are)
    (subst (λ n. SpellsFrames n c.in_ok-parts.parts.rows.now w.rows) (sym (ap length c.inputs.ensures)) parts.rows_are))) in (
      w,
      spells,
      sym (start_same c.in_ok-start.start.items rest parts read),
      same,
      subst (λ (rows : List (List Tern)). length rows ≤ frame_limit) same few,
    )
