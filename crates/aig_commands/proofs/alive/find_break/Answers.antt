use Rattle.std.proofs.Common.{◌≡◌, ◌∙◌, List, Option, ℕ, ap, subst, length, sym}
use Rattle.std.specs.Option.{unwrap_or}
use Rattle.aig_commands.specs.CheckAlive.{SaysOfRun}
use Rattle.aig_commands.proofs.AliveRuns.{says_of_run, spelled_fits}
use Rattle.aig_commands.proofs.alive.find_break.Goals as goal

pub first_break-requires-clause-start : goal.first_break-requires-clause-start
first_break-requires-clause-start c =
    (spelled_fits c.args.circuit.now c.args.witness.now _ _ c.in_ok-run.ensures.spelled).latches

pub returns-clause-shown : goal.returns-clause-shown
returns-clause-shown c =
    let raw = c.args.circuit.now in
    let run' = c.in_ok-run.run' in
    let start = run'.start.items in
    let rows = run'.rows.rows in
    let found = c.in_ok-found.found in
    let spelled = c.in_ok-run.ensures.spelled in
    let k = c.unwrap_or-frames.result in
    let asked_is : k ≡ unwrap_or c.args.frames (length rows) =
    c.unwrap_or-frames.ensures ∙ ap (unwrap_or c.args.frames) c.frames.ensures.frames in
    record {
      start = start;
      rows = rows;
      spelled = spelled;
      says = subst (λ (n : ℕ). SaysOfRun raw start rows n found) asked_is
          (says_of_run raw c.facts.ensures start rows k (spelled_fits raw c.args.witness.now start rows spelled) found
          c.in_ok-found.ensures.some c.in_ok-found.ensures.none);
    }
