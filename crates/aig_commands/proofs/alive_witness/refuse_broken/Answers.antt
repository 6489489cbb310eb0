use Rattle.std.proofs.Common.{◌≡◌, Option, None, Some, sym, subst}
use Rattle.std.specs.Prelude.{IfNone, IfSome}
use Rattle.aig_sim.specs.declared.witness.breaks.Break.{Break}
use Rattle.aig_sim.specs.Breaks.{BreaksNothing, IsFirstBreak}
use Rattle.aig_commands.proofs.AliveRuns.{nothing_breaks, something_breaks}
use Rattle.aig_commands.proofs.alive_witness.refuse_broken.Goals as goal

pub returns-in-None-clause-kept : goal.returns-in-None-clause-kept
returns-in-None-clause-kept c =
    let raw = c.args.circuit.now in
    let start = c.args.run.now.start.items in
    let rows = c.args.run.now.rows.rows in
    let k = c.args.frames in
    nothing_breaks raw c.facts.ensures start rows k
    (record { latches = c.requires.start; inputs = rw c.requires.width at c.width.ensures.rows })
    (subst (λ (found : Option Break). IfNone found (BreaksNothing raw start rows k)) c.in-None.is c.in_ok-first_break.ensures.none)

pub returns-in-Some-clause-none : goal.returns-in-Some-clause-none
returns-in-Some-clause-none c =
    let raw = c.args.circuit.now in
    let start = c.args.run.now.start.items in
    let rows = c.args.run.now.rows.rows in
    let k = c.args.frames in
    let first = subst (λ (found : Option Break). IfSome found (IsFirstBreak raw start rows k)) c.in-Some.is
    c.in_ok-first_break.ensures.some in
    λ none. something_breaks raw c.facts.ensures start rows k c.in-Some.field-0 first.applies
