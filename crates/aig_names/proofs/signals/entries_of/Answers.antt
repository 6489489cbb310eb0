use Rattle.std.proofs.Common.{ℕ, List, map, ap, ◌∙◌, ◌+◌}
use Rattle.aig_names.specs.state.Naming.{entry_names}
use Rattle.aig_names.proofs.HeaderLemmas.{no_entries, entries_more}
use Rattle.aig_names.proofs.signals.entries_of.Goals as goal

pub loop-position-init : goal.loop-position-init
loop-position-init c =
    ap (map entry_names) c.in_ok-entries.ensures.items ∙ no_entries c.args.symbols.now c.args.section.now.kind c.args.section.now.first

pub loop-position-preserved : goal.loop-position-preserved
loop-position-preserved c =
    let p = c.loop-position.position in
    entries_more c.args.symbols.now c.args.section.now.kind c.args.section.now.first p c.loop-position.entries.items c.push.new.self.items
    (record { number = c.args.section.now.first + p; names = c.names_at.result }) c.in_ok-push.ensures.items
    (ap (λ (ns : List (List ℕ)). (c.args.section.now.first + p, ns)) c.names_at.ensures) c.loop-position.invariant
