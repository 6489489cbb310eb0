use Rattle.std.proofs.Common.{ℕ, List, Option, Some, None, map, sym, ◌∙◌, subst, true≢false}
use Rattle.aig_base.specs.state.Entries.{IsLeastTwice, AreEntries}
use Rattle.aig_base.specs.state.LeastFaulty.{IsLeastAmong, IsKnownLiteral}
use Rattle.aig_parts.specs.Literal.{variable}
use Rattle.aig_base.specs.Sections.{definitions, uses}
use Rattle.aig_base.proofs.checks.Faults.{first_definition, first_redefined, first_undefined, once_from_table}
use Rattle.aig_base.proofs.checks.Faults.{table_from_entries}
use Rattle.aig_base.proofs.circuits.InOrder.{defined_once}
use Rattle.aig_base.proofs.check.tested_definitions.Goals as goal

pub returns-then-are_in_order-clause-once : goal.returns-then-are_in_order-clause-once
returns-then-are_in_order-clause-once c =
    defined_once c.args.raw.now (c.are_in_order.ensures.0 c.if-are_in_order.true) c.requires.range

pub returns-then-not-are_definitions-clause-fault : goal.returns-then-not-are_definitions-clause-fault
returns-then-not-are_definitions-clause-fault c = λ other.
    first_definition c.args.raw.now c.requires.range
    (λ h. true≢false (sym (c.are_definitions.ensures.1 h) ∙ c.if-not-are_definitions.true))

pub returns-in-Some-clause-fault : goal.returns-in-Some-clause-fault
returns-in-Some-clause-fault c = λ other.
    let raw = c.args.raw.now in
    first_redefined raw c.in-Some.variable c.requires.range (c.are_definitions.ensures.0 c.if-not-are_definitions.false)
    (subst (λ (o : Option ℕ). IsLeastTwice (map variable (definitions raw)) o) c.in-Some.is c.in_ok-table.ensures.twice)

pub returns-in-Some-least_missing-clause-fault : goal.returns-in-Some-least_missing-clause-fault
returns-in-Some-least_missing-clause-fault c = λ other.
    let raw = c.args.raw.now in
    let table = c.in_ok-table.field-0.table.items in
    let range = c.requires.range in
    let defs = c.are_definitions.ensures.0 c.if-not-are_definitions.false in
    let entries = subst (λ (o : Option ℕ). AreEntries raw.max_var (map variable
    (definitions raw)) table o) c.in_default.is c.in_ok-table.ensures in
    first_undefined raw table range defs entries c.in-Some-least_missing.variable
    (subst (λ (t : List ℕ). IsLeastAmong (IsKnownLiteral t) variable (uses raw)
    (Some c.in-Some-least_missing.variable)) c.deref.ensures.value
    c.in-Some-least_missing.ensures)

pub returns-clause-once : goal.returns-clause-once
returns-clause-once c =
    let raw = c.args.raw.now in
    let table = c.in_ok-table.field-0.table.items in
    let entries = subst (λ (o : Option ℕ). AreEntries raw.max_var (map variable
    (definitions raw)) table o) c.in_default.is c.in_ok-table.ensures in
    let defs = c.are_definitions.ensures.0 c.if-not-are_definitions.false in
    once_from_table raw table c.requires.range defs entries
    (subst (λ (t : List ℕ). IsLeastAmong (IsKnownLiteral t) variable (uses raw) None) c.deref.ensures.value
    c.in_default-least_missing.ensures)

pub returns-clause-describes : goal.returns-clause-describes
returns-clause-describes c = table_from_entries c.args.raw.now c.in_ok-table.field-0.table.items c.in_ok-table.field-0.again
    c.in_ok-table.ensures

pub least_missing-requires-clause-entries : goal.least_missing-requires-clause-entries
least_missing-requires-clause-entries c =
    let raw = c.args.raw.now in
    rw c.deref.ensures.value
    (subst (λ (o : Option ℕ). AreEntries raw.max_var (map variable (definitions raw)) c.in_ok-table.field-0.table.items o)
    c.in_default.is c.in_ok-table.ensures)
