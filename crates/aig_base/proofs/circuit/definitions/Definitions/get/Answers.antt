use Rattle.std.proofs.lemmas.Option.{IfSome_then}
use Rattle.aig_bytes.proofs.Results.{none_then}
use Rattle.aig_base.proofs.circuits.Tables.{defines_in_order, defines_numbered, free_in_order, free_numbered}
use Rattle.aig_base.proofs.circuits.Tables.{free_past, number_at}
use Rattle.aig_base.proofs.circuit.definitions.Definitions.get.Goals as goal

pub returns-in-InOrder-clause-found : goal.returns-in-InOrder-clause-found
returns-in-InOrder-clause-found c =
    let order = rw c.in-InOrder.is at c.requires.describes in
    IfSome_then c.numbered_definition.result c.numbered_definition.ensures.found
    (λ d has. defines_in_order c.args.raw.now c.args.variable d order has)

pub returns-in-InOrder-clause-none : goal.returns-in-InOrder-clause-none
returns-in-InOrder-clause-none c =
    let order = rw c.in-InOrder.is at c.requires.describes in
    none_then c.numbered_definition.result (λ no. free_in_order c.args.raw.now c.args.variable order no)
    c.numbered_definition.ensures.none

pub returns-in-Some-clause-found : goal.returns-in-Some-clause-found
returns-in-Some-clause-found c =
    let g = c.in-Some.ensures.lookup in
    let table = rw c.in-Listed.is at c.requires.describes in
    let is = number_at c.args.raw.now c.deref.result.now c.args.variable c.in-Some.number.now
    (rw c.deref.ensures.value table) g.3.0 g.1 in
    IfSome_then c.numbered_definition-in-Some.result c.numbered_definition-in-Some.ensures.found
    (λ d has. defines_numbered c.args.raw.now c.args.variable c.in-Some.number.now d has is)

pub returns-in-Some-clause-none : goal.returns-in-Some-clause-none
returns-in-Some-clause-none c =
    let g = c.in-Some.ensures.lookup in
    let table = rw c.in-Listed.is at c.requires.describes in
    let is = number_at c.args.raw.now c.deref.result.now c.args.variable c.in-Some.number.now
    (rw c.deref.ensures.value table) g.3.0 g.1 in
    none_then c.numbered_definition-in-Some.result
    (λ no. free_numbered c.args.raw.now c.args.variable c.in-Some.number.now no is)
    c.numbered_definition-in-Some.ensures.none

pub returns-in-None-clause-none : goal.returns-in-None-clause-none
returns-in-None-clause-none c =
    let table = rw c.in-Listed.is at c.requires.describes in
    free_past c.args.raw.now c.deref.result.now c.args.variable
    (rw c.deref.ensures.value table) c.requires.circuit.sound c.in-None.ensures.lookup.3
