use Rattle.std.proofs.Common.{◌∙◌, inl}
use Rattle.aig_sat.specs.declared.proof.spelling.Spelling.TheVariants.{Text, Binary}
use Rattle.aig_sat.specs.proof.Steps.{BeginsSo}
use Rattle.aig_sat.proofs.reading.TakingLemmas.{deletion_so, first_is}
use Rattle.aig_sat.proofs.proof.either.look.Goals as goal

pub returns-then-first-eq97-clause-letter : goal.returns-then-first-eq97-clause-letter
returns-then-first-eq97-clause-letter g c =
    first_is c.args.bytes.now c.peek.new.self (g.R.Read.left c.args.reader.now) (g.R.Read.left c.peek.new.reader) c.in-Some.first
    (BeginsSo Binary) c.in_ok-first.ensures.shows.bytes (c.in_ok-first.ensures.shows.next ∙ c.in-Some.is) tt tt (λ rest. inl c.if-first-eq97.true)

pub returns-then-first-ne100-clause-letter : goal.returns-then-first-ne100-clause-letter
returns-then-first-ne100-clause-letter g c =
    first_is c.args.bytes.now c.peek.new.self (g.R.Read.left c.args.reader.now) (g.R.Read.left c.peek.new.reader) c.in-Some.first
    (BeginsSo Text) c.in_ok-first.ensures.shows.bytes (c.in_ok-first.ensures.shows.next ∙ c.in-Some.is) tt tt (λ rest. c.if-first-eq97.false)

pub returns-clause-letter : goal.returns-clause-letter
returns-clause-letter g c =
    first_is c.args.bytes.now c.peek.new.self (g.R.Read.left c.args.reader.now) (g.R.Read.left c.peek.new.reader) c.in-Some.first
    (BeginsSo c.spelling_of.result) c.in_ok-first.ensures.shows.bytes (c.in_ok-first.ensures.shows.next ∙ c.in-Some.is) tt tt
    (λ rest. deletion_so c.spelling_of.result c.in-Some.first rest c.if-first-ne100.false)
