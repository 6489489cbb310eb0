use Rattle.std.proofs.Common.{◌∷◌, drop}
use Rattle.aig_format.specs.Header.{space, line_end}
use Rattle.aig_format.specs.Spells.{greatest}
use Rattle.aig_format.proofs.Numbers.{field_number, optional_none, optional_some}
use Rattle.aig_format.proofs.reader.buffered_numbers.next_in.Goals as goal

pub returns-in-Some-clause-numbers : goal.returns-in-Some-clause-numbers
returns-in-Some-clause-numbers c =
    let b = c.args.bytes.now in
    let after = drop c.in-Some.at b in (
      line_end ∷ after,
      field_number greatest line_end (drop c.args.from b) c.in-Some.next after c.in-Some.ensures.field,
      optional_none greatest after,
    )

pub returns-clause-numbers : goal.returns-clause-numbers
returns-clause-numbers c =
    let b = c.args.bytes.now in
    let after = drop c.in_ok-next.at b in (
      space ∷ after,
      field_number greatest space (drop c.args.from b) c.in_ok-next.next after c.in_ok-next.ensures.field,
      optional_some greatest after c.in_ok-reset.reset (drop c.in_ok-reset.at b) c.in_ok-reset.ensures.field,
    )
