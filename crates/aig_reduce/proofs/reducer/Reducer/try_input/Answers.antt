use Rattle.std.proofs.Common.{◌≡◌, List, Some, slice_get, refl, sym, ◌∙◌, subst}
use Rattle.std.proofs.lemmas.Bool.{false≢true}
use Rattle.aig_parts.specs.declared.ternary.Tern.{Tern}
use Rattle.aig_values.specs.InputRows.{row_at}
use Rattle.aig_reduce.proofs.Tries.{input_kept, input_taken_back}
use Rattle.aig_reduce.proofs.reducer.Reducer.try_input.Goals as goal

pub returns-then-not-reaches_from : goal.returns-then-not-reaches_from
returns-then-not-reaches_from c = λ raw h.
    let old = c.args.self.now in
    let one = c.put_input.new.bench in
    let two = c.put_input-then-not-reaches_from.new.bench in
    input_taken_back raw old.bench.pair old.property old.start.items h one.pair old.property old.start.items refl refl
    c.args.frame c.args.position c.put_input.ensures two.pair old.property old.start.items c.get-given.result
    (subst (λ (rows : List (List Tern)). slice_get (row_at rows c.args.frame) c.args.position ≡ Some c.get-given.result)
    c.stimulus.ensures.rows c.get-given.ensures) c.put_input-then-not-reaches_from.ensures refl refl
    (λ k. false≢true (sym c.if-not-reaches_from.true ∙ c.reaches_from.ensures.1 k))

pub returns-else-not-reaches_from : goal.returns-else-not-reaches_from
returns-else-not-reaches_from c = λ raw h.
    let old = c.args.self.now in
    input_kept raw old.bench.pair old.property old.start.items h c.put_input.new.bench.pair old.property old.start.items refl
    refl c.args.frame c.args.position c.put_input.ensures (c.reaches_from.ensures.0 c.if-not-reaches_from.false)
