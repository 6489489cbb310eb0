use Rattle.std.proofs.Common.{◌/◌, sym, ap, ◌∙◌}
use Rattle.aig_values.specs.state.LiteralCodes.{signed_value}
use Rattle.aig_values.specs.state.Words.{value_in}
use Rattle.aig_values.proofs.LiteralLemmas.{signed_unknown}
use Rattle.aig_values.proofs.WordBits.{no_value}
use Rattle.aig_values.proofs.row.literal_codes.unpack_word.Goals as goal

pub returns-then-bits-eq0 : goal.returns-then-bits-eq0
returns-then-bits-eq0 c = record {
  there = λ k lt. c.unpack_unknown.ensures.there k lt
      ∙ sym (ap (λ n. signed_value (value_in n (k / 2)) k) c.if-bits-eq0.true ∙ ap (λ x. signed_value x k) (no_value (k / 2))
      ∙ signed_unknown k);
  before = c.unpack_unknown.ensures.before;
}
