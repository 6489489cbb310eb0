use Rattle.std.proofs.Common.{◌≡◌, ◌<◌, ◌≤◌, ℕ, List, length, get_or, sym, ap, ◌∙◌, arith}
use Rattle.std.proofs.lemmas.List.{get_or_read}
use Rattle.aig_prompt.specs.state.Texts.{begins}
use Rattle.aig_prompt.proofs.TextLemmas.{text_missing, text_read, text_within}
use Rattle.aig_prompt.proofs.texts.Texts.get.Goals as goal

pub returns-then-place-len : goal.returns-then-place-len
returns-then-place-len c = record {
  text = text_missing c.self.inside.bytes.items c.self.inside.ends.items c.args.self.now c.self.view_is c.args.place
      (omega (arith, c.if-place-len.true, c.len.ensures, c.self.inside.ends.ok));
}

pub start_of-start-requires : goal.start_of-start-requires
start_of-start-requires c = omega (arith, c.if-place-len.false, c.len.ensures, c.self.inside.ends.ok, ap (length {A = ℕ}) c.as_slice.ensures.value)

pub part-requires-clause-ordered : goal.part-requires-clause-ordered
part-requires-clause-ordered c =
    let ends = c.self.inside.ends.items in
    let lt : c.args.place < length ends = omega (arith, c.if-place-len.false, c.len.ensures, c.self.inside.ends.ok) in
    let start : c.start_of-start.result ≡ begins 0 ends c.args.place
    = c.start_of-start.ensures ∙ ap (λ (es : List ℕ). begins 0 es c.args.place) c.as_slice.ensures.value in
    let end : c.index-end.result.now ≡ get_or ends c.args.place 0 = get_or_read ends c.args.place _ lt c.index-end.ensures 0 in
    let within = text_within 0 (length c.self.inside.bytes.items) ends c.args.place c.self.invariant lt in
    let order = within.0 in
    omega (arith, start, end, order)

pub part-requires-clause-within : goal.part-requires-clause-within
part-requires-clause-within c =
    let ends = c.self.inside.ends.items in
    let lt : c.args.place < length ends = omega (arith, c.if-place-len.false, c.len.ensures, c.self.inside.ends.ok) in
    let end : c.index-end.result.now ≡ get_or ends c.args.place 0 = get_or_read ends c.args.place _ lt c.index-end.ensures 0 in
    let within = text_within 0 (length c.self.inside.bytes.items) ends c.args.place c.self.invariant lt in
    let most = within.1 in
    omega (arith, end, most, ap (length {A = ℕ}) c.as_slice-2.ensures.value)

pub returns : goal.returns
returns c =
    let ends = c.self.inside.ends.items in
    let lt : c.args.place < length ends = omega (arith, c.if-place-len.false, c.len.ensures, c.self.inside.ends.ok) in
    let start : c.start_of-start.result ≡ begins 0 ends c.args.place
    = c.start_of-start.ensures ∙ ap (λ (es : List ℕ). begins 0 es c.args.place) c.as_slice.ensures.value in
    let end : c.index-end.result.now ≡ get_or ends c.args.place 0 = get_or_read ends c.args.place _ lt c.index-end.ensures 0 in
    record {
      text = c.part.ensures
          ∙ text_read c.self.inside.bytes.items ends c.args.self.now c.self.view_is c.args.place lt c.as_slice-2.result.now
          c.start_of-start.result c.index-end.result.now c.as_slice-2.ensures.value start end;
    }
