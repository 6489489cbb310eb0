use Rattle.std.proofs.Common.{◌≡◌, ◌∷◌, [], ◌++◌, List, length, take, refl, sym, ap, ◌∙◌, subst, arith}
use Rattle.std.proofs.lemmas.List.{length-take-le, take_all, take_more}
use Rattle.aig_parts.specs.declared.ternary.Tern.{Tern}
use Rattle.aig_values.specs.InputRows.{InputRows}
use Rattle.aig_sim.specs.state.Checking.{BeginsWithRow}
use Rattle.aig_sim.proofs.VerdictLemmas.{begins_with_row, row_was_read}
use Rattle.aig_sim.proofs.witness.reader.push_rows.Goals as goal

pub loop-frame-init : goal.loop-frame-init
loop-frame-init c = record {
  row = c.requires.row;
  width = refl;
  rows = λ given size h. (h.text_is, c.requires.none);
}

pub read_values-rest-requires : goal.read_values-rest-requires
read_values-rest-requires c =
    let (given, size, h) = c.requires.text in
    subst (λ n. BeginsWithRow n c.loop-frame.rest.now) (sym c.loop-frame.invariant.row)
    (begins_with_row c.args.rows.now.width c.loop-frame.rest.now given c.loop-frame._frame h.widths
    (c.loop-frame.invariant.rows given size h).0 (omega (arith, size, c.loop-frame-test.true)))

pub push-requires-clause-width : goal.push-requires-clause-width
push-requires-clause-width c = omega (arith, c.loop-frame.invariant.row, c.loop-frame.invariant.width)

pub push-requires-clause-room : goal.push-requires-clause-room
push-requires-clause-room c =
    let (given, size, h) = c.requires.text in
    let len = length-take-le c.loop-frame._frame given (omega (arith, size, c.loop-frame-test.true)) in
    let same = ap length (c.loop-frame.invariant.rows given size h).1 in
    let limit = c.requires.limit in
    omega (arith, len, same, limit, c.loop-frame-test.true)

pub loop-frame-preserved : goal.loop-frame-preserved
loop-frame-preserved c = record {
  row = omega (arith, c.loop-frame.invariant.row);
  width = ap (λ (r : InputRows). r.width) c.in_ok-push.ensures.ok ∙ c.loop-frame.invariant.width;
  rows = λ given size h.
      let now = c.loop-frame.invariant.rows given size h in
      let read = row_was_read c.loop-frame.rest.now c.read_values-rest.result.now given c.loop-frame._frame
      c.read_values-rest.new.values now.0 (omega (arith, size, c.loop-frame-test.true)) c.read_values-rest.ensures in (
        read.1,
        ap (λ (r : InputRows). r.rows) c.in_ok-push.ensures.ok
            ∙ ap (λ (rows : List (List Tern)). rows ++ (c.read_values-rest.new.values ∷ [])) now.1
            ∙ ap (λ (row : List Tern). take c.loop-frame._frame given ++ (row ∷ [])) read.0
            ∙ sym (take_more given c.loop-frame._frame [] (omega (arith, size, c.loop-frame-test.true))),
      );
}

pub returns : goal.returns
returns c = λ given size h.
    let w = c.args.rows.now.width in
    let now = c.loop-frame.invariant.rows given size h in
    let all : take c.loop-frame._frame given ≡ given =
    take_all c.loop-frame._frame given (omega (arith, size, c.loop-frame-test.false)) in
    ap (λ n. let r : InputRows = record { width = n; rows = c.loop-frame.rows.rows } in r) c.loop-frame.invariant.width
    ∙ ap (λ rows. let r : InputRows = record { width = w; rows = rows } in r) (now.1 ∙ all)
