use Rattle.std.proofs.Common.{◌≡◌, ◌∙◌, ℕ, List, refl}
use Rattle.std.specs.Prelude.{IfSome}
use Rattle.aig_files.specs.declared.part.Part.TheVariants as parts
use Rattle.aig_commands.specs.Select.{SelectsNamed}
use Rattle.aig_commands.specs.declared.select.NamedSelection.{NamedSelection}
use Rattle.aig_program.specs.Ends.{EndsSelectingNamed, seen}
use Rattle.aig_program.proofs.Endings.{ends_unread, known_at_first, nothing, of_any_two, of_left, of_whole, slice_whole, streamed_ends_as}
use Rattle.aig_program.proofs.commands.select.run_named.Goals as goal

pub returns : goal.returns
returns g c =
    let w = g.W.Write.written in
    let f = g.W.Write.failures in
    let out = seen w f c.args.out.now c.streamed.new.out in
    let left = g.F.Read.remaining in
    let k = c.new-circuit in
    let from = c.args.it.selection.from in
    let into = c.args.it.selection.into in
    let positions = c.args.it.selection.positions.items in
    let to = c.args.it.to in
    let r = c.streamed.result in
    let s : NamedSelection = record {
      from = from;
      into = into;
      positions = c.as_slice-positions.result;
      names = c.as_slice-text.result;
    } in
    record {
      ends = of_left (left c.args.it.circuit)
          (λ file. IfSome (left c.args.it.names) (λ text. EndsSelectingNamed out from into positions text to file r))
          (λ file is. of_whole (left c.args.it.names) c.as_slice-text.result.now
          (slice_whole (left c.args.it.names) _ _ c.as_slice-text.ensures.value c.in_ok-names.ensures.whole)
          (λ text. EndsSelectingNamed out from into positions text to file r)
          (streamed_ends_as w f _ _ _ _ (SelectsNamed s to) _ file
          (known_at_first left c.args.it.circuit k.result.first k.result.inner k.ensures.first k.ensures.inner ∙ is)
          (λ answer bytes said. (s, refl, refl, c.as_slice-positions.ensures.value, refl, said))
          c.select_named-done.result r c.select_named-done.ensures.ends c.streamed.ensures.ends));
    }

pub returns-in_err-names : goal.returns-in_err-names
returns-in_err-names g c =
    let w = g.W.Write.written in
    let f = g.W.Write.failures in
    let out = seen w f c.args.out.now c.args.out.now in
    let left = g.F.Read.remaining in
    let from = c.args.it.selection.from in
    let into = c.args.it.selection.into in
    let positions = c.args.it.selection.positions.items in
    let r = c.from_residual in
    record {
      ends =
          of_any_two (left c.args.it.circuit) (left c.args.it.names)
          (λ file text. EndsSelectingNamed out from into positions text c.args.it.to file r.result)
          (λ file text. ends_unread (nothing w f c.args.out.now) r.result c.in_err-names.field-0.0 parts.Names
          c.in_err-names.ensures.fails r.ensures.1);
    }
