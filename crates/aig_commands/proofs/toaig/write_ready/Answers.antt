use Rattle.std.proofs.Common.{[], refl, sym, ap, ◌∙◌, inl, inr}
use Rattle.aig_command.specs.Command.{CommandEnds}
use Rattle.std.proofs.lemmas.Bool.{false≢true}
use Rattle.aig_format.specs.declared.reader.header.Format.TheVariants.{Binary}
use Rattle.aig_format.specs.Spelling.{short_binary}
use Rattle.aig_commands.specs.Toaig.{Converts}
use Rattle.aig_commands.proofs.toaig.write_ready.Goals as goal
use Rattle.aig_command.proofs.Written.{got_none, one_at_most, output_alone, written_ends}

pub returns-then-is_binary_ready-clause-ends : goal.returns-then-is_binary_ready-clause-ends
returns-then-is_binary_ready-clause-ends g c =
    let raw = c.args.circuit.now in
    rw c.as_output.ensures
    (written_ends g.W.Write.written g.W.Write.failures c.args.out.now c.write_binary.new.out (Converts Binary raw) (short_binary raw)
    c.write_binary.result c.write_binary.ensures.written
    (inl (c.is_binary_ready.ensures.0 c.if-is_binary_ready.true, refl)))

pub returns-clause-ends : goal.returns-clause-ends
returns-clause-ends g c =
    let raw = c.args.circuit.now in
    let p = c.in-Ok.ensures.parts in
    rw c.as_output-2.ensures
    (written_ends g.W.Write.written g.W.Write.failures c.args.out.now c.write_binary-2.new.out (Converts Binary raw)
    (short_binary c.in-Ok.renumbered) c.write_binary-2.result c.write_binary-2.ensures.written
    (inr (λ ready. false≢true (sym c.if-is_binary_ready.false ∙ c.is_binary_ready.ensures.1 ready), (p.0, p.1, ap short_binary p.2))))

pub returns-then-is_binary_ready-clause-once : goal.returns-then-is_binary_ready-clause-once
returns-then-is_binary_ready-clause-once g c =
    let raw = c.args.circuit.now in
    rw c.as_output.ensures (record {
      count = one_at_most g.W.Write.written g.W.Write.failures c.args.out.now c.write_binary.new.out (short_binary raw) c.write_binary.result c.write_binary.ensures.written;
      refused = output_alone _ c.write_binary.result;
      output = λ is. (tt, short_binary raw, inl (c.is_binary_ready.ensures.0 c.if-is_binary_ready.true, refl));
    })

pub returns-clause-once : goal.returns-clause-once
returns-clause-once g c =
    let p = c.in-Ok.ensures.parts in
    let text = short_binary c.in-Ok.renumbered in
    rw c.as_output-2.ensures (record {
      count = one_at_most g.W.Write.written g.W.Write.failures c.args.out.now c.write_binary-2.new.out text c.write_binary-2.result c.write_binary-2.ensures.written;
      refused = output_alone _ c.write_binary-2.result;
      output = λ is. (
        tt,
        text,
        inr (λ ready. false≢true (sym c.if-is_binary_ready.false ∙ c.is_binary_ready.ensures.1 ready), (p.0, p.1, ap short_binary p.2)),
      );
    })

pub returns-in_default-clause-ends : goal.returns-in_default-clause-ends
returns-in_default-clause-ends g c =
    CommandEnds.writes_all []
    ((λ ready. false≢true (sym c.if-is_binary_ready.false ∙ c.is_binary_ready.ensures.1 ready)), refl)
    (got_none g.W.Write.written g.W.Write.failures c.args.out.now)
