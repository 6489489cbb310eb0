use Rattle.std.proofs.Common.{refl}
use Rattle.aig_format.specs.declared.reader.header.Format.TheVariants.{Ascii}
use Rattle.aig_format.specs.Spelling.{short_ascii}
use Rattle.aig_commands.specs.Toaig.{Converts}
use Rattle.aig_commands.proofs.toaig.write_converted.Goals as goal
use Rattle.aig_command.proofs.Written.{one_at_most, output_alone, written_ends}

pub returns-in-Ascii-clause-ends : goal.returns-in-Ascii-clause-ends
returns-in-Ascii-clause-ends g c =
    let raw = c.args.circuit.now in
    rw (c.in-Ascii.is, c.as_output.ensures)
    (written_ends g.W.Write.written g.W.Write.failures c.args.out.now c.write_ascii.new.out (Converts Ascii raw) (short_ascii raw)
    c.write_ascii.result c.write_ascii.ensures.written refl)

pub returns-in-Ascii-clause-once : goal.returns-in-Ascii-clause-once
returns-in-Ascii-clause-once g c =
    let text = short_ascii c.args.circuit.now in
    rw (c.in-Ascii.is, c.as_output.ensures) (record {
      count = one_at_most g.W.Write.written g.W.Write.failures c.args.out.now c.write_ascii.new.out text c.write_ascii.result c.write_ascii.ensures.written;
      refused = output_alone _ c.write_ascii.result;
      output = λ is. (tt, text, refl);
    })

pub returns-in-Binary-clause-ends : goal.returns-in-Binary-clause-ends
returns-in-Binary-clause-ends g c = rw c.in-Binary.is c.write_ready.ensures.ends

pub returns-in-Binary-clause-once : goal.returns-in-Binary-clause-once
returns-in-Binary-clause-once g c = rw c.in-Binary.is c.write_ready.ensures.once
