use Rattle.std.proofs.Common.{ap, sym, ◌∙◌}
use Rattle.std.specs.List.{flat_map}
use Rattle.std.proofs.Common.{false}
use Rattle.aig_format.specs.declared.reader.header.Format.TheVariants.{Ascii}
use Rattle.aig_format.specs.Header.{header_line}
use Rattle.aig_format.specs.state.HeaderCounts.{in_line}
use Rattle.aig_format.specs.Spelling.{literal_line, latch_line, gate_line}
use Rattle.aig_format.proofs.Written.{plain_lines, same_counts}
use Rattle.aig_bytes.proofs.GatherLemmas.{gathers_then, gathers_stop, gathers_failed, gathers_same}
use Rattle.aig_format.specs.Spelling.{ascii}
use Rattle.aig_base.proofs.circuits.ShortGates.{short_gates}
use Rattle.aig_format.proofs.writer.ascii.put_ascii.Goals as goal

pub returns-in_err-put_header : goal.returns-in_err-put_header
unfolding ascii
returns-in_err-put_header g c = let h = c.from_residual.ensures.0 in gathers_stop _ h (gathers_stop _ h (gathers_stop _ h (gathers_stop _ h (gathers_stop _ h (gathers_failed (gathers_same c.in_err-put_header.ensures (ap (λ counts. header_line Ascii 0 (in_line counts)) (c.counts_of.ensures.counts ∙ same_counts c.args.circuit.now c.args.latches.now c.requires))) h)))))

pub returns-in_err-put_literals : goal.returns-in_err-put_literals
unfolding ascii
returns-in_err-put_literals g c = let h = c.from_residual-in_err-put_literals.ensures.0 in gathers_stop _ h (gathers_stop _ h (gathers_stop _ h (gathers_stop _ h (gathers_then (gathers_same c.in_ok-put_header.ensures (ap (λ counts. header_line Ascii 0 (in_line counts)) (c.counts_of.ensures.counts ∙ same_counts c.args.circuit.now c.args.latches.now c.requires))) (gathers_failed (gathers_same c.in_err-put_literals.ensures (ap (flat_map literal_line) c.inputs.ensures)) h)))))

pub returns-in_err-put_latches : goal.returns-in_err-put_latches
unfolding ascii
returns-in_err-put_latches g c = let h = c.from_residual-in_err-put_latches.ensures.0 in gathers_stop _ h (gathers_stop _ h (gathers_stop _ h (gathers_then (gathers_then (gathers_same c.in_ok-put_header.ensures (ap (λ counts. header_line Ascii 0 (in_line counts)) (c.counts_of.ensures.counts ∙ same_counts c.args.circuit.now c.args.latches.now c.requires))) (gathers_same c.in_ok-put_literals.ensures (ap (flat_map literal_line) c.inputs.ensures))) (gathers_failed (gathers_same c.in_err-put_latches.ensures (sym (plain_lines latch_line c.args.latches.now))) h))))

pub returns-in_err-put_properties : goal.returns-in_err-put_properties
unfolding ascii
returns-in_err-put_properties g c = let h = c.from_residual-in_err-put_properties.ensures.0 in gathers_stop _ h (gathers_stop _ h (gathers_then (gathers_then (gathers_then (gathers_same c.in_ok-put_header.ensures (ap (λ counts. header_line Ascii 0 (in_line counts)) (c.counts_of.ensures.counts ∙ same_counts c.args.circuit.now c.args.latches.now c.requires))) (gathers_same c.in_ok-put_literals.ensures (ap (flat_map literal_line) c.inputs.ensures))) (gathers_same c.in_ok-put_latches.ensures (sym (plain_lines latch_line c.args.latches.now)))) (gathers_failed c.in_err-put_properties.ensures h)))

pub returns-in_err-put_gates : goal.returns-in_err-put_gates
unfolding ascii
returns-in_err-put_gates g c = let h = c.from_residual-in_err-put_gates.ensures.0 in gathers_stop _ h (gathers_then (gathers_then (gathers_then (gathers_then (gathers_same c.in_ok-put_header.ensures (ap (λ counts. header_line Ascii 0 (in_line counts)) (c.counts_of.ensures.counts ∙ same_counts c.args.circuit.now c.args.latches.now c.requires))) (gathers_same c.in_ok-put_literals.ensures (ap (flat_map literal_line) c.inputs.ensures))) (gathers_same c.in_ok-put_latches.ensures (sym (plain_lines latch_line c.args.latches.now)))) c.in_ok-put_properties.ensures) (gathers_failed (gathers_same c.in_err-put_gates.ensures (ap (flat_map gate_line) c.gates.ensures)) h))

pub returns : goal.returns
unfolding ascii
returns g c = gathers_then (gathers_then (gathers_then (gathers_then (gathers_then (gathers_same c.in_ok-put_header.ensures (ap (λ counts. header_line Ascii 0 (in_line counts)) (c.counts_of.ensures.counts ∙ same_counts c.args.circuit.now c.args.latches.now c.requires))) (gathers_same c.in_ok-put_literals.ensures (ap (flat_map literal_line) c.inputs.ensures))) (gathers_same c.in_ok-put_latches.ensures (sym (plain_lines latch_line c.args.latches.now)))) c.in_ok-put_properties.ensures) (gathers_same c.in_ok-put_gates.ensures (ap (flat_map gate_line) c.gates.ensures))) c.put_names.ensures

pub put_gates-requires : goal.put_gates-requires
put_gates-requires g c = rw c.gates.ensures (short_gates c.args.circuit.now c.counts_of.ensures.circuit)
