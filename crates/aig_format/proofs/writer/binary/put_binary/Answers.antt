use Rattle.aig_format.proofs.Written.{small_gates}
use Rattle.std.proofs.Common.{ap, sym, ◌∙◌}
use Rattle.std.specs.List.{flat_map}
use Rattle.std.proofs.Common.{false}
use Rattle.aig_format.specs.declared.reader.header.Format.TheVariants.{Binary}
use Rattle.aig_format.specs.Header.{header_line}
use Rattle.aig_format.specs.state.HeaderCounts.{in_line}
use Rattle.aig_format.specs.Spelling.{implicit_latch_line, gate_deltas}
use Rattle.aig_format.proofs.Written.{plain_lines}
use Rattle.aig_bytes.proofs.GatherLemmas.{gathers_then, gathers_stop, gathers_failed, gathers_same}
use Rattle.aig_format.specs.Spelling.{binary}
use Rattle.aig_format.proofs.writer.binary.put_binary.Goals as goal

pub returns-in_err-put_header : goal.returns-in_err-put_header
unfolding binary
returns-in_err-put_header g c = let h = c.from_residual.ensures.0 in gathers_stop _ h (gathers_stop _ h (gathers_stop _ h (gathers_stop _ h (gathers_failed (gathers_same c.in_err-put_header.ensures (ap (λ counts. header_line Binary 0 (in_line counts)) c.counts_of.ensures.counts)) h))))

pub returns-in_err-put_latches : goal.returns-in_err-put_latches
unfolding binary
returns-in_err-put_latches g c = let h = c.from_residual-in_err-put_latches.ensures.0 in gathers_stop _ h (gathers_stop _ h (gathers_stop _ h (gathers_then (gathers_same c.in_ok-put_header.ensures (ap (λ counts. header_line Binary 0 (in_line counts)) c.counts_of.ensures.counts)) (gathers_failed (gathers_same c.in_err-put_latches.ensures (ap (flat_map (implicit_latch_line false)) c.latches.ensures ∙ sym (plain_lines implicit_latch_line c.args.circuit.now.latches))) h))))

pub returns-in_err-put_properties : goal.returns-in_err-put_properties
unfolding binary
returns-in_err-put_properties g c = let h = c.from_residual-in_err-put_properties.ensures.0 in gathers_stop _ h (gathers_stop _ h (gathers_then (gathers_then (gathers_same c.in_ok-put_header.ensures (ap (λ counts. header_line Binary 0 (in_line counts)) c.counts_of.ensures.counts)) (gathers_same c.in_ok-put_latches.ensures (ap (flat_map (implicit_latch_line false)) c.latches.ensures ∙ sym (plain_lines implicit_latch_line c.args.circuit.now.latches)))) (gathers_failed c.in_err-put_properties.ensures h)))

pub returns-in_err-put_gates : goal.returns-in_err-put_gates
unfolding binary
returns-in_err-put_gates g c = let h = c.from_residual-in_err-put_gates.ensures.0 in gathers_stop _ h (gathers_then (gathers_then (gathers_then (gathers_same c.in_ok-put_header.ensures (ap (λ counts. header_line Binary 0 (in_line counts)) c.counts_of.ensures.counts)) (gathers_same c.in_ok-put_latches.ensures (ap (flat_map (implicit_latch_line false)) c.latches.ensures ∙ sym (plain_lines implicit_latch_line c.args.circuit.now.latches)))) c.in_ok-put_properties.ensures) (gathers_failed (gathers_same c.in_err-put_gates.ensures (ap (flat_map gate_deltas) c.gates.ensures)) h))

pub returns : goal.returns
unfolding binary
returns g c = gathers_then (gathers_then (gathers_then (gathers_then (gathers_same c.in_ok-put_header.ensures (ap (λ counts. header_line Binary 0 (in_line counts)) c.counts_of.ensures.counts)) (gathers_same c.in_ok-put_latches.ensures (ap (flat_map (implicit_latch_line false)) c.latches.ensures ∙ sym (plain_lines implicit_latch_line c.args.circuit.now.latches)))) c.in_ok-put_properties.ensures) (gathers_same c.in_ok-put_gates.ensures (ap (flat_map gate_deltas) c.gates.ensures))) c.put_names.ensures

pub put_gates-requires : goal.put_gates-requires
put_gates-requires g c = rw c.gates.ensures (λ k d lt.
    let ready = c.requires.gates k d lt in (ready.0, ready.1, small_gates c.args.circuit.now c.counts_of.ensures.circuit k d lt))
