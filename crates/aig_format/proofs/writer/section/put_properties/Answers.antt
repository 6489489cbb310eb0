use Rattle.aig_format.proofs.Written.{small_sizes}
use Rattle.std.proofs.Common.{ap}
use Rattle.std.specs.List.{flat_map}
use Rattle.aig_format.specs.Spelling.{literal_line, size_line}
use Rattle.aig_bytes.proofs.GatherLemmas.{gathers_then, gathers_stop, gathers_failed, gathers_same}
use Rattle.aig_format.specs.Spelling.{property_lines}
use Rattle.aig_format.proofs.writer.section.put_properties.Goals as goal

pub returns-in_err-put_literals : goal.returns-in_err-put_literals
unfolding property_lines
returns-in_err-put_literals g c = let h = c.from_residual.ensures.0 in gathers_stop _ h (gathers_stop _ h (gathers_stop _ h (gathers_stop _ h (gathers_stop _ h (gathers_failed (gathers_same c.in_err-put_literals.ensures (ap (flat_map literal_line) c.outputs.ensures)) h)))))

pub returns-in_err-put_literals-2 : goal.returns-in_err-put_literals-2
unfolding property_lines
returns-in_err-put_literals-2 g c = let h = c.from_residual-in_err-put_literals-2.ensures.0 in gathers_stop _ h (gathers_stop _ h (gathers_stop _ h (gathers_stop _ h (gathers_then (gathers_same c.in_ok-put_literals.ensures (ap (flat_map literal_line) c.outputs.ensures)) (gathers_failed (gathers_same c.in_err-put_literals-2.ensures (ap (flat_map literal_line) c.bad.ensures)) h)))))

pub returns-in_err-put_literals-3 : goal.returns-in_err-put_literals-3
unfolding property_lines
returns-in_err-put_literals-3 g c = let h = c.from_residual-in_err-put_literals-3.ensures.0 in gathers_stop _ h (gathers_stop _ h (gathers_stop _ h (gathers_then (gathers_then (gathers_same c.in_ok-put_literals.ensures (ap (flat_map literal_line) c.outputs.ensures)) (gathers_same c.in_ok-put_literals-2.ensures (ap (flat_map literal_line) c.bad.ensures))) (gathers_failed (gathers_same c.in_err-put_literals-3.ensures (ap (flat_map literal_line) c.constraints.ensures)) h))))

pub returns-in_err-put_sizes : goal.returns-in_err-put_sizes
unfolding property_lines
returns-in_err-put_sizes g c = let h = c.from_residual-in_err-put_sizes.ensures.0 in gathers_stop _ h (gathers_stop _ h (gathers_then (gathers_then (gathers_then (gathers_same c.in_ok-put_literals.ensures (ap (flat_map literal_line) c.outputs.ensures)) (gathers_same c.in_ok-put_literals-2.ensures (ap (flat_map literal_line) c.bad.ensures))) (gathers_same c.in_ok-put_literals-3.ensures (ap (flat_map literal_line) c.constraints.ensures))) (gathers_failed (gathers_same c.in_err-put_sizes.ensures (ap (flat_map size_line) c.justice.ensures)) h)))

pub returns-in_err-put_justice : goal.returns-in_err-put_justice
unfolding property_lines
returns-in_err-put_justice g c = let h = c.from_residual-in_err-put_justice.ensures.0 in gathers_stop _ h (gathers_then (gathers_then (gathers_then (gathers_then (gathers_same c.in_ok-put_literals.ensures (ap (flat_map literal_line) c.outputs.ensures)) (gathers_same c.in_ok-put_literals-2.ensures (ap (flat_map literal_line) c.bad.ensures))) (gathers_same c.in_ok-put_literals-3.ensures (ap (flat_map literal_line) c.constraints.ensures))) (gathers_same c.in_ok-put_sizes.ensures (ap (flat_map size_line) c.justice.ensures))) (gathers_failed (gathers_same c.in_err-put_justice.ensures (ap (flat_map (λ p. flat_map literal_line p)) c.justice-2.ensures)) h))

pub returns : goal.returns
unfolding property_lines
returns g c = gathers_then (gathers_then (gathers_then (gathers_then (gathers_then (gathers_same c.in_ok-put_literals.ensures (ap (flat_map literal_line) c.outputs.ensures)) (gathers_same c.in_ok-put_literals-2.ensures (ap (flat_map literal_line) c.bad.ensures))) (gathers_same c.in_ok-put_literals-3.ensures (ap (flat_map literal_line) c.constraints.ensures))) (gathers_same c.in_ok-put_sizes.ensures (ap (flat_map size_line) c.justice.ensures))) (gathers_same c.in_ok-put_justice.ensures (ap (flat_map (λ p. flat_map literal_line p)) c.justice-2.ensures))) (gathers_same c.put_literals-4.ensures (ap (flat_map literal_line) c.fairness.ensures))

pub put_sizes-requires : goal.put_sizes-requires
put_sizes-requires g c = rw c.justice.ensures (small_sizes c.args.circuit.now c.requires)
