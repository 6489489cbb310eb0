use Rattle.std.proofs.Common.{ℕ, List, [], ◌∷◌, length, count_by, ap, ◌∙◌}
use Rattle.std.specs.Prelude.{codes}
use Rattle.std.specs.List.{flat_map}
use Rattle.aig_bytes.proofs.WriteLemmas.{writes_same}
use Rattle.aig_commands.specs.Info.{is_constant, is_impossible, starts_at_one, fact_number_line, number_lines}
use Rattle.aig_commands.proofs.info.write_counts.Goals as goal

pub returns : goal.returns
unfolding number_lines
returns g c =
    writes_same c.write_numbers.ensures (λ i.
    flat_map {X = List ℕ × ℕ} {A = ℕ} (λ n. fact_number_line n.0 n.1) (
    (codes "variables", c.max_var.ensures.value i) ∷ (codes "inputs", length (c.inputs.ensures i))
    ∷ (codes "latches", length (c.latches.ensures i)) ∷ (codes "outputs", length (c.outputs.ensures i))
    ∷ (codes "gates", length (c.gates.ensures i)) ∷ (codes "bad", length (c.bad.ensures i))
    ∷ (codes "constant", (c.constants.ensures ∙ ap (count_by is_constant) c.bad-2.ensures) i)
    ∷ (codes "constraints", length (c.constraints.ensures i))
    ∷ (codes "impossible", (c.impossible.ensures ∙ ap (count_by is_impossible) c.constraints-2.ensures) i) ∷ (codes "justice", length (c.justice.ensures i))
    ∷ (codes "fairness", length (c.fairness.ensures i))
    ∷ (codes "uninitialised", c.uninitialised.ensures i)
    ∷ (codes "resets", (c.resets.ensures ∙ ap (count_by starts_at_one) c.latches-2.ensures) i)
    ∷ (codes "levels", c.args.facts.now.levels) ∷ (codes "fanout", c.args.facts.now.fan_out)
    ∷ (codes "symbols", (c.len.ensures.len ∙ ap length c.symbols.ensures) i)
    ∷ (codes "comment", c.comment_size.ensures i) ∷ []))
