-- Edits leave the entries of sections, but for which literals the outputs have.
use Rattle.std.proofs.Common.{◌≡◌, ◌≢◌, ℕ, ◌+◌, List, [], ◌∷◌, ◌++◌, map, slice_set, refl, sym, ap, subst, ◌∙◌}
use Rattle.std.proofs.lemmas.List.{length-set}
use Rattle.aig_parts.specs.declared.gate.Gate.{Gate}
use Rattle.aig_parts.specs.declared.latch.Latch.{Latch}
use Rattle.aig_parts.specs.declared.raw.Raw.{Raw}
use Rattle.aig_parts.specs.declared.symbols.Kind.{Kind}
use Rattle.aig_parts.specs.declared.symbols.Kind.TheVariants as kinds
use Rattle.aig_parts.specs.declared.ternary.Tern.{Tern}
use Rattle.aig_base.specs.Changes.{restarted, rewired, next_gate}
use Rattle.aig_bench.specs.BenchState.{CircuitAndRows}
use Rattle.aig_bench.specs.Edit.{Edit, edited, rewire, set_reset, set_bit, add_frame, drop_frame, append_gate}
use Rattle.aig_bench.specs.Edit.{set_output}
use Rattle.aig_signals.specs.Names.{literals_of}
use Rattle.aig_shell.specs.Session.{HasSameEntries}
use Rattle.aig_shell.specs.State.{Leads}

-- gates are no entries
of_gates : (raw : Raw) (m : ℕ) (gates : List Gate) (kind : Kind)
    → literals_of raw kind ≡ literals_of (record raw { max_var = m; gates = gates }) kind
of_gates raw m gates kinds.Input = refl
of_gates raw m gates kinds.Latch = refl
of_gates raw m gates kinds.Output = refl
of_gates raw m gates kinds.Bad = refl
of_gates raw m gates kinds.Constraint = refl
of_gates raw m gates kinds.Justice = refl
of_gates raw m gates kinds.Fairness = refl

restarted_literals : (latches : List Latch) (l : ℕ) (w : Tern)
    → map (λ (x : Latch). x.lit) latches ≡ map (λ (x : Latch). x.lit) (map (restarted l w) latches)
restarted_literals [] l w = refl
restarted_literals (x ∷ latches) l w = ap (λ (ls : List ℕ). x.lit ∷ ls) (restarted_literals latches l w)

of_resets : (raw : Raw) (l : ℕ) (w : Tern) (kind : Kind)
    → literals_of raw kind ≡ literals_of (record raw { latches = map (restarted l w) raw.latches }) kind
of_resets raw l w kinds.Input = refl
of_resets raw l w kinds.Latch = restarted_literals raw.latches l w
of_resets raw l w kinds.Output = refl
of_resets raw l w kinds.Bad = refl
of_resets raw l w kinds.Constraint = refl
of_resets raw l w kinds.Justice = refl
of_resets raw l w kinds.Fairness = refl

of_outputs : (raw : Raw) (outputs : List ℕ) (kind : Kind) → kind ≢ kinds.Output
    → literals_of raw kind ≡ literals_of (record raw { outputs = outputs }) kind
of_outputs raw outputs kinds.Input other = refl
of_outputs raw outputs kinds.Latch other = refl
of_outputs raw outputs kinds.Output other = absurd (other refl)
of_outputs raw outputs kinds.Bad other = refl
of_outputs raw outputs kinds.Constraint other = refl
of_outputs raw outputs kinds.Justice other = refl
of_outputs raw outputs kinds.Fairness other = refl

edited_entries : (raw : Raw) (p : CircuitAndRows) (e : Edit) → HasSameEntries raw p.circuit → HasSameEntries raw (edited p e).circuit
edited_entries raw p (rewire l a b) h = record {
  outputs = h.outputs;
  others = λ kind other. h.others kind other ∙ of_gates p.circuit p.circuit.max_var (map (rewired l a b) p.circuit.gates) kind;
}
edited_entries raw p (set_reset l w) h = record {
  outputs = h.outputs;
  others = λ kind other. h.others kind other ∙ of_resets p.circuit l w kind;
}
edited_entries raw p (set_bit t i w) h = h
edited_entries raw p (add_frame row) h = h
edited_entries raw p drop_frame h = h
edited_entries raw p (append_gate a b) h = record {
  outputs = h.outputs;
  others = λ kind other. h.others kind other ∙ of_gates p.circuit (p.circuit.max_var + 1) (p.circuit.gates ++ next_gate p.circuit a b ∷ []) kind;
}
edited_entries raw p (set_output i l) h = record {
  outputs = h.outputs ∙ sym (length-set p.circuit.outputs i l);
  others = λ kind other. h.others kind other ∙ of_outputs p.circuit (slice_set p.circuit.outputs i l) kind other;
}

pub leads_entries : (raw : Raw) (edits : List Edit) (p q : CircuitAndRows) → HasSameEntries raw p.circuit → Leads p edits q
    → HasSameEntries raw q.circuit
unfolding Leads
leads_entries raw [] p q h k = subst (λ (r : CircuitAndRows). HasSameEntries raw r.circuit) (sym k) h
leads_entries raw (e ∷ edits) p q h k = leads_entries raw edits (edited p e) q (edited_entries raw p e h) k.1
