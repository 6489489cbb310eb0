-- What edits leave as it is: the signals, the properties, and the latches but for their resets.
use Rattle.std.proofs.Common.{◌≡◌, ℕ, List, [], ◌∷◌, ◌++◌, length, map, slice_set, refl, sym, ap, subst, ◌∙◌}
use Rattle.std.specs.List.{flat_map, AllZip}
use Rattle.std.proofs.lemmas.List.{length-map, length-set}
use Rattle.aig_parts.specs.declared.gate.Gate.{Gate}
use Rattle.aig_parts.specs.declared.latch.Latch.{Latch}
use Rattle.aig_parts.specs.declared.raw.Raw.{Raw}
use Rattle.aig_parts.specs.declared.symbols.Kind.{Kind}
use Rattle.aig_parts.specs.declared.symbols.Kind.TheVariants.{Input, Bad, Constraint}
use Rattle.aig_parts.specs.declared.symbols.Kind.TheVariants as kinds
use Rattle.aig_parts.specs.declared.ternary.Tern.{Tern}
use Rattle.aig_base.specs.Changes.{restarted, rewired, next_gate}
use Rattle.aig_bench.specs.BenchState.{CircuitAndRows}
use Rattle.aig_bench.specs.Edit.{Edit, edited, rewire, set_reset, set_bit, add_frame, drop_frame, append_gate}
use Rattle.aig_bench.specs.Edit.{set_output}
use Rattle.aig_base.specs.Resets.{IsSameLatch, HasOtherResets}
use Rattle.aig_base.proofs.values.Resets.{latches_length}
use Rattle.aig_signals.specs.declared.signal.Signal.{Signal}
use Rattle.aig_signals.specs.Names.{first_name}
use Rattle.aig_signals.specs.Signals.{runs_from, section_signals, signals_of, signal_of}
use Rattle.aig_shell.specs.State.{Leads}

signals_at : Raw → Kind → ℕ → List Signal
signals_at raw kind n = map (signal_of raw kind (runs_from raw kind 0 n)) (runs_from raw kind 0 n)

-- signals depend on the symbols and on how many entries the sections have
same_signals : (raw : Raw) (m : ℕ) (gates : List Gate) (latches : List Latch) (outputs : List ℕ)
    → length (map (λ (x : Latch). x.lit) latches) ≡ length (map (λ (x : Latch). x.lit) raw.latches) → length outputs ≡ length raw.outputs
    → signals_of (record raw { max_var = m; gates = gates; latches = latches; outputs = outputs }) ≡ signals_of raw
unfolding section_signals runs_from first_name signals_at
same_signals raw m gates latches outputs e f =
    λ i. signals_at raw Input (length raw.inputs) ++ (signals_at raw kinds.Latch (e i) ++ (signals_at raw kinds.Output (f i)
    ++ (signals_at raw Bad (length raw.bad) ++ (signals_at raw Constraint (length raw.constraints) ++ []))))

edited_signals : (p : CircuitAndRows) (e : Edit) → signals_of (edited p e).circuit ≡ signals_of p.circuit
edited_signals p (rewire l a b) =
    same_signals p.circuit p.circuit.max_var (map (rewired l a b) p.circuit.gates) p.circuit.latches p.circuit.outputs refl refl
edited_signals p (set_reset l w) =
    same_signals p.circuit p.circuit.max_var p.circuit.gates (map (restarted l w) p.circuit.latches) p.circuit.outputs
    (length-map (map (restarted l w) p.circuit.latches) (λ (x : Latch). x.lit) ∙ length-map p.circuit.latches (restarted l w)
    ∙ sym (length-map p.circuit.latches (λ (x : Latch). x.lit))) refl
edited_signals p (set_bit t i w) = refl
edited_signals p (add_frame row) = refl
edited_signals p drop_frame = refl
edited_signals p (append_gate a b) =
    same_signals p.circuit _ (p.circuit.gates ++ next_gate p.circuit a b ∷ []) p.circuit.latches p.circuit.outputs refl refl
edited_signals p (set_output i l) =
    same_signals p.circuit p.circuit.max_var p.circuit.gates p.circuit.latches (slice_set p.circuit.outputs i l) refl
    (length-set p.circuit.outputs i l)

pub leads_signals : (edits : List Edit) (p q : CircuitAndRows) → Leads p edits q → signals_of q.circuit ≡ signals_of p.circuit
unfolding Leads
leads_signals [] p q h = ap (λ (r : CircuitAndRows). signals_of r.circuit) h
leads_signals (e ∷ edits) p q h = leads_signals edits (edited p e) q h.1 ∙ edited_signals p e

edited_bad : (p : CircuitAndRows) (e : Edit) → (edited p e).circuit.bad ≡ p.circuit.bad
edited_bad p (rewire l a b) = refl
edited_bad p (set_reset l w) = refl
edited_bad p (set_bit t i w) = refl
edited_bad p (add_frame row) = refl
edited_bad p drop_frame = refl
edited_bad p (append_gate a b) = refl
edited_bad p (set_output i l) = refl

pub leads_bad : (edits : List Edit) (p q : CircuitAndRows) → Leads p edits q → q.circuit.bad ≡ p.circuit.bad
unfolding Leads
leads_bad [] p q h = ap (λ (r : CircuitAndRows). r.circuit.bad) h
leads_bad (e ∷ edits) p q h = leads_bad edits (edited p e) q h.1 ∙ edited_bad p e

restarted_latches : (own now : List Latch) (l : ℕ) (w : Tern) → AllZip IsSameLatch own now
    → AllZip IsSameLatch own (map (restarted l w) now)
restarted_latches [] [] l w h = tt
restarted_latches [] (y ∷ ys) l w h = absurd h
restarted_latches (x ∷ xs) [] l w h = absurd h
restarted_latches (x ∷ xs) (y ∷ ys) l w h = (h.0, restarted_latches xs ys l w h.1)

edited_latches : (own : List Latch) (p : CircuitAndRows) (e : Edit) → AllZip IsSameLatch own p.circuit.latches
    → AllZip IsSameLatch own (edited p e).circuit.latches
edited_latches own p (rewire l a b) h = h
edited_latches own p (set_reset l w) h = restarted_latches own p.circuit.latches l w h
edited_latches own p (set_bit t i w) h = h
edited_latches own p (add_frame row) h = h
edited_latches own p drop_frame h = h
edited_latches own p (append_gate a b) h = h
edited_latches own p (set_output i l) h = h

pub leads_latches : (own : List Latch) (edits : List Edit) (p q : CircuitAndRows) → AllZip IsSameLatch own p.circuit.latches
    → Leads p edits q → AllZip IsSameLatch own q.circuit.latches
unfolding Leads
leads_latches own [] p q h k = subst (λ (r : CircuitAndRows). AllZip IsSameLatch own r.circuit.latches) (sym k) h
leads_latches own (e ∷ edits) p q h k = leads_latches own edits (edited p e) q (edited_latches own p e h) k.1

-- circuits that differ by resets have the same signals
pub alike_signals : (raw other : Raw) → HasOtherResets raw other → signals_of other ≡ signals_of raw
unfolding section_signals runs_from first_name signals_at
alike_signals raw other h =
    let long : length (map (λ (x : Latch). x.lit) other.latches) ≡ length (map (λ (x : Latch). x.lit) raw.latches) =
    length-map other.latches (λ (x : Latch). x.lit) ∙ latches_length raw other h ∙ sym (length-map raw.latches (λ (x : Latch). x.lit)) in
    λ i. signals_at (record raw { symbols = h.symbols i }) Input (length (h.inputs i))
    ++ (signals_at (record raw { symbols = h.symbols i }) kinds.Latch (long i)
    ++ (signals_at (record raw { symbols = h.symbols i }) kinds.Output (length (h.outputs i))
    ++ (signals_at (record raw { symbols = h.symbols i }) Bad (length (h.bad i))
    ++ (signals_at (record raw { symbols = h.symbols i }) Constraint (length (h.constraints i)) ++ []))))
