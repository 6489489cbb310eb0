-- What `why` answers, and when it has no answer.
use Rattle.std.proofs.Common.{◌≡◌, ◌≢◌, ℕ, [], List, length, map, replicate, Option, None, Some, Result, Ok, Err, slice_get}
use Rattle.std.proofs.Common.{refl, sym, ap, subst, ◌∙◌}
use Rattle.std.specs.Prelude.{IsErrAnd}
use Rattle.std.proofs.lemmas.List.{length-map}
use Rattle.aig_parts.specs.declared.latch.Latch.{Latch}
use Rattle.aig_parts.specs.declared.raw.Raw.{Raw}
use Rattle.aig_parts.specs.declared.symbols.Kind.{Kind}
use Rattle.aig_parts.specs.declared.symbols.Kind.TheVariants as kinds
use Rattle.aig_parts.specs.declared.symbols.Kind.TheVariants.{Bad, Input}
use Rattle.aig_parts.specs.declared.ternary.Tern.{Tern}
use Rattle.aig_base.specs.Circuit.{IsCircuit}
use Rattle.aig_base.specs.Value.{start_of}
use Rattle.aig_bench.specs.BenchState.{CircuitAndRows}
use Rattle.aig_signals.specs.Lookup.{Means, Unknown}
use Rattle.aig_signals.specs.Names.{first_name}
use Rattle.aig_signals.specs.Signals.{runs_from, section_signals, signal_of}
use Rattle.aig_signals.specs.declared.signal.Signal.{Signal}
use Rattle.aig_signals.specs.declared.text.Naming.{Naming}
use Rattle.aig_sim.specs.Reached.{IsAskedFor, IsFirstReached, ReachesNone}
use Rattle.aig_why.specs.Why.{IsQuestion, run_of}
use Rattle.aig_why.specs.Named.{IsNamingOf, NamesNothing}
use Rattle.aig_shell.specs.declared.refusal.Refusal.{Refusal}
use Rattle.aig_shell.specs.declared.refusal.Refusal.TheVariants as refusals
use Rattle.aig_shell.specs.declared.session.Session.{Session}
use Rattle.aig_shell.specs.Answers.{Answers, HasNoAnswer, calm}
use Rattle.aig_shell.specs.Ends.{EndsQuery}
use Rattle.aig_shell.specs.Explained.{Explains, IsFrameOrLast}
use Rattle.aig_shell.specs.Request.{Request, why, why_first}
use Rattle.aig_shell.specs.Session.{IsIn, own_circuit}
use Rattle.aig_shell.specs.State.{SessionState, circuit_of}
use Rattle.aig_shell.proofs.editing.Impossible.{small_variables}
use Rattle.aig_shell.proofs.words.Meanings.{means_none}
use Rattle.aig_shell.proofs.saved.Saved.{first_in, own_differs, own_is, own_size}

-- ---- names

signals_at : Raw → Kind → ℕ → List Signal
signals_at raw kind n = map (signal_of raw kind (runs_from raw kind 0 n)) (runs_from raw kind 0 n)

own_inputs : (raw : Raw) (latches : List Latch)
    → section_signals (record raw { latches = latches }) Input ≡ section_signals raw Input
unfolding section_signals runs_from first_name
own_inputs raw latches = refl

own_latches : (raw : Raw) (latches : List Latch) → length latches ≡ length raw.latches
    → section_signals (record raw { latches = latches }) kinds.Latch ≡ section_signals raw kinds.Latch
unfolding section_signals runs_from first_name signals_at
own_latches raw latches e =
    ap (signals_at raw kinds.Latch)
    (length-map latches (λ (x : Latch). x.lit) ∙ e ∙ sym (length-map raw.latches (λ (x : Latch). x.lit)))

-- the names of the bench's circuit are those of the circuit with the resets of the file
pub names_own : (session : Session) (n : Naming)
    → n.inputs.signals ≡ section_signals session.run.bench.pair.circuit Input
    → n.latches.signals ≡ section_signals session.run.bench.pair.circuit kinds.Latch
    → IsNamingOf (own_circuit session) session.run.bench.pair n
names_own session n inputs latches = record {
  resets = own_differs session;
  inputs = inputs ∙ sym (own_inputs session.run.bench.pair.circuit session.run.latches.items);
  latches = latches ∙ sym (own_latches session.run.bench.pair.circuit session.run.latches.items (own_size session));
}

pub names_nothing : (raw : Raw) (n : Naming) → n.inputs.values ≡ replicate (length raw.inputs) None
    → n.latches.values ≡ replicate (length (map (λ (x : Latch). x.lit) raw.latches)) None → NamesNothing raw n
names_nothing raw n inputs latches = record {
  inputs = inputs;
  latches = latches ∙ ap (λ (k : ℕ). replicate {A = Option Tern} k None) (length-map raw.latches (λ (x : Latch). x.lit));
}

-- ---- refusals

pub query_err : {A : Type 0} (session : Session) (r : Request) (result : Result A Refusal) (text : List ℕ) (refusal : Refusal)
    → IsErrAnd result (λ e. e ≡ refusal)
    → (refusal ≢ refusals.Memory → (s : SessionState) → IsIn session s → HasNoAnswer s r) → EndsQuery session r result text
query_err session r (Ok x) text refusal is none = absurd is
query_err session r (Err e) text refusal is none = λ other. none (λ m. other (is ∙ m))

pub query_memory : {A : Type 0} (session : Session) (r : Request) (result : Result A Refusal) (text : List ℕ)
    → IsErrAnd result (λ e. e ≡ refusals.Memory) → EndsQuery session r result text
query_memory session r (Ok x) text is = absurd is
query_memory session r (Err e) text is = λ other. absurd (other is)

module _ (session : Session) (s : SessionState) (h : IsIn session s) where
  pub no_name : (name : List ℕ) (frame : Option (List ℕ)) → IsCircuit session.run.bench.pair.circuit
      → Unknown session.run.bench.pair.circuit name → HasNoAnswer s (why name frame)
  no_name name frame circuit unknown text texts after (t, literals, is_frame, means, explains, no_texts, calmed) =
      means_none session.run.bench.pair.circuit (small_variables session.run.bench.pair.circuit circuit) name literals unknown
      (subst (λ (p : CircuitAndRows). Means p.circuit name literals) h.pair means)

  pub no_frame : (name : List ℕ) (frame : Option (List ℕ))
      → ((t : ℕ) → IsFrameOrLast frame (length session.run.bench.pair.rows) t → ⊥) → HasNoAnswer s (why name frame)
  no_frame name frame none text texts after (t, literals, is_frame, means, explains, no_texts, calmed) =
      none t (subst (λ (p : CircuitAndRows). IsFrameOrLast frame (length p.rows) t) h.pair is_frame)

  pub none_reached : ReachesNone (own_circuit session) (start_of session.run.bench.pair.circuit) session.run.bench.pair.rows
      session.property → HasNoAnswer s why_first
  none_reached none text texts after (t, k, l, first, is_bad, explains, no_texts, calmed) =
      subst (λ (raw : Raw). ReachesNone raw (start_of s.pair.circuit) s.pair.rows session.property) (own_is session s h)
      (subst (λ (p : CircuitAndRows). ReachesNone (own_circuit session) (start_of p.circuit) p.rows session.property)
      (sym h.pair) none) t k (subst (λ (o : Option ℕ). IsAskedFor o k) h.property first.asked_for) first.reaches

  -- ---- answers

  explains_in : (name literals : List ℕ) (t : ℕ) (text : List ℕ)
      → Explains (own_circuit session) (run_of session.run.bench.pair) name literals t text
      → Explains (circuit_of s) (run_of s.pair) name literals t text
  explains_in name literals t text e =
      subst (λ (raw : Raw). Explains raw (run_of s.pair) name literals t text) (own_is session s h)
      (subst (λ (p : CircuitAndRows). Explains (own_circuit session) (run_of p) name literals t text) (sym h.pair) e)

  pub name_answered : (name literals : List ℕ) (frame : Option (List ℕ)) (t : ℕ) (text : List ℕ)
      → IsFrameOrLast frame (length session.run.bench.pair.rows) t → Means session.run.bench.pair.circuit name literals
      → Explains (own_circuit session) (run_of session.run.bench.pair) name literals t text
      → Answers s (why name frame) text [] (calm s)
  name_answered name literals frame t text is means e = (
    t,
    literals,
    subst (λ (p : CircuitAndRows). IsFrameOrLast frame (length p.rows) t) (sym h.pair) is,
    subst (λ (p : CircuitAndRows). Means p.circuit name literals) (sym h.pair) means,
    explains_in name literals t text e,
    refl,
    refl,
  )

  pub property_answered : (name literals : List ℕ) (t k : ℕ) (text : List ℕ)
      → IsFirstReached (own_circuit session) (start_of session.run.bench.pair.circuit) session.run.bench.pair.rows
      session.property t k → IsQuestion session.run.bench.pair.circuit None (Some k) name literals
      → Explains (own_circuit session) (run_of session.run.bench.pair) name literals t text
      → Answers s why_first text [] (calm s)
  property_answered name literals t k text reached (l, at, are, called) e = (
    t,
    k,
    l,
    subst (λ (o : Option ℕ). IsFirstReached (circuit_of s) (start_of s.pair.circuit) s.pair.rows o t k) (sym h.property)
        (first_in session s h session.property t k reached),
    ap (λ (p : CircuitAndRows). slice_get p.circuit.bad k) h.pair ∙ at,
    subst (λ (ls : List ℕ). Explains (circuit_of s) (run_of s.pair) (first_name s.pair.circuit Bad k) ls t text) are
        (subst (λ (n : List ℕ). Explains (circuit_of s) (run_of s.pair) n literals t text)
        (called ∙ ap (λ (p : CircuitAndRows). first_name p.circuit Bad k) (sym h.pair)) (explains_in name literals t text e)),
    refl,
    refl,
  )
