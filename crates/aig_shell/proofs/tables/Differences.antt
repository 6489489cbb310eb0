-- Signals now and in the run that was read.
use Rattle.std.proofs.Common.{◌≡◌, ℕ, zero, suc, ◌+◌, ◌-◌, ◌<◌, ◌≤◌, List, [], ◌∷◌, ◌++◌, All, length, map, take}
use Rattle.std.proofs.Common.{get_or, Option, None, Some, IfSome, IfNone, slice_get, inl, inr, refl, sym, ap, subst}
use Rattle.std.proofs.Common.{◌∙◌, arith}
use Rattle.std.specs.Prelude.{slice_index_or}
use Rattle.std.specs.List.{flat_map, range_with_len}
use Rattle.std.proofs.lemmas.List.{map-append}
use Rattle.std.proofs.lemmas.List.Elements.{All-nil, All-head, All-tail, All-weaker, All-map, All-append}
use Rattle.std.proofs.lemmas.Option.{get_or_from_slice_get, slice_get-get_or}
use Rattle.aig_parts.specs.declared.raw.Raw.{Raw}
use Rattle.aig_parts.specs.declared.symbols.Kind.{Kind}
use Rattle.aig_parts.specs.declared.symbols.Kind.TheVariants.{Output}
use Rattle.aig_parts.specs.declared.ternary.Tern.{Tern}
use Rattle.aig_parts.specs.Literal.{variable}
use Rattle.aig_base.specs.Circuit.{IsCircuit}
use Rattle.aig_base.specs.Sections.{IsDefined}
use Rattle.aig_bench.specs.BenchState.{CircuitAndRows, HasValue}
use Rattle.aig_signals.specs.declared.signal.Signal.{Signal}
use Rattle.aig_signals.specs.Lookup.{signal_literals}
use Rattle.aig_signals.specs.Names.{literal_of, literals_of, sections}
use Rattle.aig_signals.specs.Signals.{runs_of, section_signals, signal_of, signals_of}
use Rattle.aig_signals.specs.Value.{table_text}
use Rattle.aig_signals.proofs.Defined.{section_known}
use Rattle.aig_signals.proofs.RunLemmas.{IsRunIn, IsThere, runs_in}
use Rattle.aig_shell.specs.declared.session.run_kept.FirstRun.{FirstRun}
use Rattle.aig_shell.specs.Session.{KeepsFirst, HasSameEntries}
use Rattle.aig_shell.specs.Tables.{AreBits, IsCellOrDot}
use Rattle.aig_shell.proofs.tables.Shown.{bits_more, range_more}

-- ---- literals
-- the literal of an output that is there
pub output_some : (raw now : Raw) (kind : Kind) (k l : ℕ) → kind ≡ Output → Some l ≡ slice_get raw.outputs k → l ≡ literal_of raw kind k
output_some raw now kind k l is at =
    subst (λ (x : Kind). l ≡ literal_of raw x k) (sym is) (sym (get_or_from_slice_get raw.outputs k l 0 (sym at)))

pub output_none : (raw now : Raw) (kind : Kind) (k l : ℕ) → kind ≡ Output → HasSameEntries raw now → k < length (literals_of now kind)
    → None ≡ slice_get raw.outputs k → l ≡ literal_of raw kind k
output_none raw now kind k l is same lt none =
    let within : k < length now.outputs = subst (λ (x : Kind). k < length (literals_of now x)) is lt in
    let there : slice_get raw.outputs k ≡ Some (get_or raw.outputs k 0) =
    slice_get-get_or raw.outputs k 0 (omega (arith, within, same.outputs)) in
    absurd (cc (none, there))

pub other_literal : (raw now : Raw) (kind : Kind) (k l : ℕ) → (kind ≡ Output → ⊥) → HasSameEntries raw now → l ≡ literal_of now kind k
    → l ≡ literal_of raw kind k
other_literal raw now kind k l other same is = is ∙ ap (λ (ls : List ℕ). slice_index_or ls k 0) (sym (same.others kind other))

-- the literal of an entry more
pub literals_more : (f : ℕ → ℕ) (a j : ℕ) (xs new : List ℕ) (x : ℕ) → a ≤ j → x ≡ f j → xs ≡ map f (range_with_len a (j - a))
    → new ≡ xs ++ x ∷ [] → new ≡ map f (range_with_len a (j + 1 - a))
literals_more f a j xs new x le is before pushed =
    pushed ∙ ap (λ ys. ys ++ x ∷ []) before ∙ ap (λ y. map f (range_with_len a (j - a)) ++ y ∷ []) is
    ∙ sym (map-append f (range_with_len a (j - a)) (j ∷ [])) ∙ ap (map f) (sym (range_more a j le))

pub literals_all : (f : ℕ → ℕ) (a j b : ℕ) (xs : List ℕ) → j ≡ b → xs ≡ map f (range_with_len a (j - a))
    → xs ≡ map f (range_with_len a (b - a))
literals_all f a j b xs same is = subst (λ k. xs ≡ map f (range_with_len a (k - a))) same is

-- they are defined
module _ (raw : Raw) (circuit : IsCircuit raw) where
  index_known : (xs : List ℕ) (k : ℕ) → All (λ l. IsDefined raw (variable l)) xs → IsDefined raw (variable (slice_index_or xs k 0))
  index_known [] k h = (0, omega arith, refl)
  index_known (x ∷ xs) zero h = All-head (λ l. IsDefined raw (variable l)) x xs h
  index_known (x ∷ xs) (suc k) h = index_known xs k (All-tail (λ l. IsDefined raw (variable l)) x xs h)

  pub signal_known : (signal : Signal) → All (λ l. IsDefined raw (variable l)) (signal_literals raw signal)
  signal_known signal =
      All-map (λ l. IsDefined raw (variable l)) (literal_of raw signal.kind) (range_with_len signal.first (signal.end - signal.first))
      (λ k d lt. index_known (literals_of raw signal.kind) _ (section_known raw circuit signal.kind))

-- the entries of all signals are there
section_there : (raw : Raw) (kind : Kind) → All (IsThere raw) (section_signals raw kind)
unfolding section_signals
section_there raw kind =
    All-map (IsThere raw) (signal_of raw kind (runs_of raw kind)) (runs_of raw kind)
    (All-weaker (IsRunIn 0 (length (literals_of raw kind))) (λ run. IsThere raw (signal_of raw kind (runs_of raw kind) run))
    (λ run h. (h.some, h.to)) (runs_of raw kind) (runs_in raw kind))

sections_there : (raw : Raw) (kinds : List Kind) → All (IsThere raw) (flat_map (section_signals raw) kinds)
sections_there raw [] = All-nil (IsThere raw)
sections_there raw (kind ∷ kinds) =
    All-append (IsThere raw) (section_signals raw kind) (flat_map (section_signals raw) kinds) (section_there raw kind)
    (sections_there raw kinds)

-- a signal of the session's is there
pub signal_within : (raw : Raw) (signals items : List Signal) (i : ℕ) (signal : Signal) → items ≡ signals → signals ≡ signals_of raw
    → i < length items → signal ≡ get_or items i signal → IsThere raw signal
signal_within raw signals items i signal same is lt at =
    let all : items ≡ signals_of raw = same ∙ is in
    subst (IsThere raw) (sym (at ∙ ap (λ (xs : List Signal). get_or xs i signal) all))
    (sections_there raw sections i signal (subst (λ (xs : List Signal). i < length xs) all lt))

-- ---- values
-- the value that was of a literal more
pub first_more : (first : FirstRun) (p : CircuitAndRows) (t : ℕ) (literals : List ℕ) (i l : ℕ) (bits new : List (Option Tern))
    (o : Option Tern) → KeepsFirst first p → IsDefined p.circuit (variable l) → t < length p.rows → i < length literals
    → l ≡ get_or literals i l
    → IfSome o (λ w. (q : CircuitAndRows) → KeepsFirst first q → IsDefined q.circuit (variable l) → HasValue q t l w)
    → IfNone o ((q : CircuitAndRows) → KeepsFirst first q → IsDefined q.circuit (variable l) → length q.rows ≤ t)
    → AreBits p t (take i literals) bits → new ≡ bits ++ o ∷ [] → AreBits p t (take (i + 1) literals) new
first_more first p t literals i l bits new None keeps known within lt is some none before pushed =
    absurd (omega (arith, none p keeps known, within))
first_more first p t literals i l bits new (Some w) keeps known within lt is some none before pushed =
    bits_more p t literals i l bits new w lt is (some p keeps known) before pushed

-- the text of a frame that is there, and of one that is not
pub cell_there : (p : CircuitAndRows) (literals : List ℕ) (t : ℕ) (bits : List (Option Tern)) (old new : List ℕ) → t < length p.rows
    → AreBits p t literals bits → old ≡ [] → new ≡ old ++ table_text bits → IsCellOrDot p literals t new
cell_there p literals t bits old new lt are none pushed =
    inl (lt, (bits, are, pushed ∙ ap (λ (text : List ℕ). text ++ table_text bits) none))

pub cell_past : (p : CircuitAndRows) (literals : List ℕ) (t : ℕ) (old new : List ℕ) → length p.rows ≤ t → old ≡ []
    → new ≡ old ++ 46 ∷ [] → IsCellOrDot p literals t new
cell_past p literals t old new le none pushed = inr (le, pushed ∙ ap (λ (text : List ℕ). text ++ 46 ∷ []) none)
