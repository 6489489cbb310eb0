-- Lines frame by frame, and the last lines.
use Rattle.std.proofs.Common.{◌≡◌, ◌↔◌, ℕ, zero, suc, ◌+◌, ◌<◌, ◌≤◌, List, [], ◌∷◌, ◌++◌, length, map, drop, Contains}
use Rattle.std.proofs.Common.{Option, Some, slice_get, refl, sym, ◌∙◌, subst, arith}
use Rattle.std.proofs.lemmas.List.{length-map}
use Rattle.aig_parts.specs.declared.latch.Latch.{Latch}
use Rattle.aig_parts.specs.declared.raw.Raw.{Raw}
use Rattle.aig_parts.specs.declared.symbols.Kind.TheVariants as kinds
use Rattle.aig_parts.specs.declared.ternary.Tern.{Tern}
use Rattle.aig_bench.specs.BenchState.{CircuitAndRows}
use Rattle.aig_causes.specs.Causes.{Moment, moment}
use Rattle.aig_causes.specs.Explanation.{LineState}
use Rattle.aig_base.proofs.values.Resets.{latches_length}
use Rattle.aig_signals.specs.declared.signal.Signal.{Signal}
use Rattle.aig_signals.specs.declared.text.Naming.{Naming}
use Rattle.aig_signals.specs.declared.text.Origin.{Origin}
use Rattle.aig_signals.specs.state.Naming.{AreNeighbours}
use Rattle.aig_signals.proofs.NamingLemmas.{section_neighbours, signal_between}
use Rattle.aig_signals.specs.declared.form.Form.{Form}
use Rattle.aig_why.specs.Lines.{AreFrameTexts, AreLineTexts, AreNamed, IsOriginText}
use Rattle.aig_why.specs.Named.{IsNamingOf}
use Rattle.aig_why.specs.state.Naming.{HasSameSignals}

-- one frame more, below the others
pub frame_more : (form : Form) (raw : Raw) (p : CircuitAndRows) (f below : ℕ) (lines : List LineState) (frames : List (List LineState))
    (above here : List ℕ) → below + 1 ≡ f → AreFrameTexts form raw (moment p f) frames above
    → AreLineTexts form raw (moment p below) lines here → AreFrameTexts form raw (moment p below) (lines ∷ frames) (above ++ here)
unfolding AreFrameTexts
frame_more form raw p f below lines frames above here e h k =
    let same : f ≡ suc below = omega (arith, e) in
    (above, here, subst (λ (n : ℕ). AreFrameTexts form raw (moment p n) frames above) same h, k, refl)

-- a list without elements
pub none_there : (xs : List ℕ) → ((q : ℕ) → Contains xs q → ⊥) → xs ≡ []
none_there [] h = refl
none_there (x ∷ xs) h = absurd (h x (0, omega arith, refl))

-- the same latches in another order
named_same : (raw : Raw) (m : Moment) (literals ps qs : List ℕ) (values : List (Option Tern))
    → ((q : ℕ) → Contains ps q ↔ Contains qs q) → AreNamed raw m literals ps values → AreNamed raw m literals qs values
named_same raw m literals ps qs values same h = record {
  size = h.size;
  named = λ p l w has at v. h.named p l w ((same p).1 has) at v;
  others = λ p lt no. h.others p lt (λ has. no ((same p).0 has));
}

pub origin_same : (form : Form) (raw : Raw) (m : Moment) (o : Origin) (ps qs : List ℕ) (text : List ℕ) → ((q : ℕ) → Contains ps q ↔ Contains qs q)
    → IsOriginText form raw m o ps text → IsOriginText form raw m o qs text
origin_same form raw m o [] [] text same h = h
origin_same form raw m o [] (q ∷ qs) text same h = let no = (same q).1 (0, omega arith, refl) in absurd (omega (arith, no.1))
origin_same form raw m o (p ∷ ps) [] text same h = let no = (same p).0 (0, omega arith, refl) in absurd (omega (arith, no.1))
origin_same form raw m o (p ∷ ps) (q ∷ qs) text same h =
    let (n, is, e) = h in (
      n,
      record {
        input_signals = is.input_signals;
        latch_signals = is.latch_signals;
        inputs = is.inputs;
        latches =
            named_same raw m (map (λ x. x.lit) raw.latches) (p ∷ ps) (q ∷ qs) n.latches.values same is.latches;
      },
      e,
    )

-- the signals of latches are one after the other, up to the last latch of the bench's circuit
pub latch_neighbours : (raw : Raw) (pair : CircuitAndRows) (n : Naming) → IsNamingOf raw pair n
    → AreNeighbours 0 n.latches.signals (length pair.circuit.latches)
latch_neighbours raw pair n of =
    let count = length-map raw.latches (λ (x : Latch). x.lit) ∙ sym (latches_length raw pair.circuit of.resets) in
    subst (λ (ss : List Signal). AreNeighbours 0 ss (length pair.circuit.latches)) (sym of.latches)
    (subst (AreNeighbours 0 _) count (section_neighbours raw kinds.Latch))

-- a naming with the same signals is one of the same circuit
pub naming_with : (raw : Raw) (pair : CircuitAndRows) (old new : Naming) → IsNamingOf raw pair old → HasSameSignals old new
    → IsNamingOf raw pair new
naming_with raw pair old new of same = record {
  resets = of.resets;
  inputs = same.inputs ∙ of.inputs;
  latches = same.latches ∙ of.latches;
}

-- the next of some neighbours: where it begins, and the others
pub record NextSignal (a : ℕ) (signals : List Signal) (k count : ℕ) : Type 0 where
  pub signal : Signal
  pub here : slice_get signals k ≡ Some signal
  pub first : signal.first ≡ a
  pub some : signal.first < signal.end
  pub to : signal.end ≤ count
  pub more : AreNeighbours signal.end (drop (k + 1) signals) count

next_first : (a : ℕ) (s : Signal) (signals : List Signal) (count : ℕ) → AreNeighbours a (s ∷ signals) count
    → NextSignal a (s ∷ signals) 0 count
unfolding AreNeighbours
next_first a s signals count h = record {
  signal = s;
  here = refl;
  first = h.0;
  some = h.1;
  to = (signal_between a count (s ∷ signals) 0 s h refl).to;
  more = h.2;
}

pub next_signal : (a : ℕ) (signals : List Signal) (k count : ℕ) → k < length signals → AreNeighbours a (drop k signals) count
    → NextSignal a signals k count
next_signal a [] k count lt h = absurd (omega (arith, lt))
next_signal a (s ∷ signals) zero count lt h = next_first a s signals count h
next_signal a (s ∷ signals) (suc k) count lt h =
    let up = next_signal a signals k count (omega (arith, lt)) h in
    let e : suc (k + 1) ≡ suc k + 1 = omega arith in
    record {
      signal = up.signal;
      here = up.here;
      first = up.first;
      some = up.some;
      to = up.to;
      more = subst (λ (n : ℕ). AreNeighbours up.signal.end (drop n (s ∷ signals)) count) e up.more;
    }

-- after the last signal nothing is left
pub last_signal : (a : ℕ) (signals : List Signal) (k count : ℕ) → length signals ≤ k → AreNeighbours a (drop k signals) count → a ≡ count
unfolding AreNeighbours
last_signal a [] zero count le h = h
last_signal a [] (suc k) count le h = h
last_signal a (s ∷ signals) zero count le h = absurd (omega (arith, le))
last_signal a (s ∷ signals) (suc k) count le h = last_signal a signals k count (omega (arith, le)) h
