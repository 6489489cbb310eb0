-- A line, from what is named and what is added.
use Rattle.std.proofs.Common.{◌≡◌, ◌≢◌, ℕ, suc, ◌<◌, ◌≤◌, Bool, true, false, List, [], ◌∷◌, ◌++◌, map, replicate}
use Rattle.std.proofs.Common.{Contains, Option, None, Some, slice_get, refl, sym, ap, ◌∙◌, subst, append_assoc}
use Rattle.std.proofs.Common.{append-nil}
use Rattle.std.specs.List.{AllZip}
use Rattle.std.proofs.lemmas.List.{length-map}
use Rattle.aig_parts.specs.declared.latch.Latch.{Latch}
use Rattle.aig_parts.specs.declared.raw.Raw.{Raw}
use Rattle.aig_parts.specs.declared.ternary.Tern.{Tern}
use Rattle.aig_base.proofs.lists.Gets.{Contains-from_get}
use Rattle.aig_bench.specs.BenchState.{CircuitAndRows}
use Rattle.aig_causes.specs.Causes.{Moment, Sources}
use Rattle.aig_causes.specs.Explanation.{LineState}
use Rattle.aig_causes.specs.Lines.{next}
use Rattle.aig_base.specs.Resets.{HasOtherResets, IsSameLatch}
use Rattle.aig_base.proofs.values.Resets.{other_resets_back, value_with}
use Rattle.aig_signals.specs.declared.text.Naming.{Naming}
use Rattle.aig_signals.specs.declared.text.Origin.{Origin}
use Rattle.aig_signals.specs.declared.signal.Signal.{Signal}
use Rattle.aig_signals.specs.Naming.{SectionNamed}
use Rattle.aig_signals.specs.Form.{asked_by, end_by, latches_by, line_by, origin_by}
use Rattle.aig_signals.specs.Text.{names_none}
use Rattle.aig_signals.specs.declared.form.Form.{Form}
use Rattle.aig_why.specs.Lines.{AreBits, AreLineTexts, AreNamed, IsAskedText, IsLineText, IsOriginText, Names}
use Rattle.aig_why.specs.Lines.{ShowsLine, latches_alone}
use Rattle.aig_why.specs.Named.{IsNamingOf, NamesNothing}
use Rattle.aig_why.specs.state.Naming.{Adds, HasSameSignals, NamesValues}
use Rattle.aig_why.proofs.NamingLemmas.{named_none}

-- a line that ends names nothing from then on
pub nothing_then : (raw : Raw) (m : Moment) (s : Sources) (n new : Naming) → NamesValues raw m s n → new ≡ names_none n
    → NamesNothing raw new
nothing_then raw m s n new h is = subst (NamesNothing raw) (sym is) (record {
  inputs = ap (λ (k : ℕ). replicate {A = Option Tern} k None) h.inputs.size;
  latches = ap (λ (k : ℕ). replicate {A = Option Tern} k None)
      (h.latches.size ∙ length-map raw.latches (λ (x : Latch). x.lit));
})

-- latches alone are named
pub latches_named : (raw : Raw) (m : Moment) (latches : List ℕ) (n new : Naming) → NamesNothing raw n → new.inputs ≡ n.inputs
    → AreNamed raw m (map (λ x. x.lit) raw.latches) latches new.latches.values → NamesValues raw m (latches_alone latches) new
latches_named raw m latches n new none same named = record {
  inputs = named_none raw m raw.inputs new.inputs.values (ap (λ (s : SectionNamed). s.values) same ∙ none.inputs);
  latches = named;
}

-- what is named of a circuit is so of one with other resets
pub latch_literals : (xs ys : List Latch) → AllZip IsSameLatch xs ys → map (λ x. x.lit) ys ≡ map (λ x. x.lit) xs
latch_literals [] [] h = refl
latch_literals [] (y ∷ ys) h = absurd h
latch_literals (x ∷ xs) [] h = absurd h
latch_literals (x ∷ xs) (y ∷ ys) h =
    ap (λ (l : ℕ). l ∷ map (λ z. z.lit) ys) h.0.0 ∙ ap (λ (ls : List ℕ). x.lit ∷ ls) (latch_literals xs ys h.1)

named_in : (raw other : Raw) → HasOtherResets raw other → (m : Moment) (literals positions : List ℕ) (values : List (Option Tern))
    → AreNamed other m literals positions values → AreNamed raw m literals positions values
named_in raw other r m literals positions values h = record {
  size = h.size;
  named = λ p l w has at v. h.named p l w has at (value_with raw other r m.start m.rows v);
  others = h.others;
}

pub names : (raw : Raw) (pair : CircuitAndRows) (m : Moment) (s : Sources) (n new : Naming) → IsNamingOf raw pair n
    → HasSameSignals n new → NamesValues pair.circuit m s new → Names raw m s new
names raw pair m s n new of same h = record {
  input_signals = same.inputs ∙ of.inputs;
  latch_signals = same.latches ∙ of.latches;
  inputs = subst (λ (ls : List ℕ). AreNamed raw m ls s.inputs new.inputs.values) of.resets.inputs
      (named_in raw pair.circuit of.resets m pair.circuit.inputs s.inputs new.inputs.values h.inputs);
  latches = subst (λ (ls : List ℕ). AreNamed raw m ls s.latches new.latches.values)
      (latch_literals raw.latches pair.circuit.latches of.resets.latches)
      (named_in raw pair.circuit of.resets m (map (λ x. x.lit) pair.circuit.latches) s.latches new.latches.values h.latches);
}

-- the head and then the rest of a line
pub line_added : (form : Form) (old head middle new : List ℕ) (n : Naming) → middle ≡ old ++ head
    → new ≡ middle ++ end_by form n → new ≡ old ++ line_by form head n
line_added form old head middle new n e f =
    f ∙ ap (λ (t : List ℕ). t ++ end_by form n) e ∙ append_assoc old head (end_by form n)

bits_in : (raw other : Raw) → HasOtherResets raw other → (m : Moment) (literals : List ℕ) (bits : List (Option Tern))
    → AreBits other m literals bits → AreBits raw m literals bits
bits_in raw other r m [] [] h = tt
bits_in raw other r m [] (b ∷ bits) h = absurd h
bits_in raw other r m (l ∷ literals) [] h = absurd h
bits_in raw other r m (l ∷ literals) (b ∷ bits) h =
    let (w, is, v) = h.0 in
    ((w, is, value_with other raw (other_resets_back raw other r) m.start m.rows v), bits_in raw other r m literals bits h.1)

-- the line of what was asked for
pub asked_text : (form : Form) (raw : Raw) (pair : CircuitAndRows) (m : Moment) (name literals : List ℕ) (bits : List (Option Tern)) (asked : Sources)
    (before n : Naming) (old middle new : List ℕ) → IsNamingOf raw pair before → HasSameSignals before n
    → NamesValues pair.circuit m asked n → AreBits pair.circuit m literals bits → middle ≡ old ++ asked_by form name bits m.frame
    → new ≡ middle ++ end_by form n → Adds (IsAskedText form raw m name literals asked) old new
asked_text form raw pair m name literals bits asked before n old middle new of same values bits_are e f = (
  line_by form (asked_by form name bits m.frame) n,
  record {
    bits = bits;
    bits_are = bits_in raw pair.circuit of.resets m literals bits bits_are;
    named = n;
    names = names raw pair m asked before n of same values;
    text_is = refl;
  },
  line_added form old (asked_by form name bits m.frame) middle new n e f,
)

-- the line of latches of a signal: the frame is the one after m
pub line_text : (form : Form) (raw : Raw) (pair : CircuitAndRows) (m : Moment) (x : LineState) (signal : Signal) (number : ℕ)
    (before left right : Naming) (old middle new : List ℕ) → IsNamingOf raw pair before
    → slice_get before.latches.signals number ≡ Some signal
    → ((p : ℕ) → Contains x.latches p → (signal.first ≤ p) × (p < signal.end))
    → HasSameSignals before left → NamesValues pair.circuit (next m) (latches_alone x.latches) left
    → HasSameSignals before right → NamesValues pair.circuit m x.causes right
    → middle ≡ old ++ latches_by form left.latches.values signal (suc m.frame)
    → new ≡ middle ++ end_by form right → Adds (IsLineText form raw m x) old new
line_text form raw pair m x signal number before left right old middle new of at within same_left is_left same_right is_right e f = (
  line_by form (latches_by form left.latches.values signal (suc m.frame)) right,
  record {
    signal = signal;
    signal_is = subst (λ (ss : List Signal). Contains ss signal) of.latches
        (Contains-from_get before.latches.signals number signal at);
    within = within;
    left = left;
    left_names = names raw pair (next m) (latches_alone x.latches) before left of same_left is_left;
    right = right;
    right_names = names raw pair m x.causes before right of same_right is_right;
    text_is = refl;
  },
  line_added form old (latches_by form left.latches.values signal (suc m.frame)) middle new right e f,
)

-- lines of a frame, one after the other
pub no_lines : (form : Form) (raw : Raw) (m : Moment) (text : List ℕ) → Adds (AreLineTexts form raw m []) text text
unfolding AreLineTexts
no_lines form raw m text = ([], refl, sym (append-nil text))

pub lines_joined : (form : Form) (raw : Raw) (m : Moment) (xs ys : List LineState) (first second : List ℕ) → AreLineTexts form raw m xs first
    → AreLineTexts form raw m ys second → AreLineTexts form raw m (xs ++ ys) (first ++ second)
unfolding AreLineTexts
lines_joined form raw m [] ys first second h k = subst (AreLineTexts form raw m ys) (sym (ap (λ (t : List ℕ). t ++ second) h)) k
lines_joined form raw m (x ∷ xs) ys first second h k =
    let (here, rest, is, more, e) = h in (
      here,
      rest ++ second,
      is,
      lines_joined form raw m xs ys rest second more k,
      ap (λ (t : List ℕ). t ++ second) e ∙ append_assoc here rest second,
    )

pub lines_more : (form : Form) (raw : Raw) (m : Moment) (xs ys : List LineState) (old middle new : List ℕ)
    → Adds (AreLineTexts form raw m xs) old middle → Adds (AreLineTexts form raw m ys) middle new
    → Adds (AreLineTexts form raw m (xs ++ ys)) old new
lines_more form raw m xs ys old middle new h k =
    let (first, is_first, e) = h in
    let (second, is_second, f) = k in (
      first ++ second,
      lines_joined form raw m xs ys first second is_first is_second,
      f ∙ ap (λ (t : List ℕ). t ++ second) e ∙ append_assoc old first second,
    )

-- one line, which is left out where its latches keep their values
pub one_kept : (form : Form) (raw : Raw) (m : Moment) (x : LineState) (old new : List ℕ) → x.kept ≡ true → new ≡ old
    → Adds (AreLineTexts form raw m (x ∷ [])) old new
unfolding AreLineTexts
one_kept form raw m x old new kept same =
    ([], ([], [], subst (λ (b : Bool). ShowsLine b form raw m x []) (sym kept) refl, refl, refl), same ∙ sym (append-nil old))

pub one_line : (form : Form) (raw : Raw) (m : Moment) (x : LineState) (old new : List ℕ) → x.kept ≡ false
    → Adds (IsLineText form raw m x) old new → Adds (AreLineTexts form raw m (x ∷ [])) old new
unfolding AreLineTexts
one_line form raw m x old new kept h =
    let (added, is, e) = h in (
      added,
      (added, [], subst (λ (b : Bool). ShowsLine b form raw m x added) (sym kept) is, refl, sym (append-nil added)),
      e,
    )

-- the line of latches that no line explains
pub origin_text : (form : Form) (raw : Raw) (pair : CircuitAndRows) (m : Moment) (o : Origin) (latches : List ℕ) (before n : Naming)
    (old middle new : List ℕ) → latches ≢ [] → IsNamingOf raw pair before → HasSameSignals before n
    → NamesValues pair.circuit m (latches_alone latches) n → middle ≡ old ++ origin_by form o
    → new ≡ middle ++ end_by form n → Adds (IsOriginText form raw m o latches) old new
origin_text form raw pair m o [] before n old middle new some of same values e f = absurd (some refl)
origin_text form raw pair m o (p ∷ more) before n old middle new some of same values e f = (
  line_by form (origin_by form o) n,
  (n, names raw pair m (latches_alone (p ∷ more)) before n of same values, refl),
  line_added form old (origin_by form o) middle new n e f,
)
