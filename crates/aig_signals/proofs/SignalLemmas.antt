-- Signals, run by run and section by section.
use Rattle.std.proofs.Common.{◌≡◌, ℕ, ◌+◌, ◌<◌, ◌≤◌, Bool, List, [], ◌∷◌, ◌++◌, length, get_or, take, drop, map, Option}
use Rattle.std.proofs.Common.{None, Some, sym, ap, ◌∙◌, append_assoc, append-nil}
use Rattle.std.specs.Prelude.{◌==◌}
use Rattle.std.specs.List.{flat_map}
use Rattle.std.proofs.lemmas.List.{map-append, take_more, drop_more, drop_all}
use Rattle.std.proofs.lemmas.List.Sums.{fold-append}
use Rattle.aig_parts.specs.declared.raw.Raw.{Raw}
use Rattle.aig_parts.specs.declared.symbols.Kind.{Kind}
use Rattle.aig_signals.specs.declared.run.Run.{Run}
use Rattle.aig_signals.specs.Names.{first_name}
use Rattle.aig_signals.specs.Signals.{first_bit, is_called, bit_in, size_of, vector_name, name_by, count_called}
use Rattle.aig_signals.specs.Signals.{signal_of, runs_of, section_signals}
use Rattle.std.specs.Hash.DefaultHasher as sip
use Rattle.aig_signals.specs.declared.hash.NameHash.{NameHash}
use Rattle.aig_signals.specs.state.NameHash.{hash_by}
use Rattle.aig_signals.specs.state.Seen.{seen, noted, is_once}
use Rattle.aig_signals.proofs.SeenLemmas.{once_is, seen_step}

module _ (first : List ℕ) (size : ℕ) (only : List ℕ → Bool) where
  pub named_vector : (bit : List ℕ × ℕ) (name : List ℕ) (b : Bool) → Some bit ≡ first_bit first size → b ≡ only bit.0
      → name ≡ vector_name bit.0 bit.1 size b → name ≡ name_by first (first_bit first size) size only
  named_vector bit name b h is n =
      n ∙ (λ i. vector_name bit.0 bit.1 size (is i)) ∙ (λ i. name_by first (h i) size only)

  pub named_alone : (name : List ℕ) → None ≡ first_bit first size → name ≡ first → name ≡ name_by first (first_bit first size) size only
  named_alone name h is = is ∙ (λ i. name_by first (h i) size only)

-- one run more is seen
pub run_seen : (raw : Raw) (kind : Kind) (runs : List Run) (i : ℕ) (d : Run) (x shown buffer empty : List ℕ) (old new : Option Bool)
    → i < length runs → shown ≡ buffer → buffer ≡ empty ++ first_name raw kind (get_or runs i d).first → empty ≡ []
    → new ≡ noted (is_called x (first_bit shown (size_of (get_or runs i d)))) old
    → old ≡ seen (count_called raw kind x (take i runs)) → new ≡ seen (count_called raw kind x (take (i + 1) runs))
run_seen raw kind runs i d x shown buffer empty old new lt a b e more h =
    let first : List ℕ = first_name raw kind (get_or runs i d).first in
    let text : shown ≡ first = a ∙ b ∙ ap (λ (xs : List ℕ). xs ++ first) e in
    seen_step (λ (run : Run). is_called x (bit_in raw kind run)) runs i d (is_called x (first_bit shown (size_of (get_or runs i d)))) old new lt
    (ap (λ (xs : List ℕ). is_called x (first_bit xs (size_of (get_or runs i d)))) text) more h

-- one name more is taken in
pub hash_more : (f : Run → List ℕ) (runs : List Run) (i : ℕ) (d : Run) (old new : NameHash) (name : List ℕ) → i < length runs
    → name ≡ f (get_or runs i d) → new ≡ record { mixed = sip.write old.mixed name } → old ≡ hash_by (map f (take i runs))
    → new ≡ hash_by (map f (take (i + 1) runs))
hash_more f runs i d old new name lt is mixed h =
    mixed ∙ (λ j. record { mixed = sip.write (h j).mixed (is j) })
    ∙ sym (ap (λ (rs : List Run). hash_by (map f rs)) (take_more runs i d lt)
    ∙ ap hash_by (map-append f (take i runs) (get_or runs i d ∷ []))
    ∙ (λ j. record { mixed = fold-append sip.write sip.initial (map f (take i runs)) (f (get_or runs i d) ∷ []) j }))

-- a run with its name is its signal
pub run_named : (raw : Raw) (kind : Kind) (runs : List Run) (run : Run) (known : List ℕ → Option Bool) (name : List ℕ)
    → ((x : List ℕ) → known x ≡ seen (count_called raw kind x runs))
    → name ≡ name_by (first_name raw kind run.first) (bit_in raw kind run) (size_of run) (λ x. is_once (known x))
    → (record { kind = kind; first = run.first; end = run.end; name = name }) ≡ signal_of raw kind runs run
run_named raw kind runs run known name k is =
    let same : name ≡ name_by (first_name raw kind run.first) (bit_in raw kind run) (size_of run) (λ x. count_called raw kind x runs == 1) =
    is ∙ ap (name_by (first_name raw kind run.first) (bit_in raw kind run) (size_of run))
    (λ i x. (ap is_once (k x) ∙ once_is (count_called raw kind x runs)) i) in
    λ i. record { kind = kind; first = run.first; end = run.end; name = same i }

pub section_is : (raw : Raw) (kind : Kind) (runs : List Run) → runs ≡ runs_of raw kind
    → map (signal_of raw kind runs) runs ≡ section_signals raw kind
unfolding section_signals
section_is raw kind runs is = ap (λ (rs : List Run). map (signal_of raw kind rs) rs) is

-- one item more
pub mapped_more : {X Y : Type 0} (f : X → Y) (old now new : List Y) (xs : List X) (i : ℕ) (d : X) (y : Y) → i < length xs
    → y ≡ f (get_or xs i d) → new ≡ now ++ y ∷ [] → now ≡ old ++ map f (take i xs) → new ≡ old ++ map f (take (i + 1) xs)
mapped_more f old now new xs i d y lt is pushed h =
    pushed ∙ (λ j. h j ++ is j ∷ []) ∙ append_assoc old (map f (take i xs)) (f (get_or xs i d) ∷ [])
    ∙ ap (λ ys. old ++ ys) (sym (ap (map f) (take_more xs i d lt) ∙ map-append f (take i xs) (get_or xs i d ∷ [])))

-- one section more, and all
pub sections_more : {X A : Type 0} (f : X → List A) (now new all : List A) (xs : List X) (i : ℕ) (d : X) → i < length xs
    → new ≡ now ++ f (get_or xs i d) → now ++ flat_map f (drop i xs) ≡ all → new ++ flat_map f (drop (i + 1) xs) ≡ all
sections_more f now new all xs i d lt is h =
    ap (λ ys. ys ++ flat_map f (drop (i + 1) xs)) is ∙ append_assoc now (f (get_or xs i d)) (flat_map f (drop (i + 1) xs))
    ∙ ap (λ ys. now ++ ys) (sym (ap (flat_map f) (drop_more xs i d lt))) ∙ h

pub sections_all : {X A : Type 0} (f : X → List A) (now all : List A) (xs : List X) (i : ℕ) → length xs ≤ i
    → now ++ flat_map f (drop i xs) ≡ all → now ≡ all
sections_all f now all xs i le h = sym (append-nil now) ∙ ap (λ ys. now ++ flat_map f ys) (sym (drop_all i xs le)) ∙ h
