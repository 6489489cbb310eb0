-- Gates in the canonical order, written over by those that stand for them.
use Rattle.std.proofs.Common.{◌≡◌, ◌≢◌, ℕ, ◌+◌, ◌<◌, ◌≤◌, List, [], ◌∷◌, length, map, get_or, set, All, Contains, refl}
use Rattle.std.proofs.Common.{sym}
use Rattle.std.proofs.Common.{◌∙◌, ap, arith}
use Rattle.std.proofs.lemmas.List.{same_lists, length-map, get_or-map, length-set, get_or-set_same, get_or-set_other}
use Rattle.std.proofs.lemmas.List.{get_or_default}
use Rattle.std.proofs.lemmas.List.Elements.{All-contains, All-head, All-tail}
use borrow.Author.Count.{below_more}
use Rattle.aig_parts.specs.declared.gate.Gate.{Gate}
use Rattle.aig_parts.specs.declared.raw.Raw.{Raw}
use Rattle.aig_parts.specs.Literal.{variable}
use Rattle.aig_base.specs.Order.{AreSorted}
use Rattle.aig_base.specs.Renumbered.{ordered_gates}
use Rattle.aig_base.specs.Sound.{IsSound}
use Rattle.aig_base.proofs.lists.Positions.{position_of}
use Rattle.aig_base.proofs.renumbered.Renumberings.{gate_found}

-- gates of the circuit are those that are found by their variables
found_again : (raw : Raw) → IsSound raw → (gates : List Gate) → All (λ g. Contains raw.gates g) gates
    → ordered_gates raw (map (λ g. variable g.lhs) gates) ≡ gates
found_again raw sound [] known = refl
found_again raw sound (g ∷ gs) known =
    let (q, at) = position_of raw.gates g (All-head (λ g. Contains raw.gates g) g gs known) in
    rw (gate_found raw sound (variable g.lhs) q g at refl)
    (ap (λ (hs : List Gate). g ∷ hs)
    (found_again raw sound gs (All-tail (λ g. Contains raw.gates g) g gs known)))

pub ordered_sorted : (raw : Raw) → IsSound raw → (gates : List Gate) → AreSorted raw gates
    → ordered_gates raw (map (λ g. variable g.lhs) gates) ≡ gates
ordered_sorted raw sound gates sorted = found_again raw sound gates sorted.known

-- what holds of each gate of the circuit
pub each_sorted : (P : Gate → Type 0) (raw : Raw) (gates : List Gate) → All P raw.gates → AreSorted raw gates → All P gates
each_sorted P raw gates all sorted k d lt = All-contains P raw.gates (get_or gates k d) all (sorted.known k d lt)

-- the first n gates were written over
pub record IsRenewedTo (f : Gate → Gate) (old new : List Gate) (n : ℕ) : Type 0 where
  pub size : length new ≡ length old
  pub done : (k : ℕ) (d : Gate) → k < n → k < length old → get_or new k d ≡ f (get_or old k d)
  pub left : (k : ℕ) (d : Gate) → n ≤ k → get_or new k d ≡ get_or old k d

pub renewed_none : (f : Gate → Gate) (old : List Gate) → IsRenewedTo f old old 0
renewed_none f old =
    record { size = refl; done = λ k d lt below. absurd (omega arith); left = λ k d le. refl }

-- the next gate is still the old one
pub renewed_next : (f : Gate → Gate) (old new : List Gate) (n : ℕ) (d x : Gate) → x ≡ get_or new n d
    → IsRenewedTo f old new n → x ≡ get_or old n d
renewed_next f old new n d x is s = is ∙ s.left n d (omega arith)

pub renewed_more : (f : Gate → Gate) (old new : List Gate) (n : ℕ) (e x g : Gate) → n < length old
    → x ≡ get_or new n e → g ≡ f x → IsRenewedTo f old new n → IsRenewedTo f old (set new n g) (n + 1)
renewed_more f old new n e x g lt is of s = record {
  size = length-set new n g ∙ s.size;
  done = λ k d. below_more (λ (k : ℕ). k < length old → get_or (set new n g) k d ≡ f (get_or old k d)) n
      (λ k below within. get_or-set_other new n k g d (apart k below) ∙ s.done k d below within)
      (λ within. get_or-set_same new n g d (omega (arith, s.size))
      ∙ of ∙ ap f (renewed_next f old new n e x is s ∙ get_or_default old n e d lt)) k;
  left = λ k d le. get_or-set_other new n k g d (over k le) ∙ s.left k d (omega arith);
}
  where
    apart : (k : ℕ) → k < n → k ≢ n
    apart k below = omega arith

    over : (k : ℕ) → n + 1 ≤ k → k ≢ n
    over k le = omega arith

pub renewed_all : (f : Gate → Gate) (old new : List Gate) (n : ℕ) → length old ≤ n → IsRenewedTo f old new n
    → new ≡ map f old
renewed_all f old new n past s = same_lists new (map f old) (s.size ∙ sym (length-map old f)) (λ k d lt.
    let within : k < length old = omega (arith, s.size) in
    s.done k d (omega arith) within ∙ sym (get_or-map f old k d d within))
