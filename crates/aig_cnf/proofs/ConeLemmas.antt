-- The gates that some literals depend on.
use Rattle.std.proofs.Common.{◌≡◌, inl, inr, ℕ, ◌+◌, ◌<◌, ◌≤◌, Bool, true, false, ◌||◌, List, [], ◌∷◌, ◌++◌, length}
use Rattle.std.proofs.Common.{map, take, drop, reverse, slice_index_or, slice_set, All}
use Rattle.std.proofs.Common.{refl, sym, ◌∙◌, ap, subst, arith}
use Rattle.std.specs.Prelude.{if◌then◌else◌, ◌==◌}
use Rattle.std.specs.List.{list_any}
use Rattle.std.proofs.lemmas.Bool.Decides.{eqb_tells}
use Rattle.std.proofs.lemmas.Grind.{get_or-set_at}
use Rattle.std.proofs.lemmas.List.{get_or-set_other, length-set, reverse-append, reverse-reverse}
use Rattle.std.proofs.lemmas.List.Elements.{All-append, All-cons, All-head, All-nil, All-tail}
use Rattle.std.proofs.Math.Seq.{take-append_seam}
use Rattle.aig_parts.specs.Literal.{variable}
use Rattle.aig_parts.specs.declared.gate.Gate.{Gate}
use Rattle.aig_parts.specs.declared.raw.Raw.{Raw}
use Rattle.aig_base.specs.Circuit.{IsCircuit}
use Rattle.aig_base.specs.Sections.{definitions, uses}
use Rattle.aig_base.specs.Sound.{IsInRange}
use Rattle.aig_base.proofs.circuits.EachUse.{each_use}
use Rattle.aig_base.proofs.lists.Joined.{All-left, All-right, All-unmap}
use Rattle.aig_cnf.specs.Formula.{cone, reads}
use Rattle.aig_cnf.specs.state.Cones.{AreMarks, IsCone, IsGateBelow}

-- ---- a part of the gates

module _ (P : Gate → Type 0) (literals : List ℕ) where
  pub All-cone : (gates : List Gate) → All P gates → All P (cone literals gates)
  unfolding cone
  All-cone [] h = h
  All-cone (g ∷ gates) h =
      let rest = All-cone gates (All-tail P g gates h) in
      elim (reads literals (cone literals gates) (variable g.lhs))
      as (λ b. All P (if b then g ∷ cone literals gates else cone literals gates)) [
        | true ↦ All-cons P g (cone literals gates) (All-head P g gates h) rest
        | false ↦ rest
      ]

pub length-cone : (literals : List ℕ) (gates : List Gate) → length (cone literals gates) ≤ length gates
unfolding cone
length-cone literals [] = omega arith
length-cone literals (g ∷ gates) =
    let rest = length-cone literals gates in
    elim (reads literals (cone literals gates) (variable g.lhs))
    as (λ b. length (if b then g ∷ cone literals gates else cone literals gates) ≤ length (g ∷ gates)) [
      | true ↦ omega (arith, rest)
      | false ↦ omega (arith, rest)
    ]

-- ---- marks

marked : (marks : List Bool) (u v : ℕ) → u < length marks
    → slice_index_or (slice_set marks u true) v false ≡ ((u == v) || slice_index_or marks v false)
marked marks u v lt = elim (eqb_tells u v) [
  | inl h ↦ rw h.0 (get_or-set_at marks u v true false (sym h.1) lt)
  | inr h ↦ rw h.0 (get_or-set_other marks u v true false (λ e. h.1 (sym e)))
]

pub marks_more : (n u : ℕ) (test : ℕ → Bool) (marks : List Bool) → u < n → AreMarks n test marks
    → AreMarks n (λ v. (u == v) || test v) (slice_set marks u true)
marks_more n u test marks lt h = record {
  size = length-set marks u true ∙ h.size;
  each = λ v below. marked marks u v (omega (arith, lt, h.size)) ∙ ap (λ b. (u == v) || b) (h.each v below);
}

pub marks_same : (n : ℕ) (p q : ℕ → Bool) (marks : List Bool) → ((v : ℕ) → p v ≡ q v) → AreMarks n p marks → AreMarks n q marks
marks_same n p q marks e h = record { size = h.size; each = λ v below. h.each v below ∙ e v }

-- ---- the marks of literals

abbrev pub has_variable : ℕ → ℕ → Bool
has_variable v l = variable l == v

-- ---- one gate

two_more : (a b d e : Bool) → (b || (a || (d || e))) ≡ (d || ((a || b) || e))
two_more true true true e = refl
two_more true true false e = refl
two_more true false true e = refl
two_more true false false e = refl
two_more false true true e = refl
two_more false true false e = refl
two_more false false true e = refl
two_more false false false e = refl

taken : (literals : List ℕ) (g : Gate) (gates : List Gate) → reads literals (cone literals gates) (variable g.lhs) ≡ true
    → cone literals (g ∷ gates) ≡ g ∷ cone literals gates
unfolding cone
taken literals g gates e = rw e refl

left_out : (literals : List ℕ) (g : Gate) (gates : List Gate) → reads literals (cone literals gates) (variable g.lhs) ≡ false
    → cone literals (g ∷ gates) ≡ cone literals gates
unfolding cone
left_out literals g gates e = rw e refl

pub cone_begun : (n m : ℕ) (literals : List ℕ) (marks : List Bool) (found : List Gate) → n ≡ m → found ≡ []
    → AreMarks n (reads literals []) marks → IsCone m literals [] marks found
unfolding cone
cone_begun n m literals marks found e f h =
    record { marks_are = subst (λ k. AreMarks k (reads literals []) marks) e h; found_is = f }

pub cone_same : (n : ℕ) (literals : List ℕ) (gates : List Gate) {marks others : List Bool} {found same : List Gate}
    → IsCone n literals gates marks found → others ≡ marks → same ≡ found → IsCone n literals gates others same
cone_same n literals gates {marks} {others} {found} {same} h e f =
    record { marks_are = subst (λ (ms : List Bool). AreMarks n (reads literals (cone literals gates)) ms) (sym e) h.marks_are; found_is = f ∙ h.found_is }

module _ (n : ℕ) (literals : List ℕ) (g : Gate) (gates : List Gate) (marks : List Bool) (found : List Gate)
    (below : IsGateBelow (length marks) g) (h : IsCone n literals gates marks found) where
  abbrev rest : List Gate
  rest = cone literals gates

  abbrev first : List Bool
  first = slice_set marks (variable g.rhs0) true

  in_marks : (v : ℕ) → v < length marks → v < n
  in_marks v lt = omega (arith, lt, h.marks_are.size)

  read_is : reads literals rest (variable g.lhs) ≡ slice_index_or marks (variable g.lhs) false
  read_is = sym (h.marks_are.each (variable g.lhs) (in_marks (variable g.lhs) below.lhs))

  pub gate_taken : slice_index_or marks (variable g.lhs) false ≡ true
      → IsCone n literals (g ∷ gates) (slice_set first (variable g.rhs1) true) (found ++ g ∷ [])
  gate_taken is =
      let same = taken literals g gates (read_is ∙ is) in
      let once = marks_more n (variable g.rhs0) (reads literals rest) marks
      (in_marks (variable g.rhs0) below.first) h.marks_are in
      let twice = marks_more n (variable g.rhs1) (λ v. (variable g.rhs0 == v) || reads literals rest v) first
      (in_marks (variable g.rhs1) below.second) once in
      record {
        marks_are =
            subst (λ (gs : List Gate). AreMarks n (reads literals gs) (slice_set first (variable g.rhs1) true)) (sym same)
            (marks_same n (λ v. (variable g.rhs1 == v) || ((variable g.rhs0 == v) || reads literals rest v))
            (reads literals (g ∷ rest)) (slice_set first (variable g.rhs1) true)
            (λ v. two_more (variable g.rhs0 == v) (variable g.rhs1 == v) (list_any (has_variable v) literals)
            (list_any (λ f. variable f.rhs0 == v || variable f.rhs1 == v) rest)) twice);
        found_is =
            ap (λ (gs : List Gate). gs ++ g ∷ []) h.found_is ∙ sym (reverse-append (g ∷ []) rest)
            ∙ ap (λ (gs : List Gate). reverse gs) (sym same);
      }

  pub gate_left_out : slice_index_or marks (variable g.lhs) false ≡ false → IsCone n literals (g ∷ gates) marks found
  gate_left_out is =
      let same = left_out literals g gates (read_is ∙ is) in
      record {
        marks_are = subst (λ (gs : List Gate). AreMarks n (reads literals gs) marks) (sym same) h.marks_are;
        found_is = h.found_is ∙ ap (λ (gs : List Gate). reverse gs) (sym same);
      }

-- ---- all gates

-- what a call wrote through a slice of a list
pub written : {X : Type 0} (n : ℕ) (new old : List X) → length new ≡ length old → n ≡ length old
    → take n (new ++ drop (length new) old) ≡ new
written n new old e f =
    ap (λ k. take k (new ++ drop (length new) old)) (f ∙ sym e) ∙ take-append_seam new (drop (length new) old)

-- one item more of those from the last on
pub one_more : (n : ℕ) (literals : List ℕ) (before after : List Gate) (g : Gate) {marks : List Bool} {found : List Gate}
    → after ≡ before ++ g ∷ [] → IsCone n literals (g ∷ reverse before) marks found
    → IsCone n literals (reverse after) marks found
one_more n literals before after g {marks} {found} e h =
    subst (λ (gs : List Gate). IsCone n literals gs marks found)
    (sym (ap (λ (gs : List Gate). reverse gs) e ∙ reverse-append before (g ∷ []))) h

pub whole_cone : (n : ℕ) (literals : List ℕ) (seen gates : List Gate) (marks : List Bool) (found : List Gate)
    → seen ≡ reverse gates → IsCone n literals (reverse seen) marks found → reverse found ≡ cone literals gates
whole_cone n literals seen gates marks found e h =
    ap (λ (gs : List Gate). reverse gs) h.found_is ∙ reverse-reverse (cone literals (reverse seen))
    ∙ ap (λ (gs : List Gate). cone literals gs)
    (ap (λ (gs : List Gate). reverse gs) e ∙ reverse-reverse gates)

All-reverse : {X : Type 0} (P : X → Type 0) (xs : List X) → All P xs → All P (reverse xs)
All-reverse P [] h = All-nil P
All-reverse P (x ∷ xs) h =
    subst (All P) (sym (reverse-append (x ∷ []) xs))
    (All-append P (reverse xs) (x ∷ []) (All-reverse P xs (All-tail P x xs h))
    (All-cons P x [] (All-head P x xs h) (All-nil P)))

gates_are_below : (raw : Raw) → IsCircuit raw → All (IsGateBelow (raw.max_var + 1)) raw.gates
gates_are_below raw circuit k d lt =
    let lits : List ℕ = map (λ x. x.lit) raw.latches in
    let lhss : List ℕ = map (λ g. g.lhs) raw.gates in
    let all = circuit.sound.in_range in
    let left : All (λ g. IsInRange raw g.lhs) raw.gates =
    All-unmap (IsInRange raw) (λ (g : Gate). g.lhs) raw.gates (All-right (IsInRange raw) (raw.inputs ++ lits) lhss
    (All-left (IsInRange raw) (definitions raw) (uses raw) all)) in
    let sides = (each_use (IsInRange raw) raw (All-right (IsInRange raw) (definitions raw) (uses raw) all)).sides k d lt in
    let lhs = left k d lt in
    record { lhs = omega (arith, lhs); first = omega (arith, sides.0); second = omega (arith, sides.1) }

-- the gate at a turn
pub turn_below : (raw : Raw) → IsCircuit raw → (n i : ℕ) (g : Gate) → n ≡ raw.max_var + 1
    → (i < length (reverse raw.gates)) × (g ≡ slice_index_or (reverse raw.gates) i g) → IsGateBelow n g
turn_below raw circuit n i g e (lt, is) =
    subst (λ m. IsGateBelow m g) (sym e) (subst (IsGateBelow (raw.max_var + 1)) (sym is)
    (All-reverse (IsGateBelow (raw.max_var + 1)) raw.gates (gates_are_below raw circuit) i g lt))
