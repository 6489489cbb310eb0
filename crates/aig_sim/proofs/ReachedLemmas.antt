-- The search for the first frame that reaches a bad state property.
use Rattle.std.proofs.Common.{◌≡◌, ◌≢◌, ◌⊎◌, inl, inr, ℕ, ◌+◌, ◌-◌, ◌<◌, ◌≤◌, List, [], ◌∷◌, ◌++◌, length, take, drop}
use Rattle.std.proofs.Common.{get_or, Option, Some, slice_get, refl, sym, ap, ◌∙◌, subst, arith}
use Rattle.std.proofs.lemmas.Bool.{cases_eq, cases_lt}
use Rattle.std.proofs.lemmas.List.{length-take-le, take-append-drop, take-take, take_more}
use Rattle.aig_parts.specs.declared.ternary.Tern.{Tern}
use Rattle.aig_parts.specs.declared.ternary.Tern.TheVariants.{Zero, One, X}
use Rattle.aig_parts.specs.declared.raw.Raw.{Raw}
use Rattle.aig_parts.specs.Literal.{variable}
use Rattle.aig_base.specs.Circuit.{IsCircuit}
use Rattle.aig_base.specs.Value.{Value}
use Rattle.aig_base.proofs.values.UniqueValue.{unique}
use Rattle.aig_values.specs.Cells.{literal_value}
use Rattle.aig_values.specs.state.Frame.{HoldsAll, AreStates}
use Rattle.aig_values.proofs.Evaluation.{literal_has_value}
use Rattle.aig_values.proofs.TraceLemmas.{value_stays, first_states}
use Rattle.aig_sim.specs.declared.witness.verdict.Verdict.TheVariants as verdict
use Rattle.aig_sim.specs.Reached.{IsAskedFor, Reaches, ReachesNone, IsFirstReached, witness_at}
use Rattle.aig_sim.specs.Verdict.{StartsWrong, IsNotOne}
use Rattle.aig_sim.specs.state.Checking.{ReadsNotOne}
use Rattle.aig_sim.specs.state.Machine.{Steps}
use Rattle.aig_sim.specs.state.Reaching.{ReadsFirstBad, ReadsNoBad, HasSearched}
use Rattle.aig_sim.proofs.VerdictLemmas.{shows_not_one, shown_not_one, reached}
use Rattle.aig_values.proofs.PropertyLines.{bad_defined, constraint_defined}

pub one_or_not : (w : Tern) → (w ≡ One) ⊎ (w ≢ One)
one_or_not Zero = inr (λ e. let no : ⊥ = cc in no)
one_or_not One = inl refl
one_or_not X = inr (λ e. let no : ⊥ = cc in no)

-- ---- properties that are 1

-- no place before this one is 1, and neither is this one
pub none_more : (cells : List Tern) (bad : List ℕ) (n : ℕ) → ((q : ℕ) → q < n → ReadsNotOne cells bad q)
    → ReadsNotOne cells bad n → (q : ℕ) → q < n + 1 → ReadsNotOne cells bad q
none_more cells bad n before here q lt = elim (cases_eq q n) [
  | inl e ↦ subst (ReadsNotOne cells bad) (sym e) here
  | inr ne ↦ before q (omega (arith, lt, ne))
]

-- ---- a start

-- a start that none of its latches forbids is needed to reach anything
pub reaches_none : (raw : Raw) (start : List Tern) (rows : List (List Tern)) (asked : Option ℕ) (p : ℕ)
    → StartsWrong raw start p → ReachesNone raw start rows asked
reaches_none raw start rows asked p wrong t q asks h = h.confirmed.first (verdict.Initial p) (omega arith) wrong

-- nothing was searched
pub search_begins : (raw : Raw) (start : List Tern) (rows : List (List Tern)) (asked : Option ℕ)
    → length start ≡ length raw.latches → HasSearched raw start rows asked 0 start
search_begins raw start rows asked same = record {
  states_are = first_states raw start same;
  held = λ u p l lt. absurd (omega (arith, lt));
  unreached = λ u q lt. absurd (omega (arith, lt));
}

-- all frames were searched
pub search_ends : (raw : Raw) (start : List Tern) (rows : List (List Tern)) (asked : Option ℕ) (t : ℕ) (states : List Tern)
    → length rows ≤ t → HasSearched raw start rows asked t states → ReachesNone raw start rows asked
search_ends raw start rows asked t states le h u q asks r =
    h.unreached u q (let lt = r.frame in omega (arith, lt, le)) asks r

-- ---- a frame

module _ (raw : Raw) (circuit : IsCircuit raw) (start : List Tern) (rows : List (List Tern)) (asked : Option ℕ) (t : ℕ)
    (cells states states' : List Tern) (lt : t < length rows) (h : HasSearched raw start rows asked t states)
    (step : (begun : List Tern) (before : List (List Tern)) → AreStates raw begun before (length before) states
    → Steps raw begun before (get_or rows t []) cells states') where
  len : length (take t rows) ≡ t
  len = length-take-le t rows (omega (arith, lt))

  so_far : take t rows ++ get_or rows t [] ∷ [] ≡ take (t + 1) rows
  so_far = sym (take_more rows t [] lt)

  stepped : Steps raw start (take t rows) (get_or rows t []) cells states'
  stepped = step start (take t rows) (subst (λ (n : ℕ). AreStates raw start (take t rows) n states) (sym len) h.states_are)

  cells_hold : HoldsAll raw start (take (t + 1) rows) t cells
  cells_hold =
      subst (λ (r : List (List Tern)). HoldsAll raw start r t cells) so_far
      (subst (λ (n : ℕ). HoldsAll raw start (take t rows ++ get_or rows t [] ∷ []) n cells) len stepped.cells_are)

  states_follow : AreStates raw start (take (t + 1) rows) (t + 1) states'
  states_follow =
      subst (λ (r : List (List Tern)). AreStates raw start r (t + 1) states') so_far
      (subst (λ (n : ℕ). AreStates raw start (take t rows ++ get_or rows t [] ∷ []) (n + 1) states') len stepped.states_are)

  short : length (take (t + 1) rows) ≡ t + 1
  short = length-take-le (t + 1) rows (omega (arith, lt))

  last : t ≡ length (take (t + 1) rows) - 1
  last = omega (arith, short)

  -- the witness of a run that ends later has the values of this one
  later : (u p : ℕ) (literals : List ℕ) (q q' : ℕ) → t < u + 1 → IsNotOne raw (witness_at start rows t q) t literals p
      → IsNotOne raw (witness_at start rows u q') t literals p
  later u p literals q q' le k = record {
    literal = k.literal;
    value = k.value;
    literal_is = k.literal_is;
    value_is =
        subst (λ (r : List (List Tern)). Value raw start r t k.literal k.value) same
        (value_stays (drop (t + 1) (take (u + 1) rows)) k.value_is);
    not_one = k.not_one;
  }
    where
      same : take (t + 1) rows ++ drop (t + 1) (take (u + 1) rows) ≡ take (u + 1) rows
      same =
          ap (λ (r : List (List Tern)). r ++ drop (t + 1) (take (u + 1) rows))
          (sym (take-take (t + 1) (u + 1) rows (omega (arith, le))))
          ∙ take-append-drop (t + 1) (take (u + 1) rows)

  -- a constraint that is not 1 ends the search
  pub search_stops : (p : ℕ) → ReadsNotOne cells raw.constraints p → ReachesNone raw start rows asked
  search_stops p fails u q asks r = elim (cases_lt u t) [
    | inl before ↦ h.unreached u q before asks r
    | inr le ↦
        let long : length (take (u + 1) rows) ≡ u + 1 =
        length-take-le (u + 1) rows (let small = r.frame in omega (arith, small)) in
        r.confirmed.first (verdict.Constraint t p) (omega arith) (
          omega (arith, long, le),
          later u p raw.constraints q q (omega (arith, le))
              (shows_not_one raw circuit.sound (witness_at start rows t q) t cells cells_hold raw.constraints
              (constraint_defined raw circuit.sound) p fails),
        )
  ]

  -- a property that is not 1 is not reached at this frame
  not_here : (q : ℕ) → ReadsNotOne cells raw.bad q → Reaches raw start rows t q → ⊥
  not_here q other r =
      r.confirmed.first verdict.NotBad (omega arith)
      (subst (λ (n : ℕ). IsNotOne raw (witness_at start rows t q) n raw.bad q) last
      (shows_not_one raw circuit.sound (witness_at start rows t q) t cells cells_hold raw.bad
      (bad_defined raw circuit.sound) q other))

  module _ (none : (q : ℕ) → ReadsNotOne cells raw.constraints q → ⊥) where
    -- all constraints are 1 up to this frame
    held_now : (u p l : ℕ) → u < t + 1 → slice_get raw.constraints p ≡ Some l
        → Value raw start (take (t + 1) rows) u l One
    held_now u p l below at = elim (cases_eq u t) [
      | inl e ↦ subst (λ (n : ℕ). Value raw start (take (t + 1) rows) n l One) (sym e) (here (one_or_not (literal_value cells l)))
      | inr ne ↦
          subst (λ (r : List (List Tern)). Value raw start r u l One) so_far
          (value_stays (get_or rows t [] ∷ []) (h.held u p l (omega (arith, below, ne)) at))
    ]
      where
        here : (literal_value cells l ≡ One) ⊎ (literal_value cells l ≢ One) → Value raw start (take (t + 1) rows) t l One
        here (inl e) =
            subst (Value raw start (take (t + 1) rows) t l) e
            (literal_has_value raw start (take (t + 1) rows) t cells l circuit.sound
            (cells_hold (variable l) (constraint_defined raw circuit.sound p l at)))
        here (inr ne) = absurd (none p (record { literal = l; literal_is = at; not_one = ne }))

    module _ (right : (p : ℕ) → StartsWrong raw start p → ⊥) (p : ℕ) (is : ReadsFirstBad cells raw.bad asked p) where
      reaches_here : Reaches raw start rows t p
      reaches_here = record {
        frame = lt;
        property = is.within;
        confirmed = reached raw (witness_at start rows t p) right
            (λ u q below k. k.not_one (unique raw start (take (t + 1) rows) circuit.sound k.value_is
            (held_now u q k.literal (omega (arith, below, short)) k.literal_is)))
            (λ k. is.is_one (shown_not_one raw circuit.sound (witness_at start rows t p) t cells cells_hold raw.bad
            (bad_defined raw circuit.sound) p
            (subst (λ (n : ℕ). IsNotOne raw (witness_at start rows t p) n raw.bad p) (sym last) k)));
      }

      -- this frame is the first that reaches a property, and this property the first that it reaches
      pub first_reached_here : IsFirstReached raw start rows asked t p
      first_reached_here = record { asked_for = is.asked_for; reaches = reaches_here; first = before }
        where
          before : (u q : ℕ) → (u < t) ⊎ ((u ≡ t) × (q < p)) → IsAskedFor asked q → Reaches raw start rows u q → ⊥
          before u q (inl below) asks r = h.unreached u q below asks r
          before u q (inr (e, below)) asks r =
              not_here q (is.least q asks below)
              (subst (λ (n : ℕ). Reaches raw start rows n q) e r)

    -- the search goes on
    pub search_more : ReadsNoBad cells raw.bad asked → HasSearched raw start rows asked (t + 1) states'
    search_more no_bad = record {
      states_are = states_follow;
      held = held_now;
      unreached = λ u q below asks r. elim (cases_eq u t) [
        | inl e ↦ not_here q (no_bad q asks r.property)
            (subst (λ (n : ℕ). Reaches raw start rows n q) e r)
        | inr ne ↦ h.unreached u q (omega (arith, below, ne)) asks r
      ];
    }
