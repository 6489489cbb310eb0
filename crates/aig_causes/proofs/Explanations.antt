-- An explanation goes down line by line and frame by frame, and what it names explains what was asked for.
use Rattle.std.proofs.Common.{◌≡◌, ◌⊎◌, ◌↔◌, inl, inr, ℕ, suc, ◌-◌, ◌<◌, ◌≤◌, List, [], ◌∷◌, ◌++◌, length, All}
use Rattle.std.proofs.Common.{Contains, Some, slice_get, Bool, IsTrue, sym, ap, ◌∙◌, subst, arith, flat_map}
use Rattle.std.proofs.lemmas.Bool.{cases_lt}
use Rattle.std.proofs.lemmas.Grind.{flat_map-append}
use Rattle.std.proofs.lemmas.List.{append-nil}
use Rattle.std.proofs.lemmas.List.Elements.{All-append, All-cons, All-contains, All-head, All-nil, All-tail}
use Rattle.std.proofs.lemmas.List.Elements.{Contains-append_cases, Contains-append_left, Contains-append_right}
use Rattle.std.proofs.lemmas.Option.{slice_get_within}
use Rattle.aig_parts.specs.declared.latch.Latch.{Latch}
use Rattle.aig_parts.specs.declared.raw.Raw.{Raw}
use Rattle.aig_base.specs.Circuit.{IsCircuit}
use Rattle.aig_base.proofs.lists.Gets.{All-by_get, Contains-from_get}
use Rattle.aig_bench.specs.BenchState.{CircuitAndRows}
use Rattle.aig_causes.specs.Causes.{AreInOrder, AreThere, Explain, ExplainUnknown, Moment, Sources, moment}
use Rattle.aig_causes.specs.Explanation.{AreKept, AreLines, AreNamedBetween, ComesDown, ExplanationState, HasCome}
use Rattle.aig_causes.specs.Explanation.{IsAsked, IsLine, IsNamed, IsOf, LineState}
use Rattle.aig_causes.specs.Explanation.{inputs_after, left_sides, named_at, named_by}
use Rattle.aig_causes.specs.Lines.{ExplainLatches, ExplainTogether, next}
use Rattle.aig_causes.proofs.Laws.{explain_more}
use Rattle.aig_causes.proofs.Together.{at_last, goes_down}

nothing : (p : ℕ) → Contains [] p → ⊥
nothing p h = omega (arith, h.1)

-- ---- all lines together

-- a line that has the latch, and what it names is among what all lines name
record LineOf (raw : Raw) (m : Moment) (lines : List LineState) (p : ℕ) : Type 0 where
  line : LineState
  right : IsLine raw m line
  has : Contains line.latches p
  inputs : (q : ℕ) → Contains line.causes.inputs q → Contains (named_by lines).inputs q
  latches : (q : ℕ) → Contains line.causes.latches q → Contains (named_by lines).latches q

module _ (raw : Raw) (m : Moment) where
  line_of : (lines : List LineState) → All (IsLine raw m) lines → (p : ℕ) → Contains (left_sides lines) p → LineOf raw m lines p
  line_of [] all p h = absurd (nothing p h)
  line_of (x ∷ xs) all p h = elim (Contains-append_cases x.latches (left_sides xs) p h) [
    | inl k ↦ record {
      line = x;
      right = All-head (IsLine raw m) x xs all;
      has = k;
      inputs = λ q g. Contains-append_left x.causes.inputs (named_by xs).inputs q g;
      latches = λ q g. Contains-append_left x.causes.latches (named_by xs).latches q g;
    }
    | inr k ↦
        let up = line_of xs (All-tail (IsLine raw m) x xs all) p k in
        record {
          line = up.line;
          right = up.right;
          has = up.has;
          inputs = λ q g. Contains-append_right x.causes.inputs (named_by xs).inputs q (up.inputs q g);
          latches = λ q g. Contains-append_right x.causes.latches (named_by xs).latches q (up.latches q g);
        }
  ]

  explain_latches : (latches : List ℕ) (lines : List LineState) → AreLines raw m latches (length raw.latches) lines
      → ExplainLatches raw m (named_by lines) latches
  explain_latches latches lines h p x named at =
      let found = line_of lines h.right p (h.each p named (slice_get_within raw.latches p x at)) in
      explain_more raw m found.line.causes (named_by lines) found.inputs found.latches x.next
      (found.right.known p x found.has at)

all_of : (P : ℕ → Type 0) (xs : List ℕ) → ((l : ℕ) → Contains xs l → P l) → All P xs
all_of P xs h = All-by_get P xs (λ k l at. h l (Contains-from_get xs k l at))

module _ (raw : Raw) (circuit : IsCircuit raw) (literals : List ℕ) (asked : Sources) where
  pub all_together : (m : Moment) (frames : List (List LineState)) → ComesDown raw literals asked m frames
      → (l : ℕ) → Contains literals l → ExplainTogether raw m (named_at asked frames) (inputs_after asked frames) l
  unfolding ComesDown
  all_together m [] h l has = at_last raw m asked l (All-contains (Explain raw m asked) literals l h.known has)
  all_together m (lines ∷ frames) h l has =
      goes_down raw circuit m (named_by lines) (named_at asked frames) (inputs_after asked frames) l
      (explain_latches raw m (named_at asked frames).latches lines h.0) (all_together (next m) frames h.1 l has)

  pub together : (m : Moment) (frames : List (List LineState)) → ComesDown raw literals asked m frames
      → All (ExplainTogether raw m (named_at asked frames) (inputs_after asked frames)) literals
  together m frames h =
      all_of (ExplainTogether raw m (named_at asked frames) (inputs_after asked frames)) literals (all_together m frames h)

-- ---- line by line

-- one line more names what it names besides
named_more : (f : LineState → List ℕ) (lines : List LineState) (x : LineState) (q : ℕ)
    → (Contains (flat_map f lines) q ⊎ Contains (f x) q) ↔ Contains (flat_map f (lines ++ x ∷ [])) q
named_more f lines x q =
    let is : flat_map f (lines ++ x ∷ []) ≡ flat_map f lines ++ f x =
    flat_map-append f lines (x ∷ []) ∙ ap (λ (xs : List ℕ). flat_map f lines ++ xs) (append-nil (f x)) in (
      λ h. subst (λ (xs : List ℕ). Contains xs q) (sym is) (elim h [
        | inl k ↦ Contains-append_left (flat_map f lines) (f x) q k
        | inr k ↦ Contains-append_right (flat_map f lines) (f x) q k
      ]),
      λ h. Contains-append_cases (flat_map f lines) (f x) q (subst (λ (xs : List ℕ). Contains xs q) is h),
    )

module _ (raw : Raw) (m : Moment) (named : List ℕ) where
  pub no_lines : AreLines raw m named 0 []
  no_lines = record {
    right = All-nil (IsLine raw m);
    each = λ p h lt. absurd (omega (arith, lt));
    only = λ p h. absurd (nothing p h);
  }

  -- no line for latches that are not named
  pub lines_on : (first end : ℕ) (lines : List LineState) → first ≤ end
      → ((p : ℕ) → first ≤ p → p < end → Contains named p → ⊥) → AreLines raw m named first lines
      → AreLines raw m named end lines
  lines_on first end lines up none h = record {
    right = h.right;
    each = λ p has lt. elim (cases_lt p first) [
      | inl before ↦ h.each p has before
      | inr after ↦ absurd (none p after lt has)
    ];
    only = λ p has. let both = h.only p has in (both.0, omega (arith, both.1, up));
  }

  pub lines_more : (first end : ℕ) (lines : List LineState) (x : LineState) → first ≤ end
      → ((p : ℕ) → first ≤ p → p < end → Contains named p → Contains x.latches p)
      → ((p : ℕ) → Contains x.latches p → Contains named p × (p < end)) → IsLine raw m x → AreLines raw m named first lines
      → AreLines raw m named end (lines ++ x ∷ [])
  lines_more first end lines x up each only right h = record {
    right = All-append (IsLine raw m) lines (x ∷ []) h.right (All-cons (IsLine raw m) x [] right (All-nil (IsLine raw m)));
    each = λ p has lt. (named_more (λ y. y.latches) lines x p).0 (elim (cases_lt p first) [
      | inl before ↦ inl (h.each p has before)
      | inr after ↦ inr (each p after lt has)
    ]);
    only = λ p has. elim ((named_more (λ y. y.latches) lines x p).1 has) [
      | inl k ↦ let both = h.only p k in (both.0, omega (arith, both.1, up))
      | inr k ↦ only p k
    ];
  }

-- a line whose causes explain the next states of its latches
pub is_line : (raw : Raw) (m : Moment) (latches nexts : List ℕ) (causes : Sources) (kept : Bool)
    → ((p : ℕ) (x : Latch) → Contains latches p → slice_get raw.latches p ≡ Some x → Contains nexts x.next)
    → All (Explain raw m causes) nexts → All (ExplainUnknown raw m causes) nexts → AreThere raw causes → AreInOrder causes
    → IsTrue kept ↔ AreKept raw m latches causes
    → IsLine raw m (record { latches = latches; causes = causes; kept = kept })
is_line raw m latches nexts causes kept are known unknown there order keep = record {
  known = λ p x has at. All-contains (Explain raw m causes) nexts x.next known (are p x has at);
  unknown = λ p x has at. All-contains (ExplainUnknown raw m causes) nexts x.next unknown (are p x has at);
  there = there;
  order = order;
  kept = keep;
}

-- no latch is named where none was found
pub none_between : (named : List Bool) (first end : ℕ) (latches : List ℕ) → AreNamedBetween named first end latches
    → length latches ≡ 0 → (p : ℕ) → first ≤ p → p < end → IsNamed named p → ⊥
none_between named first end latches h none p le lt is =
    let has = h.each p le lt is in omega (arith, has.1, none)

-- ---- frame by frame

module _ (p : CircuitAndRows) (literals : List ℕ) where
  pub begins : (e : ExplanationState) → IsAsked p.circuit (moment p e.frame) literals e.asked
      → ((q : ℕ) → IsNamed e.named q ↔ Contains e.asked.latches q) → e.end ≡ 0 → ((q : ℕ) → IsNamed e.below q → ⊥)
      → HasCome p literals e [] []
  unfolding ComesDown
  begins e asked named end below = record {
    down = asked;
    named = named;
    so_far = subst (λ (k : ℕ). AreLines p.circuit (moment p (e.frame - 1)) e.asked.latches k []) (sym end)
        (no_lines p.circuit (moment p (e.frame - 1)) e.asked.latches);
    below = λ q. (λ h. absurd (below q h), λ h. absurd (nothing q h));
  }

  module _ (e : ExplanationState) (frames : List (List LineState)) (lines : List LineState)
      (h : HasCome p literals e frames lines) where
    pub goes_on : (end : ℕ) → e.end ≤ end → ((q : ℕ) → e.end ≤ q → q < end → IsNamed e.named q → ⊥)
        → HasCome p literals (record e { end = end }) frames (lines ++ [])
    goes_on end up none = subst (HasCome p literals (record e { end = end }) frames) (sym (append-nil lines)) (record {
      down = h.down;
      named = h.named;
      so_far = lines_on p.circuit (moment p (e.frame - 1)) (named_at e.asked frames).latches e.end end lines up
          (λ q first lt has. none q first lt ((h.named q).1 has)) h.so_far;
      below = h.below;
    })

    pub goes_on_by : (v end : ℕ) (below : List Bool) (x : LineState) → e.end ≤ end
        → AreNamedBetween e.named e.end end x.latches → IsLine p.circuit (moment p (e.frame - 1)) x
        → ((q : ℕ) → IsNamed below q ↔ (IsNamed e.below q ⊎ Contains x.causes.latches q))
        → HasCome p literals (record e { variables = v; end = end; below = below }) frames (lines ++ x ∷ [])
    goes_on_by v end below x up between right added = record {
      down = h.down;
      named = h.named;
      so_far = lines_more p.circuit (moment p (e.frame - 1)) (named_at e.asked frames).latches e.end end lines x up
          (λ q first lt has. between.each q first lt ((h.named q).1 has))
          (λ q has. let found = between.only q has in ((h.named q).0 found.2, found.1)) right h.so_far;
      below = λ q.
          let more = named_more (λ y. y.causes.latches) lines x q in (
            λ has. more.0 (elim ((added q).0 has) [ inl k ↦ inl ((h.below q).0 k) | inr k ↦ inr k ]),
            λ has. (added q).1 (elim (more.1 has) [ inl k ↦ inl ((h.below q).1 k) | inr k ↦ inr k ]),
          );
    }

    pub goes_down_by : (none : List Bool) → 0 < e.frame → e.end ≡ length e.named → IsOf p e
        → ((q : ℕ) → IsNamed none q → ⊥)
        → HasCome p literals (record e { frame = e.frame - 1; named = e.below; end = 0; below = none }) (lines ∷ frames) []
    unfolding ComesDown
    goes_down_by none over end of empty =
        let up : e.frame ≡ suc (e.frame - 1) = omega (arith, over) in
        record {
          down = (
            subst (λ (k : ℕ). AreLines p.circuit (moment p (e.frame - 1)) (named_at e.asked frames).latches k lines)
                (end ∙ of.named) h.so_far,
            subst (λ (k : ℕ). ComesDown p.circuit literals e.asked (moment p k) frames) up h.down,
          );
          named = h.below;
          so_far = no_lines p.circuit (moment p (e.frame - 1 - 1)) (named_by lines).latches;
          below = λ q. (λ k. absurd (empty q k), λ k. absurd (nothing q k));
        }
