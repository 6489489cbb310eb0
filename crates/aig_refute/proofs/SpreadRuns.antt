-- A run of the part of a circuit that is spread reaches the property, and keeps the constraints, at the same frames.
use Rattle.std.proofs.Common.{◌≡◌, ◌↔◌, ◌⊎◌, inl, inr, ℕ, ◌<◌, Bool, true, false, List, [], ◌∷◌, length, map, replicate}
use Rattle.std.proofs.Common.{Some, slice_get, refl, sym, ◌∙◌, ap, subst, arith}
use Rattle.std.proofs.lemmas.List.{length-map}
use Rattle.std.proofs.lemmas.Option.{slice_get_within}
use Rattle.aig_parts.specs.Literal.{variable}
use Rattle.aig_parts.specs.declared.latch.Latch.{Latch}
use Rattle.aig_parts.specs.declared.raw.Raw.{Raw}
use Rattle.aig_parts.specs.declared.ternary.Tern.{Tern}
use Rattle.aig_parts.specs.declared.ternary.Tern.TheVariants.{One, X}
use Rattle.aig_base.specs.Circuit.{IsCircuit}
use Rattle.aig_base.specs.Part as read
use Rattle.aig_base.specs.Part.{IsRead, TestsRead, input_marks, latch_marks, part, picked, spread}
use Rattle.aig_base.specs.Runs.{IsAllowed}
use Rattle.aig_base.specs.Value.{Value, Fits, start_of}
use Rattle.aig_cnf.specs.Alive.{always_bad}
use Rattle.aig_cnf.specs.Query.{from_any_state, subject, uninitialised_latch}
use Rattle.aig_cnf.specs.declared.query.Goal.{Goal}
use Rattle.aig_cnf.specs.declared.query.Goal.TheVariants as asked
use Rattle.aig_cnf.proofs.AnyCircuit.{any_latch, from_any_circuit}
use Rattle.aig_sim.specs.Reached.{IsFirstReached, Reaches, ReachesNone}
use Rattle.aig_sim.specs.declared.witness.verdict.Verdict.TheVariants as verdict
use Rattle.aig_refute.specs.Satisfiable.{KeepsConstraints}
use Rattle.aig_refute.specs.SpreadRun.{spread_rows, spread_start}
use Rattle.aig_refute.proofs.AnyState.{any_allowed, any_fits, fits_from_any, latch_from}
use Rattle.aig_cnf.proofs.PartCircuit.{part_circuit}
use Rattle.aig_refute.proofs.PartRuns.{allowed_back, first_allowed, first_long, rows_are_back, start_back, wide_allowed, wide_fits}
use Rattle.aig_refute.proofs.PartRuns.{wide_not, wide_reaches, wide_rows, wide_start}
use Rattle.aig_refute.proofs.PartValues.{keeps_in_part, keeps_in_whole}
use Rattle.aig_refute.proofs.Reached.{allowed_where_none, confirms_reached}

-- what is reached is reached from a start that the resets allow
pub reached_allowed : (raw : Raw) (start : List Tern) (rows : List (List Tern)) (t p : ℕ) → Reaches raw start rows t p
    → IsAllowed raw start
reached_allowed raw start rows t p r =
    allowed_where_none raw start (λ q wrong. r.confirmed.first (verdict.Initial q) (omega arith) wrong)

-- two runs reach property 0 of the one circuit and property p of the other at the same frames
abbrev pub AreAlike : Raw → List Tern → List (List Tern) → Raw → List Tern → List (List Tern) → ℕ → Type 0
AreAlike small few fews raw wide wides p = (t : ℕ) → Reaches small few fews t 0 ↔ Reaches raw wide wides t p

module _ (small : Raw) (few : List Tern) (fews : List (List Tern)) (raw : Raw) (wide : List Tern) (wides : List (List Tern))
    (p : ℕ) (alike : AreAlike small few fews raw wide wides p) where
  pub none_alike : ReachesNone small few fews (Some 0) ↔ ReachesNone raw wide wides (Some p)
  none_alike = (
    λ none t q same r. none t 0 refl ((alike t).1 (subst (λ n. Reaches raw wide wides t n) same r)),
    λ none t q same r. none t p refl ((alike t).0 (subst (λ n. Reaches small few fews t n) same r)),
  )

  pub first_alike : (t : ℕ) → IsFirstReached small few fews (Some 0) t 0 ↔ IsFirstReached raw wide wides (Some p) t p
  first_alike t = (
    λ h. record {
      asked_for = refl;
      reaches = (alike t).0 h.reaches;
      first = λ u q before same r.
          h.first u 0 (inl (earlier u q p before same)) refl ((alike u).1 (subst (λ n. Reaches raw wide wides u n) same r));
    },
    λ h. record {
      asked_for = refl;
      reaches = (alike t).1 h.reaches;
      first = λ u q before same r.
          h.first u p (inl (earlier u q 0 before same)) refl ((alike u).0 (subst (λ n. Reaches small few fews u n) same r));
    },
  )
    where
      earlier : (u q asked : ℕ) → (u < t) ⊎ ((u ≡ t) × (q < asked)) → q ≡ asked → u < t
      earlier u q asked (inl below) same = below
      earlier u q asked (inr (e, less)) same = absurd (omega (arith, less, same))

module _ (raw : Raw) (bad : ℕ) (test : ℕ → Bool) (exact : TestsRead raw bad test) (others : List Tern)
    (long : length others ≡ length raw.latches) (right : IsAllowed raw others) (d : Tern) (start : List Tern)
    (rows : List (List Tern)) (fits : Fits (part raw bad test) start rows) where
  abbrev small : Raw
  small = part raw bad test

  abbrev wide : List Tern
  wide = wide_start raw bad test exact others long d start rows fits

  abbrev wides : List (List Tern)
  wides = wide_rows raw bad test exact others long d start rows fits

  abbrev as_wide : List Tern → List Tern
  as_wide row = spread (input_marks test raw) (replicate (length raw.inputs) d) row

  -- ---- constraints

  pub wide_keeps : (k : ℕ) → KeepsConstraints small k start rows ↔ KeepsConstraints raw k wide wides
  wide_keeps k = (
    λ (_, allowed, few, kept). (
      wide_fits raw bad test exact others long d start rows fits,
      wide_allowed raw bad test exact others long d start rows fits right allowed,
      omega (arith, few, length-map rows as_wide),
      λ t c below has. keeps_in_whole raw bad test exact wide wides t c
          (subst (λ (s : List Tern). Value small s (map (λ (r : List Tern). picked (input_marks test raw) r) wides) t c One)
          (sym (start_back raw bad test exact others long d start rows fits))
          (subst (λ (rs : List (List Tern)). Value small start rs t c One)
          (sym (rows_are_back raw bad test exact others long d start rows fits)) (kept t c below has))),
    ),
    λ (_, allowed, few, kept). (
      fits,
      allowed_back raw bad test exact others long d start rows fits allowed,
      omega (arith, few, length-map rows as_wide),
      λ t c below has.
          subst (λ (rs : List (List Tern)). Value small start rs t c One)
          (rows_are_back raw bad test exact others long d start rows fits)
          (subst (λ (s : List Tern). Value small s (map (λ (r : List Tern). picked (input_marks test raw) r) wides) t c One)
          (start_back raw bad test exact others long d start rows fits)
          (keeps_in_part raw bad test exact wide wides t c has (kept t c below has))),
    ),
  )

  -- ---- the property

  module _ (circuit : IsCircuit raw) (p : ℕ) (is : slice_get raw.bad p ≡ Some bad) where
    small_circuit : IsCircuit small
    small_circuit = part_circuit raw bad test exact circuit p is

    pub wide_alike : AreAlike small start rows raw wide wides p
    wide_alike t = (there, back)
      where
        there : Reaches small start rows t 0 → Reaches raw wide wides t p
        there r =
            let allowed = reached_allowed small start rows t 0 r in
            let lt : t < length wides = omega (arith, r.frame, length-map rows as_wide) in
            record {
              frame = lt;
              property = slice_get_within raw.bad p bad is;
              confirmed = (confirms_reached raw circuit wide wides (wide_fits raw bad test exact others long d start rows fits)
                  (wide_allowed raw bad test exact others long d start rows fits right allowed) t p bad lt is).0
                  (wide_reaches raw bad test exact others long d start rows fits t
                  ((confirms_reached small small_circuit start rows fits allowed t 0 bad r.frame refl).1 r.confirmed));
            }

        back : Reaches raw wide wides t p → Reaches small start rows t 0
        back r =
            let allowed = reached_allowed raw wide wides t p r in
            let lt : t < length rows = omega (arith, r.frame, length-map rows as_wide) in
            record {
              frame = lt;
              property = omega arith;
              confirmed = (confirms_reached small small_circuit start rows fits
                  (allowed_back raw bad test exact others long d start rows fits allowed) t 0 bad lt refl).0
                  (wide_not raw bad test exact others long d start rows fits t
                  ((confirms_reached raw circuit wide wides (wide_fits raw bad test exact others long d start rows fits) allowed t p
                  bad r.frame is).1 r.confirmed));
            }

-- ---- what a query unrolls

pub same_marks : (test : ℕ → Bool) (xs : List Latch)
    → map (λ (x : Latch). test (variable x.lit)) (map uninitialised_latch xs) ≡ map (λ (x : Latch). test (variable x.lit)) xs
same_marks test [] = refl
same_marks test (x ∷ xs) = ap (λ (bs : List Bool). test (variable x.lit) ∷ bs) (same_marks test xs)

picked_map : {A B : Type 0} (f : A → B) (bs : List Bool) (xs : List A) → picked bs (map f xs) ≡ map f (picked bs xs)
unfolding picked
picked_map f [] xs = refl
picked_map f (b ∷ bs) [] = refl
picked_map f (true ∷ bs) (x ∷ xs) = ap (λ ys. f x ∷ ys) (picked_map f bs xs)
picked_map f (false ∷ bs) (x ∷ xs) = picked_map f bs xs

module _ (raw : Raw) (bad : ℕ) (test : ℕ → Bool) where
  -- the part of what starts in any state
  part_of_any : part (from_any_state raw) bad test ≡ from_any_state (part raw bad test)
  part_of_any =
      ap (λ (xs : List Latch). record (part raw bad test) { latches = xs })
      (ap (λ (bs : List Bool). picked bs (map uninitialised_latch raw.latches)) (same_marks test raw.latches)
      ∙ picked_map uninitialised_latch (latch_marks test raw) raw.latches)

  read_in_any : {v : ℕ} → IsRead raw bad v → IsRead (from_any_state raw) bad v
  read_in_any read.property = read.property
  read_in_any (read.constraint c l at) = read.constraint c l at
  read_in_any (read.first q g at r) = read.first q g at (read_in_any r)
  read_in_any (read.second q g at r) = read.second q g at (read_in_any r)
  read_in_any (read.next p x at r) = read.next p (uninitialised_latch x) (any_latch raw p x at) (read_in_any r)

  read_from_any : {v : ℕ} → IsRead (from_any_state raw) bad v → IsRead raw bad v
  read_from_any read.property = read.property
  read_from_any (read.constraint c l at) = read.constraint c l at
  read_from_any (read.first q g at r) = read.first q g at (read_from_any r)
  read_from_any (read.second q g at r) = read.second q g at (read_from_any r)
  read_from_any (read.next p y at r) =
      let (x, here, same) = latch_from raw.latches p y at in
      subst (λ (z : Latch). IsRead raw bad (variable z.next)) (sym same)
      (read.next p x here (subst (λ (z : Latch). IsRead raw bad (variable z.lit)) same (read_from_any r)))

  exact_any : TestsRead raw bad test → TestsRead (from_any_state raw) bad test
  exact_any exact v = (λ e. read_in_any ((exact v).0 e), λ r. (exact v).1 (read_from_any r))

-- ---- starts by the resets, and x at inputs

pub subject_fits : (raw : Raw) (goal : Goal) (start : List Tern) (rows : List (List Tern)) → Fits raw start rows
    → Fits (subject goal raw) start rows
subject_fits raw asked.Within start rows fits = fits
subject_fits raw asked.Last start rows fits = fits
subject_fits raw asked.Step start rows fits = any_fits raw start rows fits
subject_fits raw asked.Induction start rows fits = any_fits raw start rows fits

pub fits_of_subject : (raw : Raw) (goal : Goal) (start : List Tern) (rows : List (List Tern)) → Fits (subject goal raw) start rows
    → Fits raw start rows
fits_of_subject raw asked.Within start rows fits = fits
fits_of_subject raw asked.Last start rows fits = fits
fits_of_subject raw asked.Step start rows fits = fits_from_any raw start rows fits
fits_of_subject raw asked.Induction start rows fits = fits_from_any raw start rows fits

module _ (raw : Raw) (bad : ℕ) (test : ℕ → Bool) (exact : TestsRead raw bad test) (start : List Tern) (rows : List (List Tern)) where
  pub spread_fits : Fits (part raw bad test) start rows → Fits raw (spread_start test raw start) (spread_rows test raw rows)
  spread_fits = wide_fits raw bad test exact (start_of raw) (first_long raw bad test exact) X start rows

  pub spread_keeps : (k : ℕ) → Fits (part raw bad test) start rows → KeepsConstraints (part raw bad test) k start rows
      ↔ KeepsConstraints raw k (spread_start test raw start) (spread_rows test raw rows)
  spread_keeps k fits =
      wide_keeps raw bad test exact (start_of raw) (first_long raw bad test exact) (first_allowed raw bad test exact) X start rows fits k

  module _ (circuit : IsCircuit raw) (p : ℕ) (is : slice_get raw.bad p ≡ Some bad) where
    alike_there : Fits (part raw bad test) start rows
        → AreAlike (part raw bad test) start rows raw (spread_start test raw start) (spread_rows test raw rows) p
    alike_there fits =
        wide_alike raw bad test exact (start_of raw) (first_long raw bad test exact) (first_allowed raw bad test exact) X start rows
        fits circuit p is

    -- from any state
    alike_free : Fits (from_any_state (part raw bad test)) start rows
        → AreAlike (from_any_state (part raw bad test)) start rows (from_any_state raw) (spread_start test raw start)
        (spread_rows test raw rows) p
    alike_free fits =
        let free : Raw = from_any_state raw in
        let same = part_of_any raw bad test in
        let long : length (start_of raw) ≡ length free.latches =
        first_long raw bad test exact ∙ sym (length-map raw.latches uninitialised_latch) in
        let free_alike = wide_alike free bad test (exact_any raw bad test exact) (start_of raw) long (any_allowed raw (start_of raw)) X
        start rows (subst (λ (small : Raw). Fits small start rows) (sym same) fits) (from_any_circuit raw circuit) p is in
        subst (λ (small : Raw). AreAlike small start rows free (spread_start test raw start) (spread_rows test raw rows) p) same
        (subst (λ (bs : List Bool). AreAlike (part free bad test) start rows free (spread bs (start_of raw) start)
        (spread_rows test raw rows) p) (same_marks test raw.latches) free_alike)

    pub spread_alike : (goal : Goal) → Fits (subject goal (part raw bad test)) start rows
        → AreAlike (subject goal (part raw bad test)) start rows (subject goal raw) (spread_start test raw start)
        (spread_rows test raw rows) p
    spread_alike asked.Within = alike_there
    spread_alike asked.Last = alike_there
    spread_alike asked.Step = alike_free
    spread_alike asked.Induction = alike_free

-- ---- constraints alone

module _ (raw : Raw) where
  read_of_always : {v : ℕ} → IsRead (always_bad raw) 1 v → IsRead raw 1 v
  read_of_always read.property = read.property
  read_of_always (read.constraint c l at) = read.constraint c l at
  read_of_always (read.first q g at r) = read.first q g at (read_of_always r)
  read_of_always (read.second q g at r) = read.second q g at (read_of_always r)
  read_of_always (read.next p x at r) = read.next p x at (read_of_always r)

  always_read : {v : ℕ} → IsRead raw 1 v → IsRead (always_bad raw) 1 v
  always_read read.property = read.property
  always_read (read.constraint c l at) = read.constraint c l at
  always_read (read.first q g at r) = read.first q g at (always_read r)
  always_read (read.second q g at r) = read.second q g at (always_read r)
  always_read (read.next p x at r) = read.next p x at (always_read r)

  pub exact_of_always : (test : ℕ → Bool) → TestsRead (always_bad raw) 1 test → TestsRead raw 1 test
  exact_of_always test exact v = (λ e. read_of_always ((exact v).0 e), λ r. (exact v).1 (always_read r))

  pub spread_keeps_alive : (test : ℕ → Bool) → TestsRead (always_bad raw) 1 test → (start : List Tern) (rows : List (List Tern))
      → Fits (part raw 1 test) start rows → (k : ℕ) → KeepsConstraints (part raw 1 test) k start rows
      ↔ KeepsConstraints raw k (spread_start test raw start) (spread_rows test raw rows)
  spread_keeps_alive test exact start rows fits k = spread_keeps raw 1 test (exact_of_always test exact) start rows k fits
