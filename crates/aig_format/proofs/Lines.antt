-- The lines that are read are spelled so, and the lines that are spelled so are read.
use Rattle.std.proofs.Common.{◌≡◌, ℕ, zero, suc, ◌+◌, ◌-◌, ◌*◌, ◌^◌, ◌<◌, ◌≤◌, Bool, true, false, cond, not, eqb}
use Rattle.std.proofs.Common.{subst, List, [], ◌∷◌, ◌++◌, length, Ok, refl, sym, ap, ◌∙◌, append_assoc}
use Rattle.std.proofs.Common.{arith}
use Rattle.std.specs.Prelude.{All}
use Rattle.std.specs.Fmt.{decimal}
use Rattle.std.specs.List.{flat_map}
use Rattle.std.proofs.lemmas.List.Concat.{flat_map-cons}
use Rattle.std.proofs.lemmas.List.Elements.{All-nil, All-cons, All-head, All-tail}
use Rattle.aig_parts.specs.declared.latch.Latch.{Latch}
use Rattle.aig_parts.specs.declared.gate.Gate.{Gate}
use Rattle.aig_format.specs.Header.{space, line_end, field}
use Rattle.aig_format.specs.Delta.{delta}
use Rattle.aig_format.specs.Spelling.{literal_line, reset_text, latch_line, implicit_latch_line, gate_line}
use Rattle.aig_format.specs.Spelling.{gate_deltas, lines}
use Rattle.aig_format.specs.Spells.{greatest}
use Rattle.aig_format.specs.state.Fits.{FitsFrom, IsImplicitGate}
use Rattle.aig_format.specs.state.Reading.{Read}
use Rattle.aig_format.specs.state.ReadingSections.{literal_at, latch_at, gate_at, implicit_latch_at, implicit_gate_at}
use Rattle.aig_format.specs.state.ReadingSections.{lines_at}
use Rattle.aig_format.proofs.Steps.{done, done_is}
use Rattle.aig_format.proofs.Numbers.{bind_then, joins, number_takes, number_again, field_takes, field_again}
use Rattle.aig_format.proofs.Numbers.{optional_takes, optional_again, Stops, stops_space, stops_line}
use Rattle.aig_format.proofs.Deltas.{delta_takes, delta_again}

-- the law of one kind of line: what is read is spelled so
abbrev pub Takes : {X : Type 0} → (ℕ → List ℕ → Read X) → (Bool → X → List ℕ) → (ℕ → X → Type 0) → Type 0
Takes {X} at line Fits = (v : ℕ) (bytes : List ℕ) (x : X) (rest : List ℕ) → at v bytes ≡ Ok (x, rest)
    → (w : Bool) × (bytes ≡ line w x ++ rest) × Fits v x

-- and what is spelled so is read, whatever follows
abbrev pub Again : {X : Type 0} → (ℕ → List ℕ → Read X) → (Bool → X → List ℕ) → (ℕ → X → Type 0) → Type 0
Again {X} at line Fits = (v : ℕ) (w : Bool) (x : X) (rest : List ℕ) → Fits v x → at v (line w x ++ rest) ≡ Ok (x, rest)

-- the lines that were read
pub record LinesRead {X : Type 0} (line : Bool → X → List ℕ) (Fits : ℕ → X → Type 0) (n v : ℕ) (bytes : List ℕ)
    (xs : List X) (rest : List ℕ) : Type 0 where
  pub written : List Bool
  pub spelled : bytes ≡ lines line written xs ++ rest
  pub count : length xs ≡ n
  pub fits : FitsFrom Fits v xs

module _ {X : Type 0} (at : ℕ → List ℕ → Read X) (line : Bool → X → List ℕ) (Fits : ℕ → X → Type 0) where
  pub lines_take : Takes at line Fits → (n v : ℕ) (bytes : List ℕ) (xs : List X) (rest : List ℕ)
      → lines_at at n v bytes ≡ Ok (xs, rest) → LinesRead line Fits n v bytes xs rest
  unfolding lines_at lines FitsFrom
  lines_take takes zero v bytes xs rest h =
      let p = done_is [] xs bytes rest h in
      let P : List X → Type 0 = λ ys. LinesRead line Fits 0 v bytes ys rest in
      subst P p.0 (record { written = []; spelled = p.1; count = refl; fits = tt })
  lines_take takes (suc n) v bytes xs rest h = bind_then _ _ _ h (λ a ea h1. bind_then _ _ _ h1 (λ b eb h2.
      let p = done_is (a.0 ∷ b.0) xs b.1 rest h2 in
      let one = takes v bytes a.0 a.1 ea in
      let more = lines_take takes n (suc v) a.1 b.0 b.1 eb in
      let P : List X → Type 0 = λ ys. LinesRead line Fits (suc n) v bytes ys rest in
      subst P p.0 (record {
        written = one.0 ∷ more.written;
        spelled =
            joins bytes (line one.0 a.0) a.1 (lines line more.written b.0) rest one.1
            (more.spelled ∙ ap (λ (t : List ℕ). lines line more.written b.0 ++ t) p.1);
        count = ap suc more.count;
        fits = (one.2, more.fits);
      })))

  pub lines_again : Again at line Fits → (v : ℕ) (ws : List Bool) (xs : List X) (rest : List ℕ) → FitsFrom Fits v xs
      → lines_at at (length xs) v (lines line ws xs ++ rest) ≡ Ok (xs, rest)
  unfolding lines_at lines FitsFrom
  lines_again again v ws [] rest fits = refl
  lines_again again v [] (x ∷ xs) rest fits =
      ap (lines_at at (suc (length xs)) v) (append_assoc (line false x) (lines line [] xs) rest)
      ∙ rw (
        again v false x (lines line [] xs ++ rest) fits.0,
        lines_again again (suc v) [] xs rest fits.1,
      ) refl
  lines_again again v (w ∷ ws) (x ∷ xs) rest fits =
      ap (lines_at at (suc (length xs)) v) (append_assoc (line w x) (lines line ws xs) rest)
      ∙ rw (
        again v w x (lines line ws xs ++ rest) fits.0,
        lines_again again (suc v) ws xs rest fits.1,
      ) refl

-- where each kind of line has one spelling
pub plain_lines : {X : Type 0} (line : X → List ℕ) (ws : List Bool) (xs : List X)
    → lines (λ w. line) ws xs ≡ flat_map line xs
unfolding lines
plain_lines line ws [] = refl
plain_lines line [] (x ∷ xs) = ap (λ (t : List ℕ). line x ++ t) (plain_lines line [] xs) ∙ sym (flat_map-cons line x xs)
plain_lines line (w ∷ ws) (x ∷ xs) =
    ap (λ (t : List ℕ). line x ++ t) (plain_lines line ws xs) ∙ sym (flat_map-cons line x xs)

pub fits_none : {X : Type 0} (Fits : ℕ → X → Type 0) (v : ℕ) → FitsFrom Fits v []
unfolding FitsFrom
fits_none Fits v = tt

-- one more, of the next variable
pub fits_push : {X : Type 0} (Fits : ℕ → X → Type 0) (v : ℕ) (xs : List X) (x : X) → FitsFrom Fits v xs
    → Fits (v + length xs) x → FitsFrom Fits v (xs ++ x ∷ [])
unfolding FitsFrom
fits_push Fits v [] x fits new =
    let e : v + 0 ≡ v = omega arith in
    (subst (λ (u : ℕ). Fits u x) e new, tt)
fits_push Fits v (y ∷ ys) x fits new =
    let e : v + length (y ∷ ys) ≡ suc v + length ys = omega arith in
    (fits.0, fits_push Fits (suc v) ys x fits.1 (subst (λ (u : ℕ). Fits u x) e new))

-- where the variable does not matter
pub all_from_fits : {X : Type 0} (P : X → Type 0) (v : ℕ) (xs : List X) → FitsFrom (λ u. P) v xs → All P xs
unfolding FitsFrom
all_from_fits P v [] fits = All-nil P
all_from_fits P v (x ∷ xs) fits = All-cons P x xs fits.0 (all_from_fits P (suc v) xs fits.1)

pub fits_from_all : {X : Type 0} (P : X → Type 0) (v : ℕ) (xs : List X) → All P xs → FitsFrom (λ u. P) v xs
unfolding FitsFrom
fits_from_all P v [] all = tt
fits_from_all P v (x ∷ xs) all = (All-head P x xs all, fits_from_all P (suc v) xs (All-tail P x xs all))

-- ---- the kinds

wide : greatest < 2 ^ 64
wide = omega arith

nine : 9 ≤ greatest
nine = omega arith

abbrev pub IsLiteral : ℕ → Type 0
IsLiteral l = l ≤ greatest

abbrev pub IsLatch : Latch → Type 0
IsLatch x = (x.lit ≤ greatest) × (x.next ≤ greatest) × (x.reset ≤ greatest)

abbrev pub IsGateWithin : Gate → Type 0
IsGateWithin g = (g.lhs ≤ greatest) × (g.rhs0 ≤ greatest) × (g.rhs1 ≤ greatest)

abbrev pub IsImplicitLatch : ℕ → Latch → Type 0
IsImplicitLatch v x = (x.lit ≡ 2 * v) × (x.next ≤ greatest) × (x.reset ≤ greatest)

pub literal_takes : Takes (λ v. literal_at) (λ w. literal_line) (λ v. IsLiteral)
unfolding literal_at
literal_takes v bytes x rest h =
    let t = field_takes greatest line_end bytes x rest nine wide h in
    (false, t.0, t.1)

pub literal_again : Again (λ v. literal_at) (λ w. literal_line) (λ v. IsLiteral)
unfolding literal_at
literal_again v w x rest fits = field_again greatest line_end x rest fits wide (stops_line rest)

pub gate_takes : Takes (λ v. gate_at) (λ w. gate_line) (λ v. IsGateWithin)
unfolding gate_at
gate_takes v bytes x rest h =
    bind_then _ _ _ h (λ a ea h1. bind_then _ _ _ h1 (λ b eb h2. bind_then _ _ _ h2 (λ d ed h3.
    let made : Gate = record { lhs = a.0; rhs0 = b.0; rhs1 = d.0 } in
    let p = done_is made x d.1 rest h3 in
    let t0 = field_takes greatest space bytes a.0 a.1 nine wide ea in
    let t1 = field_takes greatest space a.1 b.0 b.1 nine wide eb in
    let t2 = field_takes greatest line_end b.1 d.0 d.1 nine wide ed in
    let e01 = joins bytes (field a.0 space) a.1 (field b.0 space) b.1 t0.0 t1.0 in
    let e02 = joins bytes (field a.0 space ++ field b.0 space) b.1 (field d.0 line_end) d.1 e01 t2.0 in
    let P : Gate → Type 0 = λ g. (w : Bool) × (bytes ≡ gate_line g ++ rest) × IsGateWithin g in
    subst P p.0 (false, e02 ∙ ap (λ (r : List ℕ). gate_line made ++ r) p.1, (t0.1, t1.1, t2.1)))))

pub gate_again : Again (λ v. gate_at) (λ w. gate_line) (λ v. IsGateWithin)
unfolding gate_at
gate_again v w x rest fits =
    let regrouped : gate_line x ++ rest ≡ field x.lhs space ++ (field x.rhs0 space ++ (field x.rhs1 line_end ++ rest)) =
    append_assoc (field x.lhs space ++ field x.rhs0 space) (field x.rhs1 line_end) rest
    ∙ append_assoc (field x.lhs space) (field x.rhs0 space) (field x.rhs1 line_end ++ rest) in
    ap gate_at regrouped
    ∙ rw (
      field_again greatest space x.lhs (field x.rhs0 space ++ (field x.rhs1 line_end ++ rest)) fits.0 wide
          (stops_space (field x.rhs0 space ++ (field x.rhs1 line_end ++ rest))),
      field_again greatest space x.rhs0 (field x.rhs1 line_end ++ rest) fits.1 wide
          (stops_space (field x.rhs1 line_end ++ rest)),
      field_again greatest line_end x.rhs1 rest fits.2 wide (stops_line rest),
    ) refl

-- the rest of a line doesn't go on with a digit
pub stops_reset : (w : Bool) (n : ℕ) (rest : List ℕ) → Stops (reset_text w n ++ rest)
stops_reset true n rest = stops_space (field n line_end ++ rest)
stops_reset false n rest = by_zero (eqb n 0)
  where
    by_zero : (b : Bool) → Stops (cond (not b) (space ∷ field n line_end) (line_end ∷ []) ++ rest)
    by_zero true = stops_line rest
    by_zero false = stops_space (field n line_end ++ rest)

pub latch_takes : Takes (λ v. latch_at) latch_line (λ v. IsLatch)
unfolding latch_at
latch_takes v bytes x rest h =
    bind_then _ _ _ h (λ a ea h1. bind_then _ _ _ h1 (λ b eb h2. bind_then _ _ _ h2 (λ d ed h3.
    let made : Latch = record { lit = a.0; next = b.0; reset = d.0 } in
    let p = done_is made x d.1 rest h3 in
    let t0 = field_takes greatest space bytes a.0 a.1 nine wide ea in
    let t1 = number_takes greatest a.1 b.0 b.1 nine wide eb in
    let t2 = optional_takes greatest b.1 d.0 d.1 nine wide ed in
    let e01 = joins bytes (field a.0 space) a.1 (decimal b.0) b.1 t0.0 t1.0 in
    let e02 = joins bytes (field a.0 space ++ decimal b.0) b.1 (reset_text t2.0 d.0) d.1 e01 t2.1 in
    let P : Latch → Type 0 = λ l. (w : Bool) × (bytes ≡ latch_line w l ++ rest) × IsLatch l in
    subst P p.0 (t2.0, e02 ∙ ap (λ (r : List ℕ). latch_line t2.0 made ++ r) p.1, (t0.1, t1.1, t2.2)))))

pub latch_again : Again (λ v. latch_at) latch_line (λ v. IsLatch)
unfolding latch_at
latch_again v w x rest fits =
    let regrouped : latch_line w x ++ rest ≡ field x.lit space ++ (decimal x.next ++ (reset_text w x.reset ++ rest)) =
    append_assoc (field x.lit space ++ decimal x.next) (reset_text w x.reset) rest
    ∙ append_assoc (field x.lit space) (decimal x.next) (reset_text w x.reset ++ rest) in
    ap latch_at regrouped
    ∙ rw (
      field_again greatest space x.lit (decimal x.next ++ (reset_text w x.reset ++ rest)) fits.0 wide
          (stops_space (decimal x.next ++ (reset_text w x.reset ++ rest))),
      number_again greatest x.next (reset_text w x.reset ++ rest) fits.1 wide (stops_reset w x.reset rest),
      optional_again greatest w x.reset rest fits.2 wide,
    ) refl

pub implicit_latch_takes : Takes implicit_latch_at implicit_latch_line IsImplicitLatch
unfolding implicit_latch_at
implicit_latch_takes v bytes x rest h = bind_then _ _ _ h (λ b eb h1. bind_then _ _ _ h1 (λ d ed h2.
    let made : Latch = record { lit = 2 * v; next = b.0; reset = d.0 } in
    let p = done_is made x d.1 rest h2 in
    let t1 = number_takes greatest bytes b.0 b.1 nine wide eb in
    let t2 = optional_takes greatest b.1 d.0 d.1 nine wide ed in
    let e01 = joins bytes (decimal b.0) b.1 (reset_text t2.0 d.0) d.1 t1.0 t2.1 in
    let P : Latch → Type 0 = λ l. (w : Bool) × (bytes ≡ implicit_latch_line w l ++ rest) × IsImplicitLatch v l in
    subst P p.0 (t2.0, e01 ∙ ap (λ (r : List ℕ). implicit_latch_line t2.0 made ++ r) p.1, (refl, t1.1, t2.2))))

pub implicit_latch_again : Again implicit_latch_at implicit_latch_line IsImplicitLatch
unfolding implicit_latch_at
implicit_latch_again v w x rest fits =
    let made : Latch = record { lit = 2 * v; next = x.next; reset = x.reset } in
    let same : made ≡ x = λ i. record { lit = sym fits.0 i; next = x.next; reset = x.reset } in
    ap (implicit_latch_at v) (append_assoc (decimal x.next) (reset_text w x.reset) rest)
    ∙ rw (
      number_again greatest x.next (reset_text w x.reset ++ rest) fits.1 wide (stops_reset w x.reset rest),
      optional_again greatest w x.reset rest fits.2 wide,
    ) refl
    ∙ ap (λ (y : Latch). done y rest) same

pub implicit_gate_takes : Takes implicit_gate_at (λ w. gate_deltas) IsImplicitGate
unfolding implicit_gate_at
implicit_gate_takes v bytes x rest h = bind_then _ _ _ h (λ a ea h1. bind_then _ _ _ h1 (λ b eb h2.
    let made : Gate = record { lhs = 2 * v; rhs0 = 2 * v - a.0; rhs1 = 2 * v - a.0 - b.0 } in
    let p = done_is made x b.1 rest h2 in
    let t0 = delta_takes 1 (2 * v) bytes a.0 a.1 ea in
    let t1 = delta_takes 0 (2 * v - a.0) a.1 b.0 b.1 eb in
    let first : a.0 ≡ 2 * v - (2 * v - a.0) = omega (arith, t0.2) in
    let second : b.0 ≡ (2 * v - a.0) - (2 * v - a.0 - b.0) = omega (arith, t1.2) in
    let e01 = joins bytes (delta a.0) a.1 (delta b.0) b.1 t0.0 t1.0 in
    let P : Gate → Type 0 = λ g. (w : Bool) × (bytes ≡ gate_deltas g ++ rest) × IsImplicitGate v g in
    subst P p.0 (
      false,
      e01 ∙ (λ i. (delta (first i) ++ delta (second i)) ++ p.1 i),
      (refl, omega (arith, t0.1, t0.2), omega arith),
    )))

-- a gate whose deltas are short enough
abbrev pub IsWrittenGate : ℕ → Gate → Type 0
IsWrittenGate v g = IsImplicitGate v g × (g.lhs < 2 ^ 28)

pub implicit_gate_again : Again implicit_gate_at (λ w. gate_deltas) IsWrittenGate
unfolding implicit_gate_at
implicit_gate_again v w x rest fits =
    let rhs0 : 2 * v - (x.lhs - x.rhs0) ≡ x.rhs0 = omega (arith, fits.0.0, fits.0.1) in
    let rhs1 : x.rhs0 - (x.rhs0 - x.rhs1) ≡ x.rhs1 = omega (arith, fits.0.2) in
    let made : Gate = record { lhs = 2 * v; rhs0 = x.rhs0; rhs1 = x.rhs1 } in
    let same : made ≡ x = λ i. record { lhs = sym fits.0.0 i; rhs0 = x.rhs0; rhs1 = x.rhs1 } in
    ap (implicit_gate_at v) (append_assoc (delta (x.lhs - x.rhs0)) (delta (x.rhs0 - x.rhs1)) rest)
    ∙ rw (
      delta_again 1 (2 * v) (x.lhs - x.rhs0) (delta (x.rhs0 - x.rhs1) ++ rest) (omega (arith, fits.0.1))
          (omega (arith, fits.0.0)) (omega (arith, fits.1)),
      rhs0,
      delta_again 0 x.rhs0 (x.rhs0 - x.rhs1) rest (omega arith) (omega arith) (omega (arith, fits.0.1, fits.1)),
      rhs1,
    ) refl
    ∙ ap (λ (y : Gate). done y rest) same
