-- The bad literals of the frames of an unrolled circuit.
use Rattle.std.proofs.Common.{◌≡◌, ℕ, zero, suc, ◌+◌, ◌*◌, ◌<◌, ◌≤◌, List, [], ◌∷◌, length, slice_index, All}
use Rattle.std.proofs.Common.{Result, Ok, Err, IfErr}
use Rattle.std.proofs.Common.{mul-le-mul_right, refl, sym, ◌∙◌, ap, subst, arith}
use Rattle.std.specs.Result.{IsErrAnd}
use Rattle.std.proofs.lemmas.List.Elements.{All-nil, All-cons, All-head, All-tail, All-weaker}
use Rattle.aig_parts.specs.Literal.{variable}
use Rattle.aig_parts.specs.declared.gate.Gate.{Gate}
use Rattle.aig_parts.specs.declared.latch.Latch.{Latch}
use Rattle.aig_parts.specs.declared.raw.Raw.{Raw}
use Rattle.aig_base.specs.Circuit.{IsCircuit}
use Rattle.aig_base.specs.Sections.{definitions, uses}
use Rattle.aig_base.specs.Sound.{IsInRange}
use Rattle.aig_base.proofs.circuits.EachUse.{each_use}
use Rattle.aig_base.proofs.circuits.ShortGates.{short_gates}
use Rattle.aig_base.proofs.lists.Joined.{All-right}
use Rattle.aig_unroll.specs.Answers.{IsUnrolled}
use Rattle.aig_unroll.specs.Unrollable.{FitsLimits}
use Rattle.aig_unroll.specs.Unrolled.{frame_bad}
use Rattle.aig_unroll.proofs.UnrolledCircuit.{length-frame_bad, length-frames}
use Rattle.aig_unroll.proofs.UnrolledReady.{All-frames}
use Rattle.aig_cnf.specs.declared.query.Goal.{Goal}
use Rattle.aig_cnf.specs.declared.query.Goal.TheVariants as asked
use Rattle.aig_cnf.specs.declared.query.Query.{Query}
use Rattle.aig_cnf.specs.Formula.{IsFormulaOf, clauses, cone, goals, reset_literals, start_literals}
use Rattle.aig_cnf.specs.Answers.{HasFormula, RefusesFormula}
use Rattle.aig_cnf.specs.Query.{depth, depth_of, subject}
use Rattle.aig_cnf.specs.declared.fault.CnfFault.{CnfFault}
use Rattle.aig_cnf.specs.declared.fault.CnfFault.TheVariants as faults
use Rattle.aig_cnf.specs.state.Kept.{IsShort, Keeps, kept_latches}
use Rattle.aig_cnf.specs.state.Made.{IsAnswered}
use Rattle.aig_cnf.proofs.ConeLemmas.{All-cone, length-cone}
use Rattle.aig_cnf.proofs.StartLemmas.{few_latches, length-reset_literals, starts_are}

-- the goal of frame t is a bad literal
pub is_goal : (bad : List ℕ) (n t k p : ℕ) → t < k → p < n → length bad ≡ k * n → t * n + p < length bad
is_goal bad n t k p lt within size =
    let up : suc t * n ≤ k * n = mul-le-mul_right {m = suc t} {n = k} n lt in
    let e : suc t * n ≡ n + t * n = omega arith in
    omega (arith, up, e, size, within)

-- each frame has the bad literals of the circuit
pub unrolled_bad : (raw new : Raw) (k : ℕ) → IsUnrolled raw k new → length new.bad ≡ k * length raw.bad
unrolled_bad raw new k (order, canonical, is) =
    ap (λ (x : Raw). length x.bad) is ∙ length-frames (frame_bad raw order k) (length raw.bad) k (length-frame_bad raw order k)

-- one a frame
pub length-goals : (new : Raw) (n k p : ℕ) → length (goals new n k p) ≡ k
length-goals new n k p = length-frames (λ t. slice_index new.bad (t * n + p) ∷ []) 1 k (λ t. refl) ∙ omega arith

-- the bad literals are the same wherever the circuit starts
pub subject_bad : (goal : Goal) (raw : Raw) → (subject goal raw).bad ≡ raw.bad
subject_bad asked.Within raw = refl
subject_bad asked.Last raw = refl
subject_bad asked.Step raw = refl
subject_bad asked.Induction raw = refl

-- and so are the inputs
subject_inputs : (goal : Goal) (raw : Raw) → (subject goal raw).inputs ≡ raw.inputs
subject_inputs asked.Within raw = refl
subject_inputs asked.Last raw = refl
subject_inputs asked.Step raw = refl
subject_inputs asked.Induction raw = refl

-- the first latch of a circuit that starts where the goal does
pub first_is : (goal : Goal) (raw mid : Raw) (k first : ℕ) → mid ≡ subject goal raw → first ≡ k * length mid.inputs + 1
    → first ≡ k * length raw.inputs + 1
first_is goal raw mid k first e f =
    f ∙ ap (λ (ls : List ℕ). k * length ls + 1) (ap (λ (r : Raw). r.inputs) e ∙ subject_inputs goal raw)

-- what the literals of its start are
pub starts_of : (raw mid : Raw) (query : Query) (k first : ℕ) (latches : List Latch) (starts : List ℕ)
    → mid ≡ subject query.goal raw → k ≡ depth query → first ≡ k * length mid.inputs + 1
    → latches ≡ kept_latches query.goal raw → starts ≡ reset_literals first latches → starts ≡ start_literals query raw
starts_of raw mid query k first latches starts e depth_is f g h =
    h ∙ ap (λ n. reset_literals n latches) (first_is query.goal raw mid k first e f)
    ∙ ap (λ (xs : List Latch). reset_literals (k * length raw.inputs + 1) xs) g ∙ starts_are query k raw depth_is

pub is_formula : (raw new : Raw) (query : Query) (k n variables : ℕ) (starts found : List ℕ) (gates : List Gate)
    → IsUnrolled (subject query.goal raw) k new
    → k ≡ depth query → n ≡ length raw.bad → variables ≡ new.max_var + 1 → starts ≡ start_literals query raw
    → found ≡ goals new n k query.property → gates ≡ cone found new.gates
    → IsFormulaOf raw query
    (record { variables = variables; goals = found; clauses = clauses query.goal starts found gates })
is_formula raw new query k n variables starts found gates (order, canonical, is) e f v s g h = (order, canonical, cc)

-- ---- the bad literals of an unrolled circuit are of its variables

index_below : (v : ℕ) (ls : List ℕ) (i : ℕ) → 0 < v → All (λ l. variable l < v) ls → variable (slice_index ls i) < v
index_below v [] i some h = some
index_below v (l ∷ ls) zero some h = All-head (λ l. variable l < v) l ls h
index_below v (l ∷ ls) (suc i) some h = index_below v ls i some (All-tail (λ l. variable l < v) l ls h)

pub goals_below : (new : Raw) → IsCircuit new → (n k p : ℕ) → All (λ l. variable l < new.max_var + 1) (goals new n k p)
goals_below new circuit n k p =
    All-frames (λ l. variable l < new.max_var + 1) (λ t. slice_index new.bad (t * n + p) ∷ []) k
    (λ t lt. All-cons (λ l. variable l < new.max_var + 1) (slice_index new.bad (t * n + p)) []
    (index_below (new.max_var + 1) new.bad (t * n + p) (omega arith) bad_below) (All-nil (λ l. variable l < new.max_var + 1)))
  where
    bad_below : All (λ l. variable l < new.max_var + 1) new.bad
    bad_below = All-weaker (IsInRange new) (λ l. variable l < new.max_var + 1) (λ l h. omega arith) new.bad
        (each_use (IsInRange new) new (All-right (IsInRange new) (definitions new) (uses new) circuit.sound.in_range)).bad

pub goals_in_range : (new : Raw) → IsCircuit new → (n k p : ℕ) (found : List ℕ) → found ≡ goals new n k p
    → All (λ l. variable l ≤ new.max_var) found
goals_in_range new circuit n k p found e =
    subst (λ (ls : List ℕ). All (λ l. variable l ≤ new.max_var) ls) (sym e)
    (All-weaker (λ l. variable l < new.max_var + 1) (λ l. variable l ≤ new.max_var) (λ l h. omega (arith, h))
    (goals new n k p) (goals_below new circuit n k p))

-- ---- answers

pub has_formula : (raw mid : Raw) (query : Query) (k : ℕ) → mid ≡ subject query.goal raw → IsAnswered mid query (Ok k)
    → HasFormula raw query
has_formula raw mid query k e h = record {
  frames = h.1;
  property = rw (← subject_bad query.goal raw) (subst (λ (r : Raw). query.property < length r.bad) e h.2);
  limits = subst (λ (r : Raw). FitsLimits r (depth query)) e (subst (FitsLimits mid) h.0 h.3);
}

-- memory ran out on the way to the formula
pub refused : {A : Type 0} (raw : Raw) (query : Query) (r : Result A CnfFault) → IsErrAnd r (λ f. f ≡ faults.Memory)
    → HasFormula raw query → IfErr r (RefusesFormula raw query)
refused raw query (Ok x) h some = absurd h
refused raw query (Err fault) h some = subst (RefusesFormula raw query) (sym h) some

-- a goal a frame, of which there are some, and not too many; a literal a latch; and the gates of the cone
pub keeps : (raw mid new : Raw) (query : Query) (k n p first variables : ℕ) (latches : List Latch) (starts found : List ℕ)
    (gates : List Gate) → mid ≡ subject query.goal raw → IsCircuit mid → IsAnswered mid query (Ok k)
    → latches ≡ kept_latches query.goal raw → starts ≡ reset_literals first latches → found ≡ goals new n k p
    → IsCircuit new → variables ≡ new.max_var + 1 → gates ≡ cone found new.gates → Keeps variables starts found gates
keeps raw mid new query k n p first variables latches starts found gates same circuit h g s e whole v kept =
    let size : length found ≡ k = ap length e ∙ length-goals new n k p in
    let positive : 0 < k = rw h.0 (depth_positive query.goal query.frames h.1) in
    let most = h.3.frames in
    let few = few_latches query.goal raw (subst IsCircuit same circuit) in
    record {
      variables_fit = omega (arith, v, whole.formed.counts.max_var);
      latches = omega (
        arith,
        ap (λ (ls : List ℕ). length ls) s,
        length-reset_literals first latches,
        ap (λ (xs : List Latch). length xs) g,
        few,
      );
      some = omega (arith, size, positive);
      frames = omega (arith, size, most);
      few = omega (
        arith,
        ap (λ (gs : List Gate). length gs) kept,
        length-cone found new.gates,
        whole.formed.counts.gates,
      );
      short = subst (All IsShort) (sym kept) (All-cone IsShort found new.gates (short_gates new whole));
    }
  where
    depth_positive : (goal : Goal) (k : ℕ) → 0 < k → 0 < depth_of goal k
    depth_positive asked.Within k some = some
    depth_positive asked.Last k some = some
    depth_positive asked.Step k some = omega arith
    depth_positive asked.Induction k some = omega arith
