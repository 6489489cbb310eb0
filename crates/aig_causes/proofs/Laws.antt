-- What a finished walk found explains what it was asked for: by recursion on the gates that lead there.
use Rattle.std.proofs.Common.{◌≡◌, ◌≢◌, inl, inr, ℕ, ◌-◌, ◌*◌, ◌<◌, List, [], Contains, Some, slice_get, refl, sym, ◌∙◌}
use Rattle.std.proofs.Common.{subst, arith}
use Rattle.std.proofs.lemmas.Bool.{cases_eq}
use Rattle.aig_parts.specs.Literal.{variable}
use Rattle.aig_parts.specs.Ternary.{kleene_and, kleene_not}
use Rattle.aig_parts.specs.declared.gate.Gate.{Gate}
use Rattle.aig_parts.specs.declared.raw.Raw.{Raw}
use Rattle.aig_parts.specs.declared.ternary.Tern.{Tern}
use Rattle.aig_parts.specs.declared.ternary.Tern.TheVariants.{Zero, One, X}
use Rattle.aig_base.specs.Circuit.{IsCircuit}
use Rattle.aig_base.specs.Grounded.{Grounded}
use Rattle.aig_base.specs.Grounded as grounded
use Rattle.aig_base.specs.Sections.{IsDefined}
use Rattle.aig_base.specs.Value as value
use Rattle.aig_base.specs.declared.circuit.definition.Definition.TheVariants as definition
use Rattle.aig_base.proofs.circuits.Circuits.{gate_definition, input_defined, input_definition, latch_defined}
use Rattle.aig_base.proofs.circuits.Circuits.{latch_definition, rhs0_defined, rhs1_defined}
use Rattle.aig_base.proofs.circuits.Defined.{even, Grounded-of_defined}
use Rattle.aig_base.proofs.circuits.Places.{gate, odd}
use Rattle.aig_base.proofs.values.OneValue.{exists_value}
use Rattle.aig_base.proofs.values.Refined.{and-zero}
use Rattle.aig_base.proofs.values.UniqueValue.{rests_at, unique}
use Rattle.aig_values.proofs.Evaluation.{even_or_odd}
use Rattle.aig_causes.specs.Causes.{Agree, Explain, ExplainUnknown, Has, IsMoment, Moment, Settled, Sources}
use Rattle.aig_causes.specs.state.Walk.{HaveReached, IsReached, IsVisited, IsWalk, Needs, WalkState}

-- every side is reached where all variables are
all_needed : (g : Gate) (a b : Tern) → Needs (λ _. Unit {0}) g a b (kleene_and a b)
all_needed g Zero b = inl (refl, tt)
all_needed g One Zero = inr (refl, tt)
all_needed g One One = (tt, tt)
all_needed g One X = (λ _. tt, λ _. tt)
all_needed g X Zero = inr (refl, tt)
all_needed g X One = (λ _. tt, λ _. tt)
all_needed g X X = (λ _. tt, λ _. tt)

not_known : (v : Tern) → kleene_not v ≢ X → v ≢ X
not_known Zero n e = let no : ⊥ = cc in no
not_known One n e = let no : ⊥ = cc in no
not_known X n e = n refl

known_not : (v : Tern) → v ≢ X → kleene_not v ≢ X
known_not Zero n e = let no : ⊥ = cc in no
known_not One n e = let no : ⊥ = cc in no
known_not X n e = n refl

not_x : (v : Tern) → X ≡ kleene_not v → v ≡ X
not_x Zero e = let no : ⊥ = cc in absurd no
not_x One e = let no : ⊥ = cc in absurd no
not_x X e = refl

known_and : (a b : Tern) → a ≢ X → b ≢ X → kleene_and a b ≢ X
known_and Zero b na nb e = let no : ⊥ = cc in no
known_and One b na nb e = nb e
known_and X b na nb e = na refl

module _ (raw : Raw) (circuit : IsCircuit raw) (m n : Moment) (there : IsMoment raw n) where
  -- a literal's value from one moment to the other, as that of its variable
  lift_known : (l : ℕ) (w : Tern) → w ≢ X
      → ((u : Tern) → u ≢ X → Has raw m (2 * variable l) u → Has raw n (2 * variable l) u) → Has raw m l w → Has raw n l w
  lift_known l w known step v = elim (even_or_odd l) [
    | inl e ↦
        let same : 2 * variable l ≡ l = omega (arith, e) in
        subst (λ (k : ℕ). Has raw n k w) same (step w known (subst (λ (k : ℕ). Has raw m k w) (sym same) v))
    | inr e ↦ elim (cases_eq l 1) [
      | inl one ↦
          let is : w ≡ One = unique raw m.start m.rows circuit.sound (subst (λ (k : ℕ). Has raw m k w) one v)
          (value.constant_true m.frame) in
          subst (λ (u : Tern). Has raw n l u) (sym is)
          (subst (λ (k : ℕ). Has raw n k One) (sym one) (value.constant_true n.frame))
      | inr other ↦
          let over : 1 < l = omega (arith, e, other) in
          let (u, below, is) = rests_at raw m.start m.rows circuit.sound odd (over, e) v in
          let same : l - 1 ≡ 2 * variable l = omega (arith, e) in
          let known_u : u ≢ X = not_known u (λ x. known (is ∙ x)) in
          let up = step u known_u (subst (λ (k : ℕ). Has raw m k u) same below) in
          subst (λ (z : Tern). Has raw n l z) (sym is)
          (value.negated n.frame l u over e (subst (λ (k : ℕ). Has raw n k u) (sym same) up))
    ]
  ]

  lift_unknown : (l : ℕ) (w : Tern)
      → ((u : Tern) → Has raw m (2 * variable l) X → Has raw n (2 * variable l) u → u ≢ X)
      → Has raw m l X → Has raw n l w → w ≢ X
  lift_unknown l w step v vn = elim (even_or_odd l) [
    | inl e ↦
        let same : l ≡ 2 * variable l = omega (arith, e) in
        step w (subst (λ (k : ℕ). Has raw m k X) same v) (subst (λ (k : ℕ). Has raw n k w) same vn)
    | inr e ↦ elim (cases_eq l 1) [
      | inl one ↦
          let is : X ≡ One = unique raw m.start m.rows circuit.sound (subst (λ (k : ℕ). Has raw m k X) one v)
          (value.constant_true m.frame) in
          let no : ⊥ = cc in absurd no
      | inr other ↦
          let over : 1 < l = omega (arith, e, other) in
          let (u, below, is) = rests_at raw m.start m.rows circuit.sound odd (over, e) v in
          let (un, below_n, is_n) = rests_at raw n.start n.rows circuit.sound odd (over, e) vn in
          let same : l - 1 ≡ 2 * variable l = omega (arith, e) in
          let below_x : Has raw m (l - 1) X = subst (λ (z : Tern). Has raw m (l - 1) z) (not_x u is) below in
          let settled : un ≢ X = step un (subst (λ (k : ℕ). Has raw m k X) same below_x)
          (subst (λ (k : ℕ). Has raw n k un) same below_n) in
          (λ x. known_not un settled (sym is_n ∙ x))
    ]
  ]

  -- a gate whose reached sides keep what is known of them
  gate_known : (R : ℕ → Type 0) (q : ℕ) (g : Gate) → slice_get raw.gates q ≡ Some g → (a b : Tern)
      → Needs R g a b (kleene_and a b) → kleene_and a b ≢ X → Has raw m g.rhs0 a → Has raw m g.rhs1 b
      → (R (variable g.rhs0) → (u : Tern) → u ≢ X → Has raw m g.rhs0 u → Has raw n g.rhs0 u)
      → (R (variable g.rhs1) → (u : Tern) → u ≢ X → Has raw m g.rhs1 u → Has raw n g.rhs1 u)
      → Has raw n g.lhs (kleene_and a b)
  gate_known R q g at a b needs known va vb keep0 keep1 = go a b needs known va vb
    where
      zero0 : R (variable g.rhs0) → Has raw m g.rhs0 Zero → Has raw n g.rhs0 Zero
      zero0 r v = keep0 r Zero (λ e. let no : ⊥ = cc in no) v

      zero1 : R (variable g.rhs1) → Has raw m g.rhs1 Zero → Has raw n g.rhs1 Zero
      zero1 r v = keep1 r Zero (λ e. let no : ⊥ = cc in no) v

      by0 : Has raw n g.rhs0 Zero → Has raw n g.lhs Zero
      by0 v =
          let (b', vb') = exists_value raw n.start n.rows circuit.sound circuit.acyclic there.fits n.frame there.frame g.rhs1
          (rhs1_defined raw circuit.sound q g at) in
          value.gate n.frame q g Zero b' at v vb'

      by1 : Has raw n g.rhs1 Zero → Has raw n g.lhs Zero
      by1 v =
          let (a', va') = exists_value raw n.start n.rows circuit.sound circuit.acyclic there.fits n.frame there.frame g.rhs0
          (rhs0_defined raw circuit.sound q g at) in
          subst (λ (z : Tern). Has raw n g.lhs z) (and-zero a') (value.gate n.frame q g a' Zero at va' v)

      go : (a b : Tern) → Needs R g a b (kleene_and a b) → kleene_and a b ≢ X → Has raw m g.rhs0 a → Has raw m g.rhs1 b
          → Has raw n g.lhs (kleene_and a b)
      go Zero b needs known va vb = elim needs [
        | inl h ↦ by0 (zero0 h.1 va)
        | inr h ↦ by1 (zero1 h.1 (subst (λ (z : Tern). Has raw m g.rhs1 z) h.0 vb))
      ]
      go One Zero needs known va vb = elim needs [
        | inl h ↦ let e : One ≡ Zero = h.0 in let no : ⊥ = cc in absurd no
        | inr h ↦ by1 (zero1 h.1 vb)
      ]
      go One One needs known va vb =
          value.gate n.frame q g One One at (keep0 needs.0 One (λ e. let no : ⊥ = cc in no) va)
          (keep1 needs.1 One (λ e. let no : ⊥ = cc in no) vb)
      go One X needs known va vb = absurd (known refl)
      go X Zero needs known va vb = elim needs [
        | inl h ↦ let e : X ≡ Zero = h.0 in let no : ⊥ = cc in absurd no
        | inr h ↦ by1 (zero1 h.1 vb)
      ]
      go X One needs known va vb = absurd (known refl)
      go X X needs known va vb = absurd (known refl)

  -- a gate that is x: each side that is x is settled, and the others keep their values
  gate_settled : (R : ℕ → Type 0) (g : Gate) (a b a' b' : Tern) → X ≡ kleene_and a b → Needs R g a b (kleene_and a b)
      → (a ≢ X → a' ≡ a) → (b ≢ X → b' ≡ b) → (R (variable g.rhs0) → a ≡ X → a' ≢ X)
      → (R (variable g.rhs1) → b ≡ X → b' ≢ X) → kleene_and a' b' ≢ X
  gate_settled R g Zero b a' b' is needs keep0 keep1 settle0 settle1 = let no : ⊥ = cc in absurd no
  gate_settled R g One Zero a' b' is needs keep0 keep1 settle0 settle1 = let no : ⊥ = cc in absurd no
  gate_settled R g One One a' b' is needs keep0 keep1 settle0 settle1 = let no : ⊥ = cc in absurd no
  gate_settled R g One X a' b' is needs keep0 keep1 settle0 settle1 =
      known_and a' b'
      (λ x. let e : a' ≡ One = keep0 (λ f. let no : ⊥ = cc in no) in let no : ⊥ = cc in no)
      (settle1 (needs.1 refl) refl)
  gate_settled R g X Zero a' b' is needs keep0 keep1 settle0 settle1 = let no : ⊥ = cc in absurd no
  gate_settled R g X One a' b' is needs keep0 keep1 settle0 settle1 =
      known_and a' b' (settle0 (needs.0 refl) refl)
      (λ x. let e : b' ≡ One = keep1 (λ f. let no : ⊥ = cc in no) in let no : ⊥ = cc in no)
  gate_settled R g X X a' b' is needs keep0 keep1 settle0 settle1 =
      known_and a' b' (settle0 (needs.0 refl) refl) (settle1 (needs.1 refl) refl)

  -- what is known stays where the known inputs and latches have their values
  module _ (sources : Sources) (settled : Settled raw sources m n) where
    stays : (v : ℕ) → Grounded raw v → (w : Tern) → w ≢ X → Has raw m (2 * v) w → Has raw n (2 * v) w
    stays v (grounded.source _ grounded.constant) w known h =
        let is : w ≡ Zero = unique raw m.start m.rows circuit.sound h (value.constant_false m.frame) in
        subst (λ (u : Tern). Has raw n 0 u) (sym is) (value.constant_false n.frame)
    stays v (grounded.source _ (grounded.input p l at)) w known h =
        let same = even l (input_definition raw circuit.sound p l at) in
        let (u, vu) = exists_value raw n.start n.rows circuit.sound circuit.acyclic there.fits n.frame there.frame l
        (input_defined raw p l at) in
        let is = (settled.inputs p l w u at (subst (λ (k : ℕ). Has raw m k w) same h) vu).0 known in
        subst (λ (k : ℕ). Has raw n k w) (sym same) (subst (λ (z : Tern). Has raw n l z) is vu)
    stays v (grounded.source _ (grounded.latch p x at)) w known h =
        let same = even x.lit (latch_definition raw circuit.sound p x at) in
        let (u, vu) = exists_value raw n.start n.rows circuit.sound circuit.acyclic there.fits n.frame there.frame x.lit
        (latch_defined raw p x at) in
        let is = (settled.latches p x w u at (subst (λ (k : ℕ). Has raw m k w) same h) vu).0 known in
        subst (λ (k : ℕ). Has raw n k w) (sym same) (subst (λ (z : Tern). Has raw n x.lit z) is vu)
    stays v (grounded.gate q g at g0 g1) w known h =
        let same = even g.lhs (gate_definition raw circuit.sound q g at) in
        let (k, a, b, here, va, vb, is) = rests_at raw m.start m.rows circuit.sound (gate q) (g, at, refl)
        (subst (λ (j : ℕ). Has raw m j w) same h) in
        let one : k ≡ g = cc in
        let va' : Has raw m g.rhs0 a = subst (λ (j : Gate). Has raw m j.rhs0 a) one va in
        let vb' : Has raw m g.rhs1 b = subst (λ (j : Gate). Has raw m j.rhs1 b) one vb in
        subst (λ (j : ℕ). Has raw n j w) (sym same)
        (subst (λ (z : Tern). Has raw n g.lhs z) (sym is)
        (gate_known (λ _. Unit {0}) q g at a b (all_needed g a b) (λ e. known (is ∙ e)) va' vb'
        (λ _ u ku vu. lift_known g.rhs0 u ku (stays (variable g.rhs0) g0) vu)
        (λ _ u ku vu. lift_known g.rhs1 u ku (stays (variable g.rhs1) g1) vu)))

  module _ (s : WalkState) (walk : IsWalk raw m s) (done : s.todo ≡ []) where
    visited : (v : ℕ) → IsReached s v → IsVisited s.marks s.number v
    visited v (inl h) = h
    visited v (inr h) =
        let none : Contains [] v = subst (λ (xs : List ℕ). Contains xs v) done h in absurd (omega (arith, none.1))

    -- law 1
    module _ (agree : Agree raw s.found m n) where
      known_stays : (v : ℕ) → Grounded raw v → IsReached s v → (w : Tern) → w ≢ X → Has raw m (2 * v) w
          → Has raw n (2 * v) w
      known_stays v (grounded.source _ grounded.constant) reached w known h =
          let is : w ≡ Zero = unique raw m.start m.rows circuit.sound h (value.constant_false m.frame) in
          subst (λ (u : Tern). Has raw n 0 u) (sym is) (value.constant_false n.frame)
      known_stays v (grounded.source _ (grounded.input p l at)) reached w known h =
          let same = even l (input_definition raw circuit.sound p l at) in
          let found = walk.led (variable l) (definition.Input p) (visited (variable l) reached) (l, at, refl) in
          subst (λ (k : ℕ). Has raw n k w) (sym same)
          (agree.inputs p l w found at known (subst (λ (k : ℕ). Has raw m k w) same h))
      known_stays v (grounded.source _ (grounded.latch p x at)) reached w known h =
          let same = even x.lit (latch_definition raw circuit.sound p x at) in
          let found = walk.led (variable x.lit) (definition.Latch p) (visited (variable x.lit) reached) (x, at, refl) in
          subst (λ (k : ℕ). Has raw n k w) (sym same)
          (agree.latches p x w found at known (subst (λ (k : ℕ). Has raw m k w) same h))
      known_stays v (grounded.gate q g at g0 g1) reached w known h =
          let same = even g.lhs (gate_definition raw circuit.sound q g at) in
          let (k, a, b, here, va, vb, is) = rests_at raw m.start m.rows circuit.sound (gate q) (g, at, refl)
          (subst (λ (j : ℕ). Has raw m j w) same h) in
          let one : k ≡ g = cc in
          let va' : Has raw m g.rhs0 a = subst (λ (j : Gate). Has raw m j.rhs0 a) one va in
          let vb' : Has raw m g.rhs1 b = subst (λ (j : Gate). Has raw m j.rhs1 b) one vb in
          let led : HaveReached raw m (IsReached s) g =
          walk.led (variable g.lhs) (definition.Gate q) (visited (variable g.lhs) reached) (g, at, refl) g at in
          subst (λ (j : ℕ). Has raw n j w) (sym same)
          (subst (λ (z : Tern). Has raw n g.lhs z) (sym is)
          (gate_known (IsReached s) q g at a b (led.needs a b va' vb') (λ e. known (is ∙ e)) va' vb'
          (λ r u ku vu. lift_known g.rhs0 u ku (known_stays (variable g.rhs0) g0 r) vu)
          (λ r u ku vu. lift_known g.rhs1 u ku (known_stays (variable g.rhs1) g1 r) vu)))

    -- law 3
    module _ (settled : Settled raw s.found m n) where
      unknown_settles : (v : ℕ) → Grounded raw v → IsReached s v → (u : Tern) → Has raw m (2 * v) X → Has raw n (2 * v) u
          → u ≢ X
      unknown_settles v (grounded.source _ grounded.constant) reached u h hn =
          let is : X ≡ Zero = unique raw m.start m.rows circuit.sound h (value.constant_false m.frame) in
          let no : ⊥ = cc in absurd no
      unknown_settles v (grounded.source _ (grounded.input p l at)) reached u h hn =
          let same = even l (input_definition raw circuit.sound p l at) in
          let found = walk.led (variable l) (definition.Input p) (visited (variable l) reached) (l, at, refl) in
          (settled.inputs p l X u at (subst (λ (k : ℕ). Has raw m k X) same h) (subst (λ (k : ℕ). Has raw n k u) same hn)).1
          found
      unknown_settles v (grounded.source _ (grounded.latch p x at)) reached u h hn =
          let same = even x.lit (latch_definition raw circuit.sound p x at) in
          let found = walk.led (variable x.lit) (definition.Latch p) (visited (variable x.lit) reached) (x, at, refl) in
          (settled.latches p x X u at (subst (λ (k : ℕ). Has raw m k X) same h)
          (subst (λ (k : ℕ). Has raw n k u) same hn)).1 found
      unknown_settles v (grounded.gate q g at g0 g1) reached u h hn =
          let same = even g.lhs (gate_definition raw circuit.sound q g at) in
          let (k, a, b, here, va, vb, is) = rests_at raw m.start m.rows circuit.sound (gate q) (g, at, refl)
          (subst (λ (j : ℕ). Has raw m j X) same h) in
          let (k', a', b', here', na, nb, is') = rests_at raw n.start n.rows circuit.sound (gate q) (g, at, refl)
          (subst (λ (j : ℕ). Has raw n j u) same hn) in
          let one : k ≡ g = cc in
          let one' : k' ≡ g = cc in
          let va' : Has raw m g.rhs0 a = subst (λ (j : Gate). Has raw m j.rhs0 a) one va in
          let vb' : Has raw m g.rhs1 b = subst (λ (j : Gate). Has raw m j.rhs1 b) one vb in
          let na' : Has raw n g.rhs0 a' = subst (λ (j : Gate). Has raw n j.rhs0 a') one' na in
          let nb' : Has raw n g.rhs1 b' = subst (λ (j : Gate). Has raw n j.rhs1 b') one' nb in
          let led : HaveReached raw m (IsReached s) g =
          walk.led (variable g.lhs) (definition.Gate q) (visited (variable g.lhs) reached) (g, at, refl) g at in
          let settles : kleene_and a' b' ≢ X =
          gate_settled (IsReached s) g a b a' b' is (led.needs a b va' vb')
          (λ ka. unique raw n.start n.rows circuit.sound na'
          (lift_known g.rhs0 a ka (stays s.found settled (variable g.rhs0) g0) va'))
          (λ kb. unique raw n.start n.rows circuit.sound nb'
          (lift_known g.rhs1 b kb (stays s.found settled (variable g.rhs1) g1) vb'))
          (λ r x. lift_unknown g.rhs0 a' (unknown_settles (variable g.rhs0) g0 r)
          (subst (λ (z : Tern). Has raw m g.rhs0 z) x va') na')
          (λ r x. lift_unknown g.rhs1 b' (unknown_settles (variable g.rhs1) g1 r)
          (subst (λ (z : Tern). Has raw m g.rhs1 z) x vb') nb') in
          (λ e. settles (sym is' ∙ e))

module _ (raw : Raw) (circuit : IsCircuit raw) (m : Moment) (s : WalkState) (walk : IsWalk raw m s) (done : s.todo ≡ [])
    (l : ℕ) (defined : IsDefined raw (variable l)) (reached : IsReached s (variable l)) where
  ground : Grounded raw (variable l)
  ground = Grounded-of_defined raw circuit.acyclic (variable l) defined

  pub explains : Explain raw m s.found l
  explains w known v n there agree =
      lift_known raw circuit m n there l w known
      (known_stays raw circuit m n there s walk done agree (variable l) ground reached) v

  pub explains_unknown : ExplainUnknown raw m s.found l
  explains_unknown v n there settled w vn =
      lift_unknown raw circuit m n there l w
      (unknown_settles raw circuit m n there s walk done settled (variable l) ground reached) v vn

-- ---- more sources

module _ (raw : Raw) (m : Moment) (s t : Sources) (inputs : (p : ℕ) → Contains s.inputs p → Contains t.inputs p)
    (latches : (p : ℕ) → Contains s.latches p → Contains t.latches p) (l : ℕ) where
  pub explain_more : Explain raw m s l → Explain raw m t l
  explain_more h w known v n there agree =
      h w known v n there (record {
        inputs = λ p k u named at ku hu. agree.inputs p k u (inputs p named) at ku hu;
        latches = λ p x u named at ku hu. agree.latches p x u (latches p named) at ku hu;
      })

  pub explain_unknown_more : ExplainUnknown raw m s l → ExplainUnknown raw m t l
  explain_unknown_more h v n there settled =
      h v n there (record {
        inputs = λ p k w u at hw hu. let both = settled.inputs p k w u at hw hu in (both.0, λ named. both.1 (inputs p named));
        latches = λ p x w u at hw hu. let both = settled.latches p x w u at hw hu in (both.0, λ named. both.1 (latches p named));
      })
