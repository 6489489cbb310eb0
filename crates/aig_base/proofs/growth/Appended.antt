-- One more gate keeps a circuit a circuit.
use Rattle.std.proofs.Common.{◌≡◌, ◌⊎◌, inl, inr, ℕ, ◌+◌, ◌*◌, ◌<◌, ◌≤◌, List, [], ◌∷◌, ◌++◌, length, map, get_or}
use Rattle.std.proofs.Common.{Some, slice_get, All, Contains, refl, sym, ap, subst, ◌∙◌, arith}
use Rattle.std.proofs.lemmas.List.{append_assoc, length_push, map-append}
use Rattle.std.proofs.lemmas.List.Elements.{All-push, All-weaker, Contains-append_left}
use Rattle.std.proofs.lemmas.Option.{slice_get_within}
use Rattle.aig_parts.specs.declared.gate.Gate.{Gate}
use Rattle.aig_parts.specs.declared.latch.Latch.{Latch}
use Rattle.aig_parts.specs.declared.raw.Raw.{Raw}
use Rattle.aig_parts.specs.declared.symbols.Kind.{Kind}
use Rattle.aig_parts.specs.declared.symbols.Kind.TheVariants as kind
use Rattle.aig_base.specs.Changes.{next_gate, with_appended_gate}
use Rattle.aig_base.specs.Circuit.{IsCircuit}
use Rattle.aig_base.specs.Definition.{IsInOrder}
use Rattle.aig_base.specs.state.Definitions.{IsNumberOf, IsDefinitionTable}
use Rattle.aig_parts.specs.Formed.{IsFormed, limit, section_length}
use Rattle.aig_base.specs.Grounded as grounded
use Rattle.aig_base.specs.Grounded.{IsSource, Grounded, IsAcyclic}
use Rattle.aig_parts.specs.Literal.{variable}
use Rattle.aig_base.specs.Sections.{definitions, uses, IsDefined}
use Rattle.aig_base.specs.Sound.{IsInRange, IsDefinition, IsSound, StandsTwice}
use Rattle.aig_base.proofs.lists.Counting.{sections_fit}
use Rattle.aig_base.proofs.circuits.Defined.{Grounded-of_defined}
use Rattle.aig_base.proofs.circuits.Entering.{number_last, number_stays}
use Rattle.aig_base.proofs.circuits.Tables.{length-definitions}
use Rattle.aig_base.proofs.lists.Evens.{evens_more}
use Rattle.aig_base.proofs.checks.Faults.{in_range_joined, in_range_parted, uses_joined, uses_parted}
use Rattle.aig_base.proofs.circuits.Gates.{gate_of, IsGate-of_gate}
use Rattle.aig_base.proofs.lists.Gets.{All-at, slice_get_left, slice_get_last, slice_get_push}
use Rattle.aig_base.proofs.lists.Joined.{All-left}
use Rattle.aig_base.proofs.checks.Marking.{slice_get_unmap}
use Rattle.aig_base.proofs.rewires.Rewiring.{in_range_from_defined}

module _ (raw : Raw) (r0 r1 : ℕ) where
  -- what is defined, with one more at the end
  pub more_definitions : definitions (with_appended_gate raw r0 r1) ≡ definitions raw ++ 2 * (raw.max_var + 1) ∷ []
  more_definitions =
      let front = raw.inputs ++ map (λ (x : Latch). x.lit) raw.latches in
      let sides = map (λ (g : Gate). g.lhs) raw.gates in
      ap (λ ls. front ++ ls) (map-append (λ (g : Gate). g.lhs) raw.gates (next_gate raw r0 r1 ∷ []))
      ∙ sym (append_assoc front sides (2 * (raw.max_var + 1) ∷ []))

  pub more_variables : map variable (definitions (with_appended_gate raw r0 r1))
      ≡ map variable (definitions raw) ++ variable (2 * (raw.max_var + 1)) ∷ []
  more_variables = ap (map variable) more_definitions ∙ map-append variable (definitions raw) (2 *
      (raw.max_var + 1) ∷ [])

  pub new_variable : variable (2 * (raw.max_var + 1)) ≡ raw.max_var + 1
  new_variable = omega arith

  pub still_defined : (v : ℕ) → IsDefined raw v → IsDefined (with_appended_gate raw r0 r1) v
  still_defined v h =
      subst (λ vs. Contains (0 ∷ vs) v) (sym more_variables)
      (Contains-append_left (0 ∷ map variable (definitions raw)) (variable (2 * (raw.max_var + 1)) ∷ []) v h)

  pub source_new : (v : ℕ) → IsSource raw v → IsSource (with_appended_gate raw r0 r1) v
  source_new v grounded.constant = grounded.constant
  source_new v (grounded.input p l at) = grounded.input p l at
  source_new v (grounded.latch p x at) = grounded.latch p x at

  pub source_old : (v : ℕ) → IsSource (with_appended_gate raw r0 r1) v → IsSource raw v
  source_old v grounded.constant = grounded.constant
  source_old v (grounded.input p l at) = grounded.input p l at
  source_old v (grounded.latch p x at) = grounded.latch p x at

  -- the gates that were there, and the new one
  pub old_at : (q : ℕ) (g : Gate) → slice_get raw.gates q ≡ Some g → slice_get (with_appended_gate raw r0 r1).gates q
      ≡ Some g
  old_at q g at = slice_get_left raw.gates (next_gate raw r0 r1 ∷ []) q g at

  pub new_at : slice_get (with_appended_gate raw r0 r1).gates (length raw.gates) ≡ Some (next_gate raw r0 r1)
  new_at = slice_get_last raw.gates (next_gate raw r0 r1)

  pub gate_cases : (q : ℕ) (g : Gate) → slice_get (with_appended_gate raw r0 r1).gates q ≡ Some g
      → (slice_get raw.gates q ≡ Some g) ⊎ ((q ≡ length raw.gates) × (next_gate raw r0 r1 ≡ g))
  gate_cases q g at = slice_get_push raw.gates (next_gate raw r0 r1) g q at

  sections : (k : Kind) → section_length raw k ≡ section_length (with_appended_gate raw r0 r1) k
  sections kind.Input = refl
  sections kind.Latch = refl
  sections kind.Output = refl
  sections kind.Bad = refl
  sections kind.Constraint = refl
  sections kind.Justice = refl
  sections kind.Fairness = refl

  formed : IsSound raw → raw.max_var < limit → IsFormed raw → IsFormed (with_appended_gate raw r0 r1)
  formed s below f = record {
    counts = record {
      max_var = omega arith;
      inputs = f.counts.inputs;
      latches = f.counts.latches;
      outputs = f.counts.outputs;
      bad = f.counts.bad;
      constraints = f.counts.constraints;
      justice = f.counts.justice;
      fairness = f.counts.fairness;
      gates = omega (arith, sections_fit raw s, length_push raw.gates (next_gate raw r0 r1));
      justice_literals = f.counts.justice_literals;
    };
    symbols = λ k d h. let s = f.symbols k d h in (subst (λ n. (get_or raw.symbols k d).0.1 < n) (sections _) s.0, s.1);
    names = f.names;
  }

  wider : (l : ℕ) → IsInRange raw l → IsInRange (with_appended_gate raw r0 r1) l
  wider l h = omega arith

  all_wider : (xs : List ℕ) → All (IsInRange raw) xs → All (IsInRange (with_appended_gate raw r0 r1)) xs
  all_wider xs h = All-weaker (IsInRange raw) (IsInRange (with_appended_gate raw r0 r1)) wider xs h

  in_range : IsSound raw → IsDefined raw (variable r0) → IsDefined raw (variable r1)
      → All (IsInRange (with_appended_gate raw r0 r1)) (definitions (with_appended_gate raw r0 r1)
      ++ uses (with_appended_gate raw r0 r1))
  in_range s d0 d1 =
      let h = in_range_parted raw s.in_range in
      let P : Gate → Type 0 = λ g. IsInRange (with_appended_gate raw r0 r1) g.lhs
      × IsInRange (with_appended_gate raw r0 r1) g.rhs0
      × IsInRange (with_appended_gate raw r0 r1) g.rhs1 in
      in_range_joined (with_appended_gate raw r0 r1) (record {
        inputs = all_wider raw.inputs h.inputs;
        latches = λ k d l. let x = h.latches k d l in (wider _ x.0, wider _ x.1);
        outputs = all_wider raw.outputs h.outputs;
        bad = all_wider raw.bad h.bad;
        constraints = all_wider raw.constraints h.constraints;
        justice = λ k d l. all_wider _ (h.justice k d l);
        fairness = all_wider raw.fairness h.fairness;
        gates = All-push P raw.gates (next_gate raw r0 r1) (λ k d l. let g = h.gates k d l in
            (wider _ g.0, wider _ g.1, wider _ g.2))
            (omega arith, wider r0 (in_range_from_defined raw r0 s d0), wider r1 (in_range_from_defined raw r1 s d1));
      })

  -- a variable that is defined is not over the greatest
  low : IsSound raw → (k v : ℕ) → slice_get (map variable (definitions raw)) k ≡ Some v → v ≤ raw.max_var
  low s k v at =
      let (l, here, e) = slice_get_unmap variable (definitions raw) k v at in
      let r : IsInRange raw l =
      All-at (IsInRange raw) (definitions raw) k l (All-left (IsInRange raw) (definitions raw)
      (uses raw) s.in_range) here in
      omega arith

  once : IsSound raw → (v : ℕ) → StandsTwice (map variable (definitions raw) ++ variable (2 * (raw.max_var + 1)) ∷ []) v
      → ⊥
  once s v (i, j, lt, a, b) =
      let vs = map variable (definitions raw) in
      elim (slice_get_push vs (variable (2 * (raw.max_var + 1))) v j b) [
        | inl b' ↦ (elim (slice_get_push vs (variable (2 * (raw.max_var + 1))) v i a) [
          | inl a' ↦ s.once v (i, j, lt, a', b')
          | inr e ↦ absurd (let within = slice_get_within vs j v b' in omega arith)
        ])
        | inr e ↦ (elim (slice_get_push vs (variable (2 * (raw.max_var + 1))) v i a) [
          | inl a' ↦ absurd (let le = low s i v a' in let is = new_variable in let f = e.1 in omega arith)
          | inr f ↦ absurd (omega arith)
        ])
      ]

  pub more_sound : IsSound raw → IsDefined raw (variable r0) → IsDefined raw (variable r1)
      → IsSound (with_appended_gate raw r0 r1)
  more_sound s d0 d1 =
      let P : ℕ → Type 0 = λ l. IsDefined (with_appended_gate raw r0 r1) (variable l) in
      let u = uses_parted raw P (λ k d l. still_defined _ (s.defined k d l)) in
      let new : IsDefinition (2 * (raw.max_var + 1)) = (omega arith, omega arith) in
      record {
        in_range = in_range s d0 d1;
        definitions = subst (λ ls. All IsDefinition ls) (sym more_definitions)
            (All-push IsDefinition (definitions raw) (2 * (raw.max_var + 1)) s.definitions new);
        once = λ v twice. once s v (subst (λ vs. StandsTwice vs v) more_variables twice);
        defined = uses_joined (with_appended_gate raw r0 r1) P u.0 u.1 u.2 u.3 u.4 u.5
            (All-push (λ g. P g.rhs0 × P g.rhs1) raw.gates (next_gate raw r0 r1) u.6
            (still_defined _ d0, still_defined _ d1));
        resets = s.resets;
      }

  still_grounded : (v : ℕ) → Grounded raw v → Grounded (with_appended_gate raw r0 r1) v
  still_grounded v (grounded.source _ s) = grounded.source v (source_new v s)
  still_grounded v (grounded.gate q g at a b) = grounded.gate q g (old_at q g at) (still_grounded _ a)
      (still_grounded _ b)

  new_grounded : IsAcyclic raw → IsDefined raw (variable r0) → IsDefined raw (variable r1)
      → Grounded (with_appended_gate raw r0 r1) (variable (2 * (raw.max_var + 1)))
  new_grounded acyclic d0 d1 =
      grounded.gate (length raw.gates) (next_gate raw r0 r1) new_at
      (still_grounded (variable r0) (Grounded-of_defined raw acyclic (variable r0) d0))
      (still_grounded (variable r1) (Grounded-of_defined raw acyclic (variable r1) d1))

  more_acyclic : IsAcyclic raw → IsDefined raw (variable r0) → IsDefined raw (variable r1)
      → IsAcyclic (with_appended_gate raw r0 r1)
  more_acyclic acyclic d0 d1 v h =
      let (g, q, at, is) = gate_of (with_appended_gate raw r0 r1) v h in
      subst (Grounded (with_appended_gate raw r0 r1)) is (elim (gate_cases q g at) [
        | inl here ↦ still_grounded (variable g.lhs) (acyclic (variable g.lhs) (IsGate-of_gate raw q g here))
        | inr e ↦ subst (λ (x : Gate). Grounded (with_appended_gate raw r0 r1) (variable x.lhs)) e.1
            (new_grounded acyclic d0 d1)
      ])

  pub more_circuit : IsCircuit raw → raw.max_var < limit → IsDefined raw (variable r0) → IsDefined raw (variable r1)
      → IsCircuit (with_appended_gate raw r0 r1)
  more_circuit c below d0 d1 =
      record {
        formed = formed c.sound below c.formed;
        sound = more_sound c.sound d0 d1;
        acyclic = more_acyclic
            c.acyclic d0 d1;
      }

  pub more_table : (table : List ℕ) (n : ℕ) → n ≡ 1 + length raw.inputs + length raw.latches + length raw.gates
      → IsDefinitionTable raw table → IsDefinitionTable (with_appended_gate raw r0 r1) (table ++ n ∷ [])
  more_table table n is t = record {
    size = omega (arith, length_push table n, t.size);
    numbers = λ v m at.
        subst (λ vs. IsNumberOf vs v m) (sym more_variables) (elim (slice_get_push table n m v at) [
          | inl here ↦ number_stays was new v m
              (λ e. omega (arith, e, slice_get_within table v m here, t.size, new_variable)) (t.numbers v m here)
          | inr e ↦
              let here : v ≡ new = omega (arith, e.0, t.size, new_variable) in
              let last : m ≡ 1 + length was = omega (arith, e.1, is, length-definitions raw) in
              subst (λ u. IsNumberOf (was ++ new ∷ []) u m) (sym here) (number_last was new m last)
        ]);
  }
    where
      was : List ℕ
      was = map variable (definitions raw)

      new : ℕ
      new = variable (2 * (raw.max_var + 1))

  -- definitions in order stay so
  pub more_in_order : IsInOrder raw → IsInOrder (with_appended_gate raw r0 r1)
  more_in_order h =
      more_definitions ∙ ap (λ ls. ls ++ 2 * (raw.max_var + 1) ∷ []) h ∙ sym (evens_more raw.max_var)
