-- A circuit that starts in any state is a circuit.
use Rattle.std.proofs.Common.{◌≡◌, inr, ℕ, ◌<◌, List, [], ◌∷◌, ◌++◌, map, flat_map, get_or, All, Contains, Some}
use Rattle.std.proofs.Common.{slice_get}
use Rattle.std.proofs.Common.{option_map, refl, sym, ◌∙◌, ap, ap₂, subst}
use Rattle.std.proofs.lemmas.List.{length-map}
use Rattle.std.proofs.lemmas.List.Elements.{All-map}
use Rattle.std.proofs.lemmas.Option.{slice_get-map}
use Rattle.aig_parts.specs.Formed.{IsFormed, section_length}
use Rattle.aig_parts.specs.Literal.{variable}
use Rattle.aig_parts.specs.declared.gate.Gate.{Gate}
use Rattle.aig_parts.specs.declared.latch.Latch.{Latch}
use Rattle.aig_parts.specs.declared.raw.Raw.{Raw}
use Rattle.aig_parts.specs.declared.symbols.Kind.{Kind}
use Rattle.aig_parts.specs.declared.symbols.Kind.TheVariants as kind
use Rattle.aig_base.specs.Circuit.{IsCircuit}
use Rattle.aig_base.specs.Grounded as grounded
use Rattle.aig_base.specs.Grounded.{Grounded, IsSource}
use Rattle.aig_base.specs.Sections.{IsDefined, definitions, uses}
use Rattle.aig_base.specs.Sound.{IsDefinition, IsInRange, IsReset, IsSound, StandsTwice}
use Rattle.aig_cnf.specs.Query.{from_any_state, subject, uninitialised_latch}
use Rattle.aig_cnf.specs.declared.query.Goal.{Goal}
use Rattle.aig_cnf.specs.declared.query.Goal.TheVariants as asked

same_literals : (xs : List Latch) → map (λ (x : Latch). x.lit) (map uninitialised_latch xs) ≡ map (λ (x : Latch). x.lit) xs
same_literals [] = refl
same_literals (x ∷ xs) = ap (λ ls. x.lit ∷ ls) (same_literals xs)

same_next : (xs : List Latch) → map (λ (x : Latch). x.next) (map uninitialised_latch xs) ≡ map (λ (x : Latch). x.next) xs
same_next [] = refl
same_next (x ∷ xs) = ap (λ ls. x.next ∷ ls) (same_next xs)

module _ (raw : Raw) where
  same_definitions : definitions (from_any_state raw) ≡ definitions raw
  same_definitions = ap (λ ls. raw.inputs ++ ls ++ map (λ (g : Gate). g.lhs) raw.gates) (same_literals raw.latches)

  same_uses : uses (from_any_state raw) ≡ uses raw
  same_uses =
      ap (λ ls. ls ++ raw.outputs ++ raw.bad ++ raw.constraints ++ flat_map (λ p. p) raw.justice ++ raw.fairness
      ++ flat_map (λ (g : Gate). g.rhs0 ∷ g.rhs1 ∷ []) raw.gates) (same_next raw.latches)

  same_sections : (k : Kind) → section_length raw k ≡ section_length (from_any_state raw) k
  same_sections kind.Input = refl
  same_sections kind.Latch = sym (length-map raw.latches uninitialised_latch)
  same_sections kind.Output = refl
  same_sections kind.Bad = refl
  same_sections kind.Constraint = refl
  same_sections kind.Justice = refl
  same_sections kind.Fairness = refl

  formed : IsFormed raw → IsFormed (from_any_state raw)
  formed f = record {
    counts = record {
      max_var = f.counts.max_var;
      inputs = f.counts.inputs;
      latches = rw length-map f.counts.latches;
      outputs = f.counts.outputs;
      bad = f.counts.bad;
      constraints = f.counts.constraints;
      justice = f.counts.justice;
      fairness = f.counts.fairness;
      gates = f.counts.gates;
      justice_literals = f.counts.justice_literals;
    };
    symbols = λ k d h. let s = f.symbols k d h in (
      subst (λ n. (get_or raw.symbols k d).0.1 < n) (same_sections _) s.0,
      s.1,
    );
    names = f.names;
  }

  sound : IsSound raw → IsSound (from_any_state raw)
  sound s = record {
    in_range = subst (λ ls. All (IsInRange raw) ls) (sym (ap₂ (λ (xs ys : List ℕ). xs ++ ys) same_definitions same_uses)) s.in_range;
    definitions = subst (λ ls. All IsDefinition ls) (sym same_definitions) s.definitions;
    once = λ v twice. s.once v (subst (λ ls. StandsTwice (map variable ls) v) same_definitions twice);
    defined =
        subst (λ ls. All (λ l. IsDefined (from_any_state raw) (variable l)) ls) (sym same_uses)
        (subst (λ ds. All (λ l. Contains (0 ∷ map variable ds) (variable l)) (uses raw)) (sym same_definitions) s.defined);
    resets = All-map IsReset uninitialised_latch raw.latches (λ k d h. inr (inr refl));
  }

  pub any_latch : (p : ℕ) (x : Latch) → slice_get raw.latches p ≡ Some x
      → slice_get (map uninitialised_latch raw.latches) p ≡ Some (uninitialised_latch x)
  any_latch p x at = slice_get-map uninitialised_latch raw.latches p ∙ ap (option_map uninitialised_latch) at

  source : (v : ℕ) → IsSource raw v → IsSource (from_any_state raw) v
  source v grounded.constant = grounded.constant
  source v (grounded.input p l at) = grounded.input p l at
  source v (grounded.latch p x at) = grounded.latch p (uninitialised_latch x) (any_latch p x at)

  stays_grounded : (v : ℕ) → Grounded raw v → Grounded (from_any_state raw) v
  stays_grounded v (grounded.source _ s) = grounded.source v (source v s)
  stays_grounded v (grounded.gate q g at a b) = grounded.gate q g at (stays_grounded _ a) (stays_grounded _ b)

  pub from_any_circuit : IsCircuit raw → IsCircuit (from_any_state raw)
  from_any_circuit c = record {
    formed = formed c.formed;
    sound = sound c.sound;
    acyclic = λ v is. stays_grounded v (c.acyclic v is);
  }

-- so the circuit of a query is one
pub subject_circuit : (goal : Goal) (raw : Raw) → IsCircuit raw → IsCircuit (subject goal raw)
subject_circuit asked.Within raw c = c
subject_circuit asked.Last raw c = c
subject_circuit asked.Step raw c = from_any_circuit raw c
subject_circuit asked.Induction raw c = from_any_circuit raw c
