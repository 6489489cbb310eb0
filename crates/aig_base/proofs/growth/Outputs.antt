-- Another literal at an output keeps a circuit a circuit.
use Rattle.std.proofs.Common.{◌≡◌, ℕ, ◌<◌, get_or, length-set, refl, sym, subst}
use Rattle.std.proofs.lemmas.List.Elements.{All-set}
use Rattle.aig_base.specs.declared.circuit.definitions.Definitions.{Definitions}
use Rattle.aig_base.specs.declared.circuit.definitions.Definitions.TheVariants as kept
use Rattle.aig_parts.specs.declared.raw.Raw.{Raw}
use Rattle.aig_parts.specs.declared.symbols.Kind.{Kind}
use Rattle.aig_parts.specs.declared.symbols.Kind.TheVariants as kind
use Rattle.aig_base.specs.Changes.{with_output}
use Rattle.aig_base.specs.Circuit.{IsCircuit}
use Rattle.aig_base.specs.state.Definitions.{AreDefinitionsOf}
use Rattle.aig_parts.specs.Formed.{IsFormed, section_length}
use Rattle.aig_base.specs.Grounded as grounded
use Rattle.aig_base.specs.Grounded.{IsSource, Grounded}
use Rattle.aig_parts.specs.Literal.{variable}
use Rattle.aig_base.specs.Sections.{IsDefined}
use Rattle.aig_base.specs.Sound.{IsInRange, IsSound}
use Rattle.aig_base.proofs.checks.Faults.{in_range_joined, in_range_parted, uses_joined, uses_parted}
use Rattle.aig_base.proofs.rewires.Rewiring.{in_range_from_defined}

module _ (raw : Raw) (position lit : ℕ) where
  sections : (k : Kind) → section_length raw k ≡ section_length (with_output raw position lit) k
  sections kind.Input = refl
  sections kind.Latch = refl
  sections kind.Output = sym (length-set raw.outputs position lit)
  sections kind.Bad = refl
  sections kind.Constraint = refl
  sections kind.Justice = refl
  sections kind.Fairness = refl

  formed : IsFormed raw → IsFormed (with_output raw position lit)
  formed f = record {
    counts = record {
      max_var = f.counts.max_var;
      inputs = f.counts.inputs;
      latches = f.counts.latches;
      outputs = rw length-set f.counts.outputs;
      bad = f.counts.bad;
      constraints = f.counts.constraints;
      justice = f.counts.justice;
      fairness = f.counts.fairness;
      gates = f.counts.gates;
      justice_literals = f.counts.justice_literals;
    };
    symbols = λ k d h. let s = f.symbols k d h in (subst (λ n. (get_or raw.symbols k d).0.1 < n) (sections _) s.0, s.1);
    names = f.names;
  }

  sound : IsSound raw → IsDefined raw (variable lit) → IsSound (with_output raw position lit)
  sound s has =
      let P : ℕ → Type 0 = λ l. IsDefined raw (variable l) in
      let u = uses_parted raw P s.defined in
      let h = in_range_parted raw s.in_range in
      record {
        in_range = in_range_joined (with_output raw position lit) (record {
          inputs = h.inputs;
          latches = h.latches;
          outputs = All-set (IsInRange raw) raw.outputs position lit (in_range_from_defined raw lit s has) h.outputs;
          bad = h.bad;
          constraints = h.constraints;
          justice = h.justice;
          fairness = h.fairness;
          gates = h.gates;
        });
        definitions = s.definitions;
        once = s.once;
        defined = uses_joined (with_output raw position lit) P u.0
            (All-set P raw.outputs position lit has u.1) u.2 u.3 u.4 u.5 u.6;
        resets = s.resets;
      }

  still_source : (v : ℕ) → IsSource raw v → IsSource (with_output raw position lit) v
  still_source v grounded.constant = grounded.constant
  still_source v (grounded.input p l at) = grounded.input p l at
  still_source v (grounded.latch p x at) = grounded.latch p x at

  still_grounded : (v : ℕ) → Grounded raw v → Grounded (with_output raw position lit) v
  still_grounded v (grounded.source _ s) = grounded.source v (still_source v s)
  still_grounded v (grounded.gate q g at a b) = grounded.gate q g at (still_grounded _ a) (still_grounded _ b)

  pub with_output-circuit : IsCircuit raw → IsDefined raw (variable lit) → IsCircuit (with_output raw position lit)
  with_output-circuit c has =
      record {
        formed = formed c.formed;
        sound = sound c.sound has;
        acyclic = λ v is. still_grounded v
            (c.acyclic v is);
      }

  pub with_output-describes : (d : Definitions) → AreDefinitionsOf raw d → AreDefinitionsOf (with_output raw position lit) d
  with_output-describes kept.InOrder h = h
  with_output-describes (kept.Listed table) h = record { size = h.size; numbers = h.numbers }
