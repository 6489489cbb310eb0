-- The circuit in which every state is bad is a circuit.
use Rattle.std.proofs.Common.{ℕ, [], All, arith, refl}
use Rattle.std.proofs.lemmas.List.Elements.{All-nil, All-cons, All-append}
use Rattle.aig_parts.specs.Formed.{IsFormed, IsSymbolOf}
use Rattle.aig_parts.specs.Literal.{variable}
use Rattle.aig_parts.specs.declared.raw.Raw.{Raw}
use Rattle.aig_base.specs.Circuit.{IsCircuit}
use Rattle.aig_base.specs.Grounded as grounded
use Rattle.aig_base.specs.Grounded.{Grounded, IsSource}
use Rattle.aig_base.specs.Sections.{IsDefined, definitions, uses}
use Rattle.aig_base.specs.Sound.{IsInRange, IsSound}
use Rattle.aig_base.proofs.circuits.EachUse.{all_uses, each_use}
use Rattle.aig_base.proofs.lists.Joined.{All-left, All-right}
use Rattle.aig_cnf.specs.Alive.{always_bad}

module _ (raw : Raw) where
  -- what holds of literal 1 and of all that the circuit reads holds of all that this one reads
  kept_uses : (P : ℕ → Type 0) → P 1 → All P (uses raw) → All P (uses (always_bad raw))
  kept_uses P one h =
      let u = each_use P raw h in
      all_uses P (always_bad raw) (record {
        nexts = u.nexts;
        outputs = All-nil P;
        bad = All-cons P 1 [] one (All-nil P);
        constraints = u.constraints;
        justice = All-nil (All P);
        fairness = All-nil P;
        sides = u.sides;
      })

  pub formed : IsFormed raw → IsFormed (always_bad raw)
  formed f = record {
    counts = record {
      max_var = f.counts.max_var;
      inputs = f.counts.inputs;
      latches = f.counts.latches;
      outputs = omega arith;
      bad = omega arith;
      constraints = f.counts.constraints;
      justice = omega arith;
      fairness = omega arith;
      gates = f.counts.gates;
      justice_literals = omega arith;
    };
    symbols = All-nil (IsSymbolOf (always_bad raw));
    names = λ i j d lt below. absurd (omega (arith, below));
  }

  sound : IsSound raw → IsSound (always_bad raw)
  sound s = record {
    in_range = All-append (IsInRange raw) (definitions raw) (uses (always_bad raw))
        (All-left (IsInRange raw) (definitions raw) (uses raw) s.in_range)
        (kept_uses (IsInRange raw) (omega arith) (All-right (IsInRange raw) (definitions raw) (uses raw) s.in_range));
    definitions = s.definitions;
    once = s.once;
    defined = kept_uses (λ l. IsDefined raw (variable l)) (0, omega arith, refl) s.defined;
    resets = s.resets;
  }

  source : (v : ℕ) → IsSource raw v → IsSource (always_bad raw) v
  source v grounded.constant = grounded.constant
  source v (grounded.input p l at) = grounded.input p l at
  source v (grounded.latch p x at) = grounded.latch p x at

  stays_grounded : (v : ℕ) → Grounded raw v → Grounded (always_bad raw) v
  stays_grounded v (grounded.source _ s) = grounded.source v (source v s)
  stays_grounded v (grounded.gate q g at a b) = grounded.gate q g at (stays_grounded _ a) (stays_grounded _ b)

  pub always_circuit : IsCircuit raw → IsCircuit (always_bad raw)
  always_circuit c = record {
    formed = formed c.formed;
    sound = sound c.sound;
    acyclic = λ v is. stays_grounded v (c.acyclic v is);
  }
