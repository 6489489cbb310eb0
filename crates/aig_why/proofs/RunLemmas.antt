-- What the command returns for a run, from what its parts return.
use Rattle.std.proofs.Common.{◌≡◌, ◌≢◌, inl, inr, ℕ, ◌+◌, ◌*◌, ◌<◌, ◌≤◌, List, [], ◌∷◌, ◌++◌, length, map, replicate, All}
use Rattle.std.proofs.Common.{Contains, Option, None, Some, Err, refl, sym, ap, ◌∙◌, subst, arith}
use Rattle.std.proofs.lemmas.List.{length-map}
use Rattle.std.specs.Prelude.{IfSome}
use Rattle.aig_base.specs.Sections.{IsDefined, definitions}
use Rattle.aig_base.specs.Value.{start_of}
use Rattle.aig_bench.specs.BenchState.{CircuitAndRows}
use Rattle.aig_bench.specs.declared.bench.fault.BenchFault.{BenchFault}
use Rattle.aig_bench.specs.declared.bench.fault.BenchFault.TheVariants as benches
use Rattle.aig_parts.specs.Limits.{cell_limit}
use Rattle.aig_parts.specs.Literal.{variable}
use Rattle.aig_parts.specs.declared.gate.Gate.{Gate}
use Rattle.aig_parts.specs.declared.latch.Latch.{Latch}
use Rattle.aig_parts.specs.declared.raw.Raw.{Raw}
use Rattle.aig_parts.specs.declared.symbols.Kind.TheVariants as kinds
use Rattle.aig_parts.specs.declared.ternary.Tern.{Tern}
use Rattle.aig_base.proofs.values.Resets.{latches_length}
use Rattle.aig_base.specs.Resets.{HasOtherResets}
use Rattle.aig_command.proofs.Files.{MeansNoFault}
use Rattle.aig_command.proofs.GivenRuns.{given_no_circuit}
use Rattle.aig_command.specs.declared.given.Given.{Given}
use Rattle.aig_command.specs.declared.run_fault.RunFault.{RunFault}
use Rattle.aig_command.specs.declared.run_fault.RunFault.TheVariants as run_faults
use Rattle.aig_signals.specs.Names.{literals_of}
use Rattle.aig_signals.specs.declared.text.Naming.{Naming}
use Rattle.aig_why.proofs.TextLemmas.{latch_literals}
use Rattle.aig_signals.specs.declared.form.Form.{Form}
use Rattle.aig_why.specs.Why.{IsFrame, least_frame, RefusesRun, Run, run_of, WritesWhy}
use Rattle.aig_why.specs.declared.command.Span.{Span}
use Rattle.aig_why.specs.declared.question.Question.{Question}
use Rattle.aig_why.specs.Named.{IsNamingOf, NamesNothing}

-- no bench is made
pub bench_refused : (raw : Raw) (run : Run) (property : Option ℕ) (name : Option (List ℕ)) (span : Span) (fault : BenchFault)
    → fault ≢ benches.Width → (fault ≡ benches.Limit → cell_limit < (raw.max_var + 1) * length run.rows)
    → RefusesRun raw run property name span (run_faults.Bench fault)
bench_refused raw run property name span benches.Width other over = absurd (other refl)
bench_refused raw run property name span benches.Limit other over = over refl
bench_refused raw run property name span benches.Memory other over = tt

-- the run of a bench
pub run_is : (pair : CircuitAndRows) (start : List Tern) (rows : List (List Tern)) → start_of pair.circuit ≡ start → pair.rows ≡ rows
    → run_of pair ≡ record { start = start; rows = rows }
run_is pair start rows s r = λ i. record { start = s i; rows = r i }

-- a circuit with other resets defines the same variables
module _ (raw other : Raw) (r : HasOtherResets raw other) where
  definitions_same : definitions other ≡ definitions raw
  definitions_same =
      λ i. r.inputs i ++ latch_literals raw.latches other.latches r.latches i ++ map (λ (g : Gate). g.lhs) (r.gates i)

  pub defined_with : (literals : List ℕ) → All (λ l. IsDefined raw (variable l)) literals → All (λ l. IsDefined other (variable l)) literals
  defined_with literals h =
      subst (λ (ls : List ℕ). All (λ l. Contains (0 ∷ map variable ls) (variable l)) literals) (sym definitions_same) h

  pub asked_with : (question : Option Question) → IfSome question (λ q. All (λ l. IsDefined raw (variable l)) q.literals)
      → IfSome question (λ q. All (λ l. IsDefined other (variable l)) q.literals)
  asked_with None h = tt
  asked_with (Some q) h = defined_with q.literals h

-- it returns no fault of a circuit file where there is a circuit
pub why_no_circuit : (form : Form) (raw : Raw) (given : Given (List ℕ)) (name : Option (List ℕ)) (span : Span)
    → MeansNoFault (WritesWhy form given name span) raw
why_no_circuit form raw given name span fault bytes (inl h, none) = given_no_circuit raw given fault h
why_no_circuit form raw given name span fault bytes (inr (run, is, h), none) = h

-- the cells of a run on a bench
module _ (raw : Raw) (pair : CircuitAndRows) (n : Naming) (of : IsNamingOf raw pair n) where
  pub cells_with : (pair.circuit.max_var + 1) * length pair.rows ≤ cell_limit → (raw.max_var + 1) * length pair.rows ≤ cell_limit
  cells_with h = subst (λ (m : ℕ). (m + 1) * length pair.rows ≤ cell_limit) of.resets.size h
