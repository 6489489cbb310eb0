-- A sweep over one frame: the waiting gates are evaluated, level by level (our own choice).
use Rattle.std.specs.Prelude.{◌≡◌, ◌↔◌, ℕ, ◌+◌, ◌<◌, ◌≤◌, Bool, true, false, List, [], ◌∷◌, length, Some, slice_get}
use Rattle.std.specs.Prelude.{Contains, nat_eq, if◌then◌else◌}
use Rattle.aig_parts.specs.declared.ternary.Tern.{Tern}
use Rattle.aig_parts.specs.declared.gate.Gate.{Gate}
use Rattle.aig_base.specs.Grounded.{Level}
use Rattle.aig_base.specs.Levels.{AreLevels}
use Rattle.aig_parts.specs.Literal.{variable}
use Rattle.aig_base.specs.state.Marks.{IsMarked}
use Rattle.aig_base.specs.Readers.{AreReaders}
use Rattle.aig_base.specs.Sections.{IsGate}
use Rattle.aig_bench.specs.declared.propagate.buckets.Buckets.{Buckets}
use Rattle.aig_bench.specs.declared.engine.driven_circuit.DrivenCircuit.{DrivenCircuit}
use Rattle.aig_bench.specs.declared.engine.fanouts.Fanouts.{Fanouts}
use Rattle.aig_bench.specs.state.Buckets.{AreBuckets, IsQueued}
use Rattle.aig_bench.specs.state.Current.{IsLaidOut, IsCurrentRow, IsBench}
use Rattle.aig_bench.specs.BenchState.{CircuitAndRows}
use Rattle.aig_bench.specs.state.Passing.{Differs, IsTouched, Passing, IsConsistent}
use Rattle.aig_bench.specs.state.DrivenCircuit.{IsDriven}
use Rattle.aig_bench.specs.state.Waiting.{HaveSides}
use Rattle.aig_bench.specs.Touched.{IsOnce}

-- what a sweep works on: a grid for the driven circuit, and buckets in which gates alone wait, with their sides
pub record IsWork (driven : DrivenCircuit) (fanouts : Fanouts) (flags : List Bool) (cells : List (List Tern))
    (b : Buckets) : Type 0 where
  pub driven_is : IsDriven driven
  pub laid_out : IsLaidOut driven flags cells
  pub levels : AreLevels driven.circuit fanouts.levels
  pub readers : AreReaders driven.circuit fanouts.readers
  pub buckets : AreBuckets fanouts.levels b
  pub sides : HaveSides driven.circuit b.marks.sides
  pub size : length b.head.items ≡ driven.circuit.max_var + 1
  pub heads : (v n : ℕ) → IsGate driven.circuit v → Level driven.circuit v n → n < length b.head.items
  pub gates : (v : ℕ) → IsQueued b v → IsGate driven.circuit v

-- what a bench keeps: the cells are the values of all frames, and nothing waits
pub record IsWorking (driven : DrivenCircuit) (fanouts : Fanouts) (b : Buckets) (flags : List Bool)
    (cells : List (List Tern)) : Type 0 where
  pub bench : IsBench driven flags cells
  pub work : IsWork driven fanouts flags cells b
  pub empty : (v : ℕ) → IsQueued b v → ⊥

-- how many variables of a level are marked
abbrev pub queued_count : List ℕ → List Bool → ℕ → ℕ
queued_count [] marks l = 0
queued_count (n ∷ levels) [] l = 0
queued_count (n ∷ levels) (false ∷ marks) l = queued_count levels marks l
queued_count (n ∷ levels) (true ∷ marks) l = (if nat_eq n l then 1 else 0) + queued_count levels marks l

-- in the midst of a pass at a level: what waits is of this level or over it, and what was evaluated of it or below it;
-- these gates were evaluated, and of them the cells of these changed
pub record Sweeping (p : CircuitAndRows) (t : ℕ) (forced : ℕ → Type 0) (old : List Tern) (n : ℕ) (row : List Tern)
    (marks : List Bool) (evaluated changed : List ℕ) : Type 0 where
  pub done : List Bool
  pub size : length done ≡ p.circuit.max_var + 1
  pub passing : Passing p t forced old row marks done
  pub low : (v m : ℕ) → IsMarked done v → Level p.circuit v m → m ≤ n
  pub high : (v m : ℕ) → IsMarked marks v → Level p.circuit v m → n ≤ m
  pub gates : (v : ℕ) → IsMarked done v → IsGate p.circuit v
  pub once : IsOnce evaluated
  pub each : (v : ℕ) → Contains evaluated v ↔ IsMarked done v
  pub changed_once : IsOnce changed
  pub changed_each : (v : ℕ) → Contains changed v ↔ (IsMarked done v × Differs p t old v)

-- the pass went on from these evaluated and changed gates, by so many
pub record Swept (p : CircuitAndRows) (t : ℕ) (forced : ℕ → Type 0) (old : List Tern) (n : ℕ) (row : List Tern)
    (marks : List Bool) (xs ys : List ℕ) (evaluated changed : ℕ) : Type 0 where
  pub evaluated_now : List ℕ
  pub changed_now : List ℕ
  pub sweeping : Sweeping p t forced old n row marks evaluated_now changed_now
  pub evaluated_more : length evaluated_now ≡ length xs + evaluated
  pub changed_more : length changed_now ≡ length ys + changed

-- whatever pass the row is in the midst of at one level, it is in the midst of the same afterwards at another
pub record Sweeps (p : CircuitAndRows) (t n m : ℕ) (row : List Tern) (marks : List Bool) (row' : List Tern)
    (marks' : List Bool) (evaluated changed : ℕ) : Type 0 where
  pub sweep : (forced : List ℕ) (old : List Tern) (xs ys : List ℕ) → IsConsistent p (Contains forced) old
      → Sweeping p t (Contains forced) old n row marks xs ys
      → Swept p t (Contains forced) old m row' marks' xs ys evaluated changed

-- a pass begins: nothing was evaluated
pub record PassStarts (p : CircuitAndRows) (t : ℕ) (forced : ℕ → Type 0) (old row : List Tern)
    (marks : List Bool) : Type 0 where
  pub done : List Bool
  pub size : length done ≡ p.circuit.max_var + 1
  pub none : (v : ℕ) → IsMarked done v → ⊥
  pub passing : Passing p t forced old row marks done

-- a pass has ended: so many gates are touched, and the cells of so many of them changed
pub record PassEnds (p : CircuitAndRows) (t : ℕ) (forced : ℕ → Type 0) (old row : List Tern) (marks : List Bool)
    (evaluated changed : ℕ) : Type 0 where
  pub empty : (v : ℕ) → IsMarked marks v → ⊥
  pub current : IsCurrentRow p t row
  pub touched_gates : List ℕ
  pub once : IsOnce touched_gates
  pub touched : (q : ℕ) (g : Gate) → slice_get p.circuit.gates q ≡ Some g
      → Contains touched_gates (variable g.lhs) ↔ IsTouched p t forced old g
  pub gates : (v : ℕ) → Contains touched_gates v → IsGate p.circuit v
  pub evaluated_is : length touched_gates ≡ evaluated
  pub changed_gates : List ℕ
  pub changed_once : IsOnce changed_gates
  pub changes : (v : ℕ) → Contains changed_gates v ↔ (IsGate p.circuit v × Differs p t old v)
  pub changed_is : length changed_gates ≡ changed
