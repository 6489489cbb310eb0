-- Why no bench is made, and of which files one is.
use Rattle.std.proofs.Common.{◌≡◌, ◌⊎◌, inl, inr, ℕ, ◌+◌, ◌*◌, ◌<◌, ◌≤◌, List, length, refl, sym, subst, Ok, Err, Result}
use Rattle.std.proofs.lemmas.Bool.{cases_lt}
use Rattle.aig_bench.specs.declared.bench.fault.BenchFault.{BenchFault}
use Rattle.aig_bench.specs.declared.bench.fault.BenchFault.TheVariants as benches
use Rattle.aig_bench.specs.BenchState.{CircuitAndRows}
use Rattle.aig_script.specs.BenchFiles.{AreBenchFiles, AreFilesOf, RefusesBench}

pub refuses_bench : (pair : CircuitAndRows) (f : BenchFault) → (f ≡ benches.Width → ⊥)
    → (f ≡ benches.Limit → 67108864 < (pair.circuit.max_var + 1) * length pair.rows) → RefusesBench pair f
refuses_bench pair benches.Width width limit = width refl
refuses_bench pair benches.Limit width limit = limit refl
refuses_bench pair benches.Memory width limit = tt

-- a bench of the circuit and the rows of two files, as there are not too many cells
pub made_of_files : (circuit stimulus : List ℕ) (pair made : CircuitAndRows) → AreFilesOf circuit stimulus pair
    → made ≡ pair → (67108864 < (pair.circuit.max_var + 1) * length pair.rows → ⊥) → AreBenchFiles circuit stimulus made
made_of_files circuit stimulus pair made files is few =
    subst (λ (p : CircuitAndRows). AreBenchFiles circuit stimulus p) (sym is)
    (record {
      files_are = files;
      cells = elim (cases_lt 67108864 ((pair.circuit.max_var + 1) * length pair.rows)) [
        | inl many ↦ absurd (few many)
        | inr le ↦ le
      ];
    })

pub ok_is_no_error : {T E : Type 0} (t : T) (e : E) → Ok t ≡ Err e → ⊥
ok_is_no_error t e h = cc
