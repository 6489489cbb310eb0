use Rattle.std.proofs.Common.{◌≡◌, ◌⊎◌, inl, inr, Result, Ok, Err, sym, subst}
use Rattle.std.specs.Prelude.{IfErr}
use Rattle.std.specs.Result.{IsErrAnd}
use Rattle.aig_command.specs.declared.run_fault.RunFault.TheVariants as run_faults
use Rattle.aig_files.specs.declared.exit.Exit.{Exit}
use Rattle.aig_files.specs.declared.exit.Exit.TheVariants as exits
use Rattle.aig_files.proofs.reserved.reserve.Goals as goal

-- a step that fails is what all fail with
fails_with : {T : Type 0} (r : Result T Exit) (exit : Exit) (P : Exit → Type 0) → P exit → IsErrAnd r (λ e. e ≡ exit) → IfErr r P
fails_with (Ok value) exit P why is = tt
fails_with (Err e) exit P why is = subst P (sym is) why

abbrev IsUnreserved : Exit → Type 0
IsUnreserved exit = (exit ≡ exits.Run run_faults.Output) ⊎ (exit ≡ exits.Run run_faults.Memory)

pub returns-in_err-first : goal.returns-in_err-first
returns-in_err-first g c =
    let r = c.from_residual in
    record { fails = fails_with r.result c.in_err-first.field-0.0 IsUnreserved (inl c.in_err-first.ensures.fails) r.ensures.1 }

pub returns-in_err-second : goal.returns-in_err-second
returns-in_err-second g c =
    let r = c.from_residual-in_err-second in
    record { fails = fails_with r.result c.in_err-second.field-0.0 IsUnreserved (inl c.in_err-second.ensures.fails) r.ensures.1 }

pub returns-in_err-third : goal.returns-in_err-third
returns-in_err-third g c =
    let r = c.from_residual-in_err-third in
    record { fails = fails_with r.result c.in_err-third.field-0.0 IsUnreserved (inl c.in_err-third.ensures.fails) r.ensures.1 }

pub returns-in_err-reserve_stack : goal.returns-in_err-reserve_stack
returns-in_err-reserve_stack g c =
    let r = c.from_residual-in_err-reserve_stack in
    record {
      fails = fails_with r.result c.in_err-reserve_stack.field-0.0 IsUnreserved (inr c.in_err-reserve_stack.ensures.fails) r.ensures.1;
    }
