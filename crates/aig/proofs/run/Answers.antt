use Rattle.std.proofs.Common.{◌≡◌, ◌⊎◌, [], inl, inr, sym, subst}
use Rattle.aig_files.specs.declared.exit.Exit.{Exit}
use Rattle.aig_files.specs.declared.exit.Exit.TheVariants as exits
use Rattle.aig_command.specs.declared.run_fault.RunFault.TheVariants as run_faults
use Rattle.aig_program.specs.Arguments.{IsUnparsed}
use Rattle.std.specs.Prelude.{None}
use Rattle.aig_program.specs.Ends.{seen}
use Rattle.aig.proofs.Running.{ends_unparsed, exit_of, got_nothing}
use Rattle.aig.proofs.run.Goals as goal

-- what is not reserved is a descriptor or memory
unreserved : (exit : Exit) → (exit ≡ exits.Run run_faults.Output) ⊎ (exit ≡ exits.Run run_faults.Memory) → IsUnparsed exit
unreserved exit (inl is) = subst IsUnparsed (sym is) tt
unreserved exit (inr is) = subst IsUnparsed (sym is) tt

pub returns-in_err-_reserved : goal.returns-in_err-_reserved
returns-in_err-_reserved g c =
    let r = c.from_residual in
    let exit = c.in_err-_reserved.field-0.0 in
    record {
      ends = (
        [],
        (
          seen (λ (u : Unit {0}). None) (λ u. 0) tt tt,
          ends_unparsed (seen (λ (u : Unit {0}). None) (λ u. 0) tt tt) g.R.File.Read.remaining [] r.result exit
              (got_nothing (λ (u : Unit {0}). None) (λ u. 0) tt)
              (unreserved exit (exit_of c.reserve.result exit
              (λ exit. (exit ≡ exits.Run run_faults.Output) ⊎ (exit ≡ exits.Run run_faults.Memory)) c.in_err-_reserved.ensures
              c.reserve.ensures.fails)) r.ensures.1,
        ),
      );
    }

pub returns : goal.returns
returns g c = record { ends = (_, (_, c.run_given.ensures.ends)) }
