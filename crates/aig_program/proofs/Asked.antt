-- What a question's file asks, where some bytes were read of its certificate.
use Rattle.std.proofs.Common.{List, ℕ, Result, Ok, Err, OnOk}
use Rattle.aig_command.specs.declared.run_fault.RunFault.{RunFault}

-- what is said with the bytes that were read is said with some bytes
pub some_claims : (r : Result (Unit {0}) RunFault) (P : List ℕ → Type 0) (claims : List ℕ) → OnOk r (P claims)
    → OnOk r ((xs : List ℕ) × P xs)
some_claims (Ok done) P claims p = (claims, p)
some_claims (Err fault) P claims p = tt
