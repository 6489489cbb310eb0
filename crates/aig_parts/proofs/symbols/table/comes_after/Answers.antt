use Rattle.std.proofs.Common.{ℕ, ◌<◌, subst, arith}
use Rattle.std.proofs.lemmas.Bool.Decides.{nat_tests}
use Rattle.aig_parts.specs.state.SymbolTable.{key_number}
use Rattle.aig_parts.proofs.TableLemmas.{nowhere, comes_last}
use Rattle.aig_parts.proofs.symbols.table.comes_after.Goals as goal

pub returns-else-is_empty : goal.returns-else-is_empty
returns-else-is_empty c less =
    let up : c.key_number.result < c.key_number-else-is_empty.result = grind (arith, nat_tests, less) in
    comes_last c.args.entries.now (key_number c.args.entry) nowhere c.requires
    (subst (λ (n : ℕ). n < key_number c.args.entry) c.key_number.ensures
    (subst (λ (n : ℕ). c.key_number.result < n) c.key_number-else-is_empty.ensures up))
