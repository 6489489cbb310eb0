use Rattle.aig_bench.specs.Touched.{Touches, Changes}
use Rattle.aig_bench.proofs.renewals.RenewalLemmas.{one_count}
use Rattle.aig_bench.proofs.edit.laws.law_of_counts.Goals as goal

pub returns-clause-touched : goal.returns-clause-touched
returns-clause-touched c = λ p e m n a b. one_count (Touches p e) m n a b

pub returns-clause-changed : goal.returns-clause-changed
returns-clause-changed c = λ p e m n a b. one_count (Changes p e) m n a b
