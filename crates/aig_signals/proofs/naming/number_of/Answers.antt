use Rattle.std.proofs.Common.{rules, arith}
use Rattle.std.specs.Prelude.{nat_le}
use Rattle.std.proofs.lemmas.List.Sorted.{IsPartitionPoint-from_clause}
use Rattle.aig_signals.specs.declared.signal.Signal.{Signal}
use Rattle.aig_signals.proofs.NamingLemmas.{ends_parted, number_found}
use Rattle.aig_signals.proofs.naming.number_of.Goals as goal

pub returns : goal.returns
returns c =
    number_found 0 c.requires.0 c.args.signals.now c.args.position c.partition_point.result c.requires.1 (omega arith) c.requires.2
    (IsPartitionPoint-from_clause (λ (s : Signal). nat_le s.end c.args.position) c.args.signals.now c.partition_point.result
    c.partition_point.ensures.partitioned (ends_parted 0 c.requires.0 c.args.signals.now c.args.position c.requires.1)
    (λ a r f' k. search rules))
