use Rattle.std.proofs.Common.{◌≡◌, ◌++◌, drop}
use Rattle.aig_base.specs.Part.{spread}
use Rattle.aig_commands.proofs.spread.spread.Given as goal

abbrev pub invariant-loop-place : goal.invariant-loop-place
invariant-loop-place l =
    l.all.items ++ spread (drop l.place l.reads) (drop l.place l.others) l.rest ≡ spread l.reads l.others l.values
