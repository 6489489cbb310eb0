use Rattle.std.proofs.Common.{◌≡◌, ◌++◌, ℕ, Bool, List, length}
use Rattle.aig_shell.specs.State.{SessionState}
use Rattle.aig_shell.specs.Talking.{Moment, Stands, moment}
use Rattle.aig_shell.proofs.talk.Talker.feed.Given as goal

abbrev pub invariant-loop-rest : goal.invariant-loop-rest
invariant-loop-rest g l = record {
  taken : (done : List ℕ) × (l.bytes ≡ done ++ l.rest)
      × ((start : Moment) (person : Bool) (s : SessionState) (input : List ℕ)
      → Stands start (moment g.W.Write.written g.W.Write.failures g.K.Keep.calls l.initial.out l.initial.files) person s input l.initial.self
      → Stands start (moment g.W.Write.written g.W.Write.failures g.K.Keep.calls l.out l.files) person s (input ++ done) l.self);
}

abbrev pub decreases-loop-rest : goal.decreases-loop-rest
decreases-loop-rest g l = length l.rest
