use Rattle.std.proofs.Common.{◌≡◌, ℕ, List, [], length}
use Rattle.aig_bytes.specs.Bytes.{before}
use Rattle.aig_shell.specs.Conversation.{IsAt}
use Rattle.aig_shell.specs.State.{SessionState}
use Rattle.aig_shell.specs.Talking.{HoldsLine, Stands, moment}
use Rattle.aig_shell.proofs.talk.Talker.run.Given as goal

abbrev pub invariant-loop-reader : goal.invariant-loop-reader
invariant-loop-reader g l = record {
  room : length l.buffer ≡ 4096;
  count : g.R.Read.failures l.reader ≡ g.R.Read.failures l.fn.reader;
  stands : (s : SessionState) → IsAt l.fn.self.conversation s → HoldsLine [] l.fn.self.line
      → (input : List ℕ) × (g.R.Read.left l.fn.reader ≡ before input (g.R.Read.left l.reader))
      × Stands (moment g.W.Write.written g.W.Write.failures g.K.Keep.calls l.fn.out l.fn.files)
      (moment g.W.Write.written g.W.Write.failures g.K.Keep.calls l.out l.files) l.fn.self.has_prompt s input l.self;
}

abbrev pub decreases-loop-reader : goal.decreases-loop-reader
decreases-loop-reader g l = g.R.Read.reads_left l.reader
