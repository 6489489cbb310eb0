use Rattle.std.proofs.Common.{ℕ, List, Some, sym, ap, ◌∙◌, rules, slice_index_or}
use Rattle.aig_format.specs.state.Held.{known}
use Rattle.aig_format.specs.state.Reading.{peek_at}
use Rattle.aig_format.proofs.Holding.{held_front}
use Rattle.aig_format.proofs.Steps.{done}
use Rattle.aig_format.proofs.reader.stream.StreamSource.peek.Goals as goal

pub returns-then-branch-clause-bytes : goal.returns-then-branch-clause-bytes
returns-then-branch-clause-bytes g c = λ reported.
    let s = c.is_ready.new.self in
    let front = held_front s.buffer (known (g.R.Read.left s.reader.now)) s.start s.end
    (c.in_ok-is_ready.ensures.ready.some c.if-branch.true) (search rules) in
    ap peek_at (sym (c.in_ok-is_ready.ensures.same reported) ∙ front)
    ∙ ap (λ (t : List ℕ). done (Some (slice_index_or s.buffer s.start 0)) t) (sym front)
