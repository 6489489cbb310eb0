use Rattle.std.proofs.Common.{get_or, length, take}
use Rattle.std.proofs.lemmas.List.{take_more}
use Rattle.aig_base.proofs.rewires.QueueLemmas.{queues_more, room_left}
use Rattle.aig_base.proofs.rewires.VisitLemmas.{among_more}
use Rattle.aig_base.proofs.level.worklist.Worklist.push_all.Goals as goal

pub push-requires-clause-room : goal.push-requires-clause-room
push-requires-clause-room c =
    room_left (take c.loop-reader.reader-index c.args.list.now) c.args.levels.now (length c.args.levels.now)
    c.args.self.now c.loop-reader.self c.requires.room c.loop-reader.invariant

pub loop-reader-preserved : goal.loop-reader-preserved
loop-reader-preserved c =
    let xs = c.args.list.now in
    let i = c.loop-reader.reader-index in
    let v = get_or xs i 0 in
    let was = c.args.self.now in
    let now = c.loop-reader.self in
    let new = c.push.new.self in
    rw (take_more xs i 0 c.loop-reader-test.true)
    (queues_more (take i xs) c.args.levels.now v was.visits now.visits new.visits was.queue now.queue new.queue
    (among_more (take i xs) v was.visits now.visits new.visits c.loop-reader.invariant.among c.push.ensures.among)
    c.loop-reader.invariant c.push.ensures)
