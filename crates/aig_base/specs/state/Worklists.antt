-- A worklist: the variables that were visited, and those of them that are still queued.
use Rattle.std.specs.Prelude.{◌≡◌, ℕ, ◌+◌, ◌<◌, ◌≤◌, List, not, length, count_by, slice_index}
use Rattle.aig_base.specs.declared.level.worklist.Worklist.{Worklist}
use Rattle.aig_base.specs.state.Queue.{IsEmptyQueue, IsQueued}
use Rattle.aig_base.specs.state.Visits.{AreNoVisits, AreVisits, FitsOneVisit, IsVisited}

-- nothing was visited and nothing is queued, and there is room for so many variables
pub record IsIdle (size : ℕ) (w : Worklist) : Type 0 where
  pub visits : AreNoVisits size w.visits
  pub queue : IsEmptyQueue size w.queue

-- the variable is not 0, and it and its level are below the number of variables
pub record CanWait (levels : List ℕ) (v : ℕ) : Type 0 where
  pub positive : 0 < v
  pub inside : v < length levels
  pub low : slice_index levels v < length levels

-- there are so many variables, each that was not visited has room in the queue, and what waits was visited
pub record HasRoom (size : ℕ) (w : Worklist) : Type 0 where
  pub marks : length w.visits.met.items ≡ size
  pub visits : AreVisits w.visits
  pub queue : length w.queue.entries + count_by not w.visits.met.items ≤ w.queue.capacity
  pub wide : size ≤ w.queue.capacity
  pub met : (v : ℕ) → IsQueued w.queue v → IsVisited w.visits v

-- one more than so many variables fits without memory
pub record FitsOneVariable (size : ℕ) (w : Worklist) : Type 0 where
  pub visits : FitsOneVisit w.visits
  pub queue : size + 1 ≤ w.queue.capacity
