use Rattle.std.proofs.Common.{◌∙◌, arith}
use Rattle.std.proofs.lemmas.List.{length-set}
use Rattle.aig_bench.proofs.carries.LatchLists.{list_none, list_first, list_inside, list_inside_marks, list_left}
use Rattle.aig_bench.proofs.carries.LatchLists.{list_taken}
use Rattle.aig_bench.proofs.propagate.latch_list.LatchList.take.Goals as goal

pub returns-then-first-eq0-clause-none : goal.returns-then-first-eq0-clause-none
returns-then-first-eq0-clause-none c =
    let (n, h) = c.requires.list in list_none n _ _ _ h.size h.chained c.if-first-eq0.true

pub index-requires : goal.index-requires
index-requires c =
    let (n, h) = c.requires.list in
    let inside = list_inside n _ _ _ h.size h.chained c.if-first-eq0.false in
    omega arith

pub index_mut-requires : goal.index_mut-requires
index_mut-requires c =
    let (n, h) = c.requires.list in
    let inside = list_inside_marks n _ _ _ h.size h.chained c.if-first-eq0.false in
    omega arith

pub returns-clause-list : goal.returns-clause-list
returns-clause-list c n h = record {
  size = length-set _ _ _ ∙ h.size;
  chained = list_taken n _ _ _ h.size h.chained c.if-first-eq0.false _ c.index.ensures;
}

pub returns-clause-listed : goal.returns-clause-listed
returns-clause-listed c =
    let (n, h) = c.requires.list in list_first n _ _ _ h.size h.chained c.if-first-eq0.false

pub returns-clause-left : goal.returns-clause-left
returns-clause-left c =
    let (n, h) = c.requires.list in list_left n _ _ _ h.size h.chained c.if-first-eq0.false
