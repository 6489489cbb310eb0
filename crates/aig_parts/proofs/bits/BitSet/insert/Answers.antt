use Rattle.std.proofs.Common.{ℕ, List, ap, ◌∙◌, get_or}
use Rattle.aig_parts.proofs.BitLemmas.{inserted_after}
use Rattle.aig_parts.proofs.bits.BitSet.insert.Goals as goal

pub returns-clause-ok : goal.returns-clause-ok
returns-clause-ok c =
    let e = c.self.view_is in
    inserted_after c.args.self.now c.self.inside.words.items c.args.number c.index_mut.result.now
    (λ w. ap (λ (ws : List ℕ). get_or ws w 0) e ∙ c.in_ok-make_room.ensures.same w)
    (rw e c.in_ok-make_room.ensures.room) c.index_mut.ensures.value
