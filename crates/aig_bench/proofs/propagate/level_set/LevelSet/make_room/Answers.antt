use Rattle.std.proofs.Common.{ℕ, List, ◌↔◌, ◌/◌, subst, arith}
use Rattle.aig_parts.specs.state.Bits.{HasBit}
use Rattle.aig_parts.proofs.BitLemmas.{same_bits}
use Rattle.aig_bench.proofs.growing.Lengthened.{filled_longer, words_longer}
use Rattle.aig_bench.proofs.propagate.level_set.LevelSet.make_room.Goals as goal

pub invariant_of-self : goal.invariant_of-self
invariant_of-self c =
    let i = c.self.invariant in
    let r = c.make_room.ensures in
    record {
      by_words = i.by_words;
      by_blocks = filled_longer _ _ (c.args.level / 64) i.by_blocks (omega (arith, c.requires.limit)) _ r.same r.more r.few;
    }

pub invariant_of-self-in_err-make_room-2 : goal.invariant_of-self-in_err-make_room-2
invariant_of-self-in_err-make_room-2 c =
    let i = c.self.invariant in
    let r = c.make_room.ensures in
    let s = c.make_room-2.ensures in
    record {
      by_words = filled_longer _ _ c.args.level i.by_words c.requires.limit _ s.same s.more s.few;
      by_blocks = words_longer _ _ (c.args.level / 64)
          (filled_longer _ _ (c.args.level / 64) i.by_blocks (omega (arith, c.requires.limit)) _ r.same r.more r.few)
          (omega (arith, c.requires.limit)) _ s.same s.few c.in_ok-make_room.ensures.room;
    }

pub invariant_of-self-2 : goal.invariant_of-self-2
invariant_of-self-2 c =
    let i = c.self.invariant in
    let r = c.make_room.ensures in
    let s = c.make_room-2.ensures in
    let t = c.make_room-3.ensures in
    record {
      by_words = words_longer _ _ c.args.level
          (filled_longer _ _ c.args.level i.by_words c.requires.limit _ s.same s.more s.few) c.requires.limit _ t.same
          t.few c.in_ok-make_room-2.ensures.room;
      by_blocks = words_longer _ _ (c.args.level / 64)
          (filled_longer _ _ (c.args.level / 64) i.by_blocks (omega (arith, c.requires.limit)) _ r.same r.more r.few)
          (omega (arith, c.requires.limit)) _ s.same s.few c.in_ok-make_room.ensures.room;
    }

pub returns-clause-levels : goal.returns-clause-levels
returns-clause-levels c =
    let old = c.self.inside.levels.words.items in
    let new = c.make_room-3.new.self.words.items in
    subst (λ (words : List ℕ). (l : ℕ) → HasBit new l ↔ HasBit words l) c.self.view_is
    (same_bits new old c.make_room-3.ensures.same)
