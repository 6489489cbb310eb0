-- By hand, since the prover's own steps do not cover a struct with a ghost field that is data. The body makes a struct
-- without bytes and returns it, and the number that contracts see in it is 0.
use Rattle.std.proofs.Common.{[], ◌∷◌, refl}
use Rattle.std.proofs.raw_atomic.Walks.{proved}
use base.Logic.{emp, fst∗, via}
use denote.RattleType.{owns}
use denote.Shadow.{pure_i}
use denote.Triple.Entry.{alive}
use denote.Triple.Walked.{ends_at, says, walk_of}
use mir.Val.{vnil, vstruct}
use types.ByLocal.{alloc_all, free_all, look_at, pass_all, sets}
use types.Kit.{ !, done, move, qed, raw, suffices, ‵, ◌$◌, ◌∵◌}
use types.Part.{agg}
use types.Run.{enter, no_more, returns}
use Rattle.aig_bytes.specs.contracts.count.Count as count
use Rattle.aig_bytes.specs.contracts.count.Count.zero as zero
use Rattle.aig_bytes.proofs.count.Count.zero.Code as code
use Rattle.aig_bytes.proofs.count.Count.zero.Statement.{statement}

pub zero_spec : {M : Type 1} → statement M
zero_spec 𝓤 𝓛 𝓜 𝓡 wired =
    let clauses = zero.clauses 𝓛 𝓜.mem 𝓡.returns in
    let none : (walk_of 𝓛 zero.ended tt clauses).Ghost = ((tt, tt, tt, tt, tt), tt) in
    proved 𝓛 zero.ended tt clauses 𝓜 𝓡 tt zero.Key.name code.function (code.unfolded 𝓤 𝓛.H 𝓜 𝓡 wired) (λ κs. tt)
    (λ κs. tt)
    (λ κs qs bounds a g are. via 𝓤 _ (fst∗ 𝓤 _ (emp 𝓤))
    (qed 𝓛 (raw (alive 𝓛 zero.signature tt tt) ∷ ‵ (owns [] tt tt) ∷ []) ∵ enter ! _ _ code.function [] _ $
    alloc_all ! (λ l. pass_all ! refl tt $
    -- the result is made, with nothing in it
    sets ! (agg ! (no_more !)) refl (tt, tt) $
    returns ! (look_at ! 0 refl) $ free_all ! refl $
    suffices ! _ (ends_at 𝓛 zero.ended tt clauses none (vstruct vnil) (record { number = 0 }) tt tt) $
    says ! refl $
    pure_i ! (count.the_row.own_val (record { number = 0 }) (vstruct vnil ∷ [])) ((λ vss. (tt, tt)), tt) (
      (
        tt,
        (refl, tt),
      ),
      tt,
    ) $
    move ! (1 ∷ 2 ∷ 0 ∷ []) $ done !)))
