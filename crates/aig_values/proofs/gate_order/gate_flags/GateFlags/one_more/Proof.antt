-- By hand, since the prover's own steps do not cover a struct with a ghost field that is data. The body makes a struct
-- without bytes and returns it; contracts see in it the flags that were lent and one more.
use Rattle.std.proofs.Common.{[], ◌∷◌, ◌++◌, true, refl}
use Rattle.std.proofs.raw_atomic.Walks.{proved}
use base.Logic.{emp, fst∗, via}
use denote.Exit.{yes}
use denote.RattleType.{owns}
use denote.Ref.{shr_Tells, shr_vals}
use denote.Shadow.{pure_i}
use denote.Signature.{plain, types_at}
use denote.Triple.Entry.{alive}
use denote.Triple.Walked.{ends_at, Goes-none_ref, says, stay_none_ref, Stays, walk_of}
use mir.Syntax.{named}
use mir.Val.{Val, vnil, vptr, vstruct}
use types.ByLocal.{alloc_all, free_all, look_at, pass_all, sets}
use types.Kit.{ !, done, move, qed, raw, suffices, ‵, ◌$◌, ◌∵◌}
use types.Part.{agg}
use types.Run.{enter, no_more, returns}
use Rattle.aig_values.specs.contracts.gate_order.gate_flags.GateFlags as gate_flags
use Rattle.aig_values.specs.contracts.gate_order.gate_flags.GateFlags.one_more as more
use Rattle.aig_values.proofs.gate_order.gate_flags.GateFlags.one_more.Code as code
use Rattle.aig_values.proofs.gate_order.gate_flags.GateFlags.one_more.Statement.{statement}

-- of the flags that were lent nothing is kept
abbrev lent : Stays more.ended.signature.params more.ended.kept
lent = (stay_none_ref (0 ∷ []) tt (plain (λ _. gate_flags.the_row)) yes, tt)

pub one_more_spec : {M : Type 1} → statement M
one_more_spec 𝓤 𝓛 𝓜 𝓡 wired =
    let clauses = more.clauses 𝓛 𝓜.mem 𝓡.returns in
    proved 𝓛 more.ended lent clauses 𝓜 𝓡 (Goes-none_ref 𝓛 1 (0 ∷ []) tt (plain (λ _. gate_flags.the_row)) yes, tt)
    more.Key.name code.function (code.unfolded 𝓤 𝓛.H 𝓜 𝓡 wired)
    (λ κs. (shr_vals, tt)) (λ κs. (shr_Tells (named 0) κs.0 gate_flags.the_row, tt)) (λ κs qs bounds a g are.
    let pointer : Val = vptr a.0.ref_ptr.0 a.0.ref_ptr.1 in
    let passed : (walk_of 𝓛 more.ended lent clauses).Ghost = ((κs, qs, tt, a, (pointer ∷ [], tt)), tt) in
    via 𝓤 _ (fst∗ 𝓤 _ (emp 𝓤))
    (qed 𝓛 (raw (alive 𝓛 more.signature κs qs) ∷ ‵ (owns (types_at more.signature.params κs) a (pointer ∷ [], tt)) ∷ [])
    ∵ enter ! _ _ code.function (pointer ∷ []) _ $
    alloc_all ! (λ l. pass_all ! refl ((tt, tt), tt) $
    -- the result is made, with nothing in it
    sets ! (agg ! (no_more !)) refl (tt, tt) $
    returns ! (look_at ! 0 refl) $ free_all ! refl $
    suffices ! _ (ends_at 𝓛 more.ended lent clauses passed (vstruct vnil) (record { flags = a.0.now.flags ++ true ∷ [] }) (tt, tt) (tt, tt)) $
    says ! refl $
    pure_i ! (gate_flags.the_row.own_val (record { flags = a.0.now.flags ++ true ∷ [] }) (vstruct vnil ∷ [])) ((λ vss. (tt, tt)), tt) ((tt, (refl, tt)), tt) $
    move ! (1 ∷ 2 ∷ 0 ∷ []) $ done !)))
