-- By hand, since the prover's own steps do not cover a struct with a ghost field that is data. The body makes a struct
-- without bytes and returns it; contracts see in it the flags that were lent.
use Rattle.std.proofs.Common.{[], ◌∷◌, length, refl}
use Rattle.std.proofs.raw_atomic.Walks.{proved}
use base.Logic.{emp, fst∗, via}
use denote.Builtin.{bool}
use denote.Exit.{yes}
use denote.RattleType.{owns}
use denote.Shadow.{pure_i}
use denote.Signature.{plain, types_at}
use denote.Slice.{shr_slice_Tells, shr_slice_vals, slice_val}
use denote.Triple.Entry.{alive}
use denote.Triple.Walked.{ends_at, Goes-none_slice, says, stay_none_slice, Stays, walk_of}
use mir.Syntax.{named}
use mir.Val.{Val, vnil, vstruct}
use types.ByLocal.{alloc_all, free_all, look_at, pass_all, sets}
use types.Kit.{ !, done, move, qed, raw, suffices, ‵, ◌$◌, ◌∵◌}
use types.Part.{agg}
use types.Run.{enter, no_more, returns}
use Rattle.aig_values.specs.contracts.gate_order.gate_flags.GateFlags as gate_flags
use Rattle.aig_values.specs.contracts.gate_order.gate_flags.GateFlags.of as of
use Rattle.aig_values.proofs.gate_order.gate_flags.GateFlags.of.Code as code
use Rattle.aig_values.proofs.gate_order.gate_flags.GateFlags.of.Statement.{statement}

-- of the slice that was lent nothing is kept
abbrev lent : Stays of.ended.signature.params of.ended.kept
lent = (stay_none_slice (0 ∷ []) tt (plain (λ _. bool)) yes, tt)

pub of_spec : {M : Type 1} → statement M
of_spec 𝓤 𝓛 𝓜 𝓡 wired =
    let clauses = of.clauses 𝓛 𝓜.mem 𝓡.returns in
    proved 𝓛 of.ended lent clauses 𝓜 𝓡 (Goes-none_slice 𝓛 1 (0 ∷ []) tt (plain (λ _. bool)) yes, tt)
    of.Key.name code.function (code.unfolded 𝓤 𝓛.H 𝓜 𝓡 wired)
    (λ κs. (shr_slice_vals, tt)) (λ κs. (shr_slice_Tells (named 0) κs.0 bool, tt)) (λ κs qs bounds a g are.
    let slice : Val = slice_val a.0.ref_ptr (length a.0.now) in
    let passed : (walk_of 𝓛 of.ended lent clauses).Ghost = ((κs, qs, tt, a, (slice ∷ [], tt)), tt) in
    via 𝓤 _ (fst∗ 𝓤 _ (emp 𝓤))
    (qed 𝓛 (raw (alive 𝓛 of.signature κs qs) ∷ ‵ (owns (types_at of.signature.params κs) a (slice ∷ [], tt)) ∷ [])
    ∵ enter ! _ _ code.function (slice ∷ []) _ $
    alloc_all ! (λ l. pass_all ! refl ((tt, (tt, (record { fits = are.0.0.1.0 }, tt))), tt) $
    -- the result is made, with nothing in it
    sets ! (agg ! (no_more !)) refl (tt, tt) $
    returns ! (look_at ! 0 refl) $ free_all ! refl $
    suffices ! _
    (ends_at 𝓛 of.ended lent clauses passed (vstruct vnil) (record { flags = a.0.now }) (tt, tt) (tt, tt)) $
    says ! refl $
    pure_i ! (gate_flags.the_row.own_val (record { flags = a.0.now }) (vstruct vnil ∷ []))
    ((λ vss. (tt, tt)), tt) ((tt, (refl, tt)), tt) $
    move ! (1 ∷ 2 ∷ 0 ∷ []) $ done !)))
