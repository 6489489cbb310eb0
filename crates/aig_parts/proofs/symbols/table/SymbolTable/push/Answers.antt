use Rattle.std.proofs.Common.{◌<◌, ◌∷◌, ◌++◌, [], List, Contains, sym, subst, ap, ◌∙◌}
use Rattle.std.specs.Map.{keys_of}
use Rattle.std.specs.Prelude.{All, Option}
use Rattle.aig_parts.specs.declared.symbols.places.Place.{Place}
use Rattle.aig_parts.specs.SymbolPlaces.{Key}
use Rattle.aig_parts.specs.state.SymbolRanks.{Ranks}
use Rattle.aig_parts.specs.state.SymbolTable.{key_number, Ascend, AreFindable, IsSymbolTable, Table}
use Rattle.aig_parts.proofs.SymbolKeys.{insert_at_end}
use Rattle.aig_parts.proofs.TableLemmas.{pushed, pushed_after, appended, not_other}
use Rattle.aig_parts.proofs.symbols.table.SymbolTable.push.Goals as goal

pub goes_on-requires : goal.goes_on-requires
goes_on-requires c =
    subst (λ (es : List (Key × Place)). AreFindable es c.self.inside.ranks) (sym c.deref.ensures.value) c.self.invariant.findable

pub invariant_of-self-then-goes_on : goal.invariant_of-self-then-goes_on
invariant_of-self-then-goes_on c =
    let fresh = subst (λ (t : Table). Contains (keys_of t.entries) c.args.entry → ⊥) (sym c.self.view_is) c.requires in
    let listed = c.self.inside.listed.items in
    let others = c.self.inside.others.entries in
    let ascend = subst (λ (es : List (Key × Place)). Ascend es) c.deref.ensures.value
    (c.goes_on.ensures.ascend c.if-goes_on.true) in
    let low = subst (λ (es : List (Key × Place)). All (λ x. key_number x.0 < key_number c.args.entry) es)
    c.deref.ensures.value (c.goes_on.ensures.above c.if-goes_on.true) in
    let more = pushed listed others c.self.inside.ranks c.args.entry c.args.place c.self.invariant fresh
    (c.is_empty.ensures.0 c.if-is_empty.true) ascend low in
    subst (λ (es : List (Key × Place)). IsSymbolTable es c.self.inside.ranks others) (sym c.in_ok-push.ensures.items)
    (subst (λ (r : Option Ranks). IsSymbolTable (listed ++ (c.args.entry, c.args.place) ∷ []) r others)
    (sym (c.goes_on.ensures.unranked c.if-goes_on.true)) more)

pub invariant_of-self-in_ok-insert : goal.invariant_of-self-in_ok-insert
invariant_of-self-in_ok-insert c =
    let fresh = subst (λ (t : Table). Contains (keys_of t.entries) c.args.entry → ⊥) (sym c.self.view_is) c.requires in
    let listed = c.self.inside.listed.items in
    let ranks = c.self.inside.ranks in
    let others = c.self.inside.others in
    let entries = c.in_ok-insert.ensures.entries ∙ insert_at_end others c.args.entry c.args.place
    (not_other listed others.entries c.args.entry fresh) in
    subst (λ (es : List (Key × Place)). IsSymbolTable listed ranks es) (sym entries)
    (pushed_after listed others.entries ranks c.args.entry c.args.place c.self.invariant fresh)

pub returns-in_ok-insert-clause-ok : goal.returns-in_ok-insert-clause-ok
returns-in_ok-insert-clause-ok c =
    let fresh = subst (λ (t : Table). Contains (keys_of t.entries) c.args.entry → ⊥) (sym c.self.view_is) c.requires in
    let listed = c.self.inside.listed.items in
    let others = c.self.inside.others in
    let entries = c.in_ok-insert.ensures.entries ∙ insert_at_end others c.args.entry c.args.place
    (not_other listed others.entries c.args.entry fresh) in
    ap (λ (es : List (Key × Place)). listed ++ es) entries
    ∙ appended listed others.entries c.self.inside.ranks c.args.entry c.args.place c.self.invariant fresh
    ∙ ap (λ (t : Table). t.entries ++ (c.args.entry, c.args.place) ∷ []) c.self.view_is
