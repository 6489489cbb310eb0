use Rattle.std.proofs.Common.{◌≡◌, ℕ, ◌-◌, ◌+◌, ◌<◌, get_or, List, ap, sym, subst, ◌∙◌, arith}
use Rattle.std.proofs.lemmas.List.{take_all}
use Rattle.aig_parts.specs.declared.symbols.places.Place.{Place}
use Rattle.aig_parts.specs.SymbolPlaces.{Key}
use Rattle.aig_parts.specs.state.SymbolTable.{key_number, Ascend}
use Rattle.aig_parts.proofs.TableLemmas.{nowhere, ascend_more}
use Rattle.aig_parts.proofs.symbols.table.are_ascending.Goals as goal

pub loop-place-preserved : goal.loop-place-preserved
loop-place-preserved c =
    let es = c.args.entries.now in
    let place = c.loop-place.place in
    let i = c.loop-place.invariant in
    let number = c.key_number-number.ensures in
    let up : key_number (get_or es (place - 1) nowhere).0 < key_number (get_or es place nowhere).0 =
    subst (λ (n : ℕ). n < key_number (get_or es place nowhere).0) i.last
    (subst (λ (n : ℕ). c.loop-place.before < n) number c.if-before-number.false) in
    let same : place ≡ place + 1 - 1 = omega arith in
    record {
      some = omega arith;
      ascend = ascend_more es place nowhere i.some c.loop-place-test.true up i.ascend;
      last = number ∙ ap (λ (n : ℕ). key_number (get_or es n nowhere).0) same;
    }

pub returns : goal.returns
returns c _ =
    subst (λ (xs : List (Key × Place)). Ascend xs)
    (take_all c.loop-place.place c.args.entries.now c.loop-place-test.false) c.loop-place.invariant.ascend
