use Rattle.std.proofs.Common.{◌-◌, ◌∙◌, length, drop, sym, subst, arith}
use Rattle.std.specs.Map.{keys_of}
use Rattle.std.specs.Prelude.{List, ◌≢◌, AllPairs, take}
use Rattle.std.proofs.lemmas.List.{take_all, length-drop, get_or_default}
use Rattle.aig_parts.specs.declared.symbols.places.Place.{Place}
use Rattle.aig_parts.specs.SymbolPlaces.{Key}
use Rattle.aig_parts.proofs.SymbolLemmas.{entry_more}
use Rattle.aig_parts.proofs.TableLemmas.{once_after}
use Rattle.aig_parts.proofs.symbols.table.others_of.Goals as goal

pub loop-entry-preserved : goal.loop-entry-preserved
loop-entry-preserved c =
    let es = c.args.entries.now in
    let rest = drop c.args.from es in
    let part = take (length es - c.args.from) rest in
    let whole = take_all (length es - c.args.from) rest (omega (arith, length-drop c.args.from es)) in
    let once = subst (λ (xs : List (Key × Place)). AllPairs (λ x y. x ≢ y) (keys_of xs)) (sym whole)
    (once_after es c.args.from c.requires.once) in
    record {
      entries = c.in_ok-insert.ensures.entries
          ∙ entry_more c.loop-entry.others part c.loop-entry.entry-index _
          (get_or_default part c.loop-entry.entry-index _ _ c.loop-entry-test.true) c.loop-entry-test.true once
          c.loop-entry.invariant.entries;
      hasher = c.in_ok-insert.ensures.hasher ∙ c.loop-entry.invariant.hasher;
    }
