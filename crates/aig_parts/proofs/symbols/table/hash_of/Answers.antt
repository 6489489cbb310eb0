use Rattle.std.proofs.Common.{◌∙◌, List, get_or, ap}
use Rattle.std.specs.Map.{keys_of}
use Rattle.std.specs.declared.hash.DefaultHasher.{DefaultHasher}
use Rattle.std.proofs.lemmas.List.{take_all, get_or_default}
use Rattle.aig_parts.specs.declared.symbols.places.Place.{Place}
use Rattle.aig_parts.specs.SymbolPlaces.{Key}
use Rattle.aig_parts.specs.state.SymbolHash.{mix, hash_by, mixed_of}
use Rattle.aig_parts.proofs.TableLemmas.{nowhere, mixed_more}
use Rattle.aig_parts.proofs.symbols.table.hash_of.Goals as goal

pub loop-entry-preserved : goal.loop-entry-preserved
loop-entry-preserved c =
    let es = c.args.entries.now in
    let i = c.loop-entry.entry-index in
    c.mix.ensures.number
    ∙ ap (λ (x : Key × Place). mix c.loop-entry.mixed x.0) (get_or_default es i _ nowhere c.loop-entry-test.true)
    ∙ ap (λ (s : DefaultHasher). mix s (get_or es i nowhere).0) c.loop-entry.invariant
    ∙ mixed_more es i nowhere c.loop-entry-test.true

pub returns : goal.returns
returns c =
    let whole = take_all c.loop-entry.entry-index c.args.entries.now c.loop-entry-test.false in
    record {
      all = c.by.ensures.keys
          ∙ ap hash_by (c.loop-entry.invariant ∙ ap (λ (xs : List (Key × Place)). mixed_of (keys_of xs)) whole);
    }
