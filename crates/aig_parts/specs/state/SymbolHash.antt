-- How a table of symbols hashes: by two keys that are made from the numbers of entries.
use Rattle.std.specs.Prelude.{List}
use Rattle.std.specs.List.{fold}
use Rattle.std.specs.Hash as fed
use Rattle.std.specs.Hash.DefaultHasher as sip
use Rattle.std.specs.Hash.FoldHasher as folding
use Rattle.std.specs.declared.hash.DefaultHasher.{DefaultHasher}
use Rattle.aig_parts.specs.declared.symbols.hash.SymbolHash.{SymbolHash}
use Rattle.aig_parts.specs.SymbolPlaces.{Key}
use Rattle.aig_parts.specs.state.SymbolTable.{key_number}

-- SipHash after the number of one more entry
abbrev pub mix : DefaultHasher → Key → DefaultHasher
mix mixed k = fold sip.write mixed (fed.u64 (key_number k))

-- SipHash after the numbers of all these entries, in order
abbrev pub mixed_of : List Key → DefaultHasher
mixed_of keys = fold mix sip.initial keys

-- the hash with the keys that SipHash makes: the first is taken in before an entry, and the last, in which the first is
-- mixed, after it
abbrev pub hash_by : DefaultHasher → SymbolHash
hash_by mixed =
    let state = fold folding.write folding.initial (fed.u64 (sip.finish mixed)) in
    let last = sip.finish (fold sip.write mixed (fed.u64 (folding.finish state))) in
    record { hasher = record { state = state; last = last } }

-- the hash whose keys are made from these entries
abbrev pub hash_of_entries : List Key → SymbolHash
hash_of_entries keys = hash_by (mixed_of keys)
