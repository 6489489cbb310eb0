-- How a table of names hashes.
use Rattle.std.specs.Prelude.{ℕ, List}
use Rattle.std.specs.List.{fold}
use Rattle.std.specs.Hash.DefaultHasher as sip
use Rattle.aig_signals.specs.declared.hash.NameHash.{NameHash}

-- SipHash after all these names, in order
abbrev pub hash_by : List (List ℕ) → NameHash
hash_by names = record { mixed = fold sip.write sip.initial names }
