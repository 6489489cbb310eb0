use Rattle.std.proofs.Common.{◌≡◌, ◌++◌, drop}
use Rattle.aig_names.specs.Names.{as_name, as_name_after}
use Rattle.aig_names.proofs.names.push_word.Given as goal

abbrev pub invariant-loop-byte : goal.invariant-loop-byte
invariant-loop-byte l =
    l.text.items ++ as_name_after l.before (drop l.byte-index l.word) ≡ l.fn.text.items ++ as_name l.word
