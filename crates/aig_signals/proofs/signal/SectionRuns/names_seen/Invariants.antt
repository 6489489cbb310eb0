use Rattle.std.proofs.Common.{◌≡◌, ℕ, List, take, map}
use Rattle.std.specs.Str.{bytes_eq}
use Rattle.indexmap.specs.IndexMap.{get_by, hasher_of}
use Rattle.aig_signals.specs.Names.{first_name}
use Rattle.aig_signals.specs.Signals.{count_called}
use Rattle.aig_signals.specs.state.NameHash.{hash_by}
use Rattle.aig_signals.specs.state.Seen.{seen}
use Rattle.aig_signals.proofs.signal.SectionRuns.names_seen.Given as goal

abbrev pub invariant-loop-run : goal.invariant-loop-run
invariant-loop-run l = record {
  seen : (x : List ℕ) → get_by (λ key. bytes_eq x key.items) l.map ≡ seen (count_called l.self.circuit.now l.self.kind x (take l.run-index l.self.runs.now));
  hash : hasher_of l.map ≡ hash_by (map (λ run. first_name l.self.circuit.now l.self.kind run.first) l.self.runs.now);
}
