use Rattle.aig_names.proofs.Codes.{one_signal, visible_code}
use Rattle.aig_names.proofs.HeaderNames.{header_names}
use Rattle.aig_sim.specs.DumpHeader.{signal_counts, header}
use Rattle.aig_sim.proofs.DumpLines.{header_lines}
use Rattle.aig_sim.proofs.DumpRuns.{dump_shown, frames_shown}
use Rattle.aig_sim.proofs.text_laws.law_of_dump.Goals as goal

pub returns : goal.returns
unfolding header
returns c = record {
  shows = dump_shown;
  begins = frames_shown;
  one_code = one_signal;
  code = visible_code;
  names = λ raw. header_names raw.symbols (signal_counts raw);
  directives = header_lines;
}
