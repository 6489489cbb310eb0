use Rattle.aig_sim.proofs.OneText.{one_list_of_rows, no_faulty_line, one_faulty_line}
use Rattle.aig_sim.proofs.text_laws.law_of_stimulus_text.Goals as goal

pub returns : goal.returns
returns c = record { rows = one_list_of_rows; no_fault = no_faulty_line; fault = one_faulty_line }
