use Rattle.aig_program.proofs.RunFiles.{stimulus_whole, witness_whole}
use Rattle.aig_program.proofs.given_file.read_given_file.Goals as goal

pub returns-in_ok-text-in-Stimulus-clause-whole : goal.returns-in_ok-text-in-Stimulus-clause-whole
returns-in_ok-text-in-Stimulus-clause-whole g c =
    stimulus_whole g.F.Read.remaining c.args.given c.in-Stimulus.file c.in_ok-text-in-Stimulus.text.items c.in_ok-text-in-Stimulus.ensures.whole
    c.in-Stimulus.is

pub returns-in_ok-text-in-Witness-clause-whole : goal.returns-in_ok-text-in-Witness-clause-whole
returns-in_ok-text-in-Witness-clause-whole g c =
    witness_whole g.F.Read.remaining c.args.given c.in-Witness.file c.in_ok-text-in-Witness.text.items c.in_ok-text-in-Witness.ensures.whole
    c.in-Witness.is
