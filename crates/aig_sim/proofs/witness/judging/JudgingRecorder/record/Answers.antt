use Rattle.aig_sim.proofs.witness.judging.JudgingRecorder.record.Goals as goal

pub returns-clause-recorded : goal.returns-clause-recorded
returns-clause-recorded g c start rows row recorded holds number = (
  c.in_ok-record.ensures.recorded start rows row recorded.0 holds number,
  c.with_frame-self.ensures start rows row recorded.1 holds,
)
