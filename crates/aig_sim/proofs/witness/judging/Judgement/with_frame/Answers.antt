use Rattle.std.proofs.Common.{◌≡◌, ℕ, ◌<◌, ◌^◌, [], ◌∷◌, ◌++◌, length, Option, sym, subst, arith}
use Rattle.std.specs.Prelude.{IfNone, IfSome}
use Rattle.std.proofs.lemmas.List.{length-append}
use Rattle.aig_sim.specs.declared.witness.judging.FailedConstraint.{FailedConstraint}
use Rattle.aig_sim.specs.state.Judging.{AreHeld, FailsFirst}
use Rattle.aig_sim.proofs.JudgingLemmas.{fails_still, judged_here}
use Rattle.aig_sim.proofs.witness.judging.Judgement.with_frame.Goals as goal
use Rattle.aig_sim.proofs.witness.judging.Judgement.with_frame.Goals.{in-Some, in-None}

pub returns : goal.returns
returns c start rows row judged holds =
    let raw = c.args.machine.now.circuit in
    let n = length-append rows (row ∷ []) in
    let after = rows ++ row ∷ [] in
    let found : IfSome c.match-self.failure (λ at. length after < 2 ^ 32 → FailsFirst raw start after at)
    × IfNone c.match-self.failure (AreHeld raw start after (length after)) =
    elim c.match-self.branch [
      | in-Some b ↦
          let so_far = subst (λ (o : Option FailedConstraint). IfSome o (λ at. length rows < 2 ^ 32 → FailsFirst raw start rows at))
          b.in-Some.is judged.fails in
          subst (λ (o : Option FailedConstraint). IfSome o (λ at. length after < 2 ^ 32 → FailsFirst raw start after at)
          × IfNone o (AreHeld raw start after (length after))) (sym b.failure-is)
          (λ few. fails_still start rows (row ∷ []) (so_far (omega (arith, few, n))), tt)
      | in-None b ↦
          let e = b.failure_at-failure.ensures in
          subst (λ (o : Option FailedConstraint). IfSome o (λ at. length after < 2 ^ 32 → FailsFirst raw start after at)
          × IfNone o (AreHeld raw start after (length after))) (sym b.failure-is)
          (judged_here c.circuit.ensures.is_circuit.sound start rows row c.args.machine.now.cells holds b.failure_at-failure.result
          (subst (λ (o : Option FailedConstraint). IfNone o (AreHeld raw start rows (length rows))) b.in-None.is judged.held)
          (subst (λ (m : ℕ). IfSome b.failure_at-failure.result (λ at. at.frame ≡ m)) judged.frames_are e.frame)
          e.some e.least e.none)
    ] in
    record {
      frames_are = omega (arith, c.saturating_add.ensures, judged.frames_are, n);
      fails = found.0;
      held = found.1;
    }
