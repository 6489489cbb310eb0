use Rattle.std.proofs.Common.{ℕ, List, Option, Some, None, All, subst}
use Rattle.aig_parts.specs.declared.gate.Gate.{Gate}
use Rattle.aig_parts.specs.declared.latch.Latch.{Latch}
use Rattle.aig_base.specs.state.LeastFaulty.{IsLeastAmong, IsGroundedGate, ReadsSmaller, gate_variable, latch_variable}
use Rattle.aig_base.specs.Sound.{IsReset}
use Rattle.aig_base.proofs.checks.Ascending.{all_grounded}
use Rattle.aig_base.proofs.checks.Faults.{first_reset, first_cycle, sound_from_tests, circuit_from_tests}
use Rattle.aig_base.proofs.checks.TriedLevelLemmas.{tried_are_levels, tried_grounded}
use Rattle.aig_base.proofs.check.test_resets_and_cycles.Goals as goal

pub returns-in-Some-clause-fault : goal.returns-in-Some-clause-fault
returns-in-Some-clause-fault c = λ other.
    first_reset c.args.raw.now c.requires.range c.requires.once c.in-Some.variable
    (subst (λ (xs : List Latch). IsLeastAmong IsReset latch_variable xs
    (Some c.in-Some.variable)) c.as_slice.ensures c.in-Some.ensures)

pub returns-then-are_ascending-clause-circuit : goal.returns-then-are_ascending-clause-circuit
returns-then-are_ascending-clause-circuit c =
    let raw = c.args.raw.now in
    let resets = subst (λ (xs : List Latch). IsLeastAmong IsReset latch_variable xs None) c.as_slice.ensures
    c.in_default.ensures in
    circuit_from_tests raw c.requires.range c.requires.once c.requires.formed resets
    (all_grounded raw c.requires.once.defined (λ v. v)
    (subst (λ (gs : List Gate). All ReadsSmaller gs) c.as_slice-2.ensures
    (c.are_ascending.ensures.0 c.if-are_ascending.true)))

pub returns-in-Some-2-clause-circuit : goal.returns-in-Some-2-clause-circuit
returns-in-Some-2-clause-circuit c =
    let raw = c.args.raw.now in
    let resets = subst (λ (xs : List Latch). IsLeastAmong IsReset latch_variable xs None) c.as_slice.ensures
    c.in_default.ensures in
    let fits = rw c.in-Some-2.is at c.in_ok-levels.ensures in
    circuit_from_tests raw c.requires.range c.requires.once c.requires.formed resets
    (tried_grounded raw c.in-Some-2.levels.items fits c.requires.once.defined)

pub returns-in-Some-2-clause-levels : goal.returns-in-Some-2-clause-levels
returns-in-Some-2-clause-levels c =
    let raw = c.args.raw.now in
    let resets = subst (λ (xs : List Latch). IsLeastAmong IsReset latch_variable xs None) c.as_slice.ensures
    c.in_default.ensures in
    tried_are_levels raw c.in-Some-2.levels.items (rw c.in-Some-2.is at c.in_ok-levels.ensures)
    (sound_from_tests raw c.requires.range c.requires.once resets)

pub least_ungrounded-requires-clause-sound : goal.least_ungrounded-requires-clause-sound
least_ungrounded-requires-clause-sound c =
    sound_from_tests c.args.raw.now c.requires.range c.requires.once
    (subst (λ (xs : List Latch). IsLeastAmong IsReset latch_variable xs None) c.as_slice.ensures c.in_default.ensures)

pub returns-in-Some-3-clause-fault : goal.returns-in-Some-3-clause-fault
returns-in-Some-3-clause-fault c = λ other.
    let raw = c.args.raw.now in
    let resets = subst (λ (xs : List Latch). IsLeastAmong IsReset latch_variable xs None) c.as_slice.ensures
    c.in_default.ensures in
    first_cycle raw c.requires.range c.requires.once c.in-Some-3.variable resets
    (subst (λ (o : Option ℕ). IsLeastAmong (IsGroundedGate raw) gate_variable raw.gates o) c.in-Some-3.is
    c.in_ok-variable.ensures)

pub returns-in-None-clause-circuit : goal.returns-in-None-clause-circuit
returns-in-None-clause-circuit c =
    let raw = c.args.raw.now in
    let resets = subst (λ (xs : List Latch). IsLeastAmong IsReset latch_variable xs None) c.as_slice.ensures
    c.in_default.ensures in
    circuit_from_tests raw c.requires.range c.requires.once c.requires.formed resets
    (subst (λ (o : Option ℕ). IsLeastAmong (IsGroundedGate raw) gate_variable raw.gates o) c.in-None.is
    c.in_ok-variable.ensures)
