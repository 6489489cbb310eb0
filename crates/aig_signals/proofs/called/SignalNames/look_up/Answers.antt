use Rattle.std.proofs.Common.{List, ℕ, map, inl, ap, subst, ◌∙◌}
use Rattle.aig_parts.specs.Literal.{negation}
use Rattle.aig_base.specs.Circuit.{IsCircuit}
use Rattle.aig_signals.proofs.Defined.{known_in_range, meant_known}
use Rattle.aig_signals.proofs.Meaning.{means_negated, unknown_after}
use Rattle.aig_signals.proofs.called.SignalNames.look_up.Goals as goal

pub returns-in-Some-clause-means : goal.returns-in-Some-clause-means
returns-in-Some-clause-means c = inl (rw c.in-Some.is at c.in_ok-found.ensures.plain)

pub returns-in-Some-clause-defined : goal.returns-in-Some-clause-defined
returns-in-Some-clause-defined c =
    meant_known c.args.self.now (subst IsCircuit c.self.view_is c.facts.ensures) c.args.name.now _ (returns-in-Some-clause-means c)

pub returns-in-Some-clause-range : goal.returns-in-Some-clause-range
returns-in-Some-clause-range c =
    known_in_range c.args.self.now (subst IsCircuit c.self.view_is c.facts.ensures) _ (returns-in-Some-clause-defined c)

pub returns-in_default-after_not-clause-unknown : goal.returns-in_default-after_not-clause-unknown
returns-in_default-after_not-clause-unknown c =
    (rw c.in_default.is at c.in_ok-found.ensures.none, λ rest is. absurd (c.in_default-after_not.ensures.none rest is))

pub returns-in_ok-negated-in-Some-bits-clause-means : goal.returns-in_ok-negated-in-Some-bits-clause-means
returns-in_ok-negated-in-Some-bits-clause-means c =
    means_negated c.args.self.now c.args.name.now _ _ _ (rw c.in_default.is at c.in_ok-found.ensures.none)
    c.in-Some-after_not.ensures.some (rw c.in-Some-bits.is at c.in_ok-bits.ensures.plain) (c.in_ok-negated-in-Some-bits.ensures ∙ ap (λ (ls : List ℕ). map negation ls) c.as_slice.ensures)

pub returns-in_ok-negated-in-Some-bits-clause-defined : goal.returns-in_ok-negated-in-Some-bits-clause-defined
returns-in_ok-negated-in-Some-bits-clause-defined c =
    meant_known c.args.self.now (subst IsCircuit c.self.view_is c.facts.ensures) c.args.name.now _ (returns-in_ok-negated-in-Some-bits-clause-means c)

pub returns-in_ok-negated-in-Some-bits-clause-range : goal.returns-in_ok-negated-in-Some-bits-clause-range
returns-in_ok-negated-in-Some-bits-clause-range c =
    known_in_range c.args.self.now (subst IsCircuit c.self.view_is c.facts.ensures) _ (returns-in_ok-negated-in-Some-bits-clause-defined c)

pub returns-in-None-clause-unknown : goal.returns-in-None-clause-unknown
returns-in-None-clause-unknown c =
    unknown_after c.args.self.now c.args.name.now _ (rw c.in_default.is at c.in_ok-found.ensures.none)
    c.in-Some-after_not.ensures.some (rw c.in-None.is at c.in_ok-bits.ensures.none)
