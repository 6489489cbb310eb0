use Rattle.std.proofs.Common.{ℕ, ◌↔◌, IsTrue, subst}
use Rattle.aig_causes.specs.Explanation.{ExplanationState, IsNamed}
use Rattle.aig_causes.proofs.explanation.Explanation.is_complete.Goals as goal

pub returns : goal.returns
returns c =
    subst (λ (s : ExplanationState). IsTrue c.is_empty.result ↔ ((p : ℕ) → IsNamed s.named p → ⊥)) c.self.view_is
    c.is_empty.ensures
