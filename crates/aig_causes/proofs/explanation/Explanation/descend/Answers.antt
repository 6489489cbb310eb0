use Rattle.std.proofs.Common.{◌≡◌, ◌-◌, ◌<◌, ◌∷◌, [], List, length, Bool, ap, sym, subst}
use Rattle.aig_causes.specs.declared.latch_set.LatchSet.{LatchSet}
use Rattle.aig_causes.specs.Explanation.{ExplanationState, HasCome, IsOf}
use Rattle.aig_causes.proofs.Explanations.{goes_down_by}
use Rattle.aig_causes.proofs.explanation.Explanation.descend.Goals as goal

pub returns-clause-come : goal.returns-clause-come
returns-clause-come c = λ p literals frames lines h of.
    let was = sym c.self.view_is in
    let e : ExplanationState = record {
      variables = c.self.inside.explainer;
      asked = c.self.inside.asked;
      latches_alone = c.self.inside.latches_alone;
      frame = c.self.inside.frame;
      named = c.self.inside.named.flags.items;
      end = c.self.inside.end;
      below = c.self.inside.below.flags.items;
    } in
    let taken : c.swap.new.x.flags.items ≡ e.below = ap (λ (s : LatchSet). s.flags.items) c.swap.ensures.x_after in
    subst (λ (flags : List Bool). HasCome p literals (record e {
      frame = e.frame - 1;
      named = flags;
      end = 0;
      below = c.clear.new.self.flags.items;
    }) (lines ∷ frames) []) (sym taken)
    (goes_down_by p literals e frames lines (subst (λ (s : ExplanationState). HasCome p literals s frames lines) was h)
    c.clear.new.self.flags.items (subst (λ (s : ExplanationState). 0 < s.frame) was c.requires.frame)
    (subst (λ (s : ExplanationState). s.end ≡ length s.named) was c.requires.end)
    (subst (λ (s : ExplanationState). IsOf p s) was of) c.clear.ensures.none)
