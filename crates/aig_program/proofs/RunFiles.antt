-- The file of a run that is given with a circuit.
use Rattle.std.proofs.Common.{◌≡◌, ℕ, List, Option, None, Some, ap, sym, subst}
use Rattle.std.specs.Prelude.{IfSome, option_map}
use Rattle.aig_command.specs.declared.given.Given.{Given}
use Rattle.aig_command.specs.declared.given.Given.TheVariants as given
use Rattle.aig_program.specs.GivenFiles.{given_left}

-- what was read of a file is what it had left, in whatever it is kept
kept_whole : {S T : Type 0} (f : S → T) (left : Option S) (x : S) → IfSome left (λ xs. x ≡ xs)
    → IfSome (option_map f left) (λ ys. f x ≡ ys)
kept_whole f None x whole = tt
kept_whole f (Some xs) x whole = ap f whole

module _ {F : Type 0} (left : F → Option (List ℕ)) (it : Given F) (file : F) (text : List ℕ) (whole : IfSome (left file) (λ xs. text ≡ xs)) where
  pub stimulus_whole : it ≡ given.Stimulus file → IfSome (given_left left it) (λ ys. given.Stimulus text ≡ ys)
  stimulus_whole is =
      subst (λ (g : Given F). IfSome (given_left left g) (λ ys. given.Stimulus text ≡ ys)) (sym is)
      (kept_whole given.Stimulus (left file) text whole)

  pub witness_whole : it ≡ given.Witness file → IfSome (given_left left it) (λ ys. given.Witness text ≡ ys)
  witness_whole is =
      subst (λ (g : Given F). IfSome (given_left left g) (λ ys. given.Witness text ≡ ys)) (sym is)
      (kept_whole given.Witness (left file) text whole)
