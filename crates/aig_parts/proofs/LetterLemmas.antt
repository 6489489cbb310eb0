-- A letter names one section.
use Rattle.std.proofs.Common.{◌≡◌, ℕ, ◌==◌, if◌then◌else◌, refl, sym, ap, ◌∙◌}
use Rattle.aig_parts.specs.declared.symbols.Kind.{Kind}
use Rattle.aig_parts.specs.declared.symbols.Kind.TheVariants.{Input, Latch, Output, Bad, Constraint, Justice, Fairness}
use Rattle.aig_parts.specs.Letters.{letter}

-- the section of a letter
of_letter : ℕ → Kind
of_letter l =
    if l == 105 then Input else (if l == 108 then Latch else (if l == 111 then Output else (if l == 98 then Bad
    else (if l == 99 then Constraint else (if l == 106 then Justice else Fairness)))))

by_letter : (kind : Kind) → of_letter (letter kind) ≡ kind
unfolding of_letter
by_letter Input = refl
by_letter Latch = refl
by_letter Output = refl
by_letter Bad = refl
by_letter Constraint = refl
by_letter Justice = refl
by_letter Fairness = refl

pub same_kind : (a b : Kind) → letter a ≡ letter b → a ≡ b
same_kind a b e = sym (by_letter a) ∙ ap of_letter e ∙ by_letter b
