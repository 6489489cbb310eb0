-- What is asked for, as the command keeps it.
use Rattle.std.specs.Prelude.{ℕ, List, Option, None, Some}
use Rattle.aig_parts.specs.declared.raw.Raw.{Raw}
use Rattle.aig_why.specs.Why.{IsNoQuestion, IsQuestion}
use Rattle.aig_why.specs.declared.question.Question.{Question}

-- a name and literals; none where nothing is asked for
abbrev pub IsAskedAs : Raw → Option (List ℕ) → Option ℕ → Option Question → Type 0
IsAskedAs raw name property None = IsNoQuestion raw name property
IsAskedAs raw name property (Some q) = IsQuestion raw name property q.name q.literals
