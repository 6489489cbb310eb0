-- The examples of the definitions of `aig_sat` and `aig_certificate`.
use Rattle.std.proofs.Common.{zero, ◌≡◌, ◌≢◌, inl, inr, ℕ, suc, ◌<◌, [], ◌∷◌, ◌++◌, Some, Contains, get_or, refl, lit<}
use Rattle.std.proofs.Common.{List, arith}
use Rattle.std.specs.Prelude.{Bool, true, false, Ok, Err, codes, nat_eq, slice_index_or}
use Rattle.std.specs.Fmt.{digits}
use Rattle.std.proofs.lemmas.List.Elements.{All-cons, All-nil}
use Rattle.aig_parts.specs.Literal.{negation, variable}
use Rattle.aig_parts.specs.declared.raw.Raw.{Raw}
use Rattle.aig_parts.specs.declared.symbols.Kind.TheVariants.{Input, Latch}
use Rattle.aig_parts.specs.declared.ternary.Tern.TheVariants.{Zero, One, X}
use Rattle.aig_certificate.specs.declared.mapping.Pair.{Pair}
use Rattle.aig_certificate.specs.Mapping.{IsMapping, from_mapping}
use Rattle.aig_certificate.specs.Shared as shared
use Rattle.aig_certificate.specs.Shared.{StandsFor}
use Rattle.aig_sat.specs.checker.Clause.{is_true, meets, Satisfies}
use Rattle.aig_sat.specs.checker.Consequence.{Follows, IsUnsatisfiable}
use Rattle.aig_sat.specs.checker.Hints.{IsShown, Numbered, Shows}
use Rattle.aig_sat.specs.checker.Knowledge.{IsIn}
use Rattle.aig_sat.specs.checker.Standing.{standing}
use Rattle.aig_sat.specs.declared.checker.propagator.Propagator.{Propagator}
use Rattle.aig_sat.specs.model.ModelText as model
use Rattle.aig_sat.specs.model.ModelText.{number_text, IsModelOf, SpellsModel}
use Rattle.aig_sat.specs.model.Named.{AreNamed, NamesValue}
use Rattle.aig_sat.specs.proof.ProofBytes as bytes
use Rattle.aig_sat.specs.proof.ProofBytes.{SpellsBinaryStep}
use Rattle.aig_sat.specs.proof.ProofText as text
use Rattle.aig_sat.specs.proof.ProofText.{Gap, SpellsStep}
use Rattle.aig_sat.specs.proof.Proofs as proofs
use Rattle.aig_sat.specs.proof.Proofs.{HasAddition, IsProof, Step, TextSteps}
use Rattle.aig_sat.specs.proof.Reads.{reads_failed}
use Rattle.aig_sat.specs.proof.Steps.{AreLiterals}
use Rattle.aig_sat.specs.declared.model.reader.Phase.TheVariants.{Before, Within, After}
use Rattle.aig_sat.specs.declared.proof.fault.ReadFault.TheVariants as faults
use Rattle.aig_sat.specs.declared.proof.step.StepKind.TheVariants.{Add, Delete}
use Rattle.aig_examples.proofs.TwoGates.{two_gates}

-- under values that make variable 1 true alone, literals 1 and 2 are true and 0 and 3 are false; the clause `3 4` is
-- not met
abbrev only_one : ℕ → Bool
only_one v = nat_eq v 1

literals_of_one : (is_true only_one 1 ≡ true) × (is_true only_one 2 ≡ true) × (is_true only_one 0 ≡ false)
    × (is_true only_one 3 ≡ false) × (meets only_one (3 ∷ 4 ∷ []) ≡ false)
literals_of_one = (refl, refl, refl, refl, refl)

-- from the clauses `2` and `3 4` the clause `4` follows
four_follows : Follows ((2 ∷ []) ∷ (3 ∷ 4 ∷ []) ∷ []) ((4 ∷ []) ∷ [])
four_follows values h = by_values (values 1) (values 2) refl refl
  where
    by_values : (a b : Bool) → values 1 ≡ a → values 2 ≡ b → Satisfies values ((4 ∷ []) ∷ [])
    by_values a true e f = rw f refl
    by_values true false e f = let no : ⊥ = cc in absurd no
    by_values false false e f = let no : ⊥ = cc in absurd no

-- `2` and `3` are unsatisfiable
two_and_three : IsUnsatisfiable ((2 ∷ []) ∷ (3 ∷ []) ∷ [])
two_and_three values h = by_value (values 1) refl
  where
    by_value : (a : Bool) → values 1 ≡ a → ⊥
    by_value true e = cc
    by_value false e = cc

-- `-2` for literal 3
number_of_three : number_text 3 ≡ codes "-2"
unfolding digits
number_of_three = refl

-- the literals 0 and 3 name 1 and 0, and x for variable 2
named_values : AreNamed (0 ∷ 3 ∷ []) 3 (One ∷ Zero ∷ X ∷ [])
named_values = record { count = refl; each = names }
  where
    absent : (l : ℕ) → l ≢ 0 → l ≢ 3 → Contains (0 ∷ 3 ∷ []) l → ⊥
    absent l a b (zero, lt, is) = omega (arith, is, a)
    absent l a b (suc zero, lt, is) = omega (arith, is, b)
    absent l a b (suc (suc k), lt, is) = omega (arith, lt)

    names : (v : ℕ) → v < 3 → NamesValue (0 ∷ 3 ∷ []) v (slice_index_or (One ∷ Zero ∷ X ∷ []) v X)
    names zero lt = ((0, omega arith, refl), absent 1 (λ e. omega (arith, e)) (λ e. omega (arith, e)))
    names (suc zero) lt = ((1, omega arith, refl), absent 2 (λ e. omega (arith, e)) (λ e. omega (arith, e)))
    names (suc (suc zero)) lt = (
      absent 4 (λ e. omega (arith, e)) (λ e. omega (arith, e)),
      absent 5 (λ e. omega (arith, e)) (λ e. omega (arith, e)),
    )
    names (suc (suc (suc v))) lt = absurd (omega (arith, lt))

-- `v 1 -2 0` names 0 and 3, so of three variables the values are 1, 0 and x
spelled_model : SpellsModel 3 (codes "v 1 -2 0") (0 ∷ 3 ∷ [])
unfolding digits
spelled_model = model.Names.end 10 (inr (inr refl)) not_after
    (model.Names.literal 3 32 (inl refl) (omega arith) not_after
    (model.Names.literal 0 32 (inl refl) (omega arith) not_before
    (model.Names.mark 32 (inl refl) (inl refl) not_before model.Names.nothing)))
  where
    not_after : Within ≢ After
    not_after e = let no : ⊥ = cc in no

    not_before : Before ≢ After
    not_before e = let no : ⊥ = cc in no

model_of_three : IsModelOf 3 (codes "v 1 -2 0") (One ∷ Zero ∷ X ∷ [])
model_of_three = (0 ∷ 3 ∷ [], spelled_model, named_values)

-- the bytes 97, 2, 5 and 0 add the clause `0 3`
binary_step : SpellsBinaryStep (97 ∷ 2 ∷ 5 ∷ 0 ∷ []) Add (0 ∷ 3 ∷ [])
binary_step = record {
  rest = 2 ∷ 5 ∷ 0 ∷ [];
  bytes_are = refl;
  spelled = bytes.SpellsLiterals.literal 0 (omega arith) (bytes.Groups.last 2 (omega arith))
      (bytes.SpellsLiterals.literal 3 (omega arith) (bytes.Groups.last 5 (omega arith)) bytes.SpellsLiterals.end);
}

-- `d 1 -2 0` and a blank delete the clause `0 3`, as the second step
second_step : SpellsStep false 10 (codes "d 1 -2 0 ") Delete (0 ∷ 3 ∷ [])
unfolding digits
second_step = text.SpellsStep.delete 32 text.Gap.nothing (inl refl)
    (text.SpellsClause.literal 0 32 text.Gap.nothing (omega arith) (inl refl)
    (text.SpellsClause.literal 3 32 text.Gap.nothing (omega arith) (inl refl)
    (text.SpellsClause.end (32 ∷ []) text.Gap.nothing (32, inl refl, refl))))

-- 1 for `input or output`, else 0
failed_reads : (reads_failed {T = Unit {0}} (Err faults.Io) ≡ 1) × (reads_failed {T = Unit {0}} (Err faults.Memory) ≡ 0)
    × ((at : ℕ) → reads_failed {T = Unit {0}} (Err (faults.Text at)) ≡ 0) × (reads_failed {T = Unit {0}} (Ok tt) ≡ 0)
failed_reads = (refl, refl, (λ at. refl), refl)

-- `1 0/d 1 0/` is a proof of two steps, and begins with one that adds a clause
abbrev first_of_two : Step
first_of_two = record { kind = Add; clause = 0 ∷ [] }

abbrev second_of_two : Step
second_of_two = record { kind = Delete; clause = 0 ∷ [] }

first_text : TextSteps (codes "1 0\n") (first_of_two ∷ [])
unfolding digits
first_text = proofs.TextSteps.more {text = []} {steps = []} (codes "1 0\n") first_of_two proofs.TextSteps.none
    (text.SpellsStep.add (text.SpellsClause.literal {gap = []} {rest = codes "0\n"} {clause = []} 0 32 text.Gap.nothing
    (omega arith) (inl refl) (text.SpellsClause.end {gap = []} (10 ∷ []) text.Gap.nothing ([], All-nil _, refl))))

two_texts : TextSteps (codes "1 0\nd 1 0\n") (first_of_two ∷ second_of_two ∷ [])
unfolding digits
two_texts = proofs.TextSteps.more {text = codes "1 0\n"} {steps = first_of_two ∷ []} (codes "d 1 0\n")
    second_of_two first_text
    (text.SpellsStep.delete {gap = []} {text = codes "1 0\n"} {clause = 0 ∷ []} 32 text.Gap.nothing (inl refl)
    (text.SpellsClause.literal {gap = []} {rest = codes "0\n"} {clause = []} 0 32 text.Gap.nothing
    (omega arith) (inl refl) (text.SpellsClause.end {gap = []} (10 ∷ []) text.Gap.nothing (10, inr (inr refl), refl))))

two_steps : IsProof (codes "1 0\nd 1 0\n")
two_steps = inl (
  first_of_two ∷ second_of_two ∷ [],
  inl (
    codes "1 0\nd 1 0\n",
    codes "\n",
    two_texts,
    text.Gap.space 10 (inr (inr refl)) text.Gap.nothing,
    refl,
  ),
)

first_adds : HasAddition 1 (codes "1 0\nd 1 0\n")
first_adds = inl ([], 0 ∷ [], inl (codes "1 0\n", codes "d 1 0\n\n", first_text, refl), refl)

-- `1 0` is the first step of a text, and `c` and an LF are the end
first_step : SpellsStep true 10 (codes "1 0\n") Add (0 ∷ [])
unfolding digits
first_step = text.SpellsStep.add (text.SpellsClause.literal {gap = []} {rest = codes "0\n"} {clause = []} 0 32
    text.Gap.nothing (omega arith) (inl refl)
    (text.SpellsClause.end {gap = []} (10 ∷ []) text.Gap.nothing ([], All-nil _, refl)))

end_of_text : Gap 10 (codes "c\n")
end_of_text = text.Gap.comment [] (All-nil _) text.Gap.nothing

-- for 3 variables, 0 to 5
literals_of_three : (l : ℕ) → l < 6 → AreLiterals 3 (l ∷ [])
literals_of_three l lt = All-cons (λ (k : ℕ). variable k < 3) l [] (omega (arith, lt)) (All-nil _)

none_over_five : (l : ℕ) → AreLiterals 3 (l ∷ []) → l < 6
none_over_five l h = let lt = h 0 0 (omega arith) in omega (arith, lt)

-- with literal 2 known and no clause: `2`
one_known : (p : Propagator) → p.clauses.words.items ≡ [] → p.known.truths.items ≡ false ∷ false ∷ true ∷ false ∷ []
    → standing false p ≡ (2 ∷ []) ∷ []
one_known p none truths = rw none (rw truths refl)

-- of the clauses `2 4` and `2 5`, numbered 1 and 2, the hints 0 and 2 show the clause `2`
abbrev two_numbered : List Numbered
two_numbered = record { number = 1; literals = 2 ∷ 4 ∷ [] } ∷ record { number = 2; literals = 2 ∷ 5 ∷ [] } ∷ []

hints_show : IsShown two_numbered 3 100 (2 ∷ []) (0 ∷ 2 ∷ [])
hints_show =
    (named, (2 ∷ 4 ∷ [], omega arith, refl, inl (refl, refl), inr (1, omega arith, omega arith, but_one, second)))
  where
    named : (k : ℕ) → k < 1 → variable (get_or (2 ∷ []) k 0) < 3
    named zero h = omega arith
    named (suc k) h = absurd (omega (arith, h))

    but_one : (j : ℕ) → j < 2 → j ≢ 1 → IsIn (3 ∷ []) (negation (get_or (2 ∷ 4 ∷ []) j 0))
    but_one zero h ne = (0, omega arith, refl)
    but_one (suc zero) h ne = absurd (ne refl)
    but_one (suc (suc j)) h ne = absurd (omega (arith, h))

    none_left : (j : ℕ) → j < 2 → j ≢ 2 → IsIn (4 ∷ 3 ∷ []) (negation (get_or (2 ∷ 5 ∷ []) j 0))
    none_left zero h ne = (1, omega arith, refl)
    none_left (suc zero) h ne = (0, omega arith, refl)
    none_left (suc (suc j)) h ne = absurd (omega (arith, h))

    second : Shows two_numbered 3 97 (4 ∷ 3 ∷ []) (2 ∷ [])
    second = (2 ∷ 5 ∷ [], omega arith, refl, inr (inl (refl, refl)), inl none_left)

-- a latch with the symbol `= 4` stands for literal 4
abbrev certificate : Raw
certificate = record two_gates {
  max_var = 5;
  latches = record { lit = 10; next = 10; reset = 0 } ∷ [];
  symbols = ((Latch, 0), codes "= 4") ∷ [];
}

shared_latch : StandsFor two_gates certificate shared.symbols (Latch, 0) 4
unfolding digits
shared_latch = (inr refl, (0, omega arith, refl))

-- by the lines `MAPPING 1` and `2 5` literal 2 of the certificate is literal 5 of the model
abbrev mapped : Raw
mapped = record certificate { symbols = []; comment = Some (codes "MAPPING 1" ++ 10 ∷ codes "2 5") }

abbrev two_is_five : Pair
two_is_five = record { certificate = 2; model = 5 }

one_pair : IsMapping mapped (two_is_five ∷ [])
unfolding from_mapping digits
one_pair = record { after = []; lines_are = refl; few = lit< tt }

mapped_input : StandsFor two_gates mapped (shared.pairs (two_is_five ∷ [])) (Input, 0) 5
mapped_input = (2, refl, (two_is_five, (0, omega arith, refl), refl, refl))
