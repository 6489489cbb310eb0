-- What the checker keeps, as formulas.
use Rattle.std.proofs.Common.{◌≡◌, ℕ, Bool, true, false, List, [], ◌∷◌, refl, sym, subst, ◌∙◌}
use Rattle.std.specs.List.{list_all}
use Rattle.std.specs.Prelude.{IsTrue, IfOk, Result, Ok, Err}
use Rattle.std.proofs.lemmas.Bool.{false≢true, and_parts, and_from}
use Rattle.aig_bytes.specs.declared.fault.Memory.{Memory}
use Rattle.aig_sat.specs.declared.checker.checker.Checker.{Checker}
use Rattle.aig_sat.specs.checker.Basis.{Basis}
use Rattle.aig_sat.specs.checker.Consequence.{Follows, IsUnsatisfiable, KeepsSatisfiable}
use Rattle.aig_sat.specs.checker.Clause.{meets, Satisfies}
use Rattle.aig_sat.specs.checker.Holding.{Holds, KeepsHolding, KeepsMeeting, KeepsSomeHolding}
use Rattle.aig_sat.specs.checker.Standing.{standing}
use Rattle.aig_sat.proofs.checking.StandingLemmas.{holds_state, state_holds}

abbrev pub clauses_of : Basis → List (List ℕ)
clauses_of b = b.clauses

-- the formula of a checker
abbrev pub formula : Checker → List (List ℕ)
formula c = standing c.refuted c.propagator

satisfied_holds : (v : ℕ → Bool) (c : Checker) → Satisfies v (formula c) → Holds v c
satisfied_holds v c h =
    let parts = state_holds v c.refuted c.propagator h in record { open_still = parts.0; agrees = parts.1 }

holds_satisfied : (v : ℕ → Bool) (c : Checker) → Holds v c → Satisfies v (formula c)
holds_satisfied v c h = holds_state v c.refuted c.propagator h.open_still h.agrees

pub follows_new : (c : Checker) → ((v : ℕ → Bool) → Holds v c) → Follows [] (formula c)
follows_new c all v _ = holds_satisfied v c (all v)

pub follows_meeting : (clause : List ℕ) (old new : Checker) → KeepsMeeting clause old new
    → Follows (clause ∷ formula old) (formula new)
follows_meeting clause old new keeps v h =
    let parts = and_parts (meets v clause) (list_all (meets v) (formula old)) h in
    holds_satisfied v new (keeps v (satisfied_holds v old parts.1) parts.0)

pub follows_holding : (old new : Checker) → KeepsHolding old new → Follows (formula old) (formula new)
follows_holding old new keeps v h = holds_satisfied v new (keeps v (satisfied_holds v old h))

pub follows_step : (clause : List ℕ) (old : Checker) → ((v : ℕ → Bool) → Holds v old → meets v clause ≡ true)
    → Follows (formula old) (clause ∷ [])
follows_step clause old implied v h = and_from (meets v clause) true (implied v (satisfied_holds v old h)) refl

pub keeps_holding : (old new : Checker) → KeepsSomeHolding old new → KeepsSatisfiable (formula old) (formula new)
keeps_holding old new keeps v h = let (w, holds) = keeps v (satisfied_holds v old h) in (w, holds_satisfied w new holds)

pub unsatisfiable : (c : Checker) → c.refuted ≡ true → IsUnsatisfiable (formula c)
unsatisfiable c yes_refuted v h = false≢true (sym (satisfied_holds v c h).open_still ∙ yes_refuted)

pub step_pulled : (r : Result Bool Memory) (clause : List ℕ) (old : Checker) (clauses : List (List ℕ)) → formula old ≡ clauses
    → IfOk r (λ taken. IsTrue taken → (v : ℕ → Bool) → Holds v old → meets v clause ≡ true)
    → IfOk r (λ taken. IsTrue taken → Follows clauses (clause ∷ []))
step_pulled (Ok b) clause old clauses e h = λ t. subst (λ (x : List (List ℕ)). Follows x (clause ∷ [])) e (follows_step clause old (h t))
step_pulled (Err f) clause old clauses e h = h

pub refused_pulled : (r : Result Bool Memory) (old new : Checker) (clauses : List (List ℕ)) → formula old ≡ clauses
    → IfOk r (λ taken. taken ≡ false → KeepsHolding old new) → IfOk r (λ taken. taken ≡ false → Follows clauses (formula new))
refused_pulled (Ok b) old new clauses e h =
    λ no. subst (λ (x : List (List ℕ)). Follows x (formula new)) e (follows_holding old new (h no))
refused_pulled (Err f) old new clauses e h = h
