-- Formulas over the part of a circuit that is read.
use Rattle.std.proofs.Common.{◌≡◌, ℕ, ◌+◌, ◌<◌, Bool, true, false, List, length, Some, slice_get, refl, sym, ◌∙◌, ap, subst, arith}
use Rattle.std.specs.Prelude.{Result, Ok, Err, IfErr, IfOk, OnOk}
use Rattle.std.proofs.lemmas.Option.{slice_get_within}
use Rattle.aig_parts.specs.Literal.{variable}
use Rattle.aig_parts.specs.declared.raw.Raw.{Raw}
use Rattle.aig_base.specs.Circuit.{IsCircuit}
use Rattle.aig_base.specs.Part as read
use Rattle.aig_base.specs.Part.{AreReadMarks, IsRead, TestsRead, part}
use Rattle.aig_base.specs.Sections.{IsDefined}
use Rattle.aig_base.proofs.circuits.EachUse.{each_use}
use Rattle.aig_base.proofs.lists.Gets.{All-at}
use Rattle.aig_unroll.specs.Unrollable.{FitsLimits}
use Rattle.aig_cnf.specs.Alive.{always_bad}
use Rattle.aig_cnf.specs.Answers.{HasFormula, RefusesFormula}
use Rattle.aig_cnf.specs.Formula.{Cnf, IsFormulaOf}
use Rattle.aig_cnf.specs.Query.{depth, depth_of, last, subject}
use Rattle.aig_cnf.specs.ReadFormula.{HasReadAliveFormula, HasReadFormula, IsReadAliveOf, IsReadOf, PartFits}
use Rattle.aig_cnf.specs.ReadFormula.{ReadCnf, RefusesReadAlive, RefusesReadFormula, marked, of_part}
use Rattle.aig_cnf.specs.declared.fault.CnfFault.{CnfFault}
use Rattle.aig_cnf.specs.declared.fault.CnfFault.TheVariants as faults
use Rattle.aig_cnf.specs.declared.query.Goal.{Goal}
use Rattle.aig_cnf.specs.declared.query.Goal.TheVariants as asked
use Rattle.aig_cnf.specs.declared.query.Query.{Query}
use Rattle.aig_cnf.specs.state.Over.{IsOver, OverFits, RefusesOver}

-- ---- the part is the same for all tests of what is read

same_bool : (a b : Bool) → (a ≡ true → b ≡ true) → (b ≡ true → a ≡ true) → a ≡ b
same_bool true b f g = sym (f refl)
same_bool false true f g = g refl
same_bool false false f g = refl

pub same_part : (raw : Raw) (bad : ℕ) (f g : ℕ → Bool) → TestsRead raw bad f → TestsRead raw bad g → part raw bad f ≡ part raw bad g
same_part raw bad f g at is =
    let same : f ≡ g = λ i v. each v i in ap (part raw bad) same
  where
    each : (v : ℕ) → f v ≡ g v
    each v = same_bool (f v) (g v) (λ e. (is v).1 ((at v).0 e)) (λ e. (at v).1 ((is v).0 e))

-- a bad literal is defined
pub bad_is_defined : (raw : Raw) → IsCircuit raw → (p l : ℕ) → slice_get raw.bad p ≡ Some l → IsDefined raw (variable l)
bad_is_defined raw circuit p l at =
    let uses = each_use (λ m. IsDefined raw (variable m)) raw circuit.sound.defined in
    All-at (λ m. IsDefined raw (variable m)) raw.bad p l uses.bad at

-- ---- the formula over the part that is read for a bad literal

abbrev over : Goal → ℕ → Query
over goal k = record { goal = goal; frames = k; property = 0 }

pub is_over : (raw small new : Raw) (bad : ℕ) (goal : Goal) (k : ℕ) (marks borrowed : List Bool) (cnf : Cnf)
    → AreReadMarks raw bad marks → borrowed ≡ marks → small ≡ part raw bad (marked borrowed) → new ≡ subject goal small
    → IsFormulaOf small (over goal k) cnf → HasFormula small (over goal k)
    → IsOver raw bad goal k (record { cnf = cnf; small = new; marks = marks })
is_over raw small new bad goal k marks borrowed cnf are same is started formula has =
    let e : small ≡ part raw bad (marked marks) = is ∙ ap (λ (bs : List Bool). part raw bad (marked bs)) same in
    record {
      marks = are;
      small = started ∙ ap (subject goal) e;
      cnf = subst (λ (r : Raw). IsFormulaOf r (over goal k) cnf) e formula;
      fits = subst (λ (r : Raw). FitsLimits (subject goal r) (depth_of goal k)) e has.limits;
    }

pub refuses_over : (raw small : Raw) (bad : ℕ) (goal : Goal) (k : ℕ) (marks borrowed : List Bool) (fault : CnfFault)
    → 0 < k → AreReadMarks raw bad marks → borrowed ≡ marks → small ≡ part raw bad (marked borrowed)
    → RefusesFormula small (over goal k) fault → RefusesOver raw bad goal k fault
refuses_over raw small bad goal k marks borrowed faults.NoFrames some are same is h = absurd (omega (arith, some, h))
refuses_over raw small bad goal k marks borrowed faults.Property some are same is h =
    let one = ap (λ (r : Raw). length r.bad) is in absurd (omega (arith, one, h.1))
refuses_over raw small bad goal k marks borrowed faults.Limit some are same is h =
    λ (test, exact, fits).
    h.2 (subst (λ (r : Raw). FitsLimits (subject goal r) (depth_of goal k))
    (same_part raw bad test (marked marks) exact are.exact
    ∙ sym (is ∙ ap (λ (bs : List Bool). part raw bad (marked bs)) same)) fits)
refuses_over raw small bad goal k marks borrowed faults.Memory some are same is h = tt

-- ---- that of a query

module _ (raw : Raw) (query : Query) (bad : ℕ) (some : 0 < query.frames) (bad_is : slice_get raw.bad query.property ≡ Some bad) where
  inside : query.property < length raw.bad
  inside = slice_get_within raw.bad query.property bad bad_is

  pub read_of : (read : ReadCnf) → IsOver raw bad query.goal query.frames read → IsReadOf raw query read
  read_of read is = record { bad = bad; bad_is = bad_is; marks = is.marks; small = is.small; cnf = is.cnf }

  pub has_read : (read : ReadCnf) → IsOver raw bad query.goal query.frames read → HasReadFormula raw query
  has_read read is = record {
    frames = some;
    property = inside;
    limits = record { bad = bad; bad_is = bad_is; test = marked read.marks; exact = is.marks.exact; fits = is.fits };
  }

  pub refuses_read : (fault : CnfFault) → RefusesOver raw bad query.goal query.frames fault → RefusesReadFormula raw query fault
  refuses_read faults.NoFrames h = absurd h
  refuses_read faults.Property h = absurd h
  refuses_read faults.Limit h = (
    some,
    inside,
    λ (fits : PartFits raw query).
        let e : Some bad ≡ Some fits.bad = sym bad_is ∙ fits.bad_is in
        let same : fits.bad ≡ bad = cc in
        h (subst (λ b. OverFits raw b query.goal query.frames) same (fits.test, fits.exact, fits.fits)),
  )
  refuses_read faults.Memory h = (some, inside)

  pub ok_read : (r : Result ReadCnf CnfFault) → IfOk r (IsOver raw bad query.goal query.frames) → IfOk r (IsReadOf raw query)
  ok_read (Ok read) h = read_of read h
  ok_read (Err fault) h = tt

  pub ok_has : (r : Result ReadCnf CnfFault) → IfOk r (IsOver raw bad query.goal query.frames) → OnOk r (HasReadFormula raw query)
  ok_has (Ok read) h = has_read read h
  ok_has (Err fault) h = tt

  pub err_read : (r : Result ReadCnf CnfFault) → IfErr r (RefusesOver raw bad query.goal query.frames)
      → IfErr r (RefusesReadFormula raw query)
  err_read (Ok read) h = tt
  err_read (Err fault) h = refuses_read fault h

-- the limits are those of the part that the marks say
pub part_fits : (raw : Raw) (query : Query) {read : ReadCnf} (is : IsReadOf raw query read) → PartFits raw query
    → FitsLimits (subject query.goal (part raw is.bad (marked read.marks))) (depth (of_part query))
part_fits raw query {read} is has =
    let e : Some has.bad ≡ Some is.bad = sym has.bad_is ∙ is.bad_is in
    let same : has.bad ≡ is.bad = cc in
    subst (λ (r : Raw). FitsLimits (subject query.goal r) (depth query))
    (same_part raw has.bad has.test (marked read.marks) has.exact
    (subst (λ b. TestsRead raw b (marked read.marks)) (sym same) is.marks.exact)
    ∙ ap (λ b. part raw b (marked read.marks)) same) has.fits

-- ---- that of a run that keeps the constraints

to_always : (raw : Raw) (v : ℕ) → IsRead raw 1 v → IsRead (always_bad raw) 1 v
to_always raw _ read.property = read.property
to_always raw _ (read.constraint c l at) = read.constraint c l at
to_always raw _ (read.first q g at h) = read.first q g at (to_always raw _ h)
to_always raw _ (read.second q g at h) = read.second q g at (to_always raw _ h)
to_always raw _ (read.next p x at h) = read.next p x at (to_always raw _ h)

from_always : (raw : Raw) (v : ℕ) → IsRead (always_bad raw) 1 v → IsRead raw 1 v
from_always raw _ read.property = read.property
from_always raw _ (read.constraint c l at) = read.constraint c l at
from_always raw _ (read.first q g at h) = read.first q g at (from_always raw _ h)
from_always raw _ (read.second q g at h) = read.second q g at (from_always raw _ h)
from_always raw _ (read.next p x at h) = read.next p x at (from_always raw _ h)

-- the constraints read the same there
pub tests_always : (raw : Raw) (test : ℕ → Bool) → TestsRead raw 1 test → TestsRead (always_bad raw) 1 test
tests_always raw test exact = λ v. (λ e. to_always raw v ((exact v).0 e), λ is. (exact v).1 (from_always raw v is))

pub tests_back : (raw : Raw) (test : ℕ → Bool) → TestsRead (always_bad raw) 1 test → TestsRead raw 1 test
tests_back raw test exact = λ v. (λ e. from_always raw v ((exact v).0 e), λ is. (exact v).1 (to_always raw v is))

over_always : (raw : Raw) (k : ℕ) (read : ReadCnf) → IsOver raw 1 asked.Last k read → IsOver (always_bad raw) 1 asked.Last k read
over_always raw k read is = record {
  marks = record { size = is.marks.size; exact = tests_always raw (marked read.marks) is.marks.exact };
  small = is.small;
  cnf = is.cnf;
  fits = is.fits;
}

module _ (raw : Raw) (k bad : ℕ) (some : 0 < k) (bad_is : bad ≡ 1) where
  pub alive_of : (read : ReadCnf) → IsOver raw bad asked.Last k read → IsReadAliveOf raw k read
  alive_of read is =
      read_of (always_bad raw) (last k 0) 1 some refl read
      (over_always raw k read (subst (λ b. IsOver raw b asked.Last k read) bad_is is))

  pub has_alive : (read : ReadCnf) → IsOver raw bad asked.Last k read → HasReadAliveFormula raw k
  has_alive read is =
      has_read (always_bad raw) (last k 0) 1 some refl read
      (over_always raw k read (subst (λ b. IsOver raw b asked.Last k read) bad_is is))

  pub refuses_alive : (fault : CnfFault) → RefusesOver raw bad asked.Last k fault → RefusesReadAlive raw k fault
  refuses_alive faults.NoFrames h = absurd h
  refuses_alive faults.Property h = absurd h
  refuses_alive faults.Limit h =
      refuses_read (always_bad raw) (last k 0) 1 some refl faults.Limit
      (λ (test, exact, fits).
      h (subst (λ b. OverFits raw b asked.Last k) (sym bad_is) (test, tests_back raw test exact, fits)))
  refuses_alive faults.Memory h = (some, omega arith)

  pub ok_alive : (r : Result ReadCnf CnfFault) → IfOk r (IsOver raw bad asked.Last k) → IfOk r (IsReadAliveOf raw k)
  ok_alive (Ok read) h = alive_of read h
  ok_alive (Err fault) h = tt

  pub ok_has_alive : (r : Result ReadCnf CnfFault) → IfOk r (IsOver raw bad asked.Last k) → OnOk r (HasReadAliveFormula raw k)
  ok_has_alive (Ok read) h = has_alive read h
  ok_has_alive (Err fault) h = tt

  pub err_alive : (r : Result ReadCnf CnfFault) → IfErr r (RefusesOver raw bad asked.Last k) → IfErr r (RefusesReadAlive raw k)
  err_alive (Ok read) h = tt
  err_alive (Err fault) h = refuses_alive fault h
