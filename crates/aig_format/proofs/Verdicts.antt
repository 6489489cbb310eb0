-- What the reader answers.
use Rattle.std.proofs.Common.{◌≡◌, ◌≢◌, ℕ, List, Result, Ok, Err, refl, sym, ap, subst, ◌∙◌, arith}
use Rattle.std.specs.Prelude.{IfOk, IfErr}
use Rattle.aig_parts.specs.declared.raw.Raw.{Raw}
use Rattle.aig_parts.specs.declared.fault.Fault.{Fault}
use Rattle.aig_parts.specs.declared.fault.Fault.TheVariants as faults
use Rattle.aig_base.specs.FirstFault.{fault_order, IsFirstFault}
use Rattle.aig_format.specs.Spells.{Spells, HasWrongCounts}
use Rattle.aig_format.specs.state.Reading.{text, limit}
use Rattle.aig_format.specs.state.ReadingFile.{FileRefusal, token, counts, file_at}
use Rattle.aig_format.specs.state.ReaderAnswers.{FileFails}
use Rattle.aig_format.specs.FileReading.{Raises, IsOfParts, AnswersParts, IsRefused, IsReading}
use Rattle.aig_format.proofs.FileLaws.{is_read, file_takes, file_again, wrong_takes, wrong_again, one_reading}

refused : FileRefusal → Result Raw FileRefusal
refused r = Err r

text_is_no_count : refused (token text) ≡ refused counts → ⊥
unfolding refused
text_is_no_count e = cc

limit_is_no_count : refused (token limit) ≡ refused counts → ⊥
unfolding refused
limit_is_no_count e = cc

read_is_no_refusal : (raw : Raw) (r : FileRefusal) → is_read raw ≡ refused r → ⊥
unfolding refused
read_is_no_refusal raw r e = cc

abbrev pub failed_by : Fault → Result Raw Fault
failed_by e = Err e

-- ---- where nothing was read

pub err_only : (bytes : List ℕ) (e : Fault) → FileFails e (file_at bytes) → e ≢ faults.Io → (raw : Raw)
    → Spells bytes raw → AnswersParts (Err e) raw
unfolding refused
err_only bytes (faults.Text at) h io raw s =
    absurd (read_is_no_refusal raw (token text) (sym (file_again bytes raw s) ∙ h))
err_only bytes faults.Limit h io raw s =
    absurd (read_is_no_refusal raw (token limit) (sym (file_again bytes raw s) ∙ h))
err_only bytes faults.Counts h io raw s = absurd (read_is_no_refusal raw counts (sym (file_again bytes raw s) ∙ h))
err_only bytes faults.Memory h io raw s = λ other. absurd (other refl)
err_only bytes faults.Io h io raw s = absurd (io refl)
err_only bytes fault h io raw s = absurd h

pub err_counts : (bytes : List ℕ) (e : Fault) → FileFails e (file_at bytes) → e ≡ faults.Counts → HasWrongCounts bytes
err_counts bytes e h is = wrong_takes bytes (subst (λ (f : Fault). FileFails f (file_at bytes)) is h)

pub err_wrong : (bytes : List ℕ) (e : Fault) → FileFails e (file_at bytes) → e ≢ faults.Io → HasWrongCounts bytes
    → IsRefused (Err e) faults.Counts
unfolding refused
err_wrong bytes (faults.Text at) h io w = λ other. absurd (text_is_no_count (sym h ∙ wrong_again bytes w))
err_wrong bytes faults.Limit h io w = λ other. absurd (limit_is_no_count (sym h ∙ wrong_again bytes w))
err_wrong bytes faults.Counts h io w = λ other. refl
err_wrong bytes faults.Memory h io w = λ other. absurd (other refl)
err_wrong bytes faults.Io h io w = absurd (io refl)
err_wrong bytes fault h io w = absurd h

pub err_of_parts : (bytes : List ℕ) (e : Fault) → FileFails e (file_at bytes) → IsOfParts e
    → (raw : Raw) × Spells bytes raw × IsFirstFault raw e
err_of_parts bytes (faults.Text at) h of_parts = absurd (omega (arith, of_parts.0))
err_of_parts bytes faults.Limit h of_parts = absurd (omega (arith, of_parts.0))
err_of_parts bytes faults.Counts h of_parts = absurd (omega (arith, of_parts.0))
err_of_parts bytes faults.Memory h of_parts = absurd (omega (arith, of_parts.1))
err_of_parts bytes faults.Io h of_parts = absurd (omega (arith, of_parts.1))
err_of_parts bytes fault h of_parts = absurd h

fault_is : (e f : Fault) → failed_by e ≡ failed_by f → e ≡ f
fault_is e f h = cc

-- of an answer with more in it too
pub failed_other : {X : Type 0} (e : Fault) → ◌≢◌ {A = Result X Fault} (Err e) (Err faults.Io)
    → (failed_by e ≢ failed_by faults.Io)
failed_other e other is = other (ap (λ (f : Fault). Err f) (fault_is e faults.Io is))

pub err_reading : (bytes : List ℕ) (e : Fault) → FileFails e (file_at bytes) → (failed_by e ≢ failed_by faults.Io)
    → IsReading bytes (Err e)
err_reading bytes e h other =
    let io : e ≢ faults.Io = λ is. other (ap failed_by is) in
    record {
      found = tt;
      only = err_only bytes e h io;
      of_parts = err_of_parts bytes e h;
      counts = λ is. err_counts bytes e h (fault_is e faults.Counts is);
      wrong = err_wrong bytes e h io;
    }

-- ---- where parts were read

pub ok_found : (bytes : List ℕ) (raw : Raw) (r : Result Raw Fault) → file_at bytes ≡ Ok raw
    → IfOk r (λ circuit. circuit ≡ raw) → IfOk r (λ circuit. Spells bytes circuit)
ok_found bytes raw (Ok circuit) h is = subst (λ (p : Raw). Spells bytes p) (sym is) (file_takes bytes raw h)
ok_found bytes raw (Err e) h is = tt

pub ok_only : (bytes : List ℕ) (raw : Raw) (r : Result Raw Fault) → file_at bytes ≡ Ok raw
    → IfOk r (λ circuit. circuit ≡ raw) → IfErr r (λ fault. fault ≢ faults.Memory → IsFirstFault raw fault)
    → (p : Raw) → Spells bytes p → AnswersParts r p
ok_only bytes raw (Ok circuit) h is first p s = is ∙ one_reading bytes raw p (file_takes bytes raw h) s
ok_only bytes raw (Err e) h is first p s =
    λ other. subst (λ (q : Raw). IsFirstFault q e) (one_reading bytes raw p (file_takes bytes raw h) s) (first other)

pub ok_of_parts : (bytes : List ℕ) (raw : Raw) (r : Result Raw Fault) → file_at bytes ≡ Ok raw
    → IfErr r (λ fault. fault ≢ faults.Memory → IsFirstFault raw fault)
    → IfErr r (λ fault. IsOfParts fault → (p : Raw) × Spells bytes p × IsFirstFault p fault)
ok_of_parts bytes raw (Ok circuit) h first = tt
ok_of_parts bytes raw (Err e) h first = λ of_parts. (
  raw,
  file_takes bytes raw h,
  first (λ memory. (let n = ap fault_order memory in absurd (omega (arith, n, of_parts.1)))),
)

pub ok_wrong : (bytes : List ℕ) (raw : Raw) (r : Result Raw Fault) → file_at bytes ≡ Ok raw → HasWrongCounts bytes
    → IsRefused r faults.Counts
unfolding refused
ok_wrong bytes raw r h w = absurd (read_is_no_refusal raw counts (sym h ∙ wrong_again bytes w))

no_counts : (raw : Raw) (r : Result Raw Fault) → IfErr r (λ fault. fault ≢ faults.Memory → IsFirstFault raw fault)
    → r ≡ failed_by faults.Counts → ⊥
no_counts raw (Ok circuit) first is = cc
no_counts raw (Err e) first is =
    let e_is : e ≡ faults.Counts = cc in
    let other : faults.Counts ≢ faults.Memory = λ same. omega (arith, ap fault_order same) in
    let fault = subst (λ (f : Fault). f ≢ faults.Memory → IsFirstFault raw f) e_is first in (fault other).applies

pub ok_reading : (bytes : List ℕ) (raw : Raw) (r : Result Raw Fault) → file_at bytes ≡ Ok raw
    → IfOk r (λ circuit. circuit ≡ raw) → IfErr r (λ fault. fault ≢ faults.Memory → IsFirstFault raw fault)
    → IsReading bytes r
ok_reading bytes raw r h is first = record {
  found = ok_found bytes raw r h is;
  only = ok_only bytes raw r h is first;
  of_parts = ok_of_parts bytes raw r h first;
  counts = λ same. absurd (no_counts raw r first same);
  wrong = ok_wrong bytes raw r h;
}

-- where no call failed, the answer is not that one did
pub never_io : (r : Result Raw Fault) (n : ℕ) → Raises r n n → r ≢ failed_by faults.Io
never_io (Ok circuit) n h is = cc
never_io (Err faults.Io) n h is = absurd (omega (arith, h))
never_io (Err fault) n h is = cc
