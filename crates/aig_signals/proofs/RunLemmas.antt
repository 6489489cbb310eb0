-- Runs of entries, put together from the last entry to the first.
use Rattle.std.proofs.Common.{◌≡◌, ℕ, zero, suc, ◌+◌, ◌-◌, ◌<◌, ◌≤◌, Bool, true, false, List, [], ◌∷◌, ◌++◌, length, get_or}
use Rattle.std.proofs.Common.{Some, All, inl, inr, refl, sym, ap, subst, ◌∙◌, arith}
use Rattle.std.specs.Prelude.{reverse}
use Rattle.std.proofs.lemmas.List.{reverse-append}
use Rattle.std.proofs.lemmas.List.Elements.{All-nil, All-cons, All-head, All-tail, All-weaker, All-map, All-append}
use Rattle.std.specs.List.{flat_map, find}
use Rattle.std.proofs.lemmas.Bool.{cases_Bool}
use Rattle.aig_parts.specs.declared.raw.Raw.{Raw}
use Rattle.aig_parts.specs.declared.symbols.Kind.{Kind}
use Rattle.aig_signals.specs.declared.run.Run.{Run}
use Rattle.aig_signals.specs.declared.signal.Signal.{Signal}
use Rattle.aig_signals.specs.Names.{literals_of, sections}
use Rattle.aig_signals.specs.Signals.{goes_on, put_entry, runs_from, runs_of, section_signals, signals_of, signal_of}

-- what is put at the end of a list comes first where it is turned round
pub turned_push : (xs : List Run) (run : Run) → reverse (xs ++ run ∷ []) ≡ run ∷ reverse xs
turned_push xs run = reverse-append xs (run ∷ [])

-- no entry yet
pub runs_start : (raw : Raw) (kind : Kind) (p n : ℕ) (runs : List Run) → p ≡ n → runs ≡ [] → reverse runs ≡ runs_from raw kind p (n - p)
unfolding runs_from
runs_start raw kind p n runs same is =
    let none : 0 ≡ n - p = omega (arith, same) in
    ap (λ (xs : List Run). reverse xs) is ∙ ap (runs_from raw kind p) none

-- one entry more
pub runs_more : (raw : Raw) (kind : Kind) (p q n : ℕ) (goes : Bool) (old mid new : List Run) (run : Run) → p ≡ q + 1 → p ≤ n
    → goes ≡ goes_on raw kind q → run ∷ reverse mid ≡ put_entry goes q (reverse old) → new ≡ mid ++ run ∷ []
    → reverse old ≡ runs_from raw kind p (n - p) → reverse new ≡ runs_from raw kind q (n - q)
unfolding runs_from
runs_more raw kind p q n goes old mid new run is le g put pushed h =
    ap (λ (xs : List Run). reverse xs) pushed ∙ turned_push mid run ∙ put
    ∙ ap (λ (b : Bool). put_entry b q (reverse old)) g
    ∙ ap (put_entry (goes_on raw kind q) q) (h ∙ (λ i. runs_from raw kind (is i) (n - is i)))
    ∙ ap (runs_from raw kind q) (let e : suc (n - (q + 1)) ≡ n - q = omega (arith, is) in e)

-- the run has an entry, and is within some positions
pub record IsRunIn (low high : ℕ) (run : Run) : Type 0 where
  pub from : low ≤ run.first
  pub some : run.first < run.end
  pub to : run.end ≤ high

wider : (low low' high : ℕ) (run : Run) → low' ≤ low → IsRunIn low high run → IsRunIn low' high run
wider low low' high run le h = record { from = omega (arith, le, h.from); some = h.some; to = h.to }

put_within : (b : Bool) (p high : ℕ) (runs : List Run) → p < high → All (IsRunIn (p + 1) high) runs
    → All (IsRunIn p high) (put_entry b p runs)
put_within true p high (run ∷ runs) lt h =
    let first = All-head (IsRunIn (p + 1) high) run runs h in
    All-cons (IsRunIn p high) _ runs (record { from = omega arith; some = omega (arith, first.from, first.some); to = first.to })
    (All-weaker (IsRunIn (p + 1) high) (IsRunIn p high) (λ x. wider (p + 1) p high x (omega arith)) runs (All-tail (IsRunIn (p + 1) high) run runs h))
put_within true p high [] lt h = All-cons (IsRunIn p high) _ [] (record { from = omega arith; some = omega arith; to = omega (arith, lt) }) (All-nil (IsRunIn p high))
put_within false p high [] lt h = All-cons (IsRunIn p high) _ [] (record { from = omega arith; some = omega arith; to = omega (arith, lt) }) (All-nil (IsRunIn p high))
put_within false p high (run ∷ runs) lt h =
    All-cons (IsRunIn p high) _ (run ∷ runs) (record { from = omega arith; some = omega arith; to = omega (arith, lt) })
    (All-weaker (IsRunIn (p + 1) high) (IsRunIn p high) (λ x. wider (p + 1) p high x (omega arith)) (run ∷ runs) h)

runs_within : (raw : Raw) (kind : Kind) (p n high : ℕ) → p + n ≤ high → All (IsRunIn p high) (runs_from raw kind p n)
unfolding runs_from
runs_within raw kind p zero high le = All-nil (IsRunIn p high)
runs_within raw kind p (suc n) high le =
    put_within (goes_on raw kind p) p high (runs_from raw kind (p + 1) n) (omega (arith, le))
    (runs_within raw kind (p + 1) n high (omega (arith, le)))

pub runs_in : (raw : Raw) (kind : Kind) → All (IsRunIn 0 (length (literals_of raw kind))) (runs_of raw kind)
runs_in raw kind = runs_within raw kind 0 (length (literals_of raw kind)) (length (literals_of raw kind)) (omega arith)

pub runs_some : (raw : Raw) (kind : Kind) (runs : List Run) → runs ≡ runs_of raw kind → All (λ (run : Run). run.first < run.end) runs
runs_some raw kind runs is =
    rw is (All-weaker (IsRunIn 0 (length (literals_of raw kind))) (λ (run : Run). run.first < run.end) (λ run h. h.some) (runs_of raw kind) (runs_in raw kind))

-- the entries of a signal are there
abbrev pub IsThere : Raw → Signal → Type 0
IsThere raw signal = (signal.first < signal.end) × (signal.end ≤ length (literals_of raw signal.kind))

section_there : (raw : Raw) (kind : Kind) → All (IsThere raw) (section_signals raw kind)
unfolding section_signals
section_there raw kind =
    All-map (IsThere raw) (signal_of raw kind (runs_of raw kind)) (runs_of raw kind)
    (All-weaker (IsRunIn 0 (length (literals_of raw kind))) (λ run. IsThere raw (signal_of raw kind (runs_of raw kind) run))
    (λ run h. (h.some, h.to)) (runs_of raw kind) (runs_in raw kind))

sections_there : (raw : Raw) (kinds : List Kind) → All (IsThere raw) (flat_map (section_signals raw) kinds)
sections_there raw [] = All-nil (IsThere raw)
sections_there raw (kind ∷ kinds) =
    All-append (IsThere raw) (section_signals raw kind) (flat_map (section_signals raw) kinds) (section_there raw kind) (sections_there raw kinds)

found_all : {X : Type 0} (P : X → Type 0) (test : X → Bool) (xs : List X) (x : X) → All P xs → find test xs ≡ Some x → P x
found_all P test [] x h is = absurd (cc)
found_all P test (y ∷ ys) x h is = elim (cases_Bool (test y)) [
  | inl holds ↦
      let same : Some y ≡ Some x = sym (rw holds refl) ∙ is in
      let e : y ≡ x = cc same in
      subst P e (All-head P y ys h)
  | inr fails ↦
      found_all P test ys x (All-tail P y ys h) (sym (rw fails refl) ∙ is)
]

-- each of them is
pub signal_at : (raw : Raw) (signals : List Signal) (i : ℕ) (signal : Signal) → signals ≡ signals_of raw → i < length signals
    → signal ≡ get_or signals i signal → IsThere raw signal
signal_at raw signals i signal is lt at =
    subst (IsThere raw) (sym (at ∙ ap (λ (xs : List Signal). get_or xs i signal) is))
    (sections_there raw sections i signal (subst (λ (xs : List Signal). i < length xs) is lt))

-- one that is found is
pub signal_there : (raw : Raw) (signals : List Signal) (test : Signal → Bool) (signal : Signal) → signals ≡ signals_of raw
    → find test signals ≡ Some signal → IsThere raw signal
signal_there raw signals test signal is found =
    found_all (IsThere raw) test signals signal (rw is (sections_there raw sections)) found
