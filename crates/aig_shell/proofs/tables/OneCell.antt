-- A signal has one text at a frame, and what follows for the frames at which it differs.
use Rattle.std.proofs.Common.{◌≡◌, ◌≢◌, ℕ, ◌+◌, Bool, true, false, not, List, [], ◌∷◌, map, Some, inl, inr, refl, sym}
use Rattle.std.proofs.Common.{ap, ap₂, ◌∙◌, subst, arith}
use Rattle.std.specs.List.{AllZip}
use Rattle.std.specs.Str.{bytes_eq}
use Rattle.std.proofs.lemmas.Bool.{cases_lt, false≢true}
use Rattle.std.proofs.lemmas.Slice.Eq.{bytes_eq-Decides}
use Rattle.aig_parts.specs.declared.ternary.Tern.{Tern}
use Rattle.aig_base.specs.Circuit.{IsCircuit}
use Rattle.aig_base.specs.Value.{start_of}
use Rattle.aig_base.proofs.values.UniqueValue.{unique}
use Rattle.aig_bench.specs.BenchState.{CircuitAndRows, HasValue}
use Rattle.aig_signals.specs.declared.signal.Signal.{Signal}
use Rattle.aig_signals.specs.Lookup.{signal_literals}
use Rattle.aig_signals.specs.Value.{table_text}
use Rattle.aig_shell.specs.Compared.{AreSame}
use Rattle.aig_shell.specs.Tables.{IsCell, IsCellOrDot, IsSignalCell}

-- two texts are the same, or they are not
pub texts_same : (a b : List ℕ) (r : Bool) → r ≡ bytes_eq a b → r ≡ true → a ≡ b
texts_same a b r is h = (bytes_eq-Decides a b).0 (sym is ∙ h)

pub texts_differ : (a b : List ℕ) (r : Bool) → r ≡ bytes_eq a b → r ≡ false → a ≢ b
texts_differ a b r is h e = false≢true (sym h ∙ is ∙ (bytes_eq-Decides a b).1 e)

module _ (p : CircuitAndRows) (circuit : IsCircuit p.circuit) where
  values_one : (t : ℕ) (literals : List ℕ) (vs ws : List Tern) → AllZip (HasValue p t) literals vs → AllZip (HasValue p t) literals ws
      → vs ≡ ws
  values_one t [] [] [] h k = refl
  values_one t [] [] (w ∷ ws) h k = absurd k
  values_one t [] (v ∷ vs) ws h k = absurd h
  values_one t (l ∷ literals) [] ws h k = absurd h
  values_one t (l ∷ literals) (v ∷ vs) [] h k = absurd k
  values_one t (l ∷ literals) (v ∷ vs) (w ∷ ws) h k =
      ap₂ (λ (x : Tern) (xs : List Tern). x ∷ xs) (unique p.circuit (start_of p.circuit) p.rows circuit.sound h.0 k.0)
      (values_one t literals vs ws h.1 k.1)

  cell_one : (literals : List ℕ) (t : ℕ) (a b : List ℕ) → IsCell p literals t a → IsCell p literals t b → a ≡ b
  cell_one literals t a b (bits, (values, each, are), is) (bits', (values', each', are'), is') =
      is ∙ ap table_text (are ∙ ap (map Some) (values_one t literals values values' each each') ∙ sym are') ∙ sym is'

  pub text_one : (literals : List ℕ) (t : ℕ) (a b : List ℕ) → IsCellOrDot p literals t a → IsCellOrDot p literals t b → a ≡ b
  text_one literals t a b (inl h) (inl k) = cell_one literals t a b h.1 k.1
  text_one literals t a b (inl h) (inr k) = absurd (omega (arith, h.0, k.0))
  text_one literals t a b (inr h) (inl k) = absurd (omega (arith, h.0, k.0))
  text_one literals t a b (inr h) (inr k) = h.1 ∙ sym k.1

-- a frame more at which the signal is the same
pub same_more : (now was : CircuitAndRows) (signal : Signal) (first t : ℕ) (a b : List ℕ) → IsCircuit now.circuit → IsCircuit was.circuit
    → IsSignalCell now signal t a → IsSignalCell was signal t b → a ≡ b → AreSame now was signal first t
    → AreSame now was signal first (t + 1)
same_more now was signal first t a b n w here there same before u x y from to h k = elim (cases_lt u t) [
  | inl lt ↦ before u x y from lt h k
  | inr le ↦
      let e : u ≡ t = omega (arith, le, to) in
      text_one now n (signal_literals now.circuit signal) t x a (subst (λ v. IsSignalCell now signal v x) e h) here
      ∙ same ∙ text_one was w (signal_literals was.circuit signal) t b y there (subst (λ v. IsSignalCell was signal v y) e k)
]
