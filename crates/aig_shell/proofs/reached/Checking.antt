-- What `check` says, as text.
use Rattle.std.proofs.Common.{◌≡◌, ℕ, suc, ◌+◌, List, [], ◌∷◌, ◌++◌, Bool, true, false, length, refl, sym, ap, ◌∙◌, subst}
use Rattle.std.proofs.Common.{append_assoc, codes, decimal, Option, None, Some, IfNone, IfSome, arith}
use Rattle.std.proofs.lemmas.List.{append-nil}
use Rattle.aig_parts.specs.declared.raw.Raw.{Raw}
use Rattle.aig_parts.specs.declared.symbols.Kind.TheVariants.{Constraint, Latch}
use Rattle.aig_parts.specs.declared.ternary.Tern.{Tern}
use Rattle.aig_base.specs.Value.{start_of}
use Rattle.aig_bench.specs.BenchState.{CircuitAndRows}
use Rattle.aig_signals.specs.Names.{first_name}
use Rattle.aig_values.specs.Characters.{character}
use Rattle.aig_shell.specs.declared.answers.check.Broken.{Broken}
use Rattle.aig_shell.specs.declared.answers.check.Standing.{Standing}
use Rattle.aig_shell.specs.declared.session.Session.{Session}
use Rattle.aig_shell.specs.Answers.{AreStandings, IsChecked, is_condition, line_if, property_name, reasons_text}
use Rattle.aig_shell.specs.Answers.{standing_line, standings_text}
use Rattle.aig_shell.specs.Reasons.{AreConstraints, AreStarts, IsFirstWrong, broken_text, no_property_text, start_text}
use Rattle.aig_shell.specs.Session.{IsIn, own_circuit}
use Rattle.aig_shell.specs.Standing.{IsStanding, StartsRight, standing_text}
use Rattle.aig_shell.specs.State.{SessionState, circuit_of}

-- a text that grew, and grew again
pub grown : (t0 t1 t2 a b : List ℕ) → t1 ≡ t0 ++ a → t2 ≡ t1 ++ b → t2 ≡ t0 ++ (a ++ b)
grown t0 t1 t2 a b e f = f ∙ ap (λ (z : List ℕ). z ++ b) e ∙ append_assoc t0 a b

-- the line of a constraint
pub broken_added : (raw named : Raw) (b : Broken) (old mid new letter : List ℕ) (frame : ℕ) → named ≡ raw
    → letter ≡ character b.value ∷ [] → frame ≡ b.frame → mid ≡ old ++ first_name named Constraint b.constraint
    → new ≡ mid ++ (codes " is " ++ (letter ++ (codes " at " ++ (decimal frame ++ 10 ∷ []))))
    → new ≡ old ++ broken_text raw (Some b)
broken_added raw named b old mid new letter frame same said at name rest =
    grown old mid new (first_name raw Constraint b.constraint)
    (codes " is " ++ character b.value ∷ (codes " at " ++ (decimal b.frame ++ 10 ∷ [])))
    (name ∙ ap (λ (r : Raw). old ++ first_name r Constraint b.constraint) same)
    (rest ∙ ap (λ (z : List ℕ). mid ++ (codes " is " ++ (z ++ (codes " at " ++ (decimal frame ++ 10 ∷ []))))) said
    ∙ ap (λ (n : ℕ). mid ++ (codes " is " ++ character b.value ∷ (codes " at " ++ (decimal n ++ 10 ∷ [])))) at)

-- the line of a latch
pub start_added : (raw named : Raw) (k : ℕ) (w : Tern) (old mid new letter : List ℕ) → named ≡ raw
    → letter ≡ character w ∷ [] → mid ≡ old ++ first_name named Latch k
    → new ≡ mid ++ (codes " starts at " ++ (letter ++ codes ", not at its reset\n")) → new ≡ old ++ start_text raw (Some (k, w))
start_added raw named k w old mid new letter same said name rest =
    grown old mid new (first_name raw Latch k) (codes " starts at " ++ character w ∷ codes ", not at its reset\n")
    (name ∙ ap (λ (r : Raw). old ++ first_name r Latch k) same)
    (rest ∙ ap (λ (z : List ℕ). mid ++ (codes " starts at " ++ (z ++ codes ", not at its reset\n"))) said)

-- what follows the lines of the properties
pub finished : (raw named : Raw) (old t0 t1 t2 t3 lines last : List ℕ) (broken : Option Broken) (wrong : Option (ℕ × Tern)) → named ≡ raw
    → (bad : List ℕ) → bad ≡ named.bad → old ≡ [] → t0 ≡ old ++ lines → t1 ≡ t0 ++ last → t2 ≡ t1 ++ no_property_text bad
    → t3 ≡ t2 ++ (broken_text raw broken ++ start_text raw wrong) → t3 ≡ lines ++ (last ++ reasons_text raw broken wrong)
finished raw named old t0 t1 t2 t3 lines last broken wrong same bad are none d e f g =
    grown (lines ++ last) t2 t3 (no_property_text raw.bad) (broken_text raw broken ++ start_text raw wrong)
    (f ∙ ap (λ (z : List ℕ). z ++ no_property_text bad) (e ∙ ap (λ (z : List ℕ). z ++ last) (d ∙ ap (λ (z : List ℕ). z ++ lines) none))
    ∙ ap (λ (ls : List ℕ). (lines ++ last) ++ no_property_text ls) (are ∙ ap (λ (r : Raw). r.bad) same)) g
    ∙ append_assoc lines last (reasons_text raw broken wrong)

-- what is found of starts
pub starts : (session : Session) (wrong : Option (ℕ × Tern)) → let start = start_of session.run.bench.pair.circuit in
    IfSome wrong (λ found. IsFirstWrong (own_circuit session) start found.0 found.1)
    → IfNone wrong (StartsRight (own_circuit session) start) → AreStarts (own_circuit session) start wrong
starts session None some none = none
starts session (Some (k, w)) some none = some

-- the line of property k among those that are asked for
abbrev pub line_at : Raw → Bool → ℕ → Standing → List ℕ
line_at raw conditions k y = line_if conditions (is_condition raw k) (standing_line raw k y)

pub standings_push : (raw : Raw) (conditions : Bool) (k : ℕ) (xs : List Standing) (y : Standing)
    → standings_text raw conditions k (xs ++ y ∷ []) ≡ standings_text raw conditions k xs ++ line_at raw conditions (k + length xs) y
unfolding standings_text
standings_push raw conditions k [] y =
    let e : k ≡ k + 0 = omega arith in
    append-nil (line_at raw conditions k y) ∙ ap (λ (n : ℕ). line_at raw conditions n y) e
standings_push raw conditions k (x ∷ xs) y =
    let e : (k + 1) + length xs ≡ k + suc (length xs) = omega arith in
    ap (λ (z : List ℕ). line_at raw conditions k x ++ z)
    (standings_push raw conditions (k + 1) xs y
    ∙ ap (λ (n : ℕ). standings_text raw conditions (k + 1) xs ++ line_at raw conditions n y) e)
    ∙ sym (append_assoc (line_at raw conditions k x) (standings_text raw conditions (k + 1) xs)
    (line_at raw conditions (k + suc (length xs)) y))

module _ (raw : Raw) (p : CircuitAndRows) where
  pub standings_size : (k : ℕ) (ls : List ℕ) (xs : List Standing) → AreStandings raw p k ls xs → length xs ≡ length ls
  unfolding AreStandings
  standings_size k [] [] h = refl
  standings_size k [] (x ∷ xs) h = absurd h
  standings_size k (l ∷ ls) [] h = absurd h
  standings_size k (l ∷ ls) (x ∷ xs) h = ap suc (standings_size (k + 1) ls xs h.1)

  pub standings_more : (k : ℕ) (ls : List ℕ) (xs : List Standing) (l : ℕ) (y : Standing) → AreStandings raw p k ls xs
      → IsStanding raw p (k + length xs) l y → AreStandings raw p k (ls ++ l ∷ []) (xs ++ y ∷ [])
  unfolding AreStandings
  standings_more k [] [] l y h here =
      let e : k + 0 ≡ k = omega arith in (subst (λ (n : ℕ). IsStanding raw p n l y) e here, tt)
  standings_more k [] (x ∷ xs) l y h here = absurd h
  standings_more k (m ∷ ls) [] l y h here = absurd h
  standings_more k (m ∷ ls) (x ∷ xs) l y h here =
      let e : k + suc (length xs) ≡ (k + 1) + length xs = omega arith in
      (h.0, standings_more (k + 1) ls xs l y h.1 (subst (λ (n : ℕ). IsStanding raw p n l y) e here))

pub none_yet : (raw : Raw) (p : CircuitAndRows) → AreStandings raw p 0 [] []
unfolding AreStandings
none_yet raw p = tt

pub no_text : (raw : Raw) (conditions : Bool) → standings_text raw conditions 0 [] ≡ []
unfolding standings_text
no_text raw conditions = refl

-- what is so of a session is so of its state
pub own_is : (session : Session) (s : SessionState) → IsIn session s → circuit_of s ≡ own_circuit session
own_is session s is = λ i. record (is.pair i).circuit { latches = is.latches i }

pub checked : (session : Session) (s : SessionState) (text : List ℕ) (standings : List Standing) (broken : Option Broken)
    (wrong : Option (ℕ × Tern)) → let p = session.run.bench.pair in
    IsIn session s → AreStandings (own_circuit session) p 0 p.circuit.bad standings → AreConstraints p broken
    → AreStarts (own_circuit session) (start_of p.circuit) wrong
    → text ≡ standings_text p.circuit false 0 standings ++ (standings_text p.circuit true 0 standings ++ reasons_text p.circuit broken wrong)
    → IsChecked s text
checked session s text standings broken wrong is are constraints begins e = (
  standings,
  broken,
  wrong,
  subst (λ (p : CircuitAndRows). AreStandings (circuit_of s) p 0 p.circuit.bad standings) (sym is.pair)
      (subst (λ (raw : Raw). AreStandings raw session.run.bench.pair 0 session.run.bench.pair.circuit.bad standings)
      (sym (own_is session s is)) are),
  subst (λ (p : CircuitAndRows). AreConstraints p broken) (sym is.pair) constraints,
  subst (λ (p : CircuitAndRows). AreStarts (circuit_of s) (start_of p.circuit) wrong) (sym is.pair)
      (subst (λ (raw : Raw). AreStarts raw (start_of session.run.bench.pair.circuit) wrong) (sym (own_is session s is)) begins),
  e ∙ ap (λ (p : CircuitAndRows). standings_text p.circuit false 0 standings
      ++ (standings_text p.circuit true 0 standings ++ reasons_text p.circuit broken wrong)) (sym is.pair),
)
