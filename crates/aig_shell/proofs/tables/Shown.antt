-- Tables that are shown: cells, rows and frames.
use Rattle.std.proofs.Common.{◌≡◌, ◌≢◌, ℕ, zero, suc, ◌+◌, ◌-◌, ◌<◌, ◌≤◌, List, [], ◌∷◌, ◌++◌, length, map, take}
use Rattle.std.proofs.Common.{get_or, Option, None, Some, Result, Ok, Err, IfErr, sym, ap, subst, ◌∙◌, arith}
use Rattle.std.specs.Prelude.{IsErrAnd}
use Rattle.std.specs.List.{AllZip, range_with_len}
use Rattle.std.proofs.lemmas.List.{map-append, map_more, take_more}
use Rattle.std.proofs.lemmas.Slice.Zip.{all_zipped_more}
use Rattle.aig_parts.specs.declared.ternary.Tern.{Tern}
use Rattle.aig_parts.specs.declared.raw.Raw.{Raw}
use Rattle.aig_base.specs.Circuit.{IsCircuit}
use Rattle.aig_bench.specs.BenchState.{CircuitAndRows, HasValue}
use Rattle.aig_prompt.specs.Table.{TableRow}
use Rattle.aig_signals.specs.Lookup.{Unknown}
use Rattle.aig_shell.specs.declared.refusal.Refusal.{Refusal}
use Rattle.aig_shell.specs.declared.refusal.Refusal.TheVariants as refusals
use Rattle.aig_shell.specs.declared.session.Session.{Session}
use Rattle.aig_shell.specs.Answers.{ShowsFrames}
use Rattle.aig_shell.specs.Edits.{AreFrames}
use Rattle.aig_shell.specs.Ends.{EndsQuery}
use Rattle.aig_shell.specs.Request.{show}
use Rattle.aig_shell.specs.Session.{IsIn}
use Rattle.aig_shell.specs.State.{SessionState}
use Rattle.aig_shell.specs.Tables.{AreBits, IsRowOf, IsShown}
use Rattle.aig_shell.proofs.editing.Impossible.{small_variables}
use Rattle.aig_shell.proofs.words.Meanings.{means_none}

-- one literal more has its value
pub bits_more : (p : CircuitAndRows) (t : ℕ) (literals : List ℕ) (i l : ℕ) (bits new : List (Option Tern)) (w : Tern)
    → i < length literals → l ≡ get_or literals i l → HasValue p t l w → AreBits p t (take i literals) bits
    → new ≡ bits ++ Some w ∷ [] → AreBits p t (take (i + 1) literals) new
bits_more p t literals i l bits new w lt is value (values, each, are) pushed =
    let more : take i literals ++ l ∷ [] ≡ take (i + 1) literals =
    ap (λ k. take i literals ++ k ∷ []) is ∙ sym (take_more literals i l lt) in (
      values ++ w ∷ [],
      subst (λ ls. AllZip (HasValue p t) ls (values ++ w ∷ [])) more (all_zipped_more (HasValue p t) (take i literals) values l w each value),
      pushed ∙ ap (λ bs. bs ++ Some w ∷ []) are ∙ sym (map-append Some values (w ∷ [])),
    )

-- one number more
range_last : (a n : ℕ) → range_with_len a (suc n) ≡ range_with_len a n ++ (a + n) ∷ []
range_last a zero =
    let e : a ≡ a + 0 = omega arith in
    ap (λ k. k ∷ []) e
range_last a (suc n) =
    let e : (a + 1) + n ≡ a + suc n = omega arith in
    ap (λ ks. a ∷ ks) (range_last (a + 1) n ∙ ap (λ k. range_with_len (a + 1) n ++ k ∷ []) e)

pub range_more : (a j : ℕ) → a ≤ j → range_with_len a (j + 1 - a) ≡ range_with_len a (j - a) ++ j ∷ []
range_more a j le =
    let size : j + 1 - a ≡ suc (j - a) = omega (arith, le) in
    let here : a + (j - a) ≡ j = omega (arith, le) in
    ap (range_with_len a) size ∙ range_last a (j - a) ∙ ap (λ k. range_with_len a (j - a) ++ k ∷ []) here

-- the cell of a frame more
pub cells_more : (R : ℕ → List ℕ → Type 0) (a j : ℕ) (cells new : List (List ℕ)) (cell : List ℕ) → a ≤ j
    → AllZip R (range_with_len a (j - a)) cells → R j cell → new ≡ cells ++ cell ∷ [] → AllZip R (range_with_len a (j + 1 - a)) new
cells_more R a j cells new cell le before here pushed =
    subst (λ ns. AllZip R ns new) (sym (range_more a j le))
    (subst (AllZip R (range_with_len a (j - a) ++ j ∷ [])) (sym pushed)
    (all_zipped_more R (range_with_len a (j - a)) cells j cell before here))

-- the row of a name more
pub rows_more : {X Y A B : Type 0} (R : A → B → Type 0) (f : X → A) (g : Y → B) (xs : List X) (i : ℕ) (d : X) (ys new : List Y) (y : Y)
    → i < length xs → AllZip R (map f (take i xs)) (map g ys) → R (f (get_or xs i d)) (g y) → new ≡ ys ++ y ∷ []
    → AllZip R (map f (take (i + 1) xs)) (map g new)
rows_more R f g xs i d ys new y lt before here pushed =
    subst (λ zs. AllZip R zs (map g new)) (sym (map_more f xs i d lt))
    (subst (AllZip R (map f (take i xs) ++ f (get_or xs i d) ∷ [])) (sym (ap (map g) pushed ∙ map-append g ys (y ∷ [])))
    (all_zipped_more R (map f (take i xs)) (map g ys) (f (get_or xs i d)) (g y) before here))

-- a name without a row: there are no rows of all
pub no_rows : {X A B : Type 0} (R : A → B → Type 0) (f : X → A) (xs : List X) (i : ℕ) (d : X) → i < length xs
    → ((y : B) → R (f (get_or xs i d)) y → ⊥) → (ys : List B) → AllZip R (map f xs) ys → ⊥
no_rows R f [] i d lt none ys h = absurd (omega (arith, lt))
no_rows R f (x ∷ xs) zero d lt none [] h = absurd h
no_rows R f (x ∷ xs) zero d lt none (y ∷ ys) h = none y h.0
no_rows R f (x ∷ xs) (suc i) d lt none [] h = absurd h
no_rows R f (x ∷ xs) (suc i) d lt none (y ∷ ys) h = no_rows R f xs i d (omega (arith, lt)) none ys h.1

-- a word that means nothing has no row
pub no_row : (p : CircuitAndRows) (first count : ℕ) (name : List ℕ) → IsCircuit p.circuit → Unknown p.circuit name → (row : TableRow)
    → IsRowOf p first count name row → ⊥
no_row p first count name circuit unknown row (literals, means, is, cells) =
    means_none p.circuit (small_variables p.circuit circuit) name literals unknown means

-- a refusal that is returned as it came
pub handed_on : {A P : Type 0} (result : Result A Refusal) (refusal : Refusal) → IsErrAnd result (λ e. e ≡ refusal)
    → (refusal ≢ refusals.Memory → P) → IfErr result (λ e. e ≢ refusals.Memory → P)
handed_on (Ok x) refusal is none = absurd is
handed_on (Err e) refusal is none = λ other. none (λ m. other (is ∙ m))

-- a request that only asks
pub ends_none : {A : Type 0} (session : Session) (names : List (List ℕ)) (frames : Option (List ℕ)) (result : Result A Refusal)
    (refusal : Refusal) (text : List ℕ) → IsErrAnd result (λ e. e ≡ refusal)
    → (refusal ≢ refusals.Memory → (first last : ℕ) (rows : List TableRow)
    → ShowsFrames frames (length session.run.bench.pair.rows) first last
    → IsShown session.run.bench.pair first (last + 1 - first) names rows → ⊥)
    → EndsQuery session (show names frames) result text
ends_none session names frames (Ok x) refusal text is none = absurd is
ends_none session names frames (Err e) refusal text is none =
    λ other s within answer texts after (first, last, rows, table, shows, shown, is_table, whole, no_texts, same).
    none (λ m. other (is ∙ m)) first last rows
    (subst (λ (p : CircuitAndRows). ShowsFrames frames (length p.rows) first last) within.pair shows)
    (subst (λ (p : CircuitAndRows). IsShown p first (last + 1 - first) names rows) within.pair shown)

-- a word that names no frames
pub frames_refused : {A : Type 0} (result : Result A Refusal) (frames : Option (List ℕ)) (word : List ℕ) (count : ℕ) → frames ≡ Some word
    → IfErr result (λ _. (first last : ℕ) → AreFrames word count first last → ⊥)
    → IfErr result (λ e. e ≢ refusals.Memory → (first last : ℕ) → ShowsFrames frames count first last → ⊥)
frames_refused (Ok x) frames word count is none = tt
frames_refused (Err e) frames word count is none =
    λ other first last h. none first last (subst (λ (o : Option (List ℕ)). ShowsFrames o count first last) is h)
