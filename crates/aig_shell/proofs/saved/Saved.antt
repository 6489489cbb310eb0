-- Files that are written or refused, and the state of the session after it.
use Rattle.std.proofs.Common.{◌≡◌, ◌≢◌, inl, inr, ◌+◌, ℕ, false, List, [], ◌∷◌, length, take, flat_map, Option, None}
use Rattle.std.proofs.Common.{Some, Result, Ok, Err, refl, sym, ap, subst, ◌∙◌, append-nil}
use Rattle.std.specs.Prelude.{decimal, IfErr, IsErrAnd}
use Rattle.aig_parts.specs.declared.raw.Raw.{Raw}
use Rattle.aig_base.specs.Value.{start_of}
use Rattle.aig_bench.specs.BenchState.{CircuitAndRows}
use Rattle.aig_format.specs.Spelling.{short_ascii}
use Rattle.aig_base.specs.Resets.{HasOtherResets}
use Rattle.aig_base.proofs.values.Resets.{latches_length, other_resets_back}
use Rattle.aig_sim.specs.Dump.{IsDump}
use Rattle.aig_sim.specs.Reached.{IsAskedFor, IsFirstReached, ReachesNone}
use Rattle.aig_sim.specs.StimulusText.{row_line}
use Rattle.aig_sim.specs.WitnessText.{witness_text}
use Rattle.aig_why.specs.Why.{run_of}
use Rattle.aig_shell.specs.declared.refusal.Refusal.{Refusal}
use Rattle.aig_shell.specs.declared.refusal.Refusal.TheVariants as refusals
use Rattle.aig_shell.specs.declared.session.run_kept.KeptRun.{KeptRun}
use Rattle.aig_shell.specs.declared.session.Session.{Session}
use Rattle.aig_shell.specs.Answers.{Answers, HasNoAnswer, StartsByReset, calm}
use Rattle.aig_shell.specs.Ends.{EndsFiles, with_calls}
use Rattle.aig_shell.specs.Files as files
use Rattle.aig_shell.specs.Files.{KeptText, Call, IsAsked, after_keeping, no_start_text, reached_text, saved}
use Rattle.aig_shell.specs.Request.{Request, save, witness, wave}
use Rattle.aig_shell.specs.Session.{IsIn, KeepsRun, own_circuit}
use Rattle.aig_shell.specs.State.{SessionState, circuit_of}

-- ---- calls

kept_once : {A : Type 0} (E : Type 0) (old : Option (List Call)) (texts : List KeptText) (x : A)
    → after_keeping {A = A} {E = E} old texts (Ok x) ≡ with_calls old (files.kept texts ∷ [])
kept_once E None texts x = refl
kept_once E (Some old) texts x = refl

refused_once : (A : Type 0) {E : Type 0} (old : Option (List Call)) (texts : List KeptText) (e : E)
    → after_keeping {A = A} {E = E} old texts (Err e) ≡ with_calls old (files.refused texts ∷ [])
refused_once A None texts e = refl
refused_once A (Some old) texts e = refl

no_call : (calls : Option (List Call)) → calls ≡ with_calls calls []
no_call None = refl
no_call (Some old) = ap Some (sym (append-nil old))

-- ---- the circuit and the run of a state

-- the circuit with the resets of the file is the bench's, but for resets
pub own_differs : (session : Session) → HasOtherResets (own_circuit session) session.run.bench.pair.circuit
own_differs session = record {
  inputs = refl;
  latches = session.has_latches;
  outputs = refl;
  bad = refl;
  constraints = refl;
  gates = refl;
  size = refl;
  symbols = refl;
}

pub own_resets : (session : Session) → HasOtherResets session.run.bench.pair.circuit (own_circuit session)
own_resets session = other_resets_back (own_circuit session) session.run.bench.pair.circuit (own_differs session)

pub own_size : (session : Session) → length session.run.latches.items ≡ length session.run.bench.pair.circuit.latches
own_size session = latches_length session.run.bench.pair.circuit (own_circuit session) (own_resets session)

module _ (session : Session) (s : SessionState) (h : IsIn session s) where
  pub own_is : own_circuit session ≡ circuit_of s
  own_is = λ i. record (sym h.pair i).circuit { latches = sym h.latches i }

  pub start_is : start_of session.run.bench.pair.circuit ≡ start_of s.pair.circuit
  start_is = ap (λ (p : CircuitAndRows). start_of p.circuit) (sym h.pair)

  pub rows_are : session.run.bench.pair.rows ≡ s.pair.rows
  rows_are = ap (λ (p : CircuitAndRows). p.rows) (sym h.pair)

  starts : start_of session.run.bench.pair.circuit ≡ start_of (own_circuit session) → StartsByReset s
  starts e = sym start_is ∙ e ∙ ap start_of own_is

  starts_back : StartsByReset s → start_of session.run.bench.pair.circuit ≡ start_of (own_circuit session)
  starts_back e = start_is ∙ e ∙ ap start_of (sym own_is)

  pub first_in : (asked : Option ℕ) (t k : ℕ)
      → IsFirstReached (own_circuit session) (start_of session.run.bench.pair.circuit) session.run.bench.pair.rows asked t k
      → IsFirstReached (circuit_of s) (start_of s.pair.circuit) s.pair.rows asked t k
  first_in asked t k r =
      subst (λ (raw : Raw). IsFirstReached raw (start_of s.pair.circuit) s.pair.rows asked t k) own_is
      (subst (λ (p : CircuitAndRows). IsFirstReached (own_circuit session) (start_of p.circuit) p.rows asked t k) (sym h.pair) r)

  pub asked_in : (word : Option (List ℕ)) (asked : Option ℕ) → IsAsked session.run.bench.pair.circuit session.property word asked
      → IsAsked s.pair.circuit s.property word asked
  asked_in word asked is =
      subst (λ (o : Option ℕ). IsAsked s.pair.circuit o word asked) (sym h.property)
      (subst (λ (p : CircuitAndRows). IsAsked p.circuit session.property word asked) (sym h.pair) is)

  asked_back : (word : Option (List ℕ)) (asked : Option ℕ) → IsAsked s.pair.circuit s.property word asked
      → IsAsked session.run.bench.pair.circuit session.property word asked
  asked_back word asked is =
      subst (λ (o : Option ℕ). IsAsked session.run.bench.pair.circuit o word asked) h.property
      (subst (λ (p : CircuitAndRows). IsAsked p.circuit s.property word asked) h.pair is)

  dump_in : (text : List ℕ)
      → IsDump (own_circuit session) (start_of session.run.bench.pair.circuit) session.run.bench.pair.rows text
      → IsDump (circuit_of s) (start_of s.pair.circuit) s.pair.rows text
  dump_in text d =
      subst (λ (raw : Raw). IsDump raw (start_of s.pair.circuit) s.pair.rows text) own_is
      (subst (λ (p : CircuitAndRows). IsDump (own_circuit session) (start_of p.circuit) p.rows text) (sym h.pair) d)

-- ---- what is written

-- the request is answered so, and these are the texts of its files
abbrev pub GivesTexts : Session → Request → List ℕ → List KeptText → Session → Type 0
GivesTexts old r text texts new =
    (s : SessionState) → IsIn old s → (after : SessionState) × Answers s r text texts after × IsIn new after

module _ (old : Session) where
  pub circuit_saved : (name bytes : List ℕ) → bytes ≡ short_ascii (own_circuit old)
      → GivesTexts old (save name None) [] (record { name = name; text = bytes } ∷ [])
      (record old { has_edited_circuit = false })
  circuit_saved name bytes e s h = (
    record s { has_edited_circuit = false; has_warned = false },
    (ap (λ (t : List ℕ). record { name = name; text = t } ∷ []) (e ∙ ap short_ascii (own_is old s h)), (refl, refl)),
    record { pair = h.pair; latches = h.latches; property = h.property; first = h.first; entries = h.entries; start = h.start; rows = h.rows; circuit = refl },
  )

  both_texts : (name bytes stimulus rows : List ℕ) → bytes ≡ short_ascii (own_circuit old)
      → rows ≡ flat_map row_line old.run.bench.pair.rows → (s : SessionState) → IsIn old s
      → record { name = name; text = bytes } ∷ record { name = stimulus; text = rows } ∷ [] ≡ saved s name (Some stimulus)
  both_texts name bytes stimulus rows e f s h =
      λ i. record { name = name; text = (e ∙ ap short_ascii (own_is old s h)) i }
      ∷ record { name = stimulus; text = (f ∙ ap (flat_map row_line) (rows_are old s h)) i } ∷ []

  -- the run starts by the resets, and is kept as the one that was written
  pub whole_saved : (name bytes stimulus rows text : List ℕ) (run : KeptRun) → bytes ≡ short_ascii (own_circuit old)
      → rows ≡ flat_map row_line old.run.bench.pair.rows → KeepsRun run old.run.bench.pair
      → start_of old.run.bench.pair.circuit ≡ start_of (own_circuit old) → text ≡ []
      → GivesTexts old (save name (Some stimulus)) text
      (record { name = name; text = bytes } ∷ record { name = stimulus; text = rows } ∷ [])
      (record old { kept = run; has_edited_circuit = false })
  whole_saved name bytes stimulus rows text run e f keeps start said s h = (
    record s { kept = run_of s.pair; has_edited_circuit = false; has_warned = false },
    (both_texts name bytes stimulus rows e f s h, ((λ yes. (said, refl)), (λ no. absurd (no (starts old s h start))))),
    record {
      pair = h.pair;
      latches = h.latches;
      property = h.property;
      first = h.first;
      entries = h.entries;
      start = sym (keeps.start ∙ start_is old s h);
      rows = sym (keeps.rows ∙ rows_are old s h);
      circuit = refl;
    },
  )

  -- it does not, so that the file of rows is not the run
  pub rows_saved : (name bytes stimulus rows text : List ℕ) → bytes ≡ short_ascii (own_circuit old)
      → rows ≡ flat_map row_line old.run.bench.pair.rows
      → (start_of old.run.bench.pair.circuit ≡ start_of (own_circuit old) → ⊥) → text ≡ no_start_text stimulus
      → GivesTexts old (save name (Some stimulus)) text
      (record { name = name; text = bytes } ∷ record { name = stimulus; text = rows } ∷ [])
      (record old { has_edited_circuit = false })
  rows_saved name bytes stimulus rows text e f other said s h = (
    record s { has_edited_circuit = false; has_warned = false },
    (both_texts name bytes stimulus rows e f s h, ((λ yes. absurd (other (starts_back old s h yes))), (λ no. (said, refl)))),
    record { pair = h.pair; latches = h.latches; property = h.property; first = h.first; entries = h.entries; start = h.start; rows = h.rows; circuit = refl },
  )

  pub witness_saved : (file : List ℕ) (word : Option (List ℕ)) (bytes text : List ℕ) (asked : Option ℕ) (t k : ℕ)
      (run : KeptRun) → IsAsked old.run.bench.pair.circuit old.property word asked
      → IsFirstReached (own_circuit old) (start_of old.run.bench.pair.circuit) old.run.bench.pair.rows asked t k
      → bytes ≡ witness_text (decimal k) (start_of old.run.bench.pair.circuit) (take (t + 1) old.run.bench.pair.rows)
      → KeepsRun run old.run.bench.pair → text ≡ reached_text k t file
      → GivesTexts old (witness file word) text (record { name = file; text = bytes } ∷ []) (record old { kept = run })
  witness_saved file word bytes text asked t k run is_asked reached e keeps said s h = (
    record s { kept = run_of s.pair; has_warned = false },
    (
      (
        asked,
        t,
        k,
        asked_in old s h word asked is_asked,
        first_in old s h asked t k reached,
        said,
        ap (λ (b : List ℕ). record { name = file; text = b } ∷ [])
            (e ∙ ap (λ (p : CircuitAndRows). witness_text (decimal k) (start_of p.circuit) (take (t + 1) p.rows))
            (sym h.pair)),
      ),
      refl,
    ),
    record {
      pair = h.pair;
      latches = h.latches;
      property = h.property;
      first = h.first;
      entries = h.entries;
      start = sym (keeps.start ∙ start_is old s h);
      rows = sym (keeps.rows ∙ rows_are old s h);
      circuit = h.circuit;
    },
  )

  pub wave_saved : (file bytes : List ℕ)
      → IsDump (own_circuit old) (start_of old.run.bench.pair.circuit) old.run.bench.pair.rows bytes
      → GivesTexts old (wave file) [] (record { name = file; text = bytes } ∷ []) old
  wave_saved file bytes d s h = (
    calm s,
    ((bytes, dump_in old s h bytes d, refl), refl, refl),
    record { pair = h.pair; latches = h.latches; property = h.property; first = h.first; entries = h.entries; start = h.start; rows = h.rows; circuit = h.circuit },
  )

-- ---- what the call says

module _ (old : Session) (r : Request) where
  -- the files have their texts
  pub files_kept : {A : Type 0} (text : List ℕ) (new : Session) (old_calls new_calls : Option (List Call)) (x : A)
      (one : KeptText) (more : List KeptText) → GivesTexts old r text (one ∷ more) new
      → new_calls ≡ after_keeping {A = A} {E = Refusal} old_calls (one ∷ more) (Ok x)
      → EndsFiles old r (Ok x) text old_calls new_calls new
  files_kept text new old_calls new_calls x one more gives k s h =
      let (after, answers, is) = gives s h in
      (one ∷ more, after, answers, is, (λ none. let no : ⊥ = cc in no), k ∙ kept_once Refusal old_calls (one ∷ more) x)

  -- they are refused
  pub files_refused : {B : Type 0} (A : Type 0) (text said : List ℕ) (new : Session)
      (old_calls new_calls : Option (List Call)) (result : Result B Refusal) (cause : Refusal) (one : KeptText)
      (more : List KeptText) → IsErrAnd result (λ e. e ≡ cause) → cause ≢ refusals.Memory
      → GivesTexts old r said (one ∷ more) new
      → new_calls ≡ after_keeping {A = A} {E = Refusal} old_calls (one ∷ more) (Err cause)
      → EndsFiles old r result text old_calls new_calls old
  files_refused A text said new old_calls new_calls (Ok x) cause one more is other gives k = absurd is
  files_refused A text said new old_calls new_calls (Err e) cause one more is other gives k = (
    refl,
    files.refused (one ∷ more) ∷ [],
    k ∙ refused_once A old_calls (one ∷ more) cause,
    inr ((λ m. other (sym is ∙ m)), one ∷ more, refl),
    λ denied s h.
        let (after, answers, in_new) = gives s h in
        inr (said, one ∷ more, after, answers, (λ none. let no : ⊥ = cc in no), refl),
  )

  -- no file is named, as the request has no answer
  pub files_denied : {A : Type 0} (text : List ℕ) (calls : Option (List Call)) (result : Result A Refusal)
      (cause : Refusal) → IsErrAnd result (λ e. e ≡ cause)
      → (cause ≢ refusals.Memory → (s : SessionState) → IsIn old s → HasNoAnswer s r)
      → EndsFiles old r result text calls calls old
  files_denied text calls (Ok x) cause is none = absurd is
  files_denied text calls (Err e) cause is none =
      (refl, [], no_call calls, inl refl, λ other s h. inl (none (λ m. other (is ∙ m)) s h, refl))

  -- one file is kept, or refused, and the session stays
  pub one_file_ends : {A : Type 0} (text : List ℕ) (old_calls new_calls : Option (List Call))
      (result : Result A Refusal) (one : KeptText) → GivesTexts old r text (one ∷ []) old
      → new_calls ≡ after_keeping old_calls (one ∷ []) result → IfErr result (λ e. e ≢ refusals.Memory)
      → EndsFiles old r result text old_calls new_calls old
  one_file_ends text old_calls new_calls (Ok x) one gives k other =
      files_kept text old old_calls new_calls x one [] gives k
  one_file_ends {A} text old_calls new_calls (Err e) one gives k other =
      files_refused {B = A} A text text old old_calls new_calls (Err e) e one [] refl other gives k

-- ---- a witness that nothing is

asked_one : (raw : Raw) (opened : Option ℕ) (word : Option (List ℕ)) (a b : Option ℕ) → IsAsked raw opened word a
    → IsAsked raw opened word b → a ≡ b
asked_one raw opened None a b e f = e ∙ sym f
asked_one raw opened (Some word) a b (k, e, at) (l, f, there) = e ∙ (sym at ∙ there) ∙ sym f

module _ (session : Session) (file : List ℕ) (word : Option (List ℕ)) where
  -- no property is named so
  pub no_property : ((asked : Option ℕ) → IsAsked session.run.bench.pair.circuit session.property word asked → ⊥) → (s : SessionState)
      → IsIn session s → HasNoAnswer s (witness file word)
  no_property none s h text texts after ((asked, t, k, is_asked, first, said, texts_are), after_is) =
      none asked (asked_back session s h word asked is_asked)

  -- none that is asked for is reached
  pub no_witness : (asked : Option ℕ) → IsAsked session.run.bench.pair.circuit session.property word asked
      → ReachesNone (own_circuit session) (start_of session.run.bench.pair.circuit) session.run.bench.pair.rows asked
      → (s : SessionState) → IsIn session s → HasNoAnswer s (witness file word)
  no_witness asked named none s h text texts after ((other, t, k, is_asked, first, said, texts_are), after_is) =
      let same : other ≡ asked
      = asked_one session.run.bench.pair.circuit session.property word other asked
      (asked_back session s h word other is_asked) named in
      subst (λ (raw : Raw). ReachesNone raw (start_of s.pair.circuit) s.pair.rows asked) (own_is session s h)
      (subst (λ (p : CircuitAndRows). ReachesNone (own_circuit session) (start_of p.circuit) p.rows asked) (sym h.pair)
      none) t k (subst (λ (a : Option ℕ). IsAskedFor a k) same first.asked_for) first.reaches
