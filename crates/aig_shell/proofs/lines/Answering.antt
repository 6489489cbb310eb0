-- From what a session does for a request to what it answers.
use Rattle.std.proofs.Common.{◌≡◌, ◌≢◌, ◌⊎◌, inl, inr, ℕ, ◌+◌, ◌*◌, List, [], ◌∷◌, ◌++◌, Bool, true, false, length}
use Rattle.std.proofs.Common.{decimal, Option, None, Some, Result, Ok, Err, OnOk, IsErrAnd, Bor, append_assoc, refl}
use Rattle.std.proofs.Common.{sym, ap, subst, ◌∙◌}
use Rattle.aig_bytes.proofs.Results.{on_ok}
use Rattle.aig_parts.specs.declared.latch.Latch.{Latch}
use Rattle.aig_parts.specs.declared.ternary.Tern.{Tern}
use Rattle.aig_bench.specs.BenchState.{CircuitAndRows}
use Rattle.aig_signals.specs.Lookup.{Means, alone}
use Rattle.aig_shell.specs.Answers.{Answers, EditsRun, EditsCircuit, HasNoAnswer, calm}
use Rattle.aig_shell.specs.Commands.{query_of, edit_of, export_of}
use Rattle.aig_shell.specs.Defined.{IsLiteralText, IsRewiredText}
use Rattle.aig_shell.specs.Edits.{Does, EndsEdit, IsImpossible, has_edited}
use Rattle.aig_shell.specs.Ends.{EndsChange, EndsFiles, EndsQuery}
use Rattle.aig_shell.specs.Files.{Call}
use Rattle.aig_shell.specs.Request.{Request, set, start, add, rewire, append, out, help}
use Rattle.aig_shell.specs.Request as request
use Rattle.aig_shell.specs.Session.{HasSameEntries, IsIn, KeepsFirst, KeepsRest}
use Rattle.aig_shell.specs.State.{SessionState}
use Rattle.aig_shell.specs.declared.request.command.Edit.{Edit}
use Rattle.aig_shell.specs.declared.request.command.Export.{Export}
use Rattle.aig_shell.specs.declared.request.command.Export.TheVariants as exports
use Rattle.aig_shell.specs.declared.request.command.ShellQuery.{ShellQuery}
use Rattle.aig_shell.specs.declared.refusal.Refusal.{Refusal}
use Rattle.aig_shell.specs.declared.refusal.Refusal.TheVariants as refusals
use Rattle.aig_shell.specs.declared.session.run_kept.FirstRun.{FirstRun}
use Rattle.aig_shell.specs.declared.session.Session.{Session}
use Rattle.aig_shell.proofs.editing.Entries.{leads_entries}

-- the state of a session after an edit
in_next : (old new : Session) (s after : SessionState) (flag : Bool) → IsIn old s → KeepsRest old flag new
    → HasSameEntries s.first.circuit new.run.bench.pair.circuit → after.pair ≡ new.run.bench.pair
    → after.latches ≡ s.latches → after.property ≡ s.property → after.first ≡ s.first → after.kept ≡ s.kept → after.has_edited_circuit ≡ flag
    → IsIn new after
in_next old new s after flag h k entries pair latches property first kept circuit = record {
  pair = pair;
  latches = latches ∙ h.latches ∙ sym (ap (λ v. v.items) k.latches);
  property = property ∙ h.property ∙ sym k.property;
  first = subst (λ (p : CircuitAndRows). KeepsFirst new.first p) (sym first)
      (subst (λ (f : FirstRun). KeepsFirst f s.first) (sym k.first) h.first);
  entries = subst (λ (p : CircuitAndRows). HasSameEntries p.circuit new.run.bench.pair.circuit) (sym first) entries;
  start = ap (λ r. r.start) kept ∙ h.start ∙ sym (ap (λ r. r.start.items) k.kept);
  rows = ap (λ r. r.rows) kept ∙ h.rows ∙ sym (ap (λ r. r.rows.rows) k.kept);
  circuit = circuit ∙ sym k.circuit;
}

-- a session that stays is in the state before
in_same : (old new : Session) (s : SessionState) → IsIn old s → KeepsRest old old.has_edited_circuit new
    → new.run.bench.pair ≡ old.run.bench.pair → IsIn new s
in_same old new s h k pair =
    in_next old new s s old.has_edited_circuit h k (subst (λ (p : CircuitAndRows). HasSameEntries s.first.circuit p.circuit) (sym pair) h.entries)
    (h.pair ∙ sym pair) refl refl refl refl h.circuit

-- edits leave the entries
does_entries : (old new : Session) (r : Request) (s : SessionState) → IsIn old s → Does old.run.bench.pair r new.run.bench.pair
    → HasSameEntries s.first.circuit new.run.bench.pair.circuit
does_entries old new r s h (edits, asks, leads) =
    leads_entries s.first.circuit edits old.run.bench.pair new.run.bench.pair h.entries leads

refused : (old new : Session) (r : Request) (s : SessionState) → IsIn old s → IsImpossible old.run.bench.pair r
    → IsImpossible s.pair r
refused old new r s h none = subst (λ (p : CircuitAndRows). IsImpossible p r) (sym h.pair) none

-- an edit of the run
pub run_changed : {A : Type 0} (old new : Session) (r : Request) (result : Result A Refusal) (text : List ℕ)
    → KeepsRest old old.has_edited_circuit new → EndsEdit old.run.bench.pair r result new.run.bench.pair
    → ((s after : SessionState) → EditsRun s r after → Answers s r text [] after)
    → ((s : SessionState) → IsImpossible s.pair r → HasNoAnswer s r) → EndsChange old r result text new
run_changed old new r (Ok x) text k does holds denied = λ s h.
    let q = new.run.bench.pair in
    let after : SessionState = record s { pair = q; has_warned = false } in (
      after,
      holds s after (q, subst (λ (p : CircuitAndRows). Does p r q) (sym h.pair) does, refl),
      in_next old new s after old.has_edited_circuit h k (does_entries old new r s h does) refl refl refl refl refl h.circuit,
    )
run_changed old new r (Err refusal) text k (none, kept) holds denied =
    ((λ s h. in_same old new s h k kept), λ other s h. denied s (refused old new r s h (none other)))

-- an edit of the circuit
pub circuit_changed : {A : Type 0} (old new : Session) (r : Request) (result : Result A Refusal) (text : List ℕ)
    → KeepsRest old (has_edited old.has_edited_circuit result) new
    → EndsEdit old.run.bench.pair r result new.run.bench.pair
    → OnOk result ((s after : SessionState) → s.pair ≡ old.run.bench.pair → EditsCircuit s r after → Answers s r text [] after)
    → ((s : SessionState) → IsImpossible s.pair r → HasNoAnswer s r) → EndsChange old r result text new
circuit_changed old new r (Ok x) text k does holds denied = λ s h.
    let q = new.run.bench.pair in
    let after : SessionState = record s { pair = q; has_edited_circuit = true; has_warned = false } in (
      after,
      holds s after h.pair (q, subst (λ (p : CircuitAndRows). Does p r q) (sym h.pair) does, refl),
      in_next old new s after true h k (does_entries old new r s h does) refl refl refl refl refl refl,
    )
circuit_changed old new r (Err refusal) text k (none, kept) holds denied =
    ((λ s h. in_same old new s h k kept), λ other s h. denied s (refused old new r s h (none other)))

-- each edit
pub set_ends : (old new : Session) (frames name value : List ℕ) (result : Result (Unit {0}) Refusal) (text : List ℕ) → text ≡ []
    → KeepsRest old old.has_edited_circuit new
    → EndsEdit old.run.bench.pair (set frames name value) result new.run.bench.pair
    → EndsChange old (set frames name value) result text new
set_ends old new frames name value result text empty k does =
    run_changed old new (set frames name value) result text k does (λ s after h. (h, empty, refl))
    (λ s none t ts after h. none h.0.0 h.0.1)

pub start_ends : (old new : Session) (name value : List ℕ) (result : Result (Unit {0}) Refusal) (text : List ℕ) → text ≡ []
    → KeepsRest old old.has_edited_circuit new
    → EndsEdit old.run.bench.pair (start name value) result new.run.bench.pair
    → EndsChange old (start name value) result text new
start_ends old new name value result text empty k does =
    run_changed old new (start name value) result text k does (λ s after h. (h, empty, refl))
    (λ s none t ts after h. none h.0.0 h.0.1)

pub add_ends : (old new : Session) (count : Option (List ℕ)) (result : Result (Unit {0}) Refusal) (text : List ℕ) → text ≡ []
    → KeepsRest old old.has_edited_circuit new
    → EndsEdit old.run.bench.pair (add count) result new.run.bench.pair → EndsChange old (add count) result text new
add_ends old new count result text empty k does =
    run_changed old new (add count) result text k does (λ s after h. (h, empty, refl)) (λ s none t ts after h. none h.0.0 h.0.1)

pub drop_ends : (old new : Session) (count : Option (List ℕ)) (result : Result (Unit {0}) Refusal) (text : List ℕ) → text ≡ []
    → KeepsRest old old.has_edited_circuit new
    → EndsEdit old.run.bench.pair (request.drop count) result new.run.bench.pair → EndsChange old (request.drop count) result text new
drop_ends old new count result text empty k does =
    run_changed old new (request.drop count) result text k does (λ s after h. (h, empty, refl))
    (λ s none t ts after h. none h.0.0 h.0.1)

rewired : (old : Session) (name side0 side1 : List ℕ) (result : Result (Unit {0}) Refusal) (text : List ℕ)
    → OnOk result (IsRewiredText old.run.bench.pair.circuit name side0 side1 text)
    → OnOk result ((s after : SessionState) → s.pair ≡ old.run.bench.pair → EditsCircuit s (rewire name side0 side1) after
    → Answers s (rewire name side0 side1) text [] after)
rewired old name side0 side1 (Ok x) text is = λ s after same h.
    (h, subst (λ (p : CircuitAndRows). IsRewiredText p.circuit name side0 side1 text) (sym same) is, refl)
rewired old name side0 side1 (Err e) text is = tt

pub rewire_ends : (old new : Session) (name side0 side1 : List ℕ) (result : Result (Unit {0}) Refusal) (text : List ℕ)
    → OnOk result (IsRewiredText old.run.bench.pair.circuit name side0 side1 text)
    → KeepsRest old (has_edited old.has_edited_circuit result) new
    → EndsEdit old.run.bench.pair (rewire name side0 side1) result new.run.bench.pair
    → EndsChange old (rewire name side0 side1) result text new
rewire_ends old new name side0 side1 result text is k does =
    circuit_changed old new (rewire name side0 side1) result text k does (rewired old name side0 side1 result text is)
    (λ s none t ts after h. none h.0.0 h.0.1)

appended : (old new : Session) (side0 side1 : List ℕ) (result : Result (Unit {0}) Refusal) (was text : List ℕ) → was ≡ []
    → OnOk result (text ≡ was ++ (decimal (2 * (old.run.bench.pair.circuit.max_var + 1)) ++ 10 ∷ []))
    → OnOk result ((s after : SessionState) → s.pair ≡ old.run.bench.pair → EditsCircuit s (append side0 side1) after
    → Answers s (append side0 side1) text [] after)
appended old new side0 side1 (Ok x) was text empty e = λ s after same h. (
  h,
  e ∙ ap (λ (t : List ℕ). t ++ (decimal (2 * (old.run.bench.pair.circuit.max_var + 1)) ++ 10 ∷ [])) empty
      ∙ ap (λ (p : CircuitAndRows). decimal (2 * (p.circuit.max_var + 1)) ++ 10 ∷ []) (sym same),
  refl,
)
appended old new side0 side1 (Err e) was text empty is = tt

pub append_ends : (old new : Session) (side0 side1 : List ℕ) (result : Result (Unit {0}) Refusal) (was text : List ℕ) → was ≡ []
    → OnOk result (text ≡ was ++ (decimal (2 * (old.run.bench.pair.circuit.max_var + 1)) ++ 10 ∷ []))
    → KeepsRest old (has_edited old.has_edited_circuit result) new
    → EndsEdit old.run.bench.pair (append side0 side1) result new.run.bench.pair
    → EndsChange old (append side0 side1) result text new
append_ends old new side0 side1 result was text empty is k does =
    circuit_changed old new (append side0 side1) result text k does (appended old new side0 side1 result was text empty is)
    (λ s none t ts after h. none h.0.0 h.0.1)

pub out_ends : (old new : Session) (name literal : List ℕ) (result : Result (Unit {0}) Refusal) (text : List ℕ) → text ≡ []
    → KeepsRest old (has_edited old.has_edited_circuit result) new
    → EndsEdit old.run.bench.pair (out name literal) result new.run.bench.pair → EndsChange old (out name literal) result text new
out_ends old new name literal result text empty k does =
    circuit_changed old new (out name literal) result text k does (on_ok result (λ s after same h. (h, empty, refl)))
    (λ s none t ts after h. none h.0.0 h.0.1)

-- the help has an answer at any time
pub help_answered : (session : Session) (word : Option (List ℕ)) (result : Result (Unit {0}) Refusal) (text : List ℕ)
    → EndsQuery session (help word) result text
help_answered session word (Ok x) text = λ s h. (refl, refl)
help_answered session word (Err refusal) text = λ other s h. tt

-- memory ran out
pub query_lacking : {A : Type 0} (session : Session) (r : Request) (result : Result A Refusal) (text : List ℕ)
    → IsErrAnd result (λ e. e ≡ refusals.Memory) → EndsQuery session r result text
query_lacking session r (Ok x) text err = absurd err
query_lacking session r (Err refusal) text err = λ other. absurd (other err)

-- what defines a literal
pub gate_answered : (session : Session) (name : List ℕ) (literal : ℕ) (old text said : List ℕ) → old ≡ []
    → text ≡ old ++ said → Means session.run.bench.pair.circuit name (alone literal)
    → IsLiteralText session.run.bench.pair.circuit session.run.latches.items name literal said
    → (s : SessionState) → IsIn session s → Answers s (request.gate name) text [] (calm s)
gate_answered session name literal old text said empty e means is s h = (
  literal,
  subst (λ (p : CircuitAndRows). Means p.circuit name (alone literal)) (sym h.pair) means,
  subst (λ (t : List ℕ). IsLiteralText s.pair.circuit s.latches name literal t)
      (sym (e ∙ ap (λ (t : List ℕ). t ++ said) empty))
      (subst (λ (p : CircuitAndRows). IsLiteralText p.circuit s.latches name literal said) (sym h.pair)
      (subst (λ (ls : List Latch). IsLiteralText session.run.bench.pair.circuit ls name literal said) (sym h.latches) is)),
  refl,
  refl,
)

pub gate_refused : {A : Type 0} (session : Session) (name : List ℕ) (result : Result A Refusal) (refusal : Refusal) (text : List ℕ)
    → IsErrAnd result (λ e. e ≡ refusal)
    → (refusal ≢ refusals.Memory → (literal : ℕ) → Means session.run.bench.pair.circuit name (alone literal) → ⊥)
    → EndsQuery session (request.gate name) result text
gate_refused session name (Ok x) refusal text err none = absurd err
gate_refused session name (Err other) refusal text err none = λ denied s h t ts after answered.
    none (λ m. denied (err ∙ m)) answered.0 (subst (λ (p : CircuitAndRows). Means p.circuit name (alone answered.0)) h.pair answered.1)

-- a command that is this one
pub query_is : {A : Type 0} (session : Session) (q known : ShellQuery) (result : Result A Refusal) (text : List ℕ) → q ≡ known
    → EndsQuery session (query_of known) result text → EndsQuery session (query_of q) result text
query_is session q known result text e h = subst (λ (x : ShellQuery). EndsQuery session (query_of x) result text) (sym e) h

pub edit_is : {A : Type 0} (old new : Session) (edit known : Edit) (result : Result A Refusal) (text : List ℕ) → edit ≡ known
    → EndsChange old (edit_of known) result text new → EndsChange old (edit_of edit) result text new
edit_is old new edit known result text e h = subst (λ (x : Edit). EndsChange old (edit_of x) result text new) (sym e) h

pub wave_is : {A : Type 0} (old new : Session) (export : Export) (file : Bor (List ℕ)) (result : Result A Refusal) (text : List ℕ)
    (old_calls new_calls : Option (List Call)) → export ≡ exports.Wave file → text ≡ []
    → EndsFiles old (request.wave file.now) result [] old_calls new_calls new
    → EndsFiles old (export_of export) result text old_calls new_calls new
wave_is old new export file result text old_calls new_calls e empty h =
    subst (λ (x : Export). EndsFiles old (export_of x) result text old_calls new_calls new) (sym e)
    (subst (λ (t : List ℕ). EndsFiles old (request.wave file.now) result t old_calls new_calls new) (sym empty) h)

-- a number and an LF are added
pub number_line : (old mid new : List ℕ) (n m : ℕ) → mid ≡ old ++ decimal n → new ≡ mid ++ 10 ∷ [] → n ≡ m
    → new ≡ old ++ (decimal m ++ 10 ∷ [])
number_line old mid new n m e f same =
    f ∙ ap (λ (t : List ℕ). t ++ 10 ∷ []) (e ∙ ap (λ k. old ++ decimal k) same) ∙ append_assoc old (decimal m) (10 ∷ [])
