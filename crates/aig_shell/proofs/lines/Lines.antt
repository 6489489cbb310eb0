-- From what a command does to what a line answers.
use Rattle.std.proofs.Common.{◌≡◌, ◌≢◌, ◌⊎◌, ◌↔◌, codes, append_assoc, inl, inr, ℕ, List, [], ◌∷◌, ◌++◌, Bool, true}
use Rattle.std.proofs.Common.{false, IsTrue, Option, None, Some, Result, Ok, Err, IsErrAnd, OnErr, map, length, Bor}
use Rattle.std.proofs.Common.{refl, sym, ap, subst, ◌∙◌, append-nil}
use Rattle.aig_bytes.specs.declared.fault.Memory.{Memory}
use Rattle.aig_names.specs.Names.{words}
use Rattle.aig_parts.specs.declared.ternary.Tern.{Tern}
use Rattle.aig_base.specs.Value.{start_of}
use Rattle.aig_bench.specs.BenchState.{CircuitAndRows}
use Rattle.aig_why.specs.Why.{run_of}
use Rattle.aig_prompt.specs.Words.{spaced_byte}
use Rattle.aig_shell.specs.Answers.{Answers, AnswersRequest, HasNoAnswer, IsRefusal, IsRefused, IsUnsaved}
use Rattle.aig_shell.specs.Answers.{AnswersSave, IsSilent, LineAnswer, StartsByReset, WordsAnswer, WritesNone, calm}
use Rattle.aig_shell.specs.Answers.{line_words}
use Rattle.aig_shell.specs.Commands.{query_of, edit_of, export_of, request_of}
use Rattle.aig_shell.specs.Conversation.{AnswersLine, EndsQuit, EndsRequest, EndsWords, IsAt, ends_after, no_memory}
use Rattle.aig_shell.specs.Ends.{ComesAfter, EndsChange, EndsFiles, EndsQuery, with_calls}
use Rattle.aig_shell.specs.Files as files
use Rattle.aig_shell.specs.Files.{KeptText, Call, calls_of}
use Rattle.aig_shell.specs.Request.{Request, show, why_first, why, set, start, add, gate, rewire, append, out, check}
use Rattle.aig_shell.specs.Request.{diff, save, witness, wave, list_names, help, quit, request_words, IsRequest}
use Rattle.aig_shell.specs.Request.{IsNoRequest}
use Rattle.aig_shell.specs.Request as request
use Rattle.aig_shell.specs.Session.{HasUnsaved, IsIn, KeepsRun}
use Rattle.aig_shell.specs.State.{SessionState}
use Rattle.aig_shell.specs.declared.request.command.ShellCommand.{ShellCommand}
use Rattle.aig_shell.specs.declared.request.command.Edit.{Edit}
use Rattle.aig_shell.specs.declared.request.command.Edit.TheVariants as edits
use Rattle.aig_shell.specs.declared.request.command.Export.{Export}
use Rattle.aig_shell.specs.declared.request.command.Export.TheVariants as exports
use Rattle.aig_shell.specs.declared.request.command.ShellQuery.{ShellQuery}
use Rattle.aig_shell.specs.declared.request.command.ShellQuery.TheVariants as queries
use Rattle.aig_shell.specs.declared.talk.conversation.Conversation.{Conversation}
use Rattle.aig_shell.specs.declared.talk.conversation.AfterLine.{AfterLine}
use Rattle.aig_shell.specs.declared.talk.conversation.AfterLine.TheVariants as next
use Rattle.aig_shell.specs.declared.refusal.Refusal.{Refusal}
use Rattle.aig_shell.specs.declared.refusal.Refusal.TheVariants as refusals
use Rattle.aig_shell.specs.declared.session.Session.{Session}

-- a session in a state is in the calm one
in_calm : (session : Session) (s : SessionState) → IsIn session s → IsIn session (calm s)
in_calm session s h =
    record { pair = h.pair; latches = h.latches; property = h.property; first = h.first; entries = h.entries; start = h.start; rows = h.rows; circuit = h.circuit }

-- a conversation that is not warned
pub at_calm : (c : Conversation) (s : SessionState) → IsIn c.session s → c.has_warned ≡ false → IsAt c (calm s)
at_calm c s h e = record { state = in_calm c.session s h; warned = sym e }

-- what would be lost of a session and of its state is the same
pub lost : (session : Session) (s : SessionState) → IsIn session s → HasUnsaved session → IsUnsaved s
lost session s h (inl e) = inl (subst IsTrue (sym h.circuit) e)
lost session s h (inr denied) = inr (λ e. denied (record {
  start = sym h.start ∙ sym (ap (λ r. r.start) e) ∙ ap (λ (p : CircuitAndRows). start_of p.circuit) h.pair;
  rows = sym h.rows ∙ sym (ap (λ r. r.rows) e) ∙ ap (λ (p : CircuitAndRows). p.rows) h.pair;
}))

pub not_lost : (session : Session) (s : SessionState) → IsIn session s → IsUnsaved s → HasUnsaved session
not_lost session s h (inl e) = inl (subst IsTrue h.circuit e)
not_lost session s h (inr denied) = inr (λ k.
    let first : start_of s.pair.circuit ≡ s.kept.start =
    ap (λ (p : CircuitAndRows). start_of p.circuit) h.pair ∙ sym k.start ∙ sym h.start in
    let rows : s.pair.rows ≡ s.kept.rows = ap (λ (p : CircuitAndRows). p.rows) h.pair ∙ sym k.rows ∙ sym h.rows in
    denied (λ i. record { start = first i; rows = rows i }))

-- no call more
pub with_none : (calls : Option (List Call)) → calls ≡ with_calls calls []
with_none None = refl
with_none (Some old) = ap Some (sym (append-nil old))

-- the one call that gives files these texts
one_call : (texts : List KeptText) → texts ≢ [] → calls_of texts ≡ files.kept texts ∷ []
one_call [] denied = absurd (denied refl)
one_call (text ∷ texts) denied = refl

-- what answers a request that does not end the session
other_request : (r : Request) (s : SessionState) (text : List ℕ) (calls : List Call) (after : SessionState) → r ≢ quit
    → ((texts : List KeptText) × Answers s r text texts after × (calls ≡ calls_of texts))
    ⊎ (IsRefused s r calls × IsRefusal text × (after ≡ calm s))
    → AnswersRequest s r text calls false after
other_request (show names frames) s text calls after denied h = (refl, h)
other_request why_first s text calls after denied h = (refl, h)
other_request (why name frame) s text calls after denied h = (refl, h)
other_request (set frames name value) s text calls after denied h = (refl, h)
other_request (start name value) s text calls after denied h = (refl, h)
other_request (add count) s text calls after denied h = (refl, h)
other_request (request.drop count) s text calls after denied h = (refl, h)
other_request (gate name) s text calls after denied h = (refl, h)
other_request (rewire name side0 side1) s text calls after denied h = (refl, h)
other_request (append side0 side1) s text calls after denied h = (refl, h)
other_request (out name literal) s text calls after denied h = (refl, h)
other_request check s text calls after denied h = (refl, h)
other_request (diff frames) s text calls after denied h = (refl, h)
other_request (save circuit stimulus) s text calls after denied h = (refl, h)
other_request (witness file name) s text calls after denied h = (refl, h)
other_request (wave file) s text calls after denied h = (refl, h)
other_request (list_names part) s text calls after denied h = (refl, h)
other_request (help command) s text calls after denied h = (refl, h)
other_request quit s text calls after denied h = absurd (denied refl)

pub no_quit_query : (q : ShellQuery) → query_of q ≢ quit
no_quit_query (queries.Show names frames) e = cc e
no_quit_query (queries.Why None frame) e = cc e
no_quit_query (queries.Why (Some name) frame) e = cc e
no_quit_query (queries.Gate name) e = cc e
no_quit_query queries.Check e = cc e
no_quit_query (queries.Diff frames) e = cc e
no_quit_query (queries.Names text) e = cc e
no_quit_query (queries.Help command) e = cc e

pub no_quit_edit : (e : Edit) → edit_of e ≢ quit
no_quit_edit (edits.Set frames name value) e = cc e
no_quit_edit (edits.Start name value) e = cc e
no_quit_edit (edits.Add count) e = cc e
no_quit_edit (edits.Drop count) e = cc e
no_quit_edit (edits.Rewire name side0 side1) e = cc e
no_quit_edit (edits.New side0 side1) e = cc e
no_quit_edit (edits.Out name literal) e = cc e

pub no_quit_export : (x : Export) → export_of x ≢ quit
no_quit_export (exports.Save circuit stimulus) e = cc e
no_quit_export (exports.Witness file name) e = cc e
no_quit_export (exports.Wave file) e = cc e

-- after an edit, and after a file was written, a `quit` before does not count
edit_calms : (e : Edit) (s : SessionState) (text : List ℕ) (texts : List KeptText) (after : SessionState)
    → Answers s (edit_of e) text texts after → after.has_warned ≡ false
edit_calms (edits.Set frames name value) s text texts after h = ap (λ (t : SessionState). t.has_warned) h.0.2
edit_calms (edits.Start name value) s text texts after h = ap (λ (t : SessionState). t.has_warned) h.0.2
edit_calms (edits.Add count) s text texts after h = ap (λ (t : SessionState). t.has_warned) h.0.2
edit_calms (edits.Drop count) s text texts after h = ap (λ (t : SessionState). t.has_warned) h.0.2
edit_calms (edits.Rewire name side0 side1) s text texts after h = ap (λ (t : SessionState). t.has_warned) h.0.2
edit_calms (edits.New side0 side1) s text texts after h = ap (λ (t : SessionState). t.has_warned) h.0.2
edit_calms (edits.Out name literal) s text texts after h = ap (λ (t : SessionState). t.has_warned) h.0.2

either_false : (b : Bool) (P : Type 0) → (P → b ≡ false) → ((P → ⊥) → b ≡ false) → b ≡ false
either_false false P holds denied = refl
either_false true P holds denied = denied (λ p. let e : true ≡ false = holds p in cc e)

save_calms : (s : SessionState) (stimulus : Option (List ℕ)) (text : List ℕ) (after : SessionState)
    → AnswersSave s stimulus text after → after.has_warned ≡ false
save_calms s None text after h = ap (λ (t : SessionState). t.has_warned) h.1
save_calms s (Some stimulus) text after h =
    either_false after.has_warned (StartsByReset s) (λ p. let g = h.0 p in ap (λ (t : SessionState). t.has_warned) g.1)
    (λ denied. let g = h.1 denied in ap (λ (t : SessionState). t.has_warned) g.1)

export_calms : (x : Export) (s : SessionState) (text : List ℕ) (texts : List KeptText) (after : SessionState)
    → Answers s (export_of x) text texts after → after.has_warned ≡ false
export_calms (exports.Save circuit stimulus) s text texts after h = save_calms s _ text after h.1
export_calms (exports.Witness file name) s text texts after h = ap (λ (t : SessionState). t.has_warned) h.1
export_calms (exports.Wave file) s text texts after h = ap (λ (t : SessionState). t.has_warned) h.2

abbrev pub Calls : Type 0
Calls = Option (List Call)

-- a refusal answers a request, unless memory ran out
refusal_answers : (session : Session) (r : Request) (refusal : Refusal) (calls : List Call) → r ≢ quit
    → (refusal ≢ refusals.Memory → (s : SessionState) → IsIn session s → IsRefused s r calls)
    → refusal ≢ refusals.Memory → (s : SessionState) → IsIn session s → (text : List ℕ) → IsRefusal text
    → AnswersRequest s r text calls false (calm s)
refusal_answers session r refusal calls denied none other s h text said =
    other_request r s text calls (calm s) denied (inr (none other s h, said, refl))

-- a request that only asks
pub query_answered : (old new : Conversation) (warned : Bool) (q : ShellQuery) (calls : Calls)
    → new.session ≡ old.session → new.has_warned ≡ false
    → ((s : SessionState) → IsIn old.session s → Answers s (query_of q) new.text.items [] (calm s))
    → EndsRequest old warned (query_of q) (Ok next.GoesOn) calls calls new
query_answered old new warned q calls same e answers s h w = (
  [],
  calm s,
  other_request (query_of q) s new.text.items [] (calm s) (no_quit_query q) (inl ([], answers s h, refl)),
  at_calm new s (subst (λ (t : Session). IsIn t s) (sym same) h) e,
  with_none calls,
)

pub query_refused : (old new : Conversation) (warned : Bool) (q : ShellQuery) (calls : Calls) (result : Result AfterLine Refusal) (refusal : Refusal)
    → new.session ≡ old.session → new.has_warned ≡ false → IsErrAnd result (λ e. e ≡ refusal)
    → (refusal ≢ refusals.Memory → (s : SessionState) → IsIn old.session s → HasNoAnswer s (query_of q))
    → EndsRequest old warned (query_of q) result calls calls new
query_refused old new warned q calls (Ok x) refusal same e cause none = absurd cause
query_refused old new warned q calls (Err other) refusal same e cause none = (
  (λ s h. at_calm new s (subst (λ (t : Session). IsIn t s) (sym same) h) e),
  [],
  with_none calls,
  inl refl,
  refusal_answers old.session (query_of q) other [] (no_quit_query q)
      (λ denied s h. inl (none (λ m. denied (cause ∙ m)) s h, refl)),
)

-- one that edits
pub edit_answered : (old new : Conversation) (warned : Bool) (edit : Edit) (calls : Calls) → new.has_warned ≡ false
    → ((s : SessionState) → IsIn old.session s
    → (after : SessionState) × Answers s (edit_of edit) new.text.items [] after × IsIn new.session after)
    → EndsRequest old warned (edit_of edit) (Ok next.GoesOn) calls calls new
edit_answered old new warned edit calls e answers s h w =
    let (after, a, i) = answers s h in (
      [],
      after,
      other_request (edit_of edit) s new.text.items [] after (no_quit_edit edit) (inl ([], a, refl)),
      record { state = i; warned = edit_calms edit s new.text.items [] after a ∙ sym e },
      with_none calls,
    )

pub edit_refused : (old new : Conversation) (warned : Bool) (edit : Edit) (calls : Calls) (result : Result AfterLine Refusal) (refusal : Refusal)
    → new.has_warned ≡ false → IsErrAnd result (λ e. e ≡ refusal)
    → ((s : SessionState) → IsIn old.session s → IsIn new.session s)
    × (refusal ≢ refusals.Memory → (s : SessionState) → IsIn old.session s → HasNoAnswer s (edit_of edit))
    → EndsRequest old warned (edit_of edit) result calls calls new
edit_refused old new warned edit calls (Ok x) refusal e cause h = absurd cause
edit_refused old new warned edit calls (Err other) refusal e cause (stays, none) = (
  (λ s h. at_calm new s (stays s h) e),
  [],
  with_none calls,
  inl refl,
  refusal_answers old.session (edit_of edit) other [] (no_quit_edit edit)
      (λ denied s h. inl (none (λ m. denied (cause ∙ m)) s h, refl)),
)

-- one that writes files
pub export_answered : (old new : Conversation) (warned : Bool) (x : Export) (old_calls new_calls : Calls)
    → new.has_warned ≡ false
    → ((s : SessionState) → IsIn old.session s
    → (texts : List KeptText) × (after : SessionState) × Answers s (export_of x) new.text.items texts after × IsIn new.session after
    × (texts ≢ []) × (new_calls ≡ with_calls old_calls (files.kept texts ∷ [])))
    → EndsRequest old warned (export_of x) (Ok next.GoesOn) old_calls new_calls new
export_answered old new warned x old_calls new_calls e answers s h w =
    let (texts, after, a, i, given, got) = answers s h in (
      calls_of texts,
      after,
      other_request (export_of x) s new.text.items (calls_of texts) after (no_quit_export x) (inl (texts, a, refl)),
      record { state = i; warned = export_calms x s new.text.items texts after a ∙ sym e },
      got ∙ ap (with_calls old_calls) (sym (one_call texts given)),
    )

pub export_refused : (old new : Conversation) (warned : Bool) (x : Export) (old_calls new_calls : Calls)
    (result : Result AfterLine Refusal) (cause : Refusal) → new.has_warned ≡ false → IsErrAnd result (λ e. e ≡ cause)
    → EndsFiles {A = Unit {0}} old.session (export_of x) (Err cause) [] old_calls new_calls new.session
    → EndsRequest old warned (export_of x) result old_calls new_calls new
export_refused old new warned x old_calls new_calls (Ok y) cause e err h = absurd err
export_refused old new warned x old_calls new_calls (Err refusal) cause e err (same, calls, got, comes, none) = (
  (λ s h. at_calm new s (subst (λ (t : Session). IsIn t s) (sym same) h) e),
  calls,
  got,
  subst (λ (r : Refusal). ComesAfter r calls) (sym err) comes,
  refusal_answers old.session (export_of x) refusal calls (no_quit_export x) (λ denied. none (λ m. denied (err ∙ m))),
)

-- `quit`
pub quit_answered : (old new : Conversation) (warned : Bool) (calls : Calls) (next : AfterLine) → EndsQuit {E = Memory} old warned (Ok next) new
    → EndsRequest old warned quit (Ok next) calls calls new
quit_answered old new warned calls next quits s h w =
    let (after, ends, at) = quits s h w in
    ([], after, (ends, refl), at, with_none calls)

pub quit_refused : (old new : Conversation) (warned : Bool) (calls : Calls) (result : Result AfterLine Refusal)
    → IsErrAnd result (λ e. e ≡ refusals.Memory) → ((s : SessionState) → IsIn old.session s → IsAt new (calm s))
    → EndsRequest old warned quit result calls calls new
quit_refused old new warned calls (Ok x) err calms = absurd err
quit_refused old new warned calls (Err refusal) err calms =
    (calms, [], with_none calls, inl refl, λ denied. absurd (denied err))

pub quit_twice : (c : Conversation) (warned : Bool) → c.has_warned ≡ false → c.text.items ≡ [] → warned ≡ true
    → EndsQuit {E = Memory} c warned (Ok next.Ends) c
quit_twice c warned e empty holds s h w = (calm s, (inl (w ∙ holds), empty, refl), at_calm c s h e)

saved : (c : Conversation) (warned : Bool) → c.has_warned ≡ false → c.text.items ≡ []
    → (HasUnsaved c.session → ⊥) → EndsQuit {E = Memory} c warned (Ok next.Ends) c
saved c warned e empty none s h w = (calm s, (inr (λ u. none (not_lost c.session s h u)), empty, refl), at_calm c s h e)

pub quit_saved : (old new : Conversation) (warned told : Bool) → old.has_warned ≡ false → old.text.items ≡ []
    → (IsTrue told ↔ HasUnsaved old.session) → told ≡ false → new ≡ old → EndsQuit {E = Memory} old warned (Ok next.Ends) new
quit_saved old new warned told e empty tells silent same =
    subst (λ (c : Conversation). EndsQuit {E = Memory} old warned (Ok next.Ends) c) (sym same)
    (saved old warned e empty (λ u. let shown : told ≡ true = tells.1 u in let never : true ≡ false = sym shown ∙ silent in cc never))

pub quit_warns : (old new : Conversation) (warned : Bool) → new.session ≡ old.session → new.has_warned ≡ true
    → HasUnsaved old.session → warned ≡ false → (what : List ℕ) × (new.text.items ≡ codes "unsaved: " ++ what)
    → EndsQuit {E = Memory} old warned (Ok next.GoesOn) new
quit_warns old new warned same e unsaved first said s h w = (
  record s { has_warned = true },
  (lost old.session s h unsaved, w ∙ first, said, refl),
  record {
    state = subst (λ (t : Session). IsIn t (record s { has_warned = true })) (sym same)
        (record { pair = h.pair; latches = h.latches; property = h.property; first = h.first; entries = h.entries; start = h.start; rows = h.rows; circuit = h.circuit });
    warned = sym e;
  },
)

-- more is added to what is unsaved
pub said_more : (old mid new what more : List ℕ) → old ≡ [] → mid ≡ old ++ (codes "unsaved: " ++ what) → new ≡ mid ++ more
    → (all : List ℕ) × (new ≡ codes "unsaved: " ++ all)
said_more old mid new what more empty e f = (
  what ++ more,
  f ∙ ap (λ (t : List ℕ). t ++ more) (e ∙ ap (λ (t : List ℕ). t ++ (codes "unsaved: " ++ what)) empty)
      ∙ append_assoc (codes "unsaved: ") what more,
)

-- the words of a line ask for something
pub words_answered : (old mid new : Conversation) (ws : List (List ℕ)) (r : Request) (result : Result AfterLine Refusal) (old_calls new_calls : Calls)
    → mid.session ≡ old.session → IsRequest r → ws ≡ request_words r → EndsRequest mid old.has_warned r result old_calls new_calls new
    → EndsWords old ws result old_calls new_calls new
words_answered old mid new ws r (Ok next) old_calls new_calls same is e h = λ s at.
    let (called, after, answers, state, got) = h s (subst (λ (t : Session). IsIn t s) (sym same) at.state) at.warned in
    (called, after, inr (inl (r, is, e, answers)), state, got)
words_answered old mid new ws r (Err refusal) old_calls new_calls same is e (calms, calls, got, comes, answers) = (
  (λ s at. inr (calms s (subst (λ (t : Session). IsIn t s) (sym same) at.state))),
  calls,
  got,
  comes,
  λ denied s at text said. (
    inr (inl (r, is, e, answers denied s (subst (λ (t : Session). IsIn t s) (sym same) at.state) text said)),
    calms s (subst (λ (t : Session). IsIn t s) (sym same) at.state),
  ),
)

-- they ask for nothing
pub words_refused : (old new : Conversation) (ws : List (List ℕ)) (result : Result AfterLine Refusal) (cause : Refusal) (calls : Calls)
    → new.session ≡ old.session → new.has_warned ≡ false → IsErrAnd result (λ e. e ≡ cause) → IsNoRequest ws
    → EndsWords old ws result calls calls new
words_refused old new ws (Ok x) cause calls same e err none = absurd err
words_refused old new ws (Err refusal) cause calls same e err none =
    let calms : (s : SessionState) → IsAt old s → IsAt new (calm s) =
    λ s at. at_calm new s (subst (λ (t : Session). IsIn t s) (sym same) at.state) e in (
      (λ s at. inr (calms s at)),
      [],
      with_none calls,
      inl refl,
      λ denied s at text said. (inr (inr (inl (none, said, refl, refl, refl))), calms s at),
    )

-- nothing is asked for
pub words_silent : (old : Conversation) (ws : List (List ℕ)) (calls : Calls) → old.text.items ≡ [] → IsSilent ws
    → EndsWords old ws (Ok next.GoesOn) calls calls old
words_silent old ws calls empty silent s at = ([], s, inl (silent, empty, refl, refl, refl), at, with_none calls)

pub no_words : (ws : List (Bor (List ℕ))) → length ws ≡ 0 → IsSilent (map (λ (w : Bor (List ℕ)). w.now) ws)
no_words [] e = inl refl
no_words (w ∷ ws) e = let never : ⊥ = cc e in absurd never

pub comment : (ws rest : List (Bor (List ℕ))) (first : Bor (List ℕ)) (more : List ℕ) → ws ≡ first ∷ rest → first.now ≡ 35 ∷ more
    → IsSilent (map (λ (w : Bor (List ℕ)). w.now) ws)
comment ws rest first more e f =
    inr (
      more,
      map (λ (w : Bor (List ℕ)). w.now) rest,
      ap (map (λ (w : Bor (List ℕ)). w.now)) e ∙ ap (λ (t : List ℕ). t ∷ map (λ (w : Bor (List ℕ)). w.now) rest) f,
    )

-- the words of a line were not found: nothing is done
pub words_lacking : (old : Conversation) (ws : List (List ℕ)) (result : Result AfterLine Refusal) (calls : Calls)
    → IsErrAnd result (λ e. e ≡ refusals.Memory) → EndsWords old ws result calls calls old
words_lacking old ws (Ok x) calls err = absurd err
words_lacking old ws (Err refusal) calls err =
    ((λ s at. inl at), [], with_none calls, inl refl, λ denied. absurd (denied err))

at_same : (c d : Conversation) (s : SessionState) → d.session ≡ c.session → d.has_warned ≡ c.has_warned → IsAt c s → IsAt d s
at_same c d s same e at = record {
  state = subst (λ (t : Session). IsIn t s) (sym same) at.state;
  warned = at.warned ∙ sym e;
}

-- what the spaced line is
spaced_line : (line spaced : List ℕ) → spaced ≡ map spaced_byte line → words spaced ≡ line_words line
spaced_line line spaced e = ap words e

-- the words are answered
pub line_answered : (old mid new : Conversation) (line spaced : List ℕ) (next : AfterLine) (old_calls new_calls : Calls) → mid.session ≡ old.session
    → mid.has_warned ≡ old.has_warned → spaced ≡ map spaced_byte line
    → EndsWords mid (words spaced) (Ok next) old_calls new_calls new
    → AnswersLine old line new.text.items old_calls new_calls (ends_after next) new
line_answered old mid new line spaced next old_calls new_calls same warned e h s at =
    let (called, after, answers, state, got) = h s (at_same old mid s same warned at) in (
      called,
      after,
      subst (λ (ws : List (List ℕ)). WordsAnswer s ws new.text.items called (ends_after next) after) (spaced_line line spaced e) answers,
      state,
      got,
    )

-- memory ran out: the state is the one before, or calm
lacks : (s : SessionState) (new : Conversation) (line : List ℕ) (old_calls new_calls : Calls) (called : List Call)
    → new_calls ≡ with_calls old_calls called → WritesNone called → IsAt new s ⊎ IsAt new (calm s)
    → (calls : List Call) × (after : SessionState) × LineAnswer s line no_memory calls false after × IsAt new after
    × (new_calls ≡ with_calls old_calls calls)
lacks s new line old_calls new_calls called got writes (inl at) =
    (called, s, inr (inr (inr (refl, writes, refl, inl refl))), at, got)
lacks s new line old_calls new_calls called got writes (inr at) =
    (called, calm s, inr (inr (inr (refl, writes, refl, inr refl))), at, got)

pub line_lacking : (old new : Conversation) (line : List ℕ) (calls : Calls) (result : Result AfterLine Memory) → new.session ≡ old.session
    → new.has_warned ≡ old.has_warned → OnErr result (AnswersLine old line no_memory calls calls false new)
line_lacking old new line calls (Ok x) same warned = tt
line_lacking old new line calls (Err e) same warned = λ s at.
    lacks s new line calls calls [] (with_none calls) (inl refl) (inl (at_same old new s same warned at))

-- before a refusal no file is written
writes_none : (refusal : Refusal) (calls : List Call) → ComesAfter refusal calls → WritesNone calls
writes_none refusal calls (inl e) = inl e
writes_none refusal calls (inr (other, texts, one)) = inr (texts, one)

lacking_after : (mid new : Conversation) (s : SessionState) → new.session ≡ mid.session → new.has_warned ≡ mid.has_warned
    → IsAt mid s ⊎ IsAt mid (calm s) → IsAt new s ⊎ IsAt new (calm s)
lacking_after mid new s same warned (inl at) = inl (at_same mid new s same warned at)
lacking_after mid new s same warned (inr at) = inr (at_same mid new (calm s) same warned at)

-- there is no memory for a refusal
pub refusal_lacking : (old begun mid new : Conversation) (line : List ℕ) (ws : List (List ℕ)) (refusal : Refusal) (old_calls new_calls : Calls)
    (result : Result AfterLine Memory) → begun.session ≡ old.session → begun.has_warned ≡ old.has_warned
    → EndsWords begun ws (Err refusal) old_calls new_calls mid → new.session ≡ mid.session → new.has_warned ≡ mid.has_warned
    → OnErr result (AnswersLine old line no_memory old_calls new_calls false new)
refusal_lacking old begun mid new line ws refusal old_calls new_calls (Ok x) same warned h same' warned' = tt
refusal_lacking old begun mid new line ws refusal old_calls new_calls (Err e) same warned (stays, calls, got, comes, answers) same' warned' =
    λ s at.
    lacks s new line old_calls new_calls calls got (writes_none refusal calls comes)
    (lacking_after mid new s same' warned' (stays s (at_same old begun s same warned at)))

-- the answer is a refusal
pub line_refused : (old begun mid new : Conversation) (line spaced : List ℕ) (refusal : Refusal) (old_calls new_calls : Calls)
    → begun.session ≡ old.session → begun.has_warned ≡ old.has_warned → spaced ≡ map spaced_byte line
    → EndsWords begun (words spaced) (Err refusal) old_calls new_calls mid → refusal ≢ refusals.Memory → IsRefusal new.text.items
    → new.session ≡ mid.session → new.has_warned ≡ mid.has_warned
    → AnswersLine old line new.text.items old_calls new_calls false new
line_refused old begun mid new line spaced refusal old_calls new_calls same warned e (stays, calls, got, comes, answers) other said same' warned' s at =
    let (answer, calms) = answers other s (at_same old begun s same warned at) new.text.items said in (
      calls,
      calm s,
      subst (λ (ws : List (List ℕ)). WordsAnswer s ws new.text.items calls false (calm s)) (spaced_line line spaced e) answer,
      at_same mid new (calm s) same' warned' calms,
      got,
    )

-- a command that is this one
pub request_is : (old new : Conversation) (warned : Bool) (command known : ShellCommand) (result : Result AfterLine Refusal) (old_calls new_calls : Calls)
    → command ≡ known → EndsRequest old warned (request_of known) result old_calls new_calls new
    → EndsRequest old warned (request_of command) result old_calls new_calls new
request_is old new warned command known result old_calls new_calls e h =
    subst (λ (x : ShellCommand). EndsRequest old warned (request_of x) result old_calls new_calls new) (sym e) h
