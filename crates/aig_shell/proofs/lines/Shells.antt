-- How a session over files ends.
use Rattle.std.proofs.Common.{◌≡◌, ◌⊎◌, inl, inr, ℕ, ◌+◌, ◌*◌, ◌<◌, Bool, false, List, [], length, Option}
use Rattle.std.proofs.Common.{Result, Ok, Err, refl, sym, ap, subst, ◌∙◌}
use Rattle.std.specs.Prelude.{IfOk, IfErr, OnOk, OnErr}
use Rattle.std.proofs.lemmas.Result.{IfErr-weaker, IfOk-weaker}
use Rattle.aig_bytes.specs.Bytes.{before, IsAtEnd}
use Rattle.aig_bytes.specs.Flow.{Flow, flow}
use Rattle.aig_bytes.proofs.WriteLemmas.{after-nil}
use Rattle.aig_parts.specs.Limits.{cell_limit}
use Rattle.aig_parts.specs.declared.raw.Raw.{Raw}
use Rattle.aig_parts.specs.declared.ternary.Tern.{Tern}
use Rattle.aig_bench.specs.declared.bench.fault.BenchFault.{BenchFault}
use Rattle.aig_bench.specs.declared.bench.fault.BenchFault.TheVariants as benches
use Rattle.aig_command.specs.Command.{IsFileOf}
use Rattle.aig_command.specs.Given.{IsGiven, ReadRun}
use Rattle.aig_command.specs.declared.given.Given.{Given}
use Rattle.aig_command.specs.declared.run_fault.RunFault.{RunFault}
use Rattle.aig_command.specs.declared.run_fault.RunFault.TheVariants as run_faults
use Rattle.aig_shell.specs.declared.talk.conversation.Conversation.{Conversation}
use Rattle.aig_shell.specs.declared.session.Session.{Session}
use Rattle.aig_shell.specs.declared.talk.LineBuffer.{LineBuffer}
use Rattle.aig_shell.specs.declared.talk.Talker.{Talker}
use Rattle.aig_shell.specs.Conversation.{Passes, Ended, BreaksDown, BeginsSession, EndsShell}
use Rattle.aig_shell.specs.Conversation.{HoldsSession, IsAt, OpensSession, RefusesFiles, RefusesRows}
use Rattle.aig_shell.specs.Files.{Call}
use Rattle.aig_shell.specs.Session.{BeginsAt, IsIn, first_state}
use Rattle.aig_shell.specs.State.{SessionState}
use Rattle.aig_shell.specs.Talking.{Moment, HoldsLine, Done, Part, EndsInput}

-- what passes, as values
abbrev pub passes_of : {Y X Z : Type 0} → Flow Y → Flow X → (Z → Option (List Call)) → Z → Z → Passes Y X Z
passes_of reader out calls files files_after =
    record { reader = reader; out = out; calls = calls; files = files; files_after = files_after }

module _ {Y X Z : Type 0} (left : Y → Option (List ℕ)) (read_failures : Y → ℕ) (written : X → Option (List ℕ)) (failures : X → ℕ)
    (calls : Z → Option (List Call)) (reader reader' : Y) (files files' : Z) (out out' : X) (person : Bool) (s : SessionState) where
  abbrev pub start_of_all : Moment
  start_of_all = record { bytes = written out; failures = failures out; calls = calls files }

  abbrev pub end_of_all : Moment
  end_of_all = record { bytes = written out'; failures = failures out'; calls = calls files' }

  pub ended_done : (input : List ℕ) (quits : Bool) → Done start_of_all end_of_all person s input quits
      → left reader ≡ before input (left reader') → (quits ≡ false → IsAtEnd (left reader'))
      → Ended (passes_of (flow left read_failures reader reader') (flow written failures out out') calls files files') person s
  ended_done input quits d read whole = record {
    input = input;
    text = d.text;
    calls = d.calls;
    quits = quits;
    talk = d.talk;
    read = read;
    whole = whole;
    got = record { got = d.got; count = d.count };
    called = d.called;
  }

  pub breaks_part : (input : List ℕ) → Part start_of_all end_of_all person s input
      → left reader ≡ before input (left reader')
      → ((read_failures reader < read_failures reader') × (failures out' ≡ failures out)) ⊎ (failures out < failures out')
      → BreaksDown (passes_of (flow left read_failures reader reader') (flow written failures out out') calls files files') person s
  breaks_part input p read failed = record {
    input = p.part;
    text = p.text;
    calls = p.calls;
    quits = p.quits;
    talk = p.talk;
    rest = p.rest;
    read = read ∙ ap (λ (i : List ℕ). before i (left reader')) p.input_is;
    done = p.done;
    beginning = p.beginning;
    got = p.got;
    failed = failed;
    called = p.called;
  }

-- ---- the session of files

-- a fault of a bench is that of its rows
pub rows_refused : {T : Type 0} (r : Result T BenchFault) (raw : Raw) (rows : List (List Tern)) (fault : BenchFault) → r ≡ Err fault
    → (r ≡ Err benches.Width → ⊥) → (r ≡ Err benches.Limit → cell_limit < (raw.max_var + 1) * length rows)
    → RefusesRows raw rows (run_faults.Bench fault)
rows_refused r raw rows benches.Width is never limit = absurd (never is)
rows_refused r raw rows benches.Limit is never limit = limit is
rows_refused r raw rows benches.Memory is never limit = tt

pub begins_session : (raw : Raw) (run : ReadRun) (r : Result Session RunFault)
    → IfOk r (λ s. BeginsAt raw run.start run.rows s.run.bench.pair)
    → IfOk r (λ s. IsIn s (first_state raw run.property s.run.bench.pair)) → IfOk r (BeginsSession raw run)
begins_session raw run (Err e) a b = tt
begins_session raw run (Ok s) a b = (a, b)

module _ (file : List ℕ) (given : Given (List ℕ)) (raw : Raw) (run : ReadRun) (is : IsFileOf file raw) (begins : IsGiven raw given run)
    (r : Result Session RunFault) where
  pub opens : IfOk r (BeginsSession raw run) → IfOk r (OpensSession file given)
  opens h = IfOk-weaker r _ _ (λ session b. (raw, is, (run, begins, b))) h

  pub refuses : IfErr r (RefusesRows raw run.rows) → IfErr r (RefusesFiles file given)
  refuses h = IfErr-weaker r _ _ (λ fault f. inr (raw, is, inr (run, begins, f))) h

-- ---- the session of lines

module _ {Y X Z : Type 0} (passes : Passes Y X Z) (person : Bool) (file : List ℕ) (given : Given (List ℕ)) where
  pub holds_session : (Ends : Passes Y X Z → Bool → SessionState → Type 0) (session : Session) (c : Conversation) (t : Talker)
      → OpensSession file given session → c.session ≡ session → c.has_warned ≡ false → t.conversation ≡ c → t.has_prompt ≡ person
      → HoldsLine [] t.line → ((s : SessionState) → IsAt t.conversation s → HoldsLine [] t.line → Ends passes t.has_prompt s)
      → (raw : Raw) × IsFileOf file raw × HoldsSession passes person raw given Ends
  holds_session Ends session c t (raw, is, (run, begins, (at, inside))) same calm talks prompts line ends =
      let state = first_state raw run.property session.run.bench.pair in
      let of_session : IsAt c state
      = record {
        state = subst (λ (s : Session). IsIn s state) (sym same) inside;
        warned = sym calm;
      } in (
        raw,
        is,
        (
          run,
          session.run.bench.pair,
          begins,
          at,
          subst (λ (b : Bool). Ends passes b state) prompts (ends state (subst (λ (d : Conversation). IsAt d state) (sym talks) of_session) line),
        ),
      )

module _ {Y X Z : Type 0} (left : Y → Option (List ℕ)) (read_failures : Y → ℕ) (written : X → Option (List ℕ)) (failures : X → ℕ)
    (calls : Z → Option (List Call)) (reader : Y) (files : Z) (out : X) (person : Bool) (file : List ℕ) (given : Given (List ℕ)) where
  -- nothing passes before a refusal
  pub shell_refused : (fault : RunFault) → RefusesFiles file given fault
      → EndsShell (passes_of (flow left read_failures reader reader) (flow written failures out out) calls files files) person file given (Err fault)
  shell_refused fault h = inl (h, (refl, record { got = sym (after-nil (written out)); count = refl }, refl))

-- ---- the end of the input

module _ {Y X Z : Type 0} (left : Y → Option (List ℕ)) (read_failures : Y → ℕ) (written : X → Option (List ℕ)) (failures : X → ℕ)
    (calls : Z → Option (List Call)) (reader reader' : Y) (files files' : Z) (out out' : X) (person : Bool)
    (c : Conversation) (line : LineBuffer) where
  -- so far the input gives this
  abbrev pub Gives : (SessionState → List ℕ → Type 0) → Type 0
  Gives P =
      (s : SessionState) → IsAt c s → HoldsLine [] line
      → (input : List ℕ) × (left reader ≡ before input (left reader')) × P s input

  pub ends_ok : {E : Type 0} (result : Result (Unit {0}) E)
      → Gives (λ s input. EndsInput (record { bytes = written out; failures = failures out; calls = calls files })
      (record { bytes = written out'; failures = failures out'; calls = calls files' }) person s input result)
      → IsAtEnd (left reader')
      → OnOk result ((s : SessionState) → IsAt c s → HoldsLine [] line
      → Ended (passes_of (flow left read_failures reader reader') (flow written failures out out') calls files files') person s)
  ends_ok (Err e) g end = tt
  ends_ok (Ok x) g end = λ s at h.
      let (input, read, (quits, d)) = g s at h in
      ended_done left read_failures written failures calls reader reader' files files' out out' person s input quits d read (λ q. end)

  pub ends_broken : {A E : Type 0} (result : Result A E)
      → Gives (λ s input. EndsInput (record { bytes = written out; failures = failures out; calls = calls files })
      (record { bytes = written out'; failures = failures out'; calls = calls files' }) person s input result)
      → OnErr result ((s : SessionState) → IsAt c s → HoldsLine [] line
      → BreaksDown (passes_of (flow left read_failures reader reader') (flow written failures out out') calls files files') person s)
  ends_broken (Ok x) g = tt
  ends_broken (Err e) g = λ s at h.
      let (input, read, (p, more)) = g s at h in
      breaks_part left read_failures written failures calls reader reader' files files' out out' person s input p read (inr more)
