-- How a session goes on, line by line.
use Rattle.std.proofs.Common.{◌≡◌, ◌≢◌, ◌⊎◌, inl, inr, ℕ, ◌+◌, ◌<◌, Bool, true, false, List, [], ◌∷◌, ◌++◌, All, length}
use Rattle.std.proofs.Common.{take, drop, slice_get, Option, Some, Result, Ok, Err, IsErr, OnOk, OnErr, refl, sym, ap}
use Rattle.std.proofs.Common.{subst, ◌∙◌, arith, append_assoc}
use Rattle.std.specs.Prelude.{None, if◌then◌else◌}
use Rattle.std.proofs.lemmas.Bool.{false≢true}
use Rattle.std.proofs.lemmas.List.{append-nil, take-append-drop, drop_more, nil_from_length}
use Rattle.std.proofs.lemmas.List.Elements.{All-append, All-nil}
use Rattle.std.proofs.lemmas.Option.{get_or_from_slice_get}
use Rattle.aig_bytes.specs.Bytes.{after, failed, IsBeginning}
use Rattle.aig_bytes.proofs.WriteLemmas.{after-append, after-nil}
use Rattle.aig_shell.specs.declared.talk.conversation.Conversation.{Conversation}
use Rattle.aig_shell.specs.declared.talk.conversation.AfterLine.{AfterLine}
use Rattle.aig_shell.specs.declared.talk.conversation.AfterLine.TheVariants as next
use Rattle.aig_shell.specs.declared.talk.LineBuffer.{LineBuffer}
use Rattle.aig_shell.specs.declared.talk.Talker.{Talker}
use Rattle.aig_shell.specs.Answers.{LineAnswer, IsUnsaved}
use Rattle.aig_shell.specs.Conversation.{IsPiece, Answered, none, one_more, Converses, at_end, ended, last, AnswersLine}
use Rattle.aig_shell.specs.Conversation.{IsAt, no_memory, IsGreeting, IsFarewell, ends_after, prompt}
use Rattle.aig_shell.specs.Ends.{with_calls}
use Rattle.aig_shell.specs.Files.{Call}
use Rattle.aig_shell.specs.State.{SessionState}
use Rattle.aig_shell.specs.Talking.{Moment, HoldsLine, Replies, Stands, Done, Part, Finished, Finishes, Feeds}
use Rattle.aig_shell.specs.Talking.{EndsInput, newline}

-- ---- lists

first_of_none : (text bytes : List ℕ) → text ++ bytes ≡ [] → text ≡ []
first_of_none [] bytes e = refl
first_of_none (x ∷ text) bytes e = let no : ⊥ = cc in absurd no

-- bytes up to the end of a line, and what stands after
pub split_line : (xs : List ℕ) (n : ℕ) → n < length xs → slice_get xs n ≡ Some 10 → xs ≡ take n xs ++ (10 ∷ drop (n + 1) xs)
split_line xs n lt e =
    sym (take-append-drop n xs) ∙ ap (λ (t : List ℕ). take n xs ++ t) (drop_more xs n 0 lt)
    ∙ ap (λ (b : ℕ). take n xs ++ (b ∷ drop (n + 1) xs)) (get_or_from_slice_get xs n 10 0 e)

-- the first bytes of what stands last in a text
begins_in : (greeting text all done more : List ℕ) → all ≡ done ++ more
    → greeting ++ (text ++ all) ≡ ((greeting ++ text) ++ done) ++ more
begins_in greeting text all done more e =
    ap (λ (t : List ℕ). greeting ++ (text ++ t)) e ∙ sym (append_assoc greeting text (done ++ more))
    ∙ sym (append_assoc (greeting ++ text) done more)

-- ---- what is written, and the calls, in turn

wrote_on : (start mid now : Option (List ℕ)) (a b : List ℕ) → mid ≡ after start a → now ≡ after mid b → now ≡ after start (a ++ b)
wrote_on start mid now a b e f = f ∙ ap (λ (w : Option (List ℕ)). after w b) e ∙ after-append start a b

with_more : (start : Option (List Call)) (a b : List Call)
    → with_calls (with_calls start a) b ≡ with_calls start (a ++ b)
with_more None a b = refl
with_more (Some old) a b = ap Some (append_assoc old a b)

called_on : (start mid now : Option (List Call)) (a b : List Call) → mid ≡ with_calls start a
    → now ≡ with_calls mid b → now ≡ with_calls start (a ++ b)
called_on start mid now a b e f = f ∙ ap (λ (w : Option (List Call)). with_calls w b) e ∙ with_more start a b

with_none : (start : Option (List Call)) → start ≡ with_calls start []
with_none None = refl
with_none (Some old) = ap Some (sym (append-nil old))

-- ---- the line so far

pub holds_same : (text bytes : List ℕ) (line : LineBuffer) → bytes ≡ [] → HoldsLine text line → HoldsLine (text ++ bytes) line
holds_same text bytes line e h = subst (λ (t : List ℕ). HoldsLine t line) (sym (ap (λ (b : List ℕ). text ++ b) e ∙ append-nil text)) h

pub holds_cut : (text bytes : List ℕ) (line : LineBuffer) → line.is_cut ≡ true → HoldsLine text line → HoldsLine (text ++ bytes) line
holds_cut text bytes line cut (inl (whole, is)) = absurd (false≢true (sym whole ∙ cut))
holds_cut text bytes line cut (inr (is, some)) = inr (is, λ e. some (first_of_none text bytes e))

-- ---- the answer to a line

pub reply_written : {E : Type 0} {old new : Conversation} {line : List ℕ} {before now : Moment} (text : List ℕ) (after_it : AfterLine)
    → AnswersLine old line text before.calls now.calls (ends_after after_it) new → now.bytes ≡ after before.bytes text
    → now.failures ≡ before.failures + 0 → Replies {E = E} old line before now (Ok after_it) new
reply_written text after_it answers got count = record {
  text = text;
  next = after_it;
  same = refl;
  answers = answers;
  writes = record { ok = got; err = tt; count = count };
}

pub reply_failed : {E : Type 0} {result : Result AfterLine E} {old new : Conversation} {line : List ℕ} {before now : Moment}
    (text done more : List ℕ) (after_it : AfterLine) → IsErr result
    → AnswersLine old line text before.calls now.calls (ends_after after_it) new → text ≡ done ++ more
    → now.bytes ≡ after before.bytes done → now.failures ≡ before.failures + 1 → Replies old line before now result new
reply_failed {result = Ok x} text done more after_it is answers begins got count = absurd (false≢true is)
reply_failed {result = Err e} text done more after_it is answers begins got count = record {
  text = text;
  next = after_it;
  same = tt;
  answers = answers;
  writes = record { ok = tt; err = (done, (more, begins), got); count = count };
}

pub replies_same : {E : Type 0} {result : Result AfterLine E} {old new : Conversation} {before now : Moment} (held piece : List ℕ)
    → held ≡ [] → Replies old piece before now result new → Replies old (held ++ piece) before now result new
replies_same {E} {result} {old} {new} {before} {now} held piece nothing r =
    subst (λ (t : List ℕ). Replies old (t ++ piece) before now result new) (sym nothing) r

-- there is no memory for the line
pub lacks_memory : (c : Conversation) (line : List ℕ) (calls : Option (List Call))
    → AnswersLine c line no_memory calls calls false c
lacks_memory c line calls s at = ([], s, inr (inr (inr (refl, inl refl, refl, inl refl))), at, with_none calls)

-- a line is answered
line_converses : (person ends : Bool) (s mid after : SessionState) (input text line answer : List ℕ) (calls called : List Call)
    → Answered person s input text calls mid → IsPiece line → LineAnswer mid line answer called ends after
    → (tail : List ℕ) × Converses person s (input ++ (line ++ 10 ∷ [])) (text ++ (answer ++ tail)) (calls ++ called) ends after
line_converses person false s mid after input text line answer calls called a p l =
    (prompt person, at_end after _ _ _ (one_more mid after input text line answer calls called a p l))
line_converses person true s mid after input text line answer calls called a p l = (
  [],
  subst (λ (t : List ℕ). Converses person s (input ++ (line ++ 10 ∷ [])) (text ++ t) (calls ++ called) true after)
      (sym (append-nil answer)) (ended mid after input text line answer [] calls called a p l),
)

-- some words at the end of the input
farewell_of : (person ends : Bool) (s : SessionState) → (farewell : List ℕ) × IsFarewell person ends s farewell
farewell_of person true s = ([], refl)
farewell_of person false s = ((if person then 10 ∷ [] else []) ++ [], ([], λ n. refl, refl))

line_input : (input lines rest piece more : List ℕ) → input ≡ lines ++ rest
    → input ++ (piece ++ 10 ∷ more) ≡ lines ++ ((rest ++ piece) ++ 10 ∷ more)
line_input input lines rest piece more e =
    ap (λ (t : List ℕ). t ++ (piece ++ 10 ∷ more)) e ∙ append_assoc lines rest (piece ++ 10 ∷ more)
    ∙ ap (λ (t : List ℕ). lines ++ t) (sym (append_assoc rest piece (10 ∷ more)))

-- the same, where bytes of the input follow
part_input : (input lines rest piece more : List ℕ) → input ≡ lines ++ rest
    → input ++ (piece ++ 10 ∷ more) ≡ (lines ++ ((rest ++ piece) ++ 10 ∷ [])) ++ more
part_input input lines rest piece more e =
    line_input input lines rest piece more e
    ∙ ap (λ (t : List ℕ). lines ++ t) (sym (append_assoc (rest ++ piece) (10 ∷ []) more))
    ∙ sym (append_assoc lines ((rest ++ piece) ++ 10 ∷ []) more)

-- a beginning of what was answered is written
part_of : {start now : Moment} {person : Bool} {s end : SessionState} {input part answers : List ℕ} {calls : List Call}
    {ends : Bool} (greeting rest done more : List ℕ) → input ≡ part ++ rest → IsGreeting person greeting → Converses person s part answers calls ends end
    → greeting ++ answers ≡ done ++ more → now.bytes ≡ after start.bytes done → now.calls ≡ with_calls start.calls calls
    → Part start now person s input
part_of {person} {end} {part} {answers} {calls} {ends} greeting rest done more is greets c begins got keeps =
    let (farewell, says) = farewell_of person ends end in
    record {
      part = part;
      rest = rest;
      input_is = is;
      quits = ends;
      text = greeting ++ (answers ++ farewell);
      calls = calls;
      talk = record {
        new = end;
        greeting = greeting;
        answers = answers;
        farewell = farewell;
        greets = greets;
        converses = c;
        ends = says;
        text_is = refl;
      };
      done = done;
      beginning = (
        more ++ farewell,
        sym (append_assoc greeting answers farewell) ∙ ap (λ (t : List ℕ). t ++ farewell) begins ∙ append_assoc done more farewell,
      );
      got = got;
      called = keeps;
    }

-- ---- from moment to moment

pub stands_begin : {start now : Moment} {person : Bool} {s : SessionState} {t : Talker} (greeting : List ℕ) → IsGreeting person greeting
    → IsAt t.conversation s → HoldsLine [] t.line → t.has_prompt ≡ person
    → now.bytes ≡ after start.bytes greeting → now.failures ≡ start.failures → now.calls ≡ start.calls
    → Stands start now person s [] t
stands_begin {start} {s} greeting g at holds person got count keeps = record {
  mid = s;
  greeting = greeting;
  lines = [];
  rest = [];
  text = [];
  calls = [];
  greets = g;
  answered = none;
  input_is = refl;
  piece = All-nil (λ b. b ≢ 10);
  holds = holds;
  at = at;
  prompts = person;
  got = got ∙ ap (after start.bytes) (sym (append-nil greeting));
  count = count;
  called = keeps ∙ with_none start.calls;
}

pub part_begin : {start now : Moment} {person : Bool} {s : SessionState} (greeting done more : List ℕ) → IsGreeting person greeting
    → greeting ≡ done ++ more → now.bytes ≡ after start.bytes done → now.calls ≡ start.calls → Part start now person s []
part_begin {start} {s} greeting done more g e got keeps =
    part_of greeting [] done more refl g (at_end s [] [] [] none) (append-nil greeting ∙ e) got (keeps ∙ with_none start.calls)

-- more bytes of a line
pub stands_more : {start now : Moment} {person : Bool} {s : SessionState} {input : List ℕ} {t u : Talker} (bytes : List ℕ)
    → Stands start now person s input t → IsPiece bytes → ((text : List ℕ) → HoldsLine text t.line → HoldsLine (text ++ bytes) u.line)
    → u.conversation ≡ t.conversation → u.has_prompt ≡ t.has_prompt → Stands start now person s (input ++ bytes) u
stands_more bytes st p more same prompts = record {
  mid = st.mid;
  greeting = st.greeting;
  lines = st.lines;
  rest = st.rest ++ bytes;
  text = st.text;
  calls = st.calls;
  greets = st.greets;
  answered = st.answered;
  input_is = ap (λ (t : List ℕ). t ++ bytes) st.input_is ∙ append_assoc st.lines st.rest bytes;
  piece = All-append (λ b. b ≢ 10) st.rest bytes st.piece p;
  holds = more st.rest st.holds;
  at = subst (λ (c : Conversation). IsAt c st.mid) (sym same) st.at;
  prompts = prompts ∙ st.prompts;
  got = st.got;
  count = st.count;
  called = st.called;
}

-- a line is answered, and the prompt is written
pub stands_line : {E : Type 0} {start old mid now : Moment} {person : Bool} {s : SessionState} {input : List ℕ} {t u : Talker} (piece : List ℕ)
    → Stands start old person s input t → IsPiece piece
    → ((held : List ℕ) → HoldsLine held t.line → Replies {E = E} t.conversation (held ++ piece) old mid (Ok next.GoesOn) u.conversation)
    → ((held : List ℕ) → HoldsLine held t.line → HoldsLine [] u.line) → u.has_prompt ≡ t.has_prompt
    → now.bytes ≡ after mid.bytes (prompt u.has_prompt) → now.failures ≡ mid.failures + 0 → now.calls ≡ mid.calls
    → Stands start now person s (input ++ (piece ++ 10 ∷ [])) u
stands_line {start} {old} {mid} {now} {person} {input} {u} piece st p reply empty same got count keeps =
    let r = reply st.rest st.holds in
    let (called, end, answers, at, files) = r.answers st.mid st.at in
    let goes_on : ends_after r.next ≡ false = ap ends_after (sym r.same) in
    let answers : LineAnswer st.mid (st.rest ++ piece) r.text called false end
    = subst (λ (b : Bool). LineAnswer st.mid (st.rest ++ piece) r.text called b end) goes_on answers in
    let person_is : u.has_prompt ≡ person = same ∙ st.prompts in
    record {
      mid = end;
      greeting = st.greeting;
      lines = st.lines ++ ((st.rest ++ piece) ++ 10 ∷ []);
      rest = [];
      text = st.text ++ (r.text ++ prompt person);
      calls = st.calls ++ called;
      greets = st.greets;
      answered = one_more st.mid end st.lines st.text (st.rest ++ piece) r.text st.calls called st.answered
          (All-append (λ b. b ≢ 10) st.rest piece st.piece p) answers;
      input_is = line_input input st.lines st.rest piece [] st.input_is ∙ sym (append-nil _);
      piece = All-nil (λ b. b ≢ 10);
      holds = empty st.rest st.holds;
      at = at;
      prompts = person_is;
      got = wrote_on start.bytes mid.bytes now.bytes ((st.greeting ++ st.text) ++ r.text) (prompt person)
          (wrote_on start.bytes old.bytes mid.bytes (st.greeting ++ st.text) r.text st.got r.writes.ok)
          (got ∙ ap (λ (b : Bool). after mid.bytes (prompt b)) person_is)
          ∙ ap (after start.bytes) (append_assoc (st.greeting ++ st.text) r.text (prompt person)
          ∙ append_assoc st.greeting st.text (r.text ++ prompt person));
      count = omega (arith, count, r.writes.count, st.count);
      called = keeps ∙ called_on start.calls old.calls mid.calls st.calls called st.called files;
    }

-- a line ends the session
pub done_line : {E : Type 0} {start old now : Moment} {person : Bool} {s : SessionState} {input : List ℕ} {t : Talker} {c : Conversation}
    (piece more : List ℕ) → Stands start old person s input t → IsPiece piece
    → ((held : List ℕ) → HoldsLine held t.line → Replies {E = E} t.conversation (held ++ piece) old now (Ok next.Ends) c)
    → Done start now person s (input ++ (piece ++ 10 ∷ more)) true
done_line {start} {old} {now} {person} {s} {input} piece more st p reply =
    let r = reply st.rest st.holds in
    let (called, end, answers, at, files) = r.answers st.mid st.at in
    let ends : ends_after r.next ≡ true = ap ends_after (sym r.same) in
    let answers : LineAnswer st.mid (st.rest ++ piece) r.text called true end
    = subst (λ (b : Bool). LineAnswer st.mid (st.rest ++ piece) r.text called b end) ends answers in
    record {
      text = st.greeting ++ ((st.text ++ r.text) ++ []);
      calls = st.calls ++ called;
      talk = record {
        new = end;
        greeting = st.greeting;
        answers = st.text ++ r.text;
        farewell = [];
        greets = st.greets;
        converses = subst (λ (i : List ℕ). Converses person s i (st.text ++ r.text) (st.calls ++ called) true end)
            (sym (line_input input st.lines st.rest piece more st.input_is))
            (ended st.mid end st.lines st.text (st.rest ++ piece) r.text more st.calls called st.answered
            (All-append (λ b. b ≢ 10) st.rest piece st.piece p) answers);
        ends = refl;
        text_is = refl;
      };
      got = wrote_on start.bytes old.bytes now.bytes (st.greeting ++ st.text) r.text st.got r.writes.ok
          ∙ ap (after start.bytes) (append_assoc st.greeting st.text r.text
          ∙ ap (λ (x : List ℕ). st.greeting ++ x) (sym (append-nil (st.text ++ r.text))));
      count = omega (arith, r.writes.count, st.count);
      called = called_on start.calls old.calls now.calls st.calls called st.called files;
    }

-- the answer to a line is not written
pub part_line : {E : Type 0} {e : E} {start old now : Moment} {person : Bool} {s : SessionState} {input : List ℕ} {t : Talker} {c : Conversation}
    (piece more : List ℕ) → Stands start old person s input t → IsPiece piece
    → ((held : List ℕ) → HoldsLine held t.line → Replies t.conversation (held ++ piece) old now (Err e) c)
    → Part start now person s (input ++ (piece ++ 10 ∷ more)) × (start.failures < now.failures)
part_line {start} {old} {now} {person} {s} {input} piece more st p reply =
    let r = reply st.rest st.holds in
    let (called, end, answers, at, files) = r.answers st.mid st.at in
    let (done, (others, begins), got) = r.writes.err in
    let (tail, c) = line_converses person (ends_after r.next) s st.mid end st.lines st.text (st.rest ++ piece) r.text st.calls called
    st.answered (All-append (λ b. b ≢ 10) st.rest piece st.piece p) answers in (
      part_of st.greeting more ((st.greeting ++ st.text) ++ done) (others ++ tail) (part_input input st.lines st.rest piece more st.input_is)
          st.greets c
          (begins_in st.greeting st.text (r.text ++ tail) done (others ++ tail)
          (ap (λ (x : List ℕ). x ++ tail) begins ∙ append_assoc done others tail))
          (wrote_on start.bytes old.bytes now.bytes (st.greeting ++ st.text) done st.got got)
          (called_on start.calls old.calls now.calls st.calls called st.called files),
      omega (arith, r.writes.count, st.count),
    )

-- the prompt after the answer to a line is not written
pub part_prompt : {E : Type 0} {start old mid now : Moment} {person : Bool} {s : SessionState} {input : List ℕ} {t : Talker}
    (u : Talker) (piece more done others : List ℕ) → Stands start old person s input t → IsPiece piece
    → ((held : List ℕ) → HoldsLine held t.line → Replies {E = E} t.conversation (held ++ piece) old mid (Ok next.GoesOn) u.conversation)
    → u.has_prompt ≡ t.has_prompt → prompt u.has_prompt ≡ done ++ others
    → now.bytes ≡ after mid.bytes done → now.failures ≡ mid.failures + 1 → now.calls ≡ mid.calls
    → Part start now person s (input ++ (piece ++ 10 ∷ more)) × (start.failures < now.failures)
part_prompt {start} {old} {mid} {now} {person} {s} {input} u piece more done others st p reply same begins got count keeps =
    let r = reply st.rest st.holds in
    let (called, end, answers, at, files) = r.answers st.mid st.at in
    let goes_on : ends_after r.next ≡ false = ap ends_after (sym r.same) in
    let answers : LineAnswer st.mid (st.rest ++ piece) r.text called false end
    = subst (λ (b : Bool). LineAnswer st.mid (st.rest ++ piece) r.text called b end) goes_on answers in
    let begins : prompt person ≡ done ++ others = ap prompt (sym (same ∙ st.prompts)) ∙ begins in (
      part_of st.greeting more ((st.greeting ++ st.text) ++ (r.text ++ done)) others (part_input input st.lines st.rest piece more st.input_is)
          st.greets
          (at_end end _ _ _ (one_more st.mid end st.lines st.text (st.rest ++ piece) r.text st.calls called st.answered
          (All-append (λ b. b ≢ 10) st.rest piece st.piece p) answers))
          (begins_in st.greeting st.text (r.text ++ prompt person) (r.text ++ done) others
          (ap (λ (x : List ℕ). r.text ++ x) begins ∙ sym (append_assoc r.text done others)))
          (wrote_on start.bytes mid.bytes now.bytes ((st.greeting ++ st.text) ++ r.text) done
          (wrote_on start.bytes old.bytes mid.bytes (st.greeting ++ st.text) r.text st.got r.writes.ok) got
          ∙ ap (after start.bytes) (append_assoc (st.greeting ++ st.text) r.text done))
          (keeps ∙ called_on start.calls old.calls mid.calls st.calls called st.called files),
      omega (arith, count, r.writes.count, st.count),
    )

-- a flush
pub stands_flushed : {start now later : Moment} {person : Bool} {s : SessionState} {input : List ℕ} {t : Talker}
    → Stands start now person s input t → later.bytes ≡ now.bytes → later.failures ≡ now.failures + 0 → later.calls ≡ now.calls
    → Stands start later person s input t
stands_flushed st bytes count keeps = record {
  mid = st.mid;
  greeting = st.greeting;
  lines = st.lines;
  rest = st.rest;
  text = st.text;
  calls = st.calls;
  greets = st.greets;
  answered = st.answered;
  input_is = st.input_is;
  piece = st.piece;
  holds = st.holds;
  at = st.at;
  prompts = st.prompts;
  got = bytes ∙ st.got;
  count = omega (arith, count, st.count);
  called = keeps ∙ st.called;
}

-- a flush or a read fails
pub part_stands : {start now later : Moment} {person : Bool} {s : SessionState} {input : List ℕ} {t : Talker}
    → Stands start now person s input t → later.bytes ≡ now.bytes → later.calls ≡ now.calls → Part start later person s input
part_stands st bytes keeps =
    part_of st.greeting st.rest (st.greeting ++ st.text) [] st.input_is st.greets (at_end st.mid st.lines st.text st.calls st.answered)
    (sym (append-nil (st.greeting ++ st.text))) (bytes ∙ st.got) (keeps ∙ st.called)

-- ---- the end of the input

-- no bytes are left
pub finished_stands : {start now : Moment} {person : Bool} {s : SessionState} {input : List ℕ} {t : Talker}
    → Stands start now person s input t → ((text : List ℕ) → HoldsLine text t.line → text ≡ [])
    → Finished start now person s input t
finished_stands {person} {s} {input} st nothing =
    let e : input ≡ st.lines = st.input_is ∙ ap (λ (r : List ℕ). st.lines ++ r) (nothing st.rest st.holds) ∙ append-nil st.lines in
    record {
      mid = st.mid;
      greeting = st.greeting;
      answers = st.text;
      calls = st.calls;
      greets = st.greets;
      converses = subst (λ (i : List ℕ). Converses person s i st.text st.calls false st.mid) (sym e)
          (at_end st.mid st.lines st.text st.calls st.answered);
      at = st.at;
      prompts = st.prompts;
      got = st.got;
      count = st.count;
      called = st.called;
    }

module _ {E : Type 0} {start old now : Moment} {person : Bool} {s : SessionState} {input : List ℕ} {t : Talker} where
  -- the last line
  last_converses : {result : Result AfterLine E} {c : Conversation} (st : Stands start old person s input t)
      → ((text : List ℕ) → HoldsLine text t.line → text ≢ [])
      → (r : Replies t.conversation (st.rest ++ []) old now result c)
      → (called : List Call) × (end : SessionState)
      × Converses person s input (st.text ++ r.text) (st.calls ++ called) (ends_after r.next) end × IsAt c end
      × (now.calls ≡ with_calls start.calls (st.calls ++ called))
  last_converses st some r =
      let (called, end, answers, at, files) = r.answers st.mid st.at in
      let whole : st.lines ++ (st.rest ++ []) ≡ input = ap (λ (x : List ℕ). st.lines ++ x) (append-nil st.rest) ∙ sym st.input_is in (
        called,
        end,
        subst (λ (i : List ℕ). Converses person s i (st.text ++ r.text) (st.calls ++ called) (ends_after r.next) end) whole
            (last st.mid end st.lines st.text (st.rest ++ []) r.text st.calls called (ends_after r.next) st.answered
            (subst IsPiece (sym (append-nil st.rest)) st.piece)
            (λ e. some st.rest st.holds (sym (append-nil st.rest) ∙ e)) answers),
        at,
        called_on start.calls old.calls now.calls st.calls called st.called files,
      )

  pub finished_line : {u : Talker} → Stands start old person s input t → ((text : List ℕ) → HoldsLine text t.line → text ≢ [])
      → ((held : List ℕ) → HoldsLine held t.line → Replies {E = E} t.conversation (held ++ []) old now (Ok next.GoesOn) u.conversation)
      → u.has_prompt ≡ t.has_prompt → Finished start now person s input u
  finished_line st some reply same =
      let r = reply st.rest st.holds in
      let (called, end, converses, at, keeps) = last_converses st some r in
      let goes_on : ends_after r.next ≡ false = ap ends_after (sym r.same) in
      record {
        mid = end;
        greeting = st.greeting;
        answers = st.text ++ r.text;
        calls = st.calls ++ called;
        greets = st.greets;
        converses = subst (λ (b : Bool). Converses person s input (st.text ++ r.text) (st.calls ++ called) b end) goes_on converses;
        at = at;
        prompts = same ∙ st.prompts;
        got = wrote_on start.bytes old.bytes now.bytes (st.greeting ++ st.text) r.text st.got r.writes.ok
            ∙ ap (after start.bytes) (append_assoc st.greeting st.text r.text);
        count = omega (arith, r.writes.count, st.count);
        called = keeps;
      }

  pub done_last : {c : Conversation} → Stands start old person s input t → ((text : List ℕ) → HoldsLine text t.line → text ≢ [])
      → ((held : List ℕ) → HoldsLine held t.line → Replies {E = E} t.conversation (held ++ []) old now (Ok next.Ends) c)
      → Done start now person s input true
  done_last st some reply =
      let r = reply st.rest st.holds in
      let (called, end, converses, at, keeps) = last_converses st some r in
      let ends : ends_after r.next ≡ true = ap ends_after (sym r.same) in
      record {
        text = st.greeting ++ ((st.text ++ r.text) ++ []);
        calls = st.calls ++ called;
        talk = record {
          new = end;
          greeting = st.greeting;
          answers = st.text ++ r.text;
          farewell = [];
          greets = st.greets;
          converses = subst (λ (b : Bool). Converses person s input (st.text ++ r.text) (st.calls ++ called) b end) ends converses;
          ends = refl;
          text_is = refl;
        };
        got = wrote_on start.bytes old.bytes now.bytes (st.greeting ++ st.text) r.text st.got r.writes.ok
            ∙ ap (after start.bytes) (append_assoc st.greeting st.text r.text
            ∙ ap (λ (x : List ℕ). st.greeting ++ x) (sym (append-nil (st.text ++ r.text))));
        count = omega (arith, r.writes.count, st.count);
        called = keeps;
      }

  pub part_last : {e : E} {c : Conversation} → Stands start old person s input t → ((text : List ℕ) → HoldsLine text t.line → text ≢ [])
      → ((held : List ℕ) → HoldsLine held t.line → Replies t.conversation (held ++ []) old now (Err e) c)
      → Part start now person s input × (start.failures < now.failures)
  part_last st some reply =
      let r = reply st.rest st.holds in
      let (called, end, converses, at, keeps) = last_converses st some r in
      let (done, (others, begins), got) = r.writes.err in (
        part_of st.greeting [] ((st.greeting ++ st.text) ++ done) others (sym (append-nil input)) st.greets converses
            (begins_in st.greeting st.text r.text done others begins)
            (wrote_on start.bytes old.bytes now.bytes (st.greeting ++ st.text) done st.got got)
            keeps,
        omega (arith, r.writes.count, st.count),
      )

-- the last words are written
pub done_finished : {start old now : Moment} {person : Bool} {s : SessionState} {input : List ℕ} {t : Talker} (mid : Moment) (what : List ℕ)
    → (f : Finished start old person s input t) → mid.bytes ≡ after old.bytes (newline t.has_prompt)
    → ((IsUnsaved f.mid → ⊥) → what ≡ []) → now.bytes ≡ after mid.bytes what → now.failures ≡ old.failures → now.calls ≡ old.calls
    → Done start now person s input false
done_finished {start} {old} {now} {person} mid what f first says got count keeps = record {
  text = f.greeting ++ (f.answers ++ (newline person ++ what));
  calls = f.calls;
  talk = record {
    new = f.mid;
    greeting = f.greeting;
    answers = f.answers;
    farewell = newline person ++ what;
    greets = f.greets;
    converses = f.converses;
    ends = (what, says, refl);
    text_is = refl;
  };
  got = wrote_on start.bytes mid.bytes now.bytes ((f.greeting ++ f.answers) ++ newline person) what
      (wrote_on start.bytes old.bytes mid.bytes (f.greeting ++ f.answers) (newline person) f.got
      (first ∙ ap (λ (b : Bool). after old.bytes (newline b)) f.prompts)) got
      ∙ ap (after start.bytes) (append_assoc (f.greeting ++ f.answers) (newline person) what
      ∙ append_assoc f.greeting f.answers (newline person ++ what));
  count = count ∙ f.count;
  called = keeps ∙ f.called;
}

-- they are not all written
pub part_finished : {start old now : Moment} {person : Bool} {s : SessionState} {input : List ℕ} {t : Talker} (what done more : List ℕ)
    → (f : Finished start old person s input t) → ((IsUnsaved f.mid → ⊥) → what ≡ [])
    → newline t.has_prompt ++ what ≡ done ++ more → now.bytes ≡ after old.bytes done → now.calls ≡ old.calls
    → Part start now person s input
part_finished {start} {old} {now} {person} {input} what done more f says begins got keeps = record {
  part = input;
  rest = [];
  input_is = sym (append-nil input);
  quits = false;
  text = f.greeting ++ (f.answers ++ (newline person ++ what));
  calls = f.calls;
  talk = record {
    new = f.mid;
    greeting = f.greeting;
    answers = f.answers;
    farewell = newline person ++ what;
    greets = f.greets;
    converses = f.converses;
    ends = (what, says, refl);
    text_is = refl;
  };
  done = (f.greeting ++ f.answers) ++ done;
  beginning = (
    more,
    begins_in f.greeting f.answers (newline person ++ what) done more (ap (λ (b : Bool). newline b ++ what) (sym f.prompts) ∙ begins),
  );
  got = wrote_on start.bytes old.bytes now.bytes (f.greeting ++ f.answers) done f.got got;
  called = keeps ∙ f.called;
}

-- ---- what a call answers

-- the last line, if there is one
pub finishes : {E : Type 0} {start old now : Moment} {person : Bool} {s : SessionState} {input : List ℕ} {t : Talker} (u : Talker) (result : Result AfterLine E)
    → Stands start old person s input t → ((text : List ℕ) → HoldsLine text t.line → text ≢ [])
    → ((held : List ℕ) → HoldsLine held t.line → Replies t.conversation (held ++ []) old now result u.conversation)
    → u.has_prompt ≡ t.has_prompt → Finishes start now person s input result u
finishes u (Ok next.GoesOn) st some reply same = finished_line st some reply same
finishes u (Ok next.Ends) st some reply same = done_last st some reply
finishes u (Err e) st some reply same = part_last st some reply

pub ends_err : {A E : Type 0} {start now : Moment} {person : Bool} {s : SessionState} {input : List ℕ} (result : Result A E) → IsErr result
    → Part start now person s input × (start.failures < now.failures) → EndsInput start now person s input result
ends_err (Ok x) is p = absurd (false≢true is)
ends_err (Err e) is p = p

pub feeds_err : {E : Type 0} {start now : Moment} {person : Bool} {s : SessionState} {input : List ℕ} (result : Result AfterLine E) (t : Talker)
    → IsErr result → Part start now person s input × (start.failures < now.failures) → Feeds start now person s input result t
feeds_err (Ok x) t is p = absurd (false≢true is)
feeds_err (Err e) t is p = p

-- the newline is not written
pub part_newline : {start old now : Moment} {person : Bool} {s : SessionState} {input : List ℕ} {t : Talker} (done more : List ℕ)
    → Finished start old person s input t → newline t.has_prompt ≡ done ++ more → now.bytes ≡ after old.bytes done
    → now.failures ≡ old.failures + 1 → now.calls ≡ old.calls → Part start now person s input × (start.failures < now.failures)
part_newline done more f begins got count keeps =
    (part_finished [] done more f (λ n. refl) (append-nil _ ∙ begins) got keeps, omega (arith, count, f.count))

-- what is unsaved is written, or a write fails
pub ends_finished : {A E : Type 0} {start old : Moment} {person : Bool} {s : SessionState} {input : List ℕ} {t : Talker} (mid now : Moment)
    (what : List ℕ) (result : Result A E) → Finished start old person s input t
    → mid.bytes ≡ after old.bytes (newline t.has_prompt) → mid.failures ≡ old.failures + 0
    → ((u : SessionState) → IsAt t.conversation u → (IsUnsaved u → ⊥) → what ≡ [])
    → OnOk result (now.bytes ≡ after mid.bytes what)
    → OnErr result ((done : List ℕ) × IsBeginning done what × (now.bytes ≡ after mid.bytes done))
    → now.failures ≡ mid.failures + failed result → now.calls ≡ old.calls → EndsInput start now person s input result
ends_finished mid now what (Ok x) f first unfailed says ok err count keeps =
    (false, done_finished mid what f first (says f.mid f.at) ok (omega (arith, count, unfailed)) keeps)
ends_finished {start} {old} {t} mid now what (Err e) f first unfailed says ok (done, (more, begins), got) count keeps = (
  part_finished what (newline t.has_prompt ++ done) more f (says f.mid f.at)
      (ap (λ (x : List ℕ). newline t.has_prompt ++ x) begins ∙ sym (append_assoc (newline t.has_prompt) done more))
      (wrote_on old.bytes mid.bytes now.bytes (newline t.has_prompt) done first got)
      keeps,
  omega (arith, count, unfailed, f.count),
)

-- ---- the greeting

pub is_greeting : (b : Bool) (words : List ℕ) → b ≡ true → IsGreeting b (words ++ prompt b)
is_greeting true words is = (words, refl)
is_greeting false words is = absurd (false≢true is)

-- ---- the same input

pub stands_at : {start now : Moment} {person : Bool} {s : SessionState} {a b : List ℕ} {t : Talker} → a ≡ b
    → Stands start now person s a t → Stands start now person s b t
stands_at {start} {now} {person} {s} {t} e h = subst (λ (i : List ℕ). Stands start now person s i t) e h

pub done_at : {start now : Moment} {person quits : Bool} {s : SessionState} {a b : List ℕ} → a ≡ b
    → Done start now person s a quits → Done start now person s b quits
done_at {start} {now} {person} {quits} {s} e h = subst (λ (i : List ℕ). Done start now person s i quits) e h

pub part_at : {start now : Moment} {person : Bool} {s : SessionState} {a b : List ℕ} → a ≡ b
    → Part start now person s a × (start.failures < now.failures) → Part start now person s b × (start.failures < now.failures)
part_at {start} {now} {person} {s} e h = subst (λ (i : List ℕ). Part start now person s i × (start.failures < now.failures)) e h

-- bytes that were taken, and what stands after them
pub taken_is : (input bytes done rest tail : List ℕ) → bytes ≡ done ++ rest → rest ≡ tail → (input ++ done) ++ tail ≡ input ++ bytes
taken_is input bytes done rest tail is e =
    append_assoc input done tail ∙ ap (λ (x : List ℕ). input ++ x) (ap (λ (x : List ℕ). done ++ x) (sym e) ∙ sym is)

-- a line more is taken
pub take_line : (bytes done rest piece more : List ℕ) → bytes ≡ done ++ rest → rest ≡ piece ++ 10 ∷ more
    → bytes ≡ (done ++ (piece ++ 10 ∷ [])) ++ more
take_line bytes done rest piece more is e =
    is ∙ ap (λ (x : List ℕ). done ++ x) (e ∙ sym (append_assoc piece (10 ∷ []) more)) ∙ sym (append_assoc done (piece ++ 10 ∷ []) more)

-- ---- which end it is

pub replies_next : {E : Type 0} {n m : AfterLine} {old new : Conversation} {line : List ℕ} {before now : Moment} → n ≡ m
    → Replies {E = E} old line before now (Ok n) new → Replies {E = E} old line before now (Ok m) new
replies_next {E} {n} {m} {old} {new} {line} {before} {now} e r =
    subst (λ (k : AfterLine). Replies {E = E} old line before now (Ok k) new) e r

pub finished_of : {E : Type 0} {start now : Moment} {person : Bool} {s : SessionState} {input : List ℕ} {u : Talker}
    (result : Result AfterLine E) (n : AfterLine) → result ≡ Ok n → n ≡ next.GoesOn → Finishes start now person s input result u
    → Finished start now person s input u
finished_of {E} {start} {now} {person} {s} {input} {u} result n is same f =
    subst (λ (r : Result AfterLine E). Finishes start now person s input r u) (is ∙ ap Ok same) f

pub done_of : {E : Type 0} {start now : Moment} {person : Bool} {s : SessionState} {input : List ℕ}
    (result : Result AfterLine E) (n : AfterLine) → result ≡ Ok n → n ≡ next.Ends → (u : Talker) → Finishes start now person s input result u
    → Done start now person s input true
done_of {E} {start} {now} {person} {s} {input} result n is same u f =
    subst (λ (r : Result AfterLine E). Finishes start now person s input r u) (is ∙ ap Ok same) f

pub stands_fed : {E : Type 0} {start now : Moment} {person : Bool} {s : SessionState} {input : List ℕ} {u : Talker}
    (result : Result AfterLine E) (n : AfterLine) → result ≡ Ok n → n ≡ next.GoesOn → Feeds start now person s input result u
    → Stands start now person s input u
stands_fed {E} {start} {now} {person} {s} {input} {u} result n is same f =
    subst (λ (r : Result AfterLine E). Feeds start now person s input r u) (is ∙ ap Ok same) f

pub done_fed : {E : Type 0} {start now : Moment} {person : Bool} {s : SessionState} {input : List ℕ}
    (result : Result AfterLine E) (n : AfterLine) → result ≡ Ok n → n ≡ next.Ends → (u : Talker) → Feeds start now person s input result u
    → Done start now person s input true
done_fed {E} {start} {now} {person} {s} {input} result n is same u f =
    subst (λ (r : Result AfterLine E). Feeds start now person s input r u) (is ∙ ap Ok same) f
