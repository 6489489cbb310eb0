use Rattle.std.proofs.Common.{◌≡◌, ℕ, ◌+◌, List, [], ◌++◌, take, inl, inr, Ok, refl, sym, ap, ◌∙◌, arith, true}
use Rattle.std.proofs.lemmas.Bool.{true≢false}
use Rattle.aig_bytes.proofs.Results.{on_err}
use Rattle.aig_bytes.specs.Bytes.{before}
use Rattle.aig_bytes.specs.declared.fault.Io.{Io}
use Rattle.aig_sim.proofs.SimulationLemmas.{before_nil, before-before}
use Rattle.aig_shell.specs.Talking.{Moment, moment}
use Rattle.aig_shell.proofs.lines.Shells.{breaks_part, ended_done, ends_ok, ends_broken}
use Rattle.aig_shell.proofs.lines.Talks.{stands_begin, part_begin, stands_flushed, part_stands, stands_fed, done_fed}
use Rattle.aig_shell.proofs.talk.Talker.run.Goals as goal

pub loop-reader-init : goal.loop-reader-init
loop-reader-init g c = record {
  room = refl;
  count = refl;
  stands = λ s at h.
      let (greeting, greets, w) = c.in_ok-begin.ensures in
      ([], sym (before_nil (g.R.Read.left c.args.reader.now)), stands_begin greeting greets at h refl w.ok (omega (arith, w.count)) refl);
}

pub loop-reader-preserved : goal.loop-reader-preserved
loop-reader-preserved g c =
    let start : Moment = moment g.W.Write.written g.W.Write.failures g.K.Keep.calls c.args.out.now c.args.files.now in
    let person = c.args.self.now.has_prompt in
    let inv = c.loop-reader.invariant in
    let f = c.in_ok-flush.ensures in
    let r = c.in_ok-size.ensures in
    let chunk : List ℕ = take c.in_ok-size.size c.read.new.buffer in
    record {
      room = omega arith;
      count = omega (arith, inv.count, r.count);
      stands = λ s at h.
          let (input, read, st) = inv.stands s at h in (
            input ++ chunk,
            read ∙ ap (before input) r.given ∙ before-before input chunk (g.R.Read.left c.read.new.self),
            stands_fed {E = Io} (Ok c.in_ok-feed.field-0) c.in_ok-feed.field-0 refl c.in-GoesOn.is
                (c.in_ok-feed.ensures start person s input (stands_flushed st f.kept f.count refl)),
          );
    }

pub loop-reader-smaller : goal.loop-reader-smaller
loop-reader-smaller g c = c.in_ok-size.ensures.lowers (omega arith)

pub returns-in_err-begin-clause-failed : goal.returns-in_err-begin-clause-failed
returns-in_err-begin-clause-failed g c = on_err c.from_residual.result (λ s at h.
    let (greeting, greets, w) = c.in_err-begin.ensures in
    breaks_part g.R.Read.left g.R.Read.failures g.W.Write.written g.W.Write.failures g.K.Keep.calls c.args.reader.now c.args.reader.now
    c.args.files.now c.args.files.now c.args.out.now c.begin.new.out c.args.self.now.has_prompt
    s [] (part_begin greeting w.err.0 w.err.1.0 greets w.err.1.1 w.err.2 refl) (sym (before_nil (g.R.Read.left c.args.reader.now)))
    (inr (omega (arith, w.count))))

pub returns-in_err-flush-clause-failed : goal.returns-in_err-flush-clause-failed
returns-in_err-flush-clause-failed g c = on_err c.from_residual-in_err-flush.result (λ s at h.
    let e = c.in_err-flush.ensures in
    let (input, read, st) = c.loop-reader.invariant.stands s at h in
    breaks_part g.R.Read.left g.R.Read.failures g.W.Write.written g.W.Write.failures g.K.Keep.calls c.args.reader.now c.loop-reader.reader
    c.args.files.now c.loop-reader.files c.args.out.now c.flush.new.self c.args.self.now.has_prompt
    s input (part_stands st e.kept refl) read (inr (omega (arith, e.count, st.count))))

pub returns-in_err-size-clause-failed : goal.returns-in_err-size-clause-failed
returns-in_err-size-clause-failed g c = on_err c.from_residual-in_err-size.result (λ s at h.
    let inv = c.loop-reader.invariant in
    let f = c.in_ok-flush.ensures in
    let e = c.in_err-size.ensures in
    let (input, read, st) = inv.stands s at h in
    breaks_part g.R.Read.left g.R.Read.failures g.W.Write.written g.W.Write.failures g.K.Keep.calls c.args.reader.now c.read.new.self
    c.args.files.now c.loop-reader.files c.args.out.now c.flush.new.self c.args.self.now.has_prompt
    s input (part_stands st f.kept refl) (read ∙ ap (before input) (e.given ∙ before_nil (g.R.Read.left c.read.new.self)))
    (inl (omega (arith, inv.count, e.count), omega (arith, f.count, st.count))))

pub returns-then-size-eq0-clause-ended : goal.returns-then-size-eq0-clause-ended
returns-then-size-eq0-clause-ended g c =
    let start : Moment = moment g.W.Write.written g.W.Write.failures g.K.Keep.calls c.args.out.now c.args.files.now in
    let person = c.args.self.now.has_prompt in
    let inv = c.loop-reader.invariant in
    let f = c.in_ok-flush.ensures in
    let r = c.in_ok-size.ensures in
    let chunk : List ℕ = take c.in_ok-size.size c.read.new.buffer in
    let zero : c.in_ok-size.size ≡ 0 = omega arith in
    let none : chunk ≡ [] = ap (λ (n : ℕ). take n c.read.new.buffer) zero in
    ends_ok g.R.Read.left g.R.Read.failures g.W.Write.written g.W.Write.failures g.K.Keep.calls c.args.reader.now c.read.new.self
    c.args.files.now c.end.new.files c.args.out.now c.end.new.out c.args.self.now.has_prompt
    c.args.self.now.conversation c.args.self.now.line c.end.result
    (λ s at h.
    let (input, read, st) = inv.stands s at h in (
      input,
      read ∙ ap (before input) (r.given ∙ ap (λ (b : List ℕ). before b (g.R.Read.left c.read.new.self)) none ∙ before_nil (g.R.Read.left c.read.new.self)),
      c.end.ensures start person s input (stands_flushed st f.kept f.count refl),
    ))
    (r.end zero (omega arith))

pub returns-then-size-eq0-clause-failed : goal.returns-then-size-eq0-clause-failed
returns-then-size-eq0-clause-failed g c =
    let start : Moment = moment g.W.Write.written g.W.Write.failures g.K.Keep.calls c.args.out.now c.args.files.now in
    let person = c.args.self.now.has_prompt in
    let inv = c.loop-reader.invariant in
    let f = c.in_ok-flush.ensures in
    let r = c.in_ok-size.ensures in
    let chunk : List ℕ = take c.in_ok-size.size c.read.new.buffer in
    let zero : c.in_ok-size.size ≡ 0 = omega arith in
    let none : chunk ≡ [] = ap (λ (n : ℕ). take n c.read.new.buffer) zero in
    ends_broken g.R.Read.left g.R.Read.failures g.W.Write.written g.W.Write.failures g.K.Keep.calls c.args.reader.now c.read.new.self
    c.args.files.now c.end.new.files c.args.out.now c.end.new.out c.args.self.now.has_prompt
    c.args.self.now.conversation c.args.self.now.line c.end.result
    (λ s at h.
    let (input, read, st) = inv.stands s at h in (
      input,
      read ∙ ap (before input) (r.given ∙ ap (λ (b : List ℕ). before b (g.R.Read.left c.read.new.self)) none ∙ before_nil (g.R.Read.left c.read.new.self)),
      c.end.ensures start person s input (stands_flushed st f.kept f.count refl),
    ))

pub returns-in_err-feed-clause-failed : goal.returns-in_err-feed-clause-failed
returns-in_err-feed-clause-failed g c = on_err c.from_residual-in_err-feed.result (λ s at h.
    let start : Moment = moment g.W.Write.written g.W.Write.failures g.K.Keep.calls c.args.out.now c.args.files.now in
    let person = c.args.self.now.has_prompt in
    let inv = c.loop-reader.invariant in
    let f = c.in_ok-flush.ensures in
    let r = c.in_ok-size.ensures in
    let chunk : List ℕ = take c.in_ok-size.size c.read.new.buffer in
    let (input, read, st) = inv.stands s at h in
    let (p, more) = c.in_err-feed.ensures start person s input (stands_flushed st f.kept f.count refl) in
    breaks_part g.R.Read.left g.R.Read.failures g.W.Write.written g.W.Write.failures g.K.Keep.calls c.args.reader.now c.read.new.self
    c.args.files.now c.feed.new.files c.args.out.now c.feed.new.out c.args.self.now.has_prompt
    s (input ++ chunk) p (read ∙ ap (before input) r.given ∙ before-before input chunk (g.R.Read.left c.read.new.self)) (inr more))

pub returns-in-Ends-clause-ended : goal.returns-in-Ends-clause-ended
returns-in-Ends-clause-ended g c = λ s at h.
    let start : Moment = moment g.W.Write.written g.W.Write.failures g.K.Keep.calls c.args.out.now c.args.files.now in
    let person = c.args.self.now.has_prompt in
    let inv = c.loop-reader.invariant in
    let f = c.in_ok-flush.ensures in
    let r = c.in_ok-size.ensures in
    let chunk : List ℕ = take c.in_ok-size.size c.read.new.buffer in
    let (input, read, st) = inv.stands s at h in
    ended_done g.R.Read.left g.R.Read.failures g.W.Write.written g.W.Write.failures g.K.Keep.calls c.args.reader.now c.read.new.self
    c.args.files.now c.feed.new.files c.args.out.now c.feed.new.out c.args.self.now.has_prompt
    s (input ++ chunk) true
    (done_fed {E = Io} (Ok c.in_ok-feed.field-0) c.in_ok-feed.field-0 refl c.in-Ends.is c.feed.new.self
    (c.in_ok-feed.ensures start person s input (stands_flushed st f.kept f.count refl)))
    (read ∙ ap (before input) r.given ∙ before-before input chunk (g.R.Read.left c.read.new.self)) (λ q. absurd (true≢false q))
