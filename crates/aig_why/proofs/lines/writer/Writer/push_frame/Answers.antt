use Rattle.std.proofs.Common.{◌≡◌, ◌-◌, ◌+◌, ◌<◌, ◌≤◌, ◌++◌, ℕ, List, [], length, drop, refl, sym, ap, ◌∙◌, subst}
use Rattle.std.proofs.Common.{arith}
use Rattle.aig_causes.specs.Causes.{moment}
use Rattle.aig_signals.specs.declared.signal.Signal.{Signal}
use Rattle.aig_signals.specs.state.Naming.{AreNeighbours}
use Rattle.aig_why.specs.Lines.{AreLineTexts}
use Rattle.aig_why.specs.state.Naming.{Adds}
use Rattle.aig_why.proofs.FrameLemmas.{last_signal, latch_neighbours, naming_with, next_signal}
use Rattle.aig_why.proofs.TextLemmas.{lines_more, no_lines}
use Rattle.aig_why.proofs.lines.writer.Writer.push_frame.Goals as goal

pub loop-number-init : goal.loop-number-init
loop-number-init g c =
    let p = c.args.bench.now.pair in
    let n = c.args.self.now.naming in
    let (file, of) = c.requires.begins.of in
    record {
      bench = c.requires.begins.bench;
      frame = refl;
      asked = refl;
      none = c.requires.begins.none;
      same = record { inputs = refl; latches = refl };
      rest = subst (λ (a : ℕ). AreNeighbours a n.latches.signals (length p.circuit.latches)) (sym c.requires.begins.end)
          (latch_neighbours file p n of);
      come = λ raw is literals frames h.
          ([], h, no_lines c.args.form raw (moment p (c.args.explanation.now.frame - 1)) c.args.self.now.text.items);
    }

pub push_signal-requires-clause-signal : goal.push_signal-requires-clause-signal
push_signal-requires-clause-signal g c =
    let signals = c.loop-number.self.naming.latches.signals in
    let place = c.loop-number.number in
    let inside : place < length signals =
    omega (arith, c.loop-number-test.true, ap length c.signals-number-end.ensures, ap length c.loop-number.invariant.same.latches) in
    let s = next_signal c.loop-number.explanation.end signals place (length c.args.bench.now.pair.circuit.latches) inside
    c.loop-number.invariant.rest in
    (s.signal, s.here, s.first, s.some, s.to)

pub loop-number-preserved : goal.loop-number-preserved
loop-number-preserved g c =
    let p = c.args.bench.now.pair in
    let count = length p.circuit.latches in
    let signals = c.loop-number.self.naming.latches.signals in
    let place = c.loop-number.number in
    let was = c.loop-number.invariant in
    let now = c.in_ok-push_signal.ensures in
    let inside : place < length signals =
    omega (arith, c.loop-number-test.true, ap length c.signals-number-end.ensures, ap length was.same.latches) in
    let s = next_signal c.loop-number.explanation.end signals place count inside was.rest in
    record {
      bench = now.bench;
      frame = now.frame ∙ was.frame;
      asked = now.asked ∙ was.asked;
      none = now.none;
      same = record {
        inputs = now.signals.inputs ∙ was.same.inputs;
        latches = now.signals.latches ∙ was.same.latches;
      };
      rest = subst (λ (a : ℕ). AreNeighbours a (drop (place + 1) c.push_signal.new.self.naming.latches.signals) count)
          (sym (now.end s.signal s.here))
          (subst (λ (ss : List Signal). AreNeighbours s.signal.end (drop (place + 1) ss) count) (sym now.signals.latches)
          s.more);
      come = λ raw of literals frames h.
          let (lines, come, adds) = was.come raw of literals frames h in
          let (more, come_more, adds_more) =
          now.come raw (naming_with raw p c.args.self.now.naming c.loop-number.self.naming of was.same) literals frames lines come in (
            lines ++ more,
            come_more,
            lines_more c.args.form raw (moment p (c.args.explanation.now.frame - 1)) lines more c.args.self.now.text.items
                c.loop-number.self.text.items c.push_signal.new.self.text.items adds
                (subst (λ (f : ℕ). Adds (AreLineTexts c.args.form raw (moment p (f - 1)) more) c.loop-number.self.text.items
                c.push_signal.new.self.text.items) was.frame adds_more),
          );
    }

pub descend-requires-clause-end : goal.descend-requires-clause-end
descend-requires-clause-end g c =
    let signals = c.loop-number.self.naming.latches.signals in
    let was = c.loop-number.invariant in
    let past : length signals ≤ c.loop-number.number =
    omega (arith, c.loop-number-test.false, ap length c.signals-number-end.ensures, ap length was.same.latches) in
    last_signal c.loop-number.explanation.end signals c.loop-number.number (length c.args.bench.now.pair.circuit.latches) past
    was.rest
    ∙ sym was.bench.named

pub returns-clause-come : goal.returns-clause-come
returns-clause-come g c = λ raw of literals frames h.
    let p = c.args.bench.now.pair in
    let was = c.loop-number.invariant in
    let (lines, come, adds) = was.come raw of literals frames h in
    let below : c.args.explanation.now.frame - 1 ≡ c.descend.new.self.frame =
    omega (arith, c.descend.ensures.frame, was.frame) in (
      lines,
      c.descend.ensures.come p literals frames lines come was.bench,
      subst (λ (f : ℕ). Adds (AreLineTexts c.args.form raw (moment p f) lines) c.args.self.now.text.items c.loop-number.self.text.items) below adds,
    )

pub returns-clause-keeps : goal.returns-clause-keeps
returns-clause-keeps g c =
    let was = c.loop-number.invariant in
    record {
      asked = c.descend.ensures.asked ∙ was.asked;
      bench = c.descend.ensures.bench c.args.bench.now.pair was.bench;
      none = was.none;
      signals = was.same;
    }
