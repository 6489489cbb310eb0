use Rattle.std.proofs.Common.{◌<◌, [], ◌∷◌, refl, sym, ◌∙◌, arith}
use Rattle.std.proofs.lemmas.Bool.{false≢true}
use Rattle.aig_causes.specs.Causes.{moment}
use Rattle.aig_why.proofs.FrameLemmas.{naming_with}
use Rattle.aig_why.proofs.WholeLemmas.{frame_added, no_frames}
use Rattle.aig_why.proofs.lines.writer.Writer.push_frames.Goals as goal

pub loop-form-init : goal.loop-form-init
loop-form-init g c = record {
  bench = c.requires.begins.bench;
  end = c.requires.begins.end;
  last = c.requires.last;
  asked = refl;
  none = c.requires.begins.none;
  same = record { inputs = refl; latches = refl };
  come = λ raw of literals h. (
    [],
    h,
    omega arith,
    no_frames c.args.form raw (moment c.args.bench.now.pair c.args.explanation.now.frame) c.args.self.now.text.items,
  );
}

pub push_frame-requires-clause-some : goal.push_frame-requires-clause-some
push_frame-requires-clause-some g c = omega (arith, c.goes_on.ensures.above c.loop-form-test.true)

pub push_frame-requires-clause-begins : goal.push_frame-requires-clause-begins
push_frame-requires-clause-begins g c =
    let (raw, of) = c.requires.begins.of in
    let was = c.loop-form.invariant in
    record {
      bench = was.bench;
      end = was.end;
      of = (raw, naming_with raw c.args.bench.now.pair c.args.self.now.naming c.loop-form.self.naming of was.same);
      none = was.none;
    }

pub loop-form-preserved : goal.loop-form-preserved
loop-form-preserved g c =
    let p = c.args.bench.now.pair in
    let was = c.loop-form.invariant in
    let now = c.in_ok-push_frame.ensures in
    let above : c.args.last < c.loop-form.explanation.frame = c.goes_on.ensures.above c.loop-form-test.true in
    record {
      bench = now.keeps.bench;
      end = now.end;
      last = omega (arith, above, now.frame);
      asked = now.keeps.asked ∙ was.asked;
      none = now.keeps.none;
      same = record {
        inputs = now.keeps.signals.inputs ∙ was.same.inputs;
        latches = now.keeps.signals.latches ∙ was.same.latches;
      };
      come = λ raw of literals h.
          let (frames, come, count, adds) = was.come raw of literals h in
          let (lines, come_more, adds_more) =
          now.come raw (naming_with raw p c.args.self.now.naming c.loop-form.self.naming of was.same) literals frames come in (
            lines ∷ frames,
            come_more,
            omega (arith, count, now.frame),
            frame_added c.args.form raw p c.loop-form.explanation.frame c.push_frame.new.explanation.frame lines frames c.args.self.now.text.items
                c.loop-form.self.text.items c.push_frame.new.self.text.items now.frame adds adds_more,
          );
    }

pub returns-clause-come : goal.returns-clause-come
returns-clause-come g c = c.loop-form.invariant.come

pub returns-clause-ends : goal.returns-clause-ends
returns-clause-ends g c = c.goes_on.ensures.ends (λ on. false≢true (sym c.loop-form-test.false ∙ on))

pub returns-clause-keeps : goal.returns-clause-keeps
returns-clause-keeps g c =
    let was = c.loop-form.invariant in
    record { asked = was.asked; bench = was.bench; none = was.none; signals = was.same }
