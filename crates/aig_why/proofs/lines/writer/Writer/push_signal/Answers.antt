use Rattle.std.proofs.Common.{◌≡◌, ◌-◌, ◌<◌, ◌++◌, ℕ, [], ◌∷◌, IfSome, Option, option_to_list, subst, ap, arith}
use Rattle.std.proofs.lemmas.Result.{on_ok_weaker}
use Rattle.aig_base.proofs.lists.Gets.{same_element}
use Rattle.aig_causes.specs.Causes.{moment}
use Rattle.aig_causes.specs.Explanation.{AreNamedBetween, HasCome, LineState}
use Rattle.aig_signals.specs.declared.signal.Signal.{Signal}
use Rattle.aig_why.specs.Lines.{AreLineTexts}
use Rattle.aig_why.specs.state.Naming.{Adds}
use Rattle.aig_why.proofs.TextLemmas.{no_lines}
use Rattle.aig_why.proofs.lines.writer.Writer.push_signal.Goals as goal

pub push_line-requires-clause-latches : goal.push_line-requires-clause-latches
push_line-requires-clause-latches g c = λ p has.
    let e = c.args.explanation.now in
    let (signal, at, first, some, to) = c.requires.signal in
    let (other, at_other, is_end) = c.end_of-end.ensures in
    let same : other ≡ signal =
    same_element c.args.self.now.naming.latches.signals c.args.number other signal at_other at in
    let named = subst (λ (o : Option LineState).
    IfSome o (λ (x : LineState). AreNamedBetween e.named e.end c.end_of-end.result x.latches)) c.in-Some.is
    c.in_ok-line.ensures.latches in
    let lt : p < c.end_of-end.result = (named.only p has).1 in
    omega (arith, lt, is_end, ap (λ (s : Signal). s.end) same, to)

pub push_line-requires-clause-within : goal.push_line-requires-clause-within
push_line-requires-clause-within g c = λ signal here p has.
    let e = c.args.explanation.now in
    let (signal_2, at, first, some, to) = c.requires.signal in
    let (other, at_other, is_end) = c.end_of-end.ensures in
    let signals = c.args.self.now.naming.latches.signals in
    let same : other ≡ signal = same_element signals c.args.number other signal at_other here in
    let same_2 : signal_2 ≡ signal = same_element signals c.args.number signal_2 signal at here in
    let named = subst (λ (o : Option LineState).
    IfSome o (λ (x : LineState). AreNamedBetween e.named e.end c.end_of-end.result x.latches)) c.in-Some.is
    c.in_ok-line.ensures.latches in
    let between = named.only p has in (
      omega (arith, between.0, first, ap (λ (s : Signal). s.first) same_2),
      omega (arith, between.1, is_end, ap (λ (s : Signal). s.end) same),
    )

pub returns-in-Some-clause-come : goal.returns-in-Some-clause-come
returns-in-Some-clause-come g c = λ raw of literals frames lines h.
    let p = c.args.bench.now.pair in
    let line = c.in-Some.line in
    let old = c.args.self.now.text.items in
    let new = c.push_line.new.self.text.items in
    let come = subst (λ (o : Option LineState). HasCome p literals c.line.new.self frames (lines ++ option_to_list o)) c.in-Some.is
    (c.in_ok-line.ensures.come literals frames lines h) in
    on_ok_weaker c.push_line.result
    (λ (adds : Adds (AreLineTexts c.args.form raw (moment p (c.frame-frame.result - 1)) (line ∷ [])) old new). (
      line ∷ [],
      come,
      subst (λ (f : ℕ). Adds (AreLineTexts c.args.form raw (moment p (f - 1)) (line ∷ [])) old new) c.frame-frame.ensures adds,
    ))
    (c.push_line.ensures.text raw of)

pub returns-in-None-clause-come : goal.returns-in-None-clause-come
returns-in-None-clause-come g c = λ raw of literals frames lines h.
    let p = c.args.bench.now.pair in (
      [],
      subst (λ (o : Option LineState). HasCome p literals c.line.new.self frames (lines ++ option_to_list o)) c.in-None.is
          (c.in_ok-line.ensures.come literals frames lines h),
      no_lines c.args.form raw (moment p (c.args.explanation.now.frame - 1)) c.args.self.now.text.items,
    )
