use Rattle.std.proofs.Common.{◌≤◌, ◌↔◌, ℕ, List, [], All, IsTrue, sym, ◌∙◌, subst}
use Rattle.std.specs.Global.{Vec}
use Rattle.aig_parts.specs.Literal.{variable}
use Rattle.aig_base.specs.Sections.{IsDefined, IsLatchLiteral}
use Rattle.aig_causes.specs.Causes.{Sources, moment}
use Rattle.aig_causes.specs.Explanation.{HasCome}
use Rattle.aig_why.specs.Lines.{IsAskedText}
use Rattle.aig_why.specs.Named.{IsNamingOf, NamesNothing}
use Rattle.aig_why.specs.Why.{IsExplanation, run_of}
use Rattle.aig_why.specs.state.Naming.{Adds}
use Rattle.aig_why.proofs.FrameLemmas.{naming_with}
use Rattle.aig_why.proofs.WholeLemmas.{FirstLine, explanation, first_line}
use Rattle.aig_why.proofs.lines.text_of.Goals as goal

pub new-requires-clause-range : goal.new-requires-clause-range
new-requires-clause-range g c =
    subst (All (λ l. variable l ≤ c.args.run.now.bench.pair.circuit.max_var)) (sym c.as_slice-literals.ensures) c.requires.range

pub new-requires-clause-defined : goal.new-requires-clause-defined
new-requires-clause-defined g c =
    subst (All (λ l. IsDefined c.args.run.now.bench.pair.circuit (variable l))) (sym c.as_slice-literals.ensures) c.requires.defined

pub push_asked-requires-clause-none : goal.push_asked-requires-clause-none
push_asked-requires-clause-none g c =
    subst (NamesNothing c.args.run.now.bench.pair.circuit) (sym c.new-writer.ensures.naming) c.requires.none

pub push_frames-requires-clause-begins : goal.push_frames-requires-clause-begins
push_frames-requires-clause-begins g c =
    let p = c.args.run.now.bench.pair in
    let (raw, of) = c.requires.of in
    record {
      bench = c.in_ok-explanation.ensures.bench;
      end = c.in_ok-explanation.ensures.end;
      of = (
        raw,
        naming_with raw p c.new-writer.result.naming c.push_asked.new.self.naming
            (subst (IsNamingOf raw p) (sym c.new-writer.ensures.naming) of) c.in_ok-push_asked.ensures.signals,
      );
      none = c.in_ok-push_asked.ensures.none;
    }

pub returns : goal.returns
returns g c = λ raw of latches.
    let p = c.args.run.now.bench.pair in
    let t = c.args.frames.first in
    let begun = c.in_ok-explanation.explanation in
    let e = c.push_frames.new.explanation in
    let name = c.args.question.now.name in
    let literals = c.args.question.now.literals in
    let first = c.push_asked.new.self.text.items in
    let middle = c.push_frames.new.self.text.items in
    let text = c.push_last.new.self.text.items in
    let at_first : IsNamingOf raw p c.new-writer.result.naming =
    subst (IsNamingOf raw p) (sym c.new-writer.ensures.naming) of in
    let at_asked =
    naming_with raw p c.new-writer.result.naming c.push_asked.new.self.naming at_first c.in_ok-push_asked.ensures.signals in
    let at_last =
    naming_with raw p c.push_asked.new.self.naming c.push_frames.new.self.naming at_asked c.in_ok-push_frames.ensures.keeps.signals in
    let (frames, come, down, adds) =
    c.in_ok-push_frames.ensures.come raw at_asked literals
    (subst (λ (ls : List ℕ). HasCome p ls begun [] []) c.as_slice-literals.ensures c.in_ok-explanation.ensures.come) in
    let line : FirstLine c.args.form raw (moment p t) name literals begun.asked first =
    first_line c.args.form raw p (moment p t) name literals begun.asked begun.latches_alone first of.resets
    (subst (λ (ls : List ℕ). IsTrue begun.latches_alone ↔ All (IsLatchLiteral p.circuit) ls) c.as_slice-literals.ensures
    c.in_ok-explanation.ensures.alone)
    (λ alone. c.in_ok-push_asked.ensures.alone alone ∙ c.new-writer.ensures.text)
    (λ other. subst (λ (f : ℕ). Adds (IsAskedText c.args.form raw (moment p f) name literals begun.asked) [] first)
    c.in_ok-explanation.ensures.frame
    (subst (λ (old : List ℕ). Adds (IsAskedText c.args.form raw (moment p begun.frame) name literals begun.asked) old first)
    c.new-writer.ensures.text (c.in_ok-push_asked.ensures.text raw at_first other))) in
    let whole : IsExplanation c.args.form raw (run_of p) name literals t c.args.frames.last text =
    explanation c.args.form raw p e name literals t c.args.frames.last frames first middle text of.resets come
    (down ∙ c.in_ok-explanation.ensures.frame) c.in_ok-push_frames.ensures.last c.in_ok-push_frames.ensures.ends
    (subst (λ (s : Sources). FirstLine c.args.form raw (moment p t) name literals s first) (sym c.in_ok-push_frames.ensures.keeps.asked) line) adds
    (c.in_ok-push_last.ensures raw at_last (latches ∙ sym c.deref.ensures.value) literals frames come) in
    subst (λ (lines : Vec ℕ). IsExplanation c.args.form raw (run_of p) name literals t c.args.frames.last lines.items)
    (sym c.into_text.ensures) whole
