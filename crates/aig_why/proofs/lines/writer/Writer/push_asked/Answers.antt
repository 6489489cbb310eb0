use Rattle.std.proofs.Common.{◌++◌, ℕ, List, Option, ap, subst, ◌∙◌}
use Rattle.aig_parts.specs.declared.ternary.Tern.{Tern}
use Rattle.aig_causes.specs.Causes.{Sources, moment}
use Rattle.aig_signals.specs.Form.{asked_by}
use Rattle.aig_why.specs.Lines.{AreBits, IsAskedText}
use Rattle.aig_why.specs.state.Naming.{Adds, NamesValues}
use Rattle.aig_why.proofs.TextLemmas.{asked_text, nothing_then}
use Rattle.aig_why.proofs.lines.writer.Writer.push_asked.Goals as goal

pub returns-clause-text : goal.returns-clause-text
returns-clause-text g c = λ raw of alone.
    let p = c.args.bench.now.pair in
    let e = c.args.explanation.now in
    let m = moment p c.frame-frame.result in
    let old = c.args.self.now.text.items in
    let n = c.name_causes.new.naming in
    subst (λ (f : ℕ). Adds (IsAskedText c.args.form raw (moment p f) c.args.question.now.name c.args.question.now.literals e.asked) old c.end_line.new.text.items)
    c.frame-frame.ensures
    (asked_text c.args.form raw p m c.args.question.now.name c.args.question.now.literals c.in_ok-values.values.items e.asked c.args.self.now.naming n old
    c.push_asked.new.text.items c.end_line.new.text.items of c.in_ok-name_causes.ensures.signals
    (subst (λ (s : Sources). NamesValues p.circuit m s n) c.asked.ensures c.in_ok-name_causes.ensures.values)
    (subst (λ (ls : List ℕ). AreBits p.circuit m ls c.in_ok-values.values.items) c.as_slice.ensures c.in_ok-values.ensures)
    (c.in_ok-push_asked.ensures
    ∙ ap (λ (name : List ℕ). old ++ asked_by c.args.form name c.deref.result.now c.frame-frame.result) c.as_slice-2.ensures
    ∙ ap (λ (bits : List (Option Tern)). old ++ asked_by c.args.form c.args.question.now.name bits c.frame-frame.result) c.deref.ensures.value)
    c.in_ok-end_line.ensures.text)

pub returns-clause-none : goal.returns-clause-none
returns-clause-none g c =
    nothing_then c.args.bench.now.pair.circuit (moment c.args.bench.now.pair c.frame-frame.result) c.asked.result.now
    c.name_causes.new.naming c.end_line.new.naming c.in_ok-name_causes.ensures.values c.in_ok-end_line.ensures.none
