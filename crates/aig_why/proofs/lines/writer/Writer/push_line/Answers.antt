use Rattle.std.proofs.Common.{◌≡◌, ◌++◌, ◌-◌, ℕ, suc, Contains, List, None, Option, Some, map, replicate, slice_get}
use Rattle.std.proofs.Common.{refl, sym, ap, subst, ◌∙◌, arith}
use Rattle.std.proofs.lemmas.List.{length-map}
use Rattle.aig_parts.specs.declared.latch.Latch.{Latch}
use Rattle.aig_parts.specs.declared.ternary.Tern.{Tern}
use Rattle.aig_causes.specs.Causes.{Sources, moment}
use Rattle.aig_causes.specs.Lines.{next}
use Rattle.aig_signals.specs.declared.signal.Signal.{Signal}
use Rattle.aig_signals.specs.declared.text.Naming.{Naming}
use Rattle.aig_signals.specs.Naming.{SectionNamed}
use Rattle.aig_signals.specs.Form.{latches_by}
use Rattle.aig_why.specs.Lines.{AreNamed}
use Rattle.aig_why.specs.state.Naming.{NamesValues}
use Rattle.aig_why.proofs.TextLemmas.{latches_named, line_text, nothing_then, one_kept, one_line}
use Rattle.aig_why.proofs.lines.writer.Writer.push_line.Goals as goal

pub name_latches-requires-clause-there : goal.name_latches-requires-clause-there
name_latches-requires-clause-there g c = λ p has.
    c.requires.latches p (subst (λ (ps : List ℕ). Contains ps p) c.latches.ensures has)

pub name_causes-requires-clause-none : goal.name_causes-requires-clause-none
name_causes-requires-clause-none g c = record {
  inputs = c.requires.none.inputs;
  latches =
      ap (λ (n : SectionNamed). n.values) c.clear.ensures
      ∙ ap (λ (k : ℕ). replicate {A = Option Tern} k None)
      (c.in_ok-name_latches.ensures.named.size ∙ length-map c.args.bench.now.pair.circuit.latches (λ (x : Latch). x.lit));
}

pub returns-clause-text : goal.returns-clause-text
returns-clause-text g c = λ raw of.
    let p = c.args.bench.now.pair in
    let m = moment p (c.args.frame - 1) in
    let x = c.args.line.now in
    let old = c.args.self.now.text.items in
    let before = c.args.self.now.naming in
    let left : Naming = record { inputs = before.inputs; latches = c.name_latches.new.naming } in
    let right = c.name_causes.new.naming in
    let signals = c.in_ok-name_latches.ensures.signals in
    let (signal, at, head) = c.in_ok-push_latches.ensures in
    let here = subst (λ (ss : List Signal). slice_get ss c.args.number ≡ Some signal) signals at in
    let up : c.args.frame ≡ suc (c.args.frame - 1) = omega (arith, c.requires.some) in
    one_line c.args.form raw m x old c.end_line.new.text.items (sym c.is_kept.ensures ∙ c.if-is_kept.false)
    (line_text c.args.form raw p m x signal c.args.number before left right old c.push_latches.new.text.items c.end_line.new.text.items of
    here (c.requires.within signal here)
    (record { inputs = refl; latches = signals })
    (latches_named p.circuit (next m) x.latches before left c.requires.none refl
    (subst (λ (f : ℕ). AreNamed p.circuit (moment p f) (map (λ y. y.lit) p.circuit.latches) x.latches left.latches.values) up
    (subst (λ (ps : List ℕ). AreNamed p.circuit (moment p c.args.frame) (map (λ y. y.lit) p.circuit.latches) ps
    left.latches.values) c.latches.ensures c.in_ok-name_latches.ensures.named)))
    (record {
      inputs = c.in_ok-name_causes.ensures.signals.inputs;
      latches = c.in_ok-name_causes.ensures.signals.latches ∙ ap (λ (n : SectionNamed). n.signals) c.clear.ensures ∙ signals;
    })
    (subst (λ (s : Sources). NamesValues p.circuit m s right) c.causes.ensures c.in_ok-name_causes.ensures.values)
    (subst (λ (f : ℕ). c.push_latches.new.text.items ≡ old ++ latches_by c.args.form left.latches.values signal f) up head)
    c.in_ok-end_line.ensures.text)

pub returns-then-is_kept-clause-text : goal.returns-then-is_kept-clause-text
returns-then-is_kept-clause-text g c = λ raw of.
    one_kept c.args.form raw (moment c.args.bench.now.pair (c.args.frame - 1)) c.args.line.now c.args.self.now.text.items c.args.self.now.text.items
    (sym c.is_kept.ensures ∙ c.if-is_kept.true) refl

pub returns-clause-none : goal.returns-clause-none
returns-clause-none g c =
    nothing_then c.args.bench.now.pair.circuit (moment c.args.bench.now.pair (c.args.frame - 1)) c.causes.result.now
    c.name_causes.new.naming c.end_line.new.naming c.in_ok-name_causes.ensures.values c.in_ok-end_line.ensures.none
