use Rattle.std.proofs.Common.{◌∙◌, ℕ, List, length, eqb, refl, sym, ap}
use Rattle.std.proofs.lemmas.Bool.{false≢true}
use Rattle.aig_causes.specs.Causes.{moment}
use Rattle.aig_signals.specs.declared.text.Naming.{Naming}
use Rattle.aig_why.proofs.TextLemmas.{latches_named, origin_text}
use Rattle.aig_why.proofs.lines.writer.Writer.push_open_latches.Goals as goal

pub returns-clause-text : goal.returns-clause-text
returns-clause-text g c = λ raw of.
    let p = c.args.bench.now.pair in
    let before = c.args.self.now.naming in
    let n : Naming = record { inputs = before.inputs; latches = c.name_latches.new.naming } in
    origin_text c.args.form raw p (moment p c.args.frame) c.args.origin c.args.latches.now before n c.args.self.now.text.items
    c.push_origin.new.text.items c.end_line.new.text.items (λ none. false≢true
    (sym c.if-is_empty.false ∙ c.is_empty.ensures ∙ ap (λ (ps : List ℕ). eqb (length ps) 0) none)) of
    (record { inputs = refl; latches = c.in_ok-name_latches.ensures.signals })
    (latches_named p.circuit (moment p c.args.frame) c.args.latches.now before n c.requires.none refl
    c.in_ok-name_latches.ensures.named)
    c.in_ok-push_origin.ensures c.in_ok-end_line.ensures.text
