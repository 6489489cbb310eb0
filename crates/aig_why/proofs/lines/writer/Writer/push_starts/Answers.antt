use Rattle.std.proofs.Common.{ℕ, List, Contains, subst}
use Rattle.std.proofs.lemmas.Result.{on_ok_weaker}
use Rattle.aig_causes.specs.Causes.{moment}
use Rattle.aig_signals.specs.declared.text.Origin.TheVariants as origin
use Rattle.aig_why.specs.Lines.{IsOriginText}
use Rattle.aig_why.specs.state.Naming.{Adds}
use Rattle.aig_why.proofs.FrameLemmas.{naming_with}
use Rattle.aig_why.proofs.StartLemmas.{last_at_start}
use Rattle.aig_why.proofs.lines.writer.Writer.push_starts.Goals as goal

pub push_open_latches-requires-clause-latches : goal.push_open_latches-requires-clause-latches
push_open_latches-requires-clause-latches g c = λ p has.
    c.requires.latches p ((c.in_ok-reset.ensures p).0 (subst (λ (ps : List ℕ). Contains ps p) c.deref.ensures.value has)).0

pub push_open_latches-requires-2-clause-latches : goal.push_open_latches-requires-2-clause-latches
push_open_latches-requires-2-clause-latches g c = λ p has.
    c.requires.latches p ((c.in_ok-start.ensures p).0 (subst (λ (ps : List ℕ). Contains ps p) c.deref-2.ensures.value has)).0

pub returns : goal.returns
returns g c = λ raw of resets_are named same.
    let p = c.args.bench.now.pair in
    let reset = c.in_ok-reset.reset.items in
    let start = c.in_ok-start.start.items in
    let old = c.args.self.now.text.items in
    let middle = c.push_open_latches.new.self.text.items in
    let new = c.push_open_latches-2.new.self.text.items in
    let before = naming_with raw p c.args.self.now.naming c.push_open_latches.new.self.naming of c.in_ok-push_open_latches.ensures.signals in
    on_ok_weaker c.push_open_latches-2.result
    (λ (adds : Adds (IsOriginText c.args.form raw (moment p 0) origin.Start c.deref-2.result.now) middle new).
    last_at_start raw p of.resets c.args.resets.now resets_are c.args.latches.now named same c.args.form reset start old middle new
    c.in_ok-reset.ensures c.in_ok-start.ensures
    (subst (λ (ps : List ℕ). Adds (IsOriginText c.args.form raw (moment p 0) origin.Reset ps) old middle) c.deref.ensures.value
    (c.in_ok-push_open_latches.ensures.text raw of))
    (subst (λ (ps : List ℕ). Adds (IsOriginText c.args.form raw (moment p 0) origin.Start ps) middle new) c.deref-2.ensures.value adds))
    (c.push_open_latches-2.ensures.text raw before)
