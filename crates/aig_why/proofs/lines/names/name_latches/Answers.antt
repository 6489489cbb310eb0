use Rattle.std.proofs.Common.{ℕ, List, get_or, map, None, Option, refl, replicate, subst, sym, ap, arith, ◌∙◌}
use Rattle.std.proofs.lemmas.List.{length-map, take_all}
use Rattle.std.proofs.lemmas.Option.{slice_get-get_or}
use Rattle.aig_parts.specs.declared.latch.Latch.{Latch}
use Rattle.aig_parts.specs.declared.ternary.Tern.{Tern}
use Rattle.aig_base.proofs.lists.Gets.{Contains-from_get}
use Rattle.aig_causes.specs.Causes.{moment}
use Rattle.aig_signals.specs.Naming.{SectionNamed}
use Rattle.aig_why.specs.Lines.{AreNamed}
use Rattle.aig_why.proofs.NamingLemmas.{named_more, named_none}
use Rattle.aig_why.proofs.lines.names.name_latches.Goals as goal

pub loop-position-init : goal.loop-position-init
loop-position-init g c = record {
  named = named_none c.args.bench.now.pair.circuit (moment c.args.bench.now.pair c.args.frame) (map (λ x. x.lit) c.args.bench.now.pair.circuit.latches) _
      (c.requires.none ∙ ap (λ (n : ℕ). replicate {A = Option Tern} n None)
      (sym (length-map c.args.bench.now.pair.circuit.latches (λ (x : Latch). x.lit))));
  signals = refl;
}

pub latch_value-requires-clause-there : goal.latch_value-requires-clause-there
latch_value-requires-clause-there g c =
    let place = c.loop-position.position-index in
    let positions = c.args.positions.now in
    c.requires.there (get_or positions place 0)
    (Contains-from_get positions place (get_or positions place 0) (slice_get-get_or positions place 0 c.loop-position-test.true))

pub name-requires : goal.name-requires
name-requires g c =
    let place = c.loop-position.position-index in
    let positions = c.args.positions.now in
    let there =
    c.requires.there (get_or positions place 0)
    (Contains-from_get positions place (get_or positions place 0) (slice_get-get_or positions place 0 c.loop-position-test.true)) in
    omega (
      arith,
      there,
      c.loop-position.invariant.named.size,
      length-map c.args.bench.now.pair.circuit.latches (λ (x : Latch). x.lit),
    )

pub loop-position-preserved : goal.loop-position-preserved
loop-position-preserved g c =
    let (l, at, v) = c.latch_value.ensures in
    record {
      named = named_more c.args.bench.now.pair.circuit c.width.ensures.circuit.sound (moment c.args.bench.now.pair c.args.frame)
          (map (λ x. x.lit) c.args.bench.now.pair.circuit.latches) c.args.positions.now c.loop-position.naming.values _ c.loop-position.position-index l
          c.latch_value.result c.loop-position-test.true c.loop-position.invariant.named at v
          (ap (λ (n : SectionNamed). n.values) c.in_ok-name.ensures);
      signals = ap (λ (n : SectionNamed). n.signals) c.in_ok-name.ensures ∙ c.loop-position.invariant.signals;
    }

pub returns-clause-named : goal.returns-clause-named
returns-clause-named g c =
    subst (λ (ps : List ℕ). AreNamed c.args.bench.now.pair.circuit (moment c.args.bench.now.pair c.args.frame)
    (map (λ x. x.lit) c.args.bench.now.pair.circuit.latches) ps c.loop-position.naming.values)
    (take_all c.loop-position.position-index c.args.positions.now (omega (arith, c.loop-position-test.false)))
    c.loop-position.invariant.named
