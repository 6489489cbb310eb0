use Rattle.std.proofs.Common.{◌≡◌, ◌++◌, List, map, All, option_copied, sym, subst, arith}
use Rattle.std.proofs.lemmas.List.{length-append}
use Rattle.std.proofs.lemmas.List.Elements.{All-push}
use Rattle.aig_certificate.specs.declared.mapping.Pair.{Pair}
use Rattle.aig_certificate.specs.Mapping.{IsPair, pair_line}
use Rattle.aig_certificate.specs.state.Lines.{lines_of}
use Rattle.aig_certificate.proofs.MappingLines.{more_lines, wrong_lines}
use Rattle.aig_certificate.proofs.mapping.pairs_of.Goals as goal

pub loop-pair-preserved : goal.loop-pair-preserved
loop-pair-preserved c =
    let v = c.loop-pair.invariant in
    let given = lines_of (option_copied c.args.lines) in
    let behind = lines_of (option_copied c.in-Some.after) in
    let P : Pair → Type 0 = IsPair c.args.model.now c.args.certificate.now in
    record {
      lines = subst (λ (ps : List Pair). given ≡ map pair_line ps ++ behind) (sym c.in_ok-push.ensures.ok)
          (more_lines given c.loop-pair.pairs c.in-Some.pair (lines_of (option_copied c.loop-pair.rest)) behind v.lines
          c.in-Some.ensures.some);
      count = grind (arith, length-append, c.in_ok-push.ensures.ok, v.count);
      each = subst (All P) (sym c.in_ok-push.ensures.ok) (All-push P c.loop-pair.pairs c.in-Some.pair v.each c.in-Some.ensures.pair);
    }

pub returns-in_default-clause-refused : goal.returns-in_default-clause-refused
returns-in_default-clause-refused c =
    let v = c.loop-pair.invariant in
    wrong_lines c.args.model.now c.args.certificate.now (lines_of (option_copied c.args.lines)) c.loop-pair.pairs
    (lines_of (option_copied c.loop-pair.rest)) c.args.count v.lines (omega (arith, v.count, c.loop-pair-test.true))
    (c.next_pair.ensures.none c.in_default.is)

pub returns-clause-lines : goal.returns-clause-lines
returns-clause-lines c = (lines_of (option_copied c.loop-pair.rest), c.loop-pair.invariant.lines)

pub returns-clause-count : goal.returns-clause-count
returns-clause-count c =
    omega (arith, c.loop-pair.invariant.count, c.loop-pair-test.false, c.loop-pair.auto._pair-end)
