use Rattle.std.proofs.Common.{drop, arith, sym, ap, ◌∙◌, length-drop}
use Rattle.std.specs.List.{flat_map}
use Rattle.std.proofs.lemmas.List.{length-take, take-append-drop, take_all}
use Rattle.std.proofs.lemmas.List.Concat.{flat_map-append}
use Rattle.aig_parts.specs.declared.gate.Gate.{Gate}
use Rattle.aig_format.specs.Spelling.{gate_line}
use Rattle.aig_bytes.proofs.GatherLemmas.{gathers_then, gathers_not_forwarded, gathers_held, gathers_same, gathers_ok}
use Rattle.aig_format.proofs.GatherLemmas.{gathers_pieces}
use Rattle.aig_format.proofs.writer.ascii.put_gates.Goals as goal

pub loop-at-init : goal.loop-at-init
loop-at-init g c = record { inside = c.push_gates-at.ensures.bound; gathered = gathers_held c.push_gates-at.ensures.pushed }

pub returns-in_err-forward : goal.returns-in_err-forward
returns-in_err-forward g c =
    gathers_same
    (gathers_then c.loop-at.invariant.gathered
    (gathers_not_forwarded {a = flat_map gate_line (drop c.loop-at.at c.args.gates.now)} c.in_err-forward.ensures.written c.from_residual.ensures.0))
    (sym (flat_map-append gate_line _ _) ∙ ap (flat_map gate_line) (take-append-drop c.loop-at.at c.args.gates.now))

pub loop-at-preserved : goal.loop-at-preserved
loop-at-preserved g c =
    let h = c.push_gates-at-in-loop-at.ensures in
    record {
      inside = omega (arith, length-take {A = Gate}, length-drop {A = Gate}, h.bound);
      gathered = gathers_pieces gate_line c.args.gates.now c.loop-at.at c.push_gates-at-in-loop-at.result c.loop-at.invariant.gathered
          c.in_ok-forward.ensures.written c.in_ok-forward.ensures.none_buffered h.pushed;
    }

pub returns : goal.returns
returns g c =
    gathers_same (gathers_ok c.loop-at.invariant.gathered)
    (ap (flat_map gate_line) (take_all c.loop-at.at c.args.gates.now (omega (arith, c.loop-at-test.false))))
