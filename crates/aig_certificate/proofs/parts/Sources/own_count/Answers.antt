use Rattle.std.proofs.Common.{length, ap, arith}
use Rattle.aig_certificate.specs.state.Marks.{meanings_of}
use Rattle.aig_certificate.specs.state.Table.{literal_by}
use Rattle.aig_certificate.proofs.Assembled.{counted}
use Rattle.aig_certificate.proofs.parts.Sources.own_count.Goals as goal

pub overflow_cast-result : goal.overflow_cast-result
overflow_cast-result c =
    let s = c.args.self.now in
    let k = counted s.model.now s.certificate.now (meanings_of s.shared) (literal_by s.translation.table) c.facts-2.ensures.formed
    c.args.inputs.now c.args.latches.now c.requires.inputs c.requires.latches in
    omega (
      arith,
      k.own_are,
      k.own_few,
      k.more_inputs,
      k.more_latches,
      c.len.ensures,
      c.len-2.ensures,
      ap length c.inputs.ensures,
      ap length c.latches.ensures,
      ap length c.gates.ensures,
    )

pub returns-clause-own : goal.returns-clause-own
returns-clause-own c =
    let s = c.args.self.now in
    let k = counted s.model.now s.certificate.now (meanings_of s.shared) (literal_by s.translation.table) c.facts-2.ensures.formed
    c.args.inputs.now c.args.latches.now c.requires.inputs c.requires.latches in
    omega (
      arith,
      k.own_are,
      k.own_few,
      k.more_inputs,
      k.more_latches,
      c.len.ensures,
      c.len-2.ensures,
      ap length c.inputs.ensures,
      ap length c.latches.ensures,
      ap length c.gates.ensures,
    )

pub returns-clause-few : goal.returns-clause-few
returns-clause-few c =
    let s = c.args.self.now in
    let k = counted s.model.now s.certificate.now (meanings_of s.shared) (literal_by s.translation.table) c.facts-2.ensures.formed
    c.args.inputs.now c.args.latches.now c.requires.inputs c.requires.latches in
    omega (
      arith,
      k.own_are,
      k.own_few,
      k.more_inputs,
      k.more_latches,
      c.len.ensures,
      c.len-2.ensures,
      ap length c.inputs.ensures,
      ap length c.latches.ensures,
      ap length c.gates.ensures,
    )

pub overflow_add-result : goal.overflow_add-result
overflow_add-result c =
    let s = c.args.self.now in
    let k = counted s.model.now s.certificate.now (meanings_of s.shared) (literal_by s.translation.table) c.facts-2.ensures.formed
    c.args.inputs.now c.args.latches.now c.requires.inputs c.requires.latches in
    omega (
      arith,
      k.own_are,
      k.own_few,
      k.more_inputs,
      k.more_latches,
      c.len.ensures,
      c.len-2.ensures,
      ap length c.inputs.ensures,
      ap length c.latches.ensures,
    )

pub overflow_add-result-2 : goal.overflow_add-result-2
overflow_add-result-2 c =
    let s = c.args.self.now in
    let k = counted s.model.now s.certificate.now (meanings_of s.shared) (literal_by s.translation.table) c.facts-2.ensures.formed
    c.args.inputs.now c.args.latches.now c.requires.inputs c.requires.latches in
    omega (
      arith,
      k.own_are,
      k.own_few,
      k.more_inputs,
      k.more_latches,
      c.len.ensures,
      c.len-2.ensures,
      ap length c.inputs.ensures,
      ap length c.latches.ensures,
      ap length c.gates.ensures,
    )
