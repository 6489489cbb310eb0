use Rattle.std.proofs.Common.{sym, ◌∙◌, subst, rules}
use denote.Enum.Bare.{same_true, true_same}
use Rattle.aig_parts.specs.contracts.ternary.Tern.{the_type}
use Rattle.aig_base.specs.Value.{start_of}
use Rattle.aig_base.proofs.values.UniqueValue.{unique}
use Rattle.aig_bench.specs.BenchState.{HasValue}
use Rattle.aig_bench.proofs.edits.Refusals.{value_allowed}
use Rattle.aig_reduce.proofs.looks.has_value.Goals as goal

pub returns-in-Ok : goal.returns-in-Ok
returns-in-Ok g c =
    let p = c.args.bench.now.pair in (
      λ yes. subst (HasValue p c.args.frame c.args.literal)
          (same_true the_type (search rules) _ c.args.wanted (sym c.eq.ensures ∙ yes)) c.in-Ok.ensures.1,
      λ has. c.eq.ensures ∙ true_same the_type _ c.args.wanted
          (unique p.circuit (start_of p.circuit) p.rows c.width.ensures.circuit.sound c.in-Ok.ensures.1 has),
    )

pub returns-in-Err : goal.returns-in-Err
returns-in-Err g c =
    absurd (value_allowed c.args.bench.now.pair c.args.frame c.args.literal c.requires.range c.requires.defined c.requires.frame
    c.in-Err.field-0 c.in-Err.ensures.0)
