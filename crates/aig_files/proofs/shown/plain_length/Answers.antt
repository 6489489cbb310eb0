use Rattle.std.proofs.Common.{◌∙◌, sym, arith, IsTrue}
use Rattle.std.proofs.lemmas.List.Elements.{All-more}
use Rattle.aig_files.specs.Shown.{is_plain}
use Rattle.aig_files.proofs.shown.plain_length.Goals as goal

pub loop-count-preserved : goal.loop-count-preserved
loop-count-preserved c =
    record {
      bound = omega (arith, c.loop-count-test.true);
      plain = All-more (λ b. IsTrue (is_plain b)) c.args.bytes.now c.loop-count.count 0 (omega (arith, c.loop-count-test.true))
          c.loop-count.invariant.plain (sym c.is_plain.ensures ∙ c.if-is_plain.true);
    }
