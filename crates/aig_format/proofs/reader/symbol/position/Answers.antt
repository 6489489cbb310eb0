use Rattle.std.proofs.Common.{◌≡◌, true, false, arith, refl}
use Rattle.aig_format.proofs.Keeping.{keeps_reads, kept}
use Rattle.aig_format.proofs.NameSteps.{position_named, position_free}
use Rattle.aig_format.proofs.reader.symbol.position.Goals as goal

pub returns-then-contains-clause-reads : goal.returns-then-contains-clause-reads
returns-then-contains-clause-reads g c = keeps_reads (kept c.in_ok-position.ensures.reads) (λ n. refl) (λ reported.
    position_named c.args.counts.now c.args.named.now c.args.kind
    (g.S.Source.left c.args.s.now) c.in_ok-position.position (g.S.Source.left c.number.new.s)
    (c.in_ok-position.ensures.reads.bytes reported) (omega (arith, c.of.ensures)) (c.if-contains.ensures.0 refl))

pub returns-clause-reads : goal.returns-clause-reads
returns-clause-reads g c = keeps_reads (kept c.in_ok-position.ensures.reads) (λ n. refl) (λ reported.
    position_free c.args.counts.now c.args.named.now c.args.kind
    (g.S.Source.left c.args.s.now) c.in_ok-position.position (g.S.Source.left c.number.new.s)
    (c.in_ok-position.ensures.reads.bytes reported) (omega (arith, c.of.ensures)) (λ h. let e : false ≡ true =
    c.if-contains.ensures.1 h in absurd cc))
