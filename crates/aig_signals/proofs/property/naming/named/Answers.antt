use Rattle.std.proofs.Common.{sym, subst}
use Rattle.aig_parts.specs.declared.raw.Raw.{Raw}
use Rattle.aig_parts.specs.Formed.{IsFormed}
use Rattle.aig_signals.proofs.NamedParts.{named_formed}
use Rattle.aig_signals.proofs.property.naming.named.Goals as goal

pub check-requires : goal.check-requires
check-requires c =
    record {
      formed =
          subst (λ (r : Raw). IsFormed r) (sym c.in_ok-parts.ensures)
          (named_formed c.args.circuit.now c.args.section c.args.names.now c.in_ok-symbols.symbols c.facts.ensures.formed
          c.in_ok-symbols.ensures.named c.in_ok-symbols.ensures.once);
    }
