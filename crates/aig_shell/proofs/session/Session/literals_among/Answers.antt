use Rattle.std.proofs.Common.{subst}
use Rattle.aig_parts.specs.declared.raw.Raw.{Raw}
use Rattle.aig_signals.specs.Lookup.{Unknown}
use Rattle.aig_shell.proofs.session.Session.literals_among.Goals as goal

pub returns-in-None-clause-err : goal.returns-in-None-clause-err
returns-in-None-clause-err c = λ other.
    subst (λ (raw : Raw). Unknown raw c.args.word.now) c.requires.circuit (rw c.in-None.is at c.in_ok-found.ensures.unknown)
