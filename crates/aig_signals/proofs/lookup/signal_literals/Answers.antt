use Rattle.std.proofs.Common.{◌∙◌, List, Some, sym, ap, arith}
use Rattle.std.specs.Prelude.{option_map}
use Rattle.std.specs.Str.{bytes_eq}
use Rattle.aig_signals.specs.declared.signal.Signal.{Signal}
use Rattle.aig_signals.specs.Lookup.{signal_literals, named_in}
use Rattle.aig_signals.proofs.RunLemmas.{signal_there}
use Rattle.aig_signals.proofs.lookup.signal_literals.Goals as goal

pub literals_between-requires-clause-ordered : goal.literals_between-requires-clause-ordered
literals_between-requires-clause-ordered c =
    let there = signal_there c.args.circuit.now c.args.signals.now (λ s. bytes_eq s.name c.args.name.now) _ c.requires (sym c.in-Some.ensures) in
    omega (arith, there.0)

pub literals_between-requires-clause-within : goal.literals_between-requires-clause-within
literals_between-requires-clause-within c =
    let there = signal_there c.args.circuit.now c.args.signals.now (λ s. bytes_eq s.name c.args.name.now) _ c.requires (sym c.in-Some.ensures) in
    there.1

pub returns-in_ok-literals_between-in-Some : goal.returns-in_ok-literals_between-in-Some
returns-in_ok-literals_between-in-Some c =
    ap Some c.in_ok-literals_between-in-Some.ensures
    ∙ ap (option_map (signal_literals c.args.circuit.now)) (c.in-Some.ensures ∙ ap (λ (s : List Signal). named_in s c.args.name.now) c.requires)

pub returns-in-None : goal.returns-in-None
returns-in-None c =
    ap (option_map (signal_literals c.args.circuit.now)) (c.in-None.ensures ∙ ap (λ (s : List Signal). named_in s c.args.name.now) c.requires)
