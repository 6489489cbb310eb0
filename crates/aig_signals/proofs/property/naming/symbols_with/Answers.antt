use Rattle.std.proofs.Common.{◌≡◌, ℕ, List, ◌++◌, Contains, ap, sym, subst, ◌∙◌}
use Rattle.std.specs.Map.{keys_of}
use Rattle.aig_parts.specs.SymbolPlaces.{Key}
use Rattle.aig_base.specs.Selected.{kind_of}
use Rattle.aig_signals.specs.Named.{symbols_from, with_symbols}
use Rattle.aig_signals.proofs.NamedEntries.{others_free}
use Rattle.aig_signals.proofs.property.naming.symbols_with.Goals as goal

pub push_names-requires : goal.push_names-requires
push_names-requires c p here =
    others_free c.args.section c.args.circuit.now.symbols p
    (subst (λ (ss : List (Key × List ℕ)). Contains (keys_of ss) (kind_of c.args.section, p)) c.in_ok-list.ensures here)

pub returns-clause-named : goal.returns-clause-named
returns-clause-named c =
    let (names, are, count, listed) = c.in_ok-push_names.ensures.names in (
      names,
      (are, count ∙ c.count_of.ensures),
      ap (λ (ss : List (Key × List ℕ)). with_symbols c.args.circuit.now ss)
          (c.in_ok-symbols.ensures ∙ listed
          ∙ ap (λ (ss : List (Key × List ℕ)). ss ++ symbols_from (kind_of c.args.section) 0 names) c.in_ok-list.ensures),
    )
