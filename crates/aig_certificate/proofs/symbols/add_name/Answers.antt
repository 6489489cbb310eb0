use Rattle.std.proofs.Common.{◌++◌, Option, sym, subst}
use Rattle.aig_parts.specs.SymbolPlaces.{Key}
use Rattle.aig_certificate.specs.declared.fault.StrengthenFault.TheVariants as faults
use Rattle.aig_certificate.specs.state.Names.{RefusesNames, with_name}
use Rattle.aig_certificate.proofs.Naming.{twice_named}
use Rattle.aig_certificate.proofs.symbols.add_name.Goals as goal

pub returns-then-contains-clause-refused : goal.returns-then-contains-clause-refused
returns-then-contains-clause-refused c =
    let entry : Key = (c.in-Some.kind, c.in-Some.position) in
    subst (λ (o : Option Key). RefusesNames (c.args.list.now ++ with_name o c.args.name.now) faults.Limit) (sym c.in-Some.is)
    (twice_named c.args.list.now entry c.args.name.now (c.contains.ensures.0 c.if-contains.true))
