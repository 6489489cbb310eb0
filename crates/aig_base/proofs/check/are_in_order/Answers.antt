use Rattle.aig_base.proofs.lists.Evens.{apart, joined}
use Rattle.aig_base.proofs.check.are_in_order.Goals as goal

pub returns : goal.returns
returns c =
    let raw = c.args.raw.now in
    let test = rw (c.as_slice.ensures, c.as_slice-2.ensures, c.as_slice-3.ensures) at c.definitions_in_order.ensures in
    (λ h. joined raw (test.0 h), λ h. test.1 (apart raw h))
