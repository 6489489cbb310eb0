use Rattle.aig_base.proofs.lists.Evens.{apart, joined}
use Rattle.aig_base.proofs.check.ordered.is_ascending.Goals as goal

pub returns : goal.returns
returns c =
    let raw = c.args.raw.now in
    let test = rw (c.as_slice-gates.ensures, c.as_slice.ensures, c.as_slice-2.ensures) at c.sections_ascend.ensures in
    (λ h. let both = test.0 h in (joined raw both.0, both.1), λ both. test.1 (apart raw both.0, both.1))
