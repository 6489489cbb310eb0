use Rattle.std.proofs.Common.{◌∙◌, sym, ap, arith}
use Rattle.aig_base.specs.Readers.{ReaderLists, list_of}
use Rattle.aig_base.proofs.fan_outs.ReaderLists.{list_is, slots_long}
use Rattle.aig_base.proofs.readers.Readers.list.Goals as goal

pub list-requires : goal.list-requires
list-requires c =
    let long = slots_long c.self.inside.fan_outs.slots _ c.self.view_is in
    omega arith

pub returns : goal.returns
returns c =
    c.list.ensures ∙ sym (list_is c.self.inside.fan_outs.slots c.args.variable)
    ∙ ap (λ (r : ReaderLists). list_of r c.args.variable) c.self.view_is
