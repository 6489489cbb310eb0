use Rattle.std.proofs.Common.{◌++◌, ◌∷◌, []}
use Rattle.std.specs.Prelude.{codes}
use Rattle.aig_names.proofs.PathLemmas.{append_then}
use Rattle.aig_names.proofs.paths.push_scope.Goals as goal

pub returns : goal.returns
returns c =
    let old = c.args.text.now.items in
    let name = c.args.name.now in
    let end = codes " $end" ++ 10 ∷ [] in
    let first = c.extend_from_slice.new.self.items in
    let last = c.extend_from_slice-3.new.self.items in
    append_then old first last (codes "$scope module ") (name ++ end) c.in_ok-extend_from_slice.ensures.items
    (append_then first c.extend_from_slice-2.new.self.items last name end c.in_ok-extend_from_slice-2.ensures.items c.in_ok-extend_from_slice-3.ensures.items)
