use Rattle.std.proofs.Common.{◌++◌, ◌∷◌, [], ap, ◌∙◌}
use Rattle.std.specs.Prelude.{codes}
use Rattle.aig_names.specs.Header.{sections, header}
use Rattle.aig_names.proofs.PathLemmas.{append_then}
use Rattle.aig_names.proofs.header.dump_header.Goals as goal

pub returns : goal.returns
unfolding header
returns c =
    append_then (codes "$version aig $end\n$timescale 1 ns $end\n") c.push_sections.new.text.items c.extend_from_slice.new.self.items
    (sections c.args.symbols.now c.args.counts.now) (codes "$enddefinitions $end" ++ 10 ∷ [])
    (c.in_ok-push_sections.ensures ∙ ap (λ xs. xs ++ sections c.args.symbols.now c.args.counts.now) c.in_ok-text.ensures.items) c.in_ok-extend_from_slice.ensures.items
