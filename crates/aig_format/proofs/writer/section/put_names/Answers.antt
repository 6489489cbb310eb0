use Rattle.std.proofs.Common.{ap}
use Rattle.std.specs.List.{flat_map}
use Rattle.aig_format.specs.Spelling.{symbol_line, comment_text}
use Rattle.aig_bytes.proofs.GatherLemmas.{gathers_then, gathers_stop, gathers_failed, gathers_same}
use Rattle.aig_format.specs.Spelling.{names_text}
use Rattle.aig_format.proofs.writer.section.put_names.Goals as goal

pub returns-in_err-put_symbols : goal.returns-in_err-put_symbols
unfolding names_text
returns-in_err-put_symbols g c = let h = c.from_residual.ensures.0 in gathers_stop _ h (gathers_failed (gathers_same c.in_err-put_symbols.ensures (ap (flat_map symbol_line) c.symbols.ensures)) h)

pub returns : goal.returns
unfolding names_text
returns g c = gathers_then (gathers_same c.in_ok-put_symbols.ensures (ap (flat_map symbol_line) c.symbols.ensures)) (gathers_same c.put_comment.ensures (ap comment_text c.comment.ensures))
