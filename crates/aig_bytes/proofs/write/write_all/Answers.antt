use Rattle.std.proofs.Common.{◌++◌, List, ℕ, Ok, take, ap, ◌∙◌, arith}
use Rattle.std.proofs.lemmas.List.{take_rest, take-append-drop}
use Rattle.aig_bytes.specs.Bytes.{Writes}
use Rattle.aig_bytes.proofs.WriteLemmas.{writes_then, writes_same}
use Rattle.aig_bytes.proofs.write.write_all.Goals as goal

pub returns-else-count-bytes : goal.returns-else-count-bytes
returns-else-count-bytes g c =
    let bytes = c.args.bytes.now in
    let n = c.in_ok-count.count in
    let h = c.in_ok-count.ensures in
    let first : Writes {T = Unit {0}} {E = Unit {0}} g.W.Write.written g.W.Write.failures c.args.out.now c.write.new.self (take n bytes) (Ok tt) =
    record { ok = h.taken; err = tt; count = h.count } in
    writes_same (writes_then first c.write_rest.ensures)
    (ap (λ (xs : List ℕ). take n bytes ++ xs) (take_rest bytes n) ∙ take-append-drop n bytes)
