use Rattle.std.proofs.Common.{◌++◌, ◌∷◌, []}
use Rattle.std.specs.Prelude.{codes}
use Rattle.aig_names.specs.Names.{identifier_code}
use Rattle.aig_names.proofs.PathLemmas.{append_then}
use Rattle.aig_names.proofs.header.push_signal.Goals as goal

pub returns : goal.returns
returns c =
    let old = c.args.text.now.items in
    let shape = c.args.shape.now in
    let name = c.args.name.now in
    let code = identifier_code c.args.number in
    let end = codes " $end" ++ 10 ∷ [] in
    let t1 = c.extend_from_slice.new.self.items in
    let t2 = c.extend_from_slice-2.new.self.items in
    let t3 = c.extend_from_slice-3.new.self.items in
    let t4 = c.push_code.new.text.items in
    let t5 = c.push.new.self.items in
    let t6 = c.extend_from_slice-4.new.self.items in
    let t7 = c.extend_from_slice-5.new.self.items in
    append_then old t1 t7 (codes "$var ") (shape ++ (codes " 1 " ++ (code ++ (32 ∷ (name ++ end))))) c.in_ok-extend_from_slice.ensures.items
    (append_then t1 t2 t7 shape (codes " 1 " ++ (code ++ (32 ∷ (name ++ end)))) c.in_ok-extend_from_slice-2.ensures.items
    (append_then t2 t3 t7 (codes " 1 ") (code ++ (32 ∷ (name ++ end))) c.in_ok-extend_from_slice-3.ensures.items
    (append_then t3 t4 t7 code (32 ∷ (name ++ end)) c.in_ok-push_code.ensures
    (append_then t4 t5 t7 (32 ∷ []) (name ++ end) c.in_ok-push.ensures.items
    (append_then t5 t6 t7 name end c.in_ok-extend_from_slice-4.ensures.items c.in_ok-extend_from_slice-5.ensures.items)))))
