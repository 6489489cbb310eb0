use Rattle.std.proofs.Common.{◌≡◌, ℕ, ◌≤◌, List, [], ◌++◌, map, refl, ap, ◌∙◌, arith}
use Rattle.std.specs.Global.{Vec}
use Rattle.aig_prompt.specs.Table.{gap, row_of}
use Rattle.aig_prompt.proofs.TableLemmas.{gap_some, gap_none, blocks_none, blocks_step}
use Rattle.aig_prompt.proofs.table.Table.push_text.Goals as goal
use Rattle.aig_prompt.proofs.table.Table.push_text.Goals.{then-begin-gt0+in_ok-push, else-begin-gt0}

pub loop-begin-init : goal.loop-begin-init
loop-begin-init c = (
  omega arith,
  (
    [],
    refl,
    blocks_none c.layout-layout.result.name c.layout-layout.result.cell c.args.self.now.first (map row_of c.args.self.now.rows.items)
        c.args.text.now.items,
  ),
)

pub loop-begin-preserved : goal.loop-begin-preserved
loop-begin-preserved c =
    let within : c.min-end.result ≤ c.args.self.now.frames = omega (arith, c.min-end.ensures) in
    let order : c.loop-begin.begin ≤ c.min-end.result = omega (arith, c.min-end.ensures, c.saturating_add.ensures) in
    let parted : c.if-begin-gt0.text.items ≡ c.loop-begin.text.items ++ gap c.loop-begin.begin =
    elim c.if-begin-gt0.branch [
      | then-begin-gt0+in_ok-push w ↦
          gap_some c.loop-begin.text.items _ c.loop-begin.begin w.if-begin-gt0.true
          (ap (λ (v : Vec ℕ). v.items) w.text-is ∙ w.in_ok-push.ensures.items)
      | else-begin-gt0 w ↦
          gap_none c.loop-begin.text.items _ c.loop-begin.begin w.if-begin-gt0.false (ap (λ (v : Vec ℕ). v.items) w.text-is)
    ] in
    let (first, (sizes, size, is)) = c.loop-begin.invariant in (
      within,
      blocks_step c.layout-layout.result.name c.layout-layout.result.cell c.args.self.now.first (map row_of c.args.self.now.rows.items)
          sizes c.loop-begin.begin c.min-end.result c.args.text.now.items c.loop-begin.text.items c.if-begin-gt0.text.items
          c.push_block.new.text.items size order is parted c.in_ok-push_block.ensures,
    )
