use Rattle.std.proofs.Common.{◌≡◌, ◌≢◌, ◌-◌, ◌≤◌, ℕ, ◌+◌, ◌++◌, ◌∷◌, [], List, length, length-drop, sym, ap, ◌∙◌, arith}
use Rattle.std.proofs.Common.{take, drop, get_or, subst}
use Rattle.std.proofs.lemmas.List.{take_more, drop_more, take-append-drop, take_all}
use Rattle.aig_bytes.proofs.Results.{known_err}
use Rattle.aig_parts.specs.declared.ternary.Tern.{Tern}
use Rattle.aig_sim.specs.declared.stimulus.row_parser.Shape.{Shape}
use Rattle.aig_sim.specs.declared.stimulus.row_parser.Shape.TheVariants.{Row}
use Rattle.aig_sim.specs.declared.stimulus.fault.StimFault.{StimFault}
use Rattle.aig_sim.specs.declared.stimulus.fault.StimFault.TheVariants.{Memory}
use Rattle.aig_sim.specs.StimulusText.{HasFaultyLine}
use Rattle.aig_sim.specs.RowParser.{HasRead}
use Rattle.aig_sim.proofs.LineLemmas.{read_more, end_after, read_line, read_fault, read_same}
use Rattle.aig_sim.proofs.stimulus.text.read_stimulus.Goals as goal

pub returns-in_err-end_line-clause-fault : goal.returns-in_err-end_line-clause-fault
returns-in_err-end_line-clause-fault c =
    let xs = c.args.bytes.now in
    let i = c.loop-at.at in
    let n = c.line_length-length.result in
    let inv = c.loop-at.invariant in
    let rows = c.loop-at.stimulus.rows in
    let line = c.extend.new.self in
    let fault = c.in_err-end_line.field-0.0 in
    let is_end : get_or xs (i + n) 0 ≡ 10 =
    end_after xs i n c.if-at-bytes.true c.line_length-length.ensures.ended in
    let split : take (i + n) xs ++ (10 ∷ drop (i + n + 1) xs) ≡ xs =
    ap (λ b. take (i + n) xs ++ (b ∷ drop (i + n + 1) xs)) (sym is_end)
    ∙ ap (λ (t : List ℕ). take (i + n) xs ++ t) (sym (drop_more xs (i + n) 0 c.if-at-bytes.true))
    ∙ take-append-drop (i + n) xs in
    let wide = c.in_ok-extend.ensures.width ∙ inv.line_width in
    let P : StimFault → Type 0 = λ f. f ≢ Memory → (rows : List (List Tern)) × (length rows ≤ 65536)
    × HasFaultyLine c.args.width xs rows f in
    let read : HasRead line.width (take (i + n) xs) rows line.shape line.values =
    subst (λ (w : ℕ). HasRead w (take (i + n) xs) rows line.shape line.values) (sym wide)
    (read_more xs i n line.shape line.values inv.line_width inv.has_read c.line_length-length.ensures.no_end
    c.in_ok-extend.ensures.keeps) in
    known_err c.from_residual-in_err-end_line.result fault P c.from_residual-in_err-end_line.ensures.1
    (λ m. (
      rows,
      inv.limit,
      subst (λ (w : ℕ). HasFaultyLine w xs rows fault) wide
          (subst (λ (t : List ℕ). HasFaultyLine line.width t rows fault) split
          (read_fault (drop (i + n + 1) xs) read (c.in_err-end_line.ensures.fault m))),
    ))

pub loop-at-preserved-then-at-bytes : goal.loop-at-preserved-then-at-bytes
loop-at-preserved-then-at-bytes c =
    let xs = c.args.bytes.now in
    let i = c.loop-at.at in
    let n = c.line_length-length.result in
    let inv = c.loop-at.invariant in
    let rows = c.loop-at.stimulus.rows in
    let line = c.extend.new.self in
    let e = c.in_ok-end_line.ensures in
    let k = c.clear.ensures in
    let wide = c.in_ok-extend.ensures.width ∙ inv.line_width in
    let is_end : get_or xs (i + n) 0 ≡ 10 =
    end_after xs i n c.if-at-bytes.true c.line_length-length.ensures.ended in
    let read : HasRead c.args.width (take (i + n) xs) rows line.shape line.values =
    read_more xs i n line.shape line.values inv.line_width inv.has_read c.line_length-length.ensures.no_end
    c.in_ok-extend.ensures.keeps in
    let row_read : HasRead c.args.width (take (i + n) xs) rows Row line.values =
    subst (λ (s : Shape). HasRead c.args.width (take (i + n) xs) rows s line.values) e.row.0 read in
    record {
      inside = omega (arith, c.if-at-bytes.true);
      line_width = k.width ∙ wide;
      width = e.width ∙ inv.width;
      limit = e.limit;
      has_read = read_same (read_line row_read (e.row.1 ∙ wide))
          (ap (λ (b : ℕ). take (i + n) xs ++ b ∷ []) (sym is_end) ∙ sym (take_more xs (i + n) 0 c.if-at-bytes.true))
          (sym e.row.2) (sym k.empty.0) (sym k.empty.1);
    }

pub loop-at-preserved : goal.loop-at-preserved
loop-at-preserved c =
    let xs = c.args.bytes.now in
    let i = c.loop-at.at in
    let n = c.line_length-length.result in
    let inv = c.loop-at.invariant in
    let line = c.extend.new.self in
    let rest : take (length xs - i) (drop i xs) ≡ drop i xs =
    take_all (length xs - i) (drop i xs) (omega (arith, length-drop i xs)) in
    record {
      inside = omega (arith, inv.inside, c.line_length-length.ensures.bound, ap length rest, length-drop i xs);
      line_width = c.in_ok-extend.ensures.width ∙ inv.line_width;
      width = inv.width;
      limit = inv.limit;
      has_read = read_more xs i n line.shape line.values inv.line_width inv.has_read
          c.line_length-length.ensures.no_end c.in_ok-extend.ensures.keeps;
    }
