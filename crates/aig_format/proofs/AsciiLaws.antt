-- The body of an ASCII file: what is read is spelled so, and what is spelled so is read.
use Rattle.std.proofs.Common.{◌≡◌, ℕ, ◌≤◌, Bool, List, [], ◌++◌, length, Ok, refl, sym, ap}
use Rattle.std.proofs.Common.{subst, ◌∙◌}
use Rattle.std.specs.Prelude.{All, sum_by}
use Rattle.std.specs.List.{flat_map}
use Rattle.aig_parts.specs.declared.raw.Raw.{Raw}
use Rattle.aig_parts.specs.declared.gate.Gate.{Gate}
use Rattle.aig_parts.specs.Formed as formed
use Rattle.aig_format.specs.declared.reader.header.Counts.{Counts}
use Rattle.aig_format.specs.state.HeaderCounts.{counted}
use Rattle.aig_format.specs.Spelling.{literal_line, latch_line, gate_line, lines, properties_of, names_text}
use Rattle.aig_format.specs.Spells.{HasSpelling}
use Rattle.aig_format.specs.state.ReadingSections.{latch_at, gate_at, lines_at}
use Rattle.aig_format.specs.state.ReadingFile.{ascii_at}
use Rattle.aig_format.proofs.Steps.{done_is}
use Rattle.aig_format.proofs.Joins.{join2, join_end}
use Rattle.aig_format.proofs.Numbers.{bind_then}
use Rattle.aig_format.proofs.Lines.{lines_take, lines_again, plain_lines, all_from_fits, fits_from_all}
use Rattle.aig_format.proofs.Lines.{IsLatch, IsGateWithin, latch_takes, latch_again, gate_takes, gate_again}
use Rattle.aig_format.proofs.Names.{IsSymbolEntry}
use Rattle.aig_format.proofs.SectionLaws.{literals_take, literals_again, properties_take, properties_again, text_of}
use Rattle.aig_format.proofs.SmallNumbers.{HasSmallNumbers, by_section}
use Rattle.aig_format.proofs.SymbolLaws.{AreOnce, names_take, names_again}
use Rattle.aig_format.proofs.Parts.{properties_in, names_in, within_from, small_counts, entries_from, fits_properties}
use Rattle.aig_format.proofs.Parts.{counted_properties}

gates_take : (n : ℕ) (bytes : List ℕ) (xs : List Gate) (rest : List ℕ) → lines_at (λ v. gate_at) n 0 bytes
    ≡ Ok (xs, rest) → (bytes ≡ flat_map gate_line xs ++ rest) × (length xs ≡ n) × All IsGateWithin xs
gates_take n bytes xs rest h =
    let t = lines_take (λ v. gate_at) (λ w. gate_line) (λ v. IsGateWithin) gate_takes n 0 bytes xs rest h in (
      t.spelled ∙ ap (λ (s : List ℕ). s ++ rest) (plain_lines gate_line t.written xs),
      t.count,
      all_from_fits IsGateWithin 0 xs t.fits,
    )

gates_again : (xs : List Gate) (rest : List ℕ) → All IsGateWithin xs
    → lines_at (λ v. gate_at) (length xs) 0 (flat_map gate_line xs ++ rest) ≡ Ok (xs, rest)
gates_again xs rest small =
    ap (λ (s : List ℕ). lines_at (λ v. gate_at) (length xs) 0 (s ++ rest)) (sym (plain_lines gate_line [] xs))
    ∙ lines_again (λ v. gate_at) (λ w. gate_line) (λ v. IsGateWithin) gate_again 0 [] xs rest
    (fits_from_all IsGateWithin 0 xs small)

-- the text after the header line, in pieces
abbrev pub ascii_after : List ℕ → List Bool → Raw → List ℕ
ascii_after front resets raw =
    front ++ flat_map literal_line raw.inputs ++ lines latch_line resets raw.latches ++ properties_of raw ++ flat_map
    gate_line raw.gates
    ++ names_text raw.symbols raw.comment

-- the body that was read, after any front
pub record AsciiRead (c : Counts) (bytes : List ℕ) (raw : Raw) : Type 0 where
  pub resets : List Bool
  pub spelled : (all front : List ℕ) → all ≡ front ++ bytes → all ≡ ascii_after front resets raw
  pub counted : counted raw ≡ c
  pub numbers : HasSmallNumbers raw
  pub sum : sum_by length raw.justice ≤ formed.limit
  pub entries : All (IsSymbolEntry c) raw.symbols
  pub once : AreOnce raw.symbols

pub ascii_take : (c : Counts) (bytes : List ℕ) (raw : Raw) (rest : List ℕ) → ascii_at c bytes ≡ Ok (raw, rest)
    → AsciiRead c bytes raw
unfolding ascii_at
ascii_take c bytes raw rest h =
    bind_then _ _ _ h
    (λ i ei h1.
    bind_then _ _ _ h1
    (λ l el h2. bind_then _ _ _ h2 (λ p ep h3. bind_then _ _ _ h3 (λ g eg h4. bind_then _ _ _ h4 (λ n en h5.
    let made : Raw = record {
      max_var = c.max_var;
      inputs = i.0;
      latches = l.0;
      outputs = p.0.outputs;
      bad = p.0.bad;
      constraints = p.0.constraints;
      justice = p.0.justice;
      fairness = p.0.fairness;
      gates = g.0;
      symbols = n.0.symbols;
      comment = n.0.comment;
    } in
    let q = done_is made raw n.1 rest h5 in
    let ti = literals_take c.inputs bytes i.0 i.1 ei in
    let tl = lines_take (λ v. latch_at) latch_line (λ v. IsLatch) latch_takes c.latches 0 i.1 l.0 l.1 el in
    let tp = properties_take c l.1 p.0 p.1 ep in
    let tg = gates_take c.gates p.1 g.0 g.1 eg in
    let tn = names_take c g.1 n.0 n.1 en in
    let li : List ℕ = flat_map literal_line i.0 in
    let ll : List ℕ = lines latch_line tl.written l.0 in
    let lp : List ℕ = text_of p.0 in
    let lg : List ℕ = flat_map gate_line g.0 in
    let ln : List ℕ = names_text n.0.symbols n.0.comment in
    let same : counted made ≡ c = λ j. record {
      max_var = c.max_var;
      inputs = ti.1 j;
      latches = tl.count j;
      outputs = tp.outputs j;
      gates = tg.1 j;
      bad = tp.bad j;
      constraints = tp.constraints j;
      justice = tp.justice j;
      fairness = tp.fairness j;
    } in
    subst (λ (k : Raw). AsciiRead c bytes k) q.0 (record {
      resets = tl.written;
      spelled = λ all front e.
          (let e1 = join2 all front bytes li i.1 e ti.0 in
          let e2 = join2 all (front ++ li) i.1 ll l.1 e1 tl.spelled in
          let e3 = join2 all (front ++ li ++ ll) l.1 lp p.1 e2 tp.spelled in
          let e4 = join2 all (front ++ li ++ ll ++ lp) p.1 lg g.1 e3 tg.0 in
          join_end all (front ++ li ++ ll ++ lp ++ lg) g.1 ln e4 tn.spelled);
      counted = same;
      numbers = record {
        inputs = ti.2;
        latches = all_from_fits IsLatch 0 l.0 tl.fits;
        outputs = tp.fits.outputs;
        bad = tp.fits.bad;
        constraints = tp.fits.constraints;
        justice = tp.fits.justice;
        fairness = tp.fits.fairness;
        gates = tg.2;
      };
      sum = tp.fits.within;
      entries = tn.fits;
      once = tn.once;
    }))))))

-- what follows the header line
abbrev pub ascii_rest : List Bool → Raw → List ℕ
ascii_rest resets raw =
    flat_map literal_line raw.inputs ++
    (lines latch_line resets raw.latches ++
    (properties_of raw ++ (flat_map gate_line raw.gates ++ names_text raw.symbols raw.comment)))

pub ascii_again : (resets : List Bool) (raw : Raw) → HasSpelling raw
    → ascii_at (counted raw) (ascii_rest resets raw) ≡ Ok (raw, [])
unfolding ascii_at
ascii_again resets raw s =
    let c : Counts = counted raw in
    let small = by_section raw s.numbers in
    let n : List ℕ = names_text raw.symbols raw.comment in
    let g : List ℕ = flat_map gate_line raw.gates ++ n in
    let p : List ℕ = properties_of raw ++ g in
    let l : List ℕ = lines latch_line resets raw.latches ++ p in
    rw (
      literals_again raw.inputs l small.inputs,
      lines_again (λ v. latch_at) latch_line (λ v. IsLatch) latch_again 0 resets raw.latches p
          (fits_from_all IsLatch 0 raw.latches small.latches),
      properties_again c (properties_in raw) g (counted_properties raw) (fits_properties raw s),
      gates_again raw.gates n small.gates,
      names_again c (names_in raw) (small_counts c (within_from raw s.formed)) (entries_from raw s.formed) s.formed.names,
    ) refl
