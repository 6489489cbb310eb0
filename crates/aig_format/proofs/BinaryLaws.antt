-- The body of a binary file: what is read is spelled so, and what is spelled so is read.
use Rattle.std.proofs.Common.{◌≡◌, ℕ, zero, suc, ◌+◌, ◌*◌, ◌<◌, ◌≤◌, Bool, List, [], ◌∷◌, ◌++◌, length, map}
use Rattle.std.proofs.Common.{Ok, refl, sym, ap, subst, ◌∙◌, arith, length-append}
use Rattle.std.specs.Prelude.{All}
use Rattle.std.specs.List.{flat_map}
use Rattle.std.proofs.lemmas.List.{length-map}
use Rattle.std.proofs.lemmas.List.Elements.{All-nil, All-cons, All-weaker}
use Rattle.aig_parts.specs.declared.raw.Raw.{Raw}
use Rattle.aig_parts.specs.declared.latch.Latch.{Latch}
use Rattle.aig_parts.specs.declared.gate.Gate.{Gate}
use Rattle.aig_parts.specs.Formed as formed
use Rattle.aig_base.specs.Renumbered.{evens, IsBinaryReady}
use Rattle.aig_base.specs.Sections.{definitions}
use Rattle.aig_format.specs.declared.reader.header.Counts.{Counts}
use Rattle.aig_format.specs.state.HeaderCounts.{AreWithin, counted}
use Rattle.aig_format.specs.Spelling.{implicit_latch_line, gate_deltas, lines, properties_of, names_text}
use Rattle.aig_format.specs.Spells.{greatest, HasSpelling}
use Rattle.aig_format.specs.state.Fits.{FitsFrom, IsImplicitGate}
use Rattle.aig_format.specs.state.ReadingSections.{implicit_latch_at, implicit_gate_at, lines_at}
use Rattle.aig_format.specs.state.ReadingFile.{binary_at}
use Rattle.aig_format.proofs.Steps.{done, done_is}
use Rattle.aig_format.proofs.Joins.{join2, join_end}
use Rattle.aig_format.proofs.Numbers.{bind_then}
use Rattle.aig_format.proofs.Lines.{lines_take, lines_again, plain_lines, IsLatch, IsGateWithin}
use Rattle.aig_format.proofs.Lines.{IsImplicitLatch, IsWrittenGate, implicit_latch_takes}
use Rattle.aig_format.proofs.Lines.{implicit_latch_again, implicit_gate_takes, implicit_gate_again}
use Rattle.aig_format.proofs.Names.{IsSymbolEntry}
use Rattle.aig_format.proofs.SectionLaws.{FitsProperties, properties_take, properties_again, text_of}
use Rattle.aig_format.proofs.SmallNumbers.{AreSmall, HasSmallNumbers, by_section}
use Rattle.aig_format.proofs.SymbolLaws.{AreOnce, names_take, names_again}
use Rattle.aig_format.proofs.Parts.{properties_in, names_in, within_from, small_counts, entries_from, fits_properties}
use Rattle.aig_format.proofs.Parts.{counted_properties}
use Rattle.aig_format.proofs.Evens.{evens_from, length_evens, evens_join, HasEven, evens_of, of_evens, fits_map}
use Rattle.aig_format.proofs.Evens.{fits_and, fits_below, all_from}

abbrev latch_lit : Latch → ℕ
latch_lit x = x.lit

abbrev gate_lhs : Gate → ℕ
gate_lhs g = g.lhs

-- ---- definitions in order

-- two lists of a length before two others
append_is : {X : Type 0} (ws xs ys zs : List X) → length ws ≡ length ys → ws ++ xs ≡ ys ++ zs → (ws ≡ ys) × (xs ≡ zs)
append_is [] xs [] zs len e = (refl, e)
append_is [] xs (y ∷ ys) zs len e = absurd (omega (arith, len))
append_is (w ∷ ws) xs [] zs len e = absurd (omega (arith, len))
append_is {X} (w ∷ ws) xs (y ∷ ys) zs len e =
    let first : w ≡ y = cc in
    let others : ws ++ xs ≡ ys ++ zs = cc in
    let r = append_is ws xs ys zs (omega (arith, len)) others in
    ((λ i. first i ∷ r.0 i), r.1)

-- what the definitions in order say of each section
record InOrder (raw : Raw) : Type 0 where
  inputs : raw.inputs ≡ evens (length raw.inputs)
  latches : FitsFrom (HasEven latch_lit) (length raw.inputs + 1) raw.latches
  gates : FitsFrom (HasEven gate_lhs) (length raw.inputs + length raw.latches + 1) raw.gates
  exact : raw.max_var ≡ length raw.inputs + length raw.latches + length raw.gates

in_order_from : (raw : Raw) → definitions raw ≡ evens raw.max_var → InOrder raw
in_order_from raw e =
    let i : ℕ = length raw.inputs in
    let l : ℕ = length raw.latches in
    let g : ℕ = length raw.gates in
    let ls : List ℕ = map latch_lit raw.latches in
    let gs : List ℕ = map gate_lhs raw.gates in
    let nl = length-map raw.latches latch_lit in
    let ng = length-map raw.gates gate_lhs in
    let total = ap length e ∙ length_evens 1 raw.max_var in
    let a = length-append (raw.inputs ++ ls) gs in
    let b = length-append raw.inputs ls in
    let exact : raw.max_var ≡ i + l + g = omega (arith, total, a, b, nl, ng) in
    let whole : evens raw.max_var ≡ (evens_from 1 i ++ evens_from (1 + i) l) ++ evens_from (1 + (i + l)) g =
    ap evens exact ∙ sym (evens_join 1 (i + l) g)
    ∙ ap (λ (t : List ℕ). t ++ evens_from (1 + (i + l)) g) (sym (evens_join 1 i l)) in
    let c = length-append (evens_from 1 i) (evens_from (1 + i) l) in
    let li = length_evens 1 i in
    let ll = length_evens (1 + i) l in
    let two =
    append_is (raw.inputs ++ ls) gs (evens_from 1 i ++ evens_from (1 + i) l) (evens_from (1 + (i + l)) g)
    (omega (arith, b, nl, c, li, ll)) (e ∙ whole) in
    let three = append_is raw.inputs ls (evens_from 1 i) (evens_from (1 + i) l) (sym li) two.0 in
    let first : 1 + i ≡ i + 1 = omega arith in
    let second : 1 + (i + l) ≡ i + l + 1 = omega arith in
    record {
      inputs = three.0;
      latches = of_evens latch_lit (i + 1) raw.latches (three.1 ∙ ap (λ (v : ℕ). evens_from v l) first);
      gates = of_evens gate_lhs (i + l + 1) raw.gates (two.1 ∙ ap (λ (v : ℕ). evens_from v g) second);
      exact = exact;
    }

order_of : (raw : Raw) → InOrder raw → definitions raw ≡ evens raw.max_var
order_of raw o =
    let i : ℕ = length raw.inputs in
    let l : ℕ = length raw.latches in
    let g : ℕ = length raw.gates in
    let first : i + 1 ≡ 1 + i = omega arith in
    let second : i + l + 1 ≡ 1 + (i + l) = omega arith in
    let ls : map latch_lit raw.latches ≡ evens_from (1 + i) l =
    evens_of latch_lit (i + 1) raw.latches o.latches ∙ ap (λ (v : ℕ). evens_from v l) first in
    let gs : map gate_lhs raw.gates ≡ evens_from (1 + (i + l)) g =
    evens_of gate_lhs (i + l + 1) raw.gates o.gates ∙ ap (λ (v : ℕ). evens_from v g) second in
    (λ j. (o.inputs j ++ ls j) ++ gs j)
    ∙ ap (λ (t : List ℕ). t ++ evens_from (1 + (i + l)) g) (evens_join 1 i l) ∙ evens_join 1 (i + l) g
    ∙ ap evens (sym o.exact)

-- ---- numbers in order are small

evens_below : (v n top : ℕ) → v + n ≤ suc top → All (λ l. l ≤ 2 * top) (evens_from v n)
evens_below v zero top le = All-nil (λ (l : ℕ). l ≤ 2 * top)
evens_below v (suc n) top le =
    All-cons (λ (l : ℕ). l ≤ 2 * top) (2 * v) (evens_from (v + 1) n) (omega (arith, le))
    (evens_below (v + 1) n top (omega (arith, le)))

small_evens : (n : ℕ) → n ≤ formed.limit → AreSmall (evens n)
small_evens n le =
    All-weaker (λ l. l ≤ 2 * formed.limit) (λ l. l ≤ greatest) (λ l h. omega (arith, h)) (evens n)
    (evens_below 1 n formed.limit (omega (arith, le)))

deltas_take : (n v : ℕ) (bytes : List ℕ) (xs : List Gate) (rest : List ℕ) → lines_at implicit_gate_at n v bytes
    ≡ Ok (xs, rest)
    → (bytes ≡ flat_map gate_deltas xs ++ rest) × (length xs ≡ n) × FitsFrom IsImplicitGate v xs
deltas_take n v bytes xs rest h =
    let t = lines_take implicit_gate_at (λ w. gate_deltas) IsImplicitGate implicit_gate_takes n v bytes xs rest h in
    (t.spelled ∙ ap (λ (s : List ℕ). s ++ rest) (plain_lines gate_deltas t.written xs), t.count, t.fits)

deltas_again : (v : ℕ) (xs : List Gate) (rest : List ℕ) → FitsFrom IsWrittenGate v xs
    → lines_at implicit_gate_at (length xs) v (flat_map gate_deltas xs ++ rest) ≡ Ok (xs, rest)
deltas_again v xs rest fits =
    ap (λ (s : List ℕ). lines_at implicit_gate_at (length xs) v (s ++ rest)) (sym (plain_lines gate_deltas [] xs))
    ∙ lines_again implicit_gate_at (λ w. gate_deltas) IsWrittenGate implicit_gate_again v [] xs rest fits

-- ---- the body

-- the text up to the end, after the front
abbrev pub binary_after : List ℕ → List Bool → Raw → List ℕ
binary_after front resets raw =
    front ++ lines implicit_latch_line resets raw.latches ++ properties_of raw ++ flat_map gate_deltas raw.gates ++
    names_text raw.symbols raw.comment

-- the body that was read, after any front
pub record BinaryRead (c : Counts) (bytes : List ℕ) (raw : Raw) : Type 0 where
  pub resets : List Bool
  pub spelled : (all front : List ℕ) → all ≡ front ++ bytes → all ≡ binary_after front resets raw
  pub counted : counted raw ≡ c
  pub inputs : raw.inputs ≡ evens c.inputs
  pub latches : FitsFrom IsImplicitLatch (c.inputs + 1) raw.latches
  pub gates : FitsFrom IsImplicitGate (c.inputs + c.latches + 1) raw.gates
  pub fits : FitsProperties (properties_in raw)
  pub entries : All (IsSymbolEntry c) raw.symbols
  pub once : AreOnce raw.symbols

pub binary_take : (c : Counts) (bytes : List ℕ) (raw : Raw) (rest : List ℕ) → binary_at c bytes ≡ Ok (raw, rest)
    → BinaryRead c bytes raw
unfolding binary_at
binary_take c bytes raw rest h =
    bind_then _ _ _ h
    (λ l el h2. bind_then _ _ _ h2 (λ p ep h3. bind_then _ _ _ h3 (λ g eg h4. bind_then _ _ _ h4 (λ n en h5.
    let made : Raw = record {
      max_var = c.max_var;
      inputs = evens c.inputs;
      latches = l.0;
      outputs = p.0.outputs;
      bad = p.0.bad;
      constraints = p.0.constraints;
      justice = p.0.justice;
      fairness = p.0.fairness;
      gates = g.0;
      symbols = n.0.symbols;
      comment = n.0.comment;
    } in
    let q = done_is made raw n.1 rest h5 in
    let tl =
    lines_take implicit_latch_at implicit_latch_line IsImplicitLatch implicit_latch_takes c.latches
    (c.inputs + 1) bytes l.0 l.1 el in
    let tp = properties_take c l.1 p.0 p.1 ep in
    let tg = deltas_take c.gates (c.inputs + c.latches + 1) p.1 g.0 g.1 eg in
    let tn = names_take c g.1 n.0 n.1 en in
    let ll : List ℕ = lines implicit_latch_line tl.written l.0 in
    let lp : List ℕ = text_of p.0 in
    let lg : List ℕ = flat_map gate_deltas g.0 in
    let ln : List ℕ = names_text n.0.symbols n.0.comment in
    let ti : length (evens c.inputs) ≡ c.inputs = length_evens 1 c.inputs in
    let same : counted made ≡ c = λ j. record {
      max_var = c.max_var;
      inputs = ti j;
      latches = tl.count j;
      outputs = tp.outputs j;
      gates = tg.1 j;
      bad = tp.bad j;
      constraints = tp.constraints j;
      justice = tp.justice j;
      fairness = tp.fairness j;
    } in
    subst (λ (k : Raw). BinaryRead c bytes k) q.0 (record {
      resets = tl.written;
      spelled = λ all front e.
          (let e2 = join2 all front bytes ll l.1 e tl.spelled in
          let e3 = join2 all (front ++ ll) l.1 lp p.1 e2 tp.spelled in
          let e4 = join2 all (front ++ ll ++ lp) p.1 lg g.1 e3 tg.0 in
          join_end all (front ++ ll ++ lp ++ lg) g.1 ln e4 tn.spelled);
      counted = same;
      inputs = refl;
      latches = tl.fits;
      gates = tg.2;
      fits = record {
        outputs = tp.fits.outputs;
        bad = tp.fits.bad;
        constraints = tp.fits.constraints;
        justice =
            tp.fits.justice;
        fairness = tp.fits.fairness;
        within = tp.fits.within;
      };
      entries = tn.fits;
      once = tn.once;
    })))))

-- parts of a binary file, whose counts go together
pub ready_from : (raw : Raw) → raw.inputs ≡ evens (length raw.inputs)
    → FitsFrom (HasEven latch_lit) (length raw.inputs + 1) raw.latches
    → FitsFrom IsImplicitGate (length raw.inputs + length raw.latches + 1) raw.gates
    → raw.max_var ≡ length raw.inputs + length raw.latches + length raw.gates → IsBinaryReady raw
ready_from raw inputs latches gates exact =
    let first : ℕ = length raw.inputs + length raw.latches + 1 in
    let order : InOrder raw = record {
      inputs = inputs;
      latches = latches;
      gates = fits_map IsImplicitGate (HasEven gate_lhs) (λ v x f. f.0) first raw.gates gates;
      exact = exact;
    } in
    record {
      in_order = order_of raw order;
      gates = all_from IsImplicitGate (λ g. (g.rhs0 < g.lhs) × (g.rhs1 ≤ g.rhs0)) (λ v g f. (f.1, f.2))
          first raw.gates gates;
    }

-- where the counts go together, the parts are in order and their numbers are small
pub binary_numbers : (bytes : List ℕ) (raw : Raw) → BinaryRead (counted raw) bytes raw → AreWithin (counted raw)
    → raw.max_var ≡ length raw.inputs + length raw.latches + length raw.gates → HasSmallNumbers raw × IsBinaryReady raw
binary_numbers bytes raw r w exact =
    let i : ℕ = length raw.inputs in
    let l : ℕ = length raw.latches in
    let latches =
    fits_below IsImplicitLatch formed.limit (i + 1) raw.latches (omega (arith, w.max_var, exact)) r.latches in
    let gates =
    fits_below IsImplicitGate formed.limit (i + l + 1) raw.gates (omega (arith, w.max_var, exact)) r.gates in
    let even_latches =
    fits_map IsImplicitLatch (HasEven latch_lit) (λ v x f. f.0) (i + 1) raw.latches r.latches in (
      record {
        inputs = subst AreSmall (sym r.inputs) (small_evens i (omega (arith, w.inputs)));
        latches =
            all_from (λ v x. (v ≤ formed.limit) × IsImplicitLatch v x) IsLatch
            (λ v x f. (omega (arith, f.0, f.1.0), f.1.1, f.1.2)) (i + 1) raw.latches latches;
        outputs = r.fits.outputs;
        bad = r.fits.bad;
        constraints = r.fits.constraints;
        justice = r.fits.justice;
        fairness = r.fits.fairness;
        gates = all_from (λ v g. (v ≤ formed.limit) × IsImplicitGate v g) IsGateWithin
            (λ v g f. (
              omega (arith, f.0, f.1.0),
              omega (arith, f.0, f.1.0, f.1.1),
              omega (arith, f.0, f.1.0, f.1.1, f.1.2),
            )) (i + l + 1) raw.gates gates;
      },
      ready_from raw r.inputs even_latches r.gates exact,
    )

-- what follows the header line
abbrev pub binary_rest : List Bool → Raw → List ℕ
binary_rest resets raw =
    lines implicit_latch_line resets raw.latches ++
    (properties_of raw ++ (flat_map gate_deltas raw.gates ++ names_text raw.symbols raw.comment))

pub exact_from : (raw : Raw) → IsBinaryReady raw
    → raw.max_var ≡ length raw.inputs + length raw.latches + length raw.gates
exact_from raw ready = (in_order_from raw ready.in_order).exact

pub binary_again : (resets : List Bool) (raw : Raw) → HasSpelling raw → IsBinaryReady raw
    → binary_at (counted raw) (binary_rest resets raw) ≡ Ok (raw, [])
unfolding binary_at
binary_again resets raw s ready =
    let c : Counts = counted raw in
    let i : ℕ = length raw.inputs in
    let l : ℕ = length raw.latches in
    let o = in_order_from raw ready.in_order in
    let n : List ℕ = names_text raw.symbols raw.comment in
    let g : List ℕ = flat_map gate_deltas raw.gates ++ n in
    let p : List ℕ = properties_of raw ++ g in
    let w = within_from raw s.formed in
    let latches : FitsFrom IsImplicitLatch (i + 1) raw.latches =
    fits_map (λ v x. HasEven latch_lit v x × IsLatch x) IsImplicitLatch (λ v x f. (f.0, f.1.1, f.1.2))
    (i + 1) raw.latches
    (fits_and (HasEven latch_lit) IsLatch (i + 1) raw.latches o.latches (by_section raw s.numbers).latches) in
    let below =
    fits_below (HasEven gate_lhs) formed.limit (i + l + 1) raw.gates (omega (arith, w.max_var, o.exact)) o.gates in
    let gates : FitsFrom IsWrittenGate (i + l + 1) raw.gates =
    fits_map (λ v x. ((v ≤ formed.limit) × HasEven gate_lhs v x) × ((x.rhs0 < x.lhs) × (x.rhs1 ≤ x.rhs0))) IsWrittenGate
    (λ v x f. ((f.0.1, f.1.0, f.1.1), omega (arith, f.0.0, f.0.1))) (i + l + 1) raw.gates
    (fits_and (λ v x. (v ≤ formed.limit) × HasEven gate_lhs v x) (λ x. (x.rhs0 < x.lhs) × (x.rhs1 ≤ x.rhs0))
    (i + l + 1) raw.gates below ready.gates) in
    let made : List ℕ → Raw = λ inputs. record {
      max_var = raw.max_var;
      inputs = inputs;
      latches = raw.latches;
      outputs = raw.outputs;
      bad = raw.bad;
      constraints = raw.constraints;
      justice = raw.justice;
      fairness = raw.fairness;
      gates = raw.gates;
      symbols = raw.symbols;
      comment = raw.comment;
    } in
    rw (
      lines_again implicit_latch_at implicit_latch_line IsImplicitLatch implicit_latch_again
          (i + 1) resets raw.latches p latches,
      properties_again c (properties_in raw) g (counted_properties raw) (fits_properties raw s),
      deltas_again (i + l + 1) raw.gates n gates,
      names_again c (names_in raw) (small_counts c w) (entries_from raw s.formed) s.formed.names,
    )
    (ap (λ (t : List ℕ). done (made t) []) (sym o.inputs))
