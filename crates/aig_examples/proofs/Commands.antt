-- The examples of the definitions of `aig_command`, `aig_refute` and `aig_commands`.
use Rattle.std.proofs.Common.{◌≡◌, inl, inr, ℕ, zero, suc, ◌<◌, List, [], ◌∷◌, ◌++◌, None, Some, slice_get, ◌≢◌}
use Rattle.std.proofs.Common.{length, subst, Contains, refl, sym, ap, ◌∙◌, arith}
use Rattle.std.specs.Prelude.{All, true, false, Ok, Err, codes}
use Rattle.std.specs.Char.{encode_utf8}
use Rattle.std.specs.Fmt.{digits}
use Rattle.std.specs.Str.{chars, is_utf8}
use Rattle.std.proofs.lemmas.List.Elements.{All-cons, All-nil}
use Rattle.aig_parts.specs.declared.fault.Fault.TheVariants as circuits
use Rattle.aig_parts.specs.declared.gate.Gate.{Gate}
use Rattle.aig_parts.specs.declared.latch.Latch.{Latch}
use Rattle.aig_parts.specs.declared.raw.Raw.{Raw}
use Rattle.aig_parts.specs.declared.symbols.Kind.TheVariants.{Bad}
use Rattle.aig_parts.specs.declared.ternary.Tern.{Tern}
use Rattle.aig_parts.specs.declared.ternary.Tern.TheVariants.{Zero, One, X}
use Rattle.aig_base.specs.Order.{IsCanonicalOrder}
use Rattle.aig_base.specs.Part as read
use Rattle.aig_base.specs.Part.{IsRead, TestsRead, part, picked}
use Rattle.aig_base.specs.Renumbered.{renumbered_literal, renumbered_variable, IsBinaryReady}
use Rattle.aig_base.specs.Runs.{Allows, IsAllowed, ReachesProperty}
use Rattle.aig_base.specs.Value as value
use Rattle.aig_base.specs.Value.{Value}
use Rattle.aig_base.specs.declared.select.PropertySection.TheVariants as sections
use Rattle.aig_format.specs.Delta.{delta, groups}
use Rattle.aig_format.specs.Header.{header_line, tail}
use Rattle.aig_format.specs.Spelling.{ascii, binary, lines, names_text, property_lines}
use Rattle.aig_format.specs.declared.reader.header.Format.TheVariants.{Ascii, Binary}
use Rattle.aig_sat.specs.declared.proof.fault.ProofFault.TheVariants as proof_faults
use Rattle.aig_values.specs.PropertyTrace.{IsPropertyTrace}
use Rattle.aig_values.specs.Trace.{IsTrace}
use Rattle.aig_bench.specs.Edit.{append_gate, edited}
use Rattle.aig_sim.specs.Replayed.{ReportsRun}
use Rattle.aig_sim.specs.StimulusText.{IsCharacter}
use Rattle.aig_sim.specs.Verdict.{IsConfirmed}
use Rattle.aig_sim.specs.WitnessText as spelling
use Rattle.aig_sim.specs.WitnessText.{SpellsWitness, Witness}
use Rattle.aig_sim.specs.declared.stimulus.fault.StimFault.TheVariants as stimuli
use Rattle.aig_sim.specs.declared.witness.verdict.Verdict.TheVariants.{Confirmed}
use Rattle.aig_sim.specs.declared.witness.fault.WitnessFault.TheVariants as witnesses
use Rattle.aig_unroll.specs.FrameLiteral.{frame_literal, latch_literal}
use Rattle.aig_unroll.specs.InputMap.{origin_lines, start_origins, symbol_name_at}
use Rattle.aig_unroll.specs.Unrolled.{unrolled}
use Rattle.aig_cnf.specs.Dimacs.{clause_text, formula_text, literal_text, problem_line}
use Rattle.aig_cnf.specs.Formula.{cone, formula_of}
use Rattle.aig_cnf.specs.Query.{within}
use Rattle.aig_cnf.specs.ReadFormula.{marked, of_part}
use Rattle.aig_cnf.specs.declared.fault.CnfFault.TheVariants as formulas
use Rattle.aig_command.specs.Faults.{output_of}
use Rattle.aig_command.specs.Status.{status_of}
use Rattle.aig_command.specs.declared.run_fault.RunFault.TheVariants as runs
use Rattle.aig_refute.specs.Checked.{check_reads_failed}
use Rattle.aig_refute.specs.Unreachable.{HasNoRun, IsUnreachable, IsUnreachableWithin}
use Rattle.aig_script.specs.BenchFiles.{circuit_text, stimulus_rows_text}
use Rattle.aig_commands.specs.declared.check.Shown.TheVariants.{Properties, Trace}
use Rattle.aig_sim.specs.Verdict.{ShowsVerdict}
use Rattle.aig_commands.specs.Check.{Checks, ChecksAndTraces}
use Rattle.aig_commands.specs.Cnf.{WritesFormula}
use Rattle.aig_signals.specs.declared.form.Form.TheVariants.{Json, Text}
use Rattle.aig_commands.specs.Names.{entries_text, entry_line, entry_lines}
use Rattle.aig_commands.specs.Select.{Selects}
use Rattle.aig_commands.specs.Sim.{WritesSimulation}
use Rattle.aig_commands.specs.Toaig.{Converts}
use Rattle.aig_commands.specs.Unroll.{Unrolls}
use Rattle.aig_commands.specs.Witness.{WritesWitness}
use Rattle.aig_examples.proofs.Runs.{bad_input, confirmed_by, first_at_one, with_rows}
use Rattle.aig_examples.proofs.TwoGates.{two_gates, canonical, row_11}
use Rattle.aig_examples.proofs.Values.{trace_of_11}

-- `Circuit(Cycle(2))` has 1, `Witness(Memory)` has 3
statuses : (status_of (runs.Circuit (circuits.Cycle 2)) ≡ 1) × (status_of (runs.Witness witnesses.Memory) ≡ 3)
statuses = (refl, refl)

-- a write of a whole circuit that fails is `Output`
failed_write : {T E : Type 0} (fault : E) → output_of {T = T} (Err fault) ≡ Err runs.Output
failed_write fault = refl

-- 1 for `input or output`, else 0
failed_reads : (check_reads_failed (Err proof_faults.Io) ≡ 1) × (check_reads_failed (Ok tt) ≡ 0)
failed_reads = (refl, refl)

-- parts with one input
abbrev one_input : Raw
one_input = record {
  max_var = 1;
  inputs = 2 ∷ [];
  latches = [];
  outputs = [];
  bad = [];
  constraints = [];
  justice = [];
  fairness = [];
  gates = [];
  symbols = [];
  comment = None;
}

-- the canonical order of parts without gates is empty
no_gates : (raw : Raw) → raw.gates ≡ [] → IsCanonicalOrder raw []
no_gates raw none = rw none (record {
  gates = λ v. ((λ h. h), (λ h. h));
  ordered = λ i j d lt within. absurd (omega (arith, within));
})

-- it reads variable 1
reads_input : TestsRead bad_input 2 (marked (false ∷ true ∷ []))
reads_input v = (there v, back v)
  where
    there : (v : ℕ) → marked (false ∷ true ∷ []) v ≡ true → IsRead bad_input 2 v
    there zero e = cc
    there (suc zero) e = read.property
    there (suc (suc v)) e = cc

    back : (v : ℕ) → IsRead bad_input 2 v → marked (false ∷ true ∷ []) v ≡ true
    back _ read.property = refl
    back _ (read.constraint c l at) = cc
    back _ (read.first q g at r) = cc
    back _ (read.second q g at r) = cc
    back _ (read.next p x at r) = cc

abbrev read_input : Raw
read_input = part bad_input 2 (marked (false ∷ true ∷ []))

-- input 2 is bad, one frame: the formula; for property 1 nothing, with `Property`
written_formula : WritesFormula (within 1 0) bad_input (Ok tt)
    (codes "c aig cnf --frames 1 --property 0 \nc i 2 0 0 \nc b 2 0\np cnf 2 2\n-1 0\n2 0\n")
unfolding clause_text cone digits formula_text frame_literal literal_text origin_lines picked problem_line start_origins symbol_name_at
written_formula = (
  record {
    frames = omega arith;
    property = omega arith;
    limits = record {
      bad = 2;
      bad_is = refl;
      test = marked (false ∷ true ∷ []);
      exact = reads_input;
      fits = record {
        frames = omega arith;
        max_var = omega arith;
        inputs = omega arith;
        outputs = omega arith;
        bad = omega arith;
        constraints = omega arith;
        gates = omega arith;
      };
    };
  },
  (
    record {
      cnf = formula_of read_input [] (of_part (within 1 0));
      small = read_input;
      marks = false ∷ true ∷ [];
    },
    record {
      bad = 2;
      bad_is = refl;
      marks = record { size = refl; exact = reads_input };
      small = refl;
      cnf = ([], no_gates read_input refl, refl);
    },
    refl,
  ),
)

formula_of_no_property : WritesFormula (within 1 1) bad_input (Err (runs.Cnf formulas.Property)) []
formula_of_no_property = ((omega arith, omega arith), refl)

-- `aag 1 1 0 0 0 1/2/3/b0 stuck/`: `i 0 2 /b 0 3 stuck/`
named_entries : entries_text Text (record one_input { bad = 3 ∷ []; symbols = ((Bad, 0), codes "stuck") ∷ [] })
    ≡ codes "i 0 2 \nb 0 3 stuck\n"
unfolding digits entries_text entry_line entry_lines symbol_name_at
named_entries = refl

-- as JSON; the byte 255 is no UTF-8
json_entries : entries_text Json (record one_input { bad = 3 ∷ []; symbols = ((Bad, 0), 104 ∷ 255 ∷ []) ∷ [] })
    ≡ codes "{\"letter\":\"i\",\"position\":0,\"literal\":2,\"name\":null}\n"
    ++ codes "{\"letter\":\"b\",\"position\":0,\"literal\":3,\"name\":[104,255]}\n"
unfolding chars digits encode_utf8 entries_text entry_line entry_lines is_utf8 symbol_name_at
json_entries = refl

-- `aag 1 1 0 1 0/2/3/` from outputs: `aag 1 1 0 0 0 1/2/3/`
selected_output : Selects sections.Outputs sections.Bad [] Ascii (record one_input { outputs = 3 ∷ [] }) (Ok tt)
    (codes "aag 1 1 0 0 0 1\n2\n3\n")
unfolding ascii digits header_line lines names_text property_lines tail
selected_output = ((omega arith, λ k d lt. absurd (omega (arith, lt))), refl)

-- `examples/two_gates.aag` to binary: `aig 4 2 0 1 2/8/`, then `02 02 02 04`
not_ready : IsBinaryReady two_gates → ⊥
not_ready ready = let e = ready.in_order in let no : ⊥ = cc in no

converted : Converts Binary two_gates (Ok tt) (codes "aig 4 2 0 1 2\n8\n" ++ 2 ∷ 2 ∷ 2 ∷ 4 ∷ [])
unfolding binary delta digits groups header_line lines names_text property_lines renumbered_literal renumbered_variable tail
converted = inr (not_ready, (3 ∷ 4 ∷ [], canonical, refl))

-- a latch that negates itself, with outputs 2 and 3, for 3 frames: `aag 0 0 0 6 0/0/1/1/0/0/1/`
abbrev negating_latch : Raw
negating_latch = record one_input {
  inputs = [];
  latches = record { lit = 2; next = 3; reset = 0 } ∷ [];
  outputs = 2 ∷ 3 ∷ [];
}

unrolled_latch : Unrolls 3 Ascii negating_latch (Ok tt) (codes "aag 0 0 0 6 0\n0\n1\n1\n0\n0\n1\n")
unfolding ascii digits frame_literal header_line latch_literal lines names_text property_lines tail
unrolled_latch = (
  unrolled negating_latch [] 3,
  (
    record {
      frames = omega arith;
      no_liveness = λ live. elim live [ inl lt ↦ omega (arith, lt) | inr lt ↦ omega (arith, lt) ];
      limits = record {
        frames = omega arith;
        max_var = omega arith;
        inputs = omega arith;
        outputs = omega arith;
        bad = omega arith;
        constraints = omega arith;
        gates = omega arith;
      };
    },
    ([], no_gates negating_latch refl, refl),
  ),
  refl,
)

-- rows of one value
wide : (a : Tern) (rows : List (List Tern)) → All (λ (row : List Tern). length row ≡ 1) rows
    → All (λ (row : List Tern). length row ≡ 1) ((a ∷ []) ∷ rows)
wide a rows h = All-cons (λ (row : List Tern). length row ≡ 1) (a ∷ []) rows refl h

one_wide : (a : Tern) → All (λ (row : List Tern). length row ≡ 1) ((a ∷ []) ∷ [])
one_wide a = wide a [] (All-nil _)

-- stimulus `11/1/`: the trace of the row `11`, and `Length(2)`
simulated : WritesSimulation (record { bytes = codes "11\n1\n"; is_whole = true }) two_gates
    (Err (runs.Stimulus (stimuli.Length 2))) (codes " 11 1 \n")
simulated = record {
  rows = (One ∷ One ∷ []) ∷ [];
  rows_are = record {
    widths = All-cons (λ (row : List Tern). length row ≡ 2) (One ∷ One ∷ []) [] refl (All-nil _);
    line = codes "1";
    rest = 10 ∷ [];
    no_end = All-cons (λ (b : ℕ). b ≢ 10) 49 [] (λ e. omega (arith, e)) (All-nil _);
    text_is = refl;
    fault_is = (refl, ([], refl), All-cons IsCharacter 49 [] (inr (inl refl)) (All-nil _), λ e. omega (arith, e));
  };
  trace_is = trace_of_11;
}

-- input 2 is bad: for `0/1/1/` it is `1/b0//0/1/./`
written_witness : WritesWitness None (codes "0\n1\n1\n") bad_input (Ok tt) (codes "1\nb0\n\n0\n1\n.\n")
written_witness = (
  (Zero ∷ []) ∷ (One ∷ []) ∷ (One ∷ []) ∷ [],
  record {
    widths = wide Zero ((One ∷ []) ∷ (One ∷ []) ∷ []) (wide One ((One ∷ []) ∷ []) (one_wide One));
    text_is = refl;
  },
  record {
    frame = 1;
    property = 0;
    first = first_at_one Zero (λ e. let no : ⊥ = cc in no);
    spelled = record {
      start_is = refl;
      widths = wide Zero ((One ∷ []) ∷ []) (one_wide One);
      some = λ e. let no : ⊥ = cc in no;
      digits = codes "0";
      position = spelling.IsDecimal.digit 0 (omega arith);
      text_is = refl;
    };
  },
)

-- `examples/two_gates.aag` with `11/` after `g 9 4`: a circuit with the gate `10 9 4` last, and `11/`
kept_bench : (circuit_text (edited (record { circuit = two_gates; rows = row_11 }) (append_gate 9 4))
    ≡ codes "aag 5 2 0 1 3\n2\n4\n8\n8 6 2\n6 2 4\n10 9 4\n")
    × (stimulus_rows_text (edited (record { circuit = two_gates; rows = row_11 }) (append_gate 9 4)) ≡ codes "11\n")
unfolding ascii digits header_line lines names_text property_lines tail
kept_bench = (refl, refl)

-- `aag 1 1 0 0 0 1/2/2/` and `1/b0//1/./`: `confirmed/`, with its trace ` 1  /confirmed/`
abbrev of_one : Witness
of_one = with_rows ((One ∷ []) ∷ [])

reached_by_one : (w : Tern) → w ≡ One → ReachesProperty bad_input [] ((w ∷ []) ∷ []) 0 0
reached_by_one w e = subst (λ (v : Tern). ReachesProperty bad_input [] ((v ∷ []) ∷ []) 0 0) (sym e) (
  record { latches = refl; inputs = one_wide One },
  (λ p x v at. let no : ⊥ = cc in absurd no),
  omega arith,
  (2, refl, (value.Value.input 0 0 2 One (One ∷ []) refl refl refl, (λ s c le has. none c has))),
)
  where
    none : {A : Type 0} (c : ℕ) → Contains {X = ℕ} [] c → A
    none c (k, lt, is) = absurd (omega (arith, lt))

confirmed_of_one : IsConfirmed bad_input of_one
confirmed_of_one (v ∷ start) rows h = absurd h.0
confirmed_of_one [] [] h = absurd h.1
confirmed_of_one [] ([] ∷ rows) h = absurd h.1.0
confirmed_of_one [] ((w ∷ v ∷ row) ∷ rows) h = absurd h.1.0.1
confirmed_of_one [] ((w ∷ []) ∷ row ∷ rows) h = absurd h.1.1
confirmed_of_one [] ((w ∷ []) ∷ []) h = reached_by_one w (h.1.0.0.1 one_is_known)
  where
    one_is_known : One ≢ X
    one_is_known e = let no : ⊥ = cc in no

spelled_one : SpellsWitness bad_input (codes "1\nb0\n\n1\n.\n") of_one
spelled_one = record {
  start_is = refl;
  widths = one_wide One;
  some = λ e. let no : ⊥ = cc in no;
  digits = codes "0";
  position = spelling.IsDecimal.digit 0 (omega arith);
  text_is = refl;
}

replayed_one : ReportsRun (λ raw start rows text. IsTrace raw start rows text) bad_input (codes "1\nb0\n\n1\n.\n")
    (codes " 1  \n")
replayed_one = record {
  witness = of_one;
  spells = spelled_one;
  admitted = (omega arith, omega arith);
  reported_is = (
    [],
    codes " 1  \n",
    refl,
    record {
      state = [];
      inputs = codes "1";
      outputs = [];
      next = [];
      state_is = tt;
      inputs_are = ((One, value.Value.input 0 0 2 One (One ∷ []) refl refl refl, refl), tt);
      outputs_are = tt;
      next_is = tt;
      line_is = refl;
    },
    refl,
  );
}

shown_verdict : ShowsVerdict bad_input (codes "1\nb0\n\n1\n.\n") Confirmed
shown_verdict = record {
  witness = of_one;
  text_is = spelled_one;
  admitted = (omega arith, omega arith);
  verdict_is = confirmed_by ((One ∷ []) ∷ []) refl;
  confirmed = λ e. confirmed_of_one;
}

checked : Checks (codes "1\nb0\n\n1\n.\n") bad_input (Ok Confirmed) (codes "confirmed\n")
checked = (shown_verdict, refl)

checked_with_trace : ChecksAndTraces Trace (codes "1\nb0\n\n1\n.\n") bad_input (Ok Confirmed)
    (codes " 1  \nconfirmed\n")
checked_with_trace = (shown_verdict, (codes " 1  \n", replayed_one, refl))

-- with properties the bad state is 1
replayed_properties : ReportsRun (λ raw start rows text. IsPropertyTrace raw start rows text) bad_input
    (codes "1\nb0\n\n1\n.\n") (codes " 1   1 \n")
unfolding replayed_one
replayed_properties = record {
  witness = of_one;
  spells = spelled_one;
  admitted = (omega arith, omega arith);
  reported_is = (
    [],
    codes " 1   1 \n",
    refl,
    record {
      fields = codes " 1  ";
      bad = codes "1";
      constraints = [];
      fields_are = replayed_one.reported_is.3;
      bad_are = ((One, value.Value.input 0 0 2 One (One ∷ []) refl refl refl, refl), tt);
      constraints_are = tt;
      line_is = refl;
    },
    refl,
  );
}

checked_with_properties : ChecksAndTraces Properties (codes "1\nb0\n\n1\n.\n") bad_input (Ok Confirmed)
    (codes " 1   1 \nconfirmed\n")
checked_with_properties = (shown_verdict, (codes " 1   1 \n", replayed_properties, refl))

-- ---- bad states that no run reaches

-- literal 0 is 0
zero_is_zero : {raw : Raw} {start : List Tern} {rows : List (List Tern)} {t l : ℕ} {w : Tern} → raw.inputs ≡ 2 ∷ []
    → raw.latches ≡ [] → raw.gates ≡ [] → Value raw start rows t l w → l ≡ 0 → w ≡ Zero
zero_is_zero i x g (value.Value.constant_false t) e = refl
zero_is_zero i x g (value.Value.constant_true t) e = absurd (omega (arith, e))
zero_is_zero i x g (value.Value.input t zero l w row at is cell) e =
    let f : Some 2 ≡ Some l = sym (ap (λ (ls : List ℕ). slice_get ls 0) i) ∙ at in
    let h : 2 ≡ l = cc in absurd (omega (arith, h, e))
zero_is_zero i x g (value.Value.input t (suc p) l w row at is cell) e =
    let f : None ≡ Some l = sym (ap (λ (ls : List ℕ). slice_get ls (suc p)) i) ∙ at in
    let no : ⊥ = cc in absurd no
zero_is_zero i x g (value.Value.latch_first p y w at is) e =
    let f : None ≡ Some y = sym (ap (λ (xs : List Latch). slice_get xs p) x) ∙ at in
    let no : ⊥ = cc in absurd no
zero_is_zero i x g (value.Value.latch_next t p y w at v) e =
    let f : None ≡ Some y = sym (ap (λ (xs : List Latch). slice_get xs p) x) ∙ at in
    let no : ⊥ = cc in absurd no
zero_is_zero i x g (value.Value.gate t q h a b at va vb) e =
    let f : None ≡ Some h = sym (ap (λ (gs : List Gate). slice_get gs q) g) ∙ at in
    let no : ⊥ = cc in absurd no
zero_is_zero i x g (value.Value.negated t l w over neg v) e = absurd (omega (arith, over, e))

-- a bad literal 0, for each k
zero_is_unreachable : (k : ℕ) → IsUnreachableWithin (record one_input { bad = 0 ∷ [] }) k 0
zero_is_unreachable k start rows t lt (fits, allowed, inside, (b, is, (bad, kept))) =
    let f : 0 ≡ b = cc in
    let e : One ≡ Zero = zero_is_zero refl refl refl bad (sym f) in
    let no : ⊥ = cc in no

-- a latch that keeps 0, as a bad literal
abbrev latch_of_zero : Raw
latch_of_zero = record one_input {
  inputs = [];
  latches = record { lit = 2; next = 2; reset = 0 } ∷ [];
  bad = 2 ∷ [];
}

latch_is_zero : {start : List Tern} {rows : List (List Tern)} {t l : ℕ} {w : Tern} → IsAllowed latch_of_zero start
    → Value latch_of_zero start rows t l w → l ≡ 2 → w ≡ Zero
latch_is_zero allowed (value.Value.constant_false t) e = absurd (omega (arith, e))
latch_is_zero allowed (value.Value.constant_true t) e = absurd (omega (arith, e))
latch_is_zero allowed (value.Value.input t p l w row at is cell) e = let no : ⊥ = cc in absurd no
latch_is_zero allowed (value.Value.latch_first zero x w at is) e =
    let f : record { lit = 2; next = 2; reset = 0 } ≡ x = cc in
    starts (subst (λ (y : Latch). Allows y w) (sym f) (allowed 0 x w at is))
  where
    starts : {v : Tern} → Allows (record { lit = 2; next = 2; reset = 0 }) v → v ≡ Zero
    starts (inl other) = absurd (omega (arith, other))
    starts (inr same) = same
latch_is_zero allowed (value.Value.latch_first (suc p) x w at is) e = let no : ⊥ = cc in absurd no
latch_is_zero allowed (value.Value.latch_next t zero x w at v) e =
    let f : record { lit = 2; next = 2; reset = 0 } ≡ x = cc in
    latch_is_zero allowed v (ap (λ (y : Latch). y.next) (sym f))
latch_is_zero allowed (value.Value.latch_next t (suc p) x w at v) e = let no : ⊥ = cc in absurd no
latch_is_zero allowed (value.Value.gate t q h a b at va vb) e = let no : ⊥ = cc in absurd no
latch_is_zero allowed (value.Value.negated t l w over neg v) e = absurd (omega (arith, neg, e))

latch_is_unreachable : IsUnreachable latch_of_zero 0
latch_is_unreachable start rows t (fits, allowed, inside, (b, is, (bad, kept))) =
    let f : 2 ≡ b = cc in
    let e : One ≡ Zero = latch_is_zero allowed bad (sym f) in
    let no : ⊥ = cc in no

-- a constraint 0, for each k but 0
no_run_of_zero : (k : ℕ) → 0 < k → HasNoRun (record one_input { constraints = 0 ∷ [] }) k
no_run_of_zero k some start rows (fits, allowed, frames, kept) =
    let e : One ≡ Zero = zero_is_zero refl refl refl (kept 0 0 some (0, omega arith, refl)) refl in
    let no : ⊥ = cc in no
