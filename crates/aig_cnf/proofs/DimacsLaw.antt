-- The text of a formula with its comment lines, for a reader of DIMACS.
use Rattle.std.proofs.Common.{◌≡◌, ◌≢◌, inl, inr, ℕ, zero, suc, ◌+◌, ◌-◌, ◌*◌, ◌^◌, ◌<◌, Bool, true, false, ◌&&◌, List}
use Rattle.std.proofs.Common.{[], ◌∷◌, ◌++◌, length, slice_index, All, Some, refl, sym, ap, ◌∙◌, subst, arith}
use Rattle.std.proofs.Common.{append_assoc}
use Rattle.std.specs.Prelude.{if◌then◌else◌, ◌==◌, codes}
use Rattle.std.specs.Fmt.{decimal}
use Rattle.std.specs.List.{flat_map}
use Rattle.std.proofs.lemmas.List.Concat.{flat_map-cons}
use Rattle.std.proofs.lemmas.List.Elements.{All-nil, All-cons, All-head, All-tail, All-append, All-drop, All-weaker}
use Rattle.aig_parts.specs.Formed.{IsSymbolOf}
use Rattle.aig_parts.specs.Literal.{negation, variable}
use Rattle.aig_parts.specs.SymbolPlaces.{Key}
use Rattle.aig_parts.specs.declared.gate.Gate.{Gate}
use Rattle.aig_parts.specs.declared.raw.Raw.{Raw}
use Rattle.aig_parts.specs.declared.symbols.Kind.{Kind}
use Rattle.aig_parts.specs.declared.symbols.Kind.TheVariants as kinds
use Rattle.aig_base.specs.Circuit.{IsCircuit}
use Rattle.aig_base.specs.Order.{IsCanonicalOrder}
use Rattle.aig_base.specs.Part.{part}
use Rattle.aig_cnf.specs.Alive.{always_bad}
use Rattle.aig_cnf.specs.Answers.{HasFormula}
use Rattle.aig_cnf.specs.CnfText.{goal_line, goal_lines, read_text}
use Rattle.aig_cnf.specs.Dimacs.{formula_text, literal_text, sign_text}
use Rattle.aig_cnf.specs.DimacsRead.{read_formula}
use Rattle.aig_cnf.specs.Formula.{Cnf, all_but_last, cone, first_reached, formula_of, gate_clauses}
use Rattle.aig_cnf.specs.Formula.{goal_clauses, implies, last_alone, start_literals}
use Rattle.aig_cnf.specs.Heading.{asked_options, goal_option, heading}
use Rattle.aig_cnf.specs.Query.{depth, from_any_state, last, subject}
use Rattle.aig_cnf.specs.ReadFormula.{HasReadAliveFormula, HasReadFormula, IsReadAliveOf, IsReadOf, ReadCnf, marked, of_part}
use Rattle.aig_cnf.specs.declared.heading.Heading.{Heading}
use Rattle.aig_cnf.specs.declared.heading.Heading.TheVariants as headings
use Rattle.aig_cnf.specs.declared.query.Goal.{Goal}
use Rattle.aig_cnf.specs.declared.query.Goal.TheVariants as asked
use Rattle.aig_cnf.specs.declared.query.Query.{Query}
use Rattle.aig_unroll.specs.InputMap.{Origin, input, start, is_input, is_latch, is_same, map_field, origin_line}
use Rattle.aig_unroll.specs.InputMap.{origin_lines, read_origins, symbol_name_at}
use Rattle.aig_unroll.specs.Unrolled.{frames, unrolled}
use Rattle.aig_unroll.proofs.UnrolledCircuit.{unrolled_circuit}
use Rattle.aig_unroll.proofs.UnrolledReady.{IsReadyGate, gates_ready}
use Rattle.aig_cnf.proofs.AlwaysBad.{always_circuit}
use Rattle.aig_cnf.proofs.AnyCircuit.{subject_circuit}
use Rattle.aig_cnf.proofs.ConeLemmas.{All-cone, length-cone}
use Rattle.aig_cnf.proofs.DimacsLines.{HasNoEnd, decimal_no_end, no_end_by_test, IsLine, line_end, line_more, line_byte}
use Rattle.aig_cnf.proofs.DimacsLines.{HasLines, lines_none, lines_then, comment_line}
use Rattle.aig_cnf.proofs.DimacsReading.{AreBelow, reads_after}
use Rattle.aig_cnf.proofs.FormulaText.{length-formula, length-goal_clauses}
use Rattle.aig_cnf.proofs.GoalLemmas.{goals_below, length-goals}
use Rattle.aig_cnf.proofs.PartCircuit.{part_circuit}
use Rattle.aig_cnf.proofs.ReadFormulas.{part_fits}
use Rattle.aig_cnf.proofs.SignLemmas.{signs}
use Rattle.aig_cnf.proofs.StartLemmas.{all_uninitialised, few_starts, resets_below}

-- ---- comment lines

field_no_end : (n : ℕ) → HasNoEnd (map_field n)
field_no_end n = All-append (λ b. b ≢ 10) (decimal n) (codes " ") (decimal_no_end n) (no_end_by_test (codes " ") refl)

abbrev HaveNoEnd : List (Key × List ℕ) → Type 0
HaveNoEnd symbols = All (λ s. HasNoEnd s.1) symbols

name_no_end : (test : Kind → Bool) (symbols : List (Key × List ℕ)) (p : ℕ) → HaveNoEnd symbols
    → HasNoEnd (symbol_name_at test symbols p)
unfolding symbol_name_at
name_no_end test [] p h = All-nil (λ b. b ≢ 10)
name_no_end test (s ∷ symbols) p h =
    elim (test s.0.0 && s.0.1 == p) as (λ b. HasNoEnd (if b then s.1 else symbol_name_at test symbols p)) [
      | true ↦ All-head (λ s. HasNoEnd s.1) s symbols h
      | false ↦ name_no_end test symbols p (All-tail (λ s. HasNoEnd s.1) s symbols h)
    ]

module _ (raw : Raw) (named : HaveNoEnd raw.symbols) where
  name_line : (test : Kind → Bool) (p : ℕ) → IsLine (map_field p ++ (symbol_name_at test raw.symbols p ++ codes "\n"))
  name_line test p =
      line_more (map_field p) (symbol_name_at test raw.symbols p ++ codes "\n") (field_no_end p)
      (line_more (symbol_name_at test raw.symbols p) (codes "\n") (name_no_end test raw.symbols p named) line_end)

  origin_is_line : (n : ℕ) (o : Origin) → IsLine (origin_line raw n o)
  origin_is_line n (input t p) =
      line_more (codes "i ") _ (no_end_by_test (codes "i ") refl)
      (line_more (map_field n) _ (field_no_end n) (line_more (map_field t) _ (field_no_end t) (name_line is_input p)))
  origin_is_line n (start p) =
      line_more (codes "l ") _ (no_end_by_test (codes "l ") refl)
      (line_more (map_field n) _ (field_no_end n) (name_line is_latch p))

  origins_skipped : (n : ℕ) (os : List Origin) → HasLines (origin_lines (codes "c ") raw n os) []
  unfolding origin_lines
  origins_skipped n [] = lines_none
  origins_skipped n (o ∷ os) =
      lines_then (codes "c " ++ origin_line raw n o) (origin_lines (codes "c ") raw (n + 1) os) [] []
      (comment_line (32 ∷ origin_line raw n o) (line_byte 32 (origin_line raw n o) (λ e. omega (arith, e)) (origin_is_line n o)))
      (origins_skipped (n + 1) os)

  option_no_end : (words : List ℕ) (n : ℕ) → HasNoEnd words → HasNoEnd (words ++ map_field n)
  option_no_end words n h = All-append (λ b. b ≢ 10) words (map_field n) h (field_no_end n)

  goal_no_end : (goal : Goal) → HasNoEnd (goal_option goal)
  goal_no_end asked.Within = All-nil (λ b. b ≢ 10)
  goal_no_end asked.Last = no_end_by_test (codes "--last ") refl
  goal_no_end asked.Step = no_end_by_test (codes "--step ") refl
  goal_no_end asked.Induction = no_end_by_test (codes "--induction ") refl

  options_no_end : (asked : Heading) → HasNoEnd (asked_options asked raw)
  options_no_end (headings.Runs query) =
      let frames_words : List ℕ = codes "--frames " ++ map_field query.frames in
      let property_words : List ℕ = codes "--property " ++ map_field query.property in
      let name : List ℕ = symbol_name_at (is_same kinds.Bad) raw.symbols query.property in
      All-append (λ b. b ≢ 10) (goal_option query.goal) (frames_words ++ (property_words ++ name)) (goal_no_end query.goal)
      (All-append (λ b. b ≢ 10) frames_words (property_words ++ name)
      (option_no_end (codes "--frames ") query.frames (no_end_by_test (codes "--frames ") refl))
      (All-append (λ b. b ≢ 10) property_words name
      (option_no_end (codes "--property ") query.property (no_end_by_test (codes "--property ") refl))
      (name_no_end (is_same kinds.Bad) raw.symbols query.property named)))
  options_no_end (headings.Alive k) =
      option_no_end (codes "--alive --frames ") k (no_end_by_test (codes "--alive --frames ") refl)
  options_no_end (headings.Certified p) =
      All-append (λ b. b ≢ 10) (codes "--certificate --property " ++ map_field p)
      (symbol_name_at (is_same kinds.Output) raw.symbols 0)
      (option_no_end (codes "--certificate --property ") p (no_end_by_test (codes "--certificate --property ") refl))
      (name_no_end (is_same kinds.Output) raw.symbols 0 named)

  heading_skipped : (asked : Heading) → HasLines (heading asked raw) []
  heading_skipped asked =
      comment_line (codes " aig cnf " ++ (asked_options asked raw ++ codes "\n"))
      (line_more (codes " aig cnf ") (asked_options asked raw ++ codes "\n") (no_end_by_test (codes " aig cnf ") refl)
      (line_more (asked_options asked raw) (codes "\n") (options_no_end asked) line_end))

sign_no_end : (l : ℕ) → HasNoEnd (sign_text l)
sign_no_end l = elim (signs l) [
  | inl even ↦ rw even (All-nil (λ b. b ≢ 10))
  | inr odd ↦ rw odd (no_end_by_test (codes "-") refl)
]

literal_no_end : (l : ℕ) → HasNoEnd (literal_text l)
unfolding literal_text
literal_no_end l = All-append (λ b. b ≢ 10) (sign_text l) (map_field (variable l + 1)) (sign_no_end l) (field_no_end (variable l + 1))

goal_skipped : (l t : ℕ) → HasLines (goal_line l t) []
goal_skipped l t =
    comment_line (codes " b " ++ (literal_text l ++ (decimal t ++ codes "\n")))
    (line_more (codes " b ") (literal_text l ++ (decimal t ++ codes "\n")) (no_end_by_test (codes " b ") refl)
    (line_more (literal_text l) (decimal t ++ codes "\n") (literal_no_end l)
    (line_more (decimal t) (codes "\n") (decimal_no_end t) line_end)))

frames_skipped : (f : ℕ → List ℕ) → ((t : ℕ) → HasLines (f t) []) → (k : ℕ) → HasLines (frames f k) []
frames_skipped f h zero = lines_none
frames_skipped f h (suc k) = lines_then (frames f k) (f k) [] [] (frames_skipped f h k) (h k)

goals_skipped : (ls : List ℕ) → HasLines (goal_lines ls) []
goals_skipped ls = frames_skipped (λ t. goal_line (slice_index ls t) t) (λ t. goal_skipped (slice_index ls t) t) (length ls)

-- ---- the variables of the clauses

negation_below : (l v : ℕ) → variable l < v → variable (negation l) < v
negation_below l v lt = elim (signs l) [ inl even ↦ rw even (omega (arith, even, lt)) | inr odd ↦ rw odd (omega (arith, odd, lt)) ]

one_below : (v l : ℕ) → variable l < v → AreBelow v (l ∷ [])
one_below v l lt = All-cons (λ l. variable l < v) l [] lt (All-nil (λ l. variable l < v))

two_below : (v l m : ℕ) → variable l < v → variable m < v → AreBelow v (l ∷ m ∷ [])
two_below v l m lt mt = All-cons (λ l. variable l < v) l (m ∷ []) lt (one_below v m mt)

gate_below : (v : ℕ) (g : Gate) → variable g.lhs < v → variable g.rhs0 < v → variable g.rhs1 < v
    → All (AreBelow v) (gate_clauses g)
gate_below v g l a b =
    let not_l = negation_below g.lhs v l in
    let not_a = negation_below g.rhs0 v a in
    let not_b = negation_below g.rhs1 v b in
    let second : List ℕ = negation g.lhs ∷ g.rhs1 ∷ [] in
    let third : List ℕ = g.lhs ∷ negation g.rhs0 ∷ negation g.rhs1 ∷ [] in
    All-cons (AreBelow v) (negation g.lhs ∷ g.rhs0 ∷ []) (second ∷ third ∷ []) (two_below v (negation g.lhs) g.rhs0 not_l a)
    (All-cons (AreBelow v) second (third ∷ []) (two_below v (negation g.lhs) g.rhs1 not_l b)
    (All-cons (AreBelow v) third []
    (All-cons (λ l. variable l < v) g.lhs (negation g.rhs0 ∷ negation g.rhs1 ∷ []) l
    (two_below v (negation g.rhs0) (negation g.rhs1) not_a not_b)) (All-nil (AreBelow v))))

gates_below : (m : ℕ) (gates : List Gate) → All (IsReadyGate m) gates → All (AreBelow (m + 1)) (flat_map gate_clauses gates)
gates_below m [] h = All-nil (AreBelow (m + 1))
gates_below m (g ∷ gates) h =
    let is = All-head (IsReadyGate m) g gates h in
    All-append (AreBelow (m + 1)) (gate_clauses g) (flat_map gate_clauses gates)
    (gate_below (m + 1) g (omega (arith, is.within)) (omega (arith, is.within, is.first))
    (omega (arith, is.within, is.first, is.second)))
    (gates_below m gates (All-tail (IsReadyGate m) g gates h))

first_below : (v : ℕ) (ls : List ℕ) → AreBelow v ls → All (AreBelow v) (first_reached ls)
first_below v [] h = All-nil (AreBelow v)
first_below v (l ∷ []) h = All-cons (AreBelow v) (l ∷ []) [] h (All-nil (AreBelow v))
first_below v (l ∷ m ∷ ls) h =
    All-cons (AreBelow v) (negation l ∷ []) (first_reached (m ∷ ls))
    (one_below v (negation l) (negation_below l v (All-head (λ l. variable l < v) l (m ∷ ls) h)))
    (first_below v (m ∷ ls) (All-tail (λ l. variable l < v) l (m ∷ ls) h))

implies_below : (v l : ℕ) (ms : List ℕ) → variable l < v → AreBelow v ms → All (AreBelow v) (implies ms l)
implies_below v l [] lt h = All-nil (AreBelow v)
implies_below v l (m ∷ ms) lt h =
    All-cons (AreBelow v) (negation l ∷ m ∷ []) (implies ms l)
    (two_below v (negation l) m (negation_below l v lt) (All-head (λ l. variable l < v) m ms h))
    (implies_below v l ms lt (All-tail (λ l. variable l < v) m ms h))

starts_below : (v : ℕ) (ms ls : List ℕ) → AreBelow v ms → AreBelow v ls
    → All (AreBelow v) (flat_map (implies ms) (all_but_last ls))
unfolding all_but_last
starts_below v ms [] s h = All-nil (AreBelow v)
starts_below v ms (l ∷ []) s h = All-nil (AreBelow v)
starts_below v ms (l ∷ m ∷ ls) s h =
    subst (All (AreBelow v)) (sym (flat_map-cons (implies ms) l (all_but_last (m ∷ ls))))
    (All-append (AreBelow v) (implies ms l) (flat_map (implies ms) (all_but_last (m ∷ ls)))
    (implies_below v l ms (All-head (λ l. variable l < v) l (m ∷ ls) h) s)
    (starts_below v ms (m ∷ ls) s (All-tail (λ l. variable l < v) l (m ∷ ls) h)))

goal_below : (v : ℕ) (goal : Goal) (ms ls : List ℕ) → AreBelow v ms → AreBelow v ls
    → All (AreBelow v) (goal_clauses goal ms ls)
goal_below v asked.Within ms ls s h = All-cons (AreBelow v) ls [] h (All-nil (AreBelow v))
goal_below v asked.Last ms ls s h =
    All-cons (AreBelow v) (last_alone ls) [] (All-drop (λ l. variable l < v) (length ls - 1) ls h) (All-nil (AreBelow v))
goal_below v asked.Step ms ls s h = first_below v ls h
goal_below v asked.Induction ms ls s h =
    All-cons (AreBelow v) ls (flat_map (implies ms) (all_but_last ls)) h (starts_below v ms ls s h)

-- the variables of the latches are those of inputs of the unrolled circuit
start_below : (query : Query) (raw : Raw) (order : List ℕ)
    → AreBelow ((unrolled (subject query.goal raw) order (depth query)).max_var + 1) (start_literals query raw)
start_below query raw order = at query.goal query.frames query.property
  where
    at : (goal : Goal) (frames property : ℕ)
        → let asks : Query = record { goal = goal; frames = frames; property = property } in
        AreBelow ((unrolled (subject goal raw) order (depth asks)).max_var + 1) (start_literals asks raw)
    at asked.Within frames property = All-nil (λ l. variable l < (unrolled raw order frames).max_var + 1)
    at asked.Last frames property = All-nil (λ l. variable l < (unrolled raw order frames).max_var + 1)
    at asked.Step frames property =
        All-nil (λ l. variable l < (unrolled (from_any_state raw) order (frames + 1)).max_var + 1)
    at asked.Induction frames property =
        let all = all_uninitialised raw.latches in
        resets_below ((unrolled (from_any_state raw) order (frames + 1)).max_var + 1)
        ((frames + 1) * length raw.inputs + 1) raw.latches (omega (arith, all))

-- ---- the whole

module _ (raw : Raw) (query : Query) (circuit : IsCircuit raw) (has : HasFormula raw query) (order : List ℕ)
    (canonical : IsCanonicalOrder (subject query.goal raw) order) where
  abbrev S : Raw
  S = subject query.goal raw

  abbrev k : ℕ
  k = depth query

  abbrev C : Raw
  C = unrolled S order k

  abbrev F : Cnf
  F = formula_of raw order query

  unrolled_is : IsCircuit C
  unrolled_is = unrolled_circuit S (subject_circuit query.goal raw circuit) order canonical k has.limits

  goals_are_below : AreBelow (C.max_var + 1) F.goals
  goals_are_below = goals_below C unrolled_is (length raw.bad) k query.property

  abbrev starts : List ℕ
  starts = start_literals query raw

  abbrev kept : List Gate
  kept = cone F.goals C.gates

  clauses_below : All (AreBelow (C.max_var + 1)) F.clauses
  clauses_below =
      All-cons (AreBelow (C.max_var + 1)) (1 ∷ []) (goal_clauses query.goal starts F.goals ++ flat_map gate_clauses kept)
      (one_below (C.max_var + 1) 1 (omega arith))
      (All-append (AreBelow (C.max_var + 1)) (goal_clauses query.goal starts F.goals) (flat_map gate_clauses kept)
      (goal_below (C.max_var + 1) query.goal starts F.goals (start_below query raw order) goals_are_below)
      (gates_below C.max_var kept (All-cone (IsReadyGate C.max_var) F.goals C.gates
      (gates_ready S (subject_circuit query.goal raw circuit) order canonical k))))

  few_clauses : length F.clauses < 2 ^ 64
  few_clauses =
      let all = length-formula query.goal starts F.goals kept in
      let each = length-goals C (length raw.bad) k query.property in
      let most = length-goal_clauses query.goal starts F.goals
      (few_starts query raw (subject_circuit query.goal raw circuit)) (omega (arith, each, has.limits.frames)) in
      let part = length-cone F.goals C.gates in
      omega (arith, all, most, part, unrolled_is.formed.counts.gates)

  -- whatever circuit its comment lines are about, and whichever inputs they name
  reads_text : (about : Raw) (head : Heading) (os : List Origin) → HaveNoEnd about.symbols
      → read_formula (heading head about ++ (origin_lines (codes "c ") about 2 os
      ++ (goal_lines F.goals ++ formula_text F.variables F.clauses)))
      ≡ Some (F.variables, length F.clauses, F.clauses)
  reads_text about head os no_end =
      let first : List ℕ = heading head about in
      let inputs : List ℕ = origin_lines (codes "c ") about 2 os in
      let text : List ℕ = formula_text F.variables F.clauses in
      ap (λ (t : List ℕ). read_formula (first ++ t)) (sym (append_assoc inputs (goal_lines F.goals) text))
      ∙ (ap read_formula (sym (append_assoc first (inputs ++ goal_lines F.goals) text))
      ∙ reads_after F.variables (omega (arith, unrolled_is.formed.counts.max_var)) (first ++ (inputs ++ goal_lines F.goals))
      F.clauses
      (lines_then first (inputs ++ goal_lines F.goals) [] [] (heading_skipped about no_end head)
      (lines_then inputs (goal_lines F.goals) [] [] (origins_skipped about no_end 2 os)
      (goals_skipped F.goals))) few_clauses clauses_below)

no_ends : (raw : Raw) → IsCircuit raw → HaveNoEnd raw.symbols
no_ends raw circuit = All-weaker (IsSymbolOf raw) (λ s. HasNoEnd s.1) (λ s h. h.1.1) raw.symbols circuit.formed.symbols

-- the formula of a query over the part, in the text for a circuit without such names
reads_over : (raw about : Raw) (query : Query) (head : Heading) (read : ReadCnf) → IsCircuit raw → HaveNoEnd about.symbols
    → HasReadFormula raw query → IsReadOf raw query read
    → read_formula (read_text about head read)
    ≡ Some (read.cnf.variables, length read.cnf.clauses, read.cnf.clauses)
reads_over raw about query head read circuit no_end has is =
    let test = marked read.marks in
    let small : Raw = part raw is.bad test in
    let has_small : HasFormula small (of_part query) = record {
      frames = has.frames;
      property = omega arith;
      limits = part_fits raw query is has.limits;
    } in
    let (order, canonical, e) = is.cnf in
    subst (λ (f : Cnf). read_formula (heading head about
    ++ (origin_lines (codes "c ") about 2 (read_origins test about (length f.goals))
    ++ (goal_lines f.goals ++ formula_text f.variables f.clauses)))
    ≡ Some (f.variables, length f.clauses, f.clauses)) (sym e)
    (reads_text small (of_part query) (part_circuit raw is.bad test is.marks.exact circuit query.property is.bad_is) has_small
    order canonical about head
    (read_origins test about (length (formula_of small order (of_part query)).goals)) no_end)

pub reads_read : (raw : Raw) (query : Query) (head : Heading) (read : ReadCnf) → IsCircuit raw → HasReadFormula raw query
    → IsReadOf raw query read
    → read_formula (read_text (subject query.goal raw) head read)
    ≡ Some (read.cnf.variables, length read.cnf.clauses, read.cnf.clauses)
reads_read raw query head read circuit has is =
    reads_over raw (subject query.goal raw) query head read circuit
    (no_ends (subject query.goal raw) (subject_circuit query.goal raw circuit)) has is

pub reads_alive : (raw : Raw) (k : ℕ) (head : Heading) (read : ReadCnf) → IsCircuit raw → HasReadAliveFormula raw k
    → IsReadAliveOf raw k read
    → read_formula (read_text raw head read) ≡ Some (read.cnf.variables, length read.cnf.clauses, read.cnf.clauses)
reads_alive raw k head read circuit has is =
    reads_over (always_bad raw) raw (last k 0) head read (always_circuit raw circuit) (no_ends raw circuit) has is
