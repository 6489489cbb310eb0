-- A stimulus text is read in one way only.
use Rattle.std.proofs.Common.{◌≡◌, ◌≢◌, ◌⊎◌, ℕ, ◌<◌, ◌≤◌, List, [], ◌∷◌, ◌++◌, length, map, All, inl, inr, refl, sym}
use Rattle.std.proofs.Common.{ap, ◌∙◌, subst, arith, append_assoc}
use Rattle.std.specs.List.{flat_map}
use Rattle.std.proofs.lemmas.List.{append-nil, length-map}
use Rattle.std.proofs.lemmas.List.Elements.{All-head, All-tail, All-map}
use Rattle.aig_bytes.proofs.Cuts.{split_once, no_split}
use Rattle.aig_parts.specs.declared.ternary.Tern.{Tern}
use Rattle.aig_parts.specs.declared.ternary.Tern.TheVariants.{Zero, One, X}
use Rattle.aig_sim.specs.declared.stimulus.fault.StimFault.{StimFault}
use Rattle.aig_sim.specs.declared.stimulus.fault.StimFault.TheVariants as fault
use Rattle.aig_sim.specs.state.Checking.{BeginsWithRow}
use Rattle.aig_values.specs.Characters.{character}
use Rattle.aig_values.specs.InputRows.{HaveWidth}
use Rattle.aig_sim.specs.StimulusText.{row_line, IsCharacter, EndsLine, HasFault, HasFaultyLine, SpellsRows}
use Rattle.aig_sim.proofs.LineLemmas.{characters, no_end_in_character}

same_character : (v w : Tern) → character v ≡ character w → v ≡ w
same_character Zero Zero e = refl
same_character One One e = refl
same_character X X e = refl
same_character Zero One e = absurd (omega arith)
same_character Zero X e = absurd (omega arith)
same_character One Zero e = absurd (omega arith)
same_character One X e = absurd (omega arith)
same_character X Zero e = absurd (omega arith)
same_character X One e = absurd (omega arith)

pub same_row : (r s : List Tern) → map character r ≡ map character s → r ≡ s
same_row [] [] e = refl
same_row [] (w ∷ s) e = cc
same_row (v ∷ r) [] e = cc
same_row (v ∷ r) (w ∷ s) e =
    let first : character v ≡ character w = cc in
    let more : map character r ≡ map character s = cc in
    ap (λ (z : Tern). z ∷ r) (same_character v w first) ∙ ap (λ (zs : List Tern). w ∷ zs) (same_row r s more)

pub no_end_in_row : (r : List Tern) → All (λ x. x ≢ 10) (map character r)
no_end_in_row r = All-map (λ x. x ≢ 10) character r (λ i d h. no_end_in_character _)

pub row_ends : (r : List Tern) (more : List ℕ) → row_line r ++ more ≡ map character r ++ (10 ∷ more)
row_ends r more = append_assoc (map character r) (10 ∷ []) more

-- a text as rows and a rest, twice
pub rows_twice : (width : ℕ) (rows rows' : List (List Tern)) (rest rest' : List ℕ) → HaveWidth width rows
    → HaveWidth width rows'
    → flat_map row_line rows ++ rest ≡ flat_map row_line rows' ++ rest'
    → ((rows ≡ rows') × (rest ≡ rest')) ⊎ (((length rows < length rows') × BeginsWithRow width rest)
    ⊎ ((length rows' < length rows) × BeginsWithRow width rest'))
rows_twice width [] [] rest rest' p q e = inl (refl, e)
rows_twice width [] (s ∷ rows') rest rest' p q e =
    inr (inl (
      omega arith,
      (
        s,
        flat_map row_line rows' ++ rest',
        All-head (λ row. length row ≡ width) s rows' q,
        e ∙ append_assoc (row_line s) (flat_map row_line rows') rest' ∙ row_ends s (flat_map row_line rows' ++ rest'),
      ),
    ))
rows_twice width (r ∷ rows) [] rest rest' p q e =
    inr (inr (
      omega arith,
      (
        r,
        flat_map row_line rows ++ rest,
        All-head (λ row. length row ≡ width) r rows p,
        sym e ∙ append_assoc (row_line r) (flat_map row_line rows) rest ∙ row_ends r (flat_map row_line rows ++ rest),
      ),
    ))
rows_twice width (r ∷ rows) (s ∷ rows') rest rest' p q e =
    let t = flat_map row_line rows ++ rest in
    let t' = flat_map row_line rows' ++ rest' in
    let (same, more) = split_once 10 (map character r) (map character s) t t' (no_end_in_row r) (no_end_in_row s)
    (sym (row_ends r t) ∙ sym (append_assoc (row_line r) (flat_map row_line rows) rest) ∙ e
    ∙ append_assoc (row_line s) (flat_map row_line rows') rest' ∙ row_ends s t') in
    elim (rows_twice width rows rows' rest rest' (All-tail (λ row. length row ≡ width) r rows p)
    (All-tail (λ row. length row ≡ width) s rows' q) more) [
      | inl h ↦ inl (
        ap (λ (z : List Tern). z ∷ rows) (same_row r s same)
            ∙ ap (λ (zs : List (List Tern)). s ∷ zs) h.0,
        h.1,
      )
      | inr h ↦ inr (elim h [ inl k ↦ inl (omega (arith, k.0), k.1) | inr k ↦ inr (omega (arith, k.0), k.1) ])
    ]

no_row_in_nothing : (width : ℕ) → BeginsWithRow width [] → ⊥
no_row_in_nothing width (r, more, len, e) = no_split 10 (map character r) [] more (λ i d h. absurd (omega arith)) (sym e)

-- a faulty line is no row, unless it is one too many
fault_is_no_row : (width before : ℕ) (line rest : List ℕ) (f : StimFault) → All (λ x. x ≢ 10) line
    → HasFault width before line rest f
    → BeginsWithRow width (line ++ rest) → before ≡ 65536
fault_is_no_row width before line rest fault.Unfinished p h (r, more, len, e) =
    absurd (no_split 10 (map character r) line more p (sym e ∙ ap (λ (t : List ℕ). line ++ t) h.0 ∙ append-nil line))
fault_is_no_row width before line rest (fault.Char n) p h (r, more, len, e) =
    let same = split_once 10 line (map character r) h.1.0 more p (no_end_in_row r)
    (ap (λ (t : List ℕ). line ++ t) (sym h.1.1) ∙ e) in
    absurd (h.2 (subst (All IsCharacter) (sym same.0) (characters r)))
fault_is_no_row width before line rest (fault.Length n) p h (r, more, len, e) =
    let same = split_once 10 line (map character r) h.1.0 more p (no_end_in_row r)
    (ap (λ (t : List ℕ). line ++ t) (sym h.1.1) ∙ e) in
    absurd (h.3 (ap length same.0 ∙ length-map r character ∙ len))
fault_is_no_row width before line rest fault.Limit p h s = h.0
fault_is_no_row width before line rest fault.Memory p h s = absurd h
fault_is_no_row width before line rest fault.Io p h s = absurd h

fault_has_bytes : (width before : ℕ) (line rest : List ℕ) (f : StimFault) → HasFault width before line rest f → []
    ≡ line ++ rest → ⊥
fault_has_bytes width before [] rest fault.Unfinished h e = h.1 refl
fault_has_bytes width before [] rest (fault.Char n) h e = let no_bytes : [] ≡ 10 ∷ h.1.0 = e ∙ h.1.1 in cc
fault_has_bytes width before [] rest (fault.Length n) h e = let no_bytes : [] ≡ 10 ∷ h.1.0 = e ∙ h.1.1 in cc
fault_has_bytes width before [] rest fault.Limit h e = let no_bytes : [] ≡ 10 ∷ h.1.0 = e ∙ h.1.1 in cc
fault_has_bytes width before [] rest fault.Memory h e = h
fault_has_bytes width before [] rest fault.Io h e = h
fault_has_bytes width before (b ∷ line) rest f h e = cc

-- the fault of a line that LF ends
ended_fault : (width before : ℕ) (line rest : List ℕ) (f g : StimFault) → EndsLine rest
    → HasFault width before line rest f → HasFault width before line rest g → f ≡ g
ended_fault width before line rest (fault.Char n) (fault.Char m) ends h k = ap fault.Char (h.0 ∙ sym k.0)
ended_fault width before line rest (fault.Length n) (fault.Length m) ends h k = ap fault.Length (h.0 ∙ sym k.0)
ended_fault width before line rest fault.Limit fault.Limit ends h k = refl
ended_fault width before line rest (fault.Char n) (fault.Length m) ends h k = absurd (h.2 k.2)
ended_fault width before line rest (fault.Char n) fault.Limit ends h k = absurd (h.2 k.2)
ended_fault width before line rest (fault.Length n) (fault.Char m) ends h k = absurd (k.2 h.2)
ended_fault width before line rest (fault.Length n) fault.Limit ends h k = absurd (h.3 k.3)
ended_fault width before line rest fault.Limit (fault.Char m) ends h k = absurd (k.2 h.2)
ended_fault width before line rest fault.Limit (fault.Length m) ends h k = absurd (k.3 h.3)
ended_fault width before line rest fault.Unfinished g ends h k = let different : [] ≡ 10 ∷ ends.0 = sym h.0
    ∙ ends.1 in cc
ended_fault width before line rest fault.Memory g ends h k = absurd h
ended_fault width before line rest fault.Io g ends h k = absurd h
ended_fault width before line rest f fault.Unfinished ends h k = let different : [] ≡ 10 ∷ ends.0 = sym k.0
    ∙ ends.1 in cc
ended_fault width before line rest f fault.Memory ends h k = absurd k
ended_fault width before line rest f fault.Io ends h k = absurd k

ends_or_not : (width before : ℕ) (line rest : List ℕ) (f : StimFault) → HasFault width before line rest f
    → ((f ≡ fault.Unfinished) × (rest ≡ [])) ⊎ EndsLine rest
ends_or_not width before line rest fault.Unfinished h = inl (refl, h.0)
ends_or_not width before line rest (fault.Char n) h = inr h.1
ends_or_not width before line rest (fault.Length n) h = inr h.1
ends_or_not width before line rest fault.Limit h = inr h.1
ends_or_not width before line rest fault.Memory h = absurd h
ends_or_not width before line rest fault.Io h = absurd h

-- a line that is faulty after so many rows has one fault
one_fault : (width before : ℕ) (line rest line' rest' : List ℕ) (f f' : StimFault)
    → All (λ x. x ≢ 10) line → All (λ x. x ≢ 10) line' → HasFault width before line rest f
    → HasFault width before line' rest' f'
    → line ++ rest ≡ line' ++ rest' → f ≡ f'
one_fault width before line rest line' rest' f f' p p' h h' e =
    elim (ends_or_not width before line rest f h) [
      | inl (is, none) ↦ elim (ends_or_not width before line' rest' f' h') [
        | inl (is', none') ↦ is ∙ sym is'
        | inr (more, ends) ↦
            absurd (no_split 10 line' line more p
            (ap (λ (t : List ℕ). line' ++ t) (sym ends) ∙ sym e ∙ ap (λ (t : List ℕ). line ++ t) none
            ∙ append-nil line))
      ]
      | inr (more, ends) ↦ elim (ends_or_not width before line' rest' f' h') [
        | inl (is', none') ↦
            absurd (no_split 10 line line' more p'
            (ap (λ (t : List ℕ). line ++ t) (sym ends) ∙ e ∙ ap (λ (t : List ℕ). line' ++ t) none'
            ∙ append-nil line'))
        | inr (more', ends') ↦
            let (same, rests) = split_once 10 line line' more more' p p'
            (ap (λ (t : List ℕ). line ++ t) (sym ends) ∙ e ∙ ap (λ (t : List ℕ). line' ++ t) ends') in
            let same_rest : rest' ≡ rest = ends' ∙ ap (λ (t : List ℕ). 10 ∷ t) (sym rests) ∙ sym ends in
            ended_fault width before line rest f f' (more, ends) h
            (subst (λ (t : List ℕ). HasFault width before line t f') same_rest
            (subst (λ (t : List ℕ). HasFault width before t rest' f') (sym same) h'))
      ]
    ]

pub one_list_of_rows : (width : ℕ) (text : List ℕ) (rows rows' : List (List Tern))
    → SpellsRows width text rows → SpellsRows width text rows' → rows ≡ rows'
one_list_of_rows width text rows rows' h k =
    elim (rows_twice width rows rows' [] [] h.widths k.widths
    (append-nil _ ∙ sym h.text_is ∙ k.text_is ∙ sym (append-nil _))) [
      | inl s ↦ s.0
      | inr s ↦ absurd (elim s [ inl q ↦ no_row_in_nothing width q.1 | inr q ↦ no_row_in_nothing width q.1 ])
    ]

pub no_faulty_line : (width : ℕ) (text : List ℕ) (rows rows' : List (List Tern)) (f : StimFault)
    → length rows ≤ 65536 → SpellsRows width text rows → HasFaultyLine width text rows' f → ⊥
no_faulty_line width text rows rows' f limit h k =
    elim (rows_twice width rows rows' [] (k.line ++ k.rest) h.widths k.widths
    (append-nil _ ∙ sym h.text_is ∙ k.text_is)) [
      | inl s ↦ fault_has_bytes width (length rows') k.line k.rest f k.fault_is s.1
      | inr s ↦ elim s [
        | inl q ↦ no_row_in_nothing width q.1
        | inr q ↦ let at : length rows'
            ≡ 65536 = fault_is_no_row width (length rows') k.line k.rest f k.no_end k.fault_is q.1 in
            omega (arith, at, q.0, limit)
      ]
    ]

pub one_faulty_line : (width : ℕ) (text : List ℕ) (rows rows' : List (List Tern)) (f f' : StimFault)
    → length rows ≤ 65536 → length rows' ≤ 65536 → HasFaultyLine width text rows f → HasFaultyLine width text rows' f'
    → (rows ≡ rows') × (f ≡ f')
one_faulty_line width text rows rows' f f' limit limit' h k =
    elim (rows_twice width rows rows' (h.line ++ h.rest) (k.line ++ k.rest) h.widths k.widths
    (sym h.text_is ∙ k.text_is)) [
      | inl s ↦ (
        s.0,
        one_fault width (length rows) h.line h.rest k.line k.rest f f' h.no_end k.no_end h.fault_is
            (subst (λ (r : List (List Tern)). HasFault width (length r) k.line k.rest f') (sym s.0) k.fault_is) s.1,
      )
      | inr s ↦ absurd (elim s [
        | inl q ↦ let at : length rows
            ≡ 65536 = fault_is_no_row width (length rows) h.line h.rest f h.no_end h.fault_is q.1 in
            omega (arith, at, q.0, limit')
        | inr q ↦ let at : length rows'
            ≡ 65536 = fault_is_no_row width (length rows') k.line k.rest f' k.no_end k.fault_is q.1 in
            omega (arith, at, q.0, limit)
      ])
    ]
