-- A model's text, piece by piece.
use Rattle.std.specs.Prelude.{Result, Ok, Err, IfErr}
use Rattle.std.specs.Result.{IsErrAnd}
use Rattle.std.proofs.Common.{◌≡◌, ◌≢◌, ◌⊎◌, inl, inr, ℕ, zero, suc, ◌+◌, ◌-◌, ◌<◌, ◌≤◌, List, [], ◌∷◌, ◌++◌, length}
use Rattle.std.proofs.Common.{take, drop, get_or, All, Some, slice_get, refl, sym, ap, ◌∙◌, subst, arith, append_assoc}
use Rattle.std.proofs.lemmas.List.{get_or-append-add, get_or-take, get_or_append_left, length-take-le, take_more}
use Rattle.std.proofs.lemmas.List.{take-append-le, drop-append-le, length-drop, length_push, take-append-drop, take_all}
use Rattle.std.proofs.lemmas.Option.{get_or_from_slice_get, slice_get-get_or}
use Rattle.std.proofs.Math.Seq.{take-add}
use Rattle.aig_parts.specs.Literal.{variable}
use Rattle.aig_parts.specs.declared.ternary.Tern.{Tern}
use Rattle.aig_sat.specs.model.ModelText.{BeginsLine, HasStatus, SaysSatisfiable, IsSpace, Names, SpellsModel}
use Rattle.aig_sat.specs.model.ModelText.{number_text}
use Rattle.aig_sat.specs.model.Named.{AreNamed}
use Rattle.aig_sat.specs.declared.model.fault.ModelFault.{ModelFault}
use Rattle.aig_sat.specs.declared.model.fault.ModelFault.TheVariants.{Memory}
use Rattle.aig_sat.specs.declared.model.reader.Phase.{Phase}
use Rattle.aig_sat.specs.declared.model.reader.Phase.TheVariants.{Before, Within, After}
use Rattle.aig_sat.specs.declared.model.progress.Reader.{Reader}
use Rattle.aig_sat.specs.model.state.Reading.{GoesOnLine, HasRead, ReadUpTo}

-- before the literals none was named
pub before_none : {variables : ℕ} {text literals : List ℕ} {phase : Phase} → Names variables text phase literals
    → phase ≡ Before → literals ≡ []
before_none Names.nothing e = refl
before_none (Names.space b is h) e = before_none h e
before_none (Names.comment line inside begins h) e = before_none h e
before_none (Names.status line is begins h) e = let never : ⊥ = cc in absurd never
before_none (Names.mark b is begins other h) e = before_none h e
before_none (Names.literal l b is below other h) e = let never : ⊥ = cc in absurd never
before_none (Names.end b is other h) e = let never : ⊥ = cc in absurd never

-- a fault that is passed on
pub passed_fault : {A B F : Type 0} (inner : Result A F) (outer : Result B F) (field fault : F) → inner ≡ Err field
    → IsErrAnd outer (λ f. f ≡ field) → outer ≡ Err fault → inner ≡ Err fault
passed_fault inner (Ok x) field fault was passed is = cc
passed_fault inner (Err f) field fault was passed is = let e : f ≡ fault = cc in was ∙ ap Err (sym passed ∙ e)

-- ---- bytes

-- ---- the bytes from a place to a space

module _ (text : List ℕ) (at end b : ℕ) (after : at ≤ end) (bound : end ≤ length text)
    (ends : slice_get (text ++ 10 ∷ []) end ≡ Some b) where
  long : length (text ++ 10 ∷ []) ≡ length text + 1
  long = length_push text 10 ∙ omega arith

  same_piece : take (end - at) (drop at (text ++ 10 ∷ [])) ≡ take (end - at) (drop at text)
  same_piece =
      ap (take (end - at)) (drop-append-le at text (10 ∷ []) (omega (arith, after, bound)))
      ∙ take-append-le (end - at) (drop at text) (10 ∷ []) (omega (arith, length-drop at text, after, bound))

  pub piece_read : take (end + 1) (text ++ 10 ∷ []) ≡ take at (text ++ 10 ∷ []) ++ (take (end - at) (drop at text) ++ b ∷ [])
  piece_read =
      take_more (text ++ 10 ∷ []) end 0 (omega (arith, long, bound))
      ∙ ap (λ (x : ℕ). take end (text ++ 10 ∷ []) ++ x ∷ []) (get_or_from_slice_get (text ++ 10 ∷ []) end b 0 ends)
      ∙ ap (λ (xs : List ℕ). xs ++ b ∷ []) (front ∙ take-add at (end - at) (text ++ 10 ∷ [])
      ∙ ap (λ (xs : List ℕ). take at (text ++ 10 ∷ []) ++ xs) same_piece)
      ∙ append_assoc (take at (text ++ 10 ∷ [])) (take (end - at) (drop at text)) (b ∷ [])
    where
      front : take end (text ++ 10 ∷ []) ≡ take (at + (end - at)) (text ++ 10 ∷ [])
      front = let e : end ≡ at + (end - at) = omega (arith, after) in ap (λ (n : ℕ). take n (text ++ 10 ∷ [])) e

  -- what was read goes on by the piece
  pub read_on : (old new : Reader) → ReadUpTo old text at
      → ((literals : List ℕ) → HasRead old (take at (text ++ 10 ∷ [])) literals
      → (more : List ℕ) × HasRead new (take at (text ++ 10 ∷ []) ++ (take (end - at) (drop at text) ++ b ∷ [])) more)
      → ReadUpTo new text (end + 1)
  read_on old new (bound', (literals, h)) on =
      let (more, k) = on literals h in
      (omega (arith, bound), (more, subst (λ (xs : List ℕ). HasRead new xs more) (sym piece_read) k))

  -- the text up to a line, the line, and the rest
  pub line_stands : text ++ 10 ∷ [] ≡ take at (text ++ 10 ∷ []) ++ (take (end - at) (drop at text) ++ b ∷ drop (end + 1) (text ++ 10 ∷ []))
  line_stands =
      sym (take-append-drop (end + 1) (text ++ 10 ∷ []))
      ∙ ap (λ (xs : List ℕ). xs ++ drop (end + 1) (text ++ 10 ∷ [])) piece_read
      ∙ append_assoc (take at (text ++ 10 ∷ [])) (take (end - at) (drop at text) ++ b ∷ []) (drop (end + 1) (text ++ 10 ∷ []))
      ∙ ap (λ (xs : List ℕ). take at (text ++ 10 ∷ []) ++ xs)
      (append_assoc (take (end - at) (drop at text)) (b ∷ []) (drop (end + 1) (text ++ 10 ∷ [])))

-- ---- what the pieces are

-- a line that begins with `c`
pub comment_read : (reader : Reader) (text : List ℕ) (at end : ℕ) → at + 1 ≤ end → end ≤ length text
    → slice_get (text ++ 10 ∷ []) at ≡ Some 99 → slice_get (text ++ 10 ∷ []) end ≡ Some 10
    → All (λ b. b ≢ 10) (take (end - (at + 1)) (drop (at + 1) text)) → BeginsLine (take at (text ++ 10 ∷ []))
    → ReadUpTo reader text at → ReadUpTo reader text (end + 1)
comment_read reader text at end after bound first last inside begins (bound', (literals, h)) = (
  omega (arith, bound),
  (
    literals,
    record {
      names = subst (λ (xs : List ℕ). Names (length reader.values) xs reader.phase literals) (sym whole)
          (Names.comment line inside begins h.names);
      named = h.named;
    },
  ),
)
  where
    line : List ℕ
    line = take (end - (at + 1)) (drop (at + 1) text)

    whole : take (end + 1) (text ++ 10 ∷ []) ≡ take at (text ++ 10 ∷ []) ++ (99 ∷ (line ++ 10 ∷ []))
    whole =
        piece_read text (at + 1) end 10 after bound last
        ∙ ap (λ (xs : List ℕ). xs ++ (line ++ 10 ∷ []))
        (take_more (text ++ 10 ∷ []) at 0 (omega (arith, length_push text 10, after, bound))
        ∙ ap (λ (x : ℕ). take at (text ++ 10 ∷ []) ++ x ∷ []) (get_or_from_slice_get (text ++ 10 ∷ []) at 99 0 first))
        ∙ append_assoc (take at (text ++ 10 ∷ [])) (99 ∷ []) (line ++ 10 ∷ [])

-- the line that says that there is a model
pub status_read : (old new : Reader) (line : List ℕ) → old.phase ≡ Before → new.phase ≡ Within → new.values ≡ old.values
    → SaysSatisfiable line → GoesOnLine old new line 10
status_read old new line before within same is text literals begins h =
    let none : literals ≡ [] = before_none h.names before in (
      [],
      record {
        names = subst (λ (phase : Phase). Names (length new.values) (text ++ (line ++ 10 ∷ [])) phase []) (sym within)
            (Names.status line is begins
            (subst (λ (ls : List ℕ). Names (length new.values) text Before ls) none
            (subst (λ (phase : Phase). Names (length new.values) text phase literals) before
            (subst (λ (vs : List Tern). Names (length vs) text old.phase literals) (sym same) h.names))));
        named = subst (λ (ls : List ℕ). AreNamed ls (length new.values) new.values) none
            (subst (λ (vs : List Tern). AreNamed literals (length vs) vs) (sym same) h.named);
      },
    )

module _ (old : Reader) (b : ℕ) (space : IsSpace b) (text literals : List ℕ) (h : HasRead old text literals) where
  -- a space alone
  pub space_read : HasRead old (text ++ b ∷ []) literals
  space_read = record { names = Names.space b space h.names; named = h.named }

  -- a `v`
  pub mark_read : BeginsLine text → old.phase ≢ After → HasRead old (text ++ (118 ∷ (b ∷ []))) literals
  mark_read begins within = record { names = Names.mark b space begins within h.names; named = h.named }

  -- the 0
  pub end_read : (new : Reader) → old.phase ≢ After → new.phase ≡ After → new.values ≡ old.values
      → HasRead new (text ++ (48 ∷ (b ∷ []))) literals
  end_read new within after same = record {
    names = subst (λ (phase : Phase). Names (length new.values) (text ++ (48 ∷ (b ∷ []))) phase literals) (sym after)
        (subst (λ (vs : List Tern). Names (length vs) (text ++ (48 ∷ (b ∷ []))) After literals) (sym same)
        (Names.end b space within h.names));
    named = subst (λ (vs : List Tern). AreNamed literals (length vs) vs) (sym same) h.named;
  }

  -- a literal
  pub literal_read : (new : Reader) (word : List ℕ) (l : ℕ) → old.phase ≢ After → new.phase ≡ Within
      → length new.values ≡ length old.values → word ≡ number_text l → variable l < length old.values
      → AreNamed (literals ++ l ∷ []) (length old.values) new.values
      → HasRead new (text ++ (word ++ b ∷ [])) (literals ++ l ∷ [])
  literal_read new word l within now same is below named = record {
    names = subst (λ (phase : Phase). Names (length new.values) (text ++ (word ++ b ∷ [])) phase (literals ++ l ∷ [])) (sym now)
        (subst (λ (n : ℕ). Names n (text ++ (word ++ b ∷ [])) Within (literals ++ l ∷ [])) (sym same)
        (subst (λ (xs : List ℕ). Names (length old.values) (text ++ (xs ++ b ∷ [])) Within (literals ++ l ∷ [])) (sym is)
        (Names.literal l b space below within h.names)));
    named = subst (λ (n : ℕ). AreNamed (literals ++ l ∷ []) n new.values) (sym same) named;
  }

-- ---- the whole text

pub begins_text : {variables : ℕ} (reader : Reader) → reader.phase ≡ Before → length reader.values ≡ variables
    → AreNamed [] variables reader.values → HasRead reader [] []
begins_text {variables} reader before same named = record {
  names = subst (λ (phase : Phase). Names (length reader.values) [] phase []) (sym before) Names.nothing;
  named = subst (λ (n : ℕ). AreNamed [] n reader.values) (sym same) named;
}

-- a line by which a solver answers otherwise
pub status_stands : (IsLine : List ℕ → Type 0) (reader : Reader) (variables : ℕ) (text : List ℕ) (at end : ℕ) → at ≤ end
    → end ≤ length text → slice_get (text ++ 10 ∷ []) end ≡ Some 10 → BeginsLine (take at (text ++ 10 ∷ []))
    → reader.phase ≡ Before → length reader.values ≡ variables → IsLine (take (end - at) (drop at text))
    → ReadUpTo reader text at → HasStatus IsLine variables text
status_stands IsLine reader variables text at end after bound last begins' before' same is (bound', (literals, h)) = record {
  front = take at (text ++ 10 ∷ []);
  line = take (end - at) (drop at text);
  rest = drop (end + 1) (text ++ 10 ∷ []);
  before =
      subst (λ (ls : List ℕ). Names variables (take at (text ++ 10 ∷ [])) Before ls) (before_none h.names before')
      (subst (λ (phase : Phase). Names variables (take at (text ++ 10 ∷ [])) phase literals) before'
      (subst (λ (n : ℕ). Names n (take at (text ++ 10 ∷ [])) reader.phase literals) same h.names));
  begins = begins';
  line_is = is;
  text_is = line_stands text at end 10 after bound last;
}

-- a line begins at the front, and after an LF
pub line_begins : (text : List ℕ) (at : ℕ) → (at ≡ 0) ⊎ ((0 < at) × (slice_get text (at - 1) ≡ Some 10)) → at ≤ length text
    → BeginsLine (take at (text ++ 10 ∷ []))
line_begins text at (inl e) bound = inl (ap (λ (n : ℕ). take n (text ++ 10 ∷ [])) e)
line_begins text at (inr (some, is)) bound = inr (take (at - 1) text, whole)
  where
    whole : take at (text ++ 10 ∷ []) ≡ take (at - 1) text ++ 10 ∷ []
    whole =
        take-append-le at text (10 ∷ []) bound
        ∙ (let e : at ≡ (at - 1) + 1 = omega (arith, some) in ap (λ (n : ℕ). take n text) e)
        ∙ take_more text (at - 1) 0 (omega (arith, some, bound))
        ∙ ap (λ (x : ℕ). take (at - 1) text ++ x ∷ []) (get_or_from_slice_get text (at - 1) 10 0 is)

-- and nowhere else
pub line_begun : (text : List ℕ) (at : ℕ) → 0 < at → at ≤ length text → BeginsLine (take at (text ++ 10 ∷ []))
    → get_or text (at - 1) 0 ≡ 10
line_begun text at some bound begins = elim begins [
  | inl none ↦ absurd (omega (arith, some, long, ap length none))
  | inr (front, is) ↦
      let size : length front + 1 ≡ at = omega (arith, sym (length_push front 10), ap length is, long) in
      let place : at - 1 ≡ length front + 0 = omega (arith, size) in
      sym (get_or_append_left text (10 ∷ []) 0 (at - 1) (omega (arith, some, bound)))
      ∙ sym (get_or-take at (text ++ 10 ∷ []) (at - 1) 0 (omega (arith, some)))
      ∙ ap (λ (xs : List ℕ). get_or xs (at - 1) 0) is
      ∙ ap (λ (n : ℕ). get_or (front ++ 10 ∷ []) n 0) place
      ∙ get_or-append-add front (10 ∷ []) 0 0
]
  where
    long : length (take at (text ++ 10 ∷ [])) ≡ at
    long = ap length (take-append-le at text (10 ∷ []) bound) ∙ length-take-le at text bound

-- the byte at a place, where the LF counts that ends the last line
pub byte_there : (text : List ℕ) (at : ℕ) → at ≤ length text
    → slice_get (text ++ 10 ∷ []) at ≡ Some (get_or (text ++ 10 ∷ []) at 0)
byte_there text at le = slice_get-get_or (text ++ 10 ∷ []) at 0 (omega (arith, length_push text 10, le))

-- a space at a place
pub space_on : (reader : Reader) (text : List ℕ) (at end : ℕ) → end ≡ at → end ≤ length text
    → IsSpace (get_or (text ++ 10 ∷ []) end 0) → ReadUpTo reader text at → ReadUpTo reader text (end + 1)
space_on reader text at end e le space before =
    let b : ℕ = get_or (text ++ 10 ∷ []) end 0 in
    let none : 0 ≡ end - at = omega (arith, e) in
    read_on text at end b (omega (arith, e)) le (byte_there text end le) reader reader before (λ literals h. (
      literals,
      subst (λ (n : ℕ). HasRead reader (take at (text ++ 10 ∷ []) ++ (take n (drop at text) ++ b ∷ [])) literals)
          none (space_read reader b space (take at (text ++ 10 ∷ [])) literals h),
    ))

-- a fault of memory alone
pub only_memory : {A : Type 0} (r : Result A ModelFault) (fault : ModelFault) → r ≡ Err fault
    → IfErr r (λ f. f ≡ Memory) → fault ≡ Memory
only_memory (Ok x) fault is h = cc
only_memory (Err f) fault is h = let e : f ≡ fault = cc in sym e ∙ h
