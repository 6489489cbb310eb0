-- The lines of a mapping.
use Rattle.std.proofs.Common.{◌≡◌, ◌≢◌, ℕ, suc, ◌+◌, ◌-◌, ◌^◌, ◌<◌, ◌≤◌, ◌==◌, true, false, List, [], ◌∷◌, ◌++◌}
use Rattle.std.proofs.Common.{length, map, codes, decimal, get_or, take, drop, eqb, All, Contains, Option, Some, None, IfSome, IfNone}
use Rattle.std.proofs.Common.{◌↔◌, IsTrue, slice_get, option_map}
use Rattle.std.proofs.Common.{refl, sym, ap, ap₂, subst, ◌∙◌, arith, append_assoc, length-append}
use Rattle.std.specs.List.{slice_split, starts_with}
use Rattle.std.proofs.lemmas.Bool.{eq-eqb, false≢true, ne_eqb, true≢false}
use Rattle.std.proofs.lemmas.Fmt.{decimal_injective}
use Rattle.std.proofs.lemmas.List.{append_cancel_left, drop_more, length-drop, map-append, take-append-drop, take_all}
use Rattle.std.proofs.lemmas.List.Elements.{All-contains, All-head, All-tail, All-weaker, Contains-append_left}
use Rattle.std.proofs.lemmas.List.Splits.{slice_split_at, slice_split_none}
use Rattle.std.proofs.lemmas.Option.{slice_get-map, slice_get_within}
use Rattle.aig_bytes.proofs.Decimals.{IsDigit, decimal_lacks}
use Rattle.aig_parts.specs.declared.gate.Gate.{Gate}
use Rattle.aig_parts.specs.declared.latch.Latch.{Latch}
use Rattle.aig_parts.specs.declared.raw.Raw.{Raw}
use Rattle.aig_parts.specs.Formed.{limit}
use Rattle.aig_parts.specs.Literal.{variable}
use Rattle.aig_base.specs.declared.circuit.definition.Definition.{Definition}
use Rattle.aig_base.specs.declared.circuit.definition.Definition.TheVariants as definition
use Rattle.aig_base.specs.Definition.{Defines, IsFree}
use Rattle.aig_base.specs.Sections.{IsDefined, definitions}
use Rattle.aig_base.specs.Circuit.{IsCircuit}
use Rattle.aig_base.specs.Sound.{IsSound}
use Rattle.aig_base.proofs.circuits.Gates.{defined_in_range}
use Rattle.aig_base.proofs.lists.Gets.{Contains-from_get, slice_get_left, slice_get_right}
use Rattle.aig_base.proofs.lists.Joined.{All-right}
use Rattle.aig_base.proofs.lists.Positions.{unmap}
use Rattle.aig_certificate.specs.declared.mapping.Pair.{Pair}
use Rattle.aig_certificate.specs.Mapping.{IsOfEntry, IsPair, from_mapping, lines, pair_line}
use Rattle.aig_certificate.specs.state.Lines.{AreLinesOf, IsCut, is_source, left, lines_of}

-- ---- cuts

is_at : (byte : ℕ) → (byte == byte) ≡ true
is_at byte = eq-eqb byte byte refl

-- the lines of a text are the one before the cut, and those behind it
pub cut_lines : (text front : List ℕ) (rest : Option (List ℕ)) → IsCut 10 text front rest
    → lines text ≡ front ∷ lines_of rest
cut_lines text front (Some rest) (is, none) = ap lines is ∙ slice_split_at (λ b. b == 10) front 10 rest none (is_at 10)
cut_lines text front None (is, none) = ap lines is ∙ slice_split_none (λ b. b == 10) front none

-- a text is cut at one place
pub same_cut : (byte : ℕ) (front rest front' rest' : List ℕ) → All (λ b. (b == byte) ≡ false) front
    → All (λ b. (b == byte) ≡ false) front' → front ++ byte ∷ rest ≡ front' ++ byte ∷ rest'
    → (front ≡ front') × (rest ≡ rest')
same_cut byte front rest front' rest' none none' e =
    let p = λ (b : ℕ). b == byte in
    let parts : front ∷ slice_split p rest ≡ front' ∷ slice_split p rest' =
    sym (slice_split_at p front byte rest none (is_at byte)) ∙ ap (slice_split p) e
    ∙ slice_split_at p front' byte rest' none' (is_at byte) in
    let first : front ≡ front' = cc in
    let behind : byte ∷ rest ≡ byte ∷ rest' =
    append_cancel_left front (byte ∷ rest) (byte ∷ rest') (e ∙ ap (λ (xs : List ℕ). xs ++ byte ∷ rest') (sym first)) in
    let second : rest ≡ rest' = cc in
    (first, second)

-- a text without the byte is not cut
pub no_cut : (byte : ℕ) (text front rest : List ℕ) → All (λ b. (b == byte) ≡ false) text → text ≡ front ++ byte ∷ rest → ⊥
no_cut byte text front rest none e =
    let P : ℕ → Type 0 = λ b. (b == byte) ≡ false in
    let all : All P (front ++ byte ∷ rest) = subst (All P) e none in
    true≢false (sym (is_at byte) ∙ All-head P byte rest (All-right P front (byte ∷ rest) all))

-- ---- the first line of a mapping

pub mapping_here : (line : List ℕ) (more : List (List ℕ)) → starts_with eqb line (codes "MAPPING") ≡ true
    → from_mapping (line ∷ more) ≡ line ∷ more
unfolding from_mapping
mapping_here line more e = rw e refl

pub mapping_later : (line : List ℕ) (more : List (List ℕ)) → starts_with eqb line (codes "MAPPING") ≡ false
    → from_mapping (line ∷ more) ≡ from_mapping more
unfolding from_mapping
mapping_later line more e = rw e refl

pub no_mapping : from_mapping [] ≡ []
unfolding from_mapping
no_mapping = refl

-- ---- pairs

no_digit : IsDigit 32 → ⊥
no_digit (le, ge) = absurd (omega (arith, le))

-- a number has no blank
pub no_blank : (n : ℕ) → All (λ b. (b == 32) ≡ false) (decimal n)
no_blank n =
    All-weaker (λ b. b ≢ 32) (λ b. (b == 32) ≡ false) (λ b other. ne_eqb b 32 other) (decimal n) (decimal_lacks 32 no_digit n)

Contains-later : {A : Type 0} (x : A) (xs : List A) (y : A) → Contains xs y → Contains (x ∷ xs) y
Contains-later x xs y (k, lt, is) = (suc k, omega (arith, lt), is)

-- the literals of inputs and latches
sources : Raw → List ℕ
sources raw = raw.inputs ++ map (λ (x : Latch). x.lit) raw.latches

lefts : Raw → List ℕ
lefts raw = map (λ (g : Gate). g.lhs) raw.gates

among : (raw : Raw) (l : ℕ) → IsOfEntry raw l → Contains (map variable (definitions raw)) (variable l)
unfolding sources lefts
among raw l h =
    subst (λ (vs : List ℕ). Contains vs (variable l)) (sym (map-append variable (sources raw) (lefts raw)))
    (Contains-append_left (map variable (sources raw)) (map variable (lefts raw)) (variable l) h)

source_at : (raw : Raw) (l k m : ℕ) → slice_get (raw.inputs ++ map (λ (x : Latch). x.lit) raw.latches) k ≡ Some m
    → variable m ≡ variable l → IsOfEntry raw l
unfolding sources
source_at raw l k m at is =
    subst (Contains (map variable (sources raw))) is
    (Contains-from_get (map variable (sources raw)) k (variable m) (slice_get-map variable (sources raw) k ∙ ap (option_map variable) at))

-- a gate has another variable
gate_apart : (raw : Raw) → IsSound raw → (l q : ℕ) (g : Gate) → slice_get raw.gates q ≡ Some g → variable g.lhs ≡ variable l
    → IsOfEntry raw l → ⊥
unfolding sources lefts
gate_apart raw sound l q g at is h =
    let (m, i, here, same) = unmap variable (sources raw) (variable l) h in
    let left : slice_get (definitions raw) (length (sources raw) + q) ≡ Some g.lhs =
    slice_get_right (sources raw) (lefts raw) q ∙ slice_get-map (λ (x : Gate). x.lhs) raw.gates q
    ∙ ap (option_map (λ (x : Gate). x.lhs)) at in
    let first : slice_get (map variable (definitions raw)) i ≡ Some (variable l) =
    slice_get-map variable (definitions raw) i
    ∙ ap (option_map variable) (slice_get_left (sources raw) (lefts raw) i m here) ∙ ap Some same in
    let second : slice_get (map variable (definitions raw)) (length (sources raw) + q) ≡ Some (variable l) =
    slice_get-map variable (definitions raw) (length (sources raw) + q) ∙ ap (option_map variable) left ∙ ap Some is in
    let before : i < length (sources raw) = slice_get_within (sources raw) i m here in
    sound.once (variable l) (i, length (sources raw) + q, omega (arith, before), first, second)

-- an input or a latch is defined
pub entry_defined : (raw : Raw) (l : ℕ) → IsOfEntry raw l → IsDefined raw (variable l)
entry_defined raw l h = Contains-later 0 (map variable (definitions raw)) (variable l) (among raw l h)

-- literals of a circuit are small
pub few_literals : (raw : Raw) → IsSound raw → raw.max_var ≤ limit → (l : ℕ) → IsDefined raw (variable l) → l < 2 ^ 32
few_literals raw sound few l defined =
    let least = defined_in_range raw sound (variable l) defined in omega (arith, least, few)

-- what is known of two circuits
pub record Known (model certificate : Raw) : Type 0 where
  pub model_sound : IsSound model
  pub model_few : model.max_var ≤ limit
  pub certificate_sound : IsSound certificate
  pub certificate_few : certificate.max_var ≤ limit

pub known_of : (model certificate : Raw) → IsCircuit model → IsCircuit certificate → Known model certificate
known_of model certificate m c = record {
  model_sound = m.sound;
  model_few = m.formed.counts.max_var;
  certificate_sound = c.sound;
  certificate_few = c.formed.counts.max_var;
}

module _ (model certificate : Raw) (known : Known model certificate) where
  pub few_own : (pair : Pair) → IsPair model certificate pair → pair.certificate < 2 ^ 32
  few_own pair (entry, defined) =
      few_literals certificate known.certificate_sound known.certificate_few pair.certificate
      (entry_defined certificate pair.certificate entry)

  pub few_model : (pair : Pair) → IsPair model certificate pair → pair.model < 2 ^ 32
  few_model pair (entry, defined) = few_literals model known.model_sound known.model_few pair.model defined

  -- two pairs with one line are one
  pub same_pair : (p q : Pair) → IsPair model certificate p → IsPair model certificate q → pair_line p ≡ pair_line q → p ≡ q
  same_pair p q hp hq e =
      let (first, second) = same_cut 32 (decimal p.certificate) (decimal p.model) (decimal q.certificate) (decimal q.model)
      (no_blank p.certificate) (no_blank q.certificate) e in
      let a : p.certificate ≡ q.certificate =
      decimal_injective p.certificate q.certificate (omega (arith, few_own p hp)) (omega (arith, few_own q hq)) first in
      let b : p.model ≡ q.model =
      decimal_injective p.model q.model (omega (arith, few_model p hp)) (omega (arith, few_model q hq)) second in
      ap₂ (λ (x y : ℕ). let pair : Pair = record { certificate = x; model = y } in pair) a b

  -- as many pairs with the same lines are the same
  pub same_pairs : (ps qs : List Pair) (xs ys : List (List ℕ)) → map pair_line ps ++ xs ≡ map pair_line qs ++ ys
      → length ps ≡ length qs → All (IsPair model certificate) ps → All (IsPair model certificate) qs → ps ≡ qs
  same_pairs [] [] xs ys e size hp hq = refl
  same_pairs [] (q ∷ qs) xs ys e size hp hq = absurd (omega (arith, size))
  same_pairs (p ∷ ps) [] xs ys e size hp hq = absurd (omega (arith, size))
  same_pairs (p ∷ ps) (q ∷ qs) xs ys e size hp hq =
      let P : Pair → Type 0 = IsPair model certificate in
      let line : pair_line p ≡ pair_line q = cc in
      let more : map pair_line ps ++ xs ≡ map pair_line qs ++ ys = cc in
      let first : p ≡ q = same_pair p q (All-head P p ps hp) (All-head P q qs hq) line in
      let rest : ps ≡ qs = same_pairs ps qs xs ys more (omega (arith, size)) (All-tail P p ps hp) (All-tail P q qs hq) in
      ap₂ (λ (x : Pair) (rs : List Pair). x ∷ rs) first rest

-- one more pair is read
pub more_lines : (given : List (List ℕ)) (pairs : List Pair) (pair : Pair) (left behind : List (List ℕ))
    → given ≡ map pair_line pairs ++ left → left ≡ pair_line pair ∷ behind
    → given ≡ map pair_line (pairs ++ pair ∷ []) ++ behind
more_lines given pairs pair left behind is next =
    is ∙ ap (λ (xs : List (List ℕ)). map pair_line pairs ++ xs) next
    ∙ sym (append_assoc (map pair_line pairs) (pair_line pair ∷ []) behind)
    ∙ ap (λ (xs : List (List ℕ)). xs ++ behind) (sym (map-append pair_line pairs (pair ∷ [])))

-- where there are more pairs than were read, the next line is one
pub record Next (ps : List Pair) (left : List (List ℕ)) : Type 0 where
  pub pair : Pair
  pub among : Contains ps pair
  pub more : List (List ℕ)
  pub is : left ≡ pair_line pair ∷ more

pub next_line : (pairs ps : List Pair) (left after : List (List ℕ)) → map pair_line pairs ++ left ≡ map pair_line ps ++ after
    → length pairs < length ps → Next ps left
next_line pairs [] left after e lt = absurd (omega (arith, lt))
next_line [] (p ∷ ps) left after e lt = record {
  pair = p;
  among = (0, omega arith, refl);
  more = map pair_line ps ++ after;
  is = e;
}
next_line (q ∷ pairs) (p ∷ ps) left after e lt =
    let more : map pair_line pairs ++ left ≡ map pair_line ps ++ after = cc in
    let found = next_line pairs ps left after more (omega (arith, lt)) in
    record {
      pair = found.pair;
      among = Contains-later p ps found.pair found.among;
      more = found.more;
      is = found.is;
    }

-- ---- each line

-- a text is cut at a byte of it
pub cut_here : (byte : ℕ) (text : List ℕ) (i : ℕ) → i < length text → get_or text i 0 ≡ byte
    → All (λ b. (b == byte) ≡ false) (take i text)
    → IsCut byte text (take i text) (Some (take (length text - (i + 1)) (drop (i + 1) text)))
cut_here byte text i lt is none =
    let rest : take (length text - (i + 1)) (drop (i + 1) text) ≡ drop (i + 1) text =
    take_all (length text - (i + 1)) (drop (i + 1) text) (omega (arith, length-drop (i + 1) text)) in (
      sym (ap (λ (t : List ℕ). take i text ++ byte ∷ t) rest
          ∙ ap (λ (b : ℕ). take i text ++ b ∷ drop (i + 1) text) (sym is)
          ∙ ap (λ (t : List ℕ). take i text ++ t) (sym (drop_more text i 0 lt)) ∙ take-append-drop i text),
      none,
    )

-- a text without the byte is not cut
pub none_cut : (byte : ℕ) (text front first second : List ℕ) → IsCut byte text front None → text ≡ first ++ byte ∷ second → ⊥
none_cut byte text front first second (is, none) e =
    no_cut byte text first second (subst (All (λ b. (b == byte) ≡ false)) (sym is) none) e

-- less is left after a cut
pub less_left : (text front : List ℕ) (rest : Option (List ℕ)) → IsCut 10 text front rest → left rest < left (Some text)
less_left text front (Some r) (is, none) = omega (arith, ap length is, length-append front (10 ∷ r))
less_left text front None (is, none) = omega arith

module _ (model certificate : Raw) (known : Known model certificate) where
  words_are : (line first second : List ℕ) (pair : Pair) → IsCut 32 line first (Some second) → line ≡ pair_line pair
      → (first ≡ decimal pair.certificate) × (second ≡ decimal pair.model)
  words_are line first second pair (is, none) e =
      same_cut 32 first second (decimal pair.certificate) (decimal pair.model) none (no_blank pair.certificate) (sym is ∙ e)

  -- the first word is no literal of the certificate
  pub wrong_first : (line first second : List ℕ) → IsCut 32 line first (Some second)
      → ((l : ℕ) → IsDefined certificate (variable l) → first ≢ decimal l) → (pair : Pair) → IsPair model certificate pair
      → line ≡ pair_line pair → ⊥
  wrong_first line first second is never pair (entry, defined) e =
      never pair.certificate (entry_defined certificate pair.certificate entry) (words_are line first second pair is e).0

  -- the second word is no literal of the model
  pub wrong_second : (line first second : List ℕ) → IsCut 32 line first (Some second)
      → ((l : ℕ) → IsDefined model (variable l) → second ≢ decimal l) → (pair : Pair) → IsPair model certificate pair
      → line ≡ pair_line pair → ⊥
  wrong_second line first second is never pair (entry, defined) e =
      never pair.model defined (words_are line first second pair is e).1

  -- the first word is a literal of no input or latch
  pub wrong_entry : (line first second : List ℕ) (own : ℕ) → IsCut 32 line first (Some second) → first ≡ decimal own
      → IsDefined certificate (variable own) → (IsOfEntry certificate own → ⊥) → (pair : Pair)
      → IsPair model certificate pair → line ≡ pair_line pair → ⊥
  wrong_entry line first second own is spelled here other pair (entry, defined) e =
      let a = few_literals certificate known.certificate_sound known.certificate_few own here in
      let b = few_own model certificate known pair (entry, defined) in
      let same : pair.certificate ≡ own =
      decimal_injective pair.certificate own (omega (arith, b)) (omega (arith, a))
      (sym (words_are line first second pair is e).0 ∙ spelled) in
      other (subst (IsOfEntry certificate) same entry)

-- the line of a pair
pub right_line : (line first second : List ℕ) (a b : ℕ) → IsCut 32 line first (Some second) → first ≡ decimal a
    → second ≡ decimal b → line ≡ decimal a ++ 32 ∷ decimal b
right_line line first second a b (is, none) x y = is ∙ ap₂ (λ (f s : List ℕ). f ++ 32 ∷ s) x y

-- where the first line is that of no pair, the lines are not
pub no_next : (model certificate : Raw) (given : List (List ℕ)) (line : List ℕ) (rest : List (List ℕ)) → given ≡ line ∷ rest
    → ((pair : Pair) → IsPair model certificate pair → line ≢ pair_line pair) → (pair : Pair) (more : List (List ℕ))
    → IsPair model certificate pair → given ≡ pair_line pair ∷ more → ⊥
no_next model certificate given line rest is never pair more right e =
    let both : line ∷ rest ≡ pair_line pair ∷ more = sym is ∙ e in
    let same : line ≡ pair_line pair = cc in
    never pair right same

-- the lines that were read end, or the next one is that of no pair
pub wrong_lines : (model certificate : Raw) (given : List (List ℕ)) (pairs : List Pair) (behind : List (List ℕ)) (n : ℕ)
    → given ≡ map pair_line pairs ++ behind → length pairs < n
    → ((pair : Pair) (more : List (List ℕ)) → IsPair model certificate pair → behind ≢ pair_line pair ∷ more)
    → (ps : List Pair) → length ps ≡ n → All (IsPair model certificate) ps → AreLinesOf given ps → ⊥
wrong_lines model certificate given pairs behind n is lt never ps size each (after, lines) =
    let found = next_line pairs ps behind after (sym is ∙ lines) (omega (arith, lt, size)) in
    never found.pair found.more (All-contains (IsPair model certificate) ps found.pair each found.among) found.is

-- the lines of a text begin with the one that is cut off
pub cut_off : (whole : Option (List ℕ)) (text front : List ℕ) (rest : Option (List ℕ)) → whole ≡ Some text
    → IsCut 10 text front rest → lines_of whole ≡ front ∷ lines_of rest
cut_off whole text front rest is cut = ap lines_of is ∙ cut_lines text front rest cut

-- no text has no line
pub no_lines : (text : Option (List ℕ)) → text ≡ None → (line : List ℕ) (more : List (List ℕ)) → lines_of text ≡ line ∷ more → ⊥
no_lines text none line more e = let both : [] ≡ line ∷ more = sym (ap lines_of none) ∙ e in cc

-- ---- inputs and latches

-- what defines its variable says whether a literal is one of an input or a latch
pub entry_answer : (raw : Raw) → IsSound raw → (l v : ℕ) (d : Option Definition) → v ≡ variable l → IfSome d (Defines raw v)
    → IfNone d (IsFree raw v) → IsTrue (is_source d) ↔ IsOfEntry raw l
entry_answer raw sound l v (Some (definition.Input p)) e (m, at, is) none = (
  λ _. source_at raw l p m (slice_get_left raw.inputs (map (λ (x : Latch). x.lit) raw.latches) p m at) (is ∙ e),
  λ _. refl,
)
entry_answer raw sound l v (Some (definition.Latch p)) e (x, at, is) none = (
  λ _. source_at raw l (length raw.inputs + p) x.lit
      (slice_get_right raw.inputs (map (λ (y : Latch). y.lit) raw.latches) p
      ∙ slice_get-map (λ (y : Latch). y.lit) raw.latches p ∙ ap (option_map (λ (y : Latch). y.lit)) at)
      (is ∙ e),
  λ _. refl,
)
entry_answer raw sound l v (Some (definition.Gate q)) e (g, at, is) none = (
  λ h. absurd (false≢true h),
  λ h. absurd (gate_apart raw sound l q g at (is ∙ e) h),
)
entry_answer raw sound l v None e some free = (
  λ h. absurd (false≢true h),
  λ h. absurd (free (subst (Contains (map variable (definitions raw))) (sym e) (among raw l h))),
)
