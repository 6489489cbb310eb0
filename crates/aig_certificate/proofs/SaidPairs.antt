-- What the pairs of a mapping say of each variable, in a table.
use Rattle.std.proofs.Common.{◌≡◌, ◌≢◌, ◌⊎◌, inl, inr, ℕ, ◌+◌, ◌<◌, ◌≤◌, List, [], ◌∷◌, ◌++◌, length, set}
use Rattle.std.proofs.Common.{get_or, take, drop, true, false, is_some, All, Option, Some, None, option_map, slice_get}
use Rattle.std.proofs.Common.{refl, sym, ap, subst, ◌∙◌, arith}
use Rattle.std.proofs.lemmas.Bool.{false≢true, true≢false}
use Rattle.std.proofs.lemmas.List.{length-set, length-take-le, take_all, take_more}
use Rattle.std.proofs.lemmas.List.Elements.{All-get_or, All-weaker, Contains-append_left, Contains-push, Contains-push_cases}
use Rattle.std.proofs.lemmas.List.{map-append, take-append-drop}
use Rattle.std.proofs.lemmas.Option.{none-some, same_Some, slice_get-get_or, slice_get-map}
use Rattle.std.proofs.lemmas.Option.{slice_get_within}
use Rattle.aig_parts.specs.declared.latch.Latch.{Latch}
use Rattle.aig_parts.specs.declared.raw.Raw.{Raw}
use Rattle.aig_parts.specs.declared.symbols.Kind.{Kind}
use Rattle.aig_parts.specs.declared.symbols.Kind.TheVariants.{Input, Latch as Latches, Output, Bad, Constraint, Justice}
use Rattle.aig_parts.specs.declared.symbols.Kind.TheVariants.{Fairness}
use Rattle.aig_parts.specs.Literal.{variable, with_sign}
use Rattle.aig_parts.specs.SymbolPlaces.{Key}
use Rattle.aig_base.specs.Sound.{IsSound, StandsTwice}
use Rattle.aig_base.proofs.circuits.Circuits.{input_in_range, latch_in_range}
use Rattle.aig_base.proofs.circuits.Gates.{defined_in_range}
use Rattle.aig_base.proofs.lists.Gets.{Contains-from_get, get_from_Contains, slice_get-set_other, slice_get-set_same}
use Rattle.aig_base.proofs.lists.Gets.{slice_get_left, slice_get_push}
use Rattle.aig_base.proofs.lists.Positions.{unmap, unmap_option}
use Rattle.aig_certificate.specs.declared.mapping.Pair.{Pair}
use Rattle.aig_certificate.specs.declared.sharing.Sharing.{Sharing as Shares}
use Rattle.aig_certificate.specs.declared.sharing.Sharing.TheVariants as by
use Rattle.aig_certificate.specs.Mapping.{IsPair}
use Rattle.aig_certificate.specs.Shared as spec
use Rattle.aig_certificate.specs.Shared.{IsMeaning, IsSharing, IsWrongMapping, Sharing}
use Rattle.aig_certificate.specs.Shared.{literal_at}
use Rattle.aig_certificate.specs.state.Marks.{IsNamedLiteral}
use Rattle.aig_certificate.specs.state.Said.{AreSaid, HasTable, IsSaid, own_variables, sharing_of}
use Rattle.aig_certificate.proofs.MappingLines.{entry_defined}
use Rattle.aig_certificate.proofs.Marked.{named_meaning}

-- ---- the table

own_more : (pairs : List Pair) (pair : Pair) → own_variables (pairs ++ pair ∷ []) ≡ own_variables pairs ++ variable pair.certificate ∷ []
own_more pairs pair = map-append (λ (p : Pair). variable p.certificate) pairs (pair ∷ [])

-- the pair says nothing of another variable
others_stay : (pairs : List Pair) (pair : Pair) (v : ℕ) (m : Option ℕ) → variable pair.certificate ≢ v → IsSaid pairs v m
    → IsSaid (pairs ++ pair ∷ []) v m
others_stay pairs pair v (Some l) other (p, here, is, sign) = (p, Contains-append_left pairs (pair ∷ []) p here, is, sign)
others_stay pairs pair v None other h = λ p here is. elim (Contains-push_cases pairs pair p here) [
  | inl before ↦ h p before is
  | inr same ↦ other (ap (λ (q : Pair). variable q.certificate) same ∙ is)
]

same_or_not : (a b : ℕ) → (a ≡ b) ⊎ (a ≡ b → ⊥)
same_or_not a b = grind arith

-- one more pair is entered
pub said_more : (pairs : List Pair) (pair : Pair) (old : List (Option ℕ)) (l : ℕ) → variable pair.certificate < length old
    → l ≡ with_sign pair.certificate pair.model → AreSaid pairs old
    → AreSaid (pairs ++ pair ∷ []) (set old (variable pair.certificate) (Some l))
said_more pairs pair old l listed is h v m at = elim (same_or_not v (variable pair.certificate)) [
  | inl e ↦
      (let w : ℕ = variable pair.certificate in
      let here : slice_get (set old w (Some l)) w ≡ Some m = ap (slice_get (set old w (Some l))) (sym e) ∙ at in
      let means : Some l ≡ m = same_Some (Some l) m (sym (slice_get-set_same old w (Some l) listed) ∙ here) in
      subst (IsSaid (pairs ++ pair ∷ []) v) means (pair, Contains-push pairs pair, sym e, sym is))
  | inr other ↦
      others_stay pairs pair v m (λ e. other (sym e))
      (h v m (sym (slice_get-set_other old (variable pair.certificate) v (Some l) other) ∙ at))
]

-- the pair is the first of its variable
pub once_more : (pairs : List Pair) (pair : Pair) (old : List (Option ℕ)) → AreSaid pairs old
    → slice_get old (variable pair.certificate) ≡ Some None → ((u : ℕ) → StandsTwice (own_variables pairs) u → ⊥)
    → (u : ℕ) → StandsTwice (own_variables (pairs ++ pair ∷ [])) u → ⊥
once_more pairs pair old said free once u (i, j, lt, hi, hj) =
    let vs : List ℕ = own_variables pairs in
    let w : ℕ = variable pair.certificate in
    let here : (k : ℕ) → slice_get (own_variables (pairs ++ pair ∷ [])) k ≡ Some u → slice_get (vs ++ w ∷ []) k ≡ Some u =
    λ k e. ap (λ (xs : List ℕ). slice_get xs k) (sym (own_more pairs pair)) ∙ e in
    elim (slice_get_push vs w u i (here i hi)) [
      | inl first ↦ elim (slice_get_push vs w u j (here j hj)) [
        | inl second ↦ once u (i, j, lt, first, second)
        | inr (last, same) ↦
            (let (p, k, at, is) = unmap (λ (q : Pair). variable q.certificate) pairs u (Contains-from_get vs i u first) in
            said w None free p (Contains-from_get pairs k p at) (is ∙ sym same))
      ]
      | inr (last, same) ↦ elim (slice_get_push vs w u j (here j hj)) [
        | inl second ↦ absurd (omega (arith, lt, last, slice_get_within vs j u second))
        | inr (later, again) ↦ absurd (omega (arith, lt, last, later))
      ]
    ]

-- two pairs are of one variable
pub said_twice : (pairs : List Pair) (i : ℕ) (pair : Pair) (old : List (Option ℕ)) (l : ℕ) → slice_get pairs i ≡ Some pair
    → AreSaid (take i pairs) old → slice_get old (variable pair.certificate) ≡ Some (Some l)
    → (v : ℕ) × StandsTwice (own_variables pairs) v
said_twice pairs i pair old l at said taken =
    let w : ℕ = variable pair.certificate in
    let (p, here, is, sign) = said w (Some l) taken in
    let (k, front) = get_from_Contains (take i pairs) p here in
    let within : i < length pairs = slice_get_within pairs i pair at in
    let below : k < i =
    subst (λ n. k < n) (length-take-le i pairs (omega (arith, within))) (slice_get_within (take i pairs) k p front) in
    let whole : slice_get pairs k ≡ Some p =
    ap (λ (ps : List Pair). slice_get ps k) (sym (take-append-drop i pairs))
    ∙ slice_get_left (take i pairs) (drop i pairs) k p front in
    let f = λ (q : Pair). variable q.certificate in (
      w,
      (
        k,
        i,
        below,
        slice_get-map f pairs k ∙ ap (option_map f) whole ∙ ap Some is,
        slice_get-map f pairs i ∙ ap (option_map f) at,
      ),
    )

-- ---- meanings

-- a literal of an input or a latch is in range
pub literal_in_range : (raw : Raw) → IsSound raw → (kind : Kind) (p l : ℕ) → literal_at raw kind p ≡ Some l
    → variable l ≤ raw.max_var
literal_in_range raw sound Input p l at = input_in_range raw sound p l at
literal_in_range raw sound Latches p l at =
    let (x, here, is) = unmap_option (λ (y : Latch). y.lit) (slice_get raw.latches p) l at in
    subst (λ n. variable n ≤ raw.max_var) is (latch_in_range raw sound p x here)
literal_in_range raw sound Output p l at = absurd (none-some l at)
literal_in_range raw sound Bad p l at = absurd (none-some l at)
literal_in_range raw sound Constraint p l at = absurd (none-some l at)
literal_in_range raw sound Justice p l at = absurd (none-some l at)
literal_in_range raw sound Fairness p l at = absurd (none-some l at)

module _ (model certificate : Raw) where
  said_meaning : (ps : List Pair) (kind : Kind) (p own : ℕ) (m : Option ℕ) → literal_at certificate kind p ≡ Some own
      → IsSaid ps (variable own) m → IsMeaning model certificate (spec.pairs ps) (kind, p) m
  said_meaning ps kind p own (Some l) at said = (own, at, said)
  said_meaning ps kind p own None at said = λ l (other, there, (pair, here, is, sign)).
      said pair here (is ∙ ap variable (same_Some other own (sym there ∙ at)))

  -- by the pairs of a mapping
  pub paired_meaning : (ps : List Pair) (table : List (Option ℕ)) → AreSaid ps table → (kind : Kind) (p : ℕ) (m : Option ℕ)
      → ((own : ℕ) → literal_at certificate kind p ≡ Some own → slice_get table (variable own) ≡ Some m)
      → (literal_at certificate kind p ≡ None → m ≡ None) → IsMeaning model certificate (spec.pairs ps) (kind, p) m
  paired_meaning ps table said kind p m some none = at (literal_at certificate kind p) refl
    where
      at : (o : Option ℕ) → literal_at certificate kind p ≡ o → IsMeaning model certificate (spec.pairs ps) (kind, p) m
      at (Some own) e = said_meaning ps kind p own m e (said (variable own) m (some own e))
      at None e =
          subst (IsMeaning model certificate (spec.pairs ps) (kind, p)) (sym (none e)) (λ l (own, there, paired).
          none-some own (sym e ∙ there))

  -- a mapping that is read is not wrong
  pub right_mapping : (sharing : Sharing) → IsSharing model certificate sharing → IsWrongMapping model certificate → ⊥
  right_mapping spec.symbols named (free, some, never) = free named
  right_mapping (spec.pairs ps) (quiet, mapping, are) (free, some, never) = never ps mapping are
  right_mapping spec.positions (quiet, none) (free, some, never) = none some

-- ---- a sharing

module _ (model certificate : Raw) where
  -- what a sharing by symbols says
  pub by_symbols : (sharing : Shares) → sharing ≡ by.Symbols → (key : Key) (m : Option ℕ) → IsNamedLiteral certificate key m
      → IsMeaning model certificate (sharing_of sharing) key m
  by_symbols sharing is key m h =
      subst (λ (s : Shares). IsMeaning model certificate (sharing_of s) key m) (sym is) (named_meaning model certificate key m h)

  -- what one by pairs says, by its table
  pub by_pairs : (sharing : Shares) (ps : List Pair) (table : List (Option ℕ)) → sharing ≡ by.Pairs ps table
      → HasTable certificate sharing → (kind : Kind) (p : ℕ) (m : Option ℕ)
      → ((own : ℕ) → literal_at certificate kind p ≡ Some own → slice_get table (variable own) ≡ Some m)
      → (literal_at certificate kind p ≡ None → m ≡ None)
      → IsMeaning model certificate (sharing_of sharing) (kind, p) m
  by_pairs sharing ps table is has kind p m some none =
      subst (λ (s : Shares). IsMeaning model certificate (sharing_of s) (kind, p) m) (sym is)
      (paired_meaning model certificate ps table (subst (HasTable certificate) is has).1 kind p m some none)

-- each pair's variable is in the table
pub pairs_listed : (model certificate : Raw) → IsSound certificate → (pairs : List Pair)
    → All (IsPair model certificate) pairs → (n : ℕ) → n ≡ certificate.max_var + 1
    → All (λ pair. variable pair.certificate < n) pairs
pairs_listed model certificate sound pairs each n is =
    All-weaker (IsPair model certificate) (λ pair. variable pair.certificate < n) (λ pair h. inside pair h) pairs each
  where
    inside : (pair : Pair) → IsPair model certificate pair → variable pair.certificate < n
    inside pair (entry, defined) =
        let least = defined_in_range certificate sound (variable pair.certificate)
        (entry_defined certificate pair.certificate entry) in
        omega (arith, least, is)

-- ---- the loop that enters pairs

-- the first i pairs are entered
pub record IsEntered (pairs : List Pair) (variables i : ℕ) (table : List (Option ℕ)) : Type 0 where
  pub size : length table ≡ variables
  pub said : AreSaid (take i pairs) table
  pub once : (v : ℕ) → StandsTwice (own_variables (take i pairs)) v → ⊥

read_at : (table : List (Option ℕ)) (w : ℕ) (o : Option ℕ) → w < length table → o ≡ get_or table w o → slice_get table w ≡ Some o
read_at table w o lt is = slice_get-get_or table w o lt ∙ ap Some (sym is)

no_value : (o : Option ℕ) → is_some o ≡ false → o ≡ None
no_value (Some l) e = absurd (true≢false e)
no_value None e = refl

a_value : (o : Option ℕ) → is_some o ≡ true → (l : ℕ) × (o ≡ Some l)
a_value (Some l) e = (l, refl)
a_value None e = absurd (false≢true e)

listed : (pairs : List Pair) (variables i : ℕ) (pair : Pair) (table : List (Option ℕ))
    → All (λ p. variable p.certificate < variables) pairs → i < length pairs → pair ≡ get_or pairs i pair
    → length table ≡ variables → variable pair.certificate < length table
listed pairs variables i pair table all lt at size =
    let here : variable pair.certificate < variables =
    subst (λ (p : Pair). variable p.certificate < variables) (sym at)
    (All-get_or (λ (p : Pair). variable p.certificate < variables) pairs i pair lt all) in
    omega (arith, here, size)

pub entered_more : (pairs : List Pair) (variables i : ℕ) (pair : Pair) (old new : List (Option ℕ)) (w l : ℕ) (o : Option ℕ)
    → All (λ p. variable p.certificate < variables) pairs → i < length pairs → pair ≡ get_or pairs i pair
    → w ≡ variable pair.certificate → o ≡ get_or old w o → is_some o ≡ false → l ≡ with_sign pair.certificate pair.model → new ≡ set old w (Some l)
    → IsEntered pairs variables i old → IsEntered pairs variables (i + 1) new
entered_more pairs variables i pair old new w l o all lt at w_is o_is free l_is new_is v =
    let u : ℕ = variable pair.certificate in
    let before : List Pair = take i pairs in
    let grown : take (i + 1) pairs ≡ before ++ pair ∷ [] =
    take_more pairs i pair lt ∙ ap (λ (p : Pair). before ++ p ∷ []) (sym at) in
    let made : new ≡ set old u (Some l) = new_is ∙ ap (λ (n : ℕ). set old n (Some l)) w_is in
    let inside : u < length old = listed pairs variables i pair old all lt at v.size in
    let none : slice_get old u ≡ Some None =
    ap (slice_get old) (sym w_is) ∙ read_at old w o (subst (λ n. n < length old) (sym w_is) inside) o_is ∙ ap Some (no_value o free) in
    record {
      size = ap length made ∙ length-set old u (Some l) ∙ v.size;
      said = subst (λ (ps : List Pair). AreSaid ps new) (sym grown)
          (subst (AreSaid (before ++ pair ∷ [])) (sym made) (said_more before pair old l inside l_is v.said));
      once = subst (λ (ps : List Pair). (n : ℕ) → StandsTwice (own_variables ps) n → ⊥) (sym grown)
          (once_more before pair old v.said none v.once);
    }

pub entered_twice : (pairs : List Pair) (variables i : ℕ) (pair : Pair) (old : List (Option ℕ)) (w : ℕ) (o : Option ℕ)
    → All (λ p. variable p.certificate < variables) pairs → i < length pairs → pair ≡ get_or pairs i pair
    → w ≡ variable pair.certificate → o ≡ get_or old w o → is_some o ≡ true → IsEntered pairs variables i old → (v : ℕ) × StandsTwice (own_variables pairs) v
entered_twice pairs variables i pair old w o all lt at w_is o_is taken v =
    let (l, is) = a_value o taken in
    let inside : w < length old =
    subst (λ n. n < length old) (sym w_is) (listed pairs variables i pair old all lt at v.size) in
    said_twice pairs i pair old l (slice_get-get_or pairs i pair lt ∙ ap Some (sym at)) v.said
    (ap (slice_get old) (sym w_is) ∙ read_at old w o inside o_is ∙ ap Some is)

-- all pairs, once the loop has ended
pub record AreEntered (pairs : List Pair) (variables : ℕ) (table : List (Option ℕ)) : Type 0 where
  pub size : length table ≡ variables
  pub said : AreSaid pairs table
  pub once : (v : ℕ) → StandsTwice (own_variables pairs) v → ⊥

pub entered_all : (pairs : List Pair) (variables i : ℕ) (table : List (Option ℕ)) → length pairs ≤ i
    → IsEntered pairs variables i table → AreEntered pairs variables table
entered_all pairs variables i table le v =
    let whole : take i pairs ≡ pairs = take_all i pairs le in
    record {
      size = v.size;
      said = subst (λ (ps : List Pair). AreSaid ps table) whole v.said;
      once = subst (λ (ps : List Pair). (n : ℕ) → StandsTwice (own_variables ps) n → ⊥) whole v.once;
    }

-- what the table has for the variable of an input or a latch
pub said_here : (table : List (Option ℕ)) (own other w : ℕ) (x : Option ℕ) → w ≡ variable other → Some own ≡ Some other
    → w < length table → x ≡ get_or table w x → slice_get table (variable own) ≡ Some x
said_here table own other w x is same lt at =
    ap (slice_get table) (ap variable (same_Some own other same) ∙ sym is) ∙ read_at table w x lt at

-- the table has a value for the variable of an input or a latch
pub in_table : (raw : Raw) → IsSound raw → (kind : Kind) (p own w n : ℕ) → literal_at raw kind p ≡ Some own → w ≡ variable own
    → n ≡ raw.max_var + 1 → w < n
in_table raw sound kind p own w n at is size = let least = literal_in_range raw sound kind p own at in omega (arith, least, is, size)
