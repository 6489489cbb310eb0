-- The table of literals.
use Rattle.std.proofs.Common.{◌≡◌, ◌≢◌, ◌⊎◌, inl, inr, ℕ, zero, suc, Bool, true, false, nat_lt, if◌then◌else◌, ◌+◌, ◌-◌}
use Rattle.std.proofs.Common.{◌%◌, ◌<◌, ◌≤◌, List, [], ◌∷◌, ◌++◌, length, map, drop, get_or, set, replicate, Option}
use Rattle.std.proofs.Common.{Some, None, slice_get, option_map, All}
use Rattle.std.proofs.Common.{refl, sym, ap, ap₂, subst, ◌∙◌, append_assoc, arith}
use Rattle.std.proofs.lemmas.Bool.{cases_lt}
use Rattle.std.proofs.lemmas.List.{append-nil, drop_more, drop_all, get_or-set_same, get_or-set_other, length-append}
use Rattle.std.proofs.lemmas.List.{length-map, length-replicate}
use Rattle.std.proofs.lemmas.List.Elements.{All-get_or, All-weaker, Contains-get_or}
use Rattle.std.proofs.lemmas.Option.{slice_get-map, slice_get-get_or, slice_get_within, get_or_from_slice_get}
use Rattle.std.proofs.lemmas.Option.{none-some, same_Some}
use Rattle.aig_parts.specs.declared.gate.Gate.{Gate}
use Rattle.aig_parts.specs.declared.latch.Latch.{Latch}
use Rattle.aig_parts.specs.declared.raw.Raw.{Raw}
use Rattle.aig_parts.specs.Literal.{negation, variable}
use Rattle.aig_base.specs.Renumbered.{evens_from}
use Rattle.aig_base.specs.RenumberingTable.{IsGateListed, IsInTable, IsLatchListed}
use Rattle.aig_base.specs.Sections.{definitions, uses}
use Rattle.aig_base.specs.Sound.{IsDefinition, IsInRange, IsReset, IsSound, StandsTwice}
use Rattle.aig_base.proofs.circuits.Circuits.{input_in_range, latch_in_range, gate_in_range, next_in_range}
use Rattle.aig_base.proofs.circuits.Circuits.{rhs0_in_range, rhs1_in_range, use_in_range, input_definition}
use Rattle.aig_base.proofs.circuits.Circuits.{latch_definition}
use Rattle.aig_base.proofs.circuits.EachUse.{each_use}
use Rattle.aig_base.proofs.lists.Gets.{All-at, All-by_get, slice_get_left, slice_get_right}
use Rattle.aig_base.proofs.lists.Joined.{All-left}
use Rattle.aig_certificate.specs.Shared.{AreMeanings, Meanings}
use Rattle.aig_certificate.specs.Strengthened.{IsTranslation, literals_after, own, own_literals, properties}
use Rattle.aig_certificate.specs.state.Table.{AreEntered, AreEnteredTo, HasLiterals, all_meanings, literal_by}
use Rattle.aig_certificate.specs.state.Table.{next_after, value_of, values_from}
use Rattle.aig_certificate.proofs.Extensions.{twice_negated}
use Rattle.aig_certificate.proofs.OwnEntries.{own-all, own-append, own-map}

-- ---- values

pub length-values : (v : ℕ) (ms : List (Option ℕ)) → length (values_from v ms) ≡ length ms
unfolding values_from
length-values v [] = refl
length-values v (m ∷ ms) = ap suc (length-values (next_after v m) ms)

-- the value of an entry that stands for a literal
value_at : (v : ℕ) (ms : List (Option ℕ)) (k l : ℕ) → slice_get ms k ≡ Some (Some l) → get_or (values_from v ms) k 0 ≡ l
unfolding values_from
value_at v [] k l at = absurd (none-some (Some l) at)
value_at v (m ∷ ms) zero l at = ap (value_of v) (same_Some m (Some l) at)
value_at v (m ∷ ms) (suc k) l at = value_at (next_after v m) ms k l at

-- the values of own entries are new literals in order
own_values : (f : ℕ → ℕ) (ms : List (Option ℕ)) (xs : List ℕ) (v : ℕ) → length ms ≡ length xs
    → ((k : ℕ) → k < length xs → f (get_or xs k 0) ≡ get_or (values_from v ms) k 0)
    → map f (own ms xs) ≡ evens_from v (length (own ms xs))
unfolding own values_from
own_values f [] xs v size h = refl
own_values f (m ∷ ms) [] v size h = absurd (omega arith)
own_values f (Some l ∷ ms) (x ∷ xs) v size h = own_values f ms xs v (omega arith) (λ k lt. h (suc k) (omega arith))
own_values f (None ∷ ms) (x ∷ xs) v size h =
    ap₂ (λ (a : ℕ) (ls : List ℕ). a ∷ ls) (h 0 (omega arith))
    (own_values f ms xs (v + 1) (omega arith) (λ k lt. h (suc k) (omega arith)))

-- ---- one more value

variable_at : (literals : List ℕ) (k : ℕ) → k < length literals
    → slice_get (map variable literals) k ≡ Some (variable (get_or literals k 0))
variable_at literals k lt = slice_get-map variable literals k ∙ ap (option_map variable) (slice_get-get_or literals k 0 lt)

pub enter_more : (table literals values : List ℕ) (i l v : ℕ) → ((u : ℕ) → StandsTwice (map variable literals) u → ⊥)
    → i < length literals → l ≡ get_or literals i 0 → v ≡ get_or values i 0 → variable l < length table
    → AreEnteredTo i table literals values → AreEnteredTo (i + 1) (set table (variable l) v) literals values
enter_more table literals values i l v once lt is at listed h k below = elim (cases_lt k i) [
  | inl before ↦
      (let here : slice_get (map variable literals) i ≡ Some (variable l) =
      variable_at literals i lt ∙ ap (λ x. Some (variable x)) (sym is) in
      let other : variable (get_or literals k 0) ≢ variable l =
      λ e. once (variable l) (k, i, before, variable_at literals k (omega arith) ∙ ap Some e, here) in
      get_or-set_other table (variable l) (variable (get_or literals k 0)) v 0 other ∙ h k before)
  | inr ge ↦
      (let same : k ≡ i = omega arith in
      let place : variable (get_or literals k 0) ≡ variable l = ap (λ n. variable (get_or literals n 0)) same ∙ ap variable (sym is) in
      ap (λ n. get_or (set table (variable l) v) n 0) place ∙ get_or-set_same table (variable l) v 0 listed ∙ at
      ∙ ap (λ n. get_or values n 0) (sym same))
]

pub constant_stays : (table : List ℕ) (l v : ℕ) → IsDefinition l → get_or (set table (variable l) v) 0 0 ≡ get_or table 0 0
constant_stays table l v (even, over) =
    let other : 0 ≢ variable l = λ e. omega (arith, even, over, e) in
    get_or-set_other table (variable l) 0 v 0 other

-- ---- literals by the table

pub by_even : (table : List ℕ) (l : ℕ) → l % 2 ≡ 0 → literal_by table l ≡ get_or table (variable l) 0
unfolding literal_by
by_even table l even = rw even refl

pub by_odd : (table : List ℕ) (l : ℕ) → l % 2 ≡ 1 → literal_by table l ≡ negation (get_or table (variable l) 0)
unfolding literal_by
by_odd table l odd = rw odd refl

parity : (n : ℕ) → (n % 2 ≡ 0) ⊎ (n % 2 ≡ 1)
parity n = grind arith

pub by_straight : (table : List ℕ) (l : ℕ) → (l % 2 ≡ 1 → ⊥) → literal_by table l ≡ get_or table (variable l) 0
by_straight table l never = elim (parity l) [ inl even ↦ by_even table l even | inr odd ↦ absurd (never odd) ]

by_negation : (table : List ℕ) (l : ℕ) → literal_by table (negation l) ≡ negation (literal_by table l)
by_negation table l = elim (parity l) [
  | inl even ↦
      (let e : negation l ≡ l + 1 = rw even refl in
      let odd : (l + 1) % 2 ≡ 1 = omega (arith, even) in
      let half : variable (l + 1) ≡ variable l = omega (arith, even) in
      ap (literal_by table) e ∙ by_odd table (l + 1) odd ∙ ap (λ n. negation (get_or table n 0)) half
      ∙ ap negation (sym (by_even table l even)))
  | inr odd ↦
      (let e : negation l ≡ l - 1 = rw odd refl in
      let even : (l - 1) % 2 ≡ 0 = omega (arith, odd) in
      let half : variable (l - 1) ≡ variable l = omega (arith, odd) in
      ap (literal_by table) e ∙ by_even table (l - 1) even ∙ ap (λ n. get_or table n 0) half
      ∙ sym (twice_negated (get_or table (variable l) 0)) ∙ ap negation (sym (by_odd table l odd)))
]

-- ---- the table of a certificate

pub length-meanings : (model certificate : Raw) (meanings : Meanings) → AreMeanings model certificate meanings
    → length (all_meanings meanings certificate) ≡ length (definitions certificate)
length-meanings model certificate meanings are =
    let lits : List ℕ = map (λ (x : Latch). x.lit) certificate.latches in
    let lefts : List ℕ = map (λ (g : Gate). g.lhs) certificate.gates in
    let none : Option ℕ = None in
    let gates : List (Option ℕ) = replicate (length certificate.gates) none in
    omega (
      arith,
      length-append (meanings.inputs ++ meanings.latches) gates,
      length-append meanings.inputs meanings.latches,
      length-append (certificate.inputs ++ lits) lefts,
      length-append certificate.inputs lits,
      length-map certificate.latches (λ (x : Latch). x.lit),
      length-map certificate.gates (λ (g : Gate). g.lhs),
      length-replicate (length certificate.gates) none,
      are.input_count,
      are.latch_count,
    )

pub has_definitions : (raw : Raw) → IsSound raw → (table : List ℕ) → length table ≡ raw.max_var + 1
    → All (IsInTable table) (definitions raw)
has_definitions raw sound table size =
    All-weaker (IsInRange raw) (IsInTable table) (λ l h. omega (arith, size, h)) (definitions raw)
    (All-left (IsInRange raw) (definitions raw) (uses raw) sound.in_range)

module _ (model certificate : Raw) (meanings : Meanings) (table : List ℕ) (sound : IsSound certificate)
    (are : AreMeanings model certificate meanings)
    (entered : AreEntered table (definitions certificate) (values_from (model.max_var + 1) (all_meanings meanings certificate)))
    (zero_is : get_or table 0 0 ≡ 0) where
  lits : List ℕ
  lits = map (λ (x : Latch). x.lit) certificate.latches

  lefts : List ℕ
  lefts = map (λ (g : Gate). g.lhs) certificate.gates

  gates_mean : List (Option ℕ)
  gates_mean = replicate (length certificate.gates) None

  -- a definition that stands for a literal is that literal
  shared_is : (k l m : ℕ) → slice_get (definitions certificate) k ≡ Some l
      → slice_get (all_meanings meanings certificate) k ≡ Some (Some m) → l % 2 ≡ 0 → literal_by table l ≡ m
  shared_is k l m at means even =
      let lt : k < length (definitions certificate) = slice_get_within (definitions certificate) k l at in
      let is : get_or (definitions certificate) k 0 ≡ l = get_or_from_slice_get (definitions certificate) k l 0 at in
      by_even table l even ∙ ap (λ d. get_or table (variable d) 0) (sym is) ∙ entered k lt
      ∙ value_at (model.max_var + 1) (all_meanings meanings certificate) k m means

  size : length (all_meanings meanings certificate) ≡ length (definitions certificate)
  size = length-meanings model certificate meanings are

  own_are : own (all_meanings meanings certificate) (definitions certificate) ≡ own_literals meanings certificate
  unfolding lits lefts gates_mean
  own_are =
      own-append (meanings.inputs ++ meanings.latches) gates_mean (certificate.inputs ++ lits) lefts
      (omega (
        arith,
        length-append meanings.inputs meanings.latches,
        length-append certificate.inputs lits,
        length-map certificate.latches (λ (x : Latch). x.lit),
        are.input_count,
        are.latch_count,
      ))
      ∙ ap₂ (λ (a b : List ℕ). a ++ b)
      (own-append meanings.inputs meanings.latches certificate.inputs lits are.input_count
      ∙ ap (λ (a : List ℕ). own meanings.inputs certificate.inputs ++ a)
      (own-map (λ (x : Latch). x.lit) meanings.latches certificate.latches))
      (own-all (length certificate.gates) lefts (length-map certificate.gates (λ (g : Gate). g.lhs)))

  pub is_translation : IsTranslation model certificate meanings (literal_by table)
  unfolding lits lefts gates_mean
  is_translation = record {
    constant = by_even table 0 refl ∙ zero_is;
    sign = by_negation table;
    inputs = λ p l m at means.
        shared_is p l m
        (slice_get_left (certificate.inputs ++ lits) lefts p l (slice_get_left certificate.inputs lits p l at))
        (slice_get_left (meanings.inputs ++ meanings.latches) gates_mean p (Some m)
        (slice_get_left meanings.inputs meanings.latches p (Some m) means))
        (input_definition certificate sound p l at).0;
    latches = λ p m x at means.
        shared_is (length certificate.inputs + p) x.lit m
        (slice_get_left (certificate.inputs ++ lits) lefts (length certificate.inputs + p) x.lit
        (slice_get_right certificate.inputs lits p ∙ slice_get-map (λ (y : Latch). y.lit) certificate.latches p
        ∙ ap (option_map (λ (y : Latch). y.lit)) at))
        (slice_get_left (meanings.inputs ++ meanings.latches) gates_mean (length certificate.inputs + p) (Some m)
        (ap (λ n. slice_get (meanings.inputs ++ meanings.latches) (n + p)) (sym are.input_count)
        ∙ slice_get_right meanings.inputs meanings.latches p ∙ means))
        (latch_definition certificate sound p x at).0;
    new =
        ap (map (literal_by table)) (sym own_are)
        ∙ own_values (literal_by table) (all_meanings meanings certificate) (definitions certificate) (model.max_var + 1) size
        (λ k lt.
        by_even table (get_or (definitions certificate) k 0)
        (All-get_or IsDefinition (definitions certificate) k 0 lt sound.definitions).0 ∙ entered k lt)
        ∙ ap (λ (ls : List ℕ). literals_after model.max_var (length ls)) own_are;
  }

-- ---- each literal has an entry

pub has_literals : (raw : Raw) → IsSound raw → (table : List ℕ) → length table ≡ raw.max_var + 1 → HasLiterals raw table
has_literals raw sound table size =
    let u = each_use (λ l. variable l ≤ raw.max_var) raw
    (λ k d lt. use_in_range raw sound (get_or (uses raw) k d) (Contains-get_or (uses raw) k d lt)) in
    record {
      inputs = All-by_get (IsInTable table) raw.inputs (λ k l at. omega (arith, size, input_in_range raw sound k l at));
      latches = All-by_get (IsLatchListed table) raw.latches (λ k x at.
          (lit k x at, omega (arith, size, next_in_range raw sound k x at), reset k x at));
      outputs = All-weaker (λ l. variable l ≤ raw.max_var) (IsInTable table) (λ l h. omega (arith, size, h)) raw.outputs u.outputs;
      bad = All-weaker (λ l. variable l ≤ raw.max_var) (IsInTable table) (λ l h. omega (arith, size, h)) raw.bad u.bad;
      constraints = All-weaker (λ l. variable l ≤ raw.max_var) (IsInTable table) (λ l h. omega (arith, size, h)) raw.constraints
          u.constraints;
      gates = All-by_get (IsGateListed table) raw.gates (λ k g at. (
        omega (arith, size, gate_in_range raw sound k g at),
        omega (arith, size, rhs0_in_range raw sound k g at),
        omega (arith, size, rhs1_in_range raw sound k g at),
      ));
    }
  where
    lit : (k : ℕ) (x : Latch) → slice_get raw.latches k ≡ Some x → variable x.lit < length table
    lit k x at = omega (arith, size, latch_in_range raw sound k x at)

    reset : (k : ℕ) (x : Latch) → slice_get raw.latches k ≡ Some x → variable x.reset < length table
    reset k x at = elim (All-at IsReset raw.latches k x sound.resets at) [
      | inl e ↦ omega (arith, size, e)
      | inr (inl e) ↦ omega (arith, size, e)
      | inr (inr e) ↦ subst (λ l. variable l < length table) (sym e) (lit k x at)
    ]

-- ---- more values

pub values_more : (v : ℕ) (ms : List (Option ℕ)) (i : ℕ) (m : Option ℕ) (old new whole : List ℕ) (x : ℕ) → i < length ms
    → m ≡ get_or ms i m → x ≡ value_of v m → new ≡ old ++ x ∷ [] → old ++ values_from v (drop i ms) ≡ whole
    → new ++ values_from (next_after v m) (drop (i + 1) ms) ≡ whole
unfolding values_from
values_more v ms i m old new whole x lt at is more h =
    let left : drop i ms ≡ m ∷ drop (i + 1) ms =
    drop_more ms i m lt ∙ ap (λ (n : Option ℕ). n ∷ drop (i + 1) ms) (sym at) in
    ap (λ (xs : List ℕ). xs ++ values_from (next_after v m) (drop (i + 1) ms)) more
    ∙ append_assoc old (x ∷ []) (values_from (next_after v m) (drop (i + 1) ms))
    ∙ ap (λ (y : ℕ). old ++ y ∷ values_from (next_after v m) (drop (i + 1) ms)) is
    ∙ ap (λ (ns : List (Option ℕ)). old ++ values_from v ns) (sym left) ∙ h

pub values_all : (v : ℕ) (ms : List (Option ℕ)) (i : ℕ) (old whole : List ℕ) → length ms ≤ i
    → old ++ values_from v (drop i ms) ≡ whole → old ≡ whole
unfolding values_from
values_all v ms i old whole le h =
    sym (append-nil old) ∙ ap (λ (ns : List (Option ℕ)). old ++ values_from v ns) (sym (drop_all i ms le)) ∙ h

pub next_within : (next : ℕ) (m : Option ℕ) → next_after next m ≤ next + 1
next_within next (Some l) = omega arith
next_within next None = omega arith

pub has_properties : (raw : Raw) (table : List ℕ) → HasLiterals raw table → All (IsInTable table) (properties raw)
has_properties raw table h = go (nat_lt 0 (length raw.bad))
  where
    go : (b : Bool) → All (IsInTable table) (if b then raw.bad else raw.outputs)
    go true = h.bad
    go false = h.outputs
