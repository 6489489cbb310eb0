-- What a name means is of variable 0, an input, a latch or a gate.
use Rattle.std.proofs.Common.{◌≡◌, ℕ, zero, suc, ◌+◌, ◌*◌, ◌≤◌, ◌⊎◌, ◌%◌, Bool, List, [], ◌∷◌, ◌++◌, map, get_or}
use Rattle.std.proofs.Common.{Option, None, Some, All, Contains, inl, inr, refl, sym, subst, arith}
use Rattle.std.specs.Prelude.{option_map, IfSome, filter_map, flat_map, find, slice_index_or}
use Rattle.std.specs.List.{cons_option}
use Rattle.std.proofs.lemmas.Bool.{cases_Bool}
use Rattle.std.proofs.lemmas.List.Elements.{All-nil, All-cons, All-head, All-tail, All-append, All-map, All-weaker}
use Rattle.std.proofs.lemmas.List.Elements.{All-contains_itself, Contains-append_right}
use Rattle.aig_parts.specs.declared.gate.Gate.{Gate}
use Rattle.aig_parts.specs.declared.latch.Latch.{Latch}
use Rattle.aig_parts.specs.declared.raw.Raw.{Raw}
use Rattle.aig_parts.specs.declared.symbols.Kind.{Kind}
use Rattle.aig_parts.specs.declared.symbols.Kind.TheVariants as kinds
use Rattle.aig_parts.specs.Literal.{variable, negation}
use Rattle.aig_parts.specs.SymbolPlaces.{Key}
use Rattle.aig_base.specs.Circuit.{IsCircuit}
use Rattle.aig_base.specs.Sections.{definitions, IsDefined}
use Rattle.aig_base.specs.Sound.{IsInRange}
use Rattle.aig_base.proofs.checks.Faults.{uses_parted}
use Rattle.aig_base.proofs.lists.Joined.{All-left, All-right, All-unmap}
use Rattle.aig_base.proofs.rewires.Rewiring.{in_range_from_defined}
use Rattle.aig_signals.specs.declared.bits.WordBit.{WordBit}
use Rattle.aig_signals.specs.declared.lookup.Rule.{Rule}
use Rattle.aig_signals.specs.declared.lookup.Rule.TheVariants as rule
use Rattle.aig_signals.specs.declared.signal.Signal.{Signal}
use Rattle.aig_signals.specs.Bits.{all_bits, all_there, bit_literal, bits_named, entry_bits, index_in, section_bits}
use Rattle.aig_signals.specs.Bits.{word_bit, word_bits}
use Rattle.aig_signals.specs.Lookup.{alone, entry_by, entry_literal, literals_called, literals_by, or_else}
use Rattle.aig_signals.specs.Lookup.{signal_literals, signal_named, IsPlain, MeansPlainly, Means}
use Rattle.aig_signals.specs.Names.{entry_words, literal_of, literals_of, readable, sections}
use Rattle.aig_names.specs.Vectors.{bit_of}

even_or_odd : (l : ℕ) → (l % 2 ≡ 0) ⊎ (l % 2 ≡ 1)
even_or_odd l = grind arith

same_variable : (l : ℕ) → variable (negation l) ≡ variable l
same_variable l = elim (even_or_odd l) [ inl even ↦ rw even (omega (arith, even)) | inr odd ↦ rw odd (omega (arith, odd)) ]

-- the literal is of a variable that is defined
abbrev pub IsKnown : Raw → ℕ → Type 0
IsKnown raw l = IsDefined raw (variable l)

-- what holds of the literals of all words X[n]
abbrev IsBitKnown : Raw → WordBit → Type 0
IsBitKnown raw bit = IsKnown raw bit.literal

module _ (raw : Raw) where
  zero_known : IsKnown raw 0
  zero_known = (0, omega arith, refl)

  definitions_known : All (IsKnown raw) (definitions raw)
  definitions_known =
      All-weaker (λ l. Contains (map variable (definitions raw)) (variable l)) (IsKnown raw)
      (λ l. Contains-append_right (0 ∷ []) (map variable (definitions raw)) (variable l)) (definitions raw)
      (All-unmap (Contains (map variable (definitions raw))) variable (definitions raw) (All-contains_itself (map variable (definitions raw))))

  index_known : (xs : List ℕ) (p : ℕ) → All (IsKnown raw) xs → IsKnown raw (slice_index_or xs p 0)
  index_known [] p h = zero_known
  index_known (x ∷ xs) zero h = All-head (IsKnown raw) x xs h
  index_known (x ∷ xs) (suc p) h = index_known xs p (All-tail (IsKnown raw) x xs h)

  -- the words X[n] of an entry
  number_known : (literal : ℕ) → IsKnown raw literal → (o : Option ℕ)
      → IfSome (option_map (λ n. record { index = n; literal = literal }) o) (IsBitKnown raw)
  number_known literal h None = tt
  number_known literal h (Some n) = h

  cons_known : (x : List ℕ) (literal : ℕ) (o : Option WordBit) (bits : List WordBit) → IfSome o (IsBitKnown raw)
      → All (IsBitKnown raw) bits → All (IsBitKnown raw) (cons_option o bits)
  cons_known x literal None bits h more = more
  cons_known x literal (Some bit) bits h more = All-cons (IsBitKnown raw) bit bits h more

  words_known : (x : List ℕ) (literal : ℕ) → IsKnown raw literal → (words : List (List ℕ))
      → All (IsBitKnown raw) (filter_map (word_bit x literal) words)
  words_known x literal h [] = All-nil (IsBitKnown raw)
  words_known x literal h (word ∷ words) =
      cons_known x literal (word_bit x literal word) _ (number_known literal h (index_in x (bit_of word))) (words_known x literal h words)

  pieces_known : {X : Type 0} (f : X → List WordBit) → ((x : X) → All (IsBitKnown raw) (f x)) → (xs : List X)
      → All (IsBitKnown raw) (flat_map f xs)
  pieces_known f h [] = All-nil (IsBitKnown raw)
  pieces_known f h (x ∷ xs) = All-append (IsBitKnown raw) (f x) (flat_map f xs) (h x) (pieces_known f h xs)

  -- the literals of bits
  find_known : (test : WordBit → Bool) (bits : List WordBit) → All (IsBitKnown raw) bits
      → IfSome (option_map (λ (bit : WordBit). bit.literal) (find test bits)) (IsKnown raw)
  find_known test [] h = tt
  find_known test (bit ∷ bits) h = elim (cases_Bool (test bit)) [
    | inl holds ↦ rw holds (All-head (IsBitKnown raw) bit bits h)
    | inr fails ↦ rw fails (find_known test bits (All-tail (IsBitKnown raw) bit bits h))
  ]

  more_known : (x : ℕ) (o : Option (List ℕ)) → IsKnown raw x → IfSome o (All (IsKnown raw))
      → IfSome (option_map (λ xs. x ∷ xs) o) (All (IsKnown raw))
  more_known x None h more = tt
  more_known x (Some xs) h more = All-cons (IsKnown raw) x xs h more

  there_more : (o : Option ℕ) (os : List (Option ℕ)) → IfSome o (IsKnown raw) → IfSome (all_there os) (All (IsKnown raw))
      → IfSome (all_there (o ∷ os)) (All (IsKnown raw))
  unfolding all_there
  there_more None os h more = tt
  there_more (Some x) os h more = more_known x (all_there os) h more

  there_known : (bits : List WordBit) → All (IsBitKnown raw) bits → (ns : List ℕ)
      → IfSome (all_there (map (bit_literal bits) ns)) (All (IsKnown raw))
  unfolding all_there
  there_known bits h [] = All-nil (IsKnown raw)
  there_known bits h (n ∷ ns) =
      there_more (bit_literal bits n) (map (bit_literal bits) ns) (find_known _ bits h) (there_known bits h ns)

  bits_known : (bits : List WordBit) → All (IsBitKnown raw) bits → IfSome (all_bits bits) (All (IsKnown raw))
  bits_known [] h = tt
  bits_known (bit ∷ more) h = there_known (bit ∷ more) h _

  either_known : (o p : Option (List ℕ)) → IfSome o (All (IsKnown raw)) → IfSome p (All (IsKnown raw))
      → IfSome (or_else o p) (All (IsKnown raw))
  either_known None p h h' = h'
  either_known (Some xs) p h h' = h

  plainly_known : (name literals : List ℕ) (o : Option (List ℕ)) → IfSome o (All (IsKnown raw)) → MeansPlainly raw name o literals
      → All (IsKnown raw) literals
  plainly_known name literals None h (l, number, is) =
      subst (All (IsKnown raw)) (sym is) (All-cons (IsKnown raw) l [] number.1 (All-nil (IsKnown raw)))
  plainly_known name literals (Some called) h is = subst (All (IsKnown raw)) (sym is) h

  module _ (circuit : IsCircuit raw) where
    pub section_known : (kind : Kind) → All (IsKnown raw) (literals_of raw kind)
    section_known kinds.Input =
        All-left (IsKnown raw) raw.inputs (map (λ (x : Latch). x.lit) raw.latches) (All-left (IsKnown raw) _ _ definitions_known)
    section_known kinds.Latch =
        All-right (IsKnown raw) raw.inputs (map (λ (x : Latch). x.lit) raw.latches) (All-left (IsKnown raw) _ _ definitions_known)
    section_known kinds.Output = (uses_parted raw (IsKnown raw) circuit.sound.defined).1
    section_known kinds.Bad = (uses_parted raw (IsKnown raw) circuit.sound.defined).2
    section_known kinds.Constraint = (uses_parted raw (IsKnown raw) circuit.sound.defined).3
    section_known kinds.Justice = All-nil (IsKnown raw)
    section_known kinds.Fairness = All-nil (IsKnown raw)

    entry_known : (kind : Kind) (p : ℕ) → IsKnown raw (literal_of raw kind p)
    entry_known kind p = index_known (literals_of raw kind) p (section_known kind)

    rule_known : (o : Option Key) → IfSome (option_map alone (option_map (entry_literal raw) o)) (All (IsKnown raw))
    rule_known None = tt
    rule_known (Some e) = All-cons (IsKnown raw) (entry_literal raw e) [] (entry_known e.0 e.1) (All-nil (IsKnown raw))

    signal_known : (o : Option Signal) → IfSome (option_map (signal_literals raw) o) (All (IsKnown raw))
    signal_known None = tt
    signal_known (Some s) = All-map (IsKnown raw) (literal_of raw s.kind) _ (λ k d lt. entry_known s.kind _)

    section_bits_known : (x : List ℕ) (kind : Kind) → All (IsBitKnown raw) (section_bits raw x kind)
    unfolding section_bits
    section_bits_known x kind =
        pieces_known (entry_bits raw x kind)
        (λ p. words_known x (literal_of raw kind p) (entry_known kind p) (map readable (entry_words raw kind p))) _

    named_known : (x : List ℕ) → IfSome (bits_named raw x) (All (IsKnown raw))
    unfolding bits_named
    named_known x = bits_known (word_bits raw x) (pieces_known (section_bits raw x) (section_bits_known x) sections)

    called_known : (name : List ℕ) → IfSome (literals_called raw name) (All (IsKnown raw))
    unfolding literals_called
    called_known name =
        either_known (literals_by raw name rule.FirstName) _ (rule_known (entry_by raw name rule.FirstName))
        (either_known (option_map (signal_literals raw) (signal_named raw name)) _ (signal_known (signal_named raw name))
        (either_known (literals_by raw name rule.FurtherWord) _ (rule_known (entry_by raw name rule.FurtherWord))
        (either_known (bits_named raw name) (literals_by raw name rule.Position) (named_known name)
        (rule_known (entry_by raw name rule.Position)))))

    plain_known : (name literals : List ℕ) → IsPlain raw name literals → All (IsKnown raw) literals
    plain_known name literals h = plainly_known name literals (literals_called raw name) (called_known name) h

    pub meant_known : (name literals : List ℕ) → Means raw name literals → All (IsKnown raw) literals
    meant_known name literals (inl plain) = plain_known name literals plain
    meant_known name literals (inr (none, (rest, plain, is, h, n))) =
        subst (All (IsKnown raw)) (sym n)
        (All-map (IsKnown raw) negation plain (All-weaker (IsKnown raw) (λ l. IsKnown raw (negation l))
        (λ l known. subst (IsDefined raw) (sym (same_variable l)) known) plain (plain_known rest plain h)))

    half_below : (l : ℕ) → IsInRange raw l → variable l ≤ raw.max_var
    half_below l le = omega (arith, le)

    pub known_in_range : (literals : List ℕ) → All (IsKnown raw) literals → All (λ l. variable l ≤ raw.max_var) literals
    known_in_range =
        All-weaker (IsKnown raw) (λ l. variable l ≤ raw.max_var) (λ l known. half_below l (in_range_from_defined raw l circuit.sound known))
