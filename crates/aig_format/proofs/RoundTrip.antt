-- A circuit has a spelling.
use Rattle.std.proofs.Common.{◌≡◌, ◌≢◌, inl, inr, ℕ, suc, ◌+◌, ◌-◌, ◌*◌, ◌^◌, ◌<◌, ◌≤◌}
use Rattle.std.proofs.Common.{List, [], ◌∷◌, ◌++◌, length, get_or, map, Some, subst, refl, sym, ap, ◌∙◌, arith}
use Rattle.std.proofs.Common.{length-append}
use Rattle.std.specs.Prelude.{All, AllPairs, slice_get}
use Rattle.std.proofs.lemmas.Bool.{eqb-true}
use Rattle.std.proofs.lemmas.Bool.Decides.{Decides-eqb}
use Rattle.std.proofs.lemmas.List.{length-map, get_or-map}
use Rattle.std.proofs.lemmas.List.Elements.{All-append, All-weaker, All-map, All-contains}
use Rattle.std.proofs.lemmas.Option.{slice_get-get_or}
use Rattle.std.proofs.lemmas.Map.Views.{Contains-from_any}
use Rattle.std.proofs.lemmas.Map.Made.{IsDistinct-from_AllPairs}
use Rattle.std.proofs.lemmas.Map.Steps.{length-le_from_distinct_below}
use Rattle.aig_parts.specs.declared.raw.Raw.{Raw}
use Rattle.aig_parts.specs.declared.latch.Latch.{Latch}
use Rattle.aig_parts.specs.declared.gate.Gate.{Gate}
use Rattle.aig_base.specs.Circuit.{IsCircuit}
use Rattle.aig_parts.specs.Literal.{variable}
use Rattle.aig_base.specs.Renumbered.{IsBinaryReady}
use Rattle.aig_base.specs.Sections.{definitions, uses}
use Rattle.aig_base.specs.Sound.{IsInRange, IsDefinition, IsReset, StandsTwice}
use Rattle.aig_base.proofs.lists.Joined.{All-left, All-right, All-unmap}
use Rattle.aig_format.specs.Spelling.{no_zeros, short_ascii, short_binary}
use Rattle.aig_format.specs.Spells.{greatest, body_numbers, HasSpelling, IsTextOf, Spells}
use Rattle.aig_format.proofs.SmallNumbers.{is_small, AreSmall}
use Rattle.aig_format.specs.Formats.{IsInFormat}
use Rattle.aig_format.specs.declared.reader.header.Format.TheVariants.{Ascii, Binary}

-- ---- numbers

small_reset : (x : Latch) → IsReset x → x.lit ≤ greatest → x.reset ≤ greatest
small_reset x (inl e) le = omega (arith, e)
small_reset x (inr (inl e)) le = omega (arith, e)
small_reset x (inr (inr e)) le = omega (arith, e, le)

small_numbers : (raw : Raw) → IsCircuit raw → AreSmall (body_numbers raw)
small_numbers raw c =
    let lits : List ℕ = map (λ x. x.lit) raw.latches in
    let lhss : List ℕ = map (λ g. g.lhs) raw.gates in
    let resets : List ℕ = map (λ x. x.reset) raw.latches in
    let all : AreSmall (definitions raw ++ uses raw) =
    All-weaker (IsInRange raw) is_small (λ l h. (let m = c.formed.counts.max_var in omega (arith, h, m)))
    (definitions raw ++ uses raw) c.sound.in_range in
    let defs = All-left is_small (definitions raw) (uses raw) all in
    let lit : All (λ x. x.lit ≤ greatest) raw.latches =
    All-unmap is_small (λ x. x.lit) raw.latches
    (All-right is_small raw.inputs lits (All-left is_small (raw.inputs ++ lits) lhss defs)) in
    All-append is_small (definitions raw ++ uses raw) resets all
    (All-map is_small (λ (x : Latch). x.reset) raw.latches
    (λ k d lt. small_reset (get_or raw.latches k d) (c.sound.resets k d lt) (lit k d lt)))

-- ---- room

abbrev below : ℕ → ℕ
below l = variable l - 1

-- numbers whose halves are from 1 to m, no two of one half, are at most m
room_from : (ls : List ℕ) (m : ℕ) → All (λ l. l ≤ 2 * m + 1) ls → All IsDefinition ls
    → ((v : ℕ) → StandsTwice (map variable ls) v → ⊥) → length ls ≤ m
room_from ls m range definition once =
    let size = length-map ls below in
    let pairs : AllPairs (λ x y. x ≢ y) (map below ls) = λ i j d lt within same.
    (let jn : j < length ls = omega (arith, within, size) in
    let inn : i < length ls = omega (arith, lt, jn) in
    let a = get_or-map below ls i 0 d inn in
    let b = get_or-map below ls j 0 d jn in
    let ha = definition i 0 inn in
    let hb = definition j 0 jn in
    let equal : below (get_or ls i 0) ≡ below (get_or ls j 0) = sym a ∙ same ∙ b in
    let halves : variable (get_or ls j 0) ≡ variable (get_or ls i 0) = omega (arith, equal, ha.0, ha.1, hb.0, hb.1) in
    let vs = length-map ls variable in
    let at_i : slice_get (map variable ls) i ≡ Some (variable (get_or ls i 0)) =
    slice_get-get_or (map variable ls) i 0 (omega (arith, inn, vs)) ∙ ap Some (get_or-map variable ls i 0 0 inn) in
    let at_j : slice_get (map variable ls) j ≡ Some (variable (get_or ls i 0)) =
    slice_get-get_or (map variable ls) j 0 (omega (arith, jn, vs))
    ∙ ap Some (get_or-map variable ls j 0 0 jn ∙ halves) in
    once (variable (get_or ls i 0)) (i, j, lt, at_i, at_j)) in
    let bound : All (λ q. q < m) (map below ls) =
    All-map (λ q. q < m) below ls
    (λ k d lt. (let r = range k d lt in let h = definition k d lt in omega (arith, r, h.0, h.1))) in
    let few = length-le_from_distinct_below (map below ls) m (IsDistinct-from_AllPairs Decides-eqb (map below ls) pairs)
    (λ q h. All-contains (λ q. q < m) (map below ls) q bound
    (Contains-from_any (λ x y e. eqb-true x y e) q (map below ls) h)) in
    omega (arith, few, size)

pub room_of : (raw : Raw) → IsCircuit raw → length raw.inputs + length raw.latches + length raw.gates ≤ raw.max_var
room_of raw c =
    let lits : List ℕ = map (λ x. x.lit) raw.latches in
    let lhss : List ℕ = map (λ g. g.lhs) raw.gates in
    let a = length-append (raw.inputs ++ lits) lhss in
    let b = length-append raw.inputs lits in
    let nl : length lits ≡ length raw.latches = length-map raw.latches (λ (x : Latch). x.lit) in
    let ng : length lhss ≡ length raw.gates = length-map raw.gates (λ (g : Gate). g.lhs) in
    let few =
    room_from (definitions raw) raw.max_var
    (All-left (IsInRange raw) (definitions raw) (uses raw) c.sound.in_range) c.sound.definitions c.sound.once in
    omega (arith, few, a, b, nl, ng)

-- ---- spellings

pub has_spelling : (raw : Raw) → IsCircuit raw → HasSpelling raw
has_spelling raw c = record { formed = c.formed; numbers = small_numbers raw c; room = room_of raw c }

pub text_spells : (bytes : List ℕ) (raw : Raw) → IsCircuit raw → IsTextOf bytes raw → Spells bytes raw
text_spells bytes raw c text = (has_spelling raw c, text)

pub ascii_round_trip : (raw : Raw) → IsCircuit raw → IsInFormat Ascii (short_ascii raw) raw
ascii_round_trip raw c = (has_spelling raw c, (no_zeros, refl))

pub binary_round_trip : (raw : Raw) → IsCircuit raw → IsBinaryReady raw → IsInFormat Binary (short_binary raw) raw
binary_round_trip raw c ready = (has_spelling raw c, (no_zeros, ready, refl))
