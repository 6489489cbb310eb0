-- Circuits that differ by the resets of their latches.
use Rattle.std.proofs.Common.{◌≡◌, ◌≢◌, inl, inr, ℕ, zero, suc, ◌<◌, ◌≤◌, List, [], ◌∷◌, ◌++◌, length, map, take, drop}
use Rattle.std.proofs.Common.{Some, slice_get, slice_set, refl, sym, ap, ◌∙◌, subst, arith}
use Rattle.std.specs.List.{AllZip}
use Rattle.std.proofs.lemmas.Bool.Decides.{eqb_tells}
use Rattle.std.proofs.lemmas.List.{append-nil, drop_all, length-map, take_all}
use Rattle.std.proofs.lemmas.Option.{same_Some}
use Rattle.std.proofs.lemmas.Slice.Zip.{AllZip-long}
use Rattle.aig_parts.specs.declared.ternary.Tern.{Tern}
use Rattle.aig_parts.specs.declared.ternary.Tern.TheVariants.{Zero, One, X}
use Rattle.aig_parts.specs.declared.latch.Latch.{Latch}
use Rattle.aig_parts.specs.declared.gate.Gate.{Gate}
use Rattle.aig_parts.specs.declared.raw.Raw.{Raw}
use Rattle.aig_base.specs.Changes.{restarted, reset_literal, with_reset}
use Rattle.aig_base.specs.Sound.{IsSound}
use Rattle.aig_base.specs.Value as value
use Rattle.aig_base.specs.Value.{Value, start_of, reset_value}
use Rattle.aig_base.proofs.circuits.Circuits.{latch_definition}
use Rattle.aig_base.proofs.circuits.Places as places
use Rattle.aig_base.proofs.values.Refined.{AllZip-slice_get}
use Rattle.aig_base.specs.Resets.{IsSameLatch, HasOtherResets}

-- ---- values do not depend on resets

same_latches : (xs : List Latch) → AllZip IsSameLatch xs xs
same_latches [] = tt
same_latches (x ∷ xs) = ((refl, refl), same_latches xs)

latches_back : (xs ys : List Latch) → AllZip IsSameLatch xs ys → AllZip IsSameLatch ys xs
latches_back [] [] h = tt
latches_back [] (y ∷ ys) h = absurd h
latches_back (x ∷ xs) [] h = absurd h
latches_back (x ∷ xs) (y ∷ ys) h = ((sym h.0.0, sym h.0.1), latches_back xs ys h.1)

latches_restarted : (lit : ℕ) (w : Tern) (xs ys : List Latch) → AllZip IsSameLatch xs ys
    → AllZip IsSameLatch xs (map (restarted lit w) ys)
latches_restarted lit w [] [] h = tt
latches_restarted lit w [] (y ∷ ys) h = absurd h
latches_restarted lit w (x ∷ xs) [] h = absurd h
latches_restarted lit w (x ∷ xs) (y ∷ ys) h = (h.0, latches_restarted lit w xs ys h.1)

pub no_other_resets : (raw : Raw) → HasOtherResets raw raw
no_other_resets raw = record {
  inputs = refl;
  latches = same_latches raw.latches;
  outputs = refl;
  bad = refl;
  constraints = refl;
  gates = refl;
  size = refl;
  symbols = refl;
}

pub other_resets_back : (raw other : Raw) → HasOtherResets raw other → HasOtherResets other raw
other_resets_back raw other h = record {
  inputs = sym h.inputs;
  latches = latches_back raw.latches other.latches h.latches;
  outputs = sym h.outputs;
  bad = sym h.bad;
  constraints = sym h.constraints;
  gates = sym h.gates;
  size = sym h.size;
  symbols = sym h.symbols;
}

pub other_reset_more : (raw other : Raw) (lit : ℕ) (w : Tern) → HasOtherResets raw other
    → HasOtherResets raw (with_reset other lit w)
other_reset_more raw other lit w h = record {
  inputs = h.inputs;
  latches = latches_restarted lit w raw.latches other.latches h.latches;
  outputs = h.outputs;
  bad = h.bad;
  constraints = h.constraints;
  gates = h.gates;
  size = h.size;
  symbols = h.symbols;
}

module _ (raw other : Raw) (h : HasOtherResets raw other) (start : List Tern) (rows : List (List Tern)) where
  pub value_with : {t l : ℕ} {w : Tern} → Value raw start rows t l w → Value other start rows t l w
  value_with (value.constant_false t) = value.constant_false t
  value_with (value.constant_true t) = value.constant_true t
  value_with (value.input t p l w row at is cell) =
      value.input t p l w row (ap (λ (ls : List ℕ). slice_get ls p) h.inputs ∙ at) is cell
  value_with (value.latch_first p x w at is) =
      let (y, here, same) = AllZip-slice_get IsSameLatch raw.latches other.latches p x h.latches at in
      subst (λ (l : ℕ). Value other start rows 0 l w) same.0 (value.latch_first p y w here is)
  value_with (value.latch_next t p x w at v) =
      let (y, here, same) = AllZip-slice_get IsSameLatch raw.latches other.latches p x h.latches at in
      subst (λ (l : ℕ). Value other start rows (suc t) l w) same.0
      (value.latch_next t p y w here (subst (λ (l : ℕ). Value other start rows t l w) (sym same.1) (value_with v)))
  value_with (value.gate t q g a b at va vb) =
      value.gate t q g a b (ap (λ (gs : List Gate). slice_get gs q) h.gates ∙ at) (value_with va) (value_with vb)
  value_with (value.negated t l w over odd v) = value.negated t l w over odd (value_with v)

-- ---- the start of a circuit with another reset

reset_is : (lit : ℕ) (w : Tern) → 1 < lit → reset_value (reset_literal lit w) ≡ w
reset_is lit Zero over = refl
reset_is lit One over = refl
reset_is zero X over = absurd (omega arith)
reset_is (suc zero) X over = absurd (omega arith)
reset_is (suc (suc n)) X over = refl

abbrev pub starts_of : List Latch → List Tern
starts_of xs = map (λ x. reset_value x.reset) xs

others_stay : (lit : ℕ) (w : Tern) (xs : List Latch) → ((k : ℕ) (x : Latch) → slice_get xs k ≡ Some x → x.lit ≢ lit)
    → starts_of (map (restarted lit w) xs) ≡ starts_of xs
others_stay lit w [] other = refl
others_stay lit w (x ∷ xs) other =
    ap (λ (v : Tern). v ∷ starts_of (map (restarted lit w) xs)) here
    ∙ ap (λ (vs : List Tern). reset_value x.reset ∷ vs) (others_stay lit w xs (λ k y at. other (suc k) y at))
  where
    here : reset_value (restarted lit w x).reset ≡ reset_value x.reset
    here = elim (eqb_tells x.lit lit) [
      | inl e ↦ absurd (other 0 x refl e.1)
      | inr e ↦ rw e.0 refl
    ]

starts_restarted : (lit : ℕ) (w : Tern) (xs : List Latch) (i : ℕ) (y : Latch) → 1 < lit → slice_get xs i ≡ Some y
    → y.lit ≡ lit → ((k : ℕ) (x : Latch) → slice_get xs k ≡ Some x → x.lit ≡ lit → k ≡ i)
    → starts_of (map (restarted lit w) xs) ≡ slice_set (starts_of xs) i w
starts_restarted lit w [] i y over at named one = let no : ⊥ = cc in absurd no
starts_restarted lit w (x ∷ xs) zero y over at named one =
    ap (λ (v : Tern). v ∷ starts_of (map (restarted lit w) xs)) here
    ∙ ap (λ (vs : List Tern). w ∷ vs)
    (others_stay lit w xs (λ k z there e. let no : suc k ≡ 0 = one (suc k) z there e in absurd (omega arith)))
  where
    same : x.lit ≡ lit
    same = ap (λ (z : Latch). z.lit) (same_Some x y at) ∙ named

    here : reset_value (restarted lit w x).reset ≡ w
    here = elim (eqb_tells x.lit lit) [
      | inl e ↦ rw e.0 (reset_is lit w over)
      | inr e ↦ absurd (e.1 same)
    ]
starts_restarted lit w (x ∷ xs) (suc i) y over at named one =
    ap (λ (v : Tern). v ∷ starts_of (map (restarted lit w) xs)) here
    ∙ ap (λ (vs : List Tern). reset_value x.reset ∷ vs)
    (starts_restarted lit w xs i y over at named
    (λ k z there e. let more : suc k ≡ suc i = one (suc k) z there e in omega arith))
  where
    here : reset_value (restarted lit w x).reset ≡ reset_value x.reset
    here = elim (eqb_tells x.lit lit) [
      | inl e ↦ let no : 0 ≡ suc i = one 0 x refl e.1 in absurd (omega arith)
      | inr e ↦ rw e.0 refl
    ]

same_latch : (raw : Raw) → IsSound raw → (i k : ℕ) (y z : Latch) → slice_get raw.latches i ≡ Some y
    → slice_get raw.latches k ≡ Some z → y.lit ≡ z.lit → i ≡ k
same_latch raw s i k y z at stands e =
    let same = places.same_place raw s (places.latch i) (places.latch k) y.lit (y, at, refl) (z, stands, sym e) in cc

-- a circuit with another reset of its latch i starts there at the value, and elsewhere as before
pub start_restarted : (raw : Raw) → IsSound raw → (lit : ℕ) (w : Tern) (i : ℕ) (y : Latch) → slice_get raw.latches i ≡ Some y
    → y.lit ≡ lit → start_of (with_reset raw lit w) ≡ slice_set (start_of raw) i w
start_restarted raw s lit w i y at named =
    starts_restarted lit w raw.latches i y (let d = latch_definition raw s i y at in omega (arith, d, named)) at named
    (λ k x there e. same_latch raw s k i x y there at (e ∙ sym named))

-- one value more is the other list's
pub set_next : {A : Type 0} (s t : List A) (i : ℕ) (w : A) → slice_get s i ≡ Some w → length t ≡ length s
    → slice_set (take i s ++ drop i t) i w ≡ take (suc i) s ++ drop (suc i) t
set_next [] t i w at e = let no : ⊥ = cc in absurd no
set_next (x ∷ s) [] i w at e = absurd (omega (arith, e))
set_next (x ∷ s) (y ∷ t) zero w at e = ap (λ (z : _). z ∷ t) (sym (same_Some x w at))
set_next (x ∷ s) (y ∷ t) (suc i) w at e = ap (λ (zs : List _). x ∷ zs) (set_next s t i w at (omega (arith, e)))

pub start_length : (raw : Raw) → length (start_of raw) ≡ length raw.latches
start_length raw = length-map raw.latches (λ x. reset_value x.reset)

pub latches_length : (raw other : Raw) → HasOtherResets raw other → length other.latches ≡ length raw.latches
latches_length raw other h = AllZip-long IsSameLatch raw.latches other.latches h.latches

-- the start so far, one latch more
pub start_more : (raw c : Raw) (start : List Tern) (lit : ℕ) (w : Tern) (i : ℕ) (y : Latch) → IsSound c
    → length start ≡ length raw.latches → start_of c ≡ take i start ++ drop i (start_of raw) → slice_get c.latches i ≡ Some y
    → y.lit ≡ lit → slice_get start i ≡ Some w
    → start_of (with_reset c lit w) ≡ take (suc i) start ++ drop (suc i) (start_of raw)
start_more raw c start lit w i y s size is at named here =
    start_restarted c s lit w i y at named ∙ ap (λ (v : List Tern). slice_set v i w) is
    ∙ set_next start (start_of raw) i w here (start_length raw ∙ sym size)
