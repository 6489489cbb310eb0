-- The circuit that `aig cut` writes is a cut of the one that it reads.
use Rattle.std.proofs.Common.{◌≡◌, ◌⊎◌, inl, inr, ℕ, zero, suc, ◌+◌, ◌*◌, Bool, true, false, List, [], ◌∷◌, ◌++◌, length}
use Rattle.std.proofs.Common.{Some, slice_get, refl, sym, ◌∙◌, ap, subst, arith, length-append, All, Contains, get_or, map, option_map}
use Rattle.std.proofs.lemmas.Option.{none-some, same_Some, slice_get-get_or, slice_get-map}
use Rattle.aig_parts.specs.declared.gate.Gate.{Gate}
use Rattle.aig_parts.specs.declared.latch.Latch.{Latch}
use Rattle.aig_parts.specs.declared.raw.Raw.{Raw}
use Rattle.aig_parts.specs.Literal.{variable}
use Rattle.aig_base.specs.Circuit.{IsCircuit}
use Rattle.aig_base.specs.Sections.{IsDefined, definitions}
use Rattle.aig_base.proofs.circuits.EachUse.{each_use}
use Rattle.aig_base.proofs.circuits.EntryPlaces.{gate_place}
use Rattle.aig_base.proofs.lists.Gets.{All-by_get}
use Rattle.aig_cut.specs.Cut.{IsCut, IsCutGate, IsCutLatch, StandsFor}
use Rattle.aig_cut.specs.Cuts.{Cuts, named_by}
use Rattle.aig_cut.specs.Lines.{IsCutBy}
use Rattle.aig_cut.specs.CutOf.{one_more, in_front, next_of, reset_of, cut_latches, latch_inputs, cut_gate, cut_gates}
use Rattle.aig_cut.specs.CutOf.{gate_inputs, demanded, cut_constraints, cut_latch, cut_of}
use Rattle.aig_base.proofs.lists.Positions.{Contains-from_slice_get, slice_get_left, slice_get_right}

-- the literals that the new inputs stand for
latches_meant : Cuts → List Latch → List ℕ
latches_meant cuts [] = []
latches_meant cuts (x ∷ xs) = in_front (cuts.free x.lit) x.next (latches_meant cuts xs)

gates_meant : Cuts → List Gate → List ℕ
gates_meant cuts [] = []
gates_meant cuts (g ∷ gs) = in_front (cuts.free g.lhs) g.lhs (gates_meant cuts gs)

behind : (f : Bool) (a b : ℕ) (new meant : List ℕ) (l m : ℕ) → StandsFor new meant l m
    → StandsFor (in_front f a new) (in_front f b meant) l m
unfolding in_front
behind true a b new meant l m (k, here, there) = (suc k, here, there)
behind false a b new meant l m s = s

same_many : (f : Bool) (a b : ℕ) (new meant : List ℕ) → length meant ≡ length new
    → length (in_front f b meant) ≡ length (in_front f a new)
unfolding in_front
same_many true a b new meant same = ap suc same
same_many false a b new meant same = same

latches_paired : (cuts : Cuts) (v : ℕ) (xs : List Latch) → length (latches_meant cuts xs) ≡ length (latch_inputs cuts v xs)
unfolding latches_meant latch_inputs
latches_paired cuts v [] = refl
latches_paired cuts v (x ∷ xs) =
    same_many (cuts.free x.lit) (2 * v) x.next (latch_inputs cuts (one_more (cuts.free x.lit) v) xs) (latches_meant cuts xs)
    (latches_paired cuts (one_more (cuts.free x.lit) v) xs)

gates_paired : (cuts : Cuts) (v : ℕ) (gs : List Gate) → length (gates_meant cuts gs) ≡ length (gate_inputs cuts v gs)
unfolding gates_meant gate_inputs
gates_paired cuts v [] = refl
gates_paired cuts v (g ∷ gs) =
    same_many (cuts.free g.lhs) (2 * v) g.lhs (gate_inputs cuts (one_more (cuts.free g.lhs) v) gs) (gates_meant cuts gs)
    (gates_paired cuts (one_more (cuts.free g.lhs) v) gs)

-- ---- latches

pub latches_many : (cuts : Cuts) (v : ℕ) (xs : List Latch) → length (cut_latches cuts v xs) ≡ length xs
unfolding cut_latches
latches_many cuts v [] = refl
latches_many cuts v (x ∷ xs) = ap suc (latches_many cuts (one_more (cuts.free x.lit) v) xs)

next_is : (f : Bool) (v : ℕ) (x : Latch) (new meant : List ℕ)
    → (next_of f v x ≡ x.next) ⊎ StandsFor (in_front f (2 * v) new) (in_front f x.next meant) (next_of f v x) x.next
unfolding next_of in_front
next_is true v x new meant = inr (0, refl, refl)
next_is false v x new meant = inl refl

reset_is : (s : Bool) (x : Latch) → (reset_of s x ≡ x.reset) ⊎ (reset_of s x ≡ x.lit)
unfolding reset_of
reset_is true x = inr refl
reset_is false x = inl refl

latch_is : (cuts : Cuts) (v : ℕ) (xs : List Latch) (p : ℕ) (y z : Latch) → slice_get xs p ≡ Some y
    → slice_get (cut_latches cuts v xs) p ≡ Some z → IsCutLatch (latch_inputs cuts v xs) (latches_meant cuts xs) y z
unfolding latches_meant latch_inputs cut_latches
latch_is cuts v [] p y z at there = absurd (none-some y at)
latch_is cuts v (x ∷ xs) zero y z at there =
    subst (λ (u : Latch). IsCutLatch (latch_inputs cuts v (x ∷ xs)) (latches_meant cuts (x ∷ xs)) u z) (same_Some x y at)
    (subst (λ (u : Latch). IsCutLatch (latch_inputs cuts v (x ∷ xs)) (latches_meant cuts (x ∷ xs)) x u)
    (same_Some (cut_latch cuts v x) z there)
    (record {
      lit = refl;
      next = next_is (cuts.free x.lit) v x (latch_inputs cuts (one_more (cuts.free x.lit) v) xs) (latches_meant cuts xs);
      reset = reset_is (cuts.starts x.lit) x;
    }))
latch_is cuts v (x ∷ xs) (suc p) y z at there =
    let u = one_more (cuts.free x.lit) v in
    let c = latch_is cuts u xs p y z at there in
    record {
      lit = c.lit;
      next = elim c.next [
        | inl same ↦ inl same
        | inr new ↦ inr (behind (cuts.free x.lit) (2 * v) x.next (latch_inputs cuts u xs) (latches_meant cuts xs) z.next y.next new)
      ];
      reset = c.reset;
    }

-- ---- gates

sides_are : (f : Bool) (v : ℕ) (g : Gate) (new meant : List ℕ)
    → IsCutGate (in_front f (2 * v) new) (in_front f g.lhs meant) g (cut_gate f v g)
unfolding cut_gate in_front
sides_are true v g new meant = record { lhs = refl; sides = inr ((0, refl, refl), refl) }
sides_are false v g new meant = record { lhs = refl; sides = inl (refl, refl) }

gate_is : (cuts : Cuts) (v : ℕ) (gs : List Gate) (q : ℕ) (g : Gate) → slice_get gs q ≡ Some g
    → (h : Gate) × (slice_get (cut_gates cuts v gs) q ≡ Some h) × IsCutGate (gate_inputs cuts v gs) (gates_meant cuts gs) g h
unfolding gates_meant gate_inputs cut_gates
gate_is cuts v [] q g at = absurd (none-some g at)
gate_is cuts v (k ∷ gs) zero g at =
    subst (λ (u : Gate). (h : Gate) × (Some (cut_gate (cuts.free k.lhs) v k) ≡ Some h)
    × IsCutGate (gate_inputs cuts v (k ∷ gs)) (gates_meant cuts (k ∷ gs)) u h) (same_Some k g at) (
      cut_gate (cuts.free k.lhs) v k,
      refl,
      sides_are (cuts.free k.lhs) v k (gate_inputs cuts (one_more (cuts.free k.lhs) v) gs) (gates_meant cuts gs),
    )
gate_is cuts v (k ∷ gs) (suc q) g at =
    let u = one_more (cuts.free k.lhs) v in
    let (h, there, c) = gate_is cuts u gs q g at in (
      h,
      there,
      record {
        lhs = c.lhs;
        sides = elim c.sides [
          | inl same ↦ inl same
          | inr free ↦ inr (
            behind (cuts.free k.lhs) (2 * v) k.lhs (gate_inputs cuts u gs) (gates_meant cuts gs) h.rhs0 g.lhs
                free.0,
            free.1,
          )
        ];
      },
    )

-- ---- constraints

constraint_is : (cuts : Cuts) (p : ℕ) (cs : List ℕ) (k c : ℕ) → slice_get (cut_constraints cuts p cs) k ≡ Some c
    → (c ≡ 1) ⊎ ((j : ℕ) × (slice_get cs j ≡ Some c))
unfolding cut_constraints demanded
constraint_is cuts p [] k c at = absurd (none-some c at)
constraint_is cuts p (d ∷ cs) zero c at = first (cuts.constraints p) (same_Some (demanded (cuts.constraints p) d) c at)
  where
    first : (b : Bool) → demanded b d ≡ c → (c ≡ 1) ⊎ ((j : ℕ) × (slice_get (d ∷ cs) j ≡ Some c))
    first true is = inl (sym is)
    first false is = inr (0, ap Some is)
constraint_is cuts p (d ∷ cs) (suc k) c at = elim (constraint_is cuts (p + 1) cs k c at) [
  | inl is ↦ inl is
  | inr old ↦ inr (suc old.0, old.1)
]

-- ---- all together

in_left : (new more meant else_ : List ℕ) → (l m : ℕ) → StandsFor new meant l m → StandsFor (new ++ more) (meant ++ else_) l m
in_left new more meant else_ l m (k, here, there) = (k, slice_get_left new more k l here, slice_get_left meant else_ k m there)

in_right : (new more meant else_ : List ℕ) → length meant ≡ length new → (l m : ℕ) → StandsFor more else_ l m
    → StandsFor (new ++ more) (meant ++ else_) l m
in_right new more meant else_ same l m (k, here, there) = (
  length new + k,
  slice_get_right new more k l here,
  subst (λ (n : ℕ). slice_get (meant ++ else_) (n + k) ≡ Some m) same (slice_get_right meant else_ k m there),
)

front_defined : (raw : Raw) (f : Bool) (l : ℕ) (ls : List ℕ) → IsDefined raw (variable l)
    → ((k m : ℕ) → slice_get ls k ≡ Some m → IsDefined raw (variable m))
    → (k m : ℕ) → slice_get (in_front f l ls) k ≡ Some m → IsDefined raw (variable m)
unfolding in_front
front_defined raw true l ls now later zero m at = subst (λ (n : ℕ). IsDefined raw (variable n)) (same_Some l m at) now
front_defined raw true l ls now later (suc k) m at = later k m at
front_defined raw false l ls now later k m at = later k m at

nexts_defined : (raw : Raw) (cuts : Cuts) (xs : List Latch) → All (λ (x : Latch). IsDefined raw (variable x.next)) xs
    → (k m : ℕ) → slice_get (latches_meant cuts xs) k ≡ Some m → IsDefined raw (variable m)
unfolding latches_meant
nexts_defined raw cuts [] all k m at = absurd (none-some m at)
nexts_defined raw cuts (x ∷ xs) all k m at =
    front_defined raw (cuts.free x.lit) x.next (latches_meant cuts xs) (all 0 x (omega arith))
    (nexts_defined raw cuts xs (λ j d l. all (suc j) d (omega (arith, l)))) k m at

gates_defined : (raw : Raw) (cuts : Cuts) (gs : List Gate) → All (λ (g : Gate). IsDefined raw (variable g.lhs)) gs
    → (k m : ℕ) → slice_get (gates_meant cuts gs) k ≡ Some m → IsDefined raw (variable m)
unfolding gates_meant
gates_defined raw cuts [] all k m at = absurd (none-some m at)
gates_defined raw cuts (g ∷ gs) all k m at =
    front_defined raw (cuts.free g.lhs) g.lhs (gates_meant cuts gs) (all 0 g (omega arith))
    (gates_defined raw cuts gs (λ j d l. all (suc j) d (omega (arith, l)))) k m at

either_defined : (raw : Raw) (ls ms : List ℕ) → ((k m : ℕ) → slice_get ls k ≡ Some m → IsDefined raw (variable m))
    → ((k m : ℕ) → slice_get ms k ≡ Some m → IsDefined raw (variable m))
    → (k m : ℕ) → slice_get (ls ++ ms) k ≡ Some m → IsDefined raw (variable m)
either_defined raw [] ms left right k m at = right k m at
either_defined raw (l ∷ ls) ms left right zero m at = left 0 m at
either_defined raw (l ∷ ls) ms left right (suc k) m at =
    either_defined raw ls ms (λ j n here. left (suc j) n here) right k m at

constraint_there : (cs : List ℕ) (j c : ℕ) → slice_get cs j ≡ Some c → Contains cs c
constraint_there [] j c at = absurd (none-some c at)
constraint_there (d ∷ cs) zero c at = (0, omega arith, same_Some d c at)
constraint_there (d ∷ cs) (suc j) c at =
    let (k, lt, is) = constraint_there cs j c at in
    (suc k, omega (arith, lt), is)

pub cuts_are : (cuts : Cuts) (raw : Raw) → All (λ (x : Latch). IsDefined raw (variable x.next)) raw.latches
    → All (λ (g : Gate). IsDefined raw (variable g.lhs)) raw.gates → IsCut raw (cut_of cuts raw)
cuts_are cuts raw nexts sides =
    let v = raw.max_var + 1 in
    let new = latch_inputs cuts v raw.latches in
    let u = raw.max_var + 1 + length new in
    let more = gate_inputs cuts u raw.gates in
    let meant = latches_meant cuts raw.latches in
    let others = gates_meant cuts raw.gates in
    let same = latches_paired cuts v raw.latches in
    record {
      new = new ++ more;
      meant = meant ++ others;
      paired = omega (
        arith,
        same,
        gates_paired cuts u raw.gates,
        length-append meant others,
        length-append new more,
      );
      defined = λ k d l. either_defined raw meant others (nexts_defined raw cuts raw.latches nexts)
          (gates_defined raw cuts raw.gates sides) k (get_or (meant ++ others) k d) (slice_get-get_or (meant ++ others) k d l);
      inputs_are = refl;
      latches_many = latches_many cuts v raw.latches;
      latches_are = λ p y z at there.
          let c = latch_is cuts v raw.latches p y z at there in
          record {
            lit = c.lit;
            next = elim c.next [
              | inl is ↦ inl is
              | inr fresh ↦ inr (in_left new more meant others z.next y.next fresh)
            ];
            reset = c.reset;
          };
      gates_are = λ q g at.
          let (h, there, c) = gate_is cuts u raw.gates q g at in (
            h,
            there,
            record {
              lhs = c.lhs;
              sides = elim c.sides [
                | inl is ↦ inl is
                | inr free ↦ inr (in_right new more meant others same h.rhs0 g.lhs free.0, free.1)
              ];
            },
          );
      bad_are = refl;
      constraints_are = λ c (k, lt, is).
          elim (constraint_is cuts 0 raw.constraints k c (slice_get-get_or (cut_constraints cuts 0 raw.constraints) k c lt ∙ ap Some is)) [
            | inl one ↦ inl one
            | inr old ↦ inr (constraint_there raw.constraints old.0 c old.1)
          ];
    }

-- a circuit's next literals and left sides are defined
pub cut_of_circuit : (cuts : Cuts) (raw : Raw) → IsCircuit raw → IsCut raw (cut_of cuts raw)
cut_of_circuit cuts raw circuit =
    cuts_are cuts raw (each_use (λ l. IsDefined raw (variable l)) raw circuit.sound.defined).nexts
    (All-by_get (λ (g : Gate). IsDefined raw (variable g.lhs)) raw.gates (λ k g at.
    Contains-later (map variable (definitions raw)) (variable g.lhs)
    (Contains-from_slice_get (map variable (definitions raw)) (length raw.inputs + length raw.latches + k) (variable g.lhs)
    (slice_get-map variable (definitions raw) (length raw.inputs + length raw.latches + k)
    ∙ ap (option_map variable) (gate_place raw k g at)))))
  where
    Contains-later : (xs : List ℕ) (y : ℕ) → Contains xs y → Contains (0 ∷ xs) y
    Contains-later xs y (k, lt, is) = (suc k, omega (arith, lt), is)

pub cut_by_text : (raw x : Raw) (text : List ℕ) → IsCircuit raw → IsCutBy raw text x → IsCut raw x
cut_by_text raw x text circuit by =
    subst (λ (r : Raw). IsCut raw r) (sym by.is) (cut_of_circuit (named_by by.cuts) raw circuit)
