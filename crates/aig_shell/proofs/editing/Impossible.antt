-- Why a line that edits is impossible.
use Rattle.std.proofs.Common.{◌≡◌, ◌≢◌, ◌↔◌, Bool, true, false, IsTrue, ℕ, zero, suc, ◌+◌, ◌*◌, ◌^◌, ◌<◌, ◌≤◌, List, []}
use Rattle.std.proofs.Common.{◌∷◌, All, length, replicate, Option, None, Some, ◌⊎◌, refl, sym, ap, subst, ◌∙◌, arith}
use Rattle.std.proofs.lemmas.Fmt.{decimal_injective}
use Rattle.std.proofs.lemmas.Bool.{false≢true}
use Rattle.aig_parts.specs.Literal.{variable}
use Rattle.aig_bench.specs.Question.{ForbidsValue}
use Rattle.aig_parts.specs.Formed.{limit}
use Rattle.aig_parts.specs.Limits.{cell_limit, frame_limit}
use Rattle.aig_parts.specs.declared.raw.Raw.{Raw}
use Rattle.aig_parts.specs.declared.symbols.Kind.TheVariants.{Output}
use Rattle.aig_parts.specs.declared.ternary.Tern.{Tern}
use Rattle.aig_parts.specs.declared.ternary.Tern.TheVariants.{X}
use Rattle.aig_base.specs.Circuit.{IsCircuit}
use Rattle.aig_base.specs.Sections.{IsDefined, IsLatchLiteral}
use Rattle.aig_base.proofs.circuits.Gates.{defined_in_range}
use Rattle.aig_bench.specs.declared.edit.EditFault.{EditFault}
use Rattle.aig_bench.specs.declared.edit.EditFault.TheVariants as fault
use Rattle.aig_bench.specs.BenchState.{CircuitAndRows}
use Rattle.aig_bench.specs.Edit.{Edit, edited, Forbids, NoneApplies, IsLeastFault, LacksMemory, append_gate, set_output}
use Rattle.aig_bench.specs.Edit as edit
use Rattle.aig_signals.specs.Lookup.{Means, alone, entry_in}
use Rattle.aig_shell.specs.Edits.{ArePositions, MeansInputs, MeansLatches, IsCount, Does, IsImpossible}
use Rattle.aig_shell.specs.Request.{add, drop, out, append, rewire}
use Rattle.aig_shell.specs.State.{Leads}
use Rattle.aig_shell.proofs.editing.Allowed.{refused}
use Rattle.aig_shell.proofs.editing.Leading.{all_fit, all_there, leads_one}
use Rattle.aig_shell.proofs.words.Meanings.{means_one}

pub small_variables : (raw : Raw) → IsCircuit raw → (v : ℕ) → IsDefined raw v → v < 2 ^ 32
small_variables raw circuit v h =
    let a : v ≤ raw.max_var = defined_in_range raw circuit.sound v h in
    let b : raw.max_var ≤ limit = circuit.formed.counts.max_var in
    omega (arith, a, b)

pub latches_found : (raw : Raw) (literals : List ℕ) (other : Raw) (given : List ℕ) (b : Bool) → other ≡ raw → given ≡ literals
    → b ≡ true → IsTrue b ↔ All (IsLatchLiteral other) given → All (IsLatchLiteral raw) literals
latches_found raw literals other given b e f g r =
    subst (All (IsLatchLiteral raw)) f (subst (λ (x : Raw). All (IsLatchLiteral x) given) e (r.0 g))

pub value_allowed : (p : CircuitAndRows) (t l : ℕ) → IsCircuit p.circuit → t < length p.rows → IsDefined p.circuit (variable l)
    → (f : EditFault) → ForbidsValue p t l f → ⊥
value_allowed p t l circuit a b fault.Range h =
    let v : variable l ≤ p.circuit.max_var = defined_in_range p.circuit circuit.sound (variable l) b in
    h (grind (arith, v))
value_allowed p t l circuit a b fault.Undefined h = h b
value_allowed p t l circuit a b fault.NoFrame h = omega (arith, a, h)
value_allowed p t l circuit a b _ h = h

module _ (raw : Raw) (circuit : IsCircuit raw) where
  pub inputs_none : (word literals : List ℕ) → Means raw word literals → ((ps : List ℕ) → ArePositions raw literals ps → ⊥)
      → (ps : List ℕ) → MeansInputs raw word ps → ⊥
  inputs_none word literals given none ps (a, m, z) =
      none ps (subst (λ (ls : List ℕ). ArePositions raw ls ps)
      (means_one raw (small_variables raw circuit) word a literals m given) z)

  pub latches_none : (word literals : List ℕ) → Means raw word literals → (All (IsLatchLiteral raw) literals → ⊥)
      → (ls : List ℕ) → MeansLatches raw word ls → ⊥
  latches_none word literals given none ls (m, z) =
      none (subst (All (IsLatchLiteral raw)) (means_one raw (small_variables raw circuit) word ls literals m given) z)

  pub inputs_refused : (word literals : List ℕ) → Means raw word literals → (other : Raw) (given : List ℕ) → other ≡ raw → given ≡ literals
      → ((ps : List ℕ) → ArePositions other given ps → ⊥) → (ps : List ℕ) → MeansInputs raw word ps → ⊥
  inputs_refused word literals means other given e f none =
      inputs_none word literals means (λ ps h. none ps (subst (λ (r : Raw). ArePositions r given ps) (sym e)
      (subst (λ (ls : List ℕ). ArePositions raw ls ps) (sym f) h)))

  pub latches_refused : (word literals : List ℕ) → Means raw word literals → (other : Raw) (given : List ℕ) (b : Bool) → other ≡ raw
      → given ≡ literals → b ≡ false → IsTrue b ↔ All (IsLatchLiteral other) given → (ls : List ℕ) → MeansLatches raw word ls → ⊥
  latches_refused word literals means other given b e f g r =
      latches_none word literals means (λ h. false≢true (sym g ∙ r.1 (subst (λ (x : Raw). All (IsLatchLiteral x) given) (sym e)
      (subst (All (IsLatchLiteral raw)) (sym f) h))))

  one_literal : (word : List ℕ) (l m : ℕ) → Means raw word (alone l) → Means raw word (alone m) → l ≡ m
  one_literal word l m a b =
      let e : alone l ≡ alone m = means_one raw (small_variables raw circuit) word (alone l) (alone m) a b in
      cc e

count_one : (word : Option (List ℕ)) (n m : ℕ) → IsCount word n → IsCount word m → n ≡ m
count_one None n m a b = a ∙ sym b
count_one (Some word) n m (e, p, s) (f, q, t) = decimal_injective n m (omega (arith, s)) (omega (arith, t)) (sym e ∙ f)

pub no_add : (p : CircuitAndRows) (word : Option (List ℕ)) (count : ℕ) → IsCount word count → 0 < count
    → ((length p.rows + count ≤ frame_limit) × ((p.circuit.max_var + 1) * (length p.rows + count) ≤ cell_limit) → ⊥)
    → IsImpossible p (add word)
no_add p word zero is some far q does = absurd (omega (arith, some))
no_add p word (suc k) is some far q (edits, (n, count, e), h) =
    let same : n ≡ suc k = count_one word n (suc k) count is in
    far (all_fit k p q (replicate (length p.circuit.inputs) X)
    (subst (λ m. Leads p (replicate m (edit.add_frame (replicate (length p.circuit.inputs) X))) q) same (subst (λ (es : List Edit). Leads p es q) e h)))

pub no_room : (raw other : Raw) (rows n count : ℕ) (b : Bool) → other ≡ raw → n ≡ rows → b ≡ false
    → IsTrue b ↔ ((n + count ≤ frame_limit) × ((other.max_var + 1) * (n + count) ≤ cell_limit))
    → (rows + count ≤ frame_limit) × ((raw.max_var + 1) * (rows + count) ≤ cell_limit) → ⊥
no_room raw other rows n count b e f g r h =
    false≢true (sym g ∙ r.1 (subst (λ m. (m + count ≤ frame_limit) × ((other.max_var + 1) * (m + count) ≤ cell_limit)) (sym f)
    (subst (λ (x : Raw). (rows + count ≤ frame_limit) × ((x.max_var + 1) * (rows + count) ≤ cell_limit)) (sym e) h)))

pub no_drop : (p : CircuitAndRows) (word : Option (List ℕ)) (count : ℕ) → IsCount word count → length p.rows < count
    → IsImpossible p (drop word)
no_drop p word count is far q (edits, (n, given, e), h) =
    let same : n ≡ count = count_one word n count given is in
    let there : n ≤ length p.rows = all_there n p q (subst (λ (es : List Edit). Leads p es q) e h) in
    omega (arith, same, there, far)

module _ (p : CircuitAndRows) where
  pub no_literal : (name word : List ℕ) → ((l : ℕ) → Means p.circuit word (alone l) → ⊥) → IsImpossible p (out name word)
  no_literal name word none q (edits, (i, l, e, m, is), h) = none l m

  pub out_done : (new : CircuitAndRows) (name word : List ℕ) (i l : ℕ) → entry_in p.circuit name Output ≡ Some i
      → Means p.circuit word (alone l) → NoneApplies (Forbids p (set_output i l)) × (new ≡ edited p (set_output i l)) → Does p (out name word) new
  out_done new name word i l named means r =
      (set_output i l ∷ [], (i, l, named, means, refl), leads_one p new (set_output i l) r.0 r.1)

  pub no_side0 : (a b : List ℕ) → ((l : ℕ) → Means p.circuit a (alone l) → ⊥) → IsImpossible p (append a b)
  no_side0 a b none q (edits, (r0, r1, m, k, is), h) = none r0 m

  pub no_side1 : (a b : List ℕ) → ((l : ℕ) → Means p.circuit b (alone l) → ⊥) → IsImpossible p (append a b)
  no_side1 a b none q (edits, (r0, r1, m, k, is), h) = none r1 k

  pub append_done : (new : CircuitAndRows) (a b : List ℕ) (r0 r1 : ℕ) → Means p.circuit a (alone r0) → Means p.circuit b (alone r1)
      → NoneApplies (Forbids p (append_gate r0 r1)) × (new ≡ edited p (append_gate r0 r1)) → Does p (append a b) new
  append_done new a b r0 r1 x y r =
      (append_gate r0 r1 ∷ [], (r0, r1, x, y, refl), leads_one p new (append_gate r0 r1) r.0 r.1)

  pub no_gate : (n a b : List ℕ) → ((l : ℕ) → Means p.circuit n (alone l) → ⊥) → IsImpossible p (rewire n a b)
  no_gate n a b none q (edits, (l, r0, r1, o, m, k, is), h) = none l o

  pub no_gate0 : (n a b : List ℕ) → ((l : ℕ) → Means p.circuit a (alone l) → ⊥) → IsImpossible p (rewire n a b)
  no_gate0 n a b none q (edits, (l, r0, r1, o, m, k, is), h) = none r0 m

  pub no_gate1 : (n a b : List ℕ) → ((l : ℕ) → Means p.circuit b (alone l) → ⊥) → IsImpossible p (rewire n a b)
  no_gate1 n a b none q (edits, (l, r0, r1, o, m, k, is), h) = none r1 k

  pub rewire_done : (new : CircuitAndRows) (n a b : List ℕ) (l r0 r1 : ℕ) → Means p.circuit n (alone l) → Means p.circuit a (alone r0)
      → Means p.circuit b (alone r1) → NoneApplies (Forbids p (edit.rewire l r0 r1)) × (new ≡ edited p (edit.rewire l r0 r1)) → Does p (rewire n a b) new
  rewire_done new n a b l r0 r1 z x y r =
      (edit.rewire l r0 r1 ∷ [], (l, r0, r1, z, x, y, refl), leads_one p new (edit.rewire l r0 r1) r.0 r.1)

module _ (p : CircuitAndRows) (circuit : IsCircuit p.circuit) where
  pub no_out : (new : CircuitAndRows) (name word : List ℕ) (i l : ℕ) (f : EditFault) → entry_in p.circuit name Output ≡ Some i
      → Means p.circuit word (alone l) → (IsLeastFault (Forbids p (set_output i l)) f ⊎ LacksMemory p (set_output i l) f) × (new ≡ p) → f ≢ fault.Memory → IsImpossible p (out name word)
  no_out new name word i l f named means r other q (edits, (j, m, e, k, is), h) =
      let position : Some j ≡ Some i = sym e ∙ named in
      let a : j ≡ i = cc position in
      let b : m ≡ l = one_literal p.circuit circuit word m l k means in
      refused p new q (set_output i l) f r other
      (subst (λ (es : List Edit). Leads p es q) (is ∙ (λ t. set_output (a t) (b t) ∷ [])) h)

  pub no_append : (new : CircuitAndRows) (a b : List ℕ) (r0 r1 : ℕ) (f : EditFault) → Means p.circuit a (alone r0)
      → Means p.circuit b (alone r1) → (IsLeastFault (Forbids p (append_gate r0 r1)) f ⊎ LacksMemory p (append_gate r0 r1) f) × (new ≡ p) → f ≢ fault.Memory → IsImpossible p (append a b)
  no_append new a b r0 r1 f x y r other q (edits, (s0, s1, m, k, is), h) =
      let c : s0 ≡ r0 = one_literal p.circuit circuit a s0 r0 m x in
      let d : s1 ≡ r1 = one_literal p.circuit circuit b s1 r1 k y in
      refused p new q (append_gate r0 r1) f r other
      (subst (λ (es : List Edit). Leads p es q) (is ∙ (λ t. append_gate (c t) (d t) ∷ [])) h)

  pub no_rewire : (new : CircuitAndRows) (n a b : List ℕ) (l r0 r1 : ℕ) (f : EditFault) → Means p.circuit n (alone l)
      → Means p.circuit a (alone r0) → Means p.circuit b (alone r1) → (IsLeastFault (Forbids p (edit.rewire l r0 r1)) f ⊎ LacksMemory p (edit.rewire l r0 r1) f) × (new ≡ p)
      → f ≢ fault.Memory → IsImpossible p (rewire n a b)
  no_rewire new n a b l r0 r1 f z x y r other q (edits, (g, s0, s1, o, m, k, is), h) =
      let e : g ≡ l = one_literal p.circuit circuit n g l o z in
      let c : s0 ≡ r0 = one_literal p.circuit circuit a s0 r0 m x in
      let d : s1 ≡ r1 = one_literal p.circuit circuit b s1 r1 k y in
      refused p new q (edit.rewire l r0 r1) f r other
      (subst (λ (es : List Edit). Leads p es q) (is ∙ (λ t. edit.rewire (e t) (c t) (d t) ∷ [])) h)
