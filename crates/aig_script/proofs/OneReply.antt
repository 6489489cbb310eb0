-- A line has one reply, unless no memory was found.
use Rattle.std.proofs.Common.{◌≡◌, ◌≢◌, ◌⊎◌, inl, inr, ℕ, zero, suc, ◌<◌, ◌≤◌, List, [], ◌∷◌, ◌++◌, get_or, length, map}
use Rattle.std.proofs.Common.{Result, Ok, Err, refl, sym, ap, ◌∙◌, subst, arith}
use Rattle.std.specs.Prelude.{codes}
use Rattle.std.specs.List.{AllZip}
use Rattle.std.proofs.lemmas.Bool.{cases_lt}
use Rattle.aig_parts.specs.declared.raw.Raw.{Raw}
use Rattle.aig_parts.specs.declared.ternary.Tern.{Tern}
use Rattle.aig_base.specs.Order.{IsCanonicalOrder}
use Rattle.aig_base.specs.Sound.{IsSound}
use Rattle.aig_base.specs.Value.{Value, start_of}
use Rattle.aig_base.proofs.levels.OneOrder.{one_order}
use Rattle.aig_base.proofs.values.UniqueValue.{unique}
use Rattle.aig_values.specs.Characters.{character}
use Rattle.aig_values.specs.Trace.{AreValues, IsTraceLine, AreLines}
use Rattle.aig_unroll.specs.declared.fault.UnrollFault.{UnrollFault}
use Rattle.aig_unroll.specs.declared.fault.UnrollFault.TheVariants as unroll_faults
use Rattle.aig_unroll.specs.Answers.{IsUnrollable, IsUnrolled, RefusesUnrolling, AnswersUnrolling}
use Rattle.aig_unroll.specs.Unrolled.{unrolled}
use Rattle.aig_bench.specs.declared.edit.EditFault.{EditFault}
use Rattle.aig_bench.specs.declared.edit.EditFault.TheVariants as faults
use Rattle.aig_bench.specs.BenchState.{CircuitAndRows, HasTrace}
use Rattle.aig_bench.specs.Edit.{Edit, Edits, Forbids, IsLeastFault, edit_fault_number, edited}
use Rattle.aig_bench.specs.Question.{ForbidsValue, AnswersValue}
use Rattle.aig_script.specs.Command.{Command, edit, value, trace, unroll, command_text, IsCommand}
use Rattle.aig_script.specs.Lines.{Line, whole, unfinished}
use Rattle.aig_script.specs.Replies.{edit_reply, value_reply, unroll_reply, CommandReply, IsBad, WholeReply, LineReply}
use Rattle.aig_script.specs.Meaning.{out_of_memory}
use Rattle.aig_script.proofs.OneCommand.{one_command}

-- ---- faults

-- the fault of a number
abbrev pub fault_of : ℕ → EditFault
fault_of n =
    get_or (faults.Memory ∷ faults.NotAGate ∷ faults.NotALatch ∷ faults.Range ∷ faults.Undefined ∷ faults.Cycle
    ∷ faults.NoFrame ∷ faults.NoInput ∷ faults.Length ∷ faults.Empty ∷ faults.Limit ∷ faults.Memory ∷ faults.Memory
    ∷ faults.NoOutput ∷ []) n faults.Memory

fault_back : (f : EditFault) → fault_of (edit_fault_number f) ≡ f
fault_back faults.NotAGate = refl
fault_back faults.NotALatch = refl
fault_back faults.Range = refl
fault_back faults.Undefined = refl
fault_back faults.Cycle = refl
fault_back faults.NoFrame = refl
fault_back faults.NoInput = refl
fault_back faults.Length = refl
fault_back faults.Empty = refl
fault_back faults.Limit = refl
fault_back faults.Memory = refl
fault_back faults.NoOutput = refl

same_fault : (f g : EditFault) → edit_fault_number f ≡ edit_fault_number g → f ≡ g
same_fault f g e = sym (fault_back f) ∙ ap fault_of e ∙ fault_back g

one_least : (P : EditFault → Type 0) (f g : EditFault) → IsLeastFault P f → IsLeastFault P g → f ≡ g
one_least P f g h k =
    elim (cases_lt (edit_fault_number f) (edit_fault_number g)) [
      | inl lt ↦ absurd (k.1 f lt h.0)
      | inr le ↦ elim (cases_lt (edit_fault_number g) (edit_fault_number f)) [
        | inl lt ↦ absurd (h.1 g lt k.0)
        | inr ge ↦ same_fault f g (omega arith)
      ]
    ]

-- ---- edits

-- an edit with its answer and the pair that it leaves
pub one_edit : (p : CircuitAndRows) (e : Edit) (r s : Result (Unit {0}) EditFault) (m n : CircuitAndRows) → Edits p e r m → Edits p e s n
    → r ≢ Err faults.Memory → s ≢ Err faults.Memory → (r ≡ s) × (m ≡ n)
one_edit p e (Ok x) (Ok y) m n h k some more = (refl, h.1 ∙ sym k.1)
one_edit p e (Ok x) (Err g) m n (none, is) (inl least, same) some more = absurd (none g least.0)
one_edit p e (Ok x) (Err g) m n h (inr lacks, same) some more = absurd (more (ap Err lacks.0))
one_edit p e (Err f) (Ok y) m n (inl least, same) (none, is) some more = absurd (none f least.0)
one_edit p e (Err f) (Ok y) m n (inr lacks, same) k some more = absurd (some (ap Err lacks.0))
one_edit p e (Err f) (Err g) m n (inl least, is) (inl other, same) some more =
    (ap Err (one_least (Forbids p e) f g least other), is ∙ sym same)
one_edit p e (Err f) (Err g) m n (inl least, is) (inr lacks, same) some more = absurd (more (ap Err lacks.0))
one_edit p e (Err f) (Err g) m n (inr lacks, is) k some more = absurd (some (ap Err lacks.0))

-- ---- values

one_value : (p : CircuitAndRows) (t l : ℕ) (r s : Result Tern EditFault) → IsSound p.circuit → AnswersValue p t l r
    → AnswersValue p t l s → r ≡ s
one_value p t l (Ok v) (Ok w) sound h k = ap Ok (unique p.circuit (start_of p.circuit) p.rows sound h.1 k.1)
one_value p t l (Ok v) (Err g) sound h k = absurd (h.0 g k.0)
one_value p t l (Err f) (Ok w) sound h k = absurd (k.0 f h.0)
one_value p t l (Err f) (Err g) sound h k = ap Err (one_least (ForbidsValue p t l) f g h k)

-- ---- traces

module _ (raw : Raw) (start : List Tern) (rows : List (List Tern)) (sound : IsSound raw) where
  one_text : (t : ℕ) (ls bs cs : List ℕ) → AreValues raw start rows t ls bs → AreValues raw start rows t ls cs → bs ≡ cs
  one_text t [] [] [] h k = refl
  one_text t [] [] (c ∷ cs) h k = absurd k
  one_text t [] (b ∷ bs) cs h k = absurd h
  one_text t (l ∷ ls) [] cs h k = absurd h
  one_text t (l ∷ ls) (b ∷ bs) [] h k = absurd k
  one_text t (l ∷ ls) (b ∷ bs) (c ∷ cs) h k =
      let same : h.0.0 ≡ k.0.0 = unique raw start rows sound h.0.1 k.0.1 in
      let first : b ≡ c = h.0.2 ∙ ap character same ∙ sym k.0.2 in
      ap (λ (x : ℕ). x ∷ bs) first ∙ ap (λ (xs : List ℕ). c ∷ xs) (one_text t ls bs cs h.1 k.1)

  one_line : (t : ℕ) (a b : List ℕ) → IsTraceLine raw start rows t a → IsTraceLine raw start rows t b → a ≡ b
  one_line t a b h k =
      let state = one_text t (map (λ x. x.lit) raw.latches) h.state k.state h.state_is k.state_is in
      let inputs = one_text t raw.inputs h.inputs k.inputs h.inputs_are k.inputs_are in
      let outputs = one_text t raw.outputs h.outputs k.outputs h.outputs_are k.outputs_are in
      let next = one_text t (map (λ x. x.next) raw.latches) h.next k.next h.next_is k.next_is in
      h.line_is
      ∙ (λ i. state i ++ (32 ∷ (inputs i ++ (32 ∷ (outputs i ++ (32 ∷ (next i ++ 10 ∷ [])))))))
      ∙ sym k.line_is

  one_trace : (n : ℕ) (a b : List ℕ) → AreLines raw start rows n a → AreLines raw start rows n b → a ≡ b
  one_trace zero a b h k = h ∙ sym k
  one_trace (suc t) a b h k =
      let front = one_trace t h.0 k.0 h.2 k.2 in
      let last = one_line t h.1 k.1 h.3 k.3 in
      h.4 ∙ (λ i. front i ++ last i) ∙ sym k.4

-- ---- unrolled circuits

one_unrolling : (raw : Raw) (k : ℕ) (r s : Result Raw UnrollFault) → IsSound raw → AnswersUnrolling raw k r
    → AnswersUnrolling raw k s → r ≢ Err unroll_faults.Memory → s ≢ Err unroll_faults.Memory → r ≡ s
one_unrolling raw k (Ok a) (Ok b) sound h g some more =
    let same = one_order raw sound h.1.0 g.1.0 h.1.1 g.1.1 in
    ap Ok (h.1.2 ∙ ap (λ (o : List ℕ). unrolled raw o k) same ∙ sym g.1.2)
one_unrolling raw k (Ok a) (Err unroll_faults.NoFrames) sound h g some more = let f = h.0.frames in absurd (omega arith)
one_unrolling raw k (Ok a) (Err unroll_faults.Liveness) sound h g some more = absurd (h.0.no_liveness g.1)
one_unrolling raw k (Ok a) (Err unroll_faults.Limit) sound h g some more = absurd (g.2 h.0.limits)
one_unrolling raw k (Ok a) (Err unroll_faults.Memory) sound h g some more = absurd (more refl)
one_unrolling raw k (Err unroll_faults.NoFrames) (Ok b) sound h g some more = let f = g.0.frames in absurd (omega arith)
one_unrolling raw k (Err unroll_faults.NoFrames) (Err unroll_faults.NoFrames) sound h g some more = refl
one_unrolling raw k (Err unroll_faults.NoFrames) (Err unroll_faults.Liveness) sound h g some more =
    let f = g.0 in absurd (omega arith)
one_unrolling raw k (Err unroll_faults.NoFrames) (Err unroll_faults.Limit) sound h g some more =
    let f = g.0 in absurd (omega arith)
one_unrolling raw k (Err unroll_faults.NoFrames) (Err unroll_faults.Memory) sound h g some more = absurd (more refl)
one_unrolling raw k (Err unroll_faults.Liveness) (Ok b) sound h g some more = absurd (g.0.no_liveness h.1)
one_unrolling raw k (Err unroll_faults.Liveness) (Err unroll_faults.NoFrames) sound h g some more =
    let f = h.0 in absurd (omega arith)
one_unrolling raw k (Err unroll_faults.Liveness) (Err unroll_faults.Liveness) sound h g some more = refl
one_unrolling raw k (Err unroll_faults.Liveness) (Err unroll_faults.Limit) sound h g some more = absurd (g.1 h.1)
one_unrolling raw k (Err unroll_faults.Liveness) (Err unroll_faults.Memory) sound h g some more = absurd (more refl)
one_unrolling raw k (Err unroll_faults.Limit) (Ok b) sound h g some more = absurd (h.2 g.0.limits)
one_unrolling raw k (Err unroll_faults.Limit) (Err unroll_faults.NoFrames) sound h g some more =
    let f = h.0 in absurd (omega arith)
one_unrolling raw k (Err unroll_faults.Limit) (Err unroll_faults.Liveness) sound h g some more = absurd (h.1 g.1)
one_unrolling raw k (Err unroll_faults.Limit) (Err unroll_faults.Limit) sound h g some more = refl
one_unrolling raw k (Err unroll_faults.Limit) (Err unroll_faults.Memory) sound h g some more = absurd (more refl)
one_unrolling raw k (Err unroll_faults.Memory) s sound h g some more = absurd (some refl)

-- ---- lines

-- the replies, and the pairs that are left
Same : List ℕ → List ℕ → CircuitAndRows → CircuitAndRows → Type 0
Same r s m n = (r ≡ s) × (m ≡ n)

one_command_reply : (p : CircuitAndRows) (c : Command) (r s : List ℕ) (m n : CircuitAndRows) → IsSound p.circuit → CommandReply p c r m
    → CommandReply p c s n → r ≢ out_of_memory → s ≢ out_of_memory → Same r s m n
unfolding Same
one_command_reply p (edit e) r s m n sound (x, h, is) (y, k, same) some more =
    let one = one_edit p e x y m n h.0 k.0 (λ f. some (is ∙ ap edit_reply f)) (λ f. more (same ∙ ap edit_reply f)) in
    (is ∙ ap edit_reply one.0 ∙ sym same, one.1)
one_command_reply p (value t l) r s m n sound (x, h, is, kept) (y, k, same, stays) some more =
    (is ∙ ap value_reply (one_value p t l x y sound h k) ∙ sym same, kept ∙ sym stays)
one_command_reply p trace r s m n sound (x, h, is, kept) (y, k, same, stays) some more = (
  is ∙ ap (λ (text : List ℕ). text ++ codes ".\n") (one_trace p.circuit (start_of p.circuit) p.rows sound
      (length p.rows) x y h k) ∙ sym same,
  kept ∙ sym stays,
)
one_command_reply p unroll r s m n sound (x, h, is, kept) (y, k, same, stays) some more =
    let one = one_unrolling p.circuit (length p.rows) x y sound h k (λ f. some (is ∙ ap unroll_reply f))
    (λ f. more (same ∙ ap unroll_reply f)) in
    (is ∙ ap unroll_reply one ∙ sym same, kept ∙ sym stays)

one_bad : (p : CircuitAndRows) (r s : List ℕ) (m n : CircuitAndRows) → IsBad p r m → IsBad p s n → Same r s m n
unfolding Same
one_bad p r s m n h k = (h.0 ∙ sym k.0, h.1 ∙ sym k.1)

one_whole_reply : (p : CircuitAndRows) (line r s : List ℕ) (m n : CircuitAndRows) → IsSound p.circuit → WholeReply p line r m
    → WholeReply p line s n → r ≢ out_of_memory → s ≢ out_of_memory → Same r s m n
one_whole_reply p line r s m n sound (inl (c, numbers, text, h)) (inl (d, others, same, k)) some more =
    let one : c ≡ d = one_command c d numbers others (sym text ∙ same) in
    one_command_reply p d r s m n sound (subst (λ (x : Command). CommandReply p x r m) one h) k some more
one_whole_reply p line r s m n sound (inl (c, numbers, text, h)) (inr (none, bad)) some more =
    absurd (none c numbers text)
one_whole_reply p line r s m n sound (inr (none, bad)) (inl (d, others, same, k)) some more =
    absurd (none d others same)
one_whole_reply p line r s m n sound (inr (none, bad)) (inr (never, worse)) some more = one_bad p r s m n bad worse

pub one_reply : (p : CircuitAndRows) (line : Line) (r s : List ℕ) (m n : CircuitAndRows) → IsSound p.circuit → LineReply p line r m
    → LineReply p line s n → r ≢ out_of_memory → s ≢ out_of_memory → (r ≡ s) × (m ≡ n)
unfolding Same
one_reply p (whole line) r s m n sound h k some more = one_whole_reply p line r s m n sound h k some more
one_reply p (unfinished line) r s m n sound h k some more = one_bad p r s m n h k
