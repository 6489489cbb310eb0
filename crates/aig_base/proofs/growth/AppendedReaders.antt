-- The readers of a circuit with one more gate.
use Rattle.std.proofs.Common.{◌≡◌, inl, inr, ℕ, ◌+◌, ◌≤◌, List, [], ◌∷◌, ◌++◌, length}
use Rattle.std.proofs.Common.{refl, sym, ap, subst, ◌∙◌, arith}
use Rattle.std.proofs.lemmas.List.{length_push}
use Rattle.std.proofs.lemmas.Option.{slice_get_within}
use Rattle.aig_parts.specs.declared.raw.Raw.{Raw}
use Rattle.aig_base.specs.Changes.{next_gate, with_appended_gate}
use Rattle.aig_base.specs.Circuit.{IsCircuit}
use Rattle.aig_parts.specs.Literal.{variable}
use Rattle.aig_base.specs.Readers.{AreReaders, GateList, ReadsVariable, reader_lists}
use Rattle.aig_base.specs.state.ReaderSlots.{Appends, AreTallied, ReadsBefore}
use Rattle.aig_base.specs.Sections.{IsDefined}
use Rattle.aig_base.proofs.growth.Appended.{gate_cases, more_sound, new_at, old_at}
use Rattle.aig_base.proofs.circuits.Gates.{sides_in_range}
use Rattle.aig_base.proofs.fan_outs.ReaderLists.{push_same, readers_of, tallied, tallied_all, tallied_more}

module _ (raw : Raw) (r0 r1 : ℕ) (c : IsCircuit raw) (d0 : IsDefined raw (variable r0)) (d1 : IsDefined raw
    (variable r1)) where
  still_reads : (v w : ℕ) → ReadsVariable raw w v → ReadsBefore (with_appended_gate raw r0 r1) (length raw.gates) w v
  still_reads v w (q, g, at, is, side) = (q, g, slice_get_within raw.gates q g at, old_at raw r0 r1 q g at, is, side)

  read_before : (v w : ℕ) → ReadsBefore (with_appended_gate raw r0 r1) (length raw.gates) w v → ReadsVariable raw w v
      × (v ≤ raw.max_var)
  read_before v w (q, g, below, at, is, side) = elim (gate_cases raw r0 r1 q g at) [
    | inl here ↦
        (let (in0, in1) = sides_in_range raw c.sound q g here in
        ((q, g, here, is, side), elim side [ inl e ↦ omega arith | inr e ↦ omega arith ]))
    | inr e ↦ absurd (omega arith)
  ]

  tallied_pushed : (slots : List GateList) (s : GateList) → s.items ≡ [] → AreTallied (raw.max_var + 1)
      (ReadsVariable raw) slots
      → AreTallied (raw.max_var + 1 + 1) (ReadsBefore (with_appended_gate raw r0 r1) (length raw.gates)) (slots
      ++ s ∷ [])
  tallied_pushed slots s e t = record {
    size = length_push slots s ∙ ap (λ n. n + 1) t.size;
    once = λ v w. subst (λ n. n ≤ 1) (sym (push_same slots s e v w)) (t.once v w);
    only = λ v w h. still_reads v w (t.only v w (subst (λ n. 1 ≤ n) (push_same slots s e v w) h));
    all = λ v w lt p. let (reads, le) = read_before v w p in
        subst (λ n. 1 ≤ n) (sym (push_same slots s e v w)) (t.all v w (omega arith) reads);
  }

  pub more_readers : (slots new : List GateList) → AreReaders raw (reader_lists slots)
      → Appends (variable r0) (variable r1) (variable (next_gate raw r0 r1).lhs) slots new
      → AreReaders (with_appended_gate raw r0 r1) (reader_lists new)
  more_readers slots new r a =
      let more = with_appended_gate raw r0 r1 in
      let g = next_gate raw r0 r1 in
      let pushed = slots ++ a.last ∷ [] in
      readers_of more new
      (tallied_all more (length raw.gates + 1) new (let long = length_push raw.gates g in omega arith)
      (tallied_more more (more_sound raw r0 r1 c.sound d0 d1) (length raw.gates) g (new_at raw r0 r1) pushed pushed new
      (tallied_pushed slots a.last a.empty (tallied raw slots r)) (record { lists = refl; room = λ x h. h }) a.both))
