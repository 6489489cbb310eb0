-- A circuit without gates and properties has no entries in any frame.
use Rattle.std.proofs.Common.{◌≡◌, ℕ, zero, suc, Bool, false, if◌then◌else◌, List, [], ◌++◌, length, map, nat_lt, ◌&&◌}
use Rattle.std.proofs.Common.{refl, sym, ◌∙◌, ap, ap₂}
use Rattle.std.specs.List.{range_with_len}
use Rattle.aig_parts.specs.declared.gate.Gate.{Gate}
use Rattle.aig_parts.specs.declared.raw.Raw.{Raw}
use Rattle.aig_base.specs.Renumbered.{ordered_gates}
use Rattle.aig_unroll.specs.declared.unrolling.sections.Sections.{Sections}
use Rattle.aig_unroll.specs.FrameLiteral.{frame_literal, has_guards, chain_count, guard_count}
use Rattle.aig_unroll.specs.state.FrameTable.{AddsNothing, AreSections}
use Rattle.aig_unroll.specs.Unrolled.{frames, frame_literals, frame_bad, frame_gate, frame_gates, chain_gate}
use Rattle.aig_unroll.specs.Unrolled.{guard_gate, guard_literal, kept_constraints}

frames_of_none : {A : Type 0} (f : ℕ → List A) → ((t : ℕ) → f t ≡ []) → (n : ℕ) → frames f n ≡ []
frames_of_none f none zero = refl
frames_of_none f none (suc n) = ap₂ (λ xs ys. xs ++ ys) (frames_of_none f none n) (none n)

module _ (raw : Raw) (order : List ℕ) (k : ℕ) (adds : AddsNothing raw order) where
  unguarded : has_guards raw ≡ false
  unguarded = ap (λ (ls : List ℕ). nat_lt 0 (length ls) && nat_lt 0 (length raw.constraints)) adds.bad

  literals : (ls : List ℕ) → ls ≡ [] → (t : ℕ) → frame_literals raw order k ls t ≡ []
  literals ls none t = ap (map (frame_literal raw order k t)) none

  bad : (t : ℕ) → frame_bad raw order k t ≡ []
  bad t = ap (λ (b : Bool). if b then map (guard_literal raw k t) (range_with_len 0 (guard_count raw))
      else frame_literals raw order k raw.bad t) unguarded
      ∙ literals raw.bad adds.bad t

  kept : kept_constraints raw ≡ []
  kept = ap (λ (b : Bool). if b then [] else raw.constraints) unguarded ∙ adds.constraints

  no_chain : chain_count raw ≡ 0
  no_chain = ap (λ (b : Bool). if b then length raw.constraints else 0) unguarded

  no_guards : guard_count raw ≡ 0
  no_guards = ap (λ (b : Bool). if b then length raw.bad else 0) unguarded

  gates : (t : ℕ) → frame_gates raw order k t ≡ []
  gates t = ap₂ (λ (xs ys : List Gate). xs ++ ys)
      (ap₂ (λ (xs ys : List Gate). xs ++ ys) (ap (λ vs. map (frame_gate raw order k t) (ordered_gates raw vs)) adds.gates)
      (ap (λ n. map (chain_gate raw order k t) (range_with_len 0 n)) no_chain))
      (ap (λ n. map (guard_gate raw order k t) (range_with_len 0 n)) no_guards)

  -- so empty sections are those of any number of frames
  pub no_sections : (sections : Sections) → sections.outputs ≡ [] → sections.bad ≡ [] → sections.constraints ≡ []
      → sections.gates ≡ [] → (n : ℕ) → AreSections raw order k n sections
  no_sections sections a b c d n = record {
    outputs = a ∙ sym (frames_of_none (frame_literals raw order k raw.outputs) (literals raw.outputs adds.outputs) n);
    bad = b ∙ sym (frames_of_none (frame_bad raw order k) bad n);
    constraints = c
        ∙ sym (frames_of_none (frame_literals raw order k (kept_constraints raw)) (literals (kept_constraints raw) kept) n);
    gates = d ∙ sym (frames_of_none (frame_gates raw order k) gates n);
  }
