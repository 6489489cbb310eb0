-- What a viewer sees in the dump of a run.
use Rattle.std.proofs.Common.{◌≡◌, ℕ, zero, suc, ◌^◌, ◌<◌, ◌≤◌, List, [], ◌∷◌, ◌++◌, length, slice_get, Some, None, All}
use Rattle.std.proofs.Common.{inl, inr, refl, sym, ap, ◌∙◌, subst, arith}
use Rattle.std.specs.Prelude.{Option}
use Rattle.std.proofs.lemmas.Bool.{cases_lt}
use Rattle.std.proofs.lemmas.List.{append-nil}
use Rattle.std.proofs.lemmas.List.Elements.{All-nil, All-cons}
use Rattle.aig_parts.specs.declared.ternary.Tern.{Tern}
use Rattle.aig_parts.specs.declared.ternary.Tern.TheVariants.{Zero, One, X}
use Rattle.aig_parts.specs.declared.raw.Raw.{Raw}
use Rattle.aig_base.specs.Sound.{IsSound}
use Rattle.aig_base.specs.Value.{Value}
use Rattle.aig_base.proofs.values.UniqueValue.{unique}
use Rattle.aig_values.specs.Characters.{character}
use Rattle.aig_sim.specs.StimulusText.{IsCharacter}
use Rattle.aig_values.specs.Trace.{AreValues}
use Rattle.aig_sim.specs.Dump.{signals, first_text, next_text, AreFrames, closing, IsDump}
use Rattle.aig_sim.specs.DumpHeader.{header}
use Rattle.aig_names.specs.Names.{identifier_code}
use Rattle.aig_sim.specs.DumpRead.{lines_after, seen, read_value, ShowsFrames}
use Rattle.aig_sim.proofs.LineLemmas.{IsCharacter-of_value}
use Rattle.aig_sim.proofs.DumpLines.{header_directives}
use Rattle.aig_sim.proofs.DumpReading.{Leads, leads_then, leads_directives, leads_time, leads_first, leads_next}
use Rattle.aig_sim.proofs.DumpReading.{leads_later}

module _ (raw : Raw) (start : List Tern) (rows : List (List Tern)) where
  are_characters : (t : ℕ) (ls cs : List ℕ) → AreValues raw start rows t ls cs → All IsCharacter cs
  are_characters t [] [] h = All-nil IsCharacter
  are_characters t [] (c ∷ cs) h = absurd h
  are_characters t (l ∷ ls) [] h = absurd h
  are_characters t (l ∷ ls) (c ∷ cs) h =
      All-cons IsCharacter c cs (subst IsCharacter (sym h.0.2) (IsCharacter-of_value h.0.0)) (are_characters t ls cs h.1)

  -- the value that stands for the literal at position n
  character_at : (t : ℕ) (ls cs : List ℕ) (n l : ℕ) → AreValues raw start rows t ls cs → slice_get ls n ≡ Some l
      → (w : Tern) × Value raw start rows t l w × (slice_get cs n ≡ Some (character w))
  character_at t [] cs n l h e = cc
  character_at t (x ∷ ls) [] n l h e = absurd h
  character_at t (x ∷ ls) (c ∷ cs) zero l h e =
      let same : x ≡ l = cc in
      (h.0.0, subst (λ (y : ℕ). Value raw start rows t y h.0.0) same h.0.1, ap Some h.0.2)
  character_at t (x ∷ ls) (c ∷ cs) (suc n) l h e = character_at t ls cs n l h.1 e

-- after this text of frames up to k a look at time t sees a value of frame u
record Shows (raw : Raw) (start : List Tern) (rows : List (List Tern)) (n t l k u : ℕ) (text : List ℕ) : Type 0 where
  pub value : Tern
  pub is_value : Value raw start rows u l value
  pub leads : Leads n t 0 None text k (Some (character value))

module _ (raw : Raw) (start : List Tern) (rows : List (List Tern)) (sound : IsSound raw) (n t l : ℕ)
    (at : slice_get (signals raw) n ≡ Some l) where
  -- frames up to the one that is looked at
  early : (k : ℕ) (text : List ℕ) → k ≤ t → k < 2 ^ 64 → AreFrames raw start rows (suc k) text
      → Shows raw start rows n t l k k text
  early zero text le small (before, frame, none, (cs, values, frame_is), text_is) =
      let (w, v, e) = character_at raw start rows 0 (signals raw) cs n l values at in
      let same : [] ++ first_text cs ≡ text = ap (λ (a : List ℕ). a ++ first_text cs) (sym none)
      ∙ ap (λ (b : List ℕ). before ++ b) (sym frame_is) ∙ sym text_is in
      record {
        value = w;
        is_value = v;
        leads = subst (λ (x : List ℕ). Leads n t 0 None x 0 (Some (character w))) same
            (leads_first n t 0 (character w) None cs (are_characters raw start rows 0 (signals raw) cs values) e);
      }
  early (suc k) text le small (before, frame, frames, (bs, cs, old, values, frame_is), text_is) =
      let h = early k before (omega arith) (omega arith) frames in
      let (b, vb, d) = character_at raw start rows k (signals raw) bs n l old at in
      let (w, v, e) = character_at raw start rows (suc k) (signals raw) cs n l values at in
      let known : b ≡ h.value = unique raw start rows sound vb h.is_value in
      let d' : slice_get bs n ≡ Some (character h.value) = d ∙ ap (λ (x : Tern). Some (character x)) known in
      let same : before ++ next_text (suc k) bs cs ≡ text =
      ap (λ (x : List ℕ). before ++ x) (sym frame_is) ∙ sym text_is in
      record {
        value = w;
        is_value = v;
        leads = subst (λ (x : List ℕ). Leads n t 0 None x (suc k) (Some (character w))) same
            (leads_then h.leads
            (leads_next n t k (suc k) (character h.value) (character w) bs cs small le
            (are_characters raw start rows (suc k) (signals raw) cs values) d' e));
      }

  -- and those after it
  late : (k : ℕ) (text : List ℕ) → t ≤ k → k < 2 ^ 64 → AreFrames raw start rows (suc k) text
      → Shows raw start rows n t l k t text
  late zero text le small frames =
      let now : 0 ≡ t = omega arith in
      subst (λ (u : ℕ). Shows raw start rows n t l 0 u text) now (early 0 text (omega arith) small frames)
  late (suc k) text le small (before, frame, frames, (bs, cs, old, values, frame_is), text_is) =
      elim (cases_lt k t) [
        | inl lt ↦
            let now : suc k ≡ t = omega arith in
            subst (λ (u : ℕ). Shows raw start rows n t l (suc k) u text) now
            (early (suc k) text (omega arith) small (before, frame, frames, (bs, cs, old, values, frame_is), text_is))
        | inr ge ↦
            let h = late k before ge (omega arith) frames in
            let same : before ++ next_text (suc k) bs cs ≡ text =
            ap (λ (x : List ℕ). before ++ x) (sym frame_is) ∙ sym text_is in
            record {
              value = h.value;
              is_value = h.is_value;
              leads = subst (λ (x : List ℕ). Leads n t 0 None x (suc k) (Some (character h.value))) same
                  (leads_then h.leads
                  (leads_later n t k (suc k) (Some (character h.value)) bs cs small (omega arith)
                  (are_characters raw start rows (suc k) (signals raw) cs values)));
            }
      ]

-- the text of a dump leads there from nothing
read_back : (m t now : ℕ) (value : Option ℕ) (text : List ℕ) → Leads m t 0 None text now value
    → read_value text (identifier_code m) t ≡ value
unfolding seen lines_after
read_back m t now value text h =
    ap (λ (x : List ℕ). read_value x (identifier_code m) t) (sym (append-nil text)) ∙ h.at []

header_then : (raw : Raw) (m t k : ℕ) (value : Option ℕ) (frames : List ℕ) → Leads m t 0 None frames k value
    → Leads m t 0 None (header raw ++ frames) k value
header_then raw m t k value frames h =
    leads_then (leads_directives m t 0 None (header raw) (header_directives raw)) h

-- what a viewer sees of a signal in the first frames, and in the whole dump
pub frames_shown : (raw : Raw) (start : List Tern) (rows : List (List Tern)) (k : ℕ) (frames : List ℕ) → IsSound raw
    → k ≤ 2 ^ 64 → AreFrames raw start rows k frames → ShowsFrames raw start rows k (header raw ++ frames)
frames_shown raw start rows zero frames sound small are t n l lt at = absurd (omega arith)
frames_shown raw start rows (suc k) frames sound small are t n l lt at =
    let s = late raw start rows sound n t l at k frames (omega arith) (omega arith) are in (
      s.value,
      s.is_value,
      read_back n t k (Some (character s.value)) (header raw ++ frames)
          (header_then raw n t k (Some (character s.value)) frames s.leads),
    )

closed : (m t k : ℕ) (value : Option ℕ) (frames : List ℕ) → suc k < 2 ^ 64 → Leads m t 0 None frames k value
    → Leads m t 0 None (frames ++ closing (suc k)) (suc k) value
closed m t k value frames small h = leads_then h (leads_time m t k (suc k) value small)

ended_shown : (raw : Raw) (start : List Tern) (rows : List (List Tern)) (k : ℕ) (frames : List ℕ) → IsSound raw
    → k < 2 ^ 64 → AreFrames raw start rows k frames
    → ShowsFrames raw start rows k (header raw ++ (frames ++ closing k))
ended_shown raw start rows zero frames sound small are t n l lt at = absurd (omega arith)
ended_shown raw start rows (suc k) frames sound small are t n l lt at =
    let s = late raw start rows sound n t l at k frames (omega arith) (omega arith) are in (
      s.value,
      s.is_value,
      read_back n t (suc k) (Some (character s.value)) (header raw ++ (frames ++ closing (suc k)))
          (header_then raw n t (suc k) (Some (character s.value)) (frames ++ closing (suc k))
          (closed n t k (Some (character s.value)) frames small s.leads)),
    )

pub dump_shown : (raw : Raw) (start : List Tern) (rows : List (List Tern)) (text : List ℕ) → IsSound raw
    → length rows < 2 ^ 64 → IsDump raw start rows text → ShowsFrames raw start rows (length rows) text
dump_shown raw start rows text sound small h =
    subst (λ (x : List ℕ). ShowsFrames raw start rows (length rows) x) (sym h.text_is)
    (ended_shown raw start rows (length rows) h.frames sound small h.frames_are)
