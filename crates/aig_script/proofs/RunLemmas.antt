-- The end of a script.
use Rattle.std.proofs.Common.{◌≡◌, ◌⊎◌, inl, inr, ℕ, ◌+◌, List, [], ◌∷◌, ◌++◌, refl, sym, ap, ◌∙◌, Ok, Err, Result}
use Rattle.std.specs.Prelude.{Option, IfErr, codes}
use Rattle.std.proofs.lemmas.List.{append-nil}
use Rattle.aig_bytes.specs.Bytes.{IsAtEnd, Writes}
use Rattle.aig_bench.specs.declared.edit.EditFault.{EditFault}
use Rattle.aig_bench.specs.declared.edit.EditFault.TheVariants as faults
use Rattle.aig_bench.specs.BenchState.{CircuitAndRows}
use Rattle.aig_bench.specs.Edit.{Edit}
use Rattle.aig_bytes.specs.Flow.{flow}
use Rattle.aig_script.specs.Lines.{Line, unfinished, rest_from, whole_lines, last_piece, lines_of}
use Rattle.aig_script.specs.Replies.{edit_reply, AnswersEdit, EditReply}
use Rattle.aig_script.specs.Ran.{Reading, Ran, Failing}
use Rattle.aig_script.specs.ScriptLine.{ScriptLine}
use Rattle.aig_script.proofs.ReplyLemmas.{answered_push, answered_same, answered_flushed, stopped_push}

-- an answer of an edit, without its report
pub edit_reply_of : {A : Type 0} (old : CircuitAndRows) (e : Edit) (r : Result A EditFault) (new : CircuitAndRows) → AnswersEdit old e r new → EditReply old e (edit_reply r) new
edit_reply_of old e (Ok x) new h = (Ok tt, h, refl)
edit_reply_of old e (Err f) new h = (Err f, h, refl)

-- the answer of an edit that may find no memory on every pair
pub excused : {A : Type 0} (r : Result A EditFault) → IfErr r (λ f. f ≡ faults.Memory → Unit {0})
excused (Ok x) = tt
excused (Err f) = λ is. tt

-- what is after the last LF is a piece, or nothing
last_cases : (line : List ℕ) → (line ≡ []) ⊎ (last_piece line ≡ unfinished line ∷ [])
last_cases [] = inl refl
last_cases (b ∷ bytes) = inr refl

-- a piece is after the last LF
piece : (script : List ℕ) → (rest_from [] script ≡ [] → ⊥)
    → lines_of script ≡ whole_lines script ++ (unfinished (rest_from [] script) ∷ [])
piece script some =
    elim (last_cases (rest_from [] script)) [
      | inl nothing ↦ absurd (some nothing)
      | inr is ↦ ap (λ (ls : List Line). whole_lines script ++ ls) is
    ]

module _ {Y X : Type 0} {left : Y → Option (List ℕ)} {read_failures : Y → ℕ} {written : X → Option (List ℕ)} {failures : X → ℕ} where
  -- nothing is after the last LF
  pub ran_at_end : {reader reader' : Y} {out out' : X} {line : ScriptLine} {old new : CircuitAndRows}
      (r : Reading (flow left read_failures reader reader') (flow written failures out out') line old new) → IsAtEnd (left reader')
      → rest_from [] r.script ≡ []
      → Ran (flow left read_failures reader reader') (flow written failures out out') old new
  ran_at_end r end rest = record {
    script = r.script;
    read = r.read;
    at_end = end;
    no_failure = r.no_failure;
    answered = answered_same r.answered refl
        (sym (ap (λ (l : List ℕ). whole_lines r.script ++ last_piece l) rest ∙ append-nil (whole_lines r.script))) refl;
  }

  pub ran_with_piece : {T E : Type 0} {reader reader' : Y} {out mid out' : X} {line : ScriptLine} {old new : CircuitAndRows} {x : T}
      (r : Reading (flow left read_failures reader reader') (flow written failures out mid) line old new) → IsAtEnd (left reader')
      → (rest_from [] r.script ≡ [] → ⊥)
      → Writes {E = E} written failures mid out' (codes "bad\n") (Ok x)
      → Ran (flow left read_failures reader reader') (flow written failures out out') old new
  ran_with_piece r end some w = record {
    script = r.script;
    read = r.read;
    at_end = end;
    no_failure = r.no_failure;
    answered = answered_same (answered_push (unfinished (rest_from [] r.script)) r.answered (refl, refl) w) refl (sym (piece r.script some)) refl;
  }

  pub failing_at_piece : {T E : Type 0} {reader reader' : Y} {out mid out' : X} {line : ScriptLine} {old new : CircuitAndRows} {e : E}
      (r : Reading (flow left read_failures reader reader') (flow written failures out mid) line old new) → IsAtEnd (left reader')
      → (rest_from [] r.script ≡ [] → ⊥)
      → Writes {T = T} written failures mid out' (codes "bad\n") (Err e)
      → Failing (flow left read_failures reader reader') (flow written failures out out') old new
  failing_at_piece r end some w = record {
    script = r.script;
    read = r.read;
    why = inr (
      r.no_failure,
      (
        lines_of r.script,
        inr (end, refl),
        inl (stopped_push (unfinished (rest_from [] r.script)) [] r.answered (refl, refl) w (piece r.script some)),
      ),
    );
  }

  -- all replies were forwarded
  pub ran_flushed : {reader reader' : Y} {out mid out' : X} {old new : CircuitAndRows}
      → Ran (flow left read_failures reader reader') (flow written failures out mid) old new
      → written out' ≡ written mid → failures out' ≡ failures mid + 0
      → Ran (flow left read_failures reader reader') (flow written failures out out') old new
  ran_flushed ran e f = record {
    script = ran.script;
    read = ran.read;
    at_end = ran.at_end;
    no_failure = ran.no_failure;
    answered = answered_flushed ran.answered e f;
  }

  -- the flush after all replies failed
  pub ran_unflushed : {reader reader' : Y} {out mid out' : X} {old new : CircuitAndRows}
      → Ran (flow left read_failures reader reader') (flow written failures out mid) old new
      → written out' ≡ written mid → failures out' ≡ failures mid + 1
      → Failing (flow left read_failures reader reader') (flow written failures out out') old new
  ran_unflushed {mid} ran e f = record {
    script = ran.script;
    read = ran.read;
    why = inr (
      ran.no_failure,
      (lines_of ran.script, inr (ran.at_end, refl), inr (record { place = mid; answered = ran.answered; kept = e; count = f })),
    );
  }
