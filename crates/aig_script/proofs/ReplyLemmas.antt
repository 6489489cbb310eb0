-- Lines read in pieces, and runs that go on.
use Rattle.std.proofs.Common.{◌≡◌, ℕ, ◌+◌, List, [], ◌∷◌, ◌++◌, cond, eqb, true, false, refl, sym, ap, ◌∙◌}
use Rattle.std.proofs.Common.{append_assoc, Ok, Err, OnErr, OnOk, IsErr, Result, Some, subst, map, inl, inr, arith}
use Rattle.std.specs.Prelude.{Option, None}
use Rattle.std.proofs.lemmas.List.{append-nil, map-append}
use Rattle.std.proofs.lemmas.Bool.{false≢true}
use Rattle.aig_bytes.specs.Bytes.{Writes, before}
use Rattle.aig_bytes.proofs.WriteLemmas.{writes_then, writes_none}
use Rattle.aig_bytes.specs.Flow.{flow}
use Rattle.aig_script.specs.Lines.{Line, whole, lines_from, rest_from, whole_lines}
use Rattle.aig_bench.specs.BenchState.{CircuitAndRows}
use Rattle.aig_script.specs.Replies.{Replies, LineReply}
use Rattle.aig_script.specs.Ran.{Answered, StoppedAt, Reading, Failing}
use Rattle.aig_script.specs.ScriptLine.{ScriptLine, KeepsScriptLine}
use Rattle.aig_sim.proofs.SimulationLemmas.{before_nil, before-before}

pub lines_from-append : (s xs ys : List ℕ) → lines_from s (xs ++ ys) ≡ lines_from s xs ++ lines_from (rest_from s xs) ys
lines_from-append s [] ys = refl
lines_from-append s (x ∷ xs) ys =
    elim (eqb x 10) as (λ v. cond v (s ∷ lines_from [] (xs ++ ys)) (lines_from (s ++ x ∷ []) (xs ++ ys))
    ≡ cond v (s ∷ lines_from [] xs) (lines_from (s ++ x ∷ []) xs) ++ lines_from (cond v (rest_from [] xs) (rest_from (s ++ x ∷ []) xs)) ys)
    [ true ↦ ap (λ (ls : List (List ℕ)). s ∷ ls) (lines_from-append [] xs ys) | false ↦ lines_from-append (s ++ x ∷ []) xs ys ]

pub rest_from-append : (s xs ys : List ℕ) → rest_from s (xs ++ ys) ≡ rest_from (rest_from s xs) ys
rest_from-append s [] ys = refl
rest_from-append s (x ∷ xs) ys =
    elim (eqb x 10) as (λ v. cond v (rest_from [] (xs ++ ys)) (rest_from (s ++ x ∷ []) (xs ++ ys))
    ≡ rest_from (cond v (rest_from [] xs) (rest_from (s ++ x ∷ []) xs)) ys)
    [ true ↦ rest_from-append [] xs ys | false ↦ rest_from-append (s ++ x ∷ []) xs ys ]

-- the whole lines of bytes in two parts
pub whole_from-append : (s xs ys : List ℕ)
    → map whole (lines_from s xs) ++ map whole (lines_from (rest_from s xs) ys) ≡ map whole (lines_from s (xs ++ ys))
whole_from-append s xs ys =
    sym (map-append whole (lines_from s xs) (lines_from (rest_from s xs) ys))
    ∙ sym (ap (λ (ls : List (List ℕ)). map whole ls) (lines_from-append s xs ys))

pub on_ok_from_err : {T E : Type 0} (P : Type 0) (r : Result T E) → IsErr r → OnOk r P
on_ok_from_err P (Ok x) h = absurd (false≢true h)
on_ok_from_err P (Err e) h = tt

pub replies_append : (old : CircuitAndRows) (ls : List Line) (rs : List ℕ) (mid : CircuitAndRows) (ms : List Line) (ss : List ℕ) (new : CircuitAndRows)
    → Replies old ls rs mid → Replies mid ms ss new → Replies old (ls ++ ms) (rs ++ ss) new
replies_append old [] rs mid ms ss new h k =
    subst (λ (n : CircuitAndRows). Replies n ms (rs ++ ss) new) h.1 (subst (λ (xs : List ℕ). Replies mid ms (xs ++ ss) new) (sym h.0) k)
replies_append old (x ∷ ls) rs mid ms ss new h k =
    (h.0, h.1, h.2 ++ ss, h.3, replies_append h.0 ls h.2 mid ms ss new h.4 k, ap (λ (xs : List ℕ). xs ++ ss) h.5 ∙ append_assoc h.1 h.2 ss)

pub replies_one : (old : CircuitAndRows) (l : Line) (r : List ℕ) (new : CircuitAndRows) → LineReply old l r new → Replies old (l ∷ []) r new
replies_one old l r new h = (new, r, [], h, (refl, refl), sym (append-nil r))

module _ {X : Type 0} {written : X → Option (List ℕ)} {failures : X → ℕ} where
  pub answered_none : {from : X} {old : CircuitAndRows} → Answered (flow written failures from from) [] old old
  answered_none = record { replies = []; ran = (refl, refl); writes = writes_none }

  -- one line more
  pub answered_push : {T E : Type 0} {from mid to : X} {lines : List Line} {old n new : CircuitAndRows} {r : List ℕ} {x : T} (l : Line)
      → Answered (flow written failures from mid) lines old n → LineReply n l r new → Writes {E = E} written failures mid to r (Ok x)
      → Answered (flow written failures from to) (lines ++ l ∷ []) old new
  answered_push {lines} {old} {n} {new} {r} l a h w =
      let v = writes_then a.writes w in
      record {
        replies = a.replies ++ r;
        ran = replies_append old lines a.replies n (l ∷ []) r new a.ran (replies_one n l r new h);
        writes = record { ok = v.ok; err = tt; count = v.count };
      }

  -- more lines
  pub answered_then : {from mid to : X} {lines more : List Line} {old n new : CircuitAndRows}
      → Answered (flow written failures from mid) lines old n → Answered (flow written failures mid to) more n new
      → Answered (flow written failures from to) (lines ++ more) old new
  answered_then {lines} {more} {old} {n} {new} a b =
      record { replies = a.replies ++ b.replies; ran = replies_append old lines a.replies n more b.replies new a.ran b.ran; writes = writes_then a.writes b.writes }

  -- a reply that was not written
  pub stopped_push : {T E : Type 0} {from mid to : X} {lines first : List Line} {old n new : CircuitAndRows} {r : List ℕ} {e : E} (l : Line) (more : List Line)
      → Answered (flow written failures from mid) first old n → LineReply n l r new → Writes {T = T} written failures mid to r (Err e)
      → lines ≡ first ++ (l ∷ more) → StoppedAt (flow written failures from to) lines old new
  stopped_push {mid} {first} {n} {r} l more a h w e = record {
    first = first;
    last = l;
    more = more;
    split = e;
    place = mid;
    state = n;
    before_it = a;
    reply = r;
    stepped = h;
    writes = record { ok = tt; err = w.err; count = w.count };
  }

  pub stopped_then : {from mid to : X} {lines more : List Line} {old n new : CircuitAndRows}
      → Answered (flow written failures from mid) lines old n → StoppedAt (flow written failures mid to) more n new
      → StoppedAt (flow written failures from to) (lines ++ more) old new
  stopped_then {lines} a s = record {
    first = lines ++ s.first;
    last = s.last;
    more = s.more;
    split = ap (λ (ls : List Line). lines ++ ls) s.split ∙ sym (append_assoc lines s.first (s.last ∷ s.more));
    place = s.place;
    state = s.state;
    before_it = answered_then a s.before_it;
    reply = s.reply;
    stepped = s.stepped;
    writes = s.writes;
  }

  pub stopped_same : {from to : X} {lines lines' : List Line} {old new : CircuitAndRows}
      → StoppedAt (flow written failures from to) lines old new → lines ≡ lines' → StoppedAt (flow written failures from to) lines' old new
  stopped_same {from} {to} {old} {new} s e = subst (λ (ls : List Line). StoppedAt (flow written failures from to) ls old new) e s

  pub answered_same : {from to to' : X} {lines lines' : List Line} {old new new' : CircuitAndRows}
      → Answered (flow written failures from to) lines old new → to ≡ to' → lines ≡ lines' → new ≡ new'
      → Answered (flow written failures from to') lines' old new'
  answered_same {from} {to'} {lines} {lines'} {old} {new} a e f g =
      subst (λ (n : CircuitAndRows). Answered (flow written failures from to') lines' old n) g
      (subst (λ (ls : List Line). Answered (flow written failures from to') ls old new) f
      (subst (λ (w : X). Answered (flow written failures from w) lines old new) e a))

  -- all replies were forwarded
  pub answered_flushed : {from mid to : X} {lines : List Line} {old new : CircuitAndRows} → Answered (flow written failures from mid) lines old new
      → written to ≡ written mid → failures to ≡ failures mid + 0 → Answered (flow written failures from to) lines old new
  answered_flushed a e f =
      let w = a.writes in
      record { replies = a.replies; ran = a.ran; writes = record { ok = e ∙ w.ok; err = tt; count = omega (arith, w.count, f) } }

-- the whole lines of a text that is read in two pieces
whole_lines-append : (text bytes : List ℕ)
    → whole_lines text ++ map whole (lines_from (rest_from [] text) bytes) ≡ whole_lines (text ++ bytes)
whole_lines-append text bytes =
    sym (map-append whole (lines_from [] text) (lines_from (rest_from [] text) bytes))
    ∙ sym (ap (λ (ls : List (List ℕ)). map whole ls) (lines_from-append [] text bytes))

module _ {Y X : Type 0} {left : Y → Option (List ℕ)} {read_failures : Y → ℕ} {written : X → Option (List ℕ)} {failures : X → ℕ} where
  pub reading_none : {reader : Y} {out : X} {line : ScriptLine} {old : CircuitAndRows} → KeepsScriptLine [] line
      → Reading (flow left read_failures reader reader) (flow written failures out out) line old old
  reading_none {reader} k =
      record { script = []; read = sym (before_nil (left reader)); no_failure = refl; rest = k; answered = answered_none }

  -- a chunk was read and answered
  pub reading_more : {reader mid to : Y} {out out' out'' : X} {line line' : ScriptLine} {old n new : CircuitAndRows} (chunk : List ℕ)
      → Reading (flow left read_failures reader mid) (flow written failures out out') line old n
      → left mid ≡ before chunk (left to) → read_failures to ≡ read_failures mid + 0
      → ((text : List ℕ) → KeepsScriptLine text line → KeepsScriptLine (rest_from text chunk) line')
      → ((text : List ℕ) → KeepsScriptLine text line → Answered (flow written failures out' out'') (map whole (lines_from text chunk)) n new)
      → Reading (flow left read_failures reader to) (flow written failures out out'') line' old new
  reading_more {to} {line'} chunk r e f g a = record {
    script = r.script ++ chunk;
    read = r.read ∙ ap (before r.script) e ∙ before-before r.script chunk (left to);
    no_failure = omega (arith, r.no_failure, f);
    rest = subst (λ (t : List ℕ). KeepsScriptLine t line') (sym (rest_from-append [] r.script chunk)) (g (rest_from [] r.script) r.rest);
    answered = answered_same (answered_then r.answered (a (rest_from [] r.script) r.rest)) refl (whole_lines-append r.script chunk) refl;
  }

  -- a read failed
  pub reading_fails : {reader mid to : Y} {out out' : X} {line : ScriptLine} {old new : CircuitAndRows}
      → Reading (flow left read_failures reader mid) (flow written failures out out') line old new
      → left mid ≡ before [] (left to) → read_failures to ≡ read_failures mid + 1
      → Failing (flow left read_failures reader to) (flow written failures out out') old new
  reading_fails {to} r e f = record {
    script = r.script;
    read = r.read ∙ ap (before r.script) (e ∙ before_nil (left to));
    why = inl (omega (arith, r.no_failure, f), r.answered);
  }

  -- a write failed
  pub reading_stops : {reader mid to : Y} {out out' out'' : X} {line : ScriptLine} {old n new : CircuitAndRows} (chunk : List ℕ)
      → Reading (flow left read_failures reader mid) (flow written failures out out') line old n
      → left mid ≡ before chunk (left to) → read_failures to ≡ read_failures mid + 0
      → ((text : List ℕ) → KeepsScriptLine text line → StoppedAt (flow written failures out' out'') (map whole (lines_from text chunk)) n new)
      → Failing (flow left read_failures reader to) (flow written failures out out'') old new
  reading_stops {to} {out} {out''} {old} {new} chunk r e f a = record {
    script = r.script ++ chunk;
    read = r.read ∙ ap (before r.script) e ∙ before-before r.script chunk (left to);
    why = inr (
      omega (arith, r.no_failure, f),
      (
        whole_lines (r.script ++ chunk),
        inl refl,
        inl (subst (λ (ls : List Line). StoppedAt (flow written failures out out'') ls old new) (whole_lines-append r.script chunk)
            (stopped_then r.answered (a (rest_from [] r.script) r.rest))),
      ),
    );
  }

  -- the replies were forwarded
  pub reading_flushed : {reader to : Y} {out mid out' : X} {line : ScriptLine} {old new : CircuitAndRows}
      → Reading (flow left read_failures reader to) (flow written failures out mid) line old new
      → written out' ≡ written mid → failures out' ≡ failures mid + 0
      → Reading (flow left read_failures reader to) (flow written failures out out') line old new
  reading_flushed r e f = record {
    script = r.script;
    read = r.read;
    no_failure = r.no_failure;
    rest = r.rest;
    answered = answered_flushed r.answered e f;
  }

  -- a flush failed
  pub reading_unflushed : {reader to : Y} {out mid out' : X} {line : ScriptLine} {old new : CircuitAndRows}
      → Reading (flow left read_failures reader to) (flow written failures out mid) line old new
      → written out' ≡ written mid → failures out' ≡ failures mid + 1
      → Failing (flow left read_failures reader to) (flow written failures out out') old new
  reading_unflushed {mid} r e f = record {
    script = r.script;
    read = r.read;
    why = inr (
      r.no_failure,
      (whole_lines r.script, inl refl, inr (record { place = mid; answered = r.answered; kept = e; count = f })),
    );
  }
