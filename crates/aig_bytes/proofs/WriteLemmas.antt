-- What known bytes are after several writes.
use Rattle.std.proofs.Common.{◌≡◌, ℕ, ◌+◌, ◌<◌, get_or, ◌-◌, List, [], ◌++◌, length, take, drop, refl, sym, ap, ◌∙◌}
use Rattle.std.proofs.Common.{append_assoc, Some, Ok, Err, IsErr, subst, Result, arith}
use Rattle.std.specs.Prelude.{Option, None}
use Rattle.std.proofs.lemmas.List.{append-nil, take_rest, take-append-drop, drop_more}
use Rattle.std.specs.List.{flat_map}
use Rattle.std.proofs.lemmas.List.Concat.{flat_map-append}
use Rattle.std.proofs.lemmas.Bool.{false≢true}
use Rattle.std.proofs.Math.Seq.{take-add}
use Rattle.aig_bytes.specs.Bytes.{after, Writes}

pub after-append : (w : Option (List ℕ)) (a b : List ℕ) → after (after w a) b ≡ after w (a ++ b)
after-append None a b = refl
after-append (Some xs) a b = ap Some (append_assoc xs a b)

pub after-nil : (w : Option (List ℕ)) → after w [] ≡ w
after-nil None = refl
after-nil (Some xs) = ap Some (append-nil xs)

-- a write from `&bytes[i..]` goes on where the first i bytes ended
pub after_more : (start mid new : Option (List ℕ)) (bytes : List ℕ) (i n : ℕ) → mid ≡ after start (take i bytes)
    → new ≡ after mid (take n (take (length bytes - i) (drop i bytes))) → new ≡ after start (take (i + n) bytes)
after_more start mid new bytes i n e f =
    f ∙ ap (λ (w : Option (List ℕ)). after w (take n (take (length bytes - i) (drop i bytes)))) e ∙ after-append start _ _
    ∙ ap (λ (xs : List ℕ). after start (take i bytes ++ take n xs)) (take_rest bytes i) ∙ ap (after start) (sym (take-add i n bytes))

split_at : {Y : Type 0} (f : Y → List ℕ) (xs : List Y) (i : ℕ) (d : Y) → i < length xs
    → flat_map f (take i xs) ++ (f (get_or xs i d) ++ flat_map f (drop (i + 1) xs)) ≡ flat_map f xs
split_at f xs i d l =
    ap (λ (ys : List _). flat_map f (take i xs) ++ flat_map f ys) (sym (drop_more xs i d l))
    ∙ sym (flat_map-append f (take i xs) (drop i xs)) ∙ ap (flat_map f) (take-append-drop i xs)

module _ {X : Type 0} {written : X → Option (List ℕ)} {failures : X → ℕ} where
  -- one call after another
  pub writes_then : {T E S F : Type 0} {old mid new : X} {a b : List ℕ} {x : T} {s : Result S F}
      → Writes {E = E} written failures old mid a (Ok x) → Writes written failures mid new b s → Writes written failures old new (a ++ b) s
  writes_then {old} {mid} {new} {a} {b} {s = Ok y} first second = record {
    ok = rw (second.ok, first.ok) (after-append (written old) a b);
    err = tt;
    count = omega (arith, first.count, second.count);
  }
  writes_then {old} {mid} {new} {a} {b} {s = Err e} first second = record {
    ok = tt;
    err = (a ++ second.err.0, (second.err.1.0, ap (λ (xs : List ℕ). a ++ xs) second.err.1.1 ∙ sym (append_assoc a _ _)), rw (second.err.2, first.ok) (after-append (written old) a second.err.0));
    count = omega (arith, first.count, second.count);
  }

  -- an error is passed on
  pub writes_err : {T E S F : Type 0} {old new : X} {a : List ℕ} {e : E} {s : Result S F}
      → Writes {T = T} written failures old new a (Err e) → IsErr s → Writes written failures old new a s
  writes_err {s = Err d} w h = record { ok = tt; err = w.err; count = w.count }
  writes_err {s = Ok d} w h = absurd (false≢true h)

  pub writes_same : {S F : Type 0} {old new : X} {a b : List ℕ} {s : Result S F}
      → Writes written failures old new a s → a ≡ b → Writes written failures old new b s
  writes_same {S} {F} {old} {new} {s} w e = subst (λ (b : List ℕ). Writes written failures old new b s) e w

  -- the call that failed, and what would have come after it
  pub writes_stop : {T E S F : Type 0} {old new : X} {a : List ℕ} {e : E} {s : Result S F} (rest : List ℕ)
      → Writes {T = T} written failures old new a (Err e) → IsErr s → Writes written failures old new (a ++ rest) s
  writes_stop {a} {s = Err d} rest w h = record {
    ok = tt;
    err = (w.err.0, (w.err.1.0 ++ rest, ap (λ (xs : List ℕ). xs ++ rest) w.err.1.1 ∙ append_assoc _ _ rest), w.err.2);
    count = w.count;
  }
  writes_stop {s = Ok d} rest w h = absurd (false≢true h)

  -- in a loop that writes the bytes of each item, the call that failed
  pub writes_stop_at : {Y T E V D S F : Type 0} {old mid new : X} {v : V} {e : E} {s : Result S F} (f : Y → List ℕ) (xs : List Y) (i : ℕ) (d : Y)
      → Writes {E = D} written failures old mid (flat_map f (take i xs)) (Ok v) → i < length xs
      → Writes {T = T} written failures mid new (f (get_or xs i d)) (Err e) → IsErr s → Writes written failures old new (flat_map f xs) s
  writes_stop_at f xs i d w l v h =
      writes_same (writes_then w (writes_stop (flat_map f (drop (i + 1) xs)) v h)) (split_at f xs i d l)

  -- nothing was written yet
  pub writes_none : {S F : Type 0} {old : X} {y : S} → Writes {E = F} written failures old old [] (Ok y)
  writes_none {old} = record { ok = sym (after-nil (written old)); err = tt; count = omega arith }

  -- one write out of a longer text
  pub writes_some : {T E F : Type 0} {old mid new : X} {y z : T} (bytes : List ℕ) (i n : ℕ)
      → Writes {E = E} written failures old mid (take i bytes) (Ok y)
      → written new ≡ after (written mid) (take n (take (length bytes - i) (drop i bytes))) → failures new ≡ failures mid + 0
      → Writes {E = F} written failures old new (take (i + n) bytes) (Ok z)
  writes_some bytes i n w taken count =
      record { ok = after_more _ _ _ bytes i n w.ok taken; err = tt; count = omega (arith, w.count, count) }

  -- such a write that fails
  pub writes_failed : {T E S F : Type 0} {old mid new : X} {x : T} {s : Result S F} (bytes : List ℕ) (i : ℕ)
      → Writes {E = E} written failures old mid (take i bytes) (Ok x)
      → written new ≡ after (written mid) [] → failures new ≡ failures mid + 1 → IsErr s → Writes written failures old new bytes s
  writes_failed {mid} {s = Err d} bytes i w taken count h = record {
    ok = tt;
    err = (take i bytes, (drop i bytes, sym (take-append-drop i bytes)), taken ∙ after-nil (written mid) ∙ w.ok);
    count = omega (arith, w.count, count);
  }
  writes_failed {s = Ok d} bytes i w taken count h = absurd (false≢true h)

pub ruleset writes = (writes_then, writes_err, writes_stop, writes_none, writes_some, writes_failed)
