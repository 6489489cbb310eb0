-- Bytes that are gathered piece by piece.
use Rattle.std.proofs.Common.{◌≡◌, ℕ, ◌+◌, ◌-◌, ◌<◌, get_or, List, [], ◌∷◌, ◌++◌, length, take, drop, refl, sym, ap}
use Rattle.std.proofs.Common.{◌∙◌, append_assoc, Ok, Err, IsErr, subst, Result, arith}
use Rattle.std.specs.Prelude.{Option}
use Rattle.std.specs.List.{flat_map}
use Rattle.std.proofs.lemmas.List.{append-nil, take-append-drop, take_more, take_rest, drop_more}
use Rattle.std.proofs.Math.Seq.{take-add}
use Rattle.std.proofs.lemmas.List.Concat.{flat_map-append}
use Rattle.std.proofs.lemmas.Bool.{false≢true}
use Rattle.aig_bytes.specs.Bytes.{after, Writes}
use Rattle.aig_bytes.specs.Gathered.{Gathers}
use Rattle.aig_bytes.proofs.WriteLemmas.{after-append, after-nil, writes_then, writes_same}

-- parts that join
joined : (held a b forwarded held' more held'' : List ℕ) → held ++ a ≡ forwarded ++ held' → held' ++ b ≡ more ++ held''
    → held ++ (a ++ b) ≡ (forwarded ++ more) ++ held''
joined held a b forwarded held' more held'' e f =
    sym (append_assoc held a b) ∙ ap (λ (xs : List ℕ). xs ++ b) e ∙ append_assoc forwarded held' b
    ∙ ap (λ (xs : List ℕ). forwarded ++ xs) f ∙ sym (append_assoc forwarded more held'')

module _ {X : Type 0} {written : X → Option (List ℕ)} {failures : X → ℕ} where
  -- one piece after another
  pub gathers_then : {T E S F : Type 0} {old mid new : X} {held held' held'' a b : List ℕ} {x : T} {s : Result S F}
      → Gathers {E = E} written failures old mid held held' a (Ok x) → Gathers written failures mid new held' held'' b s
      → Gathers written failures old new held held'' (a ++ b) s
  gathers_then {old} {held} {held'} {held''} {a} {b} {s = Ok y} first second = record {
    forwarded = first.forwarded ++ second.forwarded;
    wrote = second.wrote ∙ ap (λ (w : Option (List ℕ)). after w second.forwarded) first.wrote ∙ after-append (written old) first.forwarded second.forwarded;
    ok = joined held a b first.forwarded held' second.forwarded held'' first.ok second.ok;
    err = tt;
    count = omega (arith, first.count, second.count);
  }
  gathers_then {old} {held} {held'} {a} {b} {s = Err e} first second = record {
    forwarded = first.forwarded ++ second.forwarded;
    wrote = second.wrote ∙ ap (λ (w : Option (List ℕ)). after w second.forwarded) first.wrote ∙ after-append (written old) first.forwarded second.forwarded;
    ok = tt;
    err = (second.err.0, joined held a b first.forwarded held' second.forwarded second.err.0 first.ok second.err.1);
    count = omega (arith, first.count, second.count);
  }

  -- a piece that failed, and what would have come after it
  pub gathers_stop : {S F : Type 0} {old new : X} {held held' a : List ℕ} {s : Result S F} (rest : List ℕ)
      → IsErr s → Gathers written failures old new held held' a s → Gathers written failures old new held held' (a ++ rest) s
  gathers_stop {held} {a} {s = Err d} rest h g = record {
    forwarded = g.forwarded;
    wrote = g.wrote;
    ok = tt;
    err = (g.err.0 ++ rest, sym (append_assoc held a rest) ∙ ap (λ (xs : List ℕ). xs ++ rest) g.err.1 ∙ append_assoc g.forwarded g.err.0 rest);
    count = g.count;
  }
  gathers_stop {s = Ok d} rest h g = absurd (false≢true h)

  -- the same failure as another result
  pub gathers_failed : {T E S F : Type 0} {old new : X} {held held' held'' a : List ℕ} {e : E} {s : Result S F}
      → Gathers {T = T} written failures old new held held' a (Err e) → IsErr s → Gathers written failures old new held held'' a s
  gathers_failed {s = Err d} g h = record { forwarded = g.forwarded; wrote = g.wrote; ok = tt; err = g.err; count = g.count }
  gathers_failed {s = Ok d} g h = absurd (false≢true h)

  pub gathers_same : {S F : Type 0} {old new : X} {held held' a b : List ℕ} {s : Result S F}
      → Gathers written failures old new held held' a s → a ≡ b → Gathers written failures old new held held' b s
  gathers_same {S} {F} {old} {new} {held} {held'} {s = s} g e = subst (λ (b : List ℕ). Gathers written failures old new held held' b s) e g

  pub gathers_none : {S F : Type 0} {old : X} {held : List ℕ} {y : S} → Gathers {E = F} written failures old old held held [] (Ok y)
  gathers_none {old} {held} = record {
    forwarded = [];
    wrote = sym (after-nil (written old));
    ok = append-nil held;
    err = tt;
    count = omega arith;
  }

  -- a piece that only waits
  pub gathers_held : {S F : Type 0} {old : X} {held held' a : List ℕ} {y : S} → held' ≡ held ++ a
      → Gathers {E = F} written failures old old held held' a (Ok y)
  gathers_held {old} e = record {
    forwarded = [];
    wrote = sym (after-nil (written old));
    ok = sym e;
    err = tt;
    count = omega arith;
  }

  -- the same success as another result
  pub gathers_ok : {T E S F : Type 0} {old new : X} {held held' a : List ℕ} {x : T} {y : S}
      → Gathers {E = E} written failures old new held held' a (Ok x)
      → Gathers {E = F} written failures old new held held' a (Ok y)
  gathers_ok g = record { forwarded = g.forwarded; wrote = g.wrote; ok = g.ok; err = tt; count = g.count }

  -- what waited was written, and the piece waits
  pub gathers_forwarded : {T E S F : Type 0} {old new : X} {held held' a : List ℕ} {x : T} {y : S}
      → Writes {E = E} written failures old new held (Ok x) → held' ≡ a
      → Gathers {E = F} written failures old new held held' a (Ok y)
  gathers_forwarded {held} w e =
      record { forwarded = held; wrote = w.ok; ok = ap (λ (xs : List ℕ). held ++ xs) (sym e); err = tt; count = w.count }

  -- what waited could not be written
  pub gathers_not_forwarded : {T E S F : Type 0} {old new : X} {held held' a : List ℕ} {d : E} {s : Result S F}
      → Writes {T = T} written failures old new held (Err d) → IsErr s → Gathers written failures old new held held' a s
  gathers_not_forwarded {a} {s = Err d} w h = record {
    forwarded = w.err.0;
    wrote = w.err.2;
    ok = tt;
    err = (w.err.1.0 ++ a, ap (λ (xs : List ℕ). xs ++ a) w.err.1.1 ∙ append_assoc w.err.0 w.err.1.0 a);
    count = w.count;
  }
  gathers_not_forwarded {s = Ok d} w h = absurd (false≢true h)

  -- bytes from i on that went into the emptied block
  pub gathers_more : {T E S F : Type 0} {old mid new : X} {held buffered emptied buffered' : List ℕ} {x : T} {y : S}
      (bytes : List ℕ) (i n : ℕ) → Gathers {E = E} written failures old mid held buffered (take i bytes) (Ok x)
      → Writes {E = F} written failures mid new buffered (Ok y) → emptied ≡ []
      → buffered' ≡ emptied ++ take n (take (length bytes - i) (drop i bytes))
      → Gathers {T = T} {E = E} written failures old new held buffered' (take (i + n) bytes) (Ok x)
  gathers_more {T} {E} {x} bytes i n done w none put =
      gathers_same (gathers_then done (gathers_forwarded {S = T} {F = E} {y = x} w
      (put ∙ ap (λ (xs : List ℕ). xs ++ take n (take (length bytes - i) (drop i bytes))) none)))
      (ap (λ (t : List ℕ). take i bytes ++ take n t) (take_rest bytes i) ∙ sym (take-add i n bytes))

  straight : {S F : Type 0} {old new : X} {bytes : List ℕ} {s : Result S F} → Writes written failures old new bytes s
      → Gathers written failures old new [] [] bytes s
  straight {bytes} {s = Ok y} w = record { forwarded = bytes; wrote = w.ok; ok = sym (append-nil bytes); err = tt; count = w.count }
  straight {s = Err e} w = record { forwarded = w.err.0; wrote = w.err.2; ok = tt; err = w.err.1; count = w.count }

  -- bytes that went straight to the writer after all that waited
  pub gathers_straight : {T E S F : Type 0} {old mid new : X} {held buffered bytes : List ℕ} {x : T} {s : Result S F}
      → Writes {E = E} written failures old mid held (Ok x) → buffered ≡ []
      → Writes written failures mid new bytes s → Gathers written failures old new held buffered bytes s
  gathers_straight {T} {E} {S} {F} {old} {mid} {new} {held} {buffered} {bytes} {x} {s} w none more =
      let first : Gathers {T = T} {E = E} written failures old mid held [] [] (Ok x) = gathers_forwarded w refl in
      subst (λ (h : List ℕ). Gathers written failures old new held h bytes s) (sym none) (gathers_then first (straight more))

  -- in a loop over items, the piece that failed
  pub piece_failed : {Y T E V D S F : Type 0} {old mid new : X} {held held' held'' held''' : List ℕ} {v : V} {e : E} {s : Result S F}
      (f : Y → List ℕ) (xs : List Y) (i : ℕ) (d : Y)
      → Gathers {E = D} written failures old mid held held' (flat_map f (take i xs)) (Ok v) → i < length xs
      → Gathers {T = T} written failures mid new held' held'' (f (get_or xs i d)) (Err e) → IsErr s
      → Gathers written failures old new held held''' (flat_map f xs) s
  piece_failed f xs i d g l h k =
      gathers_same (gathers_then g (gathers_stop (flat_map f (drop (i + 1) xs)) k (gathers_failed h k)))
      (ap (λ (ys : List _). flat_map f (take i xs) ++ flat_map f ys) (sym (drop_more xs i d l))
      ∙ sym (flat_map-append f (take i xs) (drop i xs)) ∙ ap (flat_map f) (take-append-drop i xs))

  -- one piece more
  pub piece_more : {Y T E V D S F : Type 0} {old mid new : X} {held held' held'' : List ℕ} {v : V} {x : T} {y : S}
      (f : Y → List ℕ) (xs : List Y) (i : ℕ) (d : Y)
      → Gathers {E = D} written failures old mid held held' (flat_map f (take i xs)) (Ok v) → i < length xs
      → Gathers {E = E} written failures mid new held' held'' (f (get_or xs i d)) (Ok x)
      → Gathers {E = F} written failures old new held held'' (flat_map f (take (i + 1) xs)) (Ok y)
  piece_more f xs i d g l h =
      let w = gathers_then g h in
      gathers_same (record { forwarded = w.forwarded; wrote = w.wrote; ok = w.ok; err = tt; count = w.count })
      (ap (λ (bs : List ℕ). flat_map f (take i xs) ++ bs) (sym (append-nil (f (get_or xs i d))))
      ∙ sym (flat_map-append f (take i xs) (get_or xs i d ∷ [])) ∙ ap (flat_map f) (sym (take_more xs i d l)))

  -- the bytes of a whole text, whose last ones are written at its end
  pub written_whole : {T E S F : Type 0} {old mid new : X} {none held a : List ℕ} {x : T} {s : Result S F} → none ≡ []
      → Gathers {E = E} written failures old mid none held a (Ok x) → Writes written failures mid new held s
      → Writes written failures old new a s
  written_whole {old} {mid} {held} {a} e g w =
      let first : Writes {T = Unit {0}} {E = Unit {0}} written failures old mid g.forwarded (Ok tt) =
      record { ok = g.wrote; err = tt; count = g.count } in
      writes_same (writes_then first w) (sym g.ok ∙ ap (λ (xs : List ℕ). xs ++ a) e)

  pub written_part : {T E S F : Type 0} {old new : X} {none held a : List ℕ} {e : E} {s : Result S F} → none ≡ []
      → Gathers {T = T} written failures old new none held a (Err e) → IsErr s → Writes written failures old new a s
  written_part {a} {s = Err d} e g h =
      record { ok = tt; err = (g.forwarded, (g.err.0, sym (ap (λ (xs : List ℕ). xs ++ a) e) ∙ g.err.1), g.wrote); count = g.count }
  written_part {s = Ok d} e g h = absurd (false≢true h)
