-- Bytes of a trace that are gathered piece by piece.
use Rattle.std.proofs.Common.{◌≡◌, ℕ, ◌+◌, ◌-◌, ◌≤◌, length-drop, arith, List, [], ◌++◌, length, map, take, drop, refl}
use Rattle.std.proofs.Common.{sym, ap, ◌∙◌, append_assoc, Ok, Err, IsErr, Result}
use Rattle.std.specs.Prelude.{Option}
use Rattle.std.proofs.lemmas.List.{append-nil, take-append-drop, take_all, take_at, length-take-le, length-map}
use Rattle.std.proofs.lemmas.List.{length-append, map-append}
use Rattle.std.proofs.Math.Seq.{take-add}
use Rattle.aig_bytes.specs.Gathered.{Gathers}
use Rattle.aig_bytes.proofs.GatherLemmas.{gathers_then, gathers_stop, gathers_failed, gathers_same, gathers_none}

module _ {X : Type 0} {written : X → Option (List ℕ)} {failures : X → ℕ} where
  -- in a loop over items, one byte an item: the piece that failed
  pub span_failed : {Y T E V D S F : Type 0} {old mid new : X} {held held' held'' held''' : List ℕ} {v : V} {e : E} {s : Result S F}
      (f : Y → ℕ) (xs : List Y) (i n : ℕ) (bytes rest : List ℕ)
      → Gathers {E = D} written failures old mid held held' (map f (take i xs)) (Ok v)
      → bytes ≡ map f (take n (drop i xs))
      → Gathers {T = T} written failures mid new held' held'' bytes (Err e) → IsErr s
      → Gathers written failures old new held held''' (map f xs ++ rest) s
  span_failed f xs i n bytes rest g is h k =
      gathers_stop rest k
      (gathers_same (gathers_then g (gathers_stop (map f (drop n (drop i xs))) k (gathers_failed h k)))
      (ap (λ (bs : List ℕ). map f (take i xs) ++ (bs ++ map f (drop n (drop i xs)))) is
      ∙ ap (λ (bs : List ℕ). map f (take i xs) ++ bs)
      (sym (map-append f (take n (drop i xs)) (drop n (drop i xs))) ∙ ap (map f) (take-append-drop n (drop i xs)))
      ∙ sym (map-append f (take i xs) (drop i xs)) ∙ ap (map f) (take-append-drop i xs)))

  -- one piece more
  pub span_more : {Y T E V D S F : Type 0} {old mid new : X} {held held' held'' : List ℕ} {v : V} {x : T} {y : S}
      (f : Y → ℕ) (xs : List Y) (i n : ℕ) (bytes : List ℕ)
      → Gathers {E = D} written failures old mid held held' (map f (take i xs)) (Ok v)
      → bytes ≡ map f (take n (drop i xs))
      → Gathers {E = E} written failures mid new held' held'' bytes (Ok x)
      → Gathers {E = F} written failures old new held held'' (map f (take (i + n) xs)) (Ok y)
  span_more f xs i n bytes g is h =
      let w = gathers_then g h in
      gathers_same (record { forwarded = w.forwarded; wrote = w.wrote; ok = w.ok; err = tt; count = w.count })
      (ap (λ (bs : List ℕ). map f (take i xs) ++ bs) is
      ∙ sym (map-append f (take i xs) (take n (drop i xs))) ∙ ap (map f) (sym (take-add i n xs)))

  -- the bytes of all items
  pub all_gathered : {Y D V : Type 0} {old mid : X} {held held' : List ℕ} {v : V}
      (f : Y → ℕ) (xs : List Y) (i : ℕ) → Gathers {E = D} written failures old mid held held' (map f (take i xs)) (Ok v)
      → length xs ≤ i → Gathers {E = D} written failures old mid held held' (map f xs) (Ok v)
  all_gathered f xs i g le = gathers_same g (ap (map f) (take_all i xs le))

-- of a whole text, all but this rest was gathered
pub record Partly {X : Type 0} (written : X → Option (List ℕ)) (failures : X → ℕ) (old new : X) (held held' whole rest : List ℕ)
    : Type 0 where
  pub done : List ℕ
  pub gathered : Gathers {T = Unit {0}} {E = Unit {0}} written failures old new held held' done (Ok tt)
  pub whole_is : whole ≡ done ++ rest

module _ {X : Type 0} {written : X → Option (List ℕ)} {failures : X → ℕ} where
  pub partly_none : (old : X) (held whole : List ℕ) → Partly written failures old old held held whole whole
  partly_none old held whole = record { done = []; gathered = gathers_none; whole_is = refl }

  pub partly_same : {old new : X} {held held' whole rest rest' : List ℕ}
      → Partly written failures old new held held' whole rest → rest ≡ rest'
      → Partly written failures old new held held' whole rest'
  partly_same h e =
      record { done = h.done; gathered = h.gathered; whole_is = h.whole_is ∙ ap (λ (t : List ℕ). h.done ++ t) e }

  -- one piece more
  pub partly_more : {T E : Type 0} {old mid new : X} {held held' held'' whole piece rest : List ℕ} {x : T}
      → Partly written failures old mid held held' whole (piece ++ rest)
      → Gathers {E = E} written failures mid new held' held'' piece (Ok x)
      → Partly written failures old new held held'' whole rest
  partly_more {piece} {rest} h g =
      let w = gathers_then h.gathered g in
      record {
        done = h.done ++ piece;
        gathered = record { forwarded = w.forwarded; wrote = w.wrote; ok = w.ok; err = tt; count = w.count };
        whole_is = h.whole_is ∙ sym (append_assoc h.done piece rest);
      }

  -- the piece that failed
  pub partly_stops : {T E S F : Type 0} {old mid new : X} {held held' held'' buffered whole piece : List ℕ} {e : E}
      {s : Result S F} (rest : List ℕ)
      → Partly written failures old mid held held' whole (piece ++ rest)
      → Gathers {T = T} written failures mid new held' held'' piece (Err e) → IsErr s
      → Gathers written failures old new held buffered whole s
  partly_stops rest h g k =
      gathers_same (gathers_then h.gathered (gathers_stop rest k (gathers_failed g k))) (sym h.whole_is)

  -- the last piece
  pub partly_ends : {S F : Type 0} {old mid new : X} {held held' held'' whole piece : List ℕ} {s : Result S F}
      → Partly written failures old mid held held' whole piece
      → Gathers written failures mid new held' held'' piece s → Gathers written failures old new held held'' whole s
  partly_ends h g = gathers_same (gathers_then h.gathered g) (sym h.whole_is)

  -- nothing is left
  pub partly_done : {F : Type 0} {old new : X} {held held' whole : List ℕ}
      → Partly written failures old new held held' whole []
      → Gathers {T = Unit {0}} {E = F} written failures old new held held' whole (Ok tt)
  partly_done {F} h =
      let g = h.gathered in
      gathers_same {S = Unit {0}} {F = F} (record { forwarded = g.forwarded; wrote = g.wrote; ok = g.ok; err = tt; count = g.count })
      (sym (append-nil h.done) ∙ sym h.whole_is)

-- the bytes of the items from i on, in front of what stood there
module _ {Y : Type 0} (f : Y → ℕ) (xs : List Y) (i n : ℕ) (text piece : List ℕ) (fits : i + n ≤ length xs)
    (is : text ≡ map f (take (i + n - i) (drop i xs))) where
  span_text : text ≡ map f (take n (drop i xs))
  span_text = is ∙ ap (λ (k : ℕ). map f (take k (drop i xs))) (omega arith)

  span_size : length text ≡ n
  span_size = ap length span_text ∙ length-map (take n (drop i xs)) f
      ∙ length-take-le n (drop i xs) (omega (arith, fits, length-drop i xs))

  pub span_is : take n (text ++ drop n piece) ≡ map f (take n (drop i xs))
  span_is = take_at text (drop n piece) n span_size ∙ span_text

  pub same_room : n ≤ length piece → length (text ++ drop n piece) ≡ length piece
  same_room le = omega (arith, le, span_size, length-append text (drop n piece), length-drop n piece)
