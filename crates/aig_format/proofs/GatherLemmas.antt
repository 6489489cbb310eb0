-- The bytes of a whole circuit, of which the last are written at its end.
use Rattle.std.proofs.Common.{◌≡◌, ℕ, ◌+◌, ◌-◌, List, [], ◌++◌, length, take, drop, sym, ap, ◌∙◌, Ok, Err, IsErr, refl}
use Rattle.std.proofs.Common.{Result}
use Rattle.std.specs.Prelude.{Option}
use Rattle.std.proofs.lemmas.Bool.{false≢true}
use Rattle.aig_bytes.specs.Bytes.{Writes}
use Rattle.aig_bytes.specs.Gathered.{Gathers}
use Rattle.std.specs.List.{flat_map}
use Rattle.std.proofs.Math.Seq.{take-add}
use Rattle.std.proofs.lemmas.List.{take_rest}
use Rattle.std.proofs.lemmas.List.Concat.{flat_map-append}
use Rattle.aig_bytes.proofs.GatherLemmas.{written_whole, gathers_then, gathers_same, gathers_forwarded}

module _ {X : Type 0} {written : X → Option (List ℕ)} {failures : X → ℕ} where
  -- where the last bytes could not be written
  pub whole_failed : {T E U D S F : Type 0} {old mid new : X} {held a : List ℕ} {x : T} {d : D} {s : Result S F}
      → Gathers {E = E} written failures old mid [] held a (Ok x) → Writes {T = U} written failures mid new held (Err d) → IsErr s
      → Writes written failures old new a s
  whole_failed {s = Err b} g w h = written_whole refl g (record { ok = tt; err = w.err; count = w.count })
  whole_failed {s = Ok b} g w h = absurd (false≢true h)

  pub whole_written : {T E U D S F : Type 0} {old mid new : X} {held a : List ℕ} {x : T} {u : U} {y : S}
      → Gathers {E = E} written failures old mid [] held a (Ok x) → Writes {E = D} written failures mid new held (Ok u)
      → Writes {E = F} written failures old new a (Ok y)
  whole_written g w = written_whole refl g (record { ok = w.ok; err = tt; count = w.count })

  -- the pieces from i on that went into the emptied block
  pub gathers_pieces : {Y T E S F : Type 0} {old mid new : X} {held buffered emptied buffered' : List ℕ} {x : T} {y : S}
      (f : Y → List ℕ) (xs : List Y) (i n : ℕ)
      → Gathers {E = E} written failures old mid held buffered (flat_map f (take i xs)) (Ok x)
      → Writes {E = F} written failures mid new buffered (Ok y) → emptied ≡ []
      → buffered' ≡ emptied ++ flat_map f (take n (take (length xs - i) (drop i xs)))
      → Gathers {T = T} {E = E} written failures old new held buffered' (flat_map f (take (i + n) xs)) (Ok x)
  gathers_pieces {T} {E} {x} f xs i n done w none put =
      gathers_same (gathers_then done (gathers_forwarded {S = T} {F = E} {y = x} w
      (put ∙ ap (λ (bs : List ℕ). bs ++ flat_map f (take n (take (length xs - i) (drop i xs)))) none)))
      (ap (λ (ys : List _). flat_map f (take i xs) ++ flat_map f (take n ys)) (take_rest xs i)
      ∙ sym (flat_map-append f (take i xs) (take n (drop i xs))) ∙ ap (flat_map f) (sym (take-add i n xs)))
