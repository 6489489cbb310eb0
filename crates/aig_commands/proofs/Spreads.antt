-- Values that are spread one after the other.
use Rattle.std.proofs.Common.{◌≡◌, ℕ, ◌≤◌, Bool, true, false, List, [], ◌∷◌, ◌++◌, drop, length, refl, sym, ap, ◌∙◌}
use Rattle.std.proofs.lemmas.List.{append-nil, drop_all}
use Rattle.aig_base.specs.Part.{spread}
use Rattle.aig_parts.specs.declared.ternary.Tern.{Tern}

-- the next value of what is read
pub spread_read : (other x : Tern) (xs values : List Tern) → values ≡ x ∷ xs → (read : Bool) → read ≡ true → (reads : List Bool)
    (others : List Tern) → spread (read ∷ reads) (other ∷ others) values ≡ x ∷ spread reads others xs
unfolding spread
spread_read other x xs values are true is reads others = ap (spread (true ∷ reads) (other ∷ others)) are
spread_read other x xs values are false is reads others = cc

-- the other value
pub spread_unread : (other : Tern) (values : List Tern) (read : Bool) → read ≡ false → (reads : List Bool) (others : List Tern)
    → spread (read ∷ reads) (other ∷ others) values ≡ other ∷ spread reads others values
unfolding spread
spread_unread other [] read is reads others = refl
spread_unread other (x ∷ xs) false is reads others = refl
spread_unread other (x ∷ xs) true is reads others = cc

-- no value is left
pub spread_rest : (read : Bool) (other : Tern) (values : List Tern) → length values ≡ 0 → (reads : List Bool) (others : List Tern)
    → spread (read ∷ reads) (other ∷ others) values ≡ other ∷ spread reads others values
unfolding spread
spread_rest read other [] none reads others = refl
spread_rest read other (x ∷ xs) none reads others = cc

-- none is left to be spread over
pub spread_done : (reads : List Bool) (others : List Tern) (i : ℕ) (done rest whole : List Tern) → length reads ≤ i
    → done ++ spread (drop i reads) (drop i others) rest ≡ whole → done ≡ whole
unfolding spread
spread_done reads others i done rest whole le so_far =
    sym (append-nil done)
    ∙ ap (λ (bs : List Bool). done ++ spread bs (drop i others) rest) (sym (drop_all i reads le)) ∙ so_far
