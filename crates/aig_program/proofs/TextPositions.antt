-- The positions that texts name, found one after another.
use Rattle.std.proofs.Common.{◌≡◌, ℕ, ◌+◌, ◌<◌, List, [], ◌∷◌, ◌++◌, length, map, get_or, Option, None, Some, slice_get}
use Rattle.std.proofs.Common.{Bool, true, false, not, if◌then◌else◌, Bor, inl, inr, sym, ap, subst, ◌∙◌}
use Rattle.std.specs.Prelude.{option_map}
use Rattle.std.specs.Option.{unwrap_or}
use Rattle.std.proofs.lemmas.Bool.{false≢true}
use Rattle.std.proofs.lemmas.List.{length-map, length_push}
use Rattle.std.proofs.lemmas.Option.{same_Some, slice_get-get_or, slice_get-map}
use Rattle.aig_base.proofs.lists.Gets.{slice_get_push}
use Rattle.aig_program.specs.Chosen.{AreEach}

module _ {X : Type 0} (text_of : X → List ℕ) (Names : List ℕ → ℕ → Type 0) (texts : List X) where
  -- there are so many positions, and each is that of the text at its place
  abbrev pub AreFirst : ℕ → List ℕ → Type 0
  AreFirst n positions =
      (length positions ≡ n)
      × ((i p : ℕ) (text : List ℕ) → slice_get (map text_of texts) i ≡ Some text → slice_get positions i ≡ Some p → Names text p)

  pub first_more : (positions : List ℕ) (n p : ℕ) (other : X) → n < length texts → Names (text_of (get_or texts n other)) p
      → AreFirst n positions
      → AreFirst (n + 1) (positions ++ p ∷ [])
  first_more positions n p other lt names (size, each) = (
    length_push positions p ∙ ap (λ (k : ℕ). k + 1) size,
    λ i q text here there. elim (slice_get_push positions p q i there) [
      | inl before ↦ each i q text here before
      | inr last ↦
          let place : i ≡ n = last.0 ∙ size in
          let item = text_of (get_or texts n other) in
          let at : slice_get (map text_of texts) n ≡ Some item =
          slice_get-map text_of texts n ∙ ap (option_map text_of) (slice_get-get_or texts n other lt) in
          let same : item ≡ text =
          same_Some item text (sym at ∙ subst (λ (k : ℕ). slice_get (map text_of texts) k ≡ Some text) place here) in
          subst (λ (t : List ℕ). Names t q) same (subst (Names item) last.1 names)
    ],
  )

  pub first_all : (positions : List ℕ) (n : ℕ) → n ≡ length texts → AreFirst n positions
      → AreEach Names (map text_of texts) positions
  first_all positions n end (size, each) = (size ∙ end ∙ sym (length-map texts text_of), each)

-- what names each position in one way names it in another
pub each_by : {P Q : List ℕ → ℕ → Type 0} → (texts : List (List ℕ)) (positions : List ℕ)
    → ((text : List ℕ) (p : ℕ) → P text p → Q text p)
    → AreEach P texts positions
    → AreEach Q texts positions
each_by texts positions f (size, each) = (size, λ i p text here there. f text p (each i p text here there))

-- the texts that were found, or none
pub texts_given : (found : Option (Bor (List (Bor (List ℕ))))) (other texts : Bor (List (Bor (List ℕ))))
    → (held : Option (List (List ℕ))) → texts ≡ unwrap_or found other → other.now ≡ []
    → option_map (λ given. map (λ text. text.now) given.now) found ≡ held
    → map (λ text. text.now) texts.now ≡ unwrap_or held []
texts_given None other texts held is none e =
    ap (λ (given : Bor (List (Bor (List ℕ)))). map (λ text. text.now) given.now) is ∙ ap (map (λ text. text.now)) none
    ∙ ap (λ (given : Option (List (List ℕ))). unwrap_or given []) e
texts_given (Some given) other texts held is none e =
    ap (λ (it : Bor (List (Bor (List ℕ)))). map (λ text. text.now) it.now) is
    ∙ ap (λ (it : Option (List (List ℕ))). unwrap_or it []) e

-- what a push that did not fail leaves
pub pushed : {X : Type 0} (done failed : Bool) (new longer old : List X) → new ≡ (if done then longer else old)
    → done ≡ not failed
    → failed ≡ false
    → new ≡ longer
pushed true failed new longer old e is fine = e
pushed false failed new longer old e is fine = absurd (false≢true (is ∙ ap not fine))
