-- Texts that lie one after the other in one list of bytes.
use Rattle.std.proofs.Common.{◌≡◌, ℕ, zero, suc, ◌+◌, ◌-◌, ◌<◌, ◌≤◌, List, [], ◌∷◌, ◌++◌, length, take, drop, get_or}
use Rattle.std.proofs.Common.{refl, sym, ap, subst, ◌∙◌, arith, length-append}
use Rattle.std.specs.Prelude.{slice_range, slice_index_or}
use Rattle.std.proofs.lemmas.List.{drop-append-le, drop_at, length-drop, take-append-le}
use Rattle.std.proofs.Math.Seq.{take-length}
use Rattle.aig_prompt.specs.Texts.{texts_from}
use Rattle.aig_prompt.specs.state.Texts.{AreEnds, begins}

-- a text that lies there, whatever comes after
text_stays : (bytes more : List ℕ) (a b : ℕ) → a ≤ b → b ≤ length bytes → slice_range (bytes ++ more) a b ≡ slice_range bytes a b
text_stays bytes more a b le within =
    let n = length-drop a bytes in
    ap (take (b - a)) (drop-append-le a bytes more (omega arith)) ∙ take-append-le (b - a) (drop a bytes) more (omega (arith, n))

-- the last text
text_last : (bytes text : List ℕ) (a b : ℕ) → a ≡ length bytes → b ≡ length (bytes ++ text) → slice_range (bytes ++ text) a b ≡ text
text_last bytes text a b start end =
    let n = length-append bytes text in
    let size : b - a ≡ length text = omega arith in
    let rest : drop a (bytes ++ text) ≡ text = ap (λ (k : ℕ). drop k (bytes ++ text)) start ∙ drop_at bytes text (length bytes) refl in
    (λ i. take (size i) (rest i)) ∙ take-length text

ends_within : (start size : ℕ) (ends : List ℕ) → AreEnds start size ends → start ≤ size
unfolding AreEnds
ends_within start size [] h = omega (arith, h)
ends_within start size (end ∷ ends) h =
    let a = h.0 in
    let b : end ≤ size = ends_within end size ends h.1 in
    omega (arith, a, b)

-- one text more
pub ends_push : (start size more : ℕ) (ends : List ℕ) → AreEnds start size ends → size ≤ more → AreEnds start more (ends ++ more ∷ [])
unfolding AreEnds
ends_push start size more [] h le = (omega (arith, h, le), refl)
ends_push start size more (end ∷ ends) h le = (h.0, ends_push end size more ends h.1 le)

pub texts_push : (start : ℕ) (bytes text ends : List ℕ) (end : ℕ) → AreEnds start (length bytes) ends → end ≡ length (bytes ++ text)
    → texts_from start (bytes ++ text) (ends ++ end ∷ []) ≡ texts_from start bytes ends ++ text ∷ []
unfolding AreEnds texts_from
texts_push start bytes text [] end h is = ap (λ (t : List ℕ). t ∷ []) (text_last bytes text start end h is)
texts_push start bytes text (e ∷ ends) end h is =
    let within = ends_within e (length bytes) ends h.1 in
    λ i. text_stays bytes text start e h.0 within i ∷ texts_push e bytes text ends end h.1 is i

-- a text begins where the one before it ends
begins_next : (start end : ℕ) (ends : List ℕ) (i : ℕ) → begins start (end ∷ ends) (suc i) ≡ begins end ends i
begins_next start end ends zero = refl
begins_next start end ends (suc i) = refl

pub text_at : (start : ℕ) (bytes ends : List ℕ) (i : ℕ) → i < length ends
    → slice_index_or (texts_from start bytes ends) i [] ≡ slice_range bytes (begins start ends i) (get_or ends i 0)
unfolding texts_from
text_at start bytes [] i lt = absurd (omega (arith, lt))
text_at start bytes (end ∷ ends) zero lt = refl
text_at start bytes (end ∷ ends) (suc i) lt =
    text_at end bytes ends i (omega (arith, lt))
    ∙ ap (λ (a : ℕ). slice_range bytes a (get_or ends i 0)) (sym (begins_next start end ends i))

pub no_text : (start : ℕ) (bytes ends : List ℕ) (i : ℕ) → length ends ≤ i → slice_index_or (texts_from start bytes ends) i [] ≡ []
unfolding texts_from
no_text start bytes [] i le = refl
no_text start bytes (end ∷ ends) zero le = absurd (omega (arith, le))
no_text start bytes (end ∷ ends) (suc i) le = no_text end bytes ends i (omega (arith, le))

pub texts_size : (start : ℕ) (bytes ends : List ℕ) → length (texts_from start bytes ends) ≡ length ends
unfolding texts_from
texts_size start bytes [] = refl
texts_size start bytes (end ∷ ends) = ap suc (texts_size end bytes ends)

-- its place lies in the bytes
pub text_within : (start size : ℕ) (ends : List ℕ) (i : ℕ) → AreEnds start size ends → i < length ends
    → (begins start ends i ≤ get_or ends i 0) × (get_or ends i 0 ≤ size)
unfolding AreEnds
text_within start size [] i h lt = absurd (omega (arith, lt))
text_within start size (end ∷ ends) zero h lt = (h.0, ends_within end size ends h.1)
text_within start size (end ∷ ends) (suc i) h lt =
    let r = text_within end size ends i h.1 (omega (arith, lt)) in
    let a = r.0 in
    let e = begins_next start end ends i in
    (omega (arith, a, e), r.1)

pub none : (bytes ends : List ℕ) → bytes ≡ [] → ends ≡ [] → texts_from 0 bytes ends ≡ []
unfolding texts_from
none bytes ends e f = ap (texts_from 0 bytes) f

pub no_ends : (bytes ends : List ℕ) → bytes ≡ [] → ends ≡ [] → AreEnds 0 (length bytes) ends
unfolding AreEnds
no_ends bytes ends e f = subst2 bytes ends e f
  where
    subst2 : (bytes ends : List ℕ) → bytes ≡ [] → ends ≡ [] → AreEnds 0 (length bytes) ends
    subst2 [] [] e f = refl
    subst2 (b ∷ bytes) ends e f = let no : ⊥ = cc e in absurd no
    subst2 [] (n ∷ ends) e f = let no : ⊥ = cc f in absurd no

-- a text and its place, of a list that was read
module _ (bytes ends : List ℕ) (all : List (List ℕ)) (is : texts_from 0 bytes ends ≡ all) (place : ℕ) where
  pub text_read : place < length ends → (given : List ℕ) (start end : ℕ) → given ≡ bytes → start ≡ begins 0 ends place
      → end ≡ get_or ends place 0 → slice_range given start end ≡ slice_index_or all place []
  text_read lt given start end e f g =
      (λ i. slice_range (e i) (f i) (g i)) ∙ sym (text_at 0 bytes ends place lt) ∙ ap (λ (ts : List (List ℕ)). slice_index_or ts place []) is

  pub text_missing : length ends ≤ place → [] ≡ slice_index_or all place []
  text_missing le = sym (no_text 0 bytes ends place le) ∙ ap (λ (ts : List (List ℕ)). slice_index_or ts place []) is

-- a text more, of a list that was read
module _ (bytes ends : List ℕ) (all : List (List ℕ)) (is : texts_from 0 bytes ends ≡ all) (are : AreEnds 0 (length bytes) ends)
    (text bytes' ends' : List ℕ) (end : ℕ) (longer : bytes' ≡ bytes ++ text) (more : ends' ≡ ends ++ end ∷ []) (size : end ≡ length bytes') where
  here : end ≡ length (bytes ++ text)
  here = size ∙ ap (length {A = ℕ}) longer

  pub text_pushed : texts_from 0 bytes' ends' ≡ all ++ text ∷ []
  text_pushed =
      (λ i. texts_from 0 (longer i) (more i)) ∙ texts_push 0 bytes text ends end are here ∙ ap (λ (ts : List (List ℕ)). ts ++ text ∷ []) is

  pub ends_pushed : AreEnds 0 (length bytes') ends'
  ends_pushed =
      let le : length bytes ≤ end = omega (arith, here, length-append bytes text) in
      subst (λ (n : ℕ). AreEnds 0 n ends') size
      (subst (λ (es : List ℕ). AreEnds 0 end es) (sym more) (ends_push 0 (length bytes) end ends are le))
