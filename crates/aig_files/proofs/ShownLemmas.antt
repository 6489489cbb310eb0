-- What is shown of bytes that stay.
use Rattle.std.proofs.Common.{◌≡◌, ℕ, ◌+◌, ◌-◌, List, [], ◌∷◌, ◌++◌, length, refl, sym, ap, ◌∙◌, subst, take, arith, Result}
use Rattle.std.proofs.Common.{Ok, Err, append_assoc}
use Rattle.std.specs.Prelude.{All, Bool, true, false, if◌then◌else◌, IfOk, IsTrue, None, OnErr, Option, Some, drop}
use Rattle.std.specs.Prelude.{◌<◌, nat_eq, slice_index, zero, suc}
use Rattle.std.proofs.lemmas.Bool.{false≢true}
use Rattle.std.specs.Io.{WritesAtMost}
use Rattle.std.specs.Io.KnownBytes.{Appends, Keeps, WriteAppends}
use Rattle.std.proofs.lemmas.List.{length-take, take-take}
use Rattle.std.proofs.lemmas.List.Elements.{All-head, All-tail, All-take}
use Rattle.std.proofs.lemmas.List.{append-nil, take-append-drop, take_rest}
use Rattle.std.proofs.Math.Seq.{take-add}
use Rattle.aig_files.specs.Shown.{AppendsSome, escape, is_plain, shown, shown_byte}

-- a byte that stays
pub plain_byte : (b : ℕ) → is_plain b ≡ true → shown_byte b ≡ b ∷ []
plain_byte b is = ap (λ (x : Bool). if x then b ∷ [] else escape b) is

-- bytes that stay
pub plain_bytes : (bytes : List ℕ) → All (λ b. IsTrue (is_plain b)) bytes → shown bytes ≡ bytes
plain_bytes [] plain = refl
plain_bytes (b ∷ bytes) plain =
    ap (λ (front : List ℕ). front ++ shown bytes) (plain_byte b (All-head (λ b. IsTrue (is_plain b)) b bytes plain))
    ∙ ap (λ (rest : List ℕ). b ∷ rest) (plain_bytes bytes (All-tail (λ b. IsTrue (is_plain b)) b bytes plain))

-- what a writer took of the bytes at the front, which all stay, is what it took shown
pub shown_front : {E : Type 0} (was old new : Option (List ℕ)) → was ≡ old → (r : Result ℕ E) (bytes : List ℕ) (plain : ℕ)
    → All (λ b. IsTrue (is_plain b)) (take plain bytes) → WritesAtMost r (take plain bytes) → WriteAppends old new r (take plain bytes)
    → IfOk r (λ n. Appends was new (shown (take n bytes)))
shown_front was old new is (Ok n) bytes plain stays fits wrote =
    let front = take n (take plain bytes) in
    subst (λ (x : Option (List ℕ)). Appends x new (shown (take n bytes))) (sym is)
    (subst (λ (xs : List ℕ). Appends old new xs)
    (sym (plain_bytes front (All-take (λ b. IsTrue (is_plain b)) n (take plain bytes) stays))
    ∙ ap shown (take-take n plain bytes (omega (arith, length-take {A = ℕ}, fits)))) wrote)
shown_front was old new is (Err e) bytes plain stays fits wrote = tt

-- one write after another
appends_then : (old mid new : Option (List ℕ)) (xs ys : List ℕ) → Appends old mid xs → Appends mid new ys → Appends old new (xs ++ ys)
appends_then None mid new xs ys first second = tt
appends_then (Some olds) None new xs ys first second = absurd first
appends_then (Some olds) (Some mids) None xs ys first second = absurd second
appends_then (Some olds) (Some mids) (Some news) xs ys first second =
    second ∙ ap (λ (front : List ℕ). front ++ ys) first ∙ append_assoc olds xs ys

-- what stays gets no byte
keeps_appends : (old new : Option (List ℕ)) → Keeps old new → Appends old new []
keeps_appends None new keeps = tt
keeps_appends (Some olds) None keeps = absurd keeps
keeps_appends (Some olds) (Some news) keeps = keeps ∙ sym (append-nil olds)

appends_nothing : (old new : Option (List ℕ)) → Appends old new [] → Keeps old new
appends_nothing None new appends = tt
appends_nothing (Some olds) None appends = absurd appends
appends_nothing (Some olds) (Some news) appends = appends ∙ append-nil olds

-- a write from `&bytes[at..]` goes on where the first bytes ended
pub appends_more : (old mid new : Option (List ℕ)) (bytes : List ℕ) (at n : ℕ) → Appends old mid (take at bytes)
    → Appends mid new (take n (take (length bytes - at) (drop at bytes))) → Appends old new (take (at + n) bytes)
appends_more old mid new bytes at n first second =
    subst (λ (xs : List ℕ). Appends old new xs) (sym (take-add at n bytes))
    (appends_then old mid new _ _ first (subst (λ (xs : List ℕ). Appends mid new (take n xs)) (take_rest bytes at) second))

-- where it fails, these bytes were written
pub appends_first : (old mid new : Option (List ℕ)) (bytes : List ℕ) (at : ℕ) → Appends old mid (take at bytes) → Keeps mid new
    → AppendsSome old new bytes
appends_first old mid new bytes at first keeps =
    let all = appends_then old mid new _ _ first (keeps_appends mid new keeps) in (
      take at bytes,
      (drop at bytes, sym (take-append-drop at bytes)),
      subst (λ (xs : List ℕ). Appends old new xs) (append-nil (take at bytes)) all,
    )

-- where it takes none, too
pub appends_none : (mid new : Option (List ℕ)) (bytes : List ℕ) (n : ℕ) → n ≡ 0 → Appends mid new (take n bytes) → Keeps mid new
appends_none mid new bytes n is appends = appends_nothing mid new (subst (λ (k : ℕ). Appends mid new (take k bytes)) is appends)

-- what holds of each failure
pub on_err : {T E : Type 0} (r : Result T E) (P : Type 0) → P → OnErr r P
on_err (Ok value) P holds = tt
on_err (Err error) P holds = holds

-- a byte that does not stay
escaped_byte : (b : ℕ) → is_plain b ≡ false → shown_byte b ≡ escape b
escaped_byte b is = ap (λ (x : Bool). if x then b ∷ [] else escape b) is

pub is_some : (n : ℕ) → nat_eq n 0 ≡ false → 0 < n
is_some zero is = absurd (false≢true (sym is))
is_some (suc n) is = omega arith

-- the first bytes of one that does not stay are the first of what is shown
pub shown_first : (old new : Option (List ℕ)) (bytes : List ℕ) → nat_eq (length bytes) 0 ≡ false → is_plain (slice_index bytes 0) ≡ false
    → AppendsSome old new (escape (slice_index bytes 0)) → AppendsSome old new (shown bytes)
shown_first old new [] some is first = absurd (false≢true (sym some))
shown_first old new (b ∷ bytes) some is (done, (after, splits), appends) = (
  done,
  (after ++ shown bytes, ap (λ (front : List ℕ). front ++ shown bytes) (escaped_byte b is ∙ splits) ∙ append_assoc done after (shown bytes)),
  appends,
)
