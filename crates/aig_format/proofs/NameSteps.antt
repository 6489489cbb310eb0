-- How reading of names and symbols goes on, for loops.
use Rattle.std.proofs.Common.{◌≡◌, ◌≢◌, ℕ, ◌+◌, ◌<◌, ◌≤◌, Contains, false, eqb, All, length, take, drop, slice_get}
use Rattle.std.proofs.Common.{List, [], ◌∷◌, ◌++◌, Option, Some, Ok, Err, refl, sym, ap, ◌∙◌, append_assoc}
use Rattle.std.proofs.Common.{arith}
use Rattle.std.proofs.lemmas.Bool.Decides.{nat_tests}
use Rattle.std.specs.Option.{is_some}
use Rattle.std.proofs.lemmas.Bool.{true≢false, lt-leb}
use Rattle.std.proofs.lemmas.Option.{get_or_from_slice_get}
use Rattle.std.proofs.lemmas.List.{append-nil, drop-append-le, drop_more, take-append-drop}
use Rattle.std.proofs.lemmas.List.Elements.{All-head, All-tail}
use Rattle.aig_format.specs.declared.reader.header.Counts.{Counts}
use Rattle.aig_format.specs.Header.{line_end}
use Rattle.aig_parts.specs.declared.symbols.Kind.{Kind}
use Rattle.std.specs.Map.{keys_of}
use Rattle.aig_format.specs.Spells.{greatest}
use Rattle.aig_format.specs.Spelling.{Entry}
use Rattle.aig_format.specs.state.Reading.{text, Read, first_of, peek_at, number_at}
use Rattle.aig_format.specs.state.ReadingNames.{count_of, line_at, position_at}
use Rattle.aig_format.proofs.Keys.{is_named_from, not_named_from}
use Rattle.aig_format.proofs.Steps.{done, done_is, regroup}
use Rattle.aig_format.specs.state.ReadingSections.{with_front}

-- ---- a line

-- bytes of the line that come before more
line_piece : (front part more : List ℕ) (whole : Read (List ℕ)) → All (λ b. b ≢ line_end) part
    → with_front front (line_at (part ++ more)) ≡ whole → with_front (front ++ part) (line_at more) ≡ whole
unfolding line_at
line_piece front [] more whole other so_far = rw (append-nil front) so_far
line_piece front (x ∷ part) more whole other so_far =
    let head : x ≢ line_end = All-head (λ (b : ℕ). b ≢ line_end) x part other in
    let test : eqb x line_end ≡ false = grind (arith, nat_tests) in
    let one : with_front front (line_at (x ∷ (part ++ more))) ≡ with_front (front ++ x ∷ []) (line_at (part ++ more)) =
    rw test (regroup front x (line_at (part ++ more))) in
    let all : (front ++ x ∷ []) ++ part ≡ front ++ x ∷ part = append_assoc front (x ∷ []) part in
    ap (λ (t : List ℕ). with_front t (line_at more)) (sym all)
    ∙ line_piece (front ++ x ∷ []) part more whole (All-tail (λ (b : ℕ). b ≢ line_end) x part other) (sym one ∙ so_far)

-- what is seen is there, and stays
seen : (left mid : List ℕ) (o : Option ℕ) → peek_at left ≡ Ok (o, mid) → left ≡ mid
seen left mid o h = (done_is (first_of left) o left mid h).1

-- the buffered bytes are in the line, and so are those after them
pub line_on : (front left mid new buffered unread : List ℕ) (n : ℕ) (o : Option ℕ) (whole : Read (List ℕ))
    → peek_at left ≡ Ok (o, mid) → mid ≡ buffered ++ unread → n ≤ length buffered → length buffered ≤ n
    → All (λ b. b ≢ line_end) (take n buffered) → new ≡ drop n mid
    → with_front front (line_at left) ≡ whole → with_front (front ++ take n buffered) (line_at new) ≡ whole
line_on front left mid new buffered unread n o whole h split le ge other is so_far =
    let rest : drop n mid ≡ drop n buffered ++ unread = ap (drop n) split ∙ drop-append-le n buffered unread le in
    let cut : buffered ≡ take n buffered ++ drop n buffered = sym (take-append-drop n buffered) in
    let all : left ≡ take n buffered ++ new =
    seen left mid o h ∙ split ∙ ap (λ (t : List ℕ). t ++ unread) cut ∙ append_assoc (take n buffered) (drop n buffered) unread
    ∙ ap (λ (t : List ℕ). take n buffered ++ t) (sym (is ∙ rest)) in
    line_piece front (take n buffered) new whole other
    (ap (λ (t : List ℕ). with_front front (line_at t)) (sym all) ∙ so_far)

-- the line ends in the buffered bytes
pub line_ends : (front left mid new buffered unread : List ℕ) (n : ℕ) (o : Option ℕ) (whole : Read (List ℕ))
    → peek_at left ≡ Ok (o, mid) → mid ≡ buffered ++ unread → n < length buffered → slice_get buffered n ≡ Some line_end
    → All (λ b. b ≢ line_end) (take n buffered) → new ≡ drop (n + 1) mid
    → with_front front (line_at left) ≡ whole → whole ≡ Ok (front ++ take n buffered, new)
unfolding line_at
line_ends front left mid new buffered unread n o whole h split lt end other is so_far =
    let rest : drop (n + 1) mid ≡ drop (n + 1) buffered ++ unread =
    ap (drop (n + 1)) split ∙ drop-append-le (n + 1) buffered unread (omega arith) in
    let cut : buffered ≡ take n buffered ++ (line_end ∷ drop (n + 1) buffered) =
    sym (take-append-drop n buffered)
    ∙ ap (λ (t : List ℕ). take n buffered ++ t)
    (drop_more buffered n 0 lt ∙ ap (λ (x : ℕ). x ∷ drop (n + 1) buffered) (get_or_from_slice_get buffered n line_end 0 end)) in
    let all : left ≡ take n buffered ++ (line_end ∷ new) =
    seen left mid o h ∙ split ∙ ap (λ (t : List ℕ). t ++ unread) cut
    ∙ append_assoc (take n buffered) (line_end ∷ drop (n + 1) buffered) unread
    ∙ ap (λ (t : List ℕ). take n buffered ++ (line_end ∷ t)) (sym (is ∙ rest)) in
    let last = line_piece front (take n buffered) (line_end ∷ new) whole other
    (ap (λ (t : List ℕ). with_front front (line_at t)) (sym all) ∙ so_far) in
    sym last ∙ ap (λ (t : List ℕ). done t new) (append-nil (front ++ take n buffered))

pub line_cut : (front left mid : List ℕ) (o : Option ℕ) (whole : Read (List ℕ)) → peek_at left ≡ Ok (o, mid)
    → is_some o ≡ false → with_front front (line_at left) ≡ whole → whole ≡ Err text
unfolding line_at
line_cut front [] mid o whole h none so_far = sym so_far
line_cut front (x ∷ left) mid o whole h none so_far =
    let is = (done_is (Some x) o (x ∷ left) mid h).0 in
    absurd (true≢false (ap is_some is ∙ none))

-- ---- positions

pub position_named : (c : Counts) (named : List Entry) (kind : Kind) (bytes : List ℕ) (p : ℕ) (rest : List ℕ)
    → number_at greatest bytes ≡ Ok (p, rest)
    → p < count_of c kind → Contains (keys_of named) (kind, p) → position_at c named kind bytes ≡ Err text
unfolding position_at
position_named c named kind bytes p rest h lt there =
    rw (h, lt-leb (count_of c kind) p lt, is_named_from kind p named there) refl

pub position_free : (c : Counts) (named : List Entry) (kind : Kind) (bytes : List ℕ) (p : ℕ) (rest : List ℕ)
    → number_at greatest bytes ≡ Ok (p, rest)
    → p < count_of c kind → (Contains (keys_of named) (kind, p) → ⊥) → position_at c named kind bytes ≡ Ok (p, rest)
unfolding position_at
position_free c named kind bytes p rest h lt free =
    rw (h, lt-leb (count_of c kind) p lt, not_named_from kind p named free) refl
