-- How reading of sections goes on, for loops.
use Rattle.std.proofs.Common.{◌≡◌, ℕ, suc, ◌+◌, ◌-◌, ◌<◌, ◌≤◌, Bool, true, false, cond, ltb, List, [], ◌∷◌}
use Rattle.std.proofs.Common.{◌++◌, length, get_or, drop, Ok, Err, refl, sym, ap, subst, ◌∙◌, arith}
use Rattle.std.proofs.Math.Seq.{drop-cons}
use Rattle.std.proofs.lemmas.List.{append-nil, drop_all}
use Rattle.std.proofs.lemmas.Bool.{lt-ltb, le-ltb}
use Rattle.aig_parts.specs.declared.fault.Fault.{Fault}
use Rattle.aig_parts.specs.Formed as formed
use Rattle.aig_format.specs.Header.{line_end}
use Rattle.aig_format.specs.Spells.{greatest}
use Rattle.aig_format.specs.state.Reading.{limit, Read, ◌>>=◌, byte_at, number_at}
use Rattle.aig_format.specs.state.ReadingSections.{literals_at, sizes_at, groups_of_literals_at}
use Rattle.aig_format.specs.state.ReaderAnswers.{Fails}
use Rattle.aig_format.proofs.Steps.{done, regroup, bind_bind, fails_on}
use Rattle.aig_format.specs.state.ReadingSections.{with_front}

-- ---- sizes

after_size : List ℕ → ℕ → ℕ → ℕ × List ℕ → Read (List ℕ)
after_size front n total size =
    cond (ltb formed.limit (total + size.0)) (Err limit)
    (byte_at line_end size.1 >>= λ end. with_front (front ++ size.0 ∷ []) (sizes_at n (total + size.0) end.1))

size_split : (front : List ℕ) (n total : ℕ) (size : ℕ × List ℕ) (over : Bool)
    → with_front front
    (cond over (Err limit)
    (byte_at line_end size.1 >>= λ end. sizes_at n (total + size.0) end.1 >>= λ others.
    done (size.0 ∷ others.0) others.1))
    ≡ cond over (Err limit)
    (byte_at line_end size.1 >>= λ end. with_front (front ++ size.0 ∷ []) (sizes_at n (total + size.0) end.1))
size_split front n total size true = refl
size_split front n total size false =
    bind_bind (byte_at line_end size.1)
    (λ end. sizes_at n (total + size.0) end.1 >>= λ others. done (size.0 ∷ others.0) others.1)
    (λ x. done (front ++ x.0) x.1)
    ∙ same (byte_at line_end size.1)
  where
    same : (r : Read (Unit {0}))
        → (r >>= λ end.
        with_front front (sizes_at n (total + size.0) end.1 >>= λ others. done (size.0 ∷ others.0) others.1))
        ≡ (r >>= λ end. with_front (front ++ size.0 ∷ []) (sizes_at n (total + size.0) end.1))
    same (Ok end) = regroup front size.0 (sizes_at n (total + size.0) end.1)
    same (Err e) = refl

sizes_step : (front : List ℕ) (count i total : ℕ) (bytes : List ℕ) (whole : Read (List ℕ)) → i < count
    → with_front front (sizes_at (count - i) total bytes) ≡ whole
    → (number_at greatest bytes >>= after_size front (count - (i + 1)) total) ≡ whole
unfolding sizes_at after_size
sizes_step front count i total bytes whole lt so_far =
    let k : count - i ≡ suc (count - (i + 1)) = omega arith in
    let n : ℕ = count - (i + 1) in
    let one : with_front front (sizes_at (count - i) total bytes)
    ≡ (number_at greatest bytes >>= after_size front n total) = rw k (by_number (number_at greatest bytes)) in
    sym one ∙ so_far
  where
    by_number : (r : Read ℕ)
        → with_front front
        (r >>= λ size. cond (ltb formed.limit (total + size.0)) (Err limit)
        (byte_at line_end size.1 >>= λ end. sizes_at (count - (i + 1)) (total + size.0) end.1 >>= λ others.
        done (size.0 ∷ others.0) others.1))
        ≡ (r >>= after_size front (count - (i + 1)) total)
    by_number (Ok size) = size_split front (count - (i + 1)) total size (ltb formed.limit (total + size.0))
    by_number (Err e) = refl

pub sizes_fail : (e : Fault) (front : List ℕ) (count i total : ℕ) (bytes : List ℕ) (whole : Read (List ℕ)) → i < count
    → Fails e (number_at greatest bytes)
    → with_front front (sizes_at (count - i) total bytes) ≡ whole → Fails e whole
sizes_fail e front count i total bytes whole lt h so_far =
    subst (λ (r : Read (List ℕ)). Fails e r) (sizes_step front count i total bytes whole lt so_far)
    (fails_on e (number_at greatest bytes) (after_size front (count - (i + 1)) total) h)

pub sizes_over : (front : List ℕ) (count i total : ℕ) (bytes : List ℕ) (size : ℕ) (mid : List ℕ)
    (whole : Read (List ℕ)) → i < count
    → number_at greatest bytes ≡ Ok (size, mid) → formed.limit < total + size
    → with_front front (sizes_at (count - i) total bytes) ≡ whole → whole ≡ Err limit
unfolding after_size
sizes_over front count i total bytes size mid whole lt h over so_far =
    sym (sizes_step front count i total bytes whole lt so_far) ∙ rw (h, lt-ltb formed.limit (total + size) over) refl

sizes_then : (front : List ℕ) (count i total : ℕ) (bytes : List ℕ) (size : ℕ) (mid : List ℕ) (whole : Read (List ℕ))
    → i < count
    → number_at greatest bytes ≡ Ok (size, mid) → total + size ≤ formed.limit
    → with_front front (sizes_at (count - i) total bytes) ≡ whole
    → (byte_at line_end mid >>= λ end. with_front (front ++ size ∷ [])
    (sizes_at (count - (i + 1)) (total + size) end.1)) ≡ whole
unfolding after_size
sizes_then front count i total bytes size mid whole lt h within so_far =
    sym (sym (sizes_step front count i total bytes whole lt so_far)
    ∙ rw (h, le-ltb formed.limit (total + size) within) refl)

pub sizes_end_fail : (e : Fault) (front : List ℕ) (count i total : ℕ) (bytes : List ℕ) (size : ℕ) (mid : List ℕ)
    (whole : Read (List ℕ)) → i < count
    → number_at greatest bytes ≡ Ok (size, mid) → total + size ≤ formed.limit → Fails e (byte_at line_end mid)
    → with_front front (sizes_at (count - i) total bytes) ≡ whole → Fails e whole
sizes_end_fail e front count i total bytes size mid whole lt h within bad so_far =
    subst (λ (r : Read (List ℕ)). Fails e r) (sizes_then front count i total bytes size mid whole lt h within so_far)
    (fails_on e (byte_at line_end mid)
    (λ end. with_front (front ++ size ∷ []) (sizes_at (count - (i + 1)) (total + size) end.1)) bad)

pub sizes_on : (front : List ℕ) (count i total : ℕ) (bytes : List ℕ) (size : ℕ) (mid : List ℕ) (u : Unit {0})
    (after : List ℕ) (whole : Read (List ℕ)) → i < count
    → number_at greatest bytes ≡ Ok (size, mid) → total + size ≤ formed.limit → byte_at line_end mid ≡ Ok (u, after)
    → with_front front (sizes_at (count - i) total bytes) ≡ whole
    → with_front (front ++ size ∷ []) (sizes_at (count - (i + 1)) (total + size) after) ≡ whole
sizes_on front count i total bytes size mid u after whole lt h within end so_far =
    sym (sym (sizes_then front count i total bytes size mid whole lt h within so_far) ∙ rw end refl)

pub sizes_done : (front : List ℕ) (count i total : ℕ) (bytes : List ℕ) (whole : Read (List ℕ)) → count ≤ i
    → with_front front (sizes_at (count - i) total bytes) ≡ whole → whole ≡ Ok (front, bytes)
unfolding sizes_at
sizes_done front count i total bytes whole le so_far =
    let k : count - i ≡ 0 = omega arith in
    let one : with_front front (sizes_at (count - i) total bytes) ≡ Ok (front, bytes) =
    rw k (ap (λ (xs : List ℕ). done xs bytes) (append-nil front)) in
    sym so_far ∙ one

-- ---- groups of literals

after_group : List (List ℕ) → List ℕ → List ℕ × List ℕ → Read (List (List ℕ))
after_group front sizes first = with_front (front ++ first.0 ∷ []) (groups_of_literals_at sizes first.1)

groups_step : (front : List (List ℕ)) (sizes : List ℕ) (i size : ℕ) (bytes : List ℕ) (whole : Read (List (List ℕ)))
    → i < length sizes → size ≡ get_or sizes i 0
    → with_front front (groups_of_literals_at (drop i sizes) bytes) ≡ whole
    → (literals_at size bytes >>= after_group front (drop (i + 1) sizes)) ≡ whole
unfolding groups_of_literals_at after_group
groups_step front sizes i size bytes whole lt is so_far =
    let next : i + 1 ≡ suc i = omega arith in
    let one : with_front front (groups_of_literals_at (drop i sizes) bytes)
    ≡ (literals_at (get_or sizes i 0) bytes >>= after_group front (drop (suc i) sizes)) =
    rw (drop-cons sizes i 0 lt) (by_group (literals_at (get_or sizes i 0) bytes)) in
    ap (λ (k : ℕ). literals_at size bytes >>= after_group front (drop k sizes)) next
    ∙ ap (λ (k : ℕ). literals_at k bytes >>= after_group front (drop (suc i) sizes)) is ∙ sym one ∙ so_far
  where
    by_group : (r : Read (List ℕ))
        → with_front front
        (r >>= λ first. groups_of_literals_at (drop (suc i) sizes) first.1 >>= λ others.
        done (first.0 ∷ others.0) others.1)
        ≡ (r >>= after_group front (drop (suc i) sizes))
    by_group (Ok first) = regroup front first.0 (groups_of_literals_at (drop (suc i) sizes) first.1)
    by_group (Err e) = refl

pub groups_fail : (e : Fault) (front : List (List ℕ)) (sizes : List ℕ) (i size : ℕ) (bytes : List ℕ)
    (whole : Read (List (List ℕ))) → i < length sizes → size ≡ get_or sizes i 0
    → Fails e (literals_at size bytes) → with_front front (groups_of_literals_at (drop i sizes) bytes) ≡ whole
    → Fails e whole
groups_fail e front sizes i size bytes whole lt is h so_far =
    subst (λ (r : Read (List (List ℕ))). Fails e r) (groups_step front sizes i size bytes whole lt is so_far)
    (fails_on e (literals_at size bytes) (after_group front (drop (i + 1) sizes)) h)

pub groups_on : (front : List (List ℕ)) (sizes : List ℕ) (i size : ℕ) (bytes first after : List ℕ)
    (whole : Read (List (List ℕ))) → i < length sizes → size ≡ get_or sizes i 0
    → literals_at size bytes ≡ Ok (first, after) → with_front front (groups_of_literals_at (drop i sizes) bytes) ≡ whole
    → with_front (front ++ first ∷ []) (groups_of_literals_at (drop (i + 1) sizes) after) ≡ whole
unfolding after_group
groups_on front sizes i size bytes first after whole lt is h so_far =
    sym (sym (groups_step front sizes i size bytes whole lt is so_far) ∙ rw h refl)

pub groups_done : (front : List (List ℕ)) (sizes : List ℕ) (i : ℕ) (bytes : List ℕ) (whole : Read (List (List ℕ)))
    → length sizes ≤ i
    → with_front front (groups_of_literals_at (drop i sizes) bytes) ≡ whole → whole ≡ Ok (front, bytes)
unfolding groups_of_literals_at
groups_done front sizes i bytes whole le so_far =
    let one : with_front front (groups_of_literals_at (drop i sizes) bytes) ≡ Ok (front, bytes) =
    rw (drop_all i sizes le) (ap (λ (xs : List (List ℕ)). done xs bytes) (append-nil front)) in
    sym so_far ∙ one
