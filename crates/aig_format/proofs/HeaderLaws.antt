-- The header line that is read is spelled so, and the line that is spelled so is read.
use Rattle.std.proofs.Common.{◌≡◌, ℕ, zero, suc, ◌-◌, ◌^◌, ◌<◌, ◌≤◌, Bool, true, false, cond, eqb, ◌&&◌, ◌==◌}
use Rattle.std.proofs.Common.{subst, List, [], ◌∷◌, ◌++◌, length, get_or, Ok, refl, sym, ap, ◌∙◌}
use Rattle.std.proofs.Common.{append_assoc, arith}
use Rattle.std.specs.Prelude.{All}
use Rattle.std.specs.List.{list_all}
use Rattle.std.specs.Fmt.{decimal}
use Rattle.std.proofs.lemmas.Bool.{eqb-true, and_parts}
use Rattle.std.proofs.lemmas.Bool.Decides.{nat_tests}
use Rattle.std.proofs.lemmas.List.Elements.{All-nil, All-cons, All-head, All-tail, All-from_recursion}
use Rattle.aig_parts.specs.Formed as formed
use Rattle.aig_format.specs.declared.reader.header.Format.{Format}
use Rattle.aig_format.specs.declared.reader.header.Format.TheVariants.{Ascii, Binary}
use Rattle.aig_format.specs.declared.reader.header.Counts.{Counts}
use Rattle.aig_format.specs.Header.{space, line_end, field, word, tail, header_line}
use Rattle.aig_format.specs.state.HeaderCounts.{AreWithin, in_line}
use Rattle.aig_format.specs.state.Reading.{◌>>=◌, is_next_at, byte_at, number_at, more_at}
use Rattle.aig_format.specs.state.ReadingSections.{format_at, format_word_at, count_at, line_end_at, tail_at, header_at}
use Rattle.aig_format.proofs.Steps.{done, done_is}
use Rattle.aig_format.proofs.Joins.{join2, join_end, apart7}
use Rattle.aig_format.proofs.Numbers.{bind_then, is_next_takes, byte_takes, byte_again, number_takes, number_again}
use Rattle.aig_format.proofs.Numbers.{field_takes, field_again, more_takes, more_space, more_line, Stops, stops_space}
use Rattle.aig_format.proofs.Numbers.{stops_line}

wide : formed.limit < 2 ^ 64
wide = omega arith

nine : 9 ≤ formed.limit
nine = omega arith

-- ---- the word

-- the letter that says the format
abbrev second : Format → ℕ
second Ascii = 97
second Binary = 105

format_takes : (bytes : List ℕ) (f : Format) (rest : List ℕ) → format_at bytes ≡ Ok (f, rest) → bytes ≡ second f ∷ rest
unfolding format_at
format_takes bytes f rest h = bind_then _ _ _ h (λ a ea h1. by_ascii a.0 a.1 ea h1)
  where
    by_ascii : (b : Bool) (left : List ℕ) → is_next_at 97 bytes ≡ Ok (b, left)
        → cond b (done Ascii left) (byte_at 105 left >>= λ e. done Binary e.1) ≡ Ok (f, rest) → bytes ≡ second f ∷ rest
    by_ascii true left e g =
        let p = done_is Ascii f left rest g in
        is_next_takes 97 bytes true left e ∙ (λ i. second (p.0 i) ∷ p.1 i)
    by_ascii false left e g = bind_then _ _ _ g (λ b eb g1.
        let p = done_is Binary f b.1 rest g1 in
        is_next_takes 97 bytes false left e ∙ byte_takes 105 left b.0 b.1 eb ∙ (λ i. second (p.0 i) ∷ p.1 i))

format_again : (f : Format) (rest : List ℕ) → format_at (second f ∷ rest) ≡ Ok (f, rest)
unfolding format_at is_next_at byte_at
format_again Ascii rest = refl
format_again Binary rest = refl

word_is : (f : Format) → word f ≡ 97 ∷ second f ∷ 103 ∷ space ∷ []
word_is Ascii = refl
word_is Binary = refl

pub word_takes : (bytes : List ℕ) (f : Format) (rest : List ℕ) → format_word_at bytes ≡ Ok (f, rest) → bytes ≡ word f ++ rest
unfolding format_word_at
word_takes bytes f rest h =
    bind_then _ _ _ h
    (λ a ea h1. bind_then _ _ _ h1 (λ b eb h2. bind_then _ _ _ h2 (λ c ec h3. bind_then _ _ _ h3 (λ d ed h4.
    let p = done_is b.0 f d.1 rest h4 in
    byte_takes 97 bytes a.0 a.1 ea
    ∙ ap (λ (t : List ℕ). 97 ∷ t) (format_takes a.1 b.0 b.1 eb)
    ∙ ap (λ (t : List ℕ). 97 ∷ second b.0 ∷ t) (byte_takes 103 b.1 c.0 c.1 ec)
    ∙ ap (λ (t : List ℕ). 97 ∷ second b.0 ∷ 103 ∷ t) (byte_takes space c.1 d.0 d.1 ed)
    ∙ (λ i. 97 ∷ second (p.0 i) ∷ 103 ∷ space ∷ p.1 i)
    ∙ ap (λ (t : List ℕ). t ++ rest) (sym (word_is f))))))

pub word_again : (f : Format) (rest : List ℕ) → format_word_at (word f ++ rest) ≡ Ok (f, rest)
unfolding format_word_at
word_again f rest =
    ap (λ (t : List ℕ). format_word_at (t ++ rest)) (word_is f)
    ∙ rw (
      byte_again 97 (second f ∷ 103 ∷ space ∷ rest),
      format_again f (103 ∷ space ∷ rest),
      byte_again 103 (space ∷ rest),
      byte_again space rest,
    ) refl

-- ---- the last counts

abbrev all_zero : List ℕ → Bool
all_zero ns = list_all (λ n. n == 0) ns

abbrev pub AreCounts : List ℕ → Type 0
AreCounts ns = All (λ n. n ≤ formed.limit) ns

-- the line is over
record Over (m : ℕ) (bytes ns rest : List ℕ) : Type 0 where
  same : bytes ≡ rest
  zeros : all_zero ns ≡ true
  count : length ns ≡ m
  small : AreCounts ns

over_takes : (m : ℕ) (bytes ns rest : List ℕ) → tail_at m true bytes ≡ Ok (ns, rest) → Over m bytes ns rest
unfolding tail_at count_at line_end_at
over_takes zero bytes ns rest h =
    let p = done_is [] ns bytes rest h in
    subst (λ (k : List ℕ). Over 0 bytes k rest) p.0
    (record { same = p.1; zeros = refl; count = refl; small = All-nil (λ (n : ℕ). n ≤ formed.limit) })
over_takes (suc m) bytes ns rest h = bind_then _ _ _ h (λ o eo h1.
    let p = done_is (0 ∷ o.0) ns o.1 rest h1 in
    let q = over_takes m bytes o.0 o.1 eo in
    subst (λ (k : List ℕ). Over (suc m) bytes k rest) p.0
    (record {
      same = q.same ∙ p.1;
      zeros = q.zeros;
      count = ap suc q.count;
      small =
          All-cons (λ (n : ℕ). n ≤ formed.limit) 0 o.0 (omega arith) q.small;
    }))

over_again : (ns rest : List ℕ) → all_zero ns ≡ true → tail_at (length ns) true rest ≡ Ok (ns, rest)
unfolding tail_at count_at line_end_at
over_again [] rest zeros = refl
over_again (n ∷ ns) rest zeros =
    let p = and_parts (n == 0) (all_zero ns) zeros in
    let none : n ≡ 0 = eqb-true n 0 p.0 in
    rw (over_again ns rest p.1) (ap (λ (k : ℕ). done (k ∷ ns) rest) (sym none))

-- what was read of so many counts
pub record TailRead (m : ℕ) (bytes ns rest : List ℕ) : Type 0 where
  pub least : ℕ
  pub spelled : bytes ≡ tail least ns ++ rest
  pub count : length ns ≡ m
  pub small : AreCounts ns

tail_zeros : (n : ℕ) (ns : List ℕ) → all_zero (n ∷ ns) ≡ true → tail 0 (n ∷ ns) ≡ line_end ∷ []
unfolding tail
tail_zeros n ns zeros = rw zeros refl

tail_more : (k n : ℕ) (ns : List ℕ) → tail (suc k) (n ∷ ns) ≡ space ∷ (decimal n ++ tail k ns)
unfolding tail
tail_more k n ns =
    let some : eqb (suc k) 0 ≡ false = grind (arith, nat_tests) in
    let less : suc k - 1 ≡ k = omega arith in
    rw (some, less) refl

all_zero_cons : (ns : List ℕ) → all_zero ns ≡ true → all_zero (0 ∷ ns) ≡ true
all_zero_cons ns h = h

pub tail_takes : (m : ℕ) (bytes ns rest : List ℕ) → tail_at m false bytes ≡ Ok (ns, rest) → TailRead m bytes ns rest
unfolding tail_at count_at line_end_at tail
tail_takes zero bytes ns rest h = bind_then _ _ _ h (λ e ee h1.
    let p = done_is [] ns e.1 rest h1 in
    subst (λ (k : List ℕ). TailRead 0 bytes k rest) p.0
    (record {
      least = 0;
      spelled =
          byte_takes line_end bytes e.0 e.1 ee ∙ ap (λ (t : List ℕ). line_end ∷ t) p.1;
      count = refl;
      small =
          All-nil (λ (n : ℕ). n ≤ formed.limit);
    }))
tail_takes (suc m) bytes ns rest h =
    bind_then _ _ _ h
    (λ a ea h1.
    bind_then _ _ _ ea (λ b eb h2. by_more (λ t os r e. tail_takes m t os r e) a.0.0 a.0.1 a.1 b.0 b.1 eb h2 h1))
  where
    by_more : ((t os r : List ℕ) → tail_at m false t ≡ Ok (os, r) → TailRead m t os r)
        → (n : ℕ) (over : Bool) (after : List ℕ) (b : Bool) (left : List ℕ) → more_at bytes ≡ Ok (b, left)
        → cond b (number_at formed.limit left >>= λ c. done {A = ℕ × Bool} (c.0, false) c.1)
        (done {A = ℕ × Bool} (0, true) left) ≡ done {A = ℕ × Bool} (n, over) after
        → (tail_at m over after >>= λ others. done (n ∷ others.0) others.1) ≡ Ok (ns, rest)
        → TailRead (suc m) bytes ns rest
    by_more again n over after true left e g h1 = bind_then _ _ _ g (λ c ec g1.
        let q = done_is (c.0, false) (n, over) c.1 after g1 in
        let number : c.0 ≡ n = ap (λ (x : ℕ × Bool). x.0) q.0 in
        let open_ : false ≡ over = ap (λ (x : ℕ × Bool). x.1) q.0 in
        let t = number_takes formed.limit left c.0 c.1 nine wide ec in
        let h2 : (tail_at m false c.1 >>= λ others. done (c.0 ∷ others.0) others.1) ≡ Ok (ns, rest) =
        (λ i. tail_at m (open_ i) (q.1 i) >>= λ others. done (number i ∷ others.0) others.1) ∙ h1 in
        bind_then _ _ _ h2 (λ o eo h3.
        let p = done_is (c.0 ∷ o.0) ns o.1 rest h3 in
        let r = again c.1 o.0 o.1 eo in
        let text : bytes ≡ tail (suc r.least) (c.0 ∷ o.0) ++ rest =
        more_takes bytes true left e
        ∙ ap (λ (x : List ℕ). space ∷ x)
        (join2 left (decimal c.0) c.1 (tail r.least o.0) rest t.0
        (join_end c.1 (tail r.least o.0) o.1 rest r.spelled p.1))
        ∙ ap (λ (x : List ℕ). x ++ rest) (sym (tail_more r.least c.0 o.0)) in
        subst (λ (k : List ℕ). TailRead (suc m) bytes k rest) p.0
        (record {
          least = suc r.least;
          spelled = text;
          count = ap suc r.count;
          small =
              All-cons (λ (n : ℕ). n ≤ formed.limit) c.0 o.0 t.1 r.small;
        })))
    by_more again n over after false left e g h1 =
        let q = done_is (0, true) (n, over) left after g in
        let number : 0 ≡ n = ap (λ (x : ℕ × Bool). x.0) q.0 in
        let closed : true ≡ over = ap (λ (x : ℕ × Bool). x.1) q.0 in
        let h2 : (tail_at m true left >>= λ others. done (0 ∷ others.0) others.1) ≡ Ok (ns, rest) =
        (λ i. tail_at m (closed i) (q.1 i) >>= λ others. done (number i ∷ others.0) others.1) ∙ h1 in
        bind_then _ _ _ h2 (λ o eo h3.
        let p = done_is (0 ∷ o.0) ns o.1 rest h3 in
        let r = over_takes m left o.0 o.1 eo in
        let text : bytes ≡ tail 0 (0 ∷ o.0) ++ rest =
        more_takes bytes false left e ∙ ap (λ (x : List ℕ). line_end ∷ x) (r.same ∙ p.1)
        ∙ ap (λ (x : List ℕ). x ++ rest) (sym (tail_zeros 0 o.0 (all_zero_cons o.0 r.zeros))) in
        subst (λ (k : List ℕ). TailRead (suc m) bytes k rest) p.0
        (record {
          least = 0;
          spelled = text;
          count = ap suc r.count;
          small =
              All-cons (λ (n : ℕ). n ≤ formed.limit) 0 o.0 (omega arith) r.small;
        }))

stops_tail : (k : ℕ) (ns rest : List ℕ) → Stops (tail k ns ++ rest)
unfolding tail
stops_tail k [] rest = stops_line rest
stops_tail k (n ∷ ns) rest = by_test (k == 0 && all_zero (n ∷ ns))
  where
    by_test : (b : Bool) → Stops (cond b (line_end ∷ []) (space ∷ (decimal n ++ tail (k - 1) ns)) ++ rest)
    by_test true = stops_line rest
    by_test false = stops_space ((decimal n ++ tail (k - 1) ns) ++ rest)

pub tail_again : (k : ℕ) (ns rest : List ℕ) → AreCounts ns → tail_at (length ns) false (tail k ns ++ rest)
    ≡ Ok (ns, rest)
unfolding tail_at count_at line_end_at tail
tail_again k [] rest small = rw (byte_again line_end rest) refl
tail_again k (n ∷ ns) rest small = by_test (λ j s. tail_again j ns rest s) (k == 0 && all_zero (n ∷ ns)) refl
  where
    by_test : ((j : ℕ) → AreCounts ns → tail_at (length ns) false (tail j ns ++ rest) ≡ Ok (ns, rest)) → (b : Bool)
        → (k == 0 && all_zero (n ∷ ns)) ≡ b
        → tail_at (suc (length ns)) false (cond b (line_end ∷ []) (space ∷ (decimal n ++ tail (k - 1) ns)) ++ rest)
        ≡ Ok (n ∷ ns, rest)
    by_test again true e =
        let zeros = (and_parts (k == 0) (all_zero (n ∷ ns)) e).1 in
        rw (more_line rest) (over_again (n ∷ ns) rest zeros)
    by_test again false e =
        let head = All-head (λ (n : ℕ). n ≤ formed.limit) n ns small in
        let after : List ℕ = tail (k - 1) ns ++ rest in
        ap (λ (t : List ℕ). tail_at (suc (length ns)) false (space ∷ t))
        (append_assoc (decimal n) (tail (k - 1) ns) rest)
        ∙ rw (
          more_space (decimal n ++ after),
          number_again formed.limit n after head wide (stops_tail (k - 1) ns rest),
          again (k - 1) (All-tail (λ (n : ℕ). n ≤ formed.limit) n ns small),
        ) refl

-- ---- the line

four : (ns : List ℕ) → length ns ≡ 4 → get_or ns 0 0 ∷ get_or ns 1 0 ∷ get_or ns 2 0 ∷ get_or ns 3 0 ∷ [] ≡ ns
four [] e = absurd (omega (arith, e))
four (a ∷ []) e = absurd (omega (arith, e))
four (a ∷ b ∷ []) e = absurd (omega (arith, e))
four (a ∷ b ∷ c ∷ []) e = absurd (omega (arith, e))
four (a ∷ b ∷ c ∷ d ∷ []) e = refl
four (a ∷ b ∷ c ∷ d ∷ x ∷ xs) e = absurd (omega (arith, e))

-- the line that was read
pub record HeaderRead (bytes : List ℕ) (f : Format) (c : Counts) (rest : List ℕ) : Type 0 where
  pub least : ℕ
  pub spelled : bytes ≡ header_line f least (in_line c) ++ rest
  pub within : AreWithin c

abbrev counts_from : ℕ → ℕ → ℕ → ℕ → ℕ → List ℕ → Counts
counts_from m i l o g ns =
    record {
      max_var = m;
      inputs = i;
      latches = l;
      outputs = o;
      gates = g;
      bad = get_or ns 0 0;
      constraints =
          get_or ns 1 0;
      justice = get_or ns 2 0;
      fairness = get_or ns 3 0;
    }

header_joins : (bytes : List ℕ) (f : Format) (w : List ℕ) (m i l o g : ℕ × List ℕ) (ns rest : List ℕ)
    → bytes ≡ word f ++ w
    → (w ≡ field m.0 space ++ m.1) × (m.0 ≤ formed.limit) → (m.1 ≡ field i.0 space ++ i.1) × (i.0 ≤ formed.limit)
    → (i.1 ≡ field l.0 space ++ l.1) × (l.0 ≤ formed.limit)
    → (l.1 ≡ field o.0 space ++ o.1) × (o.0 ≤ formed.limit) → (o.1 ≡ decimal g.0 ++ g.1) × (g.0 ≤ formed.limit)
    → TailRead 4 g.1 ns rest
    → HeaderRead bytes f (counts_from m.0 i.0 l.0 o.0 g.0 ns) rest
unfolding header_line
header_joins bytes f w m i l o g ns rest tw tm ti tl to tg tt_ =
    let e1 = join2 bytes (word f) w (field m.0 space) m.1 tw tm.0 in
    let e2 = join2 bytes (word f ++ field m.0 space) m.1 (field i.0 space) i.1 e1 ti.0 in
    let e3 = join2 bytes (word f ++ field m.0 space ++ field i.0 space) i.1 (field l.0 space) l.1 e2 tl.0 in
    let e4 =
    join2 bytes (word f ++ field m.0 space ++ field i.0 space ++ field l.0 space) l.1
    (field o.0 space) o.1 e3 to.0 in
    let e5 =
    join2 bytes (word f ++ field m.0 space ++ field i.0 space ++ field l.0 space ++ field o.0 space) o.1
    (decimal g.0) g.1 e4 tg.0 in
    let e6 =
    join2 bytes
    (word f ++ field m.0 space ++ field i.0 space ++ field l.0 space ++ field o.0 space ++ decimal g.0) g.1
    (tail tt_.least ns) rest e5 tt_.spelled in
    let is = four ns tt_.count in
    record {
      least = tt_.least;
      spelled =
          e6 ∙ ap (λ (k : List ℕ).
          (word f ++ field m.0 space ++ field i.0 space ++ field l.0 space ++ field o.0 space ++ decimal g.0 ++ tail
          tt_.least k) ++ rest) (sym is);
      within = record {
        max_var = tm.1;
        inputs = ti.1;
        latches = tl.1;
        outputs = to.1;
        gates = tg.1;
        bad = tt_.small 0 0 (omega (arith, tt_.count));
        constraints = tt_.small 1 0 (omega (arith, tt_.count));
        justice = tt_.small 2 0 (omega (arith, tt_.count));
        fairness = tt_.small 3 0 (omega (arith, tt_.count));
      };
    }

pub header_takes : (bytes : List ℕ) (h : Format × Counts) (rest : List ℕ) → header_at bytes ≡ Ok (h, rest)
    → HeaderRead bytes h.0 h.1 rest
unfolding header_at
header_takes bytes h rest e =
    bind_then _ _ _ e
    (λ w ew e0.
    bind_then _ _ _ e0
    (λ m em e1.
    bind_then _ _ _ e1
    (λ i ei e2.
    bind_then _ _ _ e2
    (λ l el e3. bind_then _ _ _ e3 (λ o eo e4. bind_then _ _ _ e4 (λ g eg e5. bind_then _ _ _ e5 (λ t et e6.
    let p = done_is (w.0, counts_from m.0 i.0 l.0 o.0 g.0 t.0) h t.1 rest e6 in
    let made = header_joins bytes w.0 w.1 m i l o g t.0 t.1 (word_takes bytes w.0 w.1 ew)
    (field_takes formed.limit space w.1 m.0 m.1 nine wide em)
    (field_takes formed.limit space m.1 i.0 i.1 nine wide ei)
    (field_takes formed.limit space i.1 l.0 l.1 nine wide el)
    (field_takes formed.limit space l.1 o.0 o.1 nine wide eo) (number_takes formed.limit o.1 g.0 g.1 nine wide eg)
    (tail_takes 4 g.1 t.0 t.1 et) in
    let P : Format × Counts → List ℕ → Type 0 = λ k r. HeaderRead bytes k.0 k.1 r in
    subst (λ (k : Format × Counts). P k rest) p.0
    (subst (λ (r : List ℕ). P (w.0, counts_from m.0 i.0 l.0 o.0 g.0 t.0) r) p.1 made))))))))

-- the last four
abbrev trailing : Counts → List ℕ
trailing c = c.bad ∷ c.constraints ∷ c.justice ∷ c.fairness ∷ []

within_counts : (c : Counts) → AreWithin c → AreCounts (trailing c)
within_counts c w =
    let P : ℕ → Type 0 = λ n. n ≤ formed.limit in
    All-cons P c.bad (c.constraints ∷ c.justice ∷ c.fairness ∷ []) w.bad
    (All-cons P c.constraints (c.justice ∷ c.fairness ∷ []) w.constraints
    (All-cons P c.justice (c.fairness ∷ []) w.justice (All-cons P c.fairness [] w.fairness (All-nil P))))

pub header_again : (f : Format) (least : ℕ) (c : Counts) (rest : List ℕ) → AreWithin c
    → header_at (header_line f least (in_line c) ++ rest) ≡ Ok ((f, c), rest)
unfolding header_at header_line
header_again f least c rest fits =
    let t : List ℕ = tail least (trailing c) ++ rest in
    let g : List ℕ = decimal c.gates ++ t in
    let o : List ℕ = field c.outputs space ++ g in
    let l : List ℕ = field c.latches space ++ o in
    let i : List ℕ = field c.inputs space ++ l in
    let m : List ℕ = field c.max_var space ++ i in
    ap header_at
    (apart7 (word f) (field c.max_var space) (field c.inputs space) (field c.latches space)
    (field c.outputs space) (decimal c.gates) (tail least (trailing c)) rest)
    ∙ rw (
      word_again f m,
      field_again formed.limit space c.max_var i fits.max_var wide (stops_space i),
      field_again formed.limit space c.inputs l fits.inputs wide (stops_space l),
      field_again formed.limit space c.latches o fits.latches wide (stops_space o),
      field_again formed.limit space c.outputs g fits.outputs wide (stops_space g),
      number_again formed.limit c.gates t fits.gates wide (stops_tail least (trailing c) rest),
      tail_again least (trailing c) rest (within_counts c fits),
    ) refl

-- ---- the counts as a list

pub all_within : (c : Counts) → AreWithin c → AreCounts (in_line c)
all_within c w =
    All-from_recursion (λ (n : ℕ). n ≤ formed.limit) (in_line c)
    (w.max_var, (w.inputs, (w.latches, (w.outputs, (w.gates, (w.bad, (w.constraints, (w.justice, (w.fairness, tt)))))))))

each_within : (c : Counts) → AreCounts (in_line c) → AreWithin c
each_within c h = record {
  max_var = h 0 0 (omega arith);
  inputs = h 1 0 (omega arith);
  latches = h 2 0 (omega arith);
  outputs = h 3 0 (omega arith);
  gates = h 4 0 (omega arith);
  bad = h 5 0 (omega arith);
  constraints = h 6 0 (omega arith);
  justice = h 7 0 (omega arith);
  fairness = h 8 0 (omega arith);
}

nine_of : (ns : List ℕ) → length ns ≡ 9 → (c : Counts) × (ns ≡ in_line c)
nine_of [] e = absurd (omega (arith, e))
nine_of (m ∷ []) e = absurd (omega (arith, e))
nine_of (m ∷ i ∷ []) e = absurd (omega (arith, e))
nine_of (m ∷ i ∷ l ∷ []) e = absurd (omega (arith, e))
nine_of (m ∷ i ∷ l ∷ o ∷ []) e = absurd (omega (arith, e))
nine_of (m ∷ i ∷ l ∷ o ∷ a ∷ last) e = (counts_from m i l o a last, ap (λ (ns : List ℕ). m ∷ i ∷ l ∷ o ∷ a ∷ ns) (sym (four last (omega (arith, e)))))

-- nine counts within the limit
pub record NineCounts (ns : List ℕ) : Type 0 where
  pub counts : Counts
  pub same : ns ≡ in_line counts
  pub within : AreWithin counts

pub nine_counts : (ns : List ℕ) → length ns ≡ 9 → AreCounts ns → NineCounts ns
nine_counts ns e small =
    let n = nine_of ns e in
    record { counts = n.0; same = n.1; within = each_within n.0 (subst AreCounts n.1 small) }
