-- The sections that are read are spelled so, and the sections that are spelled so are read.
use Rattle.std.proofs.Common.{◌≡◌, ℕ, zero, suc, ◌+◌, ◌^◌, ◌<◌, ◌≤◌, Bool, true, false, cond, ltb, subst, List, []}
use Rattle.std.proofs.Common.{◌∷◌, ◌++◌, length, map, Ok, Err, refl, sym, ap, ◌∙◌, append_assoc, arith}
use Rattle.std.specs.Prelude.{All, sum_by}
use Rattle.std.specs.List.{flat_map}
use Rattle.std.specs.Fmt.{decimal}
use Rattle.std.proofs.lemmas.Bool.{ltb-false, le-ltb}
use Rattle.std.proofs.lemmas.List.{length-map}
use Rattle.std.proofs.lemmas.List.Concat.{flat_map-cons}
use Rattle.std.proofs.lemmas.List.Folds.{flat_map-map}
use Rattle.std.proofs.lemmas.List.Sums.{sum_by-cons}
use Rattle.std.proofs.lemmas.List.Elements.{All-nil, All-cons, All-head, All-tail}
use Rattle.aig_parts.specs.Formed as formed
use Rattle.aig_format.specs.declared.reader.header.Counts.{Counts}
use Rattle.aig_format.specs.declared.reader.section.Properties.{Properties}
use Rattle.aig_format.specs.Header.{line_end}
use Rattle.aig_format.specs.Spelling.{literal_line, size_line, property_lines}
use Rattle.aig_format.specs.Spells.{greatest}
use Rattle.aig_format.specs.state.Reading.{limit, ◌>>=◌, byte_at, number_at}
use Rattle.aig_format.specs.state.ReadingSections.{literal_at, literals_at, sizes_at, groups_of_literals_at, justice_at}
use Rattle.aig_format.specs.state.ReadingSections.{properties_at}
use Rattle.aig_format.proofs.Steps.{done, done_is}
use Rattle.aig_format.proofs.Joins.{join2, join_end, apart6}
use Rattle.aig_format.proofs.SmallNumbers.{AreSmall}
use Rattle.aig_format.proofs.Numbers.{bind_then, byte_takes, byte_again, number_takes, number_again, stops_line}
use Rattle.aig_format.proofs.Lines.{lines_take, lines_again, plain_lines, all_from_fits, fits_from_all, IsLiteral}
use Rattle.aig_format.proofs.Lines.{literal_takes, literal_again}

-- ---- literals

pub literals_take : (n : ℕ) (bytes xs rest : List ℕ) → literals_at n bytes ≡ Ok (xs, rest)
    → (bytes ≡ flat_map literal_line xs ++ rest) × (length xs ≡ n) × AreSmall xs
literals_take n bytes xs rest h =
    let t = lines_take (λ v. literal_at) (λ w. literal_line) (λ v. IsLiteral) literal_takes n 0 bytes xs rest h in (
      t.spelled ∙ ap (λ (s : List ℕ). s ++ rest) (plain_lines literal_line t.written xs),
      t.count,
      all_from_fits IsLiteral 0 xs t.fits,
    )

pub literals_again : (xs rest : List ℕ) → AreSmall xs → literals_at (length xs) (flat_map literal_line xs ++ rest)
    ≡ Ok (xs, rest)
literals_again xs rest small =
    ap (λ (s : List ℕ). literals_at (length xs) (s ++ rest)) (sym (plain_lines literal_line [] xs))
    ∙ lines_again (λ v. literal_at) (λ w. literal_line) (λ v. IsLiteral) literal_again 0 [] xs rest
    (fits_from_all IsLiteral 0 xs small)

-- ---- sizes

pub record SizesRead (n total : ℕ) (bytes sizes rest : List ℕ) : Type 0 where
  pub spelled : bytes ≡ flat_map literal_line sizes ++ rest
  pub count : length sizes ≡ n
  pub within : total + sum_by (λ k. k) sizes ≤ formed.limit

wide : greatest < 2 ^ 64
wide = omega arith

nine : 9 ≤ greatest
nine = omega arith

pub sizes_take : (n total : ℕ) (bytes sizes rest : List ℕ) → total ≤ formed.limit
    → sizes_at n total bytes ≡ Ok (sizes, rest) → SizesRead n total bytes sizes rest
unfolding sizes_at
sizes_take zero total bytes sizes rest le h =
    let p = done_is [] sizes bytes rest h in
    subst (λ (k : List ℕ). SizesRead 0 total bytes k rest) p.0
    (record { spelled = p.1; count = refl; within = omega (arith, le) })
sizes_take (suc n) total bytes sizes rest le h =
    bind_then _ _ _ h
    (λ a ea h1. by_over (λ t b s r l e. sizes_take n t b s r l e) a.0 a.1 ea (ltb formed.limit (total + a.0)) refl h1)
  where
    by_over : ((t : ℕ) (b s r : List ℕ) → t ≤ formed.limit → sizes_at n t b ≡ Ok (s, r) → SizesRead n t b s r)
        → (size : ℕ) (left : List ℕ) → number_at greatest bytes ≡ Ok (size, left)
        → (over : Bool) → ltb formed.limit (total + size) ≡ over
        → cond over (Err limit)
        (byte_at line_end left >>= λ end. sizes_at n (total + size) end.1 >>= λ others.
        done (size ∷ others.0) others.1) ≡ Ok (sizes, rest)
        → SizesRead (suc n) total bytes sizes rest
    by_over again size left e true o g = absurd cc
    by_over again size left e false o g = bind_then _ _ _ g (λ b eb g1. bind_then _ _ _ g1 (λ d ed g2.
        let p = done_is (size ∷ d.0) sizes d.1 rest g2 in
        let fits = ltb-false formed.limit (total + size) o in
        let t = number_takes greatest bytes size left nine wide e in
        let r = again (total + size) b.1 d.0 d.1 fits ed in
        let line = join2 bytes _ left (line_end ∷ []) b.1 t.0 (byte_takes line_end left b.0 b.1 eb) in
        let text =
        join2 bytes (literal_line size) b.1 (flat_map literal_line d.0) rest line
        (join_end b.1 (flat_map literal_line d.0) d.1 rest r.spelled p.1) in
        let sum = sum_by-cons (λ k. k) size d.0 in
        subst (λ (k : List ℕ). SizesRead (suc n) total bytes k rest) p.0 (record {
          spelled = text ∙ ap (λ (x : List ℕ). x ++ rest) (sym (flat_map-cons literal_line size d.0));
          count = ap suc r.count;
          within = omega (arith, r.within, sum);
        })))

pub sizes_again : (total : ℕ) (sizes rest : List ℕ) → total + sum_by (λ k. k) sizes ≤ formed.limit
    → sizes_at (length sizes) total (flat_map literal_line sizes ++ rest) ≡ Ok (sizes, rest)
unfolding sizes_at
sizes_again total [] rest within = refl
sizes_again total (size ∷ sizes) rest within =
    let sum = sum_by-cons (λ k. k) size sizes in
    let after : List ℕ = flat_map literal_line sizes ++ rest in
    let fits : total + size ≤ formed.limit = omega (arith, within, sum) in
    let regrouped : flat_map literal_line (size ∷ sizes) ++ rest ≡ decimal size ++ line_end ∷ after =
    ap (λ (x : List ℕ). x ++ rest) (flat_map-cons literal_line size sizes)
    ∙ append_assoc (literal_line size) (flat_map literal_line sizes) rest
    ∙ append_assoc (decimal size) (line_end ∷ []) after in
    ap (sizes_at (suc (length sizes)) total) regrouped
    ∙ rw (
      number_again greatest size (line_end ∷ after) (omega (arith, fits)) wide (stops_line after),
      le-ltb formed.limit (total + size) fits,
      byte_again line_end after,
      sizes_again (total + size) sizes rest (omega (arith, within, sum)),
    ) refl

-- ---- groups of literals

abbrev pub group_lines : List (List ℕ) → List ℕ
group_lines ps = flat_map (λ p. flat_map literal_line p) ps

pub record GroupsRead (counts bytes : List ℕ) (ps : List (List ℕ)) (rest : List ℕ) : Type 0 where
  pub spelled : bytes ≡ group_lines ps ++ rest
  pub sizes : map length ps ≡ counts
  pub small : All AreSmall ps

pub groups_take : (sizes bytes : List ℕ) (ps : List (List ℕ)) (rest : List ℕ) → groups_of_literals_at sizes bytes
    ≡ Ok (ps, rest) → GroupsRead sizes bytes ps rest
unfolding groups_of_literals_at
groups_take [] bytes ps rest h =
    let p = done_is [] ps bytes rest h in
    subst (λ (k : List (List ℕ)). GroupsRead [] bytes k rest) p.0
    (record { spelled = p.1; sizes = refl; small = All-nil AreSmall })
groups_take (size ∷ sizes) bytes ps rest h = bind_then _ _ _ h (λ a ea h1. bind_then _ _ _ h1 (λ b eb h2.
    let p = done_is (a.0 ∷ b.0) ps b.1 rest h2 in
    let t = literals_take size bytes a.0 a.1 ea in
    let r = groups_take sizes a.1 b.0 b.1 eb in
    let text =
    join2 bytes (flat_map literal_line a.0) a.1 (group_lines b.0) rest t.0
    (join_end a.1 (group_lines b.0) b.1 rest r.spelled p.1) in
    subst (λ (k : List (List ℕ)). GroupsRead (size ∷ sizes) bytes k rest) p.0 (record {
      spelled = text ∙ ap (λ (x : List ℕ). x ++ rest) (sym (flat_map-cons (λ q. flat_map literal_line q) a.0 b.0));
      sizes = λ i. t.1 i ∷ r.sizes i;
      small = All-cons AreSmall a.0 b.0 t.2 r.small;
    })))

pub groups_again : (ps : List (List ℕ)) (rest : List ℕ) → All AreSmall ps
    → groups_of_literals_at (map length ps) (group_lines ps ++ rest) ≡ Ok (ps, rest)
unfolding groups_of_literals_at
groups_again [] rest small = refl
groups_again (p ∷ ps) rest small =
    let after : List ℕ = group_lines ps ++ rest in
    let regrouped : group_lines (p ∷ ps) ++ rest ≡ flat_map literal_line p ++ after =
    ap (λ (x : List ℕ). x ++ rest) (flat_map-cons (λ q. flat_map literal_line q) p ps)
    ∙ append_assoc (flat_map literal_line p) (group_lines ps) rest in
    ap (groups_of_literals_at (length p ∷ map length ps)) regrouped
    ∙ rw (literals_again p after (All-head AreSmall p ps small), groups_again ps rest (All-tail AreSmall p ps small))
    refl

-- ---- justice

sum_of_lengths : (ps : List (List ℕ)) → sum_by (λ k. k) (map length ps) ≡ sum_by length ps
sum_of_lengths [] = refl
sum_of_lengths (p ∷ ps) =
    sum_by-cons (λ k. k) (length p) (map length ps) ∙ ap (λ (k : ℕ). length p + k) (sum_of_lengths ps)
    ∙ sym (sum_by-cons length p ps)

size_lines : (ps : List (List ℕ)) → flat_map literal_line (map length ps) ≡ flat_map size_line ps
size_lines ps = flat_map-map literal_line length ps

pub record JusticeRead (n : ℕ) (bytes : List ℕ) (ps : List (List ℕ)) (rest : List ℕ) : Type 0 where
  pub middle : List ℕ
  pub first : bytes ≡ flat_map size_line ps ++ middle
  pub second : middle ≡ group_lines ps ++ rest
  pub count : length ps ≡ n
  pub within : sum_by length ps ≤ formed.limit
  pub small : All AreSmall ps

pub justice_take : (n : ℕ) (bytes : List ℕ) (ps : List (List ℕ)) (rest : List ℕ) → justice_at n bytes ≡ Ok (ps, rest)
    → JusticeRead n bytes ps rest
unfolding justice_at
justice_take n bytes ps rest h = bind_then _ _ _ h (λ a ea h1.
    let s = sizes_take n 0 bytes a.0 a.1 (omega arith) ea in
    let g = groups_take a.0 a.1 ps rest h1 in
    let sum : sum_by (λ k. k) a.0 ≡ sum_by length ps = ap (sum_by (λ k. k)) (sym g.sizes) ∙ sum_of_lengths ps in
    record {
      middle = a.1;
      first = s.spelled ∙ ap (λ (x : List ℕ). x ++ a.1) (ap (flat_map literal_line) (sym g.sizes) ∙ size_lines ps);
      second = g.spelled;
      count = sym (length-map ps length) ∙ ap length g.sizes ∙ s.count;
      within = omega (arith, s.within, sum);
      small = g.small;
    })

pub justice_again : (ps : List (List ℕ)) (rest : List ℕ) → sum_by length ps ≤ formed.limit → All AreSmall ps
    → justice_at (length ps) (flat_map size_line ps ++ (group_lines ps ++ rest)) ≡ Ok (ps, rest)
unfolding justice_at
justice_again ps rest within small =
    let after : List ℕ = group_lines ps ++ rest in
    let sum = sum_of_lengths ps in
    let sizes : sizes_at (length ps) 0 (flat_map size_line ps ++ after) ≡ Ok (map length ps, after) =
    (λ i. sizes_at (sym (length-map ps length) i) 0 (sym (size_lines ps) i ++ after))
    ∙ sizes_again 0 (map length ps) after (omega (arith, within, sum)) in
    rw (sizes, groups_again ps rest small) refl

-- ---- properties

pub record FitsProperties (p : Properties) : Type 0 where
  pub outputs : AreSmall p.outputs
  pub bad : AreSmall p.bad
  pub constraints : AreSmall p.constraints
  pub justice : All AreSmall p.justice
  pub fairness : AreSmall p.fairness
  pub within : sum_by length p.justice ≤ formed.limit

abbrev pub text_of : Properties → List ℕ
text_of p = property_lines p.outputs p.bad p.constraints p.justice p.fairness

pub record PropertiesRead (c : Counts) (bytes : List ℕ) (p : Properties) (rest : List ℕ) : Type 0 where
  pub spelled : bytes ≡ text_of p ++ rest
  pub outputs : length p.outputs ≡ c.outputs
  pub bad : length p.bad ≡ c.bad
  pub constraints : length p.constraints ≡ c.constraints
  pub justice : length p.justice ≡ c.justice
  pub fairness : length p.fairness ≡ c.fairness
  pub fits : FitsProperties p

pub properties_take : (c : Counts) (bytes : List ℕ) (p : Properties) (rest : List ℕ)
    → properties_at c bytes ≡ Ok (p, rest) → PropertiesRead c bytes p rest
unfolding properties_at property_lines
properties_take c bytes p rest h =
    bind_then _ _ _ h
    (λ o eo h1.
    bind_then _ _ _ h1
    (λ b eb h2. bind_then _ _ _ h2 (λ k ek h3. bind_then _ _ _ h3 (λ j ej h4. bind_then _ _ _ h4 (λ f ef h5.
    let made : Properties = record { outputs = o.0; bad = b.0; constraints = k.0; justice = j.0; fairness = f.0 } in
    let q = done_is made p f.1 rest h5 in
    let to = literals_take c.outputs bytes o.0 o.1 eo in
    let tb = literals_take c.bad o.1 b.0 b.1 eb in
    let tk = literals_take c.constraints b.1 k.0 k.1 ek in
    let tj = justice_take c.justice k.1 j.0 j.1 ej in
    let tf = literals_take c.fairness j.1 f.0 f.1 ef in
    let lo : List ℕ = flat_map literal_line o.0 in
    let lb : List ℕ = flat_map literal_line b.0 in
    let lk : List ℕ = flat_map literal_line k.0 in
    let ls : List ℕ = flat_map size_line j.0 in
    let lg : List ℕ = group_lines j.0 in
    let lf : List ℕ = flat_map literal_line f.0 in
    let e1 = join2 bytes lo o.1 lb b.1 to.0 tb.0 in
    let e2 = join2 bytes (lo ++ lb) b.1 lk k.1 e1 tk.0 in
    let e3 = join2 bytes (lo ++ lb ++ lk) k.1 ls tj.middle e2 tj.first in
    let e4 = join2 bytes (lo ++ lb ++ lk ++ ls) tj.middle lg j.1 e3 tj.second in
    let e5 = join2 bytes (lo ++ lb ++ lk ++ ls ++ lg) j.1 lf f.1 e4 tf.0 in
    let P : Properties → Type 0 = λ x. PropertiesRead c bytes x rest in
    subst P q.0 (record {
      spelled = e5 ∙ ap (λ (r : List ℕ). text_of made ++ r) q.1;
      outputs = to.1;
      bad = tb.1;
      constraints = tk.1;
      justice = tj.count;
      fairness = tf.1;
      fits = record {
        outputs = to.2;
        bad = tb.2;
        constraints = tk.2;
        justice = tj.small;
        fairness = tf.2;
        within =
            tj.within;
      };
    }))))))

-- the counts of these properties
pub record Counted (c : Counts) (p : Properties) : Type 0 where
  pub outputs : c.outputs ≡ length p.outputs
  pub bad : c.bad ≡ length p.bad
  pub constraints : c.constraints ≡ length p.constraints
  pub justice : c.justice ≡ length p.justice
  pub fairness : c.fairness ≡ length p.fairness

pub properties_again : (c : Counts) (p : Properties) (rest : List ℕ) → Counted c p → FitsProperties p
    → properties_at c (text_of p ++ rest) ≡ Ok (p, rest)
unfolding properties_at property_lines
properties_again c p rest is fits =
    let lo : List ℕ = flat_map literal_line p.outputs in
    let lb : List ℕ = flat_map literal_line p.bad in
    let lk : List ℕ = flat_map literal_line p.constraints in
    let ls : List ℕ = flat_map size_line p.justice in
    let lg : List ℕ = group_lines p.justice in
    let f : List ℕ = flat_map literal_line p.fairness ++ rest in
    let j : List ℕ = ls ++ (lg ++ f) in
    let k : List ℕ = lk ++ j in
    let b : List ℕ = lb ++ k in
    ap (properties_at c) (apart6 lo lb lk ls lg (flat_map literal_line p.fairness) rest)
    ∙ rw (
      is.outputs,
      literals_again p.outputs b fits.outputs,
      is.bad,
      literals_again p.bad k fits.bad,
      is.constraints,
      literals_again p.constraints j fits.constraints,
      is.justice,
      justice_again p.justice f fits.within fits.justice,
      is.fairness,
      literals_again p.fairness rest fits.fairness,
    ) refl
