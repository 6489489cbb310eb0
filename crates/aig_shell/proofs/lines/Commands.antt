-- Which words ask for nothing.
use Rattle.std.proofs.Common.{◌≡◌, ◌≢◌, ℕ, ◌-◌, List, [], ◌∷◌, ◌++◌, map, length, None, Some, slice_get, Bor, refl, sym}
use Rattle.std.proofs.Common.{ap, ◌∙◌, append-nil, arith}
use Rattle.aig_shell.specs.declared.request.topic.Topic.{Topic}
use Rattle.aig_shell.specs.declared.request.topic.Topic.TheVariants as topics
use Rattle.aig_shell.specs.Commands.{topic_word}
use Rattle.aig_shell.specs.Request.{show, why_first, why, set, start, add, gate, rewire, append, out, check, diff, save}
use Rattle.aig_shell.specs.Request.{witness, wave, list_names, help, quit, IsNoRequest}
use Rattle.aig_shell.specs.Request as request

-- the first word is that of no command
pub no_command : (word : List ℕ) (ws : List (List ℕ)) → ((t : Topic) → word ≢ topic_word t) → IsNoRequest (word ∷ ws)
no_command word ws none (show names frames) is e = none topics.Show (cc e)
no_command word ws none why_first is e = none topics.Why (cc e)
no_command word ws none (why name frame) is e = none topics.Why (cc e)
no_command word ws none (set frames name value) is e = none topics.Set (cc e)
no_command word ws none (start name value) is e = none topics.Start (cc e)
no_command word ws none (add count) is e = none topics.Add (cc e)
no_command word ws none (request.drop count) is e = none topics.Drop (cc e)
no_command word ws none (gate name) is e = none topics.Gate (cc e)
no_command word ws none (rewire name side0 side1) is e = none topics.Gate (cc e)
no_command word ws none (append side0 side1) is e = none topics.New (cc e)
no_command word ws none (out name literal) is e = none topics.Out (cc e)
no_command word ws none check is e = none topics.Check (cc e)
no_command word ws none (diff frames) is e = none topics.Diff (cc e)
no_command word ws none (save circuit stimulus) is e = none topics.Save (cc e)
no_command word ws none (witness file name) is e = none topics.Witness (cc e)
no_command word ws none (wave file) is e = none topics.Wave (cc e)
no_command word ws none (list_names text) is e = none topics.Names (cc e)
no_command word ws none (help command) is e = none topics.Help (cc e)
no_command word ws none quit is e = none topics.Quit (cc e)

not_one : (names : List (List ℕ)) (f w : List ℕ) → names ≢ [] → w ∷ [] ≢ names ++ (f ∷ [])
not_one [] f w some e = some refl
not_one (x ∷ []) f w some e = cc e
not_one (x ∷ (y ∷ ys)) f w some e = cc e

one_word : (ws : List (Bor (List ℕ))) (w : Bor (List ℕ)) (frames : List ℕ) → length ws ≡ 1 → Some w ≡ slice_get ws (length ws - 1)
    → w.now ≡ 64 ∷ frames → map (λ (x : Bor (List ℕ)). x.now) ws ≡ (64 ∷ frames) ∷ []
one_word [] w frames one last is = let never : ⊥ = cc one in absurd never
one_word (x ∷ []) w frames one last is =
    let same : w ≡ x = cc last in ap (λ (word : List ℕ). word ∷ []) (ap (λ (y : Bor (List ℕ)). y.now) (sym same) ∙ is)
one_word (x ∷ (y ∷ ys)) w frames one last is = let never : ⊥ = cc one in absurd never

-- the first letter
abbrev letter : List (List ℕ) → ℕ
letter [] = 0
letter ([] ∷ ws) = 0
letter ((b ∷ bs) ∷ ws) = b

-- the second letter
abbrev second : List (List ℕ) → ℕ
second [] = 0
second ([] ∷ ws) = 0
second ((a ∷ []) ∷ ws) = 0
second ((a ∷ (b ∷ bs)) ∷ ws) = b

-- frames alone are no table
only_frames : (word : List ℕ) → IsNoRequest (topic_word topics.Show ∷ ((64 ∷ word) ∷ []))
only_frames word (show names None) is e =
    let same : names ++ [] ≡ (64 ∷ word) ∷ [] = cc e in is.1 [] word (sym (append-nil names) ∙ same)
only_frames word (show names (Some other)) is e =
    let same : (64 ∷ word) ∷ [] ≡ names ++ ((64 ∷ other) ∷ []) = cc e in not_one names (64 ∷ other) (64 ∷ word) is same
only_frames word why_first is e = cc e
only_frames word (why name frame) is e = cc e
only_frames word (set frames name value) is e = cc e
only_frames word (start name value) is e = cc e
only_frames word (add count) is e = cc e
only_frames word (request.drop count) is e = let same : 115 ≡ 100 = ap letter e in omega (arith, same)
only_frames word (gate name) is e = let same : 115 ≡ 103 = ap letter e in omega (arith, same)
only_frames word (rewire name side0 side1) is e = let same : 115 ≡ 103 = ap letter e in omega (arith, same)
only_frames word (append side0 side1) is e = let same : 115 ≡ 110 = ap letter e in omega (arith, same)
only_frames word (out name literal) is e = let same : 115 ≡ 111 = ap letter e in omega (arith, same)
only_frames word check is e = let same : 115 ≡ 99 = ap letter e in omega (arith, same)
only_frames word (diff frames) is e = let same : 115 ≡ 100 = ap letter e in omega (arith, same)
only_frames word (save circuit stimulus) is e = let same : 104 ≡ 97 = ap second e in omega (arith, same)
only_frames word (witness file name) is e = let same : 115 ≡ 119 = ap letter e in omega (arith, same)
only_frames word (wave file) is e = let same : 115 ≡ 119 = ap letter e in omega (arith, same)
only_frames word (list_names text) is e = let same : 115 ≡ 110 = ap letter e in omega (arith, same)
only_frames word (help command) is e = let same : 115 ≡ 104 = ap letter e in omega (arith, same)
only_frames word quit is e = let same : 115 ≡ 113 = ap letter e in omega (arith, same)

pub no_names : (ws : List (Bor (List ℕ))) (w : Bor (List ℕ)) (frames : List ℕ) → length ws ≡ 1 → Some w ≡ slice_get ws (length ws - 1)
    → w.now ≡ 64 ∷ frames → IsNoRequest (topic_word topics.Show ∷ map (λ (x : Bor (List ℕ)). x.now) ws)
no_names ws w frames one last is r request e =
    only_frames frames r request (ap (λ (rest : List (List ℕ)). topic_word topics.Show ∷ rest) (sym (one_word ws w frames one last is)) ∙ e)
