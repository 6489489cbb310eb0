-- The lines of a header, and their words.
use Rattle.std.proofs.Common.{◌≡◌, ◌≢◌, ℕ, zero, suc, ◌+◌, ◌-◌, ◌<◌, Bool, true, false, List, [], ◌∷◌, ◌++◌, length}
use Rattle.std.proofs.Common.{map, drop, get_or, slice_get, Some, All, refl, sym, ap, ◌∙◌, subst, arith, append_assoc}
use Rattle.std.proofs.Common.{append-nil}
use Rattle.std.specs.Prelude.{◌==◌, nat_le, ◌&&◌, codes, flat_map}
use Rattle.std.proofs.lemmas.Bool.{ne_eqb, and_parts, leb-true}
use Rattle.std.proofs.lemmas.List.{map-append}
use Rattle.std.proofs.lemmas.List.Concat.{flat_map-append}
use Rattle.std.proofs.lemmas.List.Elements.{All-from_recursion, All-nil, All-cons, All-head, All-tail, All-append}
use Rattle.std.proofs.lemmas.List.Elements.{All-push, All-map, All-drop, All-take, All-weaker, All-contains, All-get_or}
use Rattle.std.proofs.lemmas.List.Elements.{Contains-get_or}
use Rattle.std.proofs.lemmas.List.Splits.{slice_split_at, slice_split_none}
use Rattle.aig_parts.specs.declared.symbols.Kind.{Kind}
use Rattle.aig_parts.specs.declared.symbols.Kind.TheVariants.{Input, Latch, Output, Bad, Constraint}
use Rattle.aig_parts.specs.SymbolPlaces.{Key}
use Rattle.aig_names.specs.declared.header.SignalCounts.{SignalCounts}
use Rattle.aig_names.specs.Header.{signal_line, scope_line, closings, shared, moves, name_lines, section_scope}
use Rattle.aig_names.specs.Header.{sections, header}
use Rattle.aig_names.specs.Names.{cut_at, identifier_code, names_of}
use Rattle.aig_names.specs.Paths.{path_of, scopes_of, leaf_of}
use Rattle.aig_names.specs.Signals.{section_names}
use Rattle.aig_names.proofs.DeclaredNames.{named_of_section}
use Rattle.aig_names.proofs.Codes.{IsVisible, visible_code}
use Rattle.aig_names.proofs.NamePieces.{IsSignalName, all_names, visible_path, path_some}

-- ---- texts that are cut
-- no byte is this one
abbrev pub Lacks : ℕ → List ℕ → Type 0
Lacks c bytes = All (λ b. b ≢ c) bytes

lacks_test : (c : ℕ) (bytes : List ℕ) → Lacks c bytes → All (λ b. (b == c) ≡ false) bytes
lacks_test c bytes h = λ k d lt. ne_eqb (get_or bytes k d) c (h k d lt)

-- pieces that end with a byte, and a last one, cut at it
cut_pieces : (c : ℕ) (pieces : List (List ℕ)) (last : List ℕ) → All (Lacks c) pieces → Lacks c last → (c == c) ≡ true
    → cut_at c (flat_map (λ piece. piece ++ c ∷ []) pieces ++ last) ≡ pieces ++ last ∷ []
cut_pieces c [] last h k e = slice_split_none (λ b. b == c) last (lacks_test c last k)
cut_pieces c (piece ∷ more) last h k e =
    let rest : List ℕ = flat_map (λ piece. piece ++ c ∷ []) more ++ last in
    let same : ((piece ++ c ∷ []) ++ flat_map (λ piece. piece ++ c ∷ []) more) ++ last ≡ piece ++ c ∷ rest =
    simp append_assoc in
    ap (cut_at c) same
    ∙ slice_split_at (λ b. b == c) piece c rest (lacks_test c piece (All-head (Lacks c) piece more h)) e
    ∙ ap (λ (ps : List (List ℕ)). piece ∷ ps) (cut_pieces c more last (All-tail (Lacks c) piece more h) k e)

-- ---- lines by their words
-- the line of words, which ends with `$end`
abbrev pub line_of : List (List ℕ) → List ℕ
line_of ws = flat_map (λ w. w ++ 32 ∷ []) ws ++ codes "$end"

-- all words of it
abbrev pub whole : List (List ℕ) → List (List ℕ)
whole ws = ws ++ codes "$end" ∷ []

abbrev pub text_of : List (List ℕ) → List ℕ
text_of lines = flat_map (λ line. line ++ 10 ∷ []) lines

abbrev pub AreVisible : List (List ℕ) → Type 0
AreVisible ws = All (All IsVisible) ws

lacks_visible : (c : ℕ) → c < 33 → (bytes : List ℕ) → All IsVisible bytes → Lacks c bytes
lacks_visible c low bytes h = λ k d lt e. let v = h k d lt in omega (arith, v.0, e, low)

abbrev seen : List ℕ → Bool
seen [] = true
seen (b ∷ bytes) = (nat_le 33 b && nat_le b 126) && seen bytes

visible_by_test : (bytes : List ℕ) → seen bytes ≡ true → All IsVisible bytes
visible_by_test [] e = All-nil IsVisible
visible_by_test (b ∷ bytes) e =
    let parts = and_parts (nat_le 33 b && nat_le b 126) (seen bytes) e in
    let byte = and_parts (nat_le 33 b) (nat_le b 126) parts.0 in
    All-cons IsVisible b bytes (leb-true 33 b byte.0, leb-true b 126 byte.1) (visible_by_test bytes parts.1)

pub words_of_line : (ws : List (List ℕ)) → AreVisible ws → cut_at 32 (line_of ws) ≡ whole ws
words_of_line ws h =
    cut_pieces 32 ws (codes "$end")
    (All-weaker (All IsVisible) (Lacks 32) (lacks_visible 32 (omega arith)) ws h)
    (lacks_visible 32 (omega arith) (codes "$end") (visible_by_test (codes "$end") refl)) refl

no_end_in_pieces : (ws : List (List ℕ)) → AreVisible ws → Lacks 10 (flat_map (λ w. w ++ 32 ∷ []) ws)
no_end_in_pieces [] h = All-nil (λ b. b ≢ 10)
no_end_in_pieces (w ∷ ws) h =
    All-append (λ b. b ≢ 10) (w ++ 32 ∷ []) (flat_map (λ w. w ++ 32 ∷ []) ws)
    (All-push (λ b. b ≢ 10) w 32 (lacks_visible 10 (omega arith) w (All-head (All IsVisible) w ws h))
    (λ e. omega arith))
    (no_end_in_pieces ws (All-tail (All IsVisible) w ws h))

no_end : (ws : List (List ℕ)) → AreVisible ws → Lacks 10 (line_of ws)
no_end ws h =
    All-append (λ b. b ≢ 10) (flat_map (λ w. w ++ 32 ∷ []) ws) (codes "$end") (no_end_in_pieces ws h)
    (lacks_visible 10 (omega arith) (codes "$end") (visible_by_test (codes "$end") refl))

-- ---- the words of a header's lines
abbrev pub scope_words : List ℕ → List (List ℕ)
scope_words name = codes "$scope" ∷ (codes "module" ∷ (name ∷ []))

abbrev pub up_words : List (List ℕ)
up_words = codes "$upscope" ∷ []

abbrev pub signal_words : List ℕ → ℕ → List ℕ → List (List ℕ)
signal_words type n name = codes "$var" ∷ (type ∷ (codes "1" ∷ (identifier_code n ∷ (name ∷ []))))

unfoldable pub closing_words : ℕ → List (List (List ℕ))
closing_words zero = []
closing_words (suc n) = up_words ∷ closing_words n

abbrev pub move_words : List (List ℕ) → List (List ℕ) → List (List (List ℕ))
move_words opened scopes =
    closing_words (length opened - shared opened scopes) ++ map scope_words (drop (shared opened scopes) scopes)

unfoldable pub name_words : List ℕ → List (List ℕ) → List (ℕ × List ℕ) → List (List (List ℕ))
name_words type opened [] = closing_words (length opened)
name_words type opened (x ∷ names) =
    move_words opened (scopes_of x.1) ++ (signal_words type x.0 (leaf_of x.1) ∷ name_words type (scopes_of x.1) names)

unfoldable pub section_words : List (Key × List ℕ) → Kind → List ℕ → List ℕ → ℕ → ℕ → List (List (List ℕ))
section_words symbols kind scope type n zero = []
section_words symbols kind scope type n (suc p) =
    scope_words scope ∷ (name_words type [] (section_names symbols kind n (suc p)) ++ up_words ∷ [])

unfoldable pub sections_words : List (Key × List ℕ) → SignalCounts → List (List (List ℕ))
sections_words symbols counts =
    let outputs = counts.inputs + counts.latches in
    let bad = outputs + counts.outputs in
    let constraints = bad + counts.bad in
    section_words symbols Input (codes "inputs") (codes "wire") 0 counts.inputs
    ++ (section_words symbols Latch (codes "latches") (codes "reg") counts.inputs counts.latches
    ++ (section_words symbols Output (codes "outputs") (codes "wire") outputs counts.outputs
    ++ (section_words symbols Bad (codes "bad") (codes "wire") bad counts.bad
    ++ section_words symbols Constraint (codes "constraints") (codes "wire") constraints counts.constraints)))

abbrev pub version_words : List (List ℕ)
version_words = codes "$version" ∷ (codes "aig" ∷ [])

abbrev pub timescale_words : List (List ℕ)
timescale_words = codes "$timescale" ∷ (codes "1" ∷ (codes "ns" ∷ []))

abbrev pub last_words : List (List ℕ)
last_words = codes "$enddefinitions" ∷ []

unfoldable pub header_words : List (Key × List ℕ) → SignalCounts → List (List (List ℕ))
header_words symbols counts =
    version_words ∷ (timescale_words ∷ (sections_words symbols counts ++ last_words ∷ []))

-- ---- a header is the text of these lines
abbrev text_by : List (List (List ℕ)) → List ℕ
text_by wss = text_of (map line_of wss)

text_append : (wss vss : List (List (List ℕ))) → text_by (wss ++ vss) ≡ text_by wss ++ text_by vss
text_append wss vss =
    ap text_of (map-append line_of wss vss)
    ∙ flat_map-append (λ line. line ++ 10 ∷ []) (map line_of wss) (map line_of vss)

scope_text : (name rest : List ℕ) → scope_line name ++ rest ≡ (line_of (scope_words name) ++ 10 ∷ []) ++ rest
scope_text name rest = simp append_assoc

signal_text : (type : List ℕ) (n : ℕ) (name rest : List ℕ)
    → signal_line type n name ++ rest ≡ (line_of (signal_words type n name) ++ 10 ∷ []) ++ rest
signal_text type n name rest = simp append_assoc

closings_text : (n : ℕ) → closings n ≡ text_by (closing_words n)
unfolding closings closing_words
closings_text zero = refl
closings_text (suc n) = ap (λ (rest : List ℕ). codes "$upscope $end" ++ (10 ∷ rest)) (closings_text n)

closings_one : closings 1 ≡ text_by (up_words ∷ [])
unfolding closings
closings_one = refl

scopes_text : (scopes : List (List ℕ)) → flat_map scope_line scopes ≡ text_by (map scope_words scopes)
scopes_text [] = refl
scopes_text (name ∷ scopes) =
    ap (λ (rest : List ℕ). scope_line name ++ rest) (scopes_text scopes)
    ∙ scope_text name (text_by (map scope_words scopes))

moves_text : (opened scopes : List (List ℕ)) → moves opened scopes ≡ text_by (move_words opened scopes)
moves_text opened scopes =
    let n : ℕ = length opened - shared opened scopes in
    let new : List (List ℕ) = drop (shared opened scopes) scopes in
    ap (λ (t : List ℕ). t ++ flat_map scope_line new) (closings_text n)
    ∙ ap (λ (t : List ℕ). text_by (closing_words n) ++ t) (scopes_text new)
    ∙ sym (text_append (closing_words n) (map scope_words new))

names_text : (type : List ℕ) (opened : List (List ℕ)) (names : List (ℕ × List ℕ))
    → name_lines type opened names ≡ text_by (name_words type opened names)
unfolding name_lines name_words
names_text type opened [] = closings_text (length opened)
names_text type opened (x ∷ names) =
    let more : List (List (List ℕ)) = name_words type (scopes_of x.1) names in
    ap (λ (t : List ℕ). t ++ (signal_line type x.0 (leaf_of x.1) ++ name_lines type (scopes_of x.1) names))
    (moves_text opened (scopes_of x.1))
    ∙ ap (λ (t : List ℕ). text_by (move_words opened (scopes_of x.1)) ++ (signal_line type x.0 (leaf_of x.1) ++ t))
    (names_text type (scopes_of x.1) names)
    ∙ ap (λ (t : List ℕ). text_by (move_words opened (scopes_of x.1)) ++ t)
    (signal_text type x.0 (leaf_of x.1) (text_by more))
    ∙ sym (text_append (move_words opened (scopes_of x.1)) (signal_words type x.0 (leaf_of x.1) ∷ more))

section_text : (symbols : List (Key × List ℕ)) (kind : Kind) (scope type : List ℕ) (n count : ℕ)
    → section_scope symbols kind scope type n count ≡ text_by (section_words symbols kind scope type n count)
unfolding section_scope section_words
section_text symbols kind scope type n zero = refl
section_text symbols kind scope type n (suc p) =
    let names : List (ℕ × List ℕ) = section_names symbols kind n (suc p) in
    let ws : List (List (List ℕ)) = name_words type [] names in
    ap (λ (t : List ℕ). scope_line scope ++ (t ++ closings 1)) (names_text type [] names)
    ∙ ap (λ (t : List ℕ). scope_line scope ++ (text_by ws ++ t)) closings_one
    ∙ ap (λ (t : List ℕ). scope_line scope ++ t) (sym (text_append ws (up_words ∷ [])))
    ∙ scope_text scope (text_by (ws ++ up_words ∷ []))

text_two : (s t : List ℕ) (wss vss : List (List (List ℕ))) → s ≡ text_by wss → t ≡ text_by vss
    → s ++ t ≡ text_by (wss ++ vss)
text_two s t wss vss h k =
    ap (λ (x : List ℕ). x ++ t) h ∙ ap (λ (x : List ℕ). text_by wss ++ x) k ∙ sym (text_append wss vss)

sections_text : (symbols : List (Key × List ℕ)) (counts : SignalCounts)
    → sections symbols counts ≡ text_by (sections_words symbols counts)
unfolding sections sections_words
sections_text symbols counts =
    text_two _ _ _ _ (section_text symbols Input (codes "inputs") (codes "wire") _ _)
    (text_two _ _ _ _ (section_text symbols Latch (codes "latches") (codes "reg") _ _)
    (text_two _ _ _ _ (section_text symbols Output (codes "outputs") (codes "wire") _ _)
    (text_two _ _ _ _ (section_text symbols Bad (codes "bad") (codes "wire") _ _)
    (section_text symbols Constraint (codes "constraints") (codes "wire") _ _))))

header_text : (symbols : List (Key × List ℕ)) (counts : SignalCounts)
    → header symbols counts ≡ text_by (header_words symbols counts)
unfolding header header_words
header_text symbols counts =
    ap (λ (t : List ℕ). codes "$version aig $end" ++ (10 ∷ (codes "$timescale 1 ns $end" ++ (10 ∷ t))))
    (text_two (sections symbols counts) (codes "$enddefinitions $end" ++ 10 ∷ []) (sections_words symbols counts)
    (last_words ∷ [])
    (sections_text symbols counts) refl)

-- ---- what holds of each line
-- words with visible bytes alone, of a line that begins with `$`
pub record IsHeaderLine (ws : List (List ℕ)) : Type 0 where
  pub visible : AreVisible ws
  pub directive : slice_get (line_of ws) 0 ≡ Some 36

abbrev all_seen : List (List ℕ) → Bool
all_seen [] = true
all_seen (w ∷ ws) = seen w && all_seen ws

visible_words : (ws : List (List ℕ)) → all_seen ws ≡ true → AreVisible ws
visible_words [] e = All-nil (All IsVisible)
visible_words (w ∷ ws) e =
    let parts = and_parts (seen w) (all_seen ws) e in
    All-cons (All IsVisible) w ws (visible_by_test w parts.0) (visible_words ws parts.1)

-- a line with no name
is_fixed : (ws : List (List ℕ)) → all_seen ws ≡ true → slice_get (line_of ws) 0 ≡ Some 36 → IsHeaderLine ws
is_fixed ws h k = record { visible = visible_words ws h; directive = k }

is_up : IsHeaderLine up_words
is_up = is_fixed up_words refl refl

is_scope : (name : List ℕ) → All IsVisible name → IsHeaderLine (scope_words name)
is_scope name h = record {
  visible = All-from_recursion (All IsVisible) (scope_words name)
      (visible_by_test (codes "$scope") refl, (visible_by_test (codes "module") refl, (h, tt)));
  directive = refl;
}

is_signal : (type : List ℕ) (n : ℕ) (name : List ℕ) → All IsVisible type → All IsVisible name
    → IsHeaderLine (signal_words type n name)
is_signal type n name h k = record {
  visible = All-from_recursion (All IsVisible) (signal_words type n name)
      (visible_by_test (codes "$var") refl, (h, (visible_by_test (codes "1") refl, (visible_code n, (k, tt)))));
  directive = refl;
}

closing_all : (n : ℕ) → All IsHeaderLine (closing_words n)
unfolding closing_words
closing_all zero = All-nil IsHeaderLine
closing_all (suc n) = All-cons IsHeaderLine up_words (closing_words n) is_up (closing_all n)

move_all : (opened scopes : List (List ℕ)) → AreVisible scopes → All IsHeaderLine (move_words opened scopes)
move_all opened scopes h =
    let new : List (List ℕ) = drop (shared opened scopes) scopes in
    All-append IsHeaderLine (closing_words (length opened - shared opened scopes)) (map scope_words new)
    (closing_all (length opened - shared opened scopes))
    (All-map IsHeaderLine scope_words new
    (All-weaker (All IsVisible) (λ name. IsHeaderLine (scope_words name)) is_scope new
    (All-drop (All IsVisible) (shared opened scopes) scopes h)))

name_all : (type : List ℕ) (opened : List (List ℕ)) (names : List (ℕ × List ℕ)) → All IsVisible type
    → All (λ x. IsSignalName x.1) names
    → All IsHeaderLine (name_words type opened names)
unfolding name_words
name_all type opened [] h k = closing_all (length opened)
name_all type opened (x ∷ names) h k =
    let name : IsSignalName x.1 = All-head (λ (x : ℕ × List ℕ). IsSignalName x.1) x names k in
    let path : AreVisible (path_of x.1) = visible_path x.1 name.visible in
    let leaf : All IsVisible (leaf_of x.1) =
    All-get_or (All IsVisible) (path_of x.1) (length (path_of x.1) - 1) [] (omega (arith, path_some x.1)) path in
    let more : List (List (List ℕ)) = name_words type (scopes_of x.1) names in
    All-append IsHeaderLine (move_words opened (scopes_of x.1)) (signal_words type x.0 (leaf_of x.1) ∷ more)
    (move_all opened (scopes_of x.1) (All-take (All IsVisible) (length (path_of x.1) - 1) (path_of x.1) path))
    (All-cons IsHeaderLine (signal_words type x.0 (leaf_of x.1)) more (is_signal type x.0 (leaf_of x.1) h leaf)
    (name_all type (scopes_of x.1) names h (All-tail (λ (x : ℕ × List ℕ). IsSignalName x.1) x names k)))

section_names_all : (symbols : List (Key × List ℕ)) (kind : Kind) (n count : ℕ)
    → All (λ x. IsSignalName x.1) (section_names symbols kind n count)
section_names_all symbols kind n count k d lt =
    let names : List (ℕ × List ℕ) = section_names symbols kind n count in
    let h = named_of_section symbols kind n count (get_or names k d) (Contains-get_or names k d lt) in
    subst (λ (x : ℕ × List ℕ). IsSignalName x.1) h.is
    (All-contains IsSignalName (names_of symbols kind h.position) h.name (all_names symbols kind h.position) h.name_is)

section_all : (symbols : List (Key × List ℕ)) (kind : Kind) (scope type : List ℕ) (n count : ℕ)
    → All IsVisible scope → All IsVisible type → All IsHeaderLine (section_words symbols kind scope type n count)
unfolding section_words
section_all symbols kind scope type n zero h k = All-nil IsHeaderLine
section_all symbols kind scope type n (suc p) h k =
    let names : List (ℕ × List ℕ) = section_names symbols kind n (suc p) in
    All-cons IsHeaderLine (scope_words scope) (name_words type [] names ++ up_words ∷ []) (is_scope scope h)
    (All-push IsHeaderLine (name_words type [] names) up_words
    (name_all type [] names k (section_names_all symbols kind n (suc p))) is_up)

section_by_test : (symbols : List (Key × List ℕ)) (kind : Kind) (scope type : List ℕ) (n count : ℕ)
    → seen scope ≡ true → seen type ≡ true → All IsHeaderLine (section_words symbols kind scope type n count)
section_by_test symbols kind scope type n count h k =
    section_all symbols kind scope type n count (visible_by_test scope h) (visible_by_test type k)

sections_all : (symbols : List (Key × List ℕ)) (counts : SignalCounts) → All IsHeaderLine (sections_words symbols counts)
unfolding sections_words
sections_all symbols counts =
    All-append IsHeaderLine (section_words symbols Input _ _ _ _) _
    (section_by_test symbols Input (codes "inputs") (codes "wire") _ _ refl refl)
    (All-append IsHeaderLine _ _ (section_by_test symbols Latch (codes "latches") (codes "reg") _ _ refl refl)
    (All-append IsHeaderLine _ _ (section_by_test symbols Output (codes "outputs") (codes "wire") _ _ refl refl)
    (All-append IsHeaderLine _ _ (section_by_test symbols Bad (codes "bad") (codes "wire") _ _ refl refl)
    (section_by_test symbols Constraint (codes "constraints") (codes "wire") _ _ refl refl))))

header_all : (symbols : List (Key × List ℕ)) (counts : SignalCounts) → All IsHeaderLine (header_words symbols counts)
unfolding header_words
header_all symbols counts =
    let rest : List (List (List ℕ)) = sections_words symbols counts ++ last_words ∷ [] in
    All-cons IsHeaderLine version_words (timescale_words ∷ rest) (is_fixed version_words refl refl)
    (All-cons IsHeaderLine timescale_words rest (is_fixed timescale_words refl refl)
    (All-push IsHeaderLine (sections_words symbols counts) last_words (sections_all symbols counts)
    (is_fixed last_words refl refl)))

-- ---- the lines of a header
abbrev pub IsDirective : List ℕ → Type 0
IsDirective line = (All (λ b. b ≢ 10) line) × (slice_get line 0 ≡ Some 36)

directives : (wss : List (List (List ℕ))) → All IsHeaderLine wss → All IsDirective (map line_of wss)
directives wss h =
    All-map IsDirective line_of wss
    (All-weaker IsHeaderLine (λ ws. IsDirective (line_of ws)) (λ ws is. (no_end ws is.visible, is.directive)) wss h)

-- the lines of a header: none has a line end, and each begins with `$`
pub lines_of_header : (symbols : List (Key × List ℕ)) (counts : SignalCounts)
    → (ls : List (List ℕ)) × (header symbols counts ≡ flat_map (λ line. line ++ 10 ∷ []) ls)
    × All (λ line. (All (λ b. b ≢ 10) line) × (slice_get line 0 ≡ Some 36)) ls
lines_of_header symbols counts = (
  map line_of (header_words symbols counts),
  header_text symbols counts,
  directives (header_words symbols counts)
      (header_all symbols counts),
)

-- ---- a header cut into lines and words
words_of_lines : (wss : List (List (List ℕ))) → All IsHeaderLine wss → map (cut_at 32) (map line_of wss) ≡ map whole wss
words_of_lines [] h = refl
words_of_lines (ws ∷ wss) h =
    let first : cut_at 32 (line_of ws) ≡ whole ws = words_of_line ws (All-head IsHeaderLine ws wss h).visible in
    let rest : map (cut_at 32) (map line_of wss) ≡ map whole wss = words_of_lines wss (All-tail IsHeaderLine ws wss h) in
    λ i. first i ∷ rest i

-- the words of each line of a header, and after the last line end an empty word
pub header_cut : (symbols : List (Key × List ℕ)) (counts : SignalCounts)
    → map (cut_at 32) (cut_at 10 (header symbols counts)) ≡ map whole (header_words symbols counts) ++ ([] ∷ []) ∷ []
header_cut symbols counts =
    let wss : List (List (List ℕ)) = header_words symbols counts in
    let ls : List (List ℕ) = map line_of wss in
    let all = header_all symbols counts in
    let ends : All (Lacks 10) ls = All-weaker IsDirective (Lacks 10) (λ line is. is.0) ls (directives wss all) in
    let cut : cut_at 10 (text_of ls) ≡ ls ++ [] ∷ [] =
    ap (cut_at 10) (sym (append-nil (text_of ls))) ∙ cut_pieces 10 ls [] ends (All-nil (λ b. b ≢ 10)) refl in
    ap (λ (t : List ℕ). map (cut_at 32) (cut_at 10 t)) (header_text symbols counts)
    ∙ ap (map (cut_at 32)) cut
    ∙ map-append (cut_at 32) ls ([] ∷ [])
    ∙ ap (λ (l : List (List (List ℕ))). l ++ ([] ∷ []) ∷ []) (words_of_lines wss all)
