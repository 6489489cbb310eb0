-- Symbols whose lines are buffered whole.
use Rattle.std.proofs.Common.{◌≡◌, ◌≢◌, ℕ, suc, ◌+◌, ◌-◌, ◌<◌, ◌≤◌, List, [], ◌∷◌, ◌++◌, Some, Ok, All, Contains}
use Rattle.std.proofs.Common.{length, take, drop, get_or, slice_get, refl, sym, ap, subst, ◌∙◌, append_assoc, arith}
use Rattle.std.proofs.Common.{length-append, length-drop}
use Rattle.std.proofs.lemmas.Option.{get_or_from_slice_get}
use Rattle.std.proofs.lemmas.List.{drop-drop, drop-append-le, drop_more, take-append-drop}
use Rattle.std.specs.Fmt.{decimal}
use Rattle.std.specs.Map.{keys_of}
use Rattle.aig_parts.specs.declared.symbols.Kind.{Kind}
use Rattle.aig_parts.specs.Formed.{IsName}
use Rattle.aig_parts.specs.Letters.{letter}
use Rattle.aig_format.specs.declared.reader.header.Counts.{Counts}
use Rattle.aig_format.specs.Header.{space, line_end, field}
use Rattle.aig_format.specs.Spelling.{Entry, symbol_line}
use Rattle.aig_format.specs.Spells.{greatest}
use Rattle.aig_format.specs.state.Fits.{AreSymbols}
use Rattle.aig_format.specs.state.Reading.{Read, field_at}
use Rattle.aig_format.specs.state.ReadingNames.{Named, count_of, symbols_then, symbols_at}
use Rattle.aig_format.specs.state.Reads.{AddsSymbols}
use Rattle.aig_format.proofs.Names.{symbol_again}
use Rattle.aig_format.proofs.Numbers.{field_takes}
use Rattle.aig_format.proofs.Sizes.{symbols_more}
use Rattle.aig_format.proofs.SymbolLaws.{symbol_apart, letter_before}
use Rattle.aig_format.proofs.Symbols.{GoesOn}

-- ---- one line

-- a line in its parts
pub line_spelled : (kind : Kind) (p start size : ℕ) (bytes : List ℕ) → 0 < length bytes
    → get_or bytes 0 0 ≡ letter kind → field_at greatest space (drop 1 bytes) ≡ Ok (p, drop start bytes)
    → size < length (drop start bytes) → slice_get (drop start bytes) size ≡ Some line_end
    → bytes ≡ symbol_line ((kind, p), take size (drop start bytes)) ++ drop (start + size + 1) bytes
line_spelled kind p start size bytes some first h lt end =
    let after = drop start bytes in
    let name = take size after in
    let rest = drop (start + size + 1) bytes in
    let t = field_takes greatest space (drop 1 bytes) p after (omega arith) (omega arith) h in
    let number : start + (size + 1) ≡ start + size + 1 = omega arith in
    let last : drop (size + 1) after ≡ rest = drop-drop (size + 1) start bytes ∙ ap (λ (n : ℕ). drop n bytes) number in
    let cut : after ≡ name ++ (line_end ∷ rest) =
    sym (take-append-drop size after)
    ∙ ap (λ (t : List ℕ). name ++ t)
    (drop_more after size 0 lt ∙ ap (λ (x : ℕ). x ∷ drop (size + 1) after) (get_or_from_slice_get after size line_end 0 end)
    ∙ ap (λ (t : List ℕ). line_end ∷ t) last) in
    let all : bytes ≡ letter kind ∷ drop 1 bytes = drop_more bytes 0 0 some ∙ ap (λ (x : ℕ). x ∷ drop 1 bytes) first in
    all ∙ ap (λ (t : List ℕ). letter kind ∷ t)
    (t.0 ∙ append_assoc (decimal p) (space ∷ []) after ∙ ap (λ (t : List ℕ). decimal p ++ space ∷ t) cut)
    ∙ sym (symbol_apart ((kind, p), name) rest)

-- the entry that a line spells
pub one_symbol : (c : Counts) (old new : List Entry) (e : Entry) (size : ℕ) (bytes : List ℕ)
    → bytes ≡ symbol_line e ++ drop size bytes → size ≤ length bytes → e.0.1 ≤ greatest → e.0.1 < count_of c e.0.0
    → IsName e.1 → (Contains (keys_of old) e.0 → ⊥) → new ≡ old ++ e ∷ [] → AddsSymbols c 1 size bytes old new
unfolding symbols_at symbols_then
one_symbol c old new e size bytes spelled within le lt named free is =
    let sizes : length bytes ≡ length (symbol_line e) + length (drop size bytes) =
    ap length spelled ∙ length-append (symbol_line e) (drop size bytes) in
    let some : length (symbol_line e)
    ≡ suc (length (decimal e.0.1 ++ space ∷ [] ++ e.1 ++ line_end ∷ [])) = refl in
    record {
      within = within;
      least = omega (arith, sizes, some, length-drop size bytes, within);
      symbols = λ so_far. symbols_more c old new e.0.0 e.0.1 e.1 so_far lt named free is;
      lines = λ n more.
          let rest = drop size bytes ++ more in
          let text : bytes ++ more ≡ letter e.0.0 ∷ (decimal e.0.1 ++ space ∷ (e.1 ++ line_end ∷ rest)) =
          ap (λ (t : List ℕ). t ++ more) spelled ∙ append_assoc (symbol_line e) (drop size bytes) more
          ∙ symbol_apart e rest in
          let number : 1 + n ≡ suc n = omega arith in
          ap (λ (k : ℕ). symbols_at c k old (bytes ++ more)) number ∙ ap (symbols_at c (suc n) old) text
          ∙ rw (
            letter_before e (e.1 ++ line_end ∷ rest) le,
            symbol_again c old e.0.0 e.0.1 e.1 rest le lt named free,
          )
          (ap (λ (es : List Entry). symbols_at c n es rest) (sym is));
    }

-- ---- more lines

pub adds_no_symbol : (c : Counts) (buffered : List ℕ) (all : List Entry) → AddsSymbols c 0 0 buffered all all
adds_no_symbol c buffered all = record {
  within = omega arith;
  least = omega arith;
  symbols = λ so_far. so_far;
  lines = λ rest more. (let number : 0 + rest ≡ rest = omega arith in
      ap (λ (n : ℕ). symbols_at c n all (buffered ++ more)) number);
}

pub adds_more_symbols : (c : Counts) (count size other more : ℕ) (buffered piece : List ℕ) (old mid new : List Entry)
    → AddsSymbols c count size buffered old mid → piece ≡ drop size buffered
    → AddsSymbols c other more piece mid new → AddsSymbols c (count + other) (size + more) buffered old new
adds_more_symbols c count size other more buffered piece old mid new a is b =
    let pieces : length piece ≡ length buffered - size = ap length is ∙ length-drop size buffered in
    record {
      within = omega (arith, pieces, a.within, b.within);
      least = omega (arith, a.least, b.least);
      symbols = λ so_far. b.symbols (a.symbols so_far);
      lines = λ rest after.
          let number : count + other + rest ≡ count + (other + rest) = omega arith in
          let last : drop more piece ≡ drop (size + more) buffered = ap (drop more) is ∙ drop-drop more size buffered in
          ap (λ (n : ℕ). symbols_at c n old (buffered ++ after)) number ∙ a.lines (other + rest) after
          ∙ ap (λ (t : List ℕ). symbols_at c (other + rest) mid (t ++ after)) (sym is) ∙ b.lines rest after
          ∙ ap (λ (t : List ℕ). symbols_at c rest new (t ++ after)) last;
    }

-- reading goes on after them
pub goes_after : (c : Counts) (count size : ℕ) (buffered unread left rest : List ℕ) (old new : List Entry)
    (total : Read Named) → AddsSymbols c count size buffered old new → left ≡ buffered ++ unread
    → rest ≡ drop size left → GoesOn c old left total → GoesOn c new rest total
goes_after c count size buffered unread left rest old new total a split is go =
    let sizes : length left ≡ length buffered + length unread = ap length split ∙ length-append buffered unread in
    let number : count + (go.fuel - count) ≡ go.fuel = omega (arith, go.enough, sizes, a.within, a.least) in
    let after : rest ≡ drop size buffered ++ unread =
    is ∙ ap (drop size) split ∙ drop-append-le size buffered unread a.within in
    record {
      fuel = go.fuel - count;
      enough = omega (arith, ap length is, length-drop size left, go.enough, sizes, a.within, a.least);
      same =
          ap (symbols_at c (go.fuel - count) new) after ∙ sym (a.lines (go.fuel - count) unread)
          ∙ ap (λ (n : ℕ). symbols_at c n old (buffered ++ unread)) number
          ∙ ap (symbols_at c go.fuel old) (sym split) ∙ go.same;
    }
