-- The examples of the definitions of `aig_names`, `aig_signals` and `aig_signals`.
use Rattle.std.proofs.Common.{zero, ◌≡◌, ◌≢◌, inl, inr, ℕ, suc, ◌<◌, [], ◌∷◌, None, Some, refl}
use Rattle.std.proofs.Common.{arith}
use Rattle.std.specs.Prelude.{codes, decimal, All}
use Rattle.std.specs.Fmt.{digits}
use Rattle.std.proofs.lemmas.List.Elements.{All-cons, All-nil}
use Rattle.aig_parts.specs.declared.raw.Raw.{Raw}
use Rattle.aig_parts.specs.declared.symbols.Kind.TheVariants.{Input, Latch, Bad}
use Rattle.aig_parts.specs.declared.ternary.Tern.TheVariants.{Zero, One}
use Rattle.aig_base.specs.declared.select.PropertySection.TheVariants as sections
use Rattle.aig_names.specs.Header.{closings, moves, shared}
use Rattle.aig_names.specs.HeaderRead.{found}
use Rattle.aig_names.specs.Names.{code_digits, cut_at, identifier_code, names_of, as_name_after, symbol_of, words}
use Rattle.aig_names.specs.Paths.{leaf_of, path_of, scopes_of}
use Rattle.aig_names.specs.Signals.{columns, entries, section_names}
use Rattle.aig_names.specs.Vectors.{bit_of, next_name, turned, turned_after}
use Rattle.aig_signals.specs.Named.{IsNamed, symbols_from}
use Rattle.aig_signals.specs.Property.{IsPosition}
use Rattle.aig_signals.specs.Bits.{all_there, bits_named, section_bits}
use Rattle.aig_signals.specs.Lookup.{least, literals_called, IsNumber, Means}
use Rattle.aig_signals.specs.Names.{first_name, further_names}
use Rattle.aig_signals.specs.Naming.{section_words, signal_word}
use Rattle.aig_signals.specs.Signals.{runs_from, section_signals}
use Rattle.aig_signals.specs.Text.{latches_head, line}
use Rattle.aig_signals.specs.Value.{value_text}

-- ---- dumps

-- from the scopes `u1` to `u2`: `$upscope $end`, `$scope module u2 $end`
moves_to_u2 : moves (codes "u1" ∷ []) (codes "u2" ∷ []) ≡ codes "$upscope $end\n$scope module u2 $end\n"
unfolding closings shared
moves_to_u2 = refl

-- the line `$var wire 1 ! en $end` in the scope `inputs` gives the path `inputs`, `en` with the code `!`
found_name : found (codes "inputs" ∷ []) (cut_at 32 (codes "$var wire 1 ! en $end") ∷ [])
    ≡ (codes "inputs" ∷ codes "en" ∷ [], codes "!") ∷ []
unfolding found
found_name = refl

-- the code of signal 94 is `!"`
code_of_94 : identifier_code 94 ≡ 33 ∷ 34 ∷ []
unfolding code_digits
code_of_94 = refl

-- `u1.q[0] x[0]` gives two names
two_names : names_of (((Latch, 0), codes "u1.q[0] x[0]") ∷ []) Latch 0 ≡ codes "u1.q[0]" ∷ codes "x[0]" ∷ []
unfolding as_name_after symbol_of words
two_names = refl

-- a latch 3 without a symbol is `l3`
latch_without_symbol : names_of [] Latch 3 ≡ codes "l3" ∷ []
unfolding digits as_name_after symbol_of words
latch_without_symbol = refl

-- `u1.q[0]` is `q[0]` in the scope `u1`
path_with_scope : (leaf_of (codes "u1.q[0]") ≡ codes "q[0]") × (scopes_of (codes "u1.q[0]") ≡ codes "u1" ∷ [])
unfolding path_of
path_with_scope = (refl, refl)

-- `a..b` is in no scope
path_without_scope : (leaf_of (codes "a..b") ≡ codes "a..b") × (scopes_of (codes "a..b") ≡ [])
unfolding path_of
path_without_scope = (refl, refl)

-- symbols `a b` and `c`: `a c b`
order_of_names : section_names (((Input, 0), codes "a b") ∷ ((Input, 1), codes "c") ∷ []) Input 0 2
    ≡ (0, codes "a") ∷ (1, codes "c") ∷ (0, codes "b") ∷ []
unfolding columns entries next_name section_names as_name_after symbol_of turned_after words
order_of_names = refl

-- `a[0] a[1] b` becomes `a[1] a[0] b`
turned_run : turned ((0, codes "a[0]") ∷ (1, codes "a[1]") ∷ (2, codes "b") ∷ [])
    ≡ (1, codes "a[1]") ∷ (0, codes "a[0]") ∷ (2, codes "b") ∷ []
unfolding digits next_name turned_after
turned_run = refl

-- ---- names of properties

-- `3` and `b3` are position 3
position_three : (raw : Raw) → IsPosition raw sections.Bad (codes "3") 3 × IsPosition raw sections.Bad (codes "b3") 3
unfolding digits
position_three raw = (inl (inl refl), inl (inr refl))

-- parts with one input and nothing else
abbrev one_input : Raw
one_input = record {
  max_var = 1;
  inputs = 2 ∷ [];
  latches = [];
  outputs = [];
  bad = [];
  constraints = [];
  justice = [];
  fairness = [];
  gates = [];
  symbols = [];
  comment = None;
}

-- `aag 1 1 0 0 0 2/2/2/3/` with `p//`: the symbol `b0 p`
one_name : IsNamed (record one_input { bad = 2 ∷ 3 ∷ [] }) sections.Bad (codes "p\n\n")
    (record one_input { bad = 2 ∷ 3 ∷ []; symbols = ((Bad, 0), codes "p") ∷ [] })
unfolding symbols_from
one_name = (
  codes "p" ∷ [] ∷ [],
  (
    record {
      spelled = refl;
      ended = All-cons (All (λ (b : ℕ). b ≢ 10)) (codes "p") ([] ∷ [])
          (All-cons (λ (b : ℕ). b ≢ 10) 112 [] no_end (All-nil _))
          (All-cons (All (λ (b : ℕ). b ≢ 10)) [] [] (All-nil _) (All-nil _));
    },
    refl,
  ),
  refl,
)
  where
    no_end : ◌≢◌ {A = ℕ} 112 10
    no_end e = omega (arith, e)

-- ---- signals

-- with the words `v[0]` of one entry and `v[1]` of another, `v` is both
both_bits : bits_named (record one_input {
  inputs = 2 ∷ 4 ∷ [];
  symbols = ((Input, 0), codes "a v[0]") ∷ ((Input, 1), codes "b v[1]") ∷ [];
}) (codes "v") ≡ Some (2 ∷ 4 ∷ [])
unfolding all_there bit_of bits_named section_bits symbol_of words
both_bits = refl

-- `q[0] top.q` has the first name `q[0]` and one further name
abbrev named_latch : Raw
named_latch = record one_input {
  latches = record { lit = 4; next = 4; reset = 0 } ∷ [];
  symbols = ((Latch, 0), codes "q[0] top.q") ∷ [];
}

names_of_latch : (first_name named_latch Latch 0 ≡ codes "q[0]")
    × (further_names named_latch Latch 0 ≡ codes "top.q" ∷ [])
unfolding first_name further_names symbol_of words
names_of_latch = (refl, refl)

-- bits 0 and 1 of `q`, which are 1 and 0, of four: `q=4'b??01`
word_of_q : signal_word (Some One ∷ Some Zero ∷ None ∷ None ∷ [])
    (record { kind = Latch; first = 0; end = 4; name = codes "q" }) ≡ codes "q=4'b??01"
unfolding digits value_text
word_of_q = refl

-- latches `q[0]`, `q[1]`, `r` are the signals `q` and `r`
three_latches : section_signals (record one_input {
  latches = record { lit = 4; next = 4; reset = 0 } ∷ record { lit = 6; next = 6; reset = 0 }
      ∷ record { lit = 8; next = 8; reset = 0 } ∷ [];
  symbols = ((Latch, 0), codes "q[0]") ∷ ((Latch, 1), codes "q[1]") ∷ ((Latch, 2), codes "r") ∷ [];
}) Latch
    ≡ record { kind = Latch; first = 0; end = 2; name = codes "q" }
    ∷ record { kind = Latch; first = 2; end = 3; name = codes "r" } ∷ []
unfolding bit_of digits first_name next_name runs_from section_signals symbol_of words
three_latches = refl

-- bits 1, 1, 0, 0 from bit 0 up are `4'h3`
value_of_bits : value_text (Some One ∷ Some One ∷ Some Zero ∷ Some Zero ∷ []) ≡ codes "4'h3"
unfolding digits value_text
value_of_bits = refl

-- `full=0 at 9, by 8: count=4'b??1?`
line_of_latches : line (latches_head (codes "full=0") 9) (record {
  inputs = record { signals = []; values = [] };
  latches = record {
    signals = record { kind = Latch; first = 0; end = 4; name = codes "count" } ∷ [];
    values = None ∷ Some One ∷ None ∷ None ∷ [];
  };
}) ≡ codes "full=0 at 9, by 8: count=4'b??1?\n"
unfolding digits section_words value_text
line_of_latches = refl

-- `!q` is each bit of `q` negated
abbrev two_bits : Raw
two_bits = record one_input {
  max_var = 2;
  inputs = [];
  latches = record { lit = 2; next = 2; reset = 0 } ∷ record { lit = 4; next = 4; reset = 0 } ∷ [];
  symbols = ((Latch, 0), codes "q[0]") ∷ ((Latch, 1), codes "q[1]") ∷ [];
}

bits_of_q : literals_called two_bits (codes "q") ≡ Some (2 ∷ 4 ∷ [])
unfolding all_there bit_of bits_named digits first_name further_names least literals_called next_name runs_from section_bits section_signals symbol_of words
bits_of_q = refl

not_called : literals_called two_bits (codes "!q") ≡ None
unfolding all_there bit_of bits_named digits first_name further_names least literals_called next_name runs_from section_bits section_signals symbol_of words
not_called = refl

few : (l : ℕ) → l < 6 → codes "!q" ≡ decimal l → ⊥
unfolding digits
few zero lt is = let no : ⊥ = cc in no
few (suc zero) lt is = let no : ⊥ = cc in no
few (suc (suc zero)) lt is = let no : ⊥ = cc in no
few (suc (suc (suc zero))) lt is = let no : ⊥ = cc in no
few (suc (suc (suc (suc zero)))) lt is = let no : ⊥ = cc in no
few (suc (suc (suc (suc (suc zero))))) lt is = let no : ⊥ = cc in no
few (suc (suc (suc (suc (suc (suc l)))))) lt is = omega (arith, lt)

no_number : (l : ℕ) → IsNumber two_bits (codes "!q") l → ⊥
no_number l (is, (zero, lt, e)) = few l (omega (arith, e)) is
no_number l (is, (suc zero, lt, e)) = few l (omega (arith, e)) is
no_number l (is, (suc (suc zero), lt, e)) = few l (omega (arith, e)) is
no_number l (is, (suc (suc (suc k)), lt, e)) = absurd (omega (arith, lt))

negated_bits : Means two_bits (codes "!q") (3 ∷ 5 ∷ [])
negated_bits = inr ((not_called, no_number), (codes "q", 2 ∷ 4 ∷ [], refl, rw bits_of_q refl, refl))
