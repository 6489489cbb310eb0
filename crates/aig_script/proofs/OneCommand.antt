-- A line spells one command.
use Rattle.std.proofs.Common.{◌≡◌, ◌≢◌, ℕ, ◌<◌, ◌^◌, List, [], ◌∷◌, ◌++◌, All, map, refl, sym, ap, ◌∙◌, arith}
use Rattle.std.specs.Fmt.{decimal}
use Rattle.std.proofs.lemmas.Fmt.{decimal_injective}
use Rattle.aig_bytes.proofs.Decimals.{decimal_lacks}
use Rattle.aig_bytes.proofs.Cuts.{split_once}
use Rattle.aig_parts.specs.declared.ternary.Tern.{Tern}
use Rattle.aig_values.specs.Characters.{character}
use Rattle.aig_sim.proofs.OneText.{same_row}
use Rattle.aig_bench.specs.Edit.{Edit, rewire, set_reset, set_bit, add_frame, drop_frame, append_gate, set_output}
use Rattle.aig_script.specs.Command.{Command, edit, value, trace, unroll, command_text, IsCommand}
use Rattle.aig_script.specs.state.Fields.{IsNumber, number_field}

one_number : (m n : ℕ) → IsNumber m → IsNumber n → decimal m ≡ decimal n → m ≡ n
one_number m n p q e = decimal_injective m n (omega arith) (omega arith) e

-- no space is in a number
no_space : (n : ℕ) → All (λ b. b ≢ 32) (decimal n)
no_space n = decimal_lacks 32 (λ h. omega (arith, h.0)) n

one_field : (m n : ℕ) (xs ys : List ℕ) → IsNumber m → IsNumber n → number_field m xs ≡ number_field n ys → (m ≡ n) × (xs ≡ ys)
one_field m n xs ys p q e =
    let s = split_once 32 (decimal m) (decimal n) xs ys (no_space m) (no_space n) e in
    (one_number m n p q s.0, s.1)

one_value : (v w : Tern) → character v ∷ [] ≡ character w ∷ [] → v ≡ w
one_value v w e =
    let same : v ∷ [] ≡ w ∷ [] = same_row (v ∷ []) (w ∷ []) e in
    cc

-- what stands after the first byte, and after the two first bytes
tails : (a b : ℕ) (xs ys : List ℕ) → a ∷ xs ≡ b ∷ ys → xs ≡ ys
tails a b xs ys e = cc

tails_of_two : (a b : ℕ) (xs ys : List ℕ) → a ∷ (b ∷ xs) ≡ a ∷ (b ∷ ys) → xs ≡ ys
tails_of_two a b xs ys e = tails b b xs ys (tails a a (b ∷ xs) (b ∷ ys) e)

pub first_differs : (a b : ℕ) (xs ys : List ℕ) → (a ≡ b → ⊥) → a ∷ xs ≡ b ∷ ys → ⊥
first_differs a b xs ys ne e = ne (let h : a ≡ b = cc in h)

-- the first byte
abbrev pub command_letter : Command → ℕ
command_letter (edit (rewire g a b)) = 119
command_letter (edit (set_reset l w)) = 114
command_letter (edit (set_bit t p w)) = 115
command_letter (edit (add_frame row)) = 43
command_letter (edit drop_frame) = 45
command_letter (edit (append_gate a b)) = 103
command_letter (edit (set_output p l)) = 111
command_letter (value t l) = 118
command_letter trace = 116
command_letter unroll = 117

one_edit : (x : Edit) (d : Command) → IsCommand (edit x) → IsCommand d → command_text (edit x) ≡ command_text d → edit x ≡ d
one_edit (rewire g a b) (edit (rewire h c d)) p q e =
    let s = one_field g h _ _ p.0 q.0 (tails_of_two 119 32 _ _ e) in
    let t = one_field a c _ _ p.1.0 q.1.0 s.1 in
    let u = one_number b d p.1.1.0 q.1.1.0 t.1 in
    cc
one_edit (rewire g a b) d p q e = absurd (first_differs 119 (command_letter d) _ _ (λ h. omega arith) e)
one_edit (set_reset l w) (edit (set_reset m v)) p q e =
    let s = one_field l m _ _ p.0 q.0 (tails_of_two 114 32 _ _ e) in
    let t = one_value w v s.1 in
    cc
one_edit (set_reset l w) d p q e = absurd (first_differs 114 (command_letter d) _ _ (λ h. omega arith) e)
one_edit (set_bit t i w) (edit (set_bit u j v)) p q e =
    let r = one_field t u _ _ p.0 q.0 (tails_of_two 115 32 _ _ e) in
    let s = one_field i j _ _ p.1.0 q.1.0 r.1 in
    let k = one_value w v s.1 in
    cc
one_edit (set_bit t i w) d p q e = absurd (first_differs 115 (command_letter d) _ _ (λ h. omega arith) e)
one_edit (add_frame row) (edit (add_frame other)) p q e =
    ap (λ (r : List Tern). edit (add_frame r)) (same_row row other (tails_of_two 43 32 _ _ e))
one_edit (add_frame row) d p q e = absurd (first_differs 43 (command_letter d) _ _ (λ h. omega arith) e)
one_edit drop_frame (edit drop_frame) p q e = refl
one_edit drop_frame d p q e = absurd (first_differs 45 (command_letter d) _ _ (λ h. omega arith) e)
one_edit (append_gate a b) (edit (append_gate c d)) p q e =
    let s = one_field a c _ _ p.0 q.0 (tails_of_two 103 32 _ _ e) in
    let t = one_number b d p.1.0 q.1.0 s.1 in
    cc
one_edit (append_gate a b) d p q e = absurd (first_differs 103 (command_letter d) _ _ (λ h. omega arith) e)
one_edit (set_output i l) (edit (set_output j m)) p q e =
    let s = one_field i j _ _ p.0 q.0 (tails_of_two 111 32 _ _ e) in
    let t = one_number l m p.1.0 q.1.0 s.1 in
    cc
one_edit (set_output i l) d p q e = absurd (first_differs 111 (command_letter d) _ _ (λ h. omega arith) e)

pub one_command : (c d : Command) → IsCommand c → IsCommand d → command_text c ≡ command_text d → c ≡ d
one_command (edit x) d p q e = one_edit x d p q e
one_command (value t l) (value u m) p q e =
    let s = one_field t u _ _ p.0 q.0 (tails_of_two 118 32 _ _ e) in
    let k = one_number l m p.1.0 q.1.0 s.1 in
    cc
one_command (value t l) (edit x) p q e = sym (one_edit x (value t l) q p (sym e))
one_command (value t l) d p q e = absurd (first_differs 118 (command_letter d) _ _ (λ h. omega arith) e)
one_command trace trace p q e = refl
one_command trace (edit x) p q e = sym (one_edit x trace q p (sym e))
one_command trace d p q e = absurd (first_differs 116 (command_letter d) _ _ (λ h. omega arith) e)
one_command unroll unroll p q e = refl
one_command unroll (edit x) p q e = sym (one_edit x unroll q p (sym e))
one_command unroll d p q e = absurd (first_differs 117 (command_letter d) _ _ (λ h. omega arith) e)
