-- A word has one meaning.
use Rattle.std.proofs.Common.{◌≡◌, ℕ, ◌*◌, ◌+◌, ◌^◌, ◌<◌, ◌≤◌, ◌⊎◌, List, ◌∷◌, map, length, Option, None, Some, inl}
use Rattle.std.proofs.Common.{inr, refl, sym, ap, subst, ◌∙◌, arith, slice_get}
use Rattle.std.specs.Prelude.{decimal}
use Rattle.std.specs.List.{AllZip}
use Rattle.std.proofs.lemmas.Fmt.{decimal_injective}
use Rattle.std.proofs.lemmas.Slice.Zip.{AllZip-long}
use Rattle.aig_parts.specs.declared.raw.Raw.{Raw}
use Rattle.aig_parts.specs.Literal.{variable, negation}
use Rattle.aig_base.specs.Circuit.{IsCircuit}
use Rattle.aig_base.specs.Sections.{IsDefined}
use Rattle.aig_signals.specs.Lookup.{literals_called, alone, IsNumber, MeansPlainly, IsPlain, IsNoName, IsNegated}
use Rattle.aig_signals.specs.Lookup.{Means, Unknown}
use Rattle.aig_shell.specs.Edits.{ArePositions, MeansInputs}

module _ (raw : Raw) (small : (v : ℕ) → IsDefined raw v → v < 2 ^ 32) where
  number_one : (name : List ℕ) (l m : ℕ) → IsNumber raw name l → IsNumber raw name m → l ≡ m
  number_one name l m (e, d) (f, g) =
      decimal_injective l m (grind (arith, small (variable l) d)) (grind (arith, small (variable m) g)) (sym e ∙ f)

  plain_one : (name : List ℕ) (o : Option (List ℕ)) (a b : List ℕ) → MeansPlainly raw name o a → MeansPlainly raw name o b → a ≡ b
  plain_one name None a b (l, n, e) (m, k, f) = e ∙ ap alone (number_one name l m n k) ∙ sym f
  plain_one name (Some called) a b e f = e ∙ sym f

  plain_none : (name : List ℕ) (o : Option (List ℕ)) (a : List ℕ) → o ≡ None → ((l : ℕ) → IsNumber raw name l → ⊥)
      → MeansPlainly raw name o a → ⊥
  plain_none name None a e none (l, n, f) = none l n
  plain_none name (Some called) a e none f = cc e

  no_plain : (name a : List ℕ) → IsNoName raw name → IsPlain raw name a → ⊥
  no_plain name a none h = plain_none name (literals_called raw name) a none.0 none.1 h

  negated_one : (name a b : List ℕ) → IsNegated raw name a → IsNegated raw name b → a ≡ b
  negated_one name a b (n, (rest, plain, e, h, f)) (k, (rest', plain', e', h', f')) =
      let long : 33 ∷ rest ≡ 33 ∷ rest' = sym e ∙ e' in
      let same : rest ≡ rest' = cc long in
      let here : IsPlain raw rest' plain = subst (λ (r : List ℕ). IsPlain raw r plain) same h in
      f ∙ ap (map negation) (plain_one rest' (literals_called raw rest') plain plain' here h') ∙ sym f'

  pub means_one : (name a b : List ℕ) → Means raw name a → Means raw name b → a ≡ b
  means_one name a b (inl h) (inl k) = plain_one name (literals_called raw name) a b h k
  means_one name a b (inl h) (inr k) = absurd (no_plain name a k.0 h)
  means_one name a b (inr h) (inl k) = absurd (no_plain name b h.0 k)
  means_one name a b (inr h) (inr k) = negated_one name a b h k

  pub means_none : (name a : List ℕ) → Unknown raw name → Means raw name a → ⊥
  means_none name a none (inl h) = no_plain name a none.0 h
  means_none name a none (inr (n, (rest, plain, e, h, f))) = no_plain rest plain (none.1 rest e) h

  -- as many inputs in each reading
  pub inputs_size : (name ps qs : List ℕ) → MeansInputs raw name ps → MeansInputs raw name qs → length ps ≡ length qs
  inputs_size name ps qs (a, h, f) (b, k, g) =
      AllZip-long (λ l p. slice_get raw.inputs p ≡ Some l) a ps f ∙ ap length (means_one name a b h k)
      ∙ sym (AllZip-long (λ l p. slice_get raw.inputs p ≡ Some l) b qs g)
