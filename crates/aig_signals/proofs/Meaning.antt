-- What a name means, rule after rule.
use Rattle.std.proofs.Common.{◌≡◌, ◌≢◌, ℕ, List, ◌∷◌, map, Option, None, Some, inr, refl, sym, subst, ◌∙◌}
use Rattle.std.specs.Prelude.{option_map, decimal, IfSome, IfNone}
use Rattle.aig_parts.specs.declared.raw.Raw.{Raw}
use Rattle.aig_parts.specs.Literal.{variable, negation}
use Rattle.aig_base.specs.Sections.{IsDefined}
use Rattle.aig_signals.specs.declared.lookup.Rule.{Rule}
use Rattle.aig_signals.specs.declared.lookup.Rule.TheVariants as rule
use Rattle.aig_signals.specs.Bits.{bits_named}
use Rattle.aig_signals.specs.Lookup.{or_else, alone, entry_literal, entry_by, literals_by, signal_literals}
use Rattle.aig_signals.specs.Lookup as lookup
use Rattle.aig_signals.specs.Lookup.{literals_called, IsPlain, MeansPlainly, IsNoName, Means, Unknown}
use Rattle.aig_signals.specs.state.Called.{by_names}
use Rattle.aig_signals.proofs.CalledLemmas.{or_assoc}

module _ (raw : Raw) (name : List ℕ) where
  -- the literal that a rule finds
  abbrev pub by_rule : Rule → Option ℕ
  by_rule r = option_map (entry_literal raw) (entry_by raw name r)

  -- the literals of the signal that is found
  abbrev pub by_signal : Option (List ℕ)
  by_signal = option_map (signal_literals raw) (lookup.signal_named raw name)

  pub first_named : (l : ℕ) → Some l ≡ by_rule rule.FirstName → Some (alone l) ≡ by_names raw name
  first_named l h = λ i. or_else (or_else (option_map alone (h i)) by_signal) (literals_by raw name rule.FurtherWord)

  pub signal_named : (ls : List ℕ) → None ≡ by_rule rule.FirstName → Some ls ≡ by_signal → Some ls ≡ by_names raw name
  signal_named ls h s = λ i. or_else (or_else (option_map alone (h i)) (s i)) (literals_by raw name rule.FurtherWord)

  pub further_named : (o : Option ℕ) → None ≡ by_rule rule.FirstName → None ≡ by_signal → o ≡ by_rule rule.FurtherWord
      → option_map alone o ≡ by_names raw name
  further_named o h s f = λ i. or_else (or_else (option_map alone (h i)) (s i)) (option_map alone (f i))

  -- the rules after further words
  abbrev last : Option (List ℕ)
  last = or_else (bits_named raw name) (literals_by raw name rule.Position)

  rules_joined : or_else (by_names raw name) last ≡ literals_called raw name
  unfolding literals_called
  rules_joined =
      or_assoc (or_else (literals_by raw name rule.FirstName) by_signal) (literals_by raw name rule.FurtherWord) last
      ∙ or_assoc (literals_by raw name rule.FirstName) by_signal (or_else (literals_by raw name rule.FurtherWord) last)

  pub names_called : (ls : List ℕ) → Some ls ≡ by_names raw name → Some ls ≡ literals_called raw name
  names_called ls h = (λ i. or_else (h i) last) ∙ rules_joined

  pub bits_called : (ls : List ℕ) → None ≡ by_names raw name → Some ls ≡ bits_named raw name → Some ls ≡ literals_called raw name
  bits_called ls h b = (λ i. or_else (h i) (or_else (b i) (literals_by raw name rule.Position))) ∙ rules_joined

  pub last_called : (o : Option (List ℕ)) → None ≡ by_names raw name → None ≡ bits_named raw name
      → o ≡ literals_by raw name rule.Position → o ≡ literals_called raw name
  last_called o h b p = (λ i. or_else (h i) (or_else (b i) (p i))) ∙ rules_joined

  pub plain_called : (ls : List ℕ) → Some ls ≡ literals_called raw name → IsPlain raw name ls
  plain_called ls h = subst (λ (o : Option (List ℕ)). MeansPlainly raw name o ls) h refl

  -- where nothing has the name, it may be a number
  pub plain_numbered : (o : Option ℕ) (found : Option (List ℕ)) → None ≡ literals_called raw name → IfSome o (λ l. name ≡ decimal l)
      → IfSome o (λ l. IsDefined raw (variable l)) → found ≡ option_map alone o → IfSome found (IsPlain raw name)
  plain_numbered None found h spelled there is = subst (λ (f : Option (List ℕ)). IfSome f (IsPlain raw name)) (sym is) tt
  plain_numbered (Some l) found h spelled there is =
      subst (λ (f : Option (List ℕ)). IfSome f (IsPlain raw name)) (sym is)
      (subst (λ (o : Option (List ℕ)). MeansPlainly raw name o (alone l)) h (l, (spelled, there), refl))

  pub no_name : (o : Option ℕ) (found : Option (List ℕ)) → None ≡ literals_called raw name
      → IfNone o ((l : ℕ) → IsDefined raw (variable l) → name ≢ decimal l) → found ≡ option_map alone o → IfNone found (IsNoName raw name)
  no_name None found h none is = subst (λ (f : Option (List ℕ)). IfNone f (IsNoName raw name)) (sym is) (sym h, λ l number. none l number.1 number.0)
  no_name (Some l) found h none is = subst (λ (f : Option (List ℕ)). IfNone f (IsNoName raw name)) (sym is) tt

  pub means_negated : (rest plain literals : List ℕ) → IsNoName raw name → name ≡ 33 ∷ rest → IsPlain raw rest plain
      → literals ≡ map negation plain → Means raw name literals
  means_negated rest plain literals none is h n = inr (none, (rest, plain, is, h, n))

  rest_same : (rest other : List ℕ) → name ≡ 33 ∷ rest → name ≡ 33 ∷ other → rest ≡ other
  rest_same rest other is is' =
      let e : 33 ∷ rest ≡ 33 ∷ other = sym is ∙ is' in
      cc e

  pub unknown_after : (rest : List ℕ) → IsNoName raw name → name ≡ 33 ∷ rest → IsNoName raw rest → Unknown raw name
  unknown_after rest none is after = (none, λ other is'. subst (IsNoName raw) (rest_same rest other is is') after)
