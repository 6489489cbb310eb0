-- Lines of entries, with their names.
use Rattle.std.proofs.Common.{◌≡◌, ℕ, ◌+◌, ◌<◌, ◌≤◌, List, [], ◌∷◌, ◌++◌, length, get_or, drop, sym, ap, ◌∙◌}
use Rattle.std.proofs.lemmas.List.{drop_more, drop_all}
use Rattle.aig_parts.specs.declared.symbols.Kind.{Kind}
use Rattle.aig_format.specs.Spelling.{Entry}
use Rattle.aig_signals.specs.declared.form.Form.{Form}
use Rattle.aig_commands.specs.Names.{entry_line, entry_lines}

-- the lines of a section from an entry on
module _ {X : Type 0} (form : Form) (shown : X → List ℕ) (symbols : List Entry) (kind : Kind) where
  pub lines_step : (xs : List X) (i : ℕ) (x : X) → i < length xs → x ≡ get_or xs i x
      → entry_lines form shown symbols kind i (drop i xs)
      ≡ entry_line form symbols kind i (shown x) ++ entry_lines form shown symbols kind (i + 1) (drop (i + 1) xs)
  unfolding entry_lines
  lines_step xs i x lt is =
      ap (entry_lines form shown symbols kind i) (drop_more xs i x lt ∙ ap (λ (y : X). y ∷ drop (i + 1) xs) (sym is))

  pub lines_end : (xs : List X) (i : ℕ) → length xs ≤ i → entry_lines form shown symbols kind i (drop i xs) ≡ []
  unfolding entry_lines
  lines_end xs i le = ap (entry_lines form shown symbols kind i) (drop_all i xs le)
