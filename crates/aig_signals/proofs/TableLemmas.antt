-- Values as tables show them.
use Rattle.std.proofs.Common.{◌≡◌, ◌≢◌, ℕ, List, [], ◌∷◌, Option, true, false, length, refl}
use Rattle.std.specs.Prelude.{◌==◌}
use Rattle.std.specs.List.{list_all}
use Rattle.std.proofs.lemmas.Bool.{eq-eqb, ne_eqb}
use Rattle.aig_parts.specs.declared.ternary.Tern.{Tern}
use Rattle.aig_signals.specs.Value.{binary, hexadecimal, is_known, is_unknown, table_text}

module _ (bits : List (Option Tern)) where
  pub table_one : length bits ≡ 1 → binary bits ≡ table_text bits
  unfolding table_text
  table_one h =
      let one : (length bits == 1) ≡ true = eq-eqb (length bits) 1 h in
      rw one refl

  pub table_unknown : length bits ≢ 1 → list_all is_unknown bits ≡ true → 120 ∷ [] ≡ table_text bits
  unfolding table_text
  table_unknown h u =
      let more : (length bits == 1) ≡ false = ne_eqb (length bits) 1 h in
      rw (more, u) refl

  pub table_known : length bits ≢ 1 → list_all is_unknown bits ≡ false → list_all is_known bits ≡ true
      → hexadecimal bits ≡ table_text bits
  unfolding table_text
  table_known h u k =
      let more : (length bits == 1) ≡ false = ne_eqb (length bits) 1 h in
      rw (more, u, k) refl

  pub table_some : length bits ≢ 1 → list_all is_unknown bits ≡ false → list_all is_known bits ≡ false
      → binary bits ≡ table_text bits
  unfolding table_text
  table_some h u k =
      let more : (length bits == 1) ≡ false = ne_eqb (length bits) 1 h in
      rw (more, u, k) refl
