use Rattle.std.proofs.Common.{◌≡◌, ℕ, ◌<◌, ◌^◌, List, Result, Ok, Err}
use Rattle.std.specs.Prelude.{Option, None, Some}
use Rattle.std.specs.Str.Parse.{IsNumeral, digits_value, without_leading_plus}
use Rattle.std.specs.contracts.prelude.U32FromStr.TheImpl.{ghosts}
use Rattle.clap.specs.Matches.{ReadsOne}
use Rattle.aig_cli.specs.Held.{IsNumberOf}
use Rattle.aig_cli.proofs.command_line.number_of.Goals as goal

-- what is read of a text is the number that it spells, or it spells none
number : {E : Type 0} (gives : List ℕ → Result ℕ E → Type 0) (text : List ℕ) (r : Option ℕ) → ReadsOne gives text r
    → ((n : ℕ) → gives text (Ok n) → n ≡ digits_value 10 (without_leading_plus text))
    → ((e : E) → gives text (Err e)
    → IsNumeral 10 (without_leading_plus text) × (digits_value 10 (without_leading_plus text) < 2 ^ 32) → ⊥)
    → IsNumberOf text r
number gives text None (e, h) spells none = none e h
number gives text (Some n) h spells none = spells n h

pub returns : goal.returns
returns c = record {
  held = (
    c.get_one.ensures.none,
    λ text is. number ghosts.from_str_gives text c.get_one.result (c.get_one.ensures.value text is) (λ n h. h.0.1) (λ e h. h.0),
  );
}
