use Rattle.std.proofs.Common.{◌≡◌, ℕ, ◌+◌, ◌-◌, List, [], ◌∷◌, ◌++◌, take, arith, refl, sym, ap, ◌∙◌}
use Rattle.std.specs.Prelude.{decimal}
use Rattle.std.specs.Str.Parse.{digits_value}
use Rattle.aig_names.proofs.NextNames.{next_none, next_at, next_not_at}
use Rattle.aig_names.proofs.vectors.show_next.Goals as goal

pub returns-in_default : goal.returns-in_default
returns-in_default c = c.clear.ensures.items ∙ sym (next_none c.args.name.now c.in_default.ensures.none)

pub returns-in_default-index_of : goal.returns-in_default-index_of
returns-in_default-index_of c =
    let at = c.in-Some.ensures.some in
    c.clear.ensures.items ∙ sym (next_not_at c.args.name.now _ (c.in-Some.place - 1) c.in-Some.place (omega (arith, at.0)) at.1 at.2 at.3 refl c.in_default-index_of.ensures.none)

pub returns : goal.returns
returns c =
    let name = c.args.name.now in
    let place = c.in-Some.place in
    let at = c.in-Some.ensures.some in
    let k = c.in-Some-index_of.ensures.some in
    let front : c.extend_from_slice.new.self.items ≡ take place name =
    c.in_ok-extend_from_slice.ensures.items ∙ ap (λ (t : List ℕ). t ++ take place name) c.clear.ensures.items in
    let number : c.as_bytes.result.now ≡ decimal (digits_value 10 c.in-Some-index_of.digits.now + 1) =
    c.as_bytes.ensures.value ∙ c.format.ensures.text ∙ ap (λ (n : ℕ). decimal (n + 1)) c.number_of.ensures.value in
    let two : c.extend_from_slice-2.new.self.items ≡ take place name ++ decimal (digits_value 10 c.in-Some-index_of.digits.now + 1) =
    c.in_ok-extend_from_slice-2.ensures.items ∙ (λ i. front i ++ number i) in
    c.in_ok-push.ensures.items ∙ ap (λ (t : List ℕ). t ++ 93 ∷ []) two
    ∙ sym (next_at name _ c.in-Some-index_of.digits.now (place - 1) place (omega (arith, at.0)) at.1 at.2 refl k.0 k.1)
