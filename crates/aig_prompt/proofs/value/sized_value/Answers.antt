use Rattle.std.proofs.Common.{◌≡◌, rules}
use Rattle.std.specs.Prelude.{decimal}
use Rattle.aig_prompt.specs.Value.{AreLetters, AreDecimalDigits, AreHexadecimalDigits, in_base_2, in_base_10, in_base_16}
use Rattle.aig_prompt.proofs.ValueLemmas.{base_is, only_10, only_16, sized_ends, sized_refused}
use Rattle.aig_prompt.proofs.value.sized_value.Goals as goal

pub returns-in-104-clause-reads : goal.returns-in-104-clause-reads
returns-in-104-clause-reads c =
    let is : c.args.size.now ≡ decimal c.args.width = search rules in
    sized_ends _ c.args.size.now c.args.rest.now c.args.width c.hexadecimal_value.result (AreHexadecimalDigits _)
    (λ bits h. in_base_16 _ (base_is c.args.rest.now _ 104 c.in-Some.ensures.value c.in-104.is) h) is
    c.hexadecimal_value.ensures.size c.hexadecimal_value.ensures.value

pub returns-in-100-clause-reads : goal.returns-in-100-clause-reads
returns-in-100-clause-reads c =
    let is : c.args.size.now ≡ decimal c.args.width = search rules in
    sized_ends _ c.args.size.now c.args.rest.now c.args.width c.decimal_value.result (AreDecimalDigits _)
    (λ bits h. in_base_10 _ (base_is c.args.rest.now _ 100 c.in-Some.ensures.value c.in-100.is) h) is
    c.decimal_value.ensures.size c.decimal_value.ensures.value

pub returns-in-98-clause-reads : goal.returns-in-98-clause-reads
returns-in-98-clause-reads c =
    let is : c.args.size.now ≡ decimal c.args.width = search rules in
    sized_ends _ c.args.size.now c.args.rest.now c.args.width c.binary_value.result (AreLetters _)
    (λ bits h. in_base_2 _ (base_is c.args.rest.now _ 98 c.in-Some.ensures.value c.in-98.is) h) is
    c.binary_value.ensures.size c.binary_value.ensures.value

pub returns-in-104-clause-refused : goal.returns-in-104-clause-refused
returns-in-104-clause-refused c =
    sized_refused c.args.size.now c.args.rest.now c.args.width c.hexadecimal_value.result (AreHexadecimalDigits _)
    (λ bits h. only_16 c.args.rest.now _ bits (base_is c.args.rest.now _ 104 c.in-Some.ensures.value c.in-104.is) h)
    c.hexadecimal_value.ensures.refused

pub returns-in-100-clause-refused : goal.returns-in-100-clause-refused
returns-in-100-clause-refused c =
    sized_refused c.args.size.now c.args.rest.now c.args.width c.decimal_value.result (AreDecimalDigits _)
    (λ bits h. only_10 c.args.rest.now _ bits (base_is c.args.rest.now _ 100 c.in-Some.ensures.value c.in-100.is) h)
    c.decimal_value.ensures.refused
