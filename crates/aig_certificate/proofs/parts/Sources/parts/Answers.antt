use Rattle.std.proofs.Common.{◌≡◌, ℕ, ◌+◌, List, [], ◌∷◌, ◌++◌, None, length, refl, ap, ◌∙◌, arith}
use Rattle.std.proofs.lemmas.Result.{err_from_is_err_and}
use Rattle.aig_parts.specs.declared.raw.Raw.{Raw}
use Rattle.aig_parts.specs.Literal.{negation}
use Rattle.aig_certificate.specs.Strengthened.{IsStrengthened, chain, chain_end, claims, own_literals, strengthened}
use Rattle.aig_certificate.specs.state.Marks.{meanings_of}
use Rattle.aig_certificate.specs.state.Table.{literal_by}
use Rattle.aig_certificate.proofs.Assembled.{same_parts}
use Rattle.aig_certificate.proofs.Refusals.{refuses_names}
use Rattle.aig_certificate.proofs.parts.Sources.parts.Goals as goal

pub returns-in_err-symbols-clause-refused : goal.returns-in_err-symbols-clause-refused
returns-in_err-symbols-clause-refused c =
    let s = c.args.self.now in
    let model = s.model.now in
    let certificate = s.certificate.now in
    let literal = literal_by s.translation.table in
    let p = err_from_is_err_and c.from_residual-in_err-symbols.result c.from_residual-in_err-symbols.ensures.1 in
    let x : Raw = strengthened model c.args.property c.args.bad certificate (meanings_of s.shared) literal in
    let is : IsStrengthened model c.args.property certificate x = record {
      bad = c.args.bad;
      bad_is = c.requires.bad;
      meanings = meanings_of s.shared;
      meanings_are = c.requires.sources.meanings;
      literal = literal;
      literal_is = c.requires.sources.literals;
      is = refl;
    } in
    rw (p.1, p.2) (refuses_names model c.args.property certificate x is c.in_err-symbols.field-0.0 c.in_err-symbols.ensures.refused)

pub returns-clause-parts : goal.returns-clause-parts
returns-clause-parts c =
    let s = c.args.self.now in
    let model = s.model.now in
    let certificate = s.certificate.now in
    let literal = literal_by s.translation.table in
    let shared = meanings_of s.shared in
    let b = c.args.bad in
    let broken : List ℕ = claims certificate literal in
    let first : ℕ = model.max_var + length (own_literals shared certificate) + 1 in
    let last : c.max_var.result + c.own_count.result + 1 ≡ first = omega (arith, c.own_count.ensures.own, c.max_var.ensures.value) in
    let x : Raw = record {
      max_var = c.max_var.result + c.own_count.result + c.in_ok-added.added.claims;
      inputs = c.in_ok-inputs.inputs;
      latches = c.in_ok-latches.latches;
      outputs = c.in_ok-added.added.outputs;
      bad = c.in_ok-added.added.bad;
      constraints = c.in_ok-constraints.constraints;
      justice = c.new.result;
      fairness = c.new-2.result;
      gates = c.push_property.new.gates;
      symbols = c.in_ok-symbols.symbols;
      comment = None;
    } in
    record {
      bad = b;
      bad_is = c.requires.bad;
      meanings = shared;
      meanings_are = c.requires.sources.meanings;
      literal = literal;
      literal_is = c.requires.sources.literals;
      is = same_parts x (strengthened model c.args.property b certificate shared literal)
          (omega (arith, last, c.in_ok-added.ensures.property.count))
          c.in_ok-inputs.ensures
          c.in_ok-latches.ensures
          c.in_ok-added.ensures.property.outputs
          (c.in_ok-added.ensures.property.bad ∙ ap (λ (n : ℕ). negation (chain_end n (negation b) broken) ∷ []) last)
          (c.in_ok-constraints.ensures ∙ c.constraints.ensures)
          c.new.ensures
          c.new-2.ensures
          (c.in_ok-added.ensures.gates ∙ (λ i. c.in_ok-gates.ensures i ++ chain (last i) (negation b) broken))
          c.in_ok-symbols.ensures.symbols
          refl;
    }
