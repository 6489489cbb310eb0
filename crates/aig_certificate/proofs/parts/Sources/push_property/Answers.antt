use Rattle.std.proofs.Common.{◌≡◌, ℕ, ◌+◌, List, [], ◌∷◌, ◌++◌, length, ap, ◌∙◌, arith}
use Rattle.aig_parts.specs.Literal.{negation}
use Rattle.aig_certificate.specs.Strengthened.{chain, chain_end, claims}
use Rattle.aig_certificate.specs.state.Marks.{meanings_of}
use Rattle.aig_certificate.specs.state.Table.{literal_by}
use Rattle.aig_certificate.proofs.Assembled.{few_claims}
use Rattle.aig_certificate.proofs.parts.Sources.push_property.Goals as goal

pub push_chain-requires : goal.push_chain-requires
push_chain-requires c =
    let s = c.args.self.now in
    let few = few_claims s.model.now s.certificate.now (meanings_of s.shared) (literal_by s.translation.table) c.facts.ensures.formed in
    omega (arith, few, c.requires.few, ap length c.as_slice.ensures, ap length c.in_ok-claims.ensures)

pub overflow_cast-result : goal.overflow_cast-result
overflow_cast-result c =
    let s = c.args.self.now in
    let few = few_claims s.model.now s.certificate.now (meanings_of s.shared) (literal_by s.translation.table) c.facts.ensures.formed in
    omega (arith, few, c.len.ensures, ap length c.in_ok-claims.ensures)

pub returns-clause-property : goal.returns-clause-property
returns-clause-property c =
    let s = c.args.self.now in
    let b = c.args.bad in
    let few = few_claims s.model.now s.certificate.now (meanings_of s.shared) (literal_by s.translation.table) c.facts.ensures.formed in
    let bs : c.as_slice.result.now ≡ claims s.certificate.now (literal_by s.translation.table) =
    c.as_slice.ensures ∙ c.in_ok-claims.ensures in
    record {
      outputs = c.in_ok-outputs.ensures ∙ ap (λ (xs : List ℕ). b ∷ xs) (c.as_slice-2.ensures ∙ c.in_ok-claims.ensures);
      bad = c.in_ok-with_first.ensures ∙ ap (λ (l : ℕ). l ∷ []) (c.not-2.ensures
          ∙ ap negation (c.in_ok-good.ensures.end ∙ (λ i. chain_end (c.args.last + 1) (c.not.ensures i) (bs i))));
      count = c.len.ensures ∙ ap length c.in_ok-claims.ensures;
      few = omega (arith, few, c.len.ensures, ap length c.in_ok-claims.ensures);
    }

pub returns-clause-gates : goal.returns-clause-gates
returns-clause-gates c =
    let s = c.args.self.now in
    let bs : c.as_slice.result.now ≡ claims s.certificate.now (literal_by s.translation.table) =
    c.as_slice.ensures ∙ c.in_ok-claims.ensures in
    c.in_ok-good.ensures.gates ∙ (λ i. c.args.gates.now ++ chain (c.args.last + 1) (c.not.ensures i) (bs i))
