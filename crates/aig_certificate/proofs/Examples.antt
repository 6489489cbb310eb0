-- The strengthened circuit of a small example: a ring of three latches, and a certificate of two claims about them.
use Rattle.std.proofs.Common.{◌≡◌, ℕ, List, [], ◌∷◌, codes, Some, None, refl}
use Rattle.aig_parts.specs.declared.gate.Gate.{Gate}
use Rattle.aig_parts.specs.declared.latch.Latch.{Latch}
use Rattle.aig_parts.specs.declared.raw.Raw.{Raw}
use Rattle.aig_parts.specs.declared.symbols.Kind.TheVariants.{Input}
use Rattle.aig_certificate.specs.Shared.{Meanings}
use Rattle.aig_certificate.specs.Strengthened.{chain, chain_end, own, strengthened}
use Rattle.aig_certificate.specs.state.Table.{all_meanings, literal_by, values_from}

gate : ℕ → ℕ → ℕ → Gate
gate l a b = record { lhs = l; rhs0 = a; rhs1 = b }

latch : ℕ → ℕ → ℕ → Latch
latch l next reset = record { lit = l; next = next; reset = reset }

-- the first latch starts at 1; the bad state is that the first two are 1
ring : Raw
ring = record {
  max_var = 4;
  inputs = [];
  latches = latch 2 6 1 ∷ (latch 4 2 0 ∷ (latch 6 4 0 ∷ []));
  outputs = [];
  bad = 8 ∷ [];
  constraints = [];
  justice = [];
  fairness = [];
  gates = gate 8 4 2 ∷ [];
  symbols = [];
  comment = None;
}

-- its inputs are the ring's latches; no other two of them are 1 either
certificate : Raw
certificate = record {
  max_var = 5;
  inputs = 2 ∷ (4 ∷ (6 ∷ []));
  latches = [];
  outputs = [];
  bad = 8 ∷ (10 ∷ []);
  constraints = [];
  justice = [];
  fairness = [];
  gates = gate 8 6 2 ∷ (gate 10 6 4 ∷ []);
  symbols = ((Input, 0), codes "= 2") ∷ (((Input, 1), codes "= 4") ∷ (((Input, 2), codes "= 6") ∷ []));
  comment = None;
}

meanings : Meanings
meanings = record { inputs = Some 2 ∷ (Some 4 ∷ (Some 6 ∷ [])); latches = [] }

-- what the certificate's variables 0 to 5 are
table : List ℕ
table = 0 ∷ (2 ∷ (4 ∷ (6 ∷ (10 ∷ (12 ∷ [])))))

values : values_from 5 (all_meanings meanings certificate) ≡ 2 ∷ (4 ∷ (6 ∷ (10 ∷ (12 ∷ []))))
unfolding meanings certificate values_from gate
values = refl

-- aag 8 0 3 3 5 1
strengthened_ring : strengthened ring 0 8 certificate meanings (literal_by table) ≡ record {
  max_var = 8;
  inputs = [];
  latches = latch 2 6 1 ∷ (latch 4 2 0 ∷ (latch 6 4 0 ∷ []));
  outputs = 8 ∷ (10 ∷ (12 ∷ []));
  bad = 17 ∷ [];
  constraints = [];
  justice = [];
  fairness = [];
  gates = gate 8 4 2 ∷ (gate 10 6 2 ∷ (gate 12 6 4 ∷ (gate 14 11 9 ∷ (gate 16 14 13 ∷ []))));
  symbols = [];
  comment = None;
}
unfolding ring certificate meanings table gate latch literal_by own chain chain_end
strengthened_ring = refl
