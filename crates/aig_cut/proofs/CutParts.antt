-- The parts of a cut circuit are formed, if they are within the limits.
use Rattle.std.proofs.Common.{◌≡◌, ◌⊎◌, inl, inr, ℕ, suc, ◌+◌, ◌<◌, ◌≤◌, List, [], ◌∷◌, ◌++◌, length, All, refl, ap, arith}
use Rattle.std.proofs.Common.{length-append}
use Rattle.std.proofs.lemmas.List.Elements.{All-weaker}
use Rattle.aig_parts.specs.declared.gate.Gate.{Gate}
use Rattle.aig_parts.specs.declared.raw.Raw.{Raw}
use Rattle.aig_parts.specs.declared.symbols.Kind.{Kind}
use Rattle.aig_parts.specs.declared.symbols.Kind.TheVariants as kinds
use Rattle.aig_parts.specs.Formed.{IsFormed, IsSymbolOf, limit, section_length}
use Rattle.aig_parts.specs.SymbolPlaces.{Key}
use Rattle.aig_cut.specs.Cuts.{Cuts}
use Rattle.aig_cut.specs.CutOf.{one_more, cut_latches, cut_gates, cut_constraints, cut_of, latch_inputs, new_inputs}
use Rattle.aig_cut.specs.Lines.{IsOverLimit}
use Rattle.aig_cut.proofs.CutsAre.{latches_many}

pub gates_many : (cuts : Cuts) (v : ℕ) (gs : List Gate) → length (cut_gates cuts v gs) ≡ length gs
unfolding cut_gates
gates_many cuts v [] = refl
gates_many cuts v (g ∷ gs) = ap suc (gates_many cuts (one_more (cuts.free g.lhs) v) gs)

constraints_many : (cuts : Cuts) (p : ℕ) (cs : List ℕ) → length (cut_constraints cuts p cs) ≡ length cs
unfolding cut_constraints
constraints_many cuts p [] = refl
constraints_many cuts p (c ∷ cs) = ap suc (constraints_many cuts (p + 1) cs)

module _ (cuts : Cuts) (raw : Raw) where
  abbrev v : ℕ
  v = raw.max_var + 1

  more_entries : (k : Kind) → section_length raw k ≤ section_length (cut_of cuts raw) k
  more_entries kinds.Input = let all = length-append raw.inputs (new_inputs cuts raw) in omega (arith, all)
  more_entries kinds.Latch = let same = latches_many cuts v raw.latches in omega (arith, same)
  more_entries kinds.Output = omega arith
  more_entries kinds.Bad = omega arith
  more_entries kinds.Constraint = let same = constraints_many cuts 0 raw.constraints in omega (arith, same)
  more_entries kinds.Justice = omega arith
  more_entries kinds.Fairness = omega arith

  still_symbol : (s : Key × List ℕ) → IsSymbolOf raw s → IsSymbolOf (cut_of cuts raw) s
  still_symbol s (there, name) = (omega (arith, there, more_entries s.0.0), name)

  pub cut_formed : IsFormed raw → (IsOverLimit (cut_of cuts raw) → ⊥) → IsFormed (cut_of cuts raw)
  cut_formed f within = record {
    counts = record {
      max_var = at_most (cut_of cuts raw).max_var (λ over. within (inl over));
      inputs = at_most (length (cut_of cuts raw).inputs) (λ over. within (inr over));
      latches = let same = latches_many cuts v raw.latches in let few = f.counts.latches in omega (arith, same, few);
      outputs = f.counts.outputs;
      bad = f.counts.bad;
      constraints = let same = constraints_many cuts 0 raw.constraints in let few = f.counts.constraints in omega (arith, same, few);
      justice = f.counts.justice;
      fairness = f.counts.fairness;
      gates = let same = gates_many cuts (v + length (latch_inputs cuts v raw.latches)) raw.gates in let few = f.counts.gates in omega (arith, same, few);
      justice_literals = f.counts.justice_literals;
    };
    symbols = All-weaker (IsSymbolOf raw) (IsSymbolOf (cut_of cuts raw)) still_symbol raw.symbols f.symbols;
    names = f.names;
  }
    where
      at_most : (n : ℕ) → (limit < n → ⊥) → n ≤ limit
      at_most n within = elim (cases n) [ inl le ↦ le | inr more ↦ absurd (within more) ]
        where
          cases : (m : ℕ) → (m ≤ limit) ⊎ (limit < m)
          cases m = grind arith
