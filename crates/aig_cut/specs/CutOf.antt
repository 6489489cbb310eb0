-- The circuit that `aig cut` writes (our own choice).
-- Example: of a latch `4 2` that is free, in a circuit of two variables, it is the input 6 and the latch `4 6`.
use Rattle.std.specs.Prelude.{ℕ, ◌+◌, ◌*◌, Bool, true, false, List, [], ◌∷◌, ◌++◌, length}
use Rattle.aig_parts.specs.declared.gate.Gate.{Gate}
use Rattle.aig_parts.specs.declared.latch.Latch.{Latch}
use Rattle.aig_parts.specs.declared.raw.Raw.{Raw}
use Rattle.aig_cut.specs.Cuts.{Cuts}

-- one more if it is free
unfoldable pub one_more : Bool → ℕ → ℕ
one_more true n = n + 1
one_more false n = n

-- a literal in front if it is free
unfoldable pub in_front : Bool → ℕ → List ℕ → List ℕ
in_front true l ls = l ∷ ls
in_front false l ls = ls

unfoldable pub next_of : Bool → ℕ → Latch → ℕ
next_of true v x = 2 * v
next_of false v x = x.next

unfoldable pub reset_of : Bool → Latch → ℕ
reset_of true x = x.lit
reset_of false x = x.reset

abbrev pub cut_latch : Cuts → ℕ → Latch → Latch
cut_latch cuts v x =
    record { lit = x.lit; next = next_of (cuts.free x.lit) v x; reset = reset_of (cuts.starts x.lit) x }

-- the latches, and their new inputs, whose variables begin at v
unfoldable pub cut_latches : Cuts → ℕ → List Latch → List Latch
cut_latches cuts v [] = []
cut_latches cuts v (x ∷ xs) = cut_latch cuts v x ∷ cut_latches cuts (one_more (cuts.free x.lit) v) xs

unfoldable pub latch_inputs : Cuts → ℕ → List Latch → List ℕ
latch_inputs cuts v [] = []
latch_inputs cuts v (x ∷ xs) = in_front (cuts.free x.lit) (2 * v) (latch_inputs cuts (one_more (cuts.free x.lit) v) xs)

-- the gates, and their new inputs
unfoldable pub cut_gate : Bool → ℕ → Gate → Gate
cut_gate true v g = record { lhs = g.lhs; rhs0 = 2 * v; rhs1 = 1 }
cut_gate false v g = g

unfoldable pub cut_gates : Cuts → ℕ → List Gate → List Gate
cut_gates cuts v [] = []
cut_gates cuts v (g ∷ gs) = cut_gate (cuts.free g.lhs) v g ∷ cut_gates cuts (one_more (cuts.free g.lhs) v) gs

unfoldable pub gate_inputs : Cuts → ℕ → List Gate → List ℕ
gate_inputs cuts v [] = []
gate_inputs cuts v (g ∷ gs) = in_front (cuts.free g.lhs) (2 * v) (gate_inputs cuts (one_more (cuts.free g.lhs) v) gs)

-- the constraints, the first of which is at position p
unfoldable pub demanded : Bool → ℕ → ℕ
demanded true c = 1
demanded false c = c

unfoldable pub cut_constraints : Cuts → ℕ → List ℕ → List ℕ
cut_constraints cuts p [] = []
cut_constraints cuts p (c ∷ cs) = demanded (cuts.constraints p) c ∷ cut_constraints cuts (p + 1) cs

-- the new inputs: those of latches, then those of gates
abbrev pub new_inputs : Cuts → Raw → List ℕ
new_inputs cuts raw =
    let latches = latch_inputs cuts (raw.max_var + 1) raw.latches in
    latches ++ gate_inputs cuts (raw.max_var + 1 + length latches) raw.gates

-- the circuit that is cut: all else, and each place, stays
abbrev pub cut_of : Cuts → Raw → Raw
cut_of cuts raw =
    let v = raw.max_var + 1 in
    record raw {
      max_var = raw.max_var + length (new_inputs cuts raw);
      inputs = raw.inputs ++ new_inputs cuts raw;
      latches = cut_latches cuts v raw.latches;
      constraints = cut_constraints cuts 0 raw.constraints;
      gates = cut_gates cuts (v + length (latch_inputs cuts v raw.latches)) raw.gates;
    }
