-- A step of a machine: a frame's values, and the states after it.
use Rattle.std.proofs.Common.{◌≡◌, ℕ, suc, List, [], ◌∷◌, ◌++◌, length, map, sym, subst, add-one}
use Rattle.aig_parts.specs.declared.ternary.Tern.{Tern}
use Rattle.aig_parts.specs.declared.raw.Raw.{Raw}
use Rattle.aig_base.specs.Sound.{IsSound}
use Rattle.aig_values.specs.Cells.{literal_value}
use Rattle.aig_values.specs.state.Frame.{HoldsAll, AreStates}
use Rattle.aig_sim.specs.state.Machine.{Steps}
use Rattle.aig_values.proofs.TraceLemmas.{next_states}

-- a frame's values, and the states after it
pub steps : (raw : Raw) (start : List Tern) (rows : List (List Tern)) (row states' cells : List Tern) → IsSound raw
    → HoldsAll raw start (rows ++ row ∷ []) (length rows) cells
    → states' ≡ map (λ x. literal_value cells x.next) raw.latches → Steps raw start rows row cells states'
steps raw start rows row states' cells sound all next =
    let t = length rows in
    let rows' = rows ++ row ∷ [] in
    record {
      cells_are = all;
      states_are = subst (λ (n : ℕ). AreStates raw start rows' n states') (sym (add-one t))
          (subst (λ (s : List Tern). AreStates raw start rows' (suc t) s) (sym next)
          (next_states raw start rows' t sound cells all));
    }
