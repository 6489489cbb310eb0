use Rattle.std.proofs.Common.{◌≡◌, ℕ, List, ◌∷◌, ◌++◌, length, map, take, drop, sym, ap, ◌∙◌, arith}
use Rattle.std.proofs.Math.Seq.{take-append_seam}
use Rattle.aig_parts.specs.declared.ternary.Tern.{Tern}
use Rattle.aig_values.specs.Characters.{character}
use Rattle.aig_sim.proofs.witness.read_start.Goals as goal

pub returns-clause-read : goal.returns-clause-read
returns-clause-read c =
    let new = c.read_values-rest.new.values in
    let items = c.in_ok-start.start.items in
    let len : c.in_ok-start.start.len ≡ length new = omega arith in
    let same : take c.in_ok-start.start.len (new ++ drop (length new) items) ≡ new =
    ap (λ (n : ℕ). take n (new ++ drop (length new) items)) len ∙ take-append_seam new (drop (length new) items) in
    (c.read_values-rest.result.now, c.read_values-rest.ensures ∙ ap (λ (v : List Tern). map character v ++ (10 ∷ c.read_values-rest.result.now)) (sym same))
