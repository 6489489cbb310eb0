use Rattle.std.proofs.Common.{ℕ, length, get_or, ◌-◌, ◌≡◌, ◌≤◌, ◌+◌, arith, subst}
use Rattle.aig_sat.specs.checker.Entries.{ids}
use Rattle.aig_sat.proofs.checking.IdLemmas.{gap_to, id_read, many}
use Rattle.aig_sat.proofs.checker.ids.Ids.last.Goals as goal

pub returns : goal.returns
returns c = λ k inside.
    let entries = c.args.self.now.entries.items in
    let long : length (ids entries) ≡ length entries = many entries in
    let last : c.index.result.now.id ≡ get_or (ids entries) (length entries - 1) 0 =
    id_read entries (length entries - 1) c.index.result.now (omega (arith, long, inside))
    (subst (λ (n : ℕ). c.index.result.now ≡ get_or entries (n - 1) c.index.result.now)
    (omega (arith, c.len-2.ensures, c.args.self.now.entries.ok.0)) c.index.ensures) in
    let far : get_or (ids entries) k 0 + (length entries - 1 - k) ≤ get_or (ids entries) (length entries - 1) 0 =
    gap_to (ids entries) c.args.self.now.ascends k (length entries - 1) (omega (arith, long, inside)) (omega (arith, long, inside)) in
    omega (arith, far, last)
