use Rattle.std.proofs.Common.{◌≡◌, ℕ, ◌<◌, List, length, get_or, set, sym, ap, subst, ◌∙◌, arith}
use Rattle.std.proofs.lemmas.List.{get_or_default, length-set}
use Rattle.std.proofs.lemmas.List.Elements.{All-get_or}
use Rattle.aig_parts.specs.Literal.{variable}
use Rattle.aig_base.specs.RenumberingTable.{IsInTable}
use Rattle.aig_base.specs.Sound.{IsDefinition}
use Rattle.aig_certificate.proofs.Entered.{constant_stays, enter_more}
use Rattle.aig_certificate.proofs.translation.enter.Goals as goal

pub loop-place-preserved : goal.loop-place-preserved
loop-place-preserved c =
    let v = c.loop-place.invariant in
    let literals = c.args.literals.now in
    let values = c.args.values.now in
    let table = c.loop-place.table in
    let i = c.loop-place.place in
    let l = c.index-literals-place.result in
    let x = c.index-values-place.result in
    let lt = c.loop-place-test.true in
    let is : l ≡ get_or literals i 0 = c.index-literals-place.is ∙ get_or_default literals i l 0 lt in
    let below : i < length values = omega (arith, lt, c.requires.values) in
    let at : x ≡ get_or values i 0 = c.index-values-place.is ∙ get_or_default values i x 0 below in
    let listed : variable (get_or literals i 0) < length c.args.table.now =
    All-get_or (IsInTable c.args.table.now) literals i 0 lt c.requires.listed in
    let there : variable l < length table = subst (λ n. variable n < length table) (sym is) (omega (arith, listed, v.size)) in
    let defined : IsDefinition l = subst IsDefinition (sym is) (All-get_or IsDefinition literals i 0 lt c.requires.definitions) in
    let made : c.set.new.self ≡ set table (variable l) x = c.set.ensures ∙ ap (λ (n : ℕ). set table n x) c.var.ensures in
    record {
      size = ap length made ∙ length-set table (variable l) x ∙ v.size;
      constant = ap (λ (t : List ℕ). get_or t 0 0) made ∙ constant_stays table l x defined ∙ v.constant;
      entered = λ k low.
          ap (λ (t : List ℕ). get_or t (variable (get_or literals k 0)) 0) made
          ∙ enter_more table literals values i l x c.requires.once lt is at there v.entered k low;
    }
