use Rattle.std.proofs.Common.{◌≡◌, ◌≤◌, ℕ, List, [], get_or, subst, sym, arith}
use Rattle.std.proofs.lemmas.List.{get_or_read, take_all}
use Rattle.std.proofs.lemmas.List.Elements.{All-get_or}
use Rattle.aig_parts.specs.Literal.{variable}
use Rattle.aig_base.specs.Sections.{IsDefined}
use Rattle.aig_causes.specs.Causes.{Has, moment}
use Rattle.aig_why.specs.Lines.{AreBits}
use Rattle.aig_why.proofs.NamingLemmas.{bits_more}
use Rattle.aig_why.proofs.lines.values.values_of.Goals as goal

pub loop-literal-init : goal.loop-literal-init
loop-literal-init g c =
    subst (AreBits c.args.bench.now.pair.circuit (moment c.args.bench.now.pair c.args.frame) []) (sym c.new-values.ensures.items) tt

pub value_at-requires-clause-range : goal.value_at-requires-clause-range
value_at-requires-clause-range g c =
    let literals = c.args.literals.now in
    let place = c.loop-literal.literal-index in
    let same : c.literal-item.result ≡ get_or literals place 0 =
    get_or_read literals place c.literal-item.result c.loop-literal-test.true c.literal-item.is 0 in
    let within : variable c.literal-item.result ≤ c.args.bench.now.pair.circuit.max_var =
    subst (λ (l : ℕ). variable l ≤ c.args.bench.now.pair.circuit.max_var) (sym same)
    (All-get_or (λ l. variable l ≤ c.args.bench.now.pair.circuit.max_var) literals place 0 c.loop-literal-test.true
    c.requires.range) in
    omega (arith, within)

pub value_at-requires-clause-defined : goal.value_at-requires-clause-defined
value_at-requires-clause-defined g c =
    let literals = c.args.literals.now in
    let place = c.loop-literal.literal-index in
    let same : c.literal-item.result ≡ get_or literals place 0 =
    get_or_read literals place c.literal-item.result c.loop-literal-test.true c.literal-item.is 0 in
    subst (λ (l : ℕ). IsDefined c.args.bench.now.pair.circuit (variable l)) (sym same)
    (All-get_or (λ l. IsDefined c.args.bench.now.pair.circuit (variable l)) literals place 0 c.loop-literal-test.true
    c.requires.defined)

pub loop-literal-preserved : goal.loop-literal-preserved
loop-literal-preserved g c =
    let literals = c.args.literals.now in
    let place = c.loop-literal.literal-index in
    let m = moment c.args.bench.now.pair c.args.frame in
    let same : c.literal-item.result ≡ get_or literals place 0 =
    get_or_read literals place c.literal-item.result c.loop-literal-test.true c.literal-item.is 0 in
    bits_more c.args.bench.now.pair.circuit m literals c.loop-literal.values.items _ place c.value_at.result
    c.loop-literal-test.true c.loop-literal.invariant
    (subst (λ (l : ℕ). Has c.args.bench.now.pair.circuit m l c.value_at.result) same c.value_at.ensures)
    c.in_ok-push.ensures.items

pub returns : goal.returns
returns g c =
    subst (λ (ls : List ℕ). AreBits c.args.bench.now.pair.circuit (moment c.args.bench.now.pair c.args.frame) ls
    c.loop-literal.values.items)
    (take_all c.loop-literal.literal-index c.args.literals.now (omega (arith, c.loop-literal-test.false)))
    c.loop-literal.invariant
