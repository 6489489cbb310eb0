use Rattle.std.proofs.Common.{◌≡◌, ℕ, List, [], ◌∷◌, ◌++◌, subst, arith}
use Rattle.aig_signals.specs.Property.{IsPosition, NamesOf}
use Rattle.aig_command.specs.Position.{IsPositionIn}
use Rattle.aig_program.proofs.TextPositions.{first_all, first_more, pushed}
use Rattle.aig_program.proofs.chosen.properties.positions_in.Goals as goal

pub loop-text-preserved : goal.loop-text-preserved
loop-text-preserved c =
    let old = c.loop-text.positions.items in
    let position = c.in_ok-position.position in
    let items : c.push.new.self.items ≡ old ++ position ∷ [] =
    pushed _ _ _ _ _ c.push.ensures.items c.is_err.ensures.negation c.if-is_err.false in
    let found : IsPositionIn c.args.file.now c.args.section c.as_bytes.result.now position = (
      c.in_ok-circuit.circuit,
      c.in_ok-circuit.ensures.circuit,
      subst (λ (names : NamesOf). IsPosition names.circuit names.section c.as_bytes.result.now position) c.in_ok-names.ensures
          c.in_ok-position.ensures.position,
    ) in
    let named = subst (λ (text : List ℕ). IsPositionIn c.args.file.now c.args.section text position) c.as_bytes.ensures.value
    found in
    rw items (first_more (λ text. text.now) (IsPositionIn c.args.file.now c.args.section) c.args.texts.now old
    c.loop-text.text-index position _ c.loop-text-test.true named c.loop-text.invariant)

pub returns : goal.returns
returns c = record {
  named =
      first_all (λ text. text.now) (IsPositionIn c.args.file.now c.args.section) c.args.texts.now c.loop-text.positions.items
      c.loop-text.text-index (omega (arith, c.loop-text-test.false, c.loop-text.auto.text-index-end)) c.loop-text.invariant;
}
