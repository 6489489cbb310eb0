use Rattle.std.proofs.Common.{List, ℕ, [], ◌∷◌, ◌++◌, Option, get_or, refl, sym, ap, ◌∙◌, arith, append_assoc}
use Rattle.std.proofs.lemmas.List.Elements.{Contains-get_or}
use Rattle.std.proofs.lemmas.List.Folds.{flat_map-map}
use Rattle.std.specs.Prelude.{filter}
use Rattle.aig_parts.specs.declared.ternary.Tern.{Tern}
use Rattle.aig_signals.specs.Json.{comma_before, section_objects, signal_object, signal_with}
use Rattle.aig_signals.specs.Naming.{is_named}
use Rattle.aig_signals.proofs.NamingLemmas.{number_within, signal_within, words_start, words_skipped, words_written}
use Rattle.aig_signals.proofs.NamingLemmas.{words_done}
use Rattle.aig_signals.proofs.naming.objects.push_objects_of.Goals as goal

pub loop-place-init : goal.loop-place-init
loop-place-init c =
    words_start (λ s. 44 ∷ signal_object c.args.values.now s) c.args.signals.now c.args.values.now c.args.named.now c.args.text.now.items

pub signal_at-signal-requires : goal.signal_at-signal-requires
signal_at-signal-requires c =
    number_within c.args.signals.now c.args.values.now c.args.named.now c.requires.neighbours c.requires.named
    (get_or c.args.named.now c.loop-place.place 0) (Contains-get_or c.args.named.now c.loop-place.place 0 c.loop-place-test.true)

pub bits_of-requires-clause-order : goal.bits_of-requires-clause-order
bits_of-requires-clause-order c =
    (signal_within c.args.signals.now c.args.values.now _ c.signal_at-signal.result.now c.requires.neighbours c.signal_at-signal.ensures).0

pub bits_of-requires-clause-end : goal.bits_of-requires-clause-end
bits_of-requires-clause-end c =
    (signal_within c.args.signals.now c.args.values.now _ c.signal_at-signal.result.now c.requires.neighbours c.signal_at-signal.ensures).1

pub loop-place-preserved-then-is_repeated : goal.loop-place-preserved-then-is_repeated
loop-place-preserved-then-is_repeated c =
    words_skipped c.args.signals.now c.args.values.now c.args.named.now c.requires.neighbours c.requires.named c.requires.sorted
    (λ s. 44 ∷ signal_object c.args.values.now s) c.args.text.now.items c.loop-place.place c.loop-place.text.items
    c.loop-place.invariant (sym c.is_repeated.ensures ∙ c.if-is_repeated.true)

pub loop-place-preserved : goal.loop-place-preserved
loop-place-preserved c =
    let s = c.signal_at-signal.result.now in
    let word = signal_object c.args.values.now s in
    words_written c.args.signals.now c.args.values.now c.args.named.now c.requires.neighbours c.requires.named c.requires.sorted
    (λ s. 44 ∷ signal_object c.args.values.now s) c.args.text.now.items c.loop-place.place c.loop-place.text.items
    c.loop-place.invariant s (get_or c.args.named.now c.loop-place.place 0) _ c.loop-place-test.true refl
    (sym c.is_repeated.ensures ∙ c.if-is_repeated.false) c.signal_at-signal.ensures
    (c.in_ok-push_signal.ensures
    ∙ ap (λ (bits : List (Option Tern)). c.push.new.self.items ++ signal_with bits s) c.bits_of.ensures
    ∙ ap (λ (xs : List ℕ). xs ++ word) c.in_ok-push.ensures.items ∙ append_assoc c.loop-place.text.items (44 ∷ []) word)

pub returns : goal.returns
unfolding section_objects
returns c =
    words_done c.args.signals.now c.args.values.now c.args.named.now c.requires.neighbours c.requires.named c.requires.sorted
    (λ s. 44 ∷ signal_object c.args.values.now s) c.args.text.now.items c.loop-place.place c.loop-place.text.items
    c.loop-place.invariant (omega (arith, c.loop-place-test.false, c.loop-place.auto.place-end))
    ∙ ap (λ (xs : List ℕ). c.args.text.now.items ++ xs)
    (sym (flat_map-map comma_before (signal_object c.args.values.now) (filter (is_named c.args.values.now) c.args.signals.now)))
