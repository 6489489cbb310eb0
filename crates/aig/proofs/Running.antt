-- How a run ends, from how its parts do.
use Rattle.std.proofs.Common.{◌≡◌, ◌∙◌, ℕ, List, [], Result, Ok, Err, ap, refl, sym, subst}
use Rattle.std.specs.Prelude.{Option, IfErr, IfOk, map, String}
use Rattle.std.specs.Result.{IsErrAnd, IsOkAnd}
use Rattle.std.specs.Vec.Iter.{into_iter_items}
use Rattle.std.specs.declared.vec.IntoIter.{IntoIter}
use Rattle.aig_bytes.specs.Flow.{Flow}
use Rattle.aig_bytes.proofs.WriteLemmas.{after-nil}
use Rattle.aig_command.specs.Command.{Got}
use Rattle.aig_files.specs.declared.exit.Exit.{Exit}
use Rattle.aig_program.specs.Arguments.{IsUnparsed}
use Rattle.aig_program.specs.Ends.{Seen, seen}
use Rattle.aig.specs.Program.{Runs, unparsed, words_of}

-- the exit of what failed is one of those that it may fail with
pub exit_of : {T : Type 0} (found : Result T Exit) (exit : Exit) (P : Exit → Type 0) → Err exit ≡ found → IfErr found P → P exit
exit_of found exit P is fails = subst (λ r. IfErr r P) (sym is) fails

-- what was found has what all that is found has
pub value_of : {T : Type 0} (found : Result T Exit) (value : T) (P : T → Type 0) → Ok value ≡ found → IfOk found P → P value
value_of found value P is holds = subst (λ r. IfOk r P) (sym is) holds

-- a writer that is not called gets nothing
pub got_nothing : {X : Type 0} (written : X → Option (List ℕ)) (failures : X → ℕ) (x : X) → Got (seen written failures x x) []
got_nothing written failures x = record { got = sym (after-nil (written x)); count = refl }

-- a run whose arguments are not parsed ends with the exit that says so
pub ends_unparsed : {F : Type 0} (out : Flow Seen) (left : F → Option (List ℕ)) (words : List (List ℕ))
    (r : Result (Unit {0}) Exit) (exit : Exit) → Got out [] → IsUnparsed exit → IsErrAnd r (λ e. e ≡ exit)
    → Runs out left words r
ends_unparsed out left words (Ok done) exit none why is = absurd is
ends_unparsed out left words (Err e) exit none why is = unparsed e refl (subst IsUnparsed (sym is) why) none

-- the bytes of a list that has what the system gave
pub words_given : {A E : Type 0} (given : Result (IntoIter (String A) A) E) (items now : List (String A)) → now ≡ items
    → IsOkAnd given (λ args. items ≡ into_iter_items args) → map (λ word. word.bytes.items) now ≡ words_of given
words_given {A = A} (Ok args) items now is held = ap (map (λ (word : String A). word.bytes.items)) (is ∙ held)
words_given (Err error) items now is held = absurd held
