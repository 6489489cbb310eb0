use Rattle.std.proofs.Common.{◌≡◌, Bool, true, false, cond, List, ℕ, ◌++◌, ◌%◌, ◌≤◌, length, arith, subst}
use Rattle.std.proofs.Common.{sym}
use Rattle.aig_sat.specs.checker.Listing.{ListsAll}
use Rattle.aig_sat.specs.checker.Words.{AreLiterals, Begins, IsLaidOut}
use Rattle.aig_sat.proofs.checking.ListingLemmas.{append_lists, appended_lists, appended_within}
use Rattle.aig_sat.proofs.checking.PutLemmas.{append_laid_out, three_small}
use Rattle.aig_sat.proofs.checking.StartLemmas.{append_begins, appended_begins}
use Rattle.aig_sat.proofs.checker.clauses.Clauses.put.Goals as goal

either : (b : Bool) (words tail new : List ℕ) → IsLaidOut words → AreLiterals tail → new ≡ cond b (words ++ tail) words
    → IsLaidOut new
either true words tail new laid small e = subst IsLaidOut (sym e) (append_laid_out words tail laid small)
either false words tail new laid small e = subst IsLaidOut (sym e) laid

pub invariant_of-self-2 : goal.invariant_of-self-2
invariant_of-self-2 c =
    let a = c.args.next % 0x8000_0000 in
    let laid : IsLaidOut c.extend_from_slice.new.self.items =
    subst IsLaidOut (sym c.in_ok-extend_from_slice.ensures.items)
    (append_laid_out _ _ c.args.self.now.laid_out (three_small a (omega arith))) in
    let begun : Begins c.args.self.now.starts.items c.args.self.now.named c.extend_from_slice.new.self.items =
    subst (Begins c.args.self.now.starts.items c.args.self.now.named) (sym c.in_ok-extend_from_slice.ensures.items)
    (append_begins _ _ _ _ c.args.self.now.laid_out (three_small a (omega arith)) c.args.self.now.begins) in
    let listed : ListsAll c.args.self.now.places.heads.items c.args.self.now.places.links.items
    c.extend_from_slice.new.self.items c.args.self.now.listed =
    subst (λ (xs : List ℕ). ListsAll c.args.self.now.places.heads.items c.args.self.now.places.links.items xs c.args.self.now.listed)
    (sym c.in_ok-extend_from_slice.ensures.items)
    (append_lists _ _ _ _ _ c.args.self.now.laid_out (three_small a (omega arith)) c.args.self.now.lists) in
    let inside : c.args.self.now.listed ≤ length c.extend_from_slice.new.self.items =
    appended_within true _ _ _ _ c.in_ok-extend_from_slice.ensures.items c.args.self.now.within in
    record {
      laid_out = either _ _ c.args.literals.now _ laid c.requires c.extend_from_slice-2.ensures.items;
      begins = appended_begins _ _ _ _ c.args.literals.now _ laid c.requires c.extend_from_slice-2.ensures.items begun;
      lists = appended_lists _ _ _ _ c.args.literals.now _ _ laid c.requires c.extend_from_slice-2.ensures.items listed;
      within = appended_within _ _ c.args.literals.now _ _ c.extend_from_slice-2.ensures.items inside;
    }
