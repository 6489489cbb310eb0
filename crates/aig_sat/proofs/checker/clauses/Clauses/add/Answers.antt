use Rattle.std.proofs.Common.{◌≡◌, List, ℕ, ◌+◌, ◌<◌, length, get_or, sym, ap, subst, ◌∙◌, arith}
use Rattle.aig_parts.specs.Literal.{variable}
use Rattle.aig_sat.specs.checker.Words.{IsAdded, IsLast, MeetsAll}
use Rattle.aig_sat.proofs.checking.PutLemmas.{put_added, put_last, stand_keeps}
use Rattle.aig_sat.proofs.checker.clauses.Clauses.add.Goals as goal

pub stand-requires : goal.stand-requires
stand-requires c =
    let place_is : c.len-place.result ≡ length c.args.self.now.words.items = omega (arith, c.len-place.ensures, c.args.self.now.words.ok.0) in
    record {
      size = omega (arith, c.if-not-has_room.ensures.room);
      last = subst (λ (n : ℕ). IsLast c.put.new.self.words.items n (length c.args.literals.now)) (sym place_is)
          (put_last _ _ _ c.args.self.now.laid_out c.in_ok-put.ensures.ok);
      begun = λ x.
          let same : get_or c.put.new.self.starts.items x 0 ≡ get_or c.args.self.now.starts.items x 0 =
          ap (λ xs. get_or xs x 0) c.in_ok-put.ensures.starts in
          omega (arith, same, c.args.self.now.begins.within x, place_is);
      unlisted = omega (arith, c.in_ok-put.ensures.listed, c.args.self.now.within, place_is);
      named = λ k inside.
          let at : get_or c.put.new.self.words.items (c.len-place.result + (3 + k)) 0 ≡ get_or c.args.literals.now k 0 =
          ap (λ n. get_or c.put.new.self.words.items (n + (3 + k)) 0) place_is ∙ c.in_ok-put.ensures.ok.items k inside in
          let name : variable (get_or c.put.new.self.words.items (c.len-place.result + (3 + k)) 0)
          ≡ variable (get_or c.args.literals.now k 0) = ap variable at in
          omega (arith, name, c.above-self.ensures.all k inside, c.in_ok-put.ensures.named);
    }

pub returns-clause-met : goal.returns-clause-met
returns-clause-met c = λ values meets_it met.
    let words = c.put.new.self.words.items in
    let literals = c.args.literals.now in
    let place_is : c.len-place.result ≡ length c.args.self.now.words.items = omega (arith, c.len-place.ensures, c.args.self.now.words.ok.0) in
    let put = c.in_ok-put.ensures.ok in
    let last : IsLast words c.len-place.result (length literals) =
    subst (λ (n : ℕ). IsLast words n (length literals)) (sym place_is) (put_last _ _ _ c.args.self.now.laid_out put) in
    let items : (k : ℕ) → k < length literals → get_or words (c.len-place.result + (3 + k)) 0 ≡ get_or literals k 0 =
    subst (λ (n : ℕ). (k : ℕ) → k < length literals → get_or words (n + (3 + k)) 0 ≡ get_or literals k 0) (sym place_is) put.items in
    subst (MeetsAll values) (sym c.stand.ensures)
    (stand_keeps words literals c.len-place.result last items values meets_it (c.in_ok-put.ensures.met values met))

pub returns-clause-added : goal.returns-clause-added
returns-clause-added c =
    subst (λ (x : List ℕ). IsAdded c.args.self.now.words.items c.args.next c.args.literals.now x c.len-place.result)
    (sym c.stand.ensures)
    (put_added _ _ _ c.args.next _ (omega (arith, c.len-place.ensures, c.args.self.now.words.ok.0)) c.in_ok-put.ensures.ok
    c.in_ok-put.ensures.number)
