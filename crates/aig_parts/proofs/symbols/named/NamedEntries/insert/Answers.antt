use Rattle.std.proofs.Common.{◌≡◌, inl, inr, ℕ, List, [], Ok, Err, true, false, length, get_or, refl, sym, ap, subst, ◌∙◌, arith, ◌<◌}
use Rattle.std.proofs.lemmas.Bool.{true≢false}
use Rattle.aig_bytes.proofs.Results.{on_err}
use Rattle.aig_parts.specs.SymbolPlaces.{Key}
use Rattle.aig_parts.specs.state.NamedEntries.{IsMarkedEntry}
use Rattle.aig_parts.proofs.NamedLemmas.{same_marks, mark_read, set_page, unset_page}
use Rattle.aig_parts.proofs.symbols.named.NamedEntries.insert.Goals as goal

pub returns-in_err-make_pages-clause-err : goal.returns-in_err-make_pages-clause-err
returns-in_err-make_pages-clause-err c =
    on_err c.from_residual.result (same_marks c.make_pages.new.self c.args.self.now c.in_err-make_pages.ensures.same)

pub returns-then-contains-clause-ok : goal.returns-then-contains-clause-ok
returns-then-contains-clause-ok c = λ j.
    let key : Key = (c.args.kind, c.args.position) in
    let pages = c.self.inside.pages.items in
    let inside : c.page_of-page.result < length pages =
    omega (arith, c.in_ok-make_pages.ensures.room, ap (length {A = List ℕ}) c.self.view_is) in
    let read = mark_read pages key c.page_of-page.result c.index.result.now c.page_of-page.ensures.page inside c.index.ensures in
    let here : IsMarkedEntry c.make_pages.new.self key =
    subst (λ (ps : List (List ℕ)). IsMarkedEntry ps key) c.self.view_is (read.0 (c.if-contains.ensures.0 refl)) in
    let same = same_marks c.make_pages.new.self c.args.self.now c.in_ok-make_pages.ensures.same j in (
      λ h. inl (same.0 h),
      λ h. elim h [
        | inl m ↦ same.1 m
        | inr i ↦ subst (λ (k : Key). IsMarkedEntry c.make_pages.new.self k) (sym i) here
      ],
    )

pub returns-then-contains-clause-had : goal.returns-then-contains-clause-had
returns-then-contains-clause-had c =
    let key : Key = (c.args.kind, c.args.position) in
    let pages = c.self.inside.pages.items in
    let inside : c.page_of-page.result < length pages =
    omega (arith, c.in_ok-make_pages.ensures.room, ap (length {A = List ℕ}) c.self.view_is) in
    let read = mark_read pages key c.page_of-page.result c.index.result.now c.page_of-page.ensures.page inside c.index.ensures in
    let same = same_marks pages c.args.self.now
    (λ p. ap (λ (ps : List (List ℕ)). get_or ps p []) c.self.view_is ∙ c.in_ok-make_pages.ensures.same p) key in
    (λ e. same.0 (read.0 (c.if-contains.ensures.0 refl)), λ h. refl)

pub returns-in_err-insert-clause-err : goal.returns-in_err-insert-clause-err
returns-in_err-insert-clause-err c =
    let inside : c.page_of-page.result < length c.self.inside.pages.items =
    omega (arith, c.in_ok-make_pages.ensures.room, ap (length {A = List ℕ}) c.self.view_is) in
    on_err c.from_residual-in_err-insert.result
    (unset_page {E = Unit {0}} c.args.self.now c.self.inside.pages.items (c.args.kind, c.args.position) c.page_of-page.result
    c.index_mut.result.now c.insert.new.self (Err tt) c.page_of-page.ensures.page
    (λ p. ap (λ (ps : List (List ℕ)). get_or ps p []) c.self.view_is ∙ c.in_ok-make_pages.ensures.same p)
    inside c.index_mut.ensures.value c.in_err-insert.ensures.err)

pub returns-clause-ok : goal.returns-clause-ok
returns-clause-ok c =
    let inside : c.page_of-page.result < length c.self.inside.pages.items =
    omega (arith, c.in_ok-make_pages.ensures.room, ap (length {A = List ℕ}) c.self.view_is) in
    set_page {E = Unit {0}} c.args.self.now c.self.inside.pages.items (c.args.kind, c.args.position) c.page_of-page.result
    c.index_mut.result.now c.insert.new.self (Ok tt) c.page_of-page.ensures.page
    (λ p. ap (λ (ps : List (List ℕ)). get_or ps p []) c.self.view_is ∙ c.in_ok-make_pages.ensures.same p)
    inside c.index_mut.ensures.value c.in_ok-insert.ensures.ok

pub returns-clause-had : goal.returns-clause-had
returns-clause-had c =
    let key : Key = (c.args.kind, c.args.position) in
    let pages = c.self.inside.pages.items in
    let inside : c.page_of-page.result < length pages =
    omega (arith, c.in_ok-make_pages.ensures.room, ap (length {A = List ℕ}) c.self.view_is) in
    let read = mark_read pages key c.page_of-page.result c.index.result.now c.page_of-page.ensures.page inside c.index.ensures in
    let same = same_marks pages c.args.self.now
    (λ p. ap (λ (ps : List (List ℕ)). get_or ps p []) c.self.view_is ∙ c.in_ok-make_pages.ensures.same p) key in
    (λ e. absurd (true≢false e), λ h. let e : false ≡ true = c.if-contains.ensures.1 (read.1 (same.1 h)) in absurd cc)
