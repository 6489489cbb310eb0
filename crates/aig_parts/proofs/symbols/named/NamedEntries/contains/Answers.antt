use Rattle.std.proofs.Common.{length, arith, ◌≤◌, ◌<◌}
use Rattle.std.proofs.lemmas.Bool.Decides.{nat_tests}
use Rattle.aig_parts.specs.state.NamedEntries.{page_of}
use Rattle.aig_parts.proofs.NamedLemmas.{no_page, mark_read}
use Rattle.aig_parts.proofs.symbols.named.NamedEntries.contains.Goals as goal

pub returns-then-page-len : goal.returns-then-page-len
returns-then-page-len c =
    let inside : c.page_of-page.result < length c.self.inside.pages.items = omega arith in
    let read = mark_read c.self.inside.pages.items (c.args.kind, c.args.position) c.page_of-page.result c.index.result.now
    c.page_of-page.ensures.page inside c.index.ensures in
    rw (← c.self.view_is) (λ h. read.0 (c.contains.ensures.0 h), λ h. c.contains.ensures.1 (read.1 h))

pub returns-else-page-len : goal.returns-else-page-len
returns-else-page-len c =
    let over : length c.self.inside.pages.items ≤ page_of (c.args.kind, c.args.position) =
    omega (arith, c.page_of-page.ensures.page) in
    rw (← c.self.view_is) (
      λ h. absurd (grind (arith, nat_tests)),
      λ h. absurd (no_page c.self.inside.pages.items (c.args.kind, c.args.position) over h),
    )
