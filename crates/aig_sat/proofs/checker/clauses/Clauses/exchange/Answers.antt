use Rattle.std.proofs.Common.{◌≡◌, ◌+◌, ◌<◌, arith}
use Rattle.std.proofs.lemmas.List.{get_or_read}
use Rattle.aig_sat.specs.checker.Words.{size_at}
use Rattle.aig_sat.proofs.checking.WordLemmas.{exchanged_shrinks}
use Rattle.aig_sat.proofs.checker.clauses.Clauses.exchange.Goals as goal

pub returns-then-other-size : goal.returns-then-other-size
returns-then-other-size c =
    let words = c.args.self.now.words.items in
    let p = c.args.place in
    let size : c.saturating_sub-size.result ≡ size_at words p = omega (arith, c.saturating_sub-size.ensures, c.word.ensures) in
    let first : c.args.one < size_at words p = omega (arith, size, c.if-one-size.true) in
    let second : c.args.other < size_at words p = omega (arith, size, c.if-other-size.true) in
    let end = (c.args.self.now.laid_out p (omega (arith, first))).0 in
    exchanged_shrinks words p c.args.one c.args.other c.index-literal.result.now c.index.result.now _
    (record {
      laid = c.args.self.now.laid_out;
      first = first;
      second = second;
      is_first = get_or_read words (p + (3 + c.args.one)) _ (omega (arith, end, first)) c.index-literal.ensures 0;
      is_second = get_or_read words (p + (3 + c.args.other)) _ (omega (arith, end, second)) c.index.ensures 0;
      small = omega arith;
    })
