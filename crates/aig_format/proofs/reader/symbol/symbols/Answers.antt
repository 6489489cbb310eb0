use Rattle.std.proofs.Common.{length, refl, arith}
use Rattle.std.proofs.lemmas.Result.{err_from_is_err_and}
use Rattle.aig_format.specs.state.ReadingNames.{symbols_at}
use Rattle.aig_format.proofs.BufferedSymbols.{goes_after}
use Rattle.aig_format.proofs.Keeping.{keeps_step, keeps_then, keeps_reads, err_reads}
use Rattle.aig_format.proofs.Symbols.{goes_fail, goes_end, goes_comment, goes_symbol_fail, goes_on}
use Rattle.aig_format.proofs.reader.symbol.symbols.Goals as goal

pub returns-in_err-letter-clause-reads : goal.returns-in_err-letter-clause-reads
returns-in_err-letter-clause-reads g c =
    let p = err_from_is_err_and c.from_residual-in_err-letter.result c.from_residual-in_err-letter.ensures.1 in
    let i = c.loop-name.invariant in
    let s = c.skip.ensures in
    let keeps = keeps_step i.keeps s.reported s.reader s.failures (omega (arith, s.more)) in
    rw (p.1, p.2)
    (err_reads keeps c.in_err-letter.ensures.reads (λ reported fails.
    goes_fail _ c.args.counts.now c.push_symbols.new.all (g.S.Source.left c.skip.new.self) _
    (goes_after c.args.counts.now c.in_ok-size.ensures.0 c.in_ok-size.size c.front.result.now (g.S.Source.unread c.loop-name.s)
    (g.S.Source.left c.loop-name.s) (g.S.Source.left c.skip.new.self) c.loop-name.all c.push_symbols.new.all _
    c.in_ok-size.ensures.1 (rw c.front.ensures.buffered c.front.ensures.left) s.left (i.bytes reported)) fails))

pub returns-in-End-clause-reads : goal.returns-in-End-clause-reads
returns-in-End-clause-reads g c =
    let i = c.loop-name.invariant in
    let s = c.skip.ensures in
    let keeps = keeps_step i.keeps s.reported s.reader s.failures (omega (arith, s.more)) in
    keeps_reads (keeps_then keeps c.in_ok-letter.ensures.reads) (λ n. refl) (λ reported.
    goes_end c.args.counts.now c.push_symbols.new.all (g.S.Source.left c.skip.new.self) (g.S.Source.left c.letter.new.s) _
    (goes_after c.args.counts.now c.in_ok-size.ensures.0 c.in_ok-size.size c.front.result.now (g.S.Source.unread c.loop-name.s)
    (g.S.Source.left c.loop-name.s) (g.S.Source.left c.skip.new.self) c.loop-name.all c.push_symbols.new.all _
    c.in_ok-size.ensures.1 (rw c.front.ensures.buffered c.front.ensures.left) s.left (i.bytes reported))
    (rw c.in-End.is at (c.in_ok-letter.ensures.reads.bytes (keeps.reported reported))))

pub returns-in-Comment-clause-reads : goal.returns-in-Comment-clause-reads
returns-in-Comment-clause-reads g c =
    let i = c.loop-name.invariant in
    let s = c.skip.ensures in
    let keeps = keeps_step i.keeps s.reported s.reader s.failures (omega (arith, s.more)) in
    keeps_reads (keeps_then keeps c.in_ok-letter.ensures.reads) (λ n. refl) (λ reported.
    goes_comment c.args.counts.now c.push_symbols.new.all (g.S.Source.left c.skip.new.self) (g.S.Source.left c.letter.new.s) _
    (goes_after c.args.counts.now c.in_ok-size.ensures.0 c.in_ok-size.size c.front.result.now (g.S.Source.unread c.loop-name.s)
    (g.S.Source.left c.loop-name.s) (g.S.Source.left c.skip.new.self) c.loop-name.all c.push_symbols.new.all _
    c.in_ok-size.ensures.1 (rw c.front.ensures.buffered c.front.ensures.left) s.left (i.bytes reported))
    (rw c.in-Comment.is at (c.in_ok-letter.ensures.reads.bytes (keeps.reported reported))))

pub loop-name-preserved : goal.loop-name-preserved
loop-name-preserved g c =
    let i = c.loop-name.invariant in
    let s = c.skip.ensures in
    let symbol = c.in_ok-symbol-in-Symbol.ensures in
    let keeps = keeps_step i.keeps s.reported s.reader s.failures (omega (arith, s.more)) in
    let letter = keeps_then keeps c.in_ok-letter.ensures.reads in
    record {
      bytes = λ reported. goes_on c.args.counts.now c.push_symbols.new.all c.in-Symbol.kind (g.S.Source.left c.skip.new.self)
          (g.S.Source.left c.letter.new.s) c.symbol.new.all (g.S.Source.left c.symbol.new.s)
          (symbols_at c.args.counts.now (length (g.S.Source.left c.args.s.now)) c.args.all.now
          (g.S.Source.left c.args.s.now))
          (goes_after c.args.counts.now c.in_ok-size.ensures.0 c.in_ok-size.size c.front.result.now (g.S.Source.unread c.loop-name.s)
          (g.S.Source.left c.loop-name.s) (g.S.Source.left c.skip.new.self) c.loop-name.all c.push_symbols.new.all _
          c.in_ok-size.ensures.1 (rw c.front.ensures.buffered c.front.ensures.left) s.left (i.bytes reported))
          (rw c.in-Symbol.is at (c.in_ok-letter.ensures.reads.bytes (keeps.reported reported))) (symbol.reads.bytes (letter.reported reported));
      symbols = λ so_far. symbol.symbols (c.in_ok-size.ensures.1.symbols (i.symbols so_far));
      keeps = keeps_then letter symbol.reads;
    }

pub returns-in_err-symbol-in-Symbol-clause-reads : goal.returns-in_err-symbol-in-Symbol-clause-reads
returns-in_err-symbol-in-Symbol-clause-reads g c =
    let p = err_from_is_err_and c.from_residual-in_err-symbol-in-Symbol.result
    c.from_residual-in_err-symbol-in-Symbol.ensures.1 in
    let i = c.loop-name.invariant in
    let s = c.skip.ensures in
    let keeps = keeps_step i.keeps s.reported s.reader s.failures (omega (arith, s.more)) in
    rw (p.1, p.2)
    (err_reads (keeps_then keeps c.in_ok-letter.ensures.reads) c.in_err-symbol-in-Symbol.ensures.reads (λ reported fails.
    goes_symbol_fail _ c.args.counts.now c.push_symbols.new.all c.in-Symbol.kind (g.S.Source.left c.skip.new.self)
    (g.S.Source.left c.letter.new.s) _
    (goes_after c.args.counts.now c.in_ok-size.ensures.0 c.in_ok-size.size c.front.result.now (g.S.Source.unread c.loop-name.s)
    (g.S.Source.left c.loop-name.s) (g.S.Source.left c.skip.new.self) c.loop-name.all c.push_symbols.new.all _
    c.in_ok-size.ensures.1 (rw c.front.ensures.buffered c.front.ensures.left) s.left (i.bytes reported))
    (rw c.in-Symbol.is at (c.in_ok-letter.ensures.reads.bytes (keeps.reported reported))) fails))
