use Rattle.std.proofs.Common.{◌≡◌, subst}
use Rattle.std.specs.Result.{IsOkAnd}
use Rattle.std.specs.Vec.Iter.{into_iter_items}
use Rattle.aig_program.specs.Arguments.{IsUnparsed}
use Rattle.aig.specs.Program.{Runs, words_of}
use Rattle.aig_program.specs.Ends.{seen}
use Rattle.aig.proofs.Running.{ends_unparsed, exit_of, got_nothing, value_of, words_given}
use Rattle.aig.proofs.run_given.Goals as goal

pub returns-in_err-words : goal.returns-in_err-words
returns-in_err-words g c =
    let r = c.from_residual in
    let exit = c.in_err-words.field-0.0 in
    record {
      ends =
          ends_unparsed (seen g.W.Write.written g.W.Write.failures c.args.out.now c.args.out.now) g.R.File.Read.remaining
          (words_of c.args.given) r.result exit (got_nothing g.W.Write.written g.W.Write.failures c.args.out.now)
          (exit_of c.all.result exit IsUnparsed c.in_err-words.ensures c.all.ensures.fails) r.ensures.1;
    }

pub returns : goal.returns
returns g c =
    let held =
    value_of c.all.result c.in_ok-words.words (λ list. IsOkAnd c.args.given (λ args. list.items ≡ into_iter_items args))
    c.in_ok-words.ensures c.all.ensures.words
    in
    record {
      ends =
          subst (λ words. Runs (seen g.W.Write.written g.W.Write.failures c.args.out.now c.run_words.new.out)
          g.R.File.Read.remaining words c.run_words.result)
          (words_given c.args.given c.in_ok-words.words.items c.as_slice.result.now c.as_slice.ensures.value held) c.run_words.ensures.ends;
    }
