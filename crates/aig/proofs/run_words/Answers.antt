use Rattle.std.proofs.Common.{sym, subst}
use Rattle.aig_program.specs.Arguments.{IsUnparsed}
use Rattle.aig.specs.Program.{RunsAsMeant, parsed}
use Rattle.aig_program.specs.Ends.{seen}
use Rattle.aig.proofs.Running.{ends_unparsed, exit_of, got_nothing, value_of}
use Rattle.aig.proofs.run_words.Goals as goal

pub returns-in_err-matches : goal.returns-in_err-matches
returns-in_err-matches g c =
    let r = c.from_residual in
    record {
      ends =
          ends_unparsed (seen g.W.Write.written g.W.Write.failures c.args.out.now c.args.out.now) g.R.File.Read.remaining _ r.result
          c.in_err-matches.field-0.0 (got_nothing g.W.Write.written g.W.Write.failures c.args.out.now)
          (exit_of c.parsed.result c.in_err-matches.field-0.0 IsUnparsed c.in_err-matches.ensures c.parsed.ensures.fails) r.ensures.1;
    }

pub returns : goal.returns
returns g c =
    record {
      ends =
          parsed c.in_ok-matches.matches
          (value_of c.parsed.result c.in_ok-matches.matches _ c.in_ok-matches.ensures c.parsed.ensures.words)
          (subst (RunsAsMeant (seen g.W.Write.written g.W.Write.failures c.args.out.now c.run_command.new.out)
          g.R.File.Read.remaining c.in_ok-matches.matches) (sym c.reported-2.ensures)
          c.run_command.ensures.ends);
    }
