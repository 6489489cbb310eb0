use Rattle.aig_names.specs.Names.{identifier_code}
use Rattle.aig_names.proofs.Codes.{code_last, code_more}
use Rattle.aig_values.proofs.GatherLemmas.{partly_none, partly_same, partly_more, partly_stops, partly_ends}
use Rattle.aig_sim.proofs.dumps.text.put_code.Goals as goal

pub loop-rest-init : goal.loop-rest-init
loop-rest-init g c = partly_none c.args.out.now c.args.block.now (identifier_code c.args.signal)

pub returns-in_err-put : goal.returns-in_err-put
returns-in_err-put g c =
    partly_stops _ (partly_same c.loop-rest.invariant (code_more c.loop-rest.rest c.loop-rest-test.true)) c.in_err-put.ensures
    c.from_residual.ensures.0

pub loop-rest-preserved : goal.loop-rest-preserved
loop-rest-preserved g c =
    partly_more (partly_same c.loop-rest.invariant (code_more c.loop-rest.rest c.loop-rest-test.true)) c.in_ok-put.ensures

pub returns : goal.returns
returns g c = partly_ends (partly_same c.loop-rest.invariant (code_last c.loop-rest.rest c.loop-rest-test.false)) c.put-2.ensures
