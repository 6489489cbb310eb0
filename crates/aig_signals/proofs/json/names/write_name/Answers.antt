use Rattle.std.proofs.lemmas.Str.{is_utf8-from_IsUtf8}
use Rattle.aig_bytes.proofs.WriteLemmas.{writes_same}
use Rattle.aig_signals.proofs.JsonLemmas.{name_array, name_string}
use Rattle.aig_signals.proofs.json.names.write_name.Goals as goal

pub returns-in-Ok : goal.returns-in-Ok
returns-in-Ok g c =
    writes_same c.write_string.ensures
    (name_string c.args.name.now c.in-Some.first.now c.in-Some.more.now c.in-Some.ensures.cases.0
    (is_utf8-from_IsUtf8 c.args.name.now c.in-Ok.ensures.cases.1))

pub returns-in-Err : goal.returns-in-Err
returns-in-Err g c =
    writes_same c.write_numbers.ensures
    (name_array c.args.name.now c.in-Some.first.now c.in-Some.more.now c.in-Some.ensures.cases.0 c.in-Err.ensures.cases.0)
