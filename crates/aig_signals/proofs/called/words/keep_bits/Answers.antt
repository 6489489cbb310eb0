use Rattle.std.proofs.Common.{◌∙◌, sym, ap}
use Rattle.std.specs.Prelude.{option_copied}
use Rattle.std.specs.Str.{bytes_eq}
use Rattle.std.proofs.lemmas.Result.{on_ok_weaker}
use Rattle.indexmap.specs.IndexMap.{get_by}
use Rattle.aig_signals.proofs.CalledWords.{kept_one}
use Rattle.aig_signals.proofs.called.words.keep_bits.Goals as goal

pub returns-then-contains_key : goal.returns-then-contains_key
returns-then-contains_key c raw known before = before

pub returns-in-None : goal.returns-in-None
returns-in-None c raw known before = before

pub returns-in_ok-literals-in-Some : goal.returns-in_ok-literals-in-Some
returns-in_ok-literals-in-Some c raw known before =
    on_ok_weaker c.put.result
    (λ h. kept_one raw (λ x. get_by (λ key. bytes_eq x key.items) c.args.words.now) c.args.name.now c.in-Some.bits.now
    c.as_slice.result.now c.in_ok-literals-in-Some.literals (λ x. get_by (λ key. bytes_eq x key.items) c.args.found.now)
    (λ x. get_by (λ key. bytes_eq x key.items) c.put.new.table) known
    (sym c.get.ensures.value ∙ ap option_copied c.in-Some.is) c.as_slice.ensures c.in_ok-literals-in-Some.ensures before h)
    c.put.ensures
