use Rattle.aig_sat.proofs.checker.checker.Checker.store_unit.Goals as goal
use Rattle.std.proofs.lemmas.Bool.{false_from_ne_true}

pub returns-in_err-store : goal.returns-in_err-store
returns-in_err-store c = c.store.ensures

pub returns-in_err-conflict : goal.returns-in_err-conflict
returns-in_err-conflict c = λ v h m.
    let s = c.store.ensures v h m in
    record { open_still = s.open_still; agrees = c.take_unit.ensures.agrees v s.agrees (c.requires v h m) }

pub returns : goal.returns
returns c = λ v h m.
    let s = c.store.ensures v h m in
    record {
      open_still = false_from_ne_true c.in_ok-conflict.conflict (λ t. c.in_ok-conflict.ensures.conflict t v s.agrees (c.requires v h m));
      agrees = c.take_unit.ensures.agrees v s.agrees (c.requires v h m);
    }
