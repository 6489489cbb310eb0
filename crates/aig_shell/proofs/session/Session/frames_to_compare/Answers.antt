use Rattle.std.proofs.Common.{◌≡◌, ◌+◌, ◌-◌, ℕ, List, Option, Bor, option_map, ap, subst}
use Rattle.aig_shell.specs.Answers.{DiffersFrames}
use Rattle.aig_shell.specs.Edits.{AreFrames}
use Rattle.aig_shell.proofs.tables.Shown.{handed_on}
use Rattle.aig_shell.proofs.session.Session.frames_to_compare.Goals as goal

pub returns-in_err-named-in-Some-clause-err : goal.returns-in_err-named-in-Some-clause-err
returns-in_err-named-in-Some-clause-err c =
    handed_on c.from_residual.result c.in_err-named-in-Some.field-0.0 c.from_residual.ensures.1 (λ other now was first n h.
    let named : (last : ℕ) × AreFrames c.in-Some.word.now c.args.count first last × (n ≡ last + 1 - first) =
    subst (λ (o : Option (List ℕ)). DiffersFrames o now was c.args.count first n)
    (ap (option_map (λ (w : Bor (List ℕ)). w.now)) c.in-Some.is) h in
    c.in_err-named-in-Some.ensures.err first named.0 named.1)
