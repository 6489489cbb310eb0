use Rattle.std.proofs.Common.{List, ℕ, IfErr, IfOk, ap, subst, sym, ◌∙◌}
use Rattle.std.specs.Prelude.{Option, option_map}
use Rattle.aig_commands.specs.state.About.{IsAbout, RefusesFiles}
use Rattle.aig_commands.proofs.Questions.{about_certified, bytes_of, certificate_is}
use Rattle.aig_commands.proofs.question.circuit_of.Goals as goal

pub returns-in-None-clause-about : goal.returns-in-None-clause-about
returns-in-None-clause-about c =
    subst (λ (by : Option (List ℕ × ℕ)). IfOk c.read_file.result (IsAbout by c.args.file.now))
    (ap (option_map bytes_of) (sym c.in-None.is) ∙ certificate_is c.args.question c.certificate.result c.certificate.ensures)
    c.read_file.ensures.circuit

pub returns-in-None-clause-refused : goal.returns-in-None-clause-refused
returns-in-None-clause-refused c =
    subst (λ (by : Option (List ℕ × ℕ)). IfErr c.read_file.result (RefusesFiles by c.args.file.now))
    (ap (option_map bytes_of) (sym c.in-None.is) ∙ certificate_is c.args.question c.certificate.result c.certificate.ensures)
    c.read_file.ensures.refused

pub returns-in-Some-clause-about : goal.returns-in-Some-clause-about
returns-in-Some-clause-about c =
    let me = c.in-Some in
    subst (λ (by : Option (List ℕ × ℕ)). IfOk c.strengthened.result (IsAbout by c.args.file.now))
    (ap (option_map bytes_of) (sym me.is) ∙ certificate_is c.args.question c.certificate.result c.certificate.ensures)
    (about_certified c.args.file.now me.certificate.now me.property c.strengthened.result c.strengthened.ensures.certified
    c.strengthened.ensures.extension)

pub returns-in-Some-clause-refused : goal.returns-in-Some-clause-refused
returns-in-Some-clause-refused c =
    subst (λ (by : Option (List ℕ × ℕ)). IfErr c.strengthened.result (RefusesFiles by c.args.file.now))
    (ap (option_map bytes_of) (sym c.in-Some.is) ∙ certificate_is c.args.question c.certificate.result c.certificate.ensures)
    c.strengthened.ensures.refused
