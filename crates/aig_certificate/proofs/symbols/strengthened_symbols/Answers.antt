use Rattle.std.proofs.Common.{◌≡◌, ℕ, List, ◌++◌, ap, ap₂, subst, ◌∙◌}
use Rattle.std.proofs.lemmas.Result.{err_from_is_err_and}
use Rattle.aig_parts.specs.SymbolPlaces.{Key}
use Rattle.aig_certificate.specs.Strengthened.{certificate_entry, model_entry, renamed}
use Rattle.aig_certificate.specs.state.Marks.{meanings_of}
use Rattle.aig_certificate.specs.state.Names.{RefusesNames, new_names}
use Rattle.aig_certificate.proofs.Naming.{refuses_more}
use Rattle.aig_certificate.proofs.symbols.strengthened_symbols.Goals as goal

pub returns-in_err-add_model_names-clause-refused : goal.returns-in_err-add_model_names-clause-refused
returns-in_err-add_model_names-clause-refused c =
    let p = err_from_is_err_and c.from_residual-in_err-add_model_names.result c.from_residual-in_err-add_model_names.ensures.1 in
    let model : List (Key × List ℕ) = renamed (model_entry c.args.property) c.args.model.now.symbols in
    let certificate : List (Key × List ℕ) =
    renamed (certificate_entry c.args.model.now c.args.certificate.now (meanings_of c.args.shared.now)) c.args.certificate.now.symbols in
    let fault = c.in_err-add_model_names.field-0.0 in
    rw (p.1, p.2) (refuses_more model certificate fault
    (subst (λ (old : List (Key × List ℕ)). RefusesNames (old ++ model) fault) c.new-list.ensures c.in_err-add_model_names.ensures.refused))

pub returns-in_err-add_certificate_names-clause-refused : goal.returns-in_err-add_certificate_names-clause-refused
returns-in_err-add_certificate_names-clause-refused c =
    let p = err_from_is_err_and c.from_residual-in_err-add_certificate_names.result c.from_residual-in_err-add_certificate_names.ensures.1 in
    let fault = c.in_err-add_certificate_names.field-0.0 in
    let model : List (Key × List ℕ) = renamed (model_entry c.args.property) c.args.model.now.symbols in
    let certificate : List (Key × List ℕ) =
    renamed (certificate_entry c.args.model.now c.args.certificate.now (meanings_of c.args.shared.now)) c.args.certificate.now.symbols in
    let named : new_names c.in_ok-names.names ≡ certificate = λ i.
    renamed (certificate_entry (c.in_ok-names.ensures.model i) (c.in_ok-names.ensures.certificate i) (meanings_of (c.in_ok-names.ensures.shared i)))
    (c.in_ok-names.ensures.certificate i).symbols in
    let whole : c.add_model_names.new.list ++ new_names c.in_ok-names.names ≡ model ++ certificate =
    ap₂ (λ (a b : List (Key × List ℕ)). a ++ b)
    (c.in_ok-add_model_names.ensures.added ∙ ap (λ (old : List (Key × List ℕ)). old ++ model) c.new-list.ensures) named in
    rw (p.1, p.2) (subst (λ (s : List (Key × List ℕ)). RefusesNames s fault) whole c.in_err-add_certificate_names.ensures.refused)

pub returns-clause-symbols : goal.returns-clause-symbols
returns-clause-symbols c =
    let model : List (Key × List ℕ) = renamed (model_entry c.args.property) c.args.model.now.symbols in
    let certificate : List (Key × List ℕ) =
    renamed (certificate_entry c.args.model.now c.args.certificate.now (meanings_of c.args.shared.now)) c.args.certificate.now.symbols in
    let named : new_names c.in_ok-names.names ≡ certificate = λ i.
    renamed (certificate_entry (c.in_ok-names.ensures.model i) (c.in_ok-names.ensures.certificate i) (meanings_of (c.in_ok-names.ensures.shared i)))
    (c.in_ok-names.ensures.certificate i).symbols in
    c.in_ok-into_symbols.ensures ∙ c.in_ok-add_certificate_names.ensures.added
    ∙ ap₂ (λ (a b : List (Key × List ℕ)). a ++ b)
    (c.in_ok-add_model_names.ensures.added ∙ ap (λ (old : List (Key × List ℕ)). old ++ model) c.new-list.ensures) named
