use Rattle.std.proofs.Common.{◌∙◌, ap, subst, List, ℕ, IfOk}
use Rattle.aig_format.specs.FileReading.{IsReading}
use Rattle.aig_format.specs.Formats.{IsInFormat, without_format}
use Rattle.aig_format.proofs.Holding.{first_left, reported_by}
use Rattle.aig_format.proofs.reader.read_with_format.Goals as goal

pub returns-clause-answers : goal.returns-clause-answers
returns-clause-answers g c = λ bytes is other.
    let s = c.new-stream.result in
    let left = ap g.R.Read.left c.new-stream.ensures.reader ∙ is in
    subst (λ (all : List ℕ). IsReading all (without_format c.circuit_with_format.result))
    (first_left (g.R.Read.left s.reader.now) bytes s.buffer s.start s.end c.new-stream.ensures.empty left)
    (c.circuit_with_format.ensures.answers (reported_by (g.R.Read.left s.reader.now) bytes left) other)

pub returns-clause-format : goal.returns-clause-format
returns-clause-format g c = λ bytes is.
    let s = c.new-stream.result in
    let left = ap g.R.Read.left c.new-stream.ensures.reader ∙ is in
    subst (λ (all : List ℕ). IfOk c.circuit_with_format.result (λ x. IsInFormat x.0 all x.1))
    (first_left (g.R.Read.left s.reader.now) bytes s.buffer s.start s.end c.new-stream.ensures.empty left)
    (c.circuit_with_format.ensures.format (reported_by (g.R.Read.left s.reader.now) bytes left))
