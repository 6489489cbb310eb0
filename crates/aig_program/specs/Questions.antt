-- What a command asks of a circuit, by the file of a certificate.
-- Example: a certificate whose file has two bytes left is a question about these two.
use Rattle.std.specs.Prelude.{ℕ, List, [], Option, None, Some}
use Rattle.aig_commands.specs.Questions.{Asked, certificate_of, question_map}
use Rattle.aig_commands.specs.declared.question.Question.{Question}

-- what is asked, by the bytes of the certificate
abbrev pub asked_by : {F : Type 0} → Question F → (F → List ℕ) → Asked
asked_by question bytes = question_map bytes question

-- the bytes that the certificate has left, where the type of an open file says which; without a certificate none
abbrev pub left_of : {F : Type 0} → (F → Option (List ℕ)) → Option (F × ℕ) → Option (List ℕ)
left_of left (Some (certificate, p)) = left certificate
left_of left None = Some []

abbrev pub claims_left : {F : Type 0} → (F → Option (List ℕ)) → Question F → Option (List ℕ)
claims_left left question = left_of left (certificate_of question)
