-- What a reader of DIMACS finds in some texts, and in some that are none.
use Rattle.std.proofs.Common.{◌≡◌, ℕ, Bool, true, false, List, [], ◌∷◌, Some, None, refl}
use Rattle.std.specs.Prelude.{codes}
use Rattle.std.specs.Fmt.{digits}
use Rattle.aig_parts.specs.declared.raw.Raw.{Raw}
use Rattle.aig_parts.specs.declared.symbols.Kind.TheVariants.{Input}
use Rattle.aig_unroll.specs.FrameLiteral.{frame_literal}
use Rattle.aig_unroll.specs.InputMap.{origin_lines, start_origins, symbol_name_at}
use Rattle.aig_base.specs.Part.{part, picked}
use Rattle.aig_cnf.specs.CnfText.{read_text}
use Rattle.aig_cnf.specs.Dimacs.{clause_text, formula_text, literal_text, problem_line}
use Rattle.aig_cnf.specs.DimacsRead.{clauses_of, counts_of, found_in, literal_of, number, read_formula, signed}
use Rattle.aig_cnf.specs.Formula.{cone, formula_of}
use Rattle.aig_cnf.specs.Query.{within}
use Rattle.aig_cnf.specs.ReadFormula.{marked}
use Rattle.aig_cnf.specs.declared.heading.Heading.TheVariants.{Runs}

-- a clause may go over lines, and several may be in one; blanks, tabs and comments may be anywhere
usual : read_formula (codes "c two clauses\np cnf  3 2 \n1 -3 0\t2\nc 7\n3 -1 0\n")
    ≡ Some (3, 2, (0 ∷ 5 ∷ []) ∷ (2 ∷ 4 ∷ 1 ∷ []) ∷ [])
unfolding clauses_of counts_of found_in literal_of number signed
usual = refl

-- an empty clause, and a count that is not that of the clauses
empty : read_formula (codes "p cnf 0 7\n0") ≡ Some (0, 7, [] ∷ [])
unfolding clauses_of counts_of found_in literal_of number signed
empty = refl

-- a variable over the count
over : read_formula (codes "p cnf 2 1\n3 0\n") ≡ None
unfolding clauses_of counts_of found_in literal_of number signed
over = refl

-- a clause without its end
endless : read_formula (codes "p cnf 2 1\n1 2\n") ≡ None
unfolding clauses_of counts_of found_in literal_of number signed
endless = refl

-- no number, and no problem line
letter : read_formula (codes "p cnf 2 1\n1x 0\n") ≡ None
unfolding clauses_of counts_of found_in literal_of number signed
letter = refl

headless : read_formula (codes "1 0\np cnf 1 1\n") ≡ None
unfolding clauses_of counts_of found_in literal_of number signed
headless = refl

-- ---- a circuit whose second input is bad

abbrev bad_input : List ℕ → Raw
bad_input name = record {
  max_var = 2;
  inputs = 2 ∷ 4 ∷ [];
  latches = [];
  outputs = [];
  bad = 4 ∷ [];
  constraints = [];
  justice = [];
  fairness = [];
  gates = [];
  symbols = ((Input, 1), name) ∷ [];
  comment = None;
}

-- it alone is read
abbrev marks : List Bool
marks = false ∷ false ∷ true ∷ []

abbrev text_of : List ℕ → List ℕ
text_of name =
    let small : Raw = part (bad_input name) 4 (marked marks) in
    read_text (bad_input name) (Runs (within 1 0))
    (record { cnf = formula_of small [] (within 1 0); small = small; marks = marks })

named : text_of (codes "in") ≡ codes "c aig cnf --frames 1 --property 0 \nc i 2 0 1 in\nc b 2 0\np cnf 2 2\n-1 0\n2 0\n"
unfolding digits cone frame_literal origin_lines picked start_origins symbol_name_at clause_text formula_text literal_text problem_line
named = refl

-- if a name had an LF, a comment line would end there
line_feed : read_formula (text_of (codes "in\n1 0")) ≡ None
unfolding digits cone frame_literal origin_lines picked start_origins symbol_name_at clause_text formula_text literal_text problem_line clauses_of counts_of found_in literal_of number signed
line_feed = refl
