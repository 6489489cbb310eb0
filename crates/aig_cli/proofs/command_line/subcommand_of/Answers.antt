use Rattle.std.proofs.Common.{◌≡◌, refl}
use Rattle.std.specs.Prelude.{Option, None, Some, IfSome, option_map}
use Rattle.aig_cli.proofs.command_line.subcommand_of.Goals as goal

-- a name and rows that were found one by one were found together
together : {S P N R : Type 0} (found : Option S) (result : Option P) (name_in : S → N) (rows_in : S → R) (name : P → N)
    (rows : P → R) → option_map name result ≡ option_map name_in found
    → option_map rows result ≡ option_map (λ (p : N × R). p.1) (option_map {U = N × R} (λ s. (name_in s, rows_in s)) found)
    → IfSome result (λ p. option_map {U = N × R} (λ s. (name_in s, rows_in s)) found ≡ Some (name p, rows p))
together None None name_in rows_in name rows names all = tt
together (Some s) None name_in rows_in name rows names all = tt
together None (Some p) name_in rows_in name rows names all = cc
together (Some s) (Some p) name_in rows_in name rows names all = cc

-- none was found where none is there
neither : {S P N R : Type 0} (found : Option S) (result : Option P) (name_in : S → N) (rows_in : S → R) (name : P → N)
    → option_map name result ≡ option_map name_in found → result ≡ None
    → option_map {U = N × R} (λ s. (name_in s, rows_in s)) found ≡ None
neither None result name_in rows_in name names none = refl
neither (Some s) None name_in rows_in name names none = cc
neither (Some s) (Some p) name_in rows_in name names none = cc

pub returns : goal.returns
returns c = record {
  held = together _ c.subcommand.result _ _ _ _ c.subcommand.ensures.name c.subcommand.ensures.rows;
  none = neither _ c.subcommand.result _ _ _ c.subcommand.ensures.name;
}
