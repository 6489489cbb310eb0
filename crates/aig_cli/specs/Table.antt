-- The commands with their arguments, as the parser of the command line takes them, and which matches it gives to words.
-- Example: `check` has the flag `--trace`, the option `--property P`, and two files by their places, which are needed.
use Rattle.std.specs.Prelude.{◌≡◌, ◌&&◌, ◌++◌, ◌∷◌, List, [], true, false, Option, Some, codes, fold, map, pos}
use Rattle.clap.specs.Matches.{found_of}
use Rattle.clap.specs.Simple.{App, Shape, matches_of, new_rule, new_shape, subcommand_of, subcommand_rows_of, with_rule}
use Rattle.clap.specs.Simple.{with_subcommand}
use Rattle.clap.specs.Walk.{Rule, Text, is_empty, rows_of}
use Rattle.clap.specs.declared.builder.action.ArgAction.TheVariants.{Append, SetTrue}
use Rattle.clap.specs.declared.builder.value_parser.ValueParser.{ValueParser}
use Rattle.clap.specs.declared.builder.value_parser.ValueParser.TheVariants.{Names, Signed, String}
use Rattle.clap.specs.declared.parser.matches.ArgMatches.{ArgMatches}
use Rattle.aig_cli.specs.declared.arguments.Argument.{Argument}
use Rattle.aig_cli.specs.declared.arguments.Kind.{Kind}
use Rattle.aig_cli.specs.declared.arguments.Kind.TheVariants as kinds
use Rattle.aig_cli.specs.declared.arguments.Need.{Need}
use Rattle.aig_cli.specs.declared.arguments.Need.TheVariants as needs
use Rattle.aig_cli.specs.declared.subcommands.Subcommand.{Subcommand}

-- ---- arguments

-- a file by its place
abbrev pub place : Text → Rule
place name = new_rule name

-- `--NAME`
abbrev pub flag : Text → Rule
flag name = record (new_rule name) { long = Some name; action = Some SetTrue }

-- `--WORD TEXT`
abbrev pub worded : Text → Text → Rule
worded word name = record (new_rule name) { long = Some word }

-- the same, any number of times
abbrev pub each : Text → Text → Rule
each word name = record (worded word name) { action = Some Append }

-- `--NAME TEXT`, where help shows the text by another name
abbrev pub named : Text → Rule
named name = record (worded name name) { value_names = 1 }

-- `--WORD N`, with a number of 32 bits
abbrev pub with_number : Text → Rule → Rule
with_number word rule = record rule { long = Some word; parser = Some (Signed (pos 0) (pos 4294967295)) }

abbrev pub number : Text → Text → Rule
number word name = with_number word (new_rule name)

-- `--WORD NAME`, with one of some names
abbrev pub chosen : Text → Text → Rule
chosen word name = record (worded word name) { value_names = 1; parser = Some String }

-- it has to be given
abbrev pub needed : Rule → Rule
needed rule = record rule { required = true }

-- other arguments count for whether it may or has to be given
abbrev pub bound : Rule → Rule
bound rule = record rule { is_free = false }

-- ---- commands

-- a command: its arguments
abbrev pub command : Text → List Rule → Shape
command name rules = record (new_shape name) { rules = rules }

abbrev pub circuit : Rule
circuit = needed (place (codes "CIRCUIT"))

abbrev pub format : Rule
format = needed (chosen (codes "to") (codes "FORMAT"))

abbrev pub property : Rule
property = worded (codes "property") (codes "P")

abbrev pub on_files : List Shape
on_files = command (codes "toaig") (format ∷ circuit ∷ [])
    ∷ command (codes "info") (flag (codes "names") ∷ bound (flag (codes "json")) ∷ circuit ∷ [])
    ∷ command (codes "select") (format ∷ chosen (codes "from") (codes "from") ∷ chosen (codes "as") (codes "as")
    ∷ each (codes "property") (codes "P") ∷ named (codes "names") ∷ circuit ∷ [])
    ∷ command (codes "cut") (format ∷ needed (named (codes "cuts")) ∷ circuit ∷ [])
    ∷ command (codes "unroll") (needed (number (codes "frames") (codes "K")) ∷ format ∷ named (codes "map") ∷ circuit
    ∷ [])
    ∷ []

abbrev pub stimulus : Rule
stimulus = needed (place (codes "STIM"))

abbrev pub on_runs : List Shape
on_runs = command (codes "sim") (circuit ∷ stimulus ∷ [])
    ∷ command (codes "wave") (flag (codes "witness") ∷ circuit ∷ stimulus ∷ [])
    ∷ command (codes "bench") (named (codes "circuit-out") ∷ named (codes "stimulus-out") ∷ circuit ∷ stimulus
    ∷ needed (place (codes "SCRIPT")) ∷ [])
    ∷ command (codes "shell") (bound (flag (codes "witness")) ∷ circuit ∷ place (codes "STIM") ∷ [])
    ∷ []

abbrev pub witness : Rule
witness = needed (place (codes "WITNESS"))

abbrev pub on_witnesses : List Shape
on_witnesses = command (codes "check") (flag (codes "trace") ∷ bound (flag (codes "properties")) ∷ property
    ∷ bound (flag (codes "alive")) ∷ bound (number (codes "frames") (codes "K")) ∷ circuit ∷ witness ∷ [])
    ∷ command (codes "witness") (named (codes "model") ∷ bound (number (codes "frames") (codes "K"))
    ∷ flag (codes "step") ∷ bound (named (codes "certificate")) ∷ bound (flag (codes "alive")) ∷ property ∷ circuit
    ∷ bound (place (codes "STIM")) ∷ [])
    ∷ command (codes "reduce") (circuit ∷ witness ∷ [])
    ∷ command (codes "why") (bound (named (codes "of")) ∷ number (codes "frame") (codes "T")
    ∷ number (codes "depth") (codes "D") ∷ flag (codes "witness") ∷ flag (codes "json") ∷ circuit ∷ stimulus ∷ [])
    ∷ []

abbrev pub on_proofs : List Shape
on_proofs = command (codes "cnf") (number (codes "frames") (codes "K") ∷ property ∷ flag (codes "step")
    ∷ bound (named (codes "certificate")) ∷ bound (flag (codes "alive")) ∷ circuit ∷ [])
    ∷ command (codes "refute") (number (codes "frames") (codes "K") ∷ property ∷ named (codes "step")
    ∷ bound (named (codes "certificate")) ∷ bound (flag (codes "alive")) ∷ circuit ∷ needed (place (codes "PROOF"))
    ∷ [])
    ∷ command (codes "strengthen") (format ∷ needed (named (codes "certificate")) ∷ property ∷ circuit ∷ [])
    ∷ []

-- the program: a command is needed
abbrev pub program_of : List Shape → App
program_of shapes = fold with_subcommand (record {
  top = record (new_shape (codes "aig")) { has_version = true; subcommand_required = true };
  subs = [];
}) shapes

-- ---- which matches words have

-- what checks a value, but for where the names that it may be lie in memory
abbrev pub plain_parser : Option ValueParser → Option ValueParser
plain_parser (Some (Names names)) = Some String
plain_parser parser = parser

abbrev pub plain : Shape → Shape
plain shape = record shape { rules = map (λ (rule : Rule). record rule { parser = plain_parser rule.parser }) shape.rules }

-- the parser has these commands
abbrev pub IsCommandLine : App → Type 0
IsCommandLine app =
    (shapes : List Shape) × (map plain shapes ≡ on_files ++ on_runs ++ on_witnesses ++ on_proofs)
    × (app ≡ program_of shapes)

-- the matches are those of the words, the first of which is the program's name: the values that stand before the
-- command, the command, and the values of its arguments
abbrev pub HoldsWords : List Text → ArgMatches → Type 0
HoldsWords words matches =
    (app : App) × IsCommandLine app × (rows_of (found_of matches) ≡ matches_of app words)
    × (subcommand_rows_of matches ≡ subcommand_of app words)

-- ---- rows of the tables of the program

-- how an argument is given
abbrev pub with_kind : Kind → Text → Rule → Rule
with_kind kinds.Text name rule = rule
with_kind kinds.Flag name rule = record rule { long = Some name; action = Some SetTrue }
with_kind (kinds.Named value) name rule = record rule { long = Some name; value_names = 1 }
with_kind (kinds.Number word) name rule = with_number word.now rule
with_kind (kinds.Worded word) name rule = record rule { long = Some word.now }
with_kind (kinds.WordedEach word) name rule = record rule { long = Some word.now; action = Some Append }
with_kind (kinds.OneOf word value words) name rule =
    record rule { long = Some word.now; value_names = 1; parser = Some (Names words) }

-- when it has to be given
abbrev pub with_need : Need → Rule → Rule
with_need needs.Always rule = record rule { required = true }
with_need needs.Never rule = rule
with_need (needs.But options) rule = record rule { is_free = rule.is_free && is_empty options.now }
with_need (needs.With option options) rule = record rule { is_free = false }
with_need (needs.Without option options) rule = record rule { is_free = false }

abbrev pub rule_of_argument : Argument → Rule
rule_of_argument row = with_need row.need (with_kind row.kind row.name.now (new_rule row.name.now))

abbrev pub shape_of_row : Subcommand → Shape
shape_of_row row = command row.name.now (map rule_of_argument row.arguments.now)

abbrev pub with_rules : App → List Rule → App
with_rules app rules = fold with_rule app rules

abbrev pub with_rows : App → List Subcommand → App
with_rows app rows = fold (λ above row. with_subcommand above (shape_of_row row)) app rows
