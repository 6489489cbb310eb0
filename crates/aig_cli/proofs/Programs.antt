-- What a program of some commands says to the parser.
use Rattle.std.proofs.Common.{◌≡◌, ◌∙◌, sym, refl, ap, ap₂, ℕ, List, [], ◌∷◌, ◌++◌, append_assoc, Bool, true, false, not}
use Rattle.std.proofs.Common.{◌&&◌, ◌||◌, codes, map, fold}
use Rattle.std.proofs.lemmas.Bool.{and_parts, not-true}
use Rattle.std.proofs.lemmas.List.{append-nil, map-append}
use Rattle.std.specs.Bool.{⊤}
use Rattle.std.specs.List.{list_all, list_any}
use Rattle.clap.specs.Simple.{App, Shape, built_leaf, filled, filled_from, help_rule, help_shape, index_after, inherited}
use Rattle.clap.specs.Simple.{is_ready_leaf, is_simple, is_simple_leaf, marked_built, new_rule, new_shape, with_index}
use Rattle.clap.specs.Simple.{has_plain_fields, new_app, shape_of, with_leaf_noted, with_subcommand}
use Rattle.clap.specs.declared.builder.command.Command.{Command}
use Rattle.clap.specs.declared.builder.command.Command.TheOpen.{Command-F}
use Rattle.clap.specs.declared.builder.command.Command.TheViews.{out-Command}
use Rattle.clap.specs.Walk.{Rule, Text, is_early_multiple, is_empty}
use Rattle.aig_cli.specs.declared.arguments.Argument.{Argument}
use Rattle.aig_cli.specs.declared.arguments.Kind.{Kind}
use Rattle.aig_cli.specs.declared.arguments.Kind.TheVariants as kinds
use Rattle.aig_cli.specs.declared.arguments.Need.{Need}
use Rattle.aig_cli.specs.declared.arguments.Need.TheVariants as wants
use Rattle.aig_cli.specs.declared.subcommands.Subcommand.{Subcommand}
use Rattle.aig_cli.specs.Table.{IsCommandLine, on_files, on_proofs, on_runs, on_witnesses, plain, program_of}
use Rattle.aig_cli.specs.Table.{rule_of_argument, shape_of_row, with_kind, with_need, with_rows, with_rules}
use Rattle.aig_cli.proofs.Tables.{row_is_simple}

-- ---- commands

-- rules that are added one by one stand after those that were there
pub rules_added : (shape : Shape) (subs : List Shape) (rules : List Rule)
    → with_rules (record { top = shape; subs = subs }) rules
    ≡ record { top = record shape { rules = shape.rules ++ rules }; subs = subs }
rules_added shape subs [] = ap (λ rules. record { top = record shape { rules = rules }; subs = subs }) (sym (append-nil shape.rules))
rules_added shape subs (rule ∷ rest) = rules_added (record shape { rules = shape.rules ++ rule ∷ [] }) subs rest
    ∙ ap (λ rules. record { top = record shape { rules = rules }; subs = subs }) (append_assoc shape.rules (rule ∷ []) rest)

-- commands that are added one by one
abbrev pub added : App → List Shape → App
added app shapes = fold with_subcommand app shapes

pub added_both : (app : App) (xs ys : List Shape) → added app (xs ++ ys) ≡ added (added app xs) ys
added_both app [] ys = refl
added_both app (x ∷ xs) ys = added_both (with_subcommand app x) xs ys

pub rows_added : (app : App) (rows : List Subcommand) → with_rows app rows ≡ added app (map shape_of_row rows)
rows_added app [] = refl
rows_added app (row ∷ rows) = rows_added (with_subcommand app (shape_of_row row)) rows

-- ---- simple programs

-- each rule has a property
abbrev pub Each : (Rule → Type 0) → List Rule → Type 0
Each P [] = ⊤
Each P (rule ∷ rules) = P rule × Each P rules

each_both : (P : Rule → Type 0) (xs ys : List Rule) → Each P xs → Each P ys → Each P (xs ++ ys)
each_both P [] ys all others = others
each_both P (x ∷ xs) ys (is, all) others = (is, each_both P xs ys all others)

-- a rule changes nothing of how words are read, and takes one value where it is found by its place
abbrev pub IsFine : Rule → Type 0
IsFine rule = (rule.is_simple ≡ true) × ((n i : ℕ) → is_early_multiple n (with_index i (filled rule)) ≡ false)

need_is_fine : (need : Need) (rule : Rule) (n i : ℕ)
    → is_early_multiple n (with_index i (filled (with_need need rule))) ≡ is_early_multiple n (with_index i (filled rule))
need_is_fine wants.Always rule n i = refl
need_is_fine wants.Never rule n i = refl
need_is_fine (wants.But options) rule n i = refl
need_is_fine (wants.With option options) rule n i = refl
need_is_fine (wants.Without option options) rule n i = refl

kind_is_fine : (kind : Kind) (name : Text) (n i : ℕ)
    → is_early_multiple n (with_index i (filled (with_kind kind name (new_rule name)))) ≡ false
kind_is_fine kinds.Text name n i = refl
kind_is_fine kinds.Flag name n i = refl
kind_is_fine (kinds.Named value) name n i = refl
kind_is_fine (kinds.Number word) name n i = refl
kind_is_fine (kinds.Worded word) name n i = refl
kind_is_fine (kinds.WordedEach word) name n i = refl
kind_is_fine (kinds.OneOf word value words) name n i = refl

row_is_fine : (row : Argument) → IsFine (rule_of_argument row)
row_is_fine row =
    (row_is_simple row, λ n i. need_is_fine row.need _ n i ∙ kind_is_fine row.kind row.name.now n i)

rows_are_fine : (rows : List Argument) → Each IsFine (map rule_of_argument rows)
rows_are_fine [] = tt
rows_are_fine (row ∷ rows) = (row_is_fine row, rows_are_fine rows)

-- rules that are filled in
in_order : (n i : ℕ) (rules : List Rule) → Each IsFine rules → list_any (is_early_multiple n) (filled_from i rules) ≡ false
in_order n i [] all = refl
in_order n i (rule ∷ rules) (fine, all) =
    ap₂ (λ a b. a || b) (fine.1 n i) (in_order n (index_after i rule) rules all)

all_simple : (i : ℕ) (rules : List Rule) → Each IsFine rules → list_all (λ a. a.is_simple) (filled_from i rules) ≡ true
all_simple i [] all = refl
all_simple i (rule ∷ rules) (fine, all) = ap₂ (λ a b. a && b) fine.0 (all_simple (index_after i rule) rules all)

plainly_simple : (rules : List Rule) → Each IsFine rules → list_all (λ a. a.is_simple) rules ≡ true
plainly_simple [] all = refl
plainly_simple (rule ∷ rules) (fine, all) = ap₂ (λ a b. a && b) fine.0 (plainly_simple rules all)

-- what stands before the commands of a program that has some
abbrev top_of_program : Shape
top_of_program = (program_of (new_shape [] ∷ [])).top

-- what a command has from above
abbrev above : Shape
above = with_leaf_noted (marked_built top_of_program)

below : (before shapes : List Shape)
    → added (record { top = top_of_program; subs = before }) shapes ≡ record { top = top_of_program; subs = before ++ shapes }
below before [] = ap (λ subs. record { top = top_of_program; subs = subs }) (sym (append-nil before))
below before (shape ∷ shapes) = below (before ++ shape ∷ []) shapes
    ∙ ap (λ subs. record { top = top_of_program; subs = subs }) (append_assoc before (shape ∷ []) shapes)

-- a program with a command has them all below the same top
program_is : (shape : Shape) (shapes : List Shape)
    → program_of (shape ∷ shapes) ≡ record { top = top_of_program; subs = shape ∷ shapes }
program_is shape shapes = below (shape ∷ []) shapes

help_is_fine : Each IsFine (help_rule ∷ [])
help_is_fine = ((refl, λ n i. refl), tt)

simple_leaf : (row : Subcommand) → is_simple_leaf (shape_of_row row) ≡ true
simple_leaf row = plainly_simple _ (rows_are_fine row.arguments.now)

ready_leaf : (row : Subcommand) → is_ready_leaf (built_leaf (inherited above (shape_of_row row))) ≡ true
ready_leaf row =
    let rules = map rule_of_argument row.arguments.now ++ help_rule ∷ [] in
    let all : Each IsFine rules = each_both IsFine _ (help_rule ∷ []) (rows_are_fine row.arguments.now) help_is_fine in
    ap₂ (λ a b. a && not b) (all_simple 1 rules all) (in_order _ 1 rules all)

simple_leaves : (rows : List Subcommand) → list_all is_simple_leaf (map shape_of_row rows) ≡ true
simple_leaves [] = refl
simple_leaves (row ∷ rows) = ap₂ (λ a b. a && b) (simple_leaf row) (simple_leaves rows)

ready_leaves : (rows : List Subcommand)
    → list_all is_ready_leaf (map built_leaf (map (inherited above) (map shape_of_row rows) ++ help_shape ∷ [])) ≡ true
ready_leaves [] = refl
ready_leaves (row ∷ rows) = ap₂ (λ a b. a && b) (ready_leaf row) (ready_leaves rows)

-- a program of rows of the tables is simple
pub rows_are_simple : (rows : List Subcommand) → is_simple (program_of (map shape_of_row rows)) ≡ true
rows_are_simple [] = refl
rows_are_simple (row ∷ rows) = ap is_simple (program_is (shape_of_row row) (map shape_of_row rows))
    ∙ ap₂ (λ a b. a && b) (simple_leaves (row ∷ rows)) (ready_leaves (row ∷ rows))

-- ---- what the parser is given

third : (a b g rest : Bool) → (a && (b && (not g && rest))) ≡ true → g ≡ false
third a b g rest all = not-true g (and_parts (not g) rest (and_parts b _ (and_parts a _ all).1).1).0

plain_has_no_globals : (c : Command-F Command) → has_plain_fields c ≡ true → c.has_globals ≡ false
plain_has_no_globals c plain = third (is_empty c.groups.items) (not c.allow_external_subcommands) c.has_globals _ plain

-- a command of the tables has no argument that counts for all
pub has_no_globals : (c : Command) (row : Subcommand) → shape_of c ≡ shape_of_row row
    → (out-Command c).has_globals ≡ false
has_no_globals c row is = plain_has_no_globals (out-Command c) (ap (λ (s : Shape). s.is_plain) is)

-- what is built of a row is the row's command
pub row_built : (row : Subcommand) (app : App)
    → app ≡ with_rules (new_app row.name.now) (map rule_of_argument row.arguments.now) → app.top ≡ shape_of_row row
row_built row app is = ap (λ (a : App). a.top) (is
    ∙ rules_added (new_shape row.name.now) [] (map rule_of_argument row.arguments.now))

-- the commands of four tables, added in turn
pub tables_added : (a b c d : List Subcommand) (app : App)
    → app ≡ with_rows (with_rows (with_rows (with_rows (program_of []) a) b) c) d
    → app ≡ program_of (map shape_of_row (a ++ (b ++ (c ++ d))))
tables_added a b c d app is =
    let base = program_of [] in
    let fa = map shape_of_row a in let fb = map shape_of_row b in let fc = map shape_of_row c in
    let fd = map shape_of_row d in
    is ∙ rows_added _ d ∙ ap (λ x. added x fd) (rows_added _ c ∙ ap (λ x. added x fc) (rows_added _ b
    ∙ ap (λ x. added x fb) (rows_added base a)))
    ∙ sym (added_both base fa (fb ++ (fc ++ fd)) ∙ added_both (added base fa) fb (fc ++ fd)
    ∙ added_both (added (added base fa) fb) fc fd)
    ∙ ap (added base) (sym (map-append shape_of_row a (b ++ (c ++ d)) ∙ ap (λ x. fa ++ x)
    (map-append shape_of_row b (c ++ d) ∙ ap (λ x. fb ++ x) (map-append shape_of_row c d))))

-- what four tables say
pub tables_plain : (a b c d : List Subcommand) → map plain (map shape_of_row a) ≡ on_files
    → map plain (map shape_of_row b) ≡ on_runs → map plain (map shape_of_row c) ≡ on_witnesses
    → map plain (map shape_of_row d) ≡ on_proofs
    → map plain (map shape_of_row (a ++ (b ++ (c ++ d)))) ≡ on_files ++ on_runs ++ on_witnesses ++ on_proofs
tables_plain a b c d is_a is_b is_c is_d =
    ap (map plain) (map-append shape_of_row a (b ++ (c ++ d)) ∙ ap (λ x. map shape_of_row a ++ x)
    (map-append shape_of_row b (c ++ d) ∙ ap (λ x. map shape_of_row b ++ x) (map-append shape_of_row c d)))
    ∙ map-append plain (map shape_of_row a) _ ∙ ap₂ (λ x y. x ++ y) is_a
    (map-append plain (map shape_of_row b) _ ∙ ap₂ (λ x y. x ++ y) is_b
    (map-append plain (map shape_of_row c) _ ∙ ap₂ (λ x y. x ++ y) is_c is_d))

pub tables_are_command_line : (a b c d : List Subcommand) (app : App)
    → app ≡ with_rows (with_rows (with_rows (with_rows (program_of []) a) b) c) d
    → map plain (map shape_of_row a) ≡ on_files → map plain (map shape_of_row b) ≡ on_runs
    → map plain (map shape_of_row c) ≡ on_witnesses → map plain (map shape_of_row d) ≡ on_proofs
    → IsCommandLine app × (is_simple app ≡ true)
tables_are_command_line a b c d app is is_a is_b is_c is_d =
    let app_is = tables_added a b c d app is in (
      (map shape_of_row (a ++ (b ++ (c ++ d))), tables_plain a b c d is_a is_b is_c is_d, app_is),
      ap is_simple app_is ∙ rows_are_simple (a ++ (b ++ (c ++ d))),
    )
