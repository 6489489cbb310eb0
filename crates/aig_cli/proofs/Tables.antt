-- What the commands and arguments that are built say, over plain values.
use Rattle.std.proofs.Common.{◌≡◌, ◌∙◌, sym, arith, ◌==◌, refl, ap, suc, ℕ, Bor, is_some, length, List, [], ◌∷◌, ◌++◌}
use Rattle.std.proofs.Common.{Bool, true, false, not, ◌&&◌}
use Rattle.std.proofs.lemmas.Bool.{and_parts, and_right, eqb-true, false_from_ne_true, not-true}
use Rattle.clap.specs.Simple.{new_rule}
use Rattle.clap.specs.Walk.{Rule, Text, is_empty, rule_of}
use Rattle.clap.specs.Words.{AddsConflicts, AddsRequiredUnless, AddsRequirements}
use Rattle.clap.specs.declared.builder.arg.Arg.{Arg}
use Rattle.clap.specs.declared.builder.arg.ArgPredicate.{ArgPredicate}
use Rattle.aig_cli.specs.declared.arguments.Argument.{Argument}
use Rattle.aig_cli.specs.declared.arguments.Kind.{Kind}
use Rattle.aig_cli.specs.declared.arguments.Kind.TheVariants as kinds
use Rattle.aig_cli.specs.declared.arguments.Need.{Need}
use Rattle.aig_cli.specs.declared.arguments.Need.TheVariants as wants
use Rattle.aig_cli.specs.Table.{rule_of_argument, with_kind, with_need}

-- ---- arguments

-- a rule that is free or not
abbrev pub with_freedom : Rule → Bool → Rule
with_freedom rule free = record rule { is_free = free }

none_of_more : (n : ℕ) → (suc n == 0) ≡ false
none_of_more n = false_from_ne_true (suc n == 0) (λ is. let bad : suc n ≡ 0 = eqb-true (suc n) 0 is in absurd (omega arith))

empty_both : {X : Type 0} (xs ys : List X) → is_empty (xs ++ ys) ≡ (is_empty xs && is_empty ys)
empty_both [] ys = refl
empty_both (x ∷ xs) ys = none_of_more _ ∙ ap (λ none. none && is_empty ys) (sym (none_of_more (length xs)))

-- one condition among others
moved : (before middle more after : Bool)
    → (before && (middle && more && after)) ≡ ((before && (middle && after)) && more)
moved false middle more after = refl
moved true false more after = refl
moved true true false false = refl
moved true true false true = refl
moved true true true false = refl
moved true true true true = refl

lost : (middle after : Bool) → (middle && false && after) ≡ false
lost false after = refl
lost true after = refl

-- what else an argument asks of others
abbrev needs_none : Arg → Bool
needs_none a = is_empty a.needs.items && (is_empty a.r_ifs.items && (is_empty a.r_ifs_all.items
    && (is_empty a.r_unless.items && is_empty a.r_unless_all.items)))

pub conflicts : (old new : Arg) (xs : List (Bor Text)) → AddsConflicts old new xs
    → rule_of new ≡ with_freedom (rule_of old) ((rule_of old).is_free && is_empty xs)
conflicts old new xs (is, items) = ap rule_of is
    ∙ ap (λ none. with_freedom (rule_of old) (not old.exclusive && (none && needs_none old)))
    (ap is_empty items ∙ empty_both old.conflicts.items xs)
    ∙ ap (with_freedom (rule_of old)) (moved (not old.exclusive) (is_empty old.conflicts.items) (is_empty xs) (needs_none old))

pub needs : (old new : Arg) (x : ArgPredicate × Bor Text) → AddsRequirements old new (x ∷ [])
    → rule_of new ≡ with_freedom (rule_of old) false
needs old new x (is, items) = ap rule_of is
    ∙ ap (λ none. with_freedom (rule_of old) (not old.exclusive && (is_empty old.conflicts.items && (none && (
    is_empty old.r_ifs.items && (is_empty old.r_ifs_all.items && (is_empty old.r_unless.items
    && is_empty old.r_unless_all.items)))))))
    (ap is_empty items ∙ empty_both old.needs.items (x ∷ []))
    ∙ ap (with_freedom (rule_of old)) (and_right (not old.exclusive) _ (and_right (is_empty old.conflicts.items) _ (lost (is_empty old.needs.items) _)))

pub needed_unless : (old new : Arg) (x : Bor Text) → AddsRequiredUnless old new (x ∷ [])
    → rule_of new ≡ with_freedom (rule_of old) false
needed_unless old new x (is, items) = ap rule_of is
    ∙ ap (λ none. with_freedom (rule_of old) (not old.exclusive && (is_empty old.conflicts.items && (
    is_empty old.needs.items && (is_empty old.r_ifs.items && (is_empty old.r_ifs_all.items && (none
    && is_empty old.r_unless_all.items)))))))
    (ap is_empty items ∙ empty_both old.r_unless.items (x ∷ []))
    ∙ ap (with_freedom (rule_of old)) (and_right (not old.exclusive) _ (and_right (is_empty old.conflicts.items) _
    (and_right (is_empty old.needs.items) _ (and_right (is_empty old.r_ifs.items) _
    (and_right (is_empty old.r_ifs_all.items) _ (lost (is_empty old.r_unless.items) (is_empty old.r_unless_all.items)))))))

-- an argument that needs another, and excludes some
pub excludes : (old mid new : Arg) (xs : List (Bor Text)) → rule_of mid ≡ with_freedom (rule_of old) false
    → AddsConflicts mid new xs → rule_of new ≡ with_freedom (rule_of old) false
excludes old mid new xs is adds = conflicts mid new xs adds
    ∙ ap (λ rule. with_freedom rule (rule.is_free && is_empty xs)) is

-- no argument of a table changes how words are read
kind_is_simple : (kind : Kind) (name : Text) (rule : Rule) → (with_kind kind name rule).is_simple ≡ rule.is_simple
kind_is_simple kinds.Text name rule = refl
kind_is_simple kinds.Flag name rule = refl
kind_is_simple (kinds.Named value) name rule = refl
kind_is_simple (kinds.Number word) name rule = refl
kind_is_simple (kinds.Worded word) name rule = refl
kind_is_simple (kinds.WordedEach word) name rule = refl
kind_is_simple (kinds.OneOf word value words) name rule = refl

need_is_simple : (need : Need) (rule : Rule) → (with_need need rule).is_simple ≡ rule.is_simple
need_is_simple wants.Always rule = refl
need_is_simple wants.Never rule = refl
need_is_simple (wants.But options) rule = refl
need_is_simple (wants.With option options) rule = refl
need_is_simple (wants.Without option options) rule = refl

pub row_is_simple : (row : Argument) → (rule_of_argument row).is_simple ≡ true
row_is_simple row = need_is_simple row.need _ ∙ kind_is_simple row.kind row.name.now (new_rule row.name.now)

-- the last of ten conditions
tenth : (a b c d e f g h i j : Bool)
    → (a && (b && (c && (d && (e && (f && (g && (h && (i && not j))))))))) ≡ true → j ≡ false
tenth a b c d e f g h i j all =
    let four = (and_parts d _ (and_parts c _ (and_parts b _ (and_parts a _ all).1).1).1).1 in
    let eight = (and_parts h _ (and_parts g _ (and_parts f _ (and_parts e _ four).1).1).1).1 in
    not-true j (and_parts i _ eight).1

-- so an argument with a simple rule is not global
pub simple_is_local : (a : Arg) (rule : Rule) → rule_of a ≡ rule → rule.is_simple ≡ true → a.global ≡ false
simple_is_local a rule is all =
    let simple : (rule_of a).is_simple ≡ true = ap (λ (r : Rule). r.is_simple) is ∙ all in
    tenth (is_empty a.overrides.items) (is_empty a.default_vals_ifs.items) (is_empty a.groups.items)
    (not (is_some a.val_delim)) (not (is_some a.terminator)) (not a.allow_hyphen_values) (not a.allow_negative_numbers)
    (not a.require_equals) (not a.last) a.global simple

-- and none of the tables is
pub is_local : (a : Arg) (row : Argument) → rule_of a ≡ rule_of_argument row → a.global ≡ false
is_local a row is = simple_is_local a (rule_of_argument row) is (row_is_simple row)
