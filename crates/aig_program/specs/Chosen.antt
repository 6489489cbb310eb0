-- Which options a command has, by what the matches of the parser hold for it.
-- Example: `refute --frames 20 --property 1`: K is 20 and P is 1.
use Rattle.std.specs.Prelude.{◌≡◌, ◌≢◌, ◌⊎◌, ℕ, List, [], Bool, true, false, Option, None, Some, codes, is_some, length}
use Rattle.std.specs.Prelude.{option_map, slice_get, ⊤}
use Rattle.std.specs.Option.{unwrap_or}
use Rattle.clap.specs.Matches.{first_value, found_of, matched_of, raw_values}
use Rattle.clap.specs.declared.parser.matches.ArgMatches.{ArgMatches}
use Rattle.aig_base.specs.declared.select.PropertySection.{PropertySection}
use Rattle.aig_base.specs.declared.select.PropertySection.TheVariants.{Bad, Outputs}
use Rattle.aig_format.specs.declared.reader.header.Format.{Format}
use Rattle.aig_format.specs.declared.reader.header.Format.TheVariants.{Ascii, Binary}
use Rattle.aig_signals.specs.declared.form.Form.{Form}
use Rattle.aig_signals.specs.declared.form.Form.TheVariants.{Json, Text}
use Rattle.aig_signals.specs.Property.{IsNumbered}
use Rattle.aig_command.specs.Position.{IsPositionIn}
use Rattle.aig_files.specs.Source.{source_remaining}
use Rattle.aig_files.specs.declared.source.FileSource.{FileSource}
use Rattle.aig_cli.specs.Held.{HoldsFlag, HoldsNumber}
use Rattle.aig_commands.specs.declared.check.Shown.{Shown}
use Rattle.aig_commands.specs.declared.check.Shown.TheVariants.{Properties, Trace}
use Rattle.aig_commands.specs.declared.question.Question.{Question}
use Rattle.aig_commands.specs.declared.question.Question.TheVariants as questions
use Rattle.aig_why.specs.declared.command.Span.{Span}
use Rattle.aig_program.specs.declared.commands.select.Selected.{Selected}

-- the format to write has the name that is given
abbrev pub format_name : Format → List ℕ
format_name Ascii = codes "aag"
format_name Binary = codes "aig"

abbrev pub HoldsFormat : ArgMatches → Format → Type 0
HoldsFormat matches format = first_value (found_of matches) (codes "FORMAT") ≡ Some (format_name format)

-- the section that an option names: the outputs for `outputs` alone
abbrev pub HoldsSection : ArgMatches → List ℕ → PropertySection → Type 0
HoldsSection matches name Outputs = first_value (found_of matches) name ≡ Some (codes "outputs")
HoldsSection matches name Bad = first_value (found_of matches) name ≢ Some (codes "outputs")

-- a text names the property of a section at this position: by its number, or else by its name in the circuit that is
-- read, whose bytes are all there
abbrev pub NamesIn : {F : Type 0} → PropertySection → List ℕ → FileSource F → ℕ → Type 0
NamesIn section text circuit property =
    IsNumbered section text property
    ⊎ ((file : List ℕ) × (source_remaining (λ file. None) circuit ≡ Some file)
    × IsPositionIn file section text property)

-- the bad state property
abbrev pub NamesProperty : {F : Type 0} → List ℕ → FileSource F → ℕ → Type 0
NamesProperty text circuit property = NamesIn Bad text circuit property

-- the properties to keep, in the order of their texts
abbrev pub property_texts : ArgMatches → List (List ℕ)
property_texts matches = unwrap_or (option_map raw_values (matched_of (found_of matches) (codes "P"))) []

-- each text names the position that stands where it does
abbrev pub AreEach : (List ℕ → ℕ → Type 0) → List (List ℕ) → List ℕ → Type 0
AreEach Names texts positions =
    (length positions ≡ length texts)
    × ((i p : ℕ) (text : List ℕ) → slice_get texts i ≡ Some text → slice_get positions i ≡ Some p → Names text p)

abbrev pub AreNamedIn : {F : Type 0} → PropertySection → List (List ℕ) → FileSource F → List ℕ → Type 0
AreNamedIn section texts circuit positions = AreEach (λ text p. NamesIn section text circuit p) texts positions

-- which properties of a circuit are kept, and where
abbrev pub HoldsSelection : {F : Type 0} → ArgMatches → FileSource F → Selected → Type 0
HoldsSelection matches circuit selection =
    HoldsSection matches (codes "from") selection.from × HoldsSection matches (codes "as") selection.into
    × AreNamedIn selection.from (property_texts matches) circuit selection.positions.items

-- the text of the property: `0` where it is left out
abbrev pub property_text : ArgMatches → List ℕ
property_text matches = unwrap_or (first_value (found_of matches) (codes "P")) (codes "0")

-- the property of a circuit
abbrev pub HoldsProperty : {F : Type 0} → ArgMatches → FileSource F → ℕ → Type 0
HoldsProperty matches circuit property = NamesProperty (property_text matches) circuit property

-- the property, if one is named
abbrev pub HoldsReached : {F : Type 0} → ArgMatches → FileSource F → Option ℕ → Type 0
HoldsReached matches circuit None = first_value (found_of matches) (codes "P") ≡ None
HoldsReached matches circuit (Some property) =
    (text : List ℕ) × (first_value (found_of matches) (codes "P") ≡ Some text) × NamesProperty text circuit property

-- the number of frames, and the property
abbrev pub HoldsClaim : {F : Type 0} → ArgMatches → FileSource F → ℕ → ℕ → Type 0
HoldsClaim matches circuit frames property =
    HoldsNumber matches (codes "K") (Some frames) × HoldsProperty matches circuit property

-- whether an argument is given
abbrev pub is_given : ArgMatches → List ℕ → Bool
is_given matches name = is_some (first_value (found_of matches) name)

-- whether a question is by a certificate
abbrev pub is_certified : {F : Type 0} → Question F → Bool
is_certified (questions.Certified certificate p) = true
is_certified _ = false

-- what is asked of the circuit, where `step` says whether it is the step of an induction
abbrev pub HoldsAsked : {F : Type 0} → ArgMatches → Bool → FileSource F → Question (FileSource F) → Type 0
HoldsAsked matches step circuit (questions.Within k p) =
    (step ≡ false) × HoldsFlag matches (codes "alive") false × HoldsClaim matches circuit k p
HoldsAsked matches step circuit (questions.Step k p) =
    (step ≡ true) × HoldsFlag matches (codes "alive") false × HoldsClaim matches circuit k p
HoldsAsked matches step circuit (questions.Alive k) =
    HoldsFlag matches (codes "alive") true × HoldsNumber matches (codes "K") (Some k)
HoldsAsked matches step circuit (questions.Certified certificate p) = HoldsProperty matches circuit p

-- it is by a certificate exactly if one is given
abbrev pub HoldsCertificate : {F : Type 0} → ArgMatches → Question F → Type 0
HoldsCertificate matches question = is_certified question ≡ is_given matches (codes "certificate")

-- both, by the flag of the step
abbrev pub HoldsQuestion : {F : Type 0} → ArgMatches → FileSource F → Question (FileSource F) → Type 0
HoldsQuestion matches circuit question =
    (step : Bool) × HoldsFlag matches (codes "step") step × HoldsAsked matches step circuit question
    × HoldsCertificate matches question

-- the frame to explain, and how many frames to go back
abbrev pub HoldsSpan : ArgMatches → Span → Type 0
HoldsSpan matches span = HoldsNumber matches (codes "T") span.frame × HoldsNumber matches (codes "D") span.depth

-- lines are JSON exactly if that flag is given
abbrev pub HoldsForm : ArgMatches → Form → Type 0
HoldsForm matches Text = HoldsFlag matches (codes "json") false
HoldsForm matches Json = HoldsFlag matches (codes "json") true

-- there is a trace exactly if that flag is given, and it shows properties exactly if theirs is
abbrev pub HoldsShown : ArgMatches → Option Shown → Type 0
HoldsShown matches None = HoldsFlag matches (codes "trace") false
HoldsShown matches (Some Trace) = HoldsFlag matches (codes "trace") true × HoldsFlag matches (codes "properties") false
HoldsShown matches (Some Properties) = HoldsFlag matches (codes "trace") true × HoldsFlag matches (codes "properties") true
