-- What a command asks for, and the words of its line (our own choice).
use Rattle.std.specs.Prelude.{◌≡◌, ◌≢◌, ℕ, List, map, codes, option_map, Result, Ok, Err}
use Rattle.aig_shell.specs.declared.request.command.ShellCommand.{ShellCommand}
use Rattle.aig_shell.specs.declared.request.command.ShellCommand.TheVariants as commands
use Rattle.aig_shell.specs.declared.request.command.Edit.{Edit}
use Rattle.aig_shell.specs.declared.request.command.Edit.TheVariants as edits
use Rattle.aig_shell.specs.declared.request.command.Export.{Export}
use Rattle.aig_shell.specs.declared.request.command.Export.TheVariants as exports
use Rattle.aig_shell.specs.declared.request.command.ShellQuery.{ShellQuery}
use Rattle.aig_shell.specs.declared.request.command.ShellQuery.TheVariants as queries
use Rattle.aig_shell.specs.declared.refusal.Refusal.{Refusal}
use Rattle.aig_shell.specs.declared.refusal.Refusal.TheVariants as refusals
use Rattle.aig_shell.specs.declared.request.topic.Topic.{Topic}
use Rattle.aig_shell.specs.declared.request.topic.Topic.TheVariants as topics
use Rattle.aig_shell.specs.Ends.{asks_why}
use Rattle.aig_shell.specs.Request as request
use Rattle.aig_shell.specs.Request.{Request, IsRequest, IsNoRequest, request_words}

-- the first word of a line
abbrev pub topic_word : Topic → List ℕ
topic_word topics.Show = codes "show"
topic_word topics.Why = codes "why"
topic_word topics.Set = codes "set"
topic_word topics.Start = codes "start"
topic_word topics.Add = codes "add"
topic_word topics.Drop = codes "drop"
topic_word topics.Gate = codes "gate"
topic_word topics.New = codes "new"
topic_word topics.Out = codes "out"
topic_word topics.Check = codes "check"
topic_word topics.Diff = codes "diff"
topic_word topics.Save = codes "save"
topic_word topics.Witness = codes "witness"
topic_word topics.Wave = codes "wave"
topic_word topics.Names = codes "names"
topic_word topics.Help = codes "help"
topic_word topics.Quit = codes "quit"

-- what a line asks of a session, does to it, and writes to files
abbrev pub query_of : ShellQuery → Request
query_of (queries.Show names frames) = request.show (map (λ w. w.now) names.now) (option_map (λ w. w.now) frames)
query_of (queries.Why name frame) = asks_why (option_map (λ w. w.now) name) (option_map (λ w. w.now) frame)
query_of (queries.Gate name) = request.gate name.now
query_of queries.Check = request.check
query_of (queries.Diff frames) = request.diff (option_map (λ w. w.now) frames)
query_of (queries.Names text) = request.list_names (option_map (λ w. w.now) text)
query_of (queries.Help command) = request.help (option_map (λ w. w.now) command)

abbrev pub edit_of : Edit → Request
edit_of (edits.Set frames name value) = request.set frames.now name.now value.now
edit_of (edits.Start name value) = request.start name.now value.now
edit_of (edits.Add count) = request.add (option_map (λ w. w.now) count)
edit_of (edits.Drop count) = request.drop (option_map (λ w. w.now) count)
edit_of (edits.Rewire name side0 side1) = request.rewire name.now side0.now side1.now
edit_of (edits.New side0 side1) = request.append side0.now side1.now
edit_of (edits.Out name literal) = request.out name.now literal.now

abbrev pub export_of : Export → Request
export_of (exports.Save circuit stimulus) = request.save circuit.now (option_map (λ w. w.now) stimulus)
export_of (exports.Witness file name) = request.witness file.now (option_map (λ w. w.now) name)
export_of (exports.Wave file) = request.wave file.now

-- what a line asks for
abbrev pub request_of : ShellCommand → Request
request_of (commands.Query query) = query_of query
request_of (commands.Edit edit) = edit_of edit
request_of (commands.Export export) = export_of export
request_of commands.Quit = request.quit

-- the words of a line are those of what the command asks for; or they ask for nothing
abbrev pub EndsCommand : List (List ℕ) → Result ShellCommand Refusal → Type 0
EndsCommand words (Ok command) = IsRequest (request_of command) × (words ≡ request_words (request_of command))
EndsCommand words (Err refusal) = IsNoRequest words × (refusal ≢ refusals.Memory)
