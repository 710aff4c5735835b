-- The request of a line, made whole.
use Rattle.std.specs.Prelude.{ℕ, Bool, List, Some, if◌then◌else◌}
use Rattle.reuse_command.specs.declared.command.Command.{Command}
use Rattle.reuse_command.specs.declared.command.Command.TheVariants.{Amend, Annotate, Download}
use Rattle.reuse_command.specs.declared.command.FileAmendment.{FileAmendment}
use Rattle.reuse_command.specs.declared.command.FileAmendment.TheVariants.{Remove}
use Rattle.reuse_command.specs.declared.command.HeaderRemoval.TheVariants.{Texts}
use Rattle.reuse_command.specs.declared.licence.LicenceText.{LicenceText}
use Rattle.reuse_command.specs.declared.request.Call.{Call}
use Rattle.reuse_command.specs.declared.request.Call.TheVariants as calls
use Rattle.reuse_command.specs.declared.request.Request.{Request}
use Rattle.reuse_command.specs.declared.request.Request.TheVariants as requests

-- to make the call at this moment, or in a dry run what it would do
abbrev pub made_or_seen : Call → ℕ → Bool → Request
made_or_seen call moment dry_run = if dry_run then requests.Preview call else requests.Make call moment

-- a call, and a request, whose command is changed, if it has one
abbrev pub call_with : (Command → Command) → Call → Call
call_with change (calls.Run command) = calls.Run (change command)
call_with change call = call

abbrev pub request_with : (Command → Command) → Request → Request
request_with change (requests.Make call when) = requests.Make (call_with change call) when
request_with change (requests.Preview call) = requests.Preview (call_with change call)
request_with change request = request

-- ---- with the texts that were found for a download

abbrev pub command_with_texts : List LicenceText → Command → Command
command_with_texts texts (Download ids none) = Download ids texts
command_with_texts texts command = command

abbrev pub with_texts : List LicenceText → Request → Request
with_texts texts request = request_with (command_with_texts texts) request

-- ---- with a list of files

-- a command that names files beneath folders: of these it goes through those of the list
abbrev pub command_listed : List (List ℕ) → Command → Command
command_listed paths (Annotate places additions how scope) =
    Annotate places additions how (record scope { listed = Some paths })
command_listed paths (Amend places amendment scope) = Amend places amendment (record scope { listed = Some paths })
command_listed paths command = command

abbrev pub request_listed : List (List ℕ) → Request → Request
request_listed paths request = request_with (command_listed paths) request

-- ---- with the texts of headers

-- an amendment that takes texts out: it takes out these
abbrev pub amendment_with_header_texts : List (List (List ℕ)) → FileAmendment → FileAmendment
amendment_with_header_texts texts (Remove values (Texts none)) = Remove values (Texts texts)
amendment_with_header_texts texts amendment = amendment

-- a command that adds texts or takes them out
abbrev pub command_with_header_texts : List (List (List ℕ)) → Command → Command
command_with_header_texts texts (Annotate places additions how scope) =
    Annotate places (record additions { texts = texts }) how scope
command_with_header_texts texts (Amend places amendment scope) =
    Amend places (amendment_with_header_texts texts amendment) scope
command_with_header_texts texts command = command

abbrev pub request_with_header_texts : List (List (List ℕ)) → Request → Request
request_with_header_texts texts request = request_with (command_with_header_texts texts) request
