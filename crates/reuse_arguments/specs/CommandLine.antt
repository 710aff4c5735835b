-- From what clap found on a command line to what is asked for (docs/REFERENCE.md).
use Rattle.std.specs.Prelude.{◌≡◌, ◌⊎◌, ℕ, false, List, [], Option, None, Some, Result, Ok, Err, codes, map}
use Rattle.std.specs.Prelude.{option_map, string_bytes, if◌then◌else◌, String}
use Rattle.std.specs.Str.{bytes_eq}
use Rattle.std.specs.declared.alloc.Global.{Global}
use Rattle.clap.specs.Simple.{app_of, HasMatchesOf, subcommand_rows_of}
use Rattle.clap.specs.Values.{kind_of}
use Rattle.clap.specs.declared.builder.command.Command.{Command}
use Rattle.clap.specs.declared.error.Error.{Error}
use Rattle.clap.specs.declared.parser.matches.ArgMatches.{ArgMatches}
use Rattle.reuse_command.specs.declared.command.Command.{Command as SessionCommand}
use Rattle.reuse_command.specs.declared.command.Command.TheVariants.{ConvertDep5, Download}
use Rattle.reuse_command.specs.declared.request.Call.{Call}
use Rattle.reuse_command.specs.declared.request.Call.TheVariants as calls
use Rattle.reuse_command.specs.declared.request.Request.{Request}
use Rattle.reuse_command.specs.declared.request.Request.TheVariants as requests
use Rattle.reuse_arguments.specs.Asking.{Invocation, asked_in}
use Rattle.reuse_arguments.specs.Choices.{change_status_of, format_of, is_dry_run, settings_of, usual_settings}
use Rattle.reuse_arguments.specs.CommandWords.{amend_read, annotate_read}
use Rattle.reuse_arguments.specs.Contexts.{ContextView}
use Rattle.reuse_shown.specs.Dates.{IsYearOf}
use Rattle.reuse_arguments.specs.FileWords.{files_from_of, ids_of, root_of, step_read, steps_read, text_files_of}
use Rattle.reuse_arguments.specs.FileWords.{texts_folder_read}
use Rattle.reuse_arguments.specs.Found.{Rows, flag, found_in}
use Rattle.reuse_arguments.specs.LineFaults.{IsExpectedAs, IsReportedAs, Mistake, then_read, unread}
use Rattle.reuse_arguments.specs.Requests.{made_or_seen}
use Rattle.reuse_arguments.specs.StyleWords.{names_use_of, styles_read}
use Rattle.reuse_arguments.specs.declared.line.Line.{Line}
use Rattle.reuse_arguments.specs.declared.line.LineFault.{LineFault}
use Rattle.reuse_arguments.specs.declared.line.LineFault.TheVariants as faults
use Rattle.reuse_arguments.specs.declared.words.ParsedArguments.{ParsedArguments}

-- a download of these licences; the texts are found later
abbrev pub download_of : Rows → SessionCommand
download_of found = Download (ids_of found) []

-- what changes the tree, by the name of the subcommand
unfoldable pub call_read : List ℕ → Rows → ContextView → Result Call Mistake
call_read name found context =
    if bytes_eq name (codes "annotate") then then_read (annotate_read found context) (λ command. Ok (calls.Run command))
    else if bytes_eq name (codes "amend") then then_read (amend_read found context) (λ command. Ok (calls.Run command))
    else if bytes_eq name (codes "convert-dep5") then Ok (calls.Run ConvertDep5)
    else if bytes_eq name (codes "download") then Ok (calls.Run (download_of found))
    else if bytes_eq name (codes "undo") then Ok calls.Undo
    else if bytes_eq name (codes "redo") then Ok calls.Redo
    else if bytes_eq name (codes "revert")
    then then_read (step_read found) (λ number. Ok (calls.Revert number (flag found (codes "skip-moved"))))
    else Err (unread (codes "a subcommand that nothing reads"))

-- the history is looked at, or steps of it are forgotten, or what a stopped run left is rolled back, or an annotation
-- is previewed that finds names without a style; else the call is made at this moment, or in a dry run it is previewed
unfoldable pub request_read : List ℕ → Rows → ℕ → ContextView → Result Request Mistake
request_read name found moment context =
    if bytes_eq name (codes "log") then Ok requests.Log
    else if bytes_eq name (codes "show") then then_read (step_read found) (λ number. Ok (requests.Show number))
    else if bytes_eq name (codes "forget") then then_read (steps_read found) (λ steps. Ok (requests.Forget steps))
    else if bytes_eq name (codes "recover") then Ok (requests.Recover (flag found (codes "skip-moved")))
    else if bytes_eq name (codes "styles")
    then then_read (styles_read found context) (λ annotation. Ok (requests.Preview (calls.Run annotation)))
    else then_read (call_read name found context) (λ asked. Ok (made_or_seen asked moment (is_dry_run found)))

-- the licences of a download are copied from this folder
unfoldable pub texts_read : List ℕ → Rows → Result (Option (List ℕ)) Mistake
texts_read name found =
    if bytes_eq name (codes "download") then then_read (texts_folder_read found) (λ folder. Ok (Some folder))
    else Ok None

-- what the subcommand of this name asks for in the tree under the folder, at this moment
unfoldable pub subcommand_read : List ℕ → List ℕ → Rows → ℕ → ContextView → Result Invocation Mistake
subcommand_read root name found moment context =
    then_read (request_read name found moment context) (λ request.
    then_read (texts_read name found) (λ texts. Ok (record {
      root = root;
      request = request;
      names = names_use_of name found moment;
      texts = texts;
      format = format_of found;
      change_status = change_status_of found;
    })))

-- what the whole line asks for: the root stands before the subcommand
unfoldable pub line_read : Rows → Option (List ℕ × Rows) → ℕ → ContextView → Result Invocation Mistake
line_read above None moment context = Err (unread (codes "no subcommand"))
line_read above (Some sub) moment context = subcommand_read (root_of above) sub.0 sub.1 moment context

-- what the words say, of which clap found this
pub record IsParsed (above : Rows) (sub : Option (List ℕ × Rows)) (moment : ℕ) (context : ContextView)
    (said : ParsedArguments) : Type 0 where
  pub verbose : said.verbose ≡ flag above (codes "verbose")
  pub up : said.up ≡ flag above (codes "up")
  pub settings : said.settings ≡ settings_of above
  pub files_from : option_map string_bytes said.files_from ≡ files_from_of sub
  pub text_files : map string_bytes said.text_files ≡ text_files_of sub
  pub line : IsExpectedAs asked_in (line_read above sub moment context) said.line

-- words that are no line; nothing else is read of them
abbrev pub no_line : LineFault → ParsedArguments
no_line fault = record {
  verbose = false;
  up = false;
  settings = usual_settings;
  files_from = None;
  text_files = [];
  line = Err fault;
}

-- the same of the tree below this root
abbrev pub line_at : Result Line LineFault → String Global → Result Line LineFault
line_at (Ok line) root = Ok (record line { root = root })
line_at (Err fault) root = Err fault

abbrev pub said_at : ParsedArguments → String Global → ParsedArguments
said_at said root = record said { line = line_at said.line root }

-- what the words say in the year of the moment, where words of files start at the folder; an allocation failure may
-- take its place
abbrev pub Says : ArgMatches → ℕ → Option (List ℕ) → ParsedArguments → Type 0
Says matches moment folder said =
    (said ≡ no_line faults.Memory)
    ⊎ ((year : ℕ) × IsYearOf moment year × IsParsed (found_in matches) (subcommand_rows_of matches) moment
    (record { year = year; folder = folder }) said)

-- clap found this in the words, by the options of some command; of one that has groups or global options,
-- as this program's has, clap's clause says nothing
abbrev pub IsFoundIn : List (List ℕ) → ArgMatches → Type 0
IsFoundIn words matches = (command : Command) × HasMatchesOf (app_of command) words matches

-- the words are no line: help or a mistake by the kind of clap's error; an allocation failure may take its place
abbrev pub IsRefused : Error → ParsedArguments → Type 0
IsRefused error said =
    (said ≡ no_line faults.Memory) ⊎ ((fault : LineFault) × IsReportedAs (kind_of error) fault × (said ≡ no_line fault))

-- what the words say, to which clap answered this
abbrev pub IsReadAs : Result ArgMatches Error → ℕ → Option (List ℕ) → ParsedArguments → Type 0
IsReadAs (Ok matches) moment folder said = Says matches moment folder said
IsReadAs (Err error) moment folder said = IsRefused error said
