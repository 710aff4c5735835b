-- What a line asks for, without where its texts lie in memory.
use Rattle.std.specs.Prelude.{ℕ, List, Option, option_map, string_bytes}
use Rattle.reuse_command.specs.declared.request.Request.{Request}
use Rattle.reuse_arguments.specs.declared.line.ChangeStatus.{ChangeStatus}
use Rattle.reuse_arguments.specs.declared.line.Line.{Line}
use Rattle.reuse_arguments.specs.declared.line.NamesUse.{NamesUse}
use Rattle.reuse_arguments.specs.declared.line.OutputFormat.{OutputFormat}

-- the folder of the tree, what a session on it is asked for, what becomes of names without a style that this finds,
-- where the texts of a download are found, and how the answer is reported
pub record Invocation : Type 0 where
  pub root : List ℕ
  pub request : Request
  pub names : NamesUse
  pub texts : Option (List ℕ)
  pub format : OutputFormat
  pub change_status : ChangeStatus

abbrev pub asked_in : Line → Invocation
asked_in line = record {
  root = string_bytes line.root;
  request = line.request;
  names = line.names;
  texts = option_map string_bytes line.texts;
  format = line.format;
  change_status = line.change_status;
}
