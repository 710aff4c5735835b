-- What files give the command of a request.
use Rattle.reuse_command.specs.declared.command.Command.{Command}
use Rattle.reuse_arguments.specs.Requests.{command_listed, command_with_header_texts, command_with_texts}
use Rattle.reuse_arguments.specs.declared.request.FoundPart.{FoundPart}
use Rattle.reuse_arguments.specs.declared.request.FoundPart.TheVariants.{LicenceTexts, Listed, HeaderTexts}

abbrev pub command_with : FoundPart → Command → Command
command_with (LicenceTexts texts) command = command_with_texts texts command
command_with (Listed paths) command = command_listed paths command
command_with (HeaderTexts texts) command = command_with_header_texts texts command
