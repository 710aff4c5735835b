use Rattle.std.proofs.Common.{ℕ, List, Option, subst, inr}
use Rattle.clap.specs.Simple.{subcommand_rows_of}
use Rattle.reuse_arguments.specs.Asking.{asked_in}
use Rattle.reuse_arguments.specs.CommandLine.{line_read}
use Rattle.reuse_arguments.specs.Found.{found_in}
use Rattle.reuse_arguments.specs.LineFaults.{IsExpectedAs}
use Rattle.reuse_arguments.proofs.words.said_in.Goals as goal

pub returns-in-Ok : goal.returns-in-Ok
returns-in-Ok c =
    let year = c.of-context.result.year in
    let line = subst (λ (folder : Option (List ℕ)). IsExpectedAs asked_in
    (line_read (found_in c.args.matches.now) (subcommand_rows_of c.args.matches.now) c.args.moment
    (record { year = year; folder = folder })) c.read_line.result) c.of-context.ensures.folder c.read_line.ensures in
    inr (
      year,
      c.of-context.ensures.year,
      record {
        verbose = c.flag.ensures;
        up = c.flag-in-Ok.ensures;
        settings = c.read_settings.ensures;
        files_from = c.in-Ok.ensures.0;
        text_files = c.in-Ok.ensures.1;
        line = line;
      },
    )
