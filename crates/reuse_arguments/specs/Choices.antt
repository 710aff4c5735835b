-- What flags choose (docs/REFERENCE.md).
use Rattle.std.specs.Prelude.{Bool, false, not, ◌||◌, Option, None, Some, codes, if◌then◌else◌}
use Rattle.reuse_header.specs.declared.annotation.How.{How}
use Rattle.reuse_style.specs.declared.marks.Form.{Form}
use Rattle.reuse_style.specs.declared.marks.Form.TheVariants as forms
use Rattle.reuse_command.specs.declared.command.Unknown.{Unknown}
use Rattle.reuse_command.specs.declared.command.Unknown.TheVariants as unknowns
use Rattle.reuse_arguments.specs.Found.{Rows, flag}
use Rattle.reuse_system.specs.declared.owner.OwnerChange.TheVariants as owner_changes
use Rattle.reuse_system.specs.declared.syncs.Syncs.TheVariants as syncs
use Rattle.reuse_arguments.specs.declared.line.ChangeStatus.{ChangeStatus}
use Rattle.reuse_arguments.specs.declared.line.ChangeStatus.TheVariants as statuses
use Rattle.reuse_arguments.specs.declared.line.OutputFormat.{OutputFormat}
use Rattle.reuse_arguments.specs.declared.line.OutputFormat.TheVariants as formats
use Rattle.reuse_arguments.specs.declared.settings.Settings.{Settings}

-- what is asked for of all calls alike where no option says otherwise
abbrev pub usual_settings : Settings
usual_settings = record { syncs = syncs.Kept; owner_change = owner_changes.Refused; trusts_journal = false }

-- what is asked for of all calls alike, by the options before the subcommand
abbrev pub settings_of : Rows → Settings
settings_of found = record {
  syncs = if flag found (codes "no-sync") then syncs.LeftOut else syncs.Kept;
  owner_change = if flag found (codes "allow-owner-change") then owner_changes.Allowed else owner_changes.Refused;
  trusts_journal = flag found (codes "trust-journal");
}

-- whether the call is only looked at
abbrev pub is_dry_run : Rows → Bool
is_dry_run found = flag found (codes "dry-run") || flag found (codes "check")

-- the status where a path changed, or would change
abbrev pub change_status_of : Rows → ChangeStatus
change_status_of found =
    if flag found (codes "check") || flag found (codes "exit-non-zero-on-change") then statuses.One else statuses.Zero

-- JSON comes before a diff
abbrev pub format_of : Rows → OutputFormat
format_of found =
    if flag found (codes "json") then formats.Json
    else if flag found (codes "diff") then formats.Diff
    else formats.Lines

-- the form of the comments, where one is asked for
abbrev pub form_of : Rows → Option Form
form_of found =
    if flag found (codes "single-line") then Some forms.Single
    else if flag found (codes "multi-line") then Some forms.Multi
    else None

-- how licensing information is added
abbrev pub how_of : Rows → How
how_of found = record {
  form = form_of found;
  merge = flag found (codes "merge-copyrights");
  replace = not (flag found (codes "no-replace"));
}

-- what is done with a text file whose name has no style
abbrev pub unknown_of : Rows → Unknown
unknown_of found =
    if flag found (codes "fallback-dot-license") then unknowns.Neighbour
    else if flag found (codes "skip-unrecognised") then unknowns.Skip
    else unknowns.Refuse
