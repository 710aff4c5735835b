-- What the words of `annotate` and `amend` ask for (docs/REFERENCE.md). The first mistake is reported: a word that
-- names no place comes before what is to be added or changed, and that before a glob that is none.
use Rattle.std.specs.Prelude.{ℕ, List, [], Option, None, Some, Result, Ok, codes, map, if◌then◌else◌}
use Rattle.reuse_notice.specs.Adding.{Arguments, additions_of, refusal_of, without_spaces}
use Rattle.reuse_notice.specs.declared.adding.Additions.{Additions}
use Rattle.reuse_amend.specs.declared.amendments.Amendments.{Amendments}
use Rattle.reuse_notice.specs.declared.prefixes.Prefix.{Prefix}
use Rattle.reuse_notice.specs.declared.prefixes.Prefix.TheVariants.{Spdx}
use Rattle.reuse_command.specs.declared.command.Command.{Command}
use Rattle.reuse_command.specs.declared.command.Command.TheVariants.{Annotate, Amend}
use Rattle.reuse_command.specs.declared.command.FileAmendment.{FileAmendment}
use Rattle.reuse_command.specs.declared.command.FileAmendment.TheVariants.{InHeader, Everywhere, Remove}
use Rattle.reuse_command.specs.declared.command.HeaderAdditions.{HeaderAdditions}
use Rattle.reuse_command.specs.declared.command.HeaderRemoval.TheVariants.{Texts, Header}
use Rattle.reuse_command.specs.declared.command.Scope.{Scope}
use Rattle.reuse_arguments.specs.AmendSteps.{prefix_read}
use Rattle.reuse_arguments.specs.AmendWords.{amendments_read}
use Rattle.reuse_arguments.specs.Choices.{how_of, unknown_of}
use Rattle.reuse_arguments.specs.Contexts.{ContextView}
use Rattle.reuse_arguments.specs.FileWords.{globs_read, places_read, style_read}
use Rattle.reuse_arguments.specs.Found.{Rows, flag, is_given, value, values}
use Rattle.reuse_arguments.specs.LineFaults.{Mistake, then_read, unless_refused}

-- the prefix of the notices, where none is named the usual one
abbrev pub named_prefix : Option (List ℕ) → Result Prefix Mistake
named_prefix None = Ok Spdx
named_prefix (Some name) = prefix_read name

-- what is to be added, in this year
abbrev pub arguments_of : Rows → ℕ → Prefix → Arguments
arguments_of found year prefix = record {
  copyrights = map without_spaces (values found (codes "copyright"));
  licences = map without_spaces (values found (codes "license"));
  contributors = map without_spaces (values found (codes "contributor"));
  years = map without_spaces (values found (codes "year"));
  exclude = flag found (codes "exclude-year");
  current = year;
  prefix = prefix;
}

unfoldable pub additions_read : Rows → ℕ → Result Additions Mistake
additions_read found year =
    then_read (named_prefix (value found (codes "copyright-prefix")))
    (λ prefix. let given = arguments_of found year prefix in
    unless_refused (refusal_of given) (additions_of given))

-- which files are taken; the list of files is read later
unfoldable pub scope_read : Rows → Result Scope Mistake
scope_read found =
    then_read (style_read found) (λ style.
    then_read (globs_read found) (λ globs.
    Ok (record {
      recursive = flag found (codes "recursive");
      style = style;
      force_dot_license = flag found (codes "force-dot-license");
      unknown = unknown_of found;
      skip_existing = flag found (codes "skip-existing");
      listed = None;
      excluded = globs;
    })))

-- these tags; texts are read later
abbrev pub tags_alone : Additions → HeaderAdditions
tags_alone additions = record { tags = additions; texts = [] }

unfoldable pub annotate_read : Rows → ContextView → Result Command Mistake
annotate_read found context =
    then_read (places_read context.folder found) (λ places.
    then_read (additions_read found context.year) (λ additions.
    then_read (scope_read found) (λ scope.
    Ok (Annotate places (tags_alone additions) (how_of found) scope))))

-- what becomes of a file: each tag of its text is amended, or its header block, of which all tags may go then, or texts,
-- which are read later
abbrev pub amendment_of : Rows → Amendments → FileAmendment
amendment_of found amendments =
    if flag found (codes "everywhere") then Everywhere amendments
    else if flag found (codes "remove-header") then Remove amendments Header
    else if is_given found (codes "remove-text") then Remove amendments (Texts [])
    else InHeader amendments

unfoldable pub amend_read : Rows → ContextView → Result Command Mistake
amend_read found context =
    then_read (places_read context.folder found) (λ places.
    then_read (amendments_read found) (λ amendments.
    then_read (scope_read found) (λ scope.
    Ok (Amend places (amendment_of found amendments) scope))))
