-- What the headers could break that annotate writes into files.
use Rattle.std.specs.Prelude.{ℕ, List, Option, Some, None, is_some, Result, Ok, if◌then◌else◌}
use Rattle.std.specs.FinMap.{get}
use Rattle.reuse_style.specs.declared.style.Style.{Style}
use Rattle.reuse_header.specs.Harm.{harm_of, text_stands_first}
use Rattle.reuse_header.specs.Header.{header_of}
use Rattle.reuse_header.specs.declared.harm.Harm.{Harm}
use Rattle.reuse_header.specs.declared.harm.Harm.TheVariants.{BelowText}
use Rattle.reuse_change.specs.Files.{Files}
use Rattle.reuse_edit.specs.Annotate.{target_of}
use Rattle.reuse_style.specs.Kinds.{OwnKinds}
use Rattle.reuse_command.specs.declared.command.Scope.{Scope}
use Rattle.reuse_command.specs.declared.reply.Refusal.{Refusal}
use Rattle.reuse_edit.specs.declared.target.Target.{Target}
use Rattle.reuse_edit.specs.declared.target.Target.TheVariants.{Inside}

-- what a header that is changed could break: it may be in a string, below text that is no comment
abbrev pub harm_below : Style → List ℕ → Option Harm
harm_below style bytes = if text_stands_first style bytes then Some BelowText else None

-- what a header could break in a file of these bytes: one that is changed, or else the file's first
abbrev pub harm_inside : Style → List ℕ → Option Harm
harm_inside style bytes = if is_some (header_of style bytes) then harm_below style bytes else harm_of style bytes

-- by where the licensing information goes: a neighbour breaks nothing
abbrev pub harm_at : List ℕ → Result Target Refusal → Option Harm
harm_at bytes (Ok (Inside style)) = harm_inside style bytes
harm_at bytes place = None

abbrev pub harm_where : Scope → OwnKinds → Files → List ℕ → Option (List ℕ) → Option Harm
harm_where scope own tree path None = None
harm_where scope own tree path (Some bytes) = harm_at bytes (target_of scope own tree path bytes)

abbrev pub harm_in : Scope → OwnKinds → Files → List ℕ → Option Harm
harm_in scope own tree path = harm_where scope own tree path (get tree path)
