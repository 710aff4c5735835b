-- Documents of a project's own files (TOML 1.0): those that bytes are, and the version of their form.
use Rattle.std.specs.Prelude.{ℕ, pos, Bool, false, List, Option, None, if◌then◌else◌}
use Rattle.std.specs.Ordering.{int_eq}
use Rattle.std.specs.Str.{is_utf8}
use Rattle.toml.specs.Data.{Data, integer, Members}
use Rattle.toml.specs.Parse.{parse_document}

-- the document that bytes are, where they are TOML
abbrev pub read_document : List ℕ → Option Members
read_document bytes = if is_utf8 bytes then parse_document bytes else None

-- the version of a file's form
abbrev pub is_version : Data → Bool
is_version (integer version) = int_eq version (pos 1)
is_version value = false
