-- Bytes that may be dropped at the ends of a line (this project's own).
use Rattle.std.specs.Prelude.{ℕ, Bool, ◌||◌, ◌==◌}

-- CR
abbrev pub is_return : ℕ → Bool
is_return b = b == 13

-- a space or a tab
abbrev pub is_indent : ℕ → Bool
is_indent b = b == 32 || b == 9
