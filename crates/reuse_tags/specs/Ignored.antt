-- The regions of a text that REUSE's tools don't read, from `REUSE-IgnoreStart` to `REUSE-IgnoreEnd` (the reuse tool's
-- manual; that they end with the line of the end: this project's own).
use Rattle.std.specs.Prelude.{ℕ, Bool, true, false, not, List, take, drop, codes}
use Rattle.std.specs.Option.{option_map_or}
use Rattle.reuse_notice.specs.Adding.{ignore_start}
use Rattle.reuse_style.specs.Search.{place_of, holds}

abbrev pub ignore_end : List ℕ
ignore_end = codes "REUSE-IgnoreEnd"

-- what is read of a line: what stands in front of a region that isn't
abbrev pub read_part : List ℕ → List ℕ
read_part line = option_map_or (λ place. take place line) (place_of ignore_start line) line

-- whether the next line is in such a region, if a line is or isn't: it ends with the line that ends it
abbrev pub ignores_next : Bool → List ℕ → Bool
ignores_next true line = not (holds ignore_end line)
ignores_next false line =
    option_map_or (λ place. not (holds ignore_end (drop place line))) (place_of ignore_start line) false
