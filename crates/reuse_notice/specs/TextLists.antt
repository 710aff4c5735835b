-- Texts without those that are removed (this project's own).
use Rattle.std.specs.Prelude.{ℕ, not, List, filter}
use Rattle.std.specs.List.{list_any}
use Rattle.std.specs.Str.{bytes_eq}

-- the texts that are not to be removed
abbrev pub without : List (List ℕ) → List (List ℕ) → List (List ℕ)
without removed texts = filter (λ text. not (list_any (λ other. bytes_eq other text) removed)) texts
