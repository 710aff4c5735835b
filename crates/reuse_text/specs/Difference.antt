-- What differs between two texts: what is left of each behind the bytes that both begin with, and before those that
-- both then end with (this project's own).
use Rattle.std.specs.Prelude.{ℕ, ◌-◌, nat_eq, List, length, drop, reverse}
use Rattle.std.specs.List.{common_prefix_len}
use Rattle.reuse_text.specs.declared.difference.Difference.{Difference}

-- how many bytes both begin with
abbrev pub same_front : List ℕ → List ℕ → ℕ
same_front old new = common_prefix_len nat_eq old new

-- how many bytes both end with
abbrev pub same_end : List ℕ → List ℕ → ℕ
same_end old new = same_front (reverse old) (reverse new)

-- how many bytes both end with, of those behind the ones that both begin with
abbrev pub same_end_behind : ℕ → List ℕ → List ℕ → ℕ
same_end_behind front old new = same_end (drop front old) (drop front new)

unfoldable pub difference_of : List ℕ → List ℕ → Difference
difference_of old new =
    let front = same_front old new in
    let end = same_end_behind front old new in
    record { at = front; old_len = length old - front - end; new_len = length new - front - end }
