-- Where a path that started in the start folder leads from where the system shows the handles of the process.
use Rattle.std.specs.Prelude.{ℕ, ℤ, if◌then◌else◌, ◌==◌, List, ◌++◌, codes, slice_index}
use Rattle.std.specs.Fmt.{signed_decimal}

-- through the handle of the start folder, if it doesn't start at the root of the file system
abbrev pub path_from : (handle : ℤ) → (path : List ℕ) → List ℕ
path_from handle path = if slice_index path 0 == 47 then path else signed_decimal handle ++ (codes "/" ++ path)
