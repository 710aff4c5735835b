-- Where the journal of a tree lies, and what its files are called.
use Rattle.std.specs.Prelude.{ℕ, ◌+◌, ◌/◌, ◌%◌, List, [], ◌∷◌, ◌++◌, codes}

-- ---- the folders

-- the folder that the journal's folder lies in
abbrev pub above_journal : List ℕ
above_journal = codes ".reuse"

-- the name of the journal's folder there
abbrev pub journal_name : List ℕ
journal_name = codes "undo"

-- the folder of the journal
abbrev pub journal_folder : List ℕ
journal_folder = codes ".reuse/undo"

-- ---- the files there

-- the head
abbrev pub head_path : List ℕ
head_path = codes ".reuse/undo/head.json"

-- the digit of a number at this place: its ones, tens, hundreds ..
abbrev pub digit : ℕ → ℕ → ℕ
digit number place = 48 + number / place % 10

-- six digits, with zeros in front
abbrev pub six_digits : ℕ → List ℕ
six_digits number =
    digit number 100_000 ∷ digit number 10_000 ∷ digit number 1_000 ∷ digit number 100 ∷ digit number 10
    ∷ digit number 1 ∷ []

-- the file of the entry of this number
abbrev pub entry_path : ℕ → List ℕ
entry_path number = codes ".reuse/undo/" ++ six_digits number ++ codes ".json"

-- ---- new files

-- the name in the journal's folder of a file that has no name of its own yet; and how the names of further ones begin
abbrev pub new_name : List ℕ
new_name = codes "new"

abbrev pub new_numbered : List ℕ
new_numbered = codes "new."

-- the same of such a file beside the one that it is to be
abbrev pub new_beside : List ℕ
new_beside = codes ".reuse-undo-new"

abbrev pub new_beside_numbered : List ℕ
new_beside_numbered = codes ".reuse-undo-new."
