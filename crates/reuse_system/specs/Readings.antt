-- What reading a file answers, whatever reader it is read by.
use Rattle.std.specs.Prelude.{◌≡◌, ◌⊎◌, ℕ, ◌<◌, List, length, take, Some}
use Rattle.reuse_store.specs.Store.{reading_of}
use Rattle.reuse_store.specs.declared.store.Reading.{Reading}

-- all that a reader had; or, if it had more than was said, as many bytes of its front as were said
abbrev pub IsWholeOf : ℕ → List ℕ → List ℕ → Type 0
IsWholeOf said had bytes = (bytes ≡ had) ⊎ ((said < length had) × (bytes ≡ take said had))

-- what is answered of such bytes: they are found where they are no more than the limit, and else too long
abbrev pub IsReadingOf : ℕ → ℕ → List ℕ → Reading → Type 0
IsReadingOf said limit had reading =
    (bytes : List ℕ) × IsWholeOf said had bytes × (reading ≡ reading_of (Some bytes) limit)
