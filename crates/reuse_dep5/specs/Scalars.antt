-- That what a pattern names are characters: Unicode scalar values, as `char` has them.
use Rattle.std.specs.Prelude.{ℕ, Bool, List, [], ◌∷◌}
use Rattle.std.specs.List.{list_all}
use Rattle.std.specs.Str.{all_scalars}
use Rattle.reuse_dep5.specs.declared.pattern.PatternPiece.{PatternPiece}
use Rattle.reuse_dep5.specs.declared.pattern.PatternPiece.TheVariants.{Literal}
use Rattle.reuse_dep5.specs.PatternValue.{PatternValue}
use Rattle.reuse_dep5.specs.Dep5.{FilesValue}

-- the characters that a pattern names
abbrev pub literals : List PatternPiece → List ℕ
literals [] = []
literals (Literal c ∷ pieces) = c ∷ literals pieces
literals (_ ∷ pieces) = literals pieces

-- whether what the patterns name are characters
abbrev pub names_characters : PatternValue → Bool
names_characters pattern = all_scalars (literals pattern.pieces)

abbrev pub name_characters : List FilesValue → Bool
name_characters files = list_all (λ (f : FilesValue). list_all names_characters f.patterns) files
