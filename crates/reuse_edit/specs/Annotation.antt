-- What annotate makes of a file, and of a neighbour: the edit that puts the licensing information and the texts beside
-- it into the header block, or the first refusal (docs/RULES.md, "What annotate writes" and "Words of a header").
use Rattle.std.specs.Prelude.{ℕ, List, Result, Ok, Err}
use Rattle.reuse_style.specs.declared.style.Style.{Style}
use Rattle.reuse_header.specs.declared.annotation.How.{How}
use Rattle.reuse_header.specs.Annotation as header
use Rattle.reuse_words.specs.Added.{text_annotation_of, neighbour_text_annotation_of}
use Rattle.reuse_words.specs.declared.refusal.TextHeaderRefusal.{TextHeaderRefusal}
use Rattle.reuse_command.specs.declared.command.HeaderAdditions.{HeaderAdditions}

-- the edit of a file, and that of a neighbour
abbrev pub annotation_of : Style → How → HeaderAdditions → List ℕ → Result header.Edit TextHeaderRefusal
annotation_of style how additions file = text_annotation_of style how additions.tags additions.texts file

abbrev pub neighbour_annotation_of : How → HeaderAdditions → List ℕ → Result header.Edit TextHeaderRefusal
neighbour_annotation_of how additions file = neighbour_text_annotation_of how additions.tags additions.texts file

-- the file that an edit makes, or the refusal
abbrev pub made_by : List ℕ → Result header.Edit TextHeaderRefusal → Result (List ℕ) TextHeaderRefusal
made_by file (Ok edit) = Ok (header.edited file edit)
made_by file (Err refusal) = Err refusal

-- the new file, and the new neighbour
abbrev pub annotated : Style → How → HeaderAdditions → List ℕ → Result (List ℕ) TextHeaderRefusal
annotated style how additions file = made_by file (annotation_of style how additions file)

abbrev pub neighbour_annotated : How → HeaderAdditions → List ℕ → Result (List ℕ) TextHeaderRefusal
neighbour_annotated how additions file = made_by file (neighbour_annotation_of how additions file)
