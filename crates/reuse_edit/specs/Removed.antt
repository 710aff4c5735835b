-- What amend leaves of a text out of whose header something is taken: its values are amended first, and then texts, or
-- all tags, are taken out of what that makes (docs/RULES.md, "Words of a header").
use Rattle.std.specs.Prelude.{ℕ, List, length, Option, Some, None, Result, Ok, Err}
use Rattle.reuse_text.specs.Text.{spliced}
use Rattle.reuse_amend.specs.declared.amendments.Amendments.{Amendments}
use Rattle.reuse_style.specs.declared.style.Style.{Style}
use Rattle.reuse_header.specs.declared.annotation.HeaderRefusal.{HeaderRefusal}
use Rattle.reuse_header.specs.declared.amendment.AmendHeaderRefusal.{AmendHeaderRefusal}
use Rattle.reuse_header.specs.Amendment.{amended_file, amendment_of, neighbour_amendment_of}
use Rattle.reuse_header.specs.Annotation as header
use Rattle.reuse_words.specs.Amended.{without_texts_of, neighbour_without_texts_of}
use Rattle.reuse_words.specs.Removal.{untagged_of, neighbour_untagged_of, neighbour_answer}
use Rattle.reuse_words.specs.declared.removal.NeighbourChange.{NeighbourChange}
use Rattle.reuse_words.specs.declared.removal.NeighbourChange.TheVariants.{Unchanged, Changed, Emptied}
use Rattle.reuse_edit.specs.HeaderFaults.{amend_refused_by, refused_by}
use Rattle.reuse_command.specs.declared.command.HeaderRemoval.{HeaderRemoval}
use Rattle.reuse_command.specs.declared.command.HeaderRemoval.TheVariants.{Texts, Header}
use Rattle.reuse_command.specs.declared.reply.Refusal.{Refusal}

-- ---- the one, and then the other

-- what is made of a header, or why it can't be, as a refusal that names the file
abbrev pub or_refused : {A : Type 0} → List ℕ → Result A HeaderRefusal → Result A Refusal
or_refused path (Ok made) = Ok made
or_refused path (Err refusal) = Err (refused_by path refusal)

-- a text whose values are amended
abbrev pub amended_or_refused : List ℕ → Result (List ℕ) AmendHeaderRefusal → Result (List ℕ) Refusal
amended_or_refused path (Ok made) = Ok made
amended_or_refused path (Err refusal) = Err (amend_refused_by path refusal)

-- what is done next with a text, if there is one
abbrev pub in_turn : {A : Type 0} → (List ℕ → Result A Refusal) → Result (List ℕ) Refusal → Result A Refusal
in_turn next (Ok made) = next made
in_turn next (Err refusal) = Err refusal

-- ---- a header block

-- the edit that takes out what is asked for
abbrev pub removal_of : HeaderRemoval → Style → List ℕ → Result (Option header.Edit) HeaderRefusal
removal_of (Texts texts) style bytes = without_texts_of style texts bytes
removal_of Header style bytes = untagged_of style bytes

-- the text behind an edit of it
abbrev pub text_left : List ℕ → Result (Option header.Edit) HeaderRefusal → Result (List ℕ) HeaderRefusal
text_left bytes (Ok None) = Ok bytes
text_left bytes (Ok (Some edit)) = Ok (header.edited bytes edit)
text_left bytes (Err refusal) = Err refusal

-- the text that is left of these bytes, in this style
abbrev pub left_inside : Amendments → HeaderRemoval → Style → List ℕ → List ℕ → Result (List ℕ) Refusal
left_inside values removal style path bytes =
    in_turn (λ made. or_refused path (text_left made (removal_of removal style made)))
    (amended_or_refused path (amended_file bytes (amendment_of style values bytes)))

-- ---- a neighbour

-- what becomes of it where that is taken out
abbrev pub neighbour_removal_of : HeaderRemoval → List ℕ → Result NeighbourChange HeaderRefusal
neighbour_removal_of (Texts texts) beside = neighbour_answer beside (neighbour_without_texts_of texts beside)
neighbour_removal_of Header beside = neighbour_answer beside (neighbour_untagged_of beside)

-- the text that is left of it then, none where it is emptied
abbrev pub neighbour_left : List ℕ → Result NeighbourChange HeaderRefusal → Result (Option (List ℕ)) HeaderRefusal
neighbour_left beside (Ok Unchanged) = Ok (Some beside)
neighbour_left beside (Ok (Changed splice)) =
    Ok (Some (spliced beside splice.at (length splice.old) splice.new))
neighbour_left beside (Ok Emptied) = Ok None
neighbour_left beside (Err refusal) = Err refusal

-- the text that is left of a neighbour of these bytes
abbrev pub left_beside : Amendments → HeaderRemoval → List ℕ → List ℕ → Result (Option (List ℕ)) Refusal
left_beside values removal path beside =
    in_turn (λ made. or_refused path (neighbour_left made (neighbour_removal_of removal made)))
    (amended_or_refused path (amended_file beside (neighbour_amendment_of values beside)))
