-- Where something is taken out of a header, the other bytes stay.
use Rattle.std.proofs.Common.{◌≡◌, ◌≢◌, ◌∙◌, inl, inr, ℕ, Bool, true, false, cond, List, Option, Some, None, Result, Ok}
use Rattle.std.proofs.Common.{Err, refl, sym, ap, subst}
use Rattle.std.specs.Option.{option_map, option_map_or}
use Rattle.std.specs.Str.{bytes_eq}
use Rattle.std.proofs.lemmas.Slice.Eq.{bytes_eq-Decides}
use Rattle.reuse_command.specs.Reading.{get, Files}
use Rattle.reuse_text.specs.Text.{after_mark}
use Rattle.reuse_text.proofs.TextLemmas.{text_of-lines_of}
use Rattle.reuse_notice.specs.Contents.{is_nil, free_of}
use Rattle.reuse_style.specs.declared.style.Style.{Style}
use Rattle.reuse_style.specs.Styles.{punctuation_of}
use Rattle.reuse_header.specs.declared.annotation.HeaderRefusal.{HeaderRefusal}
use Rattle.reuse_header.specs.Annotation as header
use Rattle.reuse_header.specs.Header.{HeaderSpan, header_of, span_in}
use Rattle.reuse_header.specs.Comment.{comment_written}
use Rattle.reuse_header.specs.Marks.{marks_of}
use Rattle.reuse_words.specs.Amended.{block_without, neighbour_without_texts_of, without_texts_of}
use Rattle.reuse_words.specs.Removal.{block_taken, block_untagged, neighbour_answer, neighbour_untagged_of, some_edit}
use Rattle.reuse_words.specs.Removal.{untagged_of}
use Rattle.reuse_words.proofs.FileLawLemmas.{header_gone, header_left, neighbour_bytes, neighbour_fits, neighbour_says}
use Rattle.reuse_words.proofs.FileLawLemmas.{texts_out_bytes}
use Rattle.reuse_words.proofs.NeighbourLawLemmas.{neighbour_out_bytes, neighbour_out_fits}
use Rattle.reuse_command.specs.declared.command.HeaderRemoval.{HeaderRemoval}
use Rattle.reuse_command.specs.declared.command.HeaderRemoval.TheVariants.{Texts, Header}
use Rattle.reuse_plan.specs.Amended.{IsUntagged, KeepsOfNeighbour, KeepsOutsideBlock, KeepsOutsideRemoved}
use Rattle.reuse_plan.specs.Amended.{left_unless_emptied}
use Rattle.reuse_edit.specs.AmendmentPlan.{ExpectedRemoval}
use Rattle.reuse_edit.specs.Edit.{Edit, dropped, edit_between, edit_to, file_then}
use Rattle.reuse_edit.specs.Removed.{neighbour_left, neighbour_removal_of, removal_of, text_left}
use Rattle.reuse_edit.proofs.EditedPlaces.{IsEditTo, makes_by, then_here, then_other}
use Rattle.reuse_edit.proofs.BetweenLemmas.{between, between_by, between_makes}
use Rattle.reuse_edit.proofs.EditLemmas.{edited_to}
use Rattle.reuse_edit.proofs.Results.{same_Ok}
use Rattle.reuse_plan.proofs.WholeNeighbours.{left_is, untagged_none, untagged_whole, without_whole}

-- ---- a header block

no_edit : (made : Result header.Edit HeaderRefusal) → some_edit made ≡ Ok None → ⊥
no_edit (Ok made) e = cc
no_edit (Err refusal) e = cc

-- the tags of a block are always removed
always_untagged : (style : Style) (file : List ℕ) (span : HeaderSpan) → block_untagged style file span ≡ Ok None → ⊥
unfolding block_untagged
always_untagged style file span e = by_test (is_nil (free_of (punctuation_of style) span.contents)) e
  where
    written : Result header.Edit HeaderRefusal
    written = comment_written file span (free_of (punctuation_of style) span.contents) (marks_of style span.form)

    by_test : (nil : Bool) → cond nil (Ok (Some (block_taken file span))) (some_edit written) ≡ Ok None → ⊥
    by_test true h = cc
    by_test false h = no_edit written h

module _ (style : Style) (file : List ℕ) where
  abbrev block_of : Option HeaderSpan
  block_of = option_map (span_in file) (header_of style file)

  texts_keep : (texts : List (List (List ℕ))) (edit : header.Edit) → without_texts_of style texts file ≡ Ok (Some edit)
      → KeepsOutsideBlock style file (header.edited file edit)
  texts_keep texts edit e = by_block block_of refl e
    where
      by_block : (found : Option HeaderSpan) → block_of ≡ found
          → option_map_or (block_without style texts file) found (Ok None) ≡ Ok (Some edit)
          → KeepsOutsideBlock style file (header.edited file edit)
      by_block None is h = absurd (cc)
      by_block (Some span) is h = (
        span,
        is,
        (edit.text, texts_out_bytes style texts file span edit (text_of-lines_of (after_mark file)) is e),
      )

  header_keeps : (edit : header.Edit) → untagged_of style file ≡ Ok (Some edit)
      → KeepsOutsideRemoved Header style file (header.edited file edit)
  header_keeps edit e = by_block block_of refl e
    where
      by_contents : (span : HeaderSpan) → block_of ≡ Some span → (nil : Bool)
          → is_nil (free_of (punctuation_of style) span.contents) ≡ nil
          → IsUntagged style file span (header.edited file edit)
      by_contents span is true nil =
          inr (nil, header_gone style file span edit (text_of-lines_of (after_mark file)) is e nil)
      by_contents span is false some =
          let left = header_left style file span edit (text_of-lines_of (after_mark file)) is e some in
          inl (some, (edit.text, left.1, left.0))

      by_block : (found : Option HeaderSpan) → block_of ≡ found
          → option_map_or (block_untagged style file) found (Ok None) ≡ Ok (Some edit)
          → KeepsOutsideRemoved Header style file (header.edited file edit)
      by_block None is h = absurd (cc)
      by_block (Some span) is h =
          inr (span, is, by_contents span is (is_nil (free_of (punctuation_of style) span.contents)) refl)

  -- nothing is removed where there is no block
  no_header : untagged_of style file ≡ Ok None → block_of ≡ None
  no_header e = by_block block_of refl e
    where
      by_block : (found : Option HeaderSpan) → block_of ≡ found
          → option_map_or (block_untagged style file) found (Ok None) ≡ Ok None → block_of ≡ None
      by_block None is h = is
      by_block (Some span) is h = absurd (always_untagged style file span h)

pub text_keeps : (removal : HeaderRemoval) (style : Style) (file made : List ℕ)
    → text_left file (removal_of removal style file) ≡ Ok made → KeepsOutsideRemoved removal style file made
text_keeps (Texts texts) style file made h = by_edit (without_texts_of style texts file) refl h
  where
    by_edit : (expected : ExpectedRemoval) → without_texts_of style texts file ≡ expected
        → text_left file expected ≡ Ok made → KeepsOutsideRemoved (Texts texts) style file made
    by_edit (Ok None) is e = inl (sym (same_Ok file made e))
    by_edit (Err refusal) is e = absurd (cc)
    by_edit (Ok (Some edit)) is e = inr (subst (KeepsOutsideBlock style file)
        (same_Ok (header.edited file edit) made e) (texts_keep style file texts edit is))
text_keeps Header style file made h = by_edit (untagged_of style file) refl h
  where
    by_edit : (expected : ExpectedRemoval) → untagged_of style file ≡ expected
        → text_left file expected ≡ Ok made → KeepsOutsideRemoved Header style file made
    by_edit (Ok None) is e = inl (no_header style file is, sym (same_Ok file made e))
    by_edit (Err refusal) is e = absurd (cc)
    by_edit (Ok (Some edit)) is e = subst (KeepsOutsideRemoved Header style file)
        (same_Ok (header.edited file edit) made e) (header_keeps style file edit is)

-- ---- a neighbour

pub neighbour_keeps : (removal : HeaderRemoval) (file : List ℕ) (left : Option (List ℕ))
    → neighbour_left file (neighbour_removal_of removal file) ≡ Ok left → KeepsOfNeighbour removal file left
neighbour_keeps (Texts texts) file left h = by_edit (neighbour_without_texts_of texts file) refl h
  where
    by_edit : (expected : ExpectedRemoval) → neighbour_without_texts_of texts file ≡ expected
        → neighbour_left file (neighbour_answer file expected) ≡ Ok left → KeepsOfNeighbour (Texts texts) file left
    by_edit (Ok None) is e = inl (sym (same_Ok (Some file) left e))
    by_edit (Err refusal) is e = absurd (cc)
    by_edit (Ok (Some edit)) is e =
        let bytes = neighbour_out_bytes file edit text_of-lines_of texts is in
        let within = (neighbour_out_fits file edit text_of-lines_of texts is).within in inr (
          header.edited file edit,
          (edit.text, bytes),
          left_is file edit (without_whole file texts edit is) bytes within left e,
        )
neighbour_keeps Header file left h = by_edit (neighbour_untagged_of file) refl h
  where
    by_edit : (expected : ExpectedRemoval) → neighbour_untagged_of file ≡ expected
        → neighbour_left file (neighbour_answer file expected) ≡ Ok left → KeepsOfNeighbour Header file left
    by_edit (Ok None) is e = inl (untagged_none file is, sym (same_Ok (Some file) left e))
    by_edit (Err refusal) is e = absurd (cc)
    by_edit (Ok (Some edit)) is e =
        let bytes = neighbour_bytes file edit text_of-lines_of is in
        let within = (neighbour_fits file edit text_of-lines_of is).within in
        let says = neighbour_says file edit is in inr (
          edit.text,
          record { text_is = says.0; no_tag = says.1 },
          left_is file edit (untagged_whole file edit is) bytes within left e
              ∙ ap (left_unless_emptied file) bytes,
        )

-- ---- the tree then

-- a text gives way to another one
pub between_edit : (at bytes new : List ℕ) (given : Option Edit) → edited_to (edit_between at bytes new) ≡ Ok given
    → IsEditTo at bytes new given
between_edit at bytes new given e =
    let m = makes_by at at bytes (Ok (between bytes new)) given (sym (between_by bytes new at at) ∙ e) in
    subst (λ (made : List ℕ). IsEditTo at bytes made given) (between_makes bytes new)
    (subst (λ (edit : header.Edit). IsEditTo at bytes (header.edited bytes edit) given)
    (sym (same_Ok (between bytes new) m.0 m.1)) m.2)

module _ (tree : Files) (at bytes : List ℕ) where
  -- a file holds what is left of it, and others stay
  pub left_here : (left : Option (List ℕ)) (given : Option Edit) → edited_to (edit_to at bytes left) ≡ Ok given
      → get tree at ≡ Some bytes → file_then tree given at ≡ left
  left_here (Some made) given e here = then_here tree at bytes made given (between_edit at bytes made given e) here
  left_here None given e here =
      subst (λ (g : Option Edit). file_then tree g at ≡ None) (same_Ok (Some (dropped at bytes)) given e)
      (ap (λ b. cond b None (get tree at)) ((bytes_eq-Decides at at).1 refl))

  pub left_other : (left : Option (List ℕ)) (given : Option Edit) (path : List ℕ)
      → edited_to (edit_to at bytes left) ≡ Ok given → path ≢ at → file_then tree given path ≡ get tree path
  left_other (Some made) given path e other =
      then_other tree at bytes made given path (between_edit at bytes made given e) other
  left_other None given path e other =
      subst (λ (g : Option Edit). file_then tree g path ≡ get tree path) (same_Ok (Some (dropped at bytes)) given e)
      (ap (λ b. cond b None (get tree path)) (of_test (bytes_eq path at) refl))
    where
      of_test : (b : Bool) → bytes_eq path at ≡ b → b ≡ false
      of_test true e = absurd (other ((bytes_eq-Decides path at).0 e))
      of_test false e = refl
