-- An amendment that takes no texts out of headers makes the tree that amending their values makes.
use Rattle.std.proofs.Common.{◌≡◌, ◌∙◌, ◌⊎◌, inl, inr, ℕ, Bool, true, false, cond, List, [], Option, Some, None, Ok}
use Rattle.std.proofs.Common.{Err, refl, sym, ap, subst}
use Rattle.std.specs.Option.{option_map, option_map_or}
use Rattle.std.proofs.lemmas.Slice.Eq.{bytes_eq-Decides, slice_eq-Decides}
use Rattle.reuse_command.specs.Reading.{Files}
use Rattle.reuse_amend.specs.declared.amendments.Amendments.{Amendments}
use Rattle.reuse_notice.specs.Infos.{info_of}
use Rattle.reuse_style.specs.declared.style.Style.{Style}
use Rattle.reuse_style.specs.Kinds.{OwnKinds}
use Rattle.reuse_style.specs.Styles.{punctuation_of}
use Rattle.reuse_header.specs.declared.annotation.HeaderRefusal.TheVariants.{NotText}
use Rattle.reuse_header.specs.Annotation.{written_by}
use Rattle.reuse_header.specs.Header.{HeaderSpan, header_of, span_in}
use Rattle.reuse_header.specs.Marks.{marks_of}
use Rattle.reuse_header.specs.Neighbour.{is_text, neighbour_written, replaced_contents}
use Rattle.reuse_words.specs.Amended.{block_without, free_to_write, neighbour_without_texts_of, written_if_some}
use Rattle.reuse_words.specs.Information.{with_free}
use Rattle.reuse_words.specs.Removal.{neighbour_answer}
use Rattle.reuse_command.specs.declared.command.FileAmendment.TheVariants.{InHeader, Remove}
use Rattle.reuse_command.specs.declared.command.HeaderRemoval.TheVariants.{Texts}
use Rattle.reuse_command.specs.declared.command.Place.{Place}
use Rattle.reuse_command.specs.declared.command.Scope.{Scope}
use Rattle.reuse_plan.specs.Amended.{Amends, BecomesNeighbour, IsAmended, IsBlockAmended, IsCoveredAmended}
use Rattle.reuse_plan.specs.Amended.{IsFileAmended, IsLeftOfBlock, IsLeftOfNeighbour, IsNeighbourAmended}
use Rattle.reuse_edit.specs.AmendmentPlan.{ExpectedRemoval}
use Rattle.reuse_plan.specs.Annotated.{Pair}
use Rattle.reuse_edit.specs.Removed.{neighbour_left, neighbour_removal_of, removal_of, text_left}
use Rattle.reuse_edit.proofs.Results.{same_Ok}

-- ---- a header block

same_free : (free : List (List ℕ)) → free_to_write free free ≡ None
same_free free = ap (λ b. cond b None (Some free)) ((slice_eq-Decides bytes_eq-Decides free free _ refl).1 refl)

module _ (style : Style) (file : List ℕ) where
  block_kept : (span : HeaderSpan) → block_without style [] file span ≡ Ok None
  unfolding block_without
  block_kept span =
      let punct = punctuation_of style in
      let info = info_of punct span.contents in
      ap (written_if_some (λ free. written_by style file (Some span) (with_free punct info free)
      (marks_of style span.form))) (same_free info.free)

  nothing_out : removal_of (Texts []) style file ≡ Ok None
  nothing_out = by_block (option_map (span_in file) (header_of style file))
    where
      by_block : (found : Option HeaderSpan) → option_map_or (block_without style [] file) found (Ok None) ≡ Ok None
      by_block None = refl
      by_block (Some span) = block_kept span

-- ---- a neighbour

if_text : (text : Bool) (made : ExpectedRemoval) → made ≡ Ok None
    → (cond text made (Err NotText) ≡ Ok None) ⊎ (cond text made (Err NotText) ≡ Err NotText)
if_text true made e = inl e
if_text false made e = inr refl

beside_out : (file : List ℕ) → (neighbour_without_texts_of [] file ≡ Ok None)
    ⊎ (neighbour_without_texts_of [] file ≡ Err NotText)
unfolding neighbour_without_texts_of
beside_out file =
    let info = info_of [] (replaced_contents true file) in
    let write = λ (free : List (List ℕ)). neighbour_written true file (with_free [] info free) in
    if_text (is_text file) (written_if_some write (free_to_write info.free info.free))
    (ap (written_if_some write) (same_free info.free))

beside_kept : (file : List ℕ) (left : Option (List ℕ))
    → neighbour_left file (neighbour_removal_of (Texts []) file) ≡ Ok left → left ≡ Some file
beside_kept file left h = by_edit (neighbour_without_texts_of [] file) (beside_out file) h
  where
    by_edit : (made : ExpectedRemoval) → (made ≡ Ok None) ⊎ (made ≡ Err NotText)
        → neighbour_left file (neighbour_answer file made) ≡ Ok left → left ≡ Some file
    by_edit (Ok None) which e = sym (same_Ok (Some file) left e)
    by_edit (Ok (Some edit)) (inl none) e = absurd (cc)
    by_edit (Ok (Some edit)) (inr refused) e = absurd (cc)
    by_edit (Err refusal) which e = absurd (cc)

-- ---- the tree

module _ (values : Amendments) (scope : Scope) (own : OwnKinds) (path : List ℕ) (old new : Pair) where
  block_as : (bytes made : List ℕ) → IsLeftOfBlock values (Texts []) scope own path bytes made
      → IsBlockAmended values scope own path bytes made
  block_as bytes made is = subst (IsBlockAmended values scope own path bytes)
      (same_Ok is.amended made (sym (ap (text_left is.amended) (nothing_out is.by_values.style is.amended))
      ∙ is.by_rules)) is.by_values

  beside_as : (beside : List ℕ) (left : Option (List ℕ)) → IsLeftOfNeighbour values (Texts []) beside left
      → BecomesNeighbour (InHeader values) beside left
  beside_as beside left is = subst (BecomesNeighbour (InHeader values) beside)
      (sym (beside_kept is.amended left is.by_rules)) is.by_values

  file_amended : (bytes : List ℕ) → IsFileAmended (Remove values (Texts [])) scope own path bytes old new
      → IsFileAmended (InHeader values) scope own path bytes old new
  file_amended bytes is = record {
    alone = is.alone;
    made = is.made;
    becomes = block_as bytes is.made is.becomes;
    holds = is.holds;
  }

  beside_amended : IsNeighbourAmended (Remove values (Texts [])) old new
      → IsNeighbourAmended (InHeader values) old new
  beside_amended is = record {
    beside = is.beside;
    there = is.there;
    left = is.left;
    becomes = beside_as is.beside is.left is.becomes;
    holds = is.holds;
  }

  covered_amended : IsCoveredAmended (Remove values (Texts [])) scope own path old new
      → IsCoveredAmended (InHeader values) scope own path old new
  covered_amended is = record {
    bytes = is.bytes;
    there = is.there;
    covered = is.covered;
    becomes = elim is.becomes [
      | inl none ↦ inl none
      | inr amended ↦ inr (elim amended [
        | inl file ↦ inl (file_amended is.bytes file)
        | inr beside ↦ inr (beside_amended beside)
      ])
    ];
  }

  amended_as : IsAmended (Remove values (Texts [])) scope own path old new
      → IsAmended (InHeader values) scope own path old new
  amended_as is = elim is [ inl table ↦ inl table | inr covered ↦ inr (covered_amended covered) ]

pub no_texts_out : (places : List Place) (values : Amendments) (scope : Scope) (before after : Files)
    → Amends places (Remove values (Texts [])) scope before after → Amends places (InHeader values) scope before after
no_texts_out places values scope before after is = record {
  own = is.own;
  styles = is.styles;
  selected = λ path there. amended_as values scope is.own path _ _ (is.selected path there);
  others = is.others;
}
