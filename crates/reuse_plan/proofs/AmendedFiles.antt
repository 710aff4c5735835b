-- Where amend isn't refused at a path, its file and the neighbour become what the rules say of them.
use Rattle.std.proofs.Common.{◌≡◌, ◌⊎◌, inl, inr, ℕ, ◌≤◌, Bool, true, false, cond, not, nat_lt, List, ◌++◌, length}
use Rattle.std.proofs.Common.{◌&&◌, is_none, take, drop, Option, Some, None, Ok, Err, refl, sym, ap, ap₂, subst, ◌∙◌}
use Rattle.std.proofs.Common.{Result}
use Rattle.std.specs.Option.{option_map, option_map_or}
use Rattle.reuse_command.specs.Reading.{get, Files}
use Rattle.std.proofs.lemmas.Bool.{not-false, false≢true, and_parts, ltb-true, ltb-false}
use Rattle.std.proofs.lemmas.Option.{same_Some}
use Rattle.reuse_text.specs.Text.{mark_len_of, spliced}
use Rattle.reuse_text.specs.declared.TheConstants.{LONGEST_FILE}
use Rattle.reuse_amend.specs.declared.amendments.Amendments.{Amendments}
use Rattle.reuse_toml.specs.declared.toml_change.TomlSplice.{TomlSplice}
use Rattle.reuse_toml.specs.declared.toml_values.AmendTomlRefusal.{AmendTomlRefusal}
use Rattle.reuse_toml.specs.TomlAmending.{toml_amendment_of}
use Rattle.reuse_toml.specs.TomlLaws.{IsAmendedText, DiffersInStrings}
use Rattle.reuse_toml.proofs.TomlLawLemmas as toml
use Rattle.reuse_style.specs.declared.style.Style.{Style}
use Rattle.reuse_style.specs.declared.style.Kind.{Kind}
use Rattle.reuse_style.specs.declared.style.Kind.TheVariants as kind
use Rattle.reuse_header.specs.Amendment.{amended_file, amendment_of, block_amendment, neighbour_amendment_of}
use Rattle.reuse_header.specs.Annotation as header
use Rattle.reuse_header.specs.Header.{HeaderSpan, header_of, span_in}
use Rattle.reuse_header.specs.Neighbour.{is_text, neighbour_end}
use Rattle.reuse_tags.specs.Everywhere.{amended_everywhere}
use Rattle.reuse_edit.proofs.BetweenLemmas.{between, between_by, between_makes}
use Rattle.reuse_plan.proofs.TagLemmas.{keeps_values}
use Rattle.reuse_change.specs.Listing.{is_folder}
use Rattle.reuse_command.specs.Command.{values_of}
use Rattle.reuse_edit.specs.Amend.{style_or_named, style_for, amendment_edit, amend_neighbour, amend_beside}
use Rattle.reuse_edit.specs.Amend.{amend_own_text, is_passed_over, text_edit, amend_covered, table_edit}
use Rattle.reuse_edit.specs.Amend.{table_amendment, amended_table, amend_table, amended_where, amended_at, remove_block}
use Rattle.reuse_edit.specs.Amend.{amend_block, has_no_style, has_no_style_unread}
use Rattle.reuse_plan.specs.Amended.{KeepsOutsideBlock, IsNeighbourAmended, IsFileAmended, HasNoPlace, IsTableAmended}
use Rattle.reuse_plan.specs.Amended.{IsAmended, BecomesNeighbour, BecomesFile, HasNoText}
use Rattle.reuse_plan.proofs.RemovedFiles.{left_here, left_other, neighbour_keeps, text_keeps, between_edit}
use Rattle.reuse_plan.proofs.LeftParts.{beside_parts, inside_parts}
use Rattle.reuse_edit.specs.AmendmentPlan.{Expected}
use Rattle.reuse_edit.specs.Annotate.{neighbour_of}
use Rattle.reuse_plan.specs.Annotated.{IsSameAround, IsStyleOf, HasKind, pair_at}
use Rattle.reuse_edit.specs.Tables.{is_table}
use Rattle.reuse_command.specs.Covered.{is_covered}
use Rattle.reuse_edit.specs.Edit.{Edit, file_then}
use Rattle.reuse_style.specs.Kinds.{OwnKinds, kind_of_file, kind_unread}
use Rattle.reuse_style.proofs.RuleLemmas.{kind_if_unread}
use Rattle.reuse_command.specs.declared.command.FileAmendment.{FileAmendment}
use Rattle.reuse_command.specs.declared.command.FileAmendment.TheVariants.{InHeader, Everywhere, Remove}
use Rattle.reuse_command.specs.declared.command.HeaderRemoval.{HeaderRemoval}
use Rattle.reuse_command.specs.declared.header_fault.HeaderFault.TheVariants as faults
use Rattle.reuse_command.specs.declared.command.Place.TheVariants as place
use Rattle.reuse_command.specs.declared.command.Scope.{Scope}
use Rattle.reuse_command.specs.declared.reply.Refusal.TheVariants as refusals
use Rattle.reuse_plan.proofs.AnnotatedFiles.{pair_then, pair}
use Rattle.reuse_edit.proofs.EditedPlaces.{IsEditTo, makes_by, then_here, then_other}
use Rattle.reuse_edit.proofs.NeighbourPaths.{apart}
use Rattle.reuse_edit.proofs.Results.{both_err, err_or, same_Ok}
use Rattle.reuse_edit.proofs.EditResults.{done}
use Rattle.reuse_edit.proofs.TableLemmas.{table_differs}
use Rattle.reuse_plan.specs.Accepted.{HasNoStyleUnread}

-- ---- what is known of each amendment

abbrev pub KeepsBlock : Type 0
KeepsBlock = (style : Style) (a : Amendments) (file : List ℕ) (edit : header.Edit) (span : HeaderSpan)
    → amendment_of style a file ≡ Ok (Some edit)
    → option_map (span_in file) (header_of style file) ≡ Some span
    → header.edited file edit ≡ take span.start file ++ edit.text ++ drop span.end file

abbrev pub KeepsNeighbour : Type 0
KeepsNeighbour = (a : Amendments) (file : List ℕ) (edit : header.Edit) → neighbour_amendment_of a file ≡ Ok (Some edit)
    → header.edited file edit ≡ take (mark_len_of file) file ++ edit.text ++ drop (neighbour_end file) file

-- what is made at a place: the bytes that were there, or those that an edit makes
pub record Makes (at bytes : List ℕ) (expected : Expected) (given : Option Edit) : Type 0 where
  pub made : List ℕ
  pub by_rules : amended_file bytes expected ≡ Ok made
  pub makes : IsEditTo at bytes made given
  pub kept : (made ≡ bytes) ⊎ ((edit : header.Edit) × (expected ≡ Ok (Some edit)) × (made ≡ header.edited bytes edit))

amendment_makes : (path at bytes : List ℕ) (expected : Expected) (given : Option Edit)
    → amendment_edit path at bytes expected ≡ Ok given → Makes at bytes expected given
amendment_makes path at bytes (Ok None) given h = record {
  made = bytes;
  by_rules = refl;
  makes = subst (IsEditTo at bytes bytes) (same_Ok None given h) refl;
  kept = inl refl;
}
amendment_makes path at bytes (Ok (Some edit)) given h =
    let m = makes_by path at bytes (Ok edit) given h in
    let same = same_Ok edit m.0 m.1 in
    record {
      made = header.edited bytes m.0;
      by_rules = ap (λ (e : header.Edit). Ok (header.edited bytes e)) same;
      makes = m.2;
      kept = inr (m.0, ap (λ (e : header.Edit). Ok (Some e)) same, refl);
    }
amendment_makes path at bytes (Err refusal) given h = absurd (cc)

-- a text whose tags are amended
record MakesText (values : Amendments) (at bytes : List ℕ) (given : Option Edit) : Type 0 where
  made : List ℕ
  by_rules : amended_everywhere values bytes ≡ Some made
  makes : IsEditTo at bytes made given

text_makes : (values : Amendments) (path at bytes : List ℕ) (given : Option Edit)
    → text_edit path at bytes (amended_everywhere values bytes) ≡ Ok given → MakesText values at bytes given
text_makes values path at bytes given h = of_text (amended_everywhere values bytes) refl h
  where
    of_text : (made : Option (List ℕ)) → amended_everywhere values bytes ≡ made
        → text_edit path at bytes made ≡ Ok given → MakesText values at bytes given
    of_text None is e = absurd (cc)
    of_text (Some new) is e =
        let fits = err_or (nat_lt LONGEST_FILE (length new)) (refusals.Header path faults.TooLong) _ given e in
        let m = makes_by path at bytes (Ok (between bytes new)) given (sym (between_by bytes new path at) ∙ fits.1) in
        record {
          made = new;
          by_rules = is;
          makes = subst (λ (made : List ℕ). IsEditTo at bytes made given) (between_makes bytes new)
              (subst (λ (edit : header.Edit). IsEditTo at bytes (header.edited bytes edit) given)
              (sym (same_Ok (between bytes new) m.0 m.1)) m.2);
        }

-- ---- a table

-- what is made of its bytes: those that were there, or those that a change makes
record MakesTable (amendments : Amendments) (at bytes : List ℕ) (given : Option Edit) : Type 0 where
  made : List ℕ
  by_rules : amended_table bytes (toml_amendment_of amendments bytes) ≡ Ok made
  makes : IsEditTo at bytes made given
  reads : IsAmendedText amendments bytes made
  keeps : (made ≡ bytes) ⊎ DiffersInStrings bytes made

table_makes : (amendments : Amendments) (path bytes : List ℕ) (given : Option Edit) → table_amendment path bytes
    (toml_amendment_of amendments bytes) ≡ Ok given → MakesTable amendments path bytes given
table_makes amendments path bytes given h = by_expected (toml_amendment_of amendments bytes) refl h
  where
    by_expected : (expected : Result (Option TomlSplice) AmendTomlRefusal)
        → toml_amendment_of amendments bytes ≡ expected → table_amendment path bytes expected ≡ Ok given
        → MakesTable amendments path bytes given
    by_expected (Ok None) is e = record {
      made = bytes;
      by_rules = ap (amended_table bytes) is;
      makes = subst (IsEditTo path bytes bytes) (same_Ok None given e) refl;
      reads = toml.unchanged amendments bytes is;
      keeps = inl refl;
    }
    by_expected (Ok (Some change)) is e =
        let text = toml.changed amendments bytes change is in
        record {
          made = spliced bytes change.at change.old change.new;
          by_rules = ap (amended_table bytes) is;
          makes = subst (IsEditTo path bytes (spliced bytes change.at change.old change.new)) (same_Ok
              (Some (table_edit path bytes change)) given e) (refl, refl, table_differs amendments bytes change is);
          reads = record {
            old = text.old;
            new = text.new;
            read = text.read;
            read_new = text.read_new;
            amended = text.amended;
          };
          keeps = inr (toml.differing amendments bytes change is);
        }
    by_expected (Err refusal) is e = absurd (cc)

-- ---- styles

module _ (scope : Scope) (own : OwnKinds) (path bytes : List ℕ) where
  pub style_reason : (asked : Option Style) (named : Kind) (style : Style) → scope.style ≡ asked
      → kind_of_file own path bytes ≡ named → style_or_named asked named ≡ Some style
      → IsStyleOf scope own path bytes style
  style_reason (Some other) named style is of_file e = inl (is ∙ e)
  style_reason None (kind.Style other) style is of_file e = inr (is, of_file ∙ ap kind.Style (same_Some other style e))
  style_reason None kind.Uncommentable style is of_file e = absurd (cc)
  style_reason None kind.Unknown style is of_file e = absurd (cc)

  none_reason : (asked : Option Style) (named : Kind) → scope.style ≡ asked → kind_of_file own path bytes ≡ named
      → style_or_named asked named ≡ None
      → HasKind scope own path bytes kind.Uncommentable ⊎ HasKind scope own path bytes kind.Unknown
  none_reason (Some other) named is of_file e = absurd (cc)
  none_reason None (kind.Style other) is of_file e = absurd (cc)
  none_reason None kind.Uncommentable is of_file e = inl (is, of_file)
  none_reason None kind.Unknown is of_file e = inr (is, of_file)

-- a file that isn't read for want of a style
module _ (scope : Scope) (own : OwnKinds) (path : List ℕ) where
  pub unread_reason : has_no_style_unread scope own path ≡ true → HasNoStyleUnread scope own path
  unread_reason e =
      let parts = and_parts (is_none scope.style) (has_no_style (kind_unread own path)) e in
      by_kind (kind_unread own path) refl parts.1
    where
      unasked : (asked : Option Style) → is_none asked ≡ true → asked ≡ None
      unasked None f = refl
      unasked (Some style) f = absurd (false≢true f)

      none : scope.style ≡ None
      none = unasked scope.style (and_parts (is_none scope.style) (has_no_style (kind_unread own path)) e).0

      by_kind : (known : Option Kind) → kind_unread own path ≡ known → has_no_style known ≡ true
          → HasNoStyleUnread scope own path
      by_kind None is f = absurd (false≢true f)
      by_kind (Some (kind.Style style)) is f = absurd (false≢true f)
      by_kind (Some kind.Uncommentable) is f = inl (none, is)
      by_kind (Some kind.Unknown) is f = inr (none, is)

  pub reason_unread : HasNoStyleUnread scope own path → has_no_style_unread scope own path ≡ true
  reason_unread (inl is) = ap₂ (λ (asked : Option Style) (known : Option Kind). is_none asked && has_no_style known)
      is.0 is.1
  reason_unread (inr is) = ap₂ (λ (asked : Option Style) (known : Option Kind). is_none asked && has_no_style known)
      is.0 is.1

  unread_none : (bytes : List ℕ) → has_no_style_unread scope own path ≡ true
      → HasKind scope own path bytes kind.Uncommentable ⊎ HasKind scope own path bytes kind.Unknown
  unread_none bytes e = elim (unread_reason e) [
    | inl is ↦ inl (is.0, kind_if_unread own path bytes kind.Uncommentable is.1)
    | inr is ↦ inr (is.0, kind_if_unread own path bytes kind.Unknown is.1)
  ]

-- ---- one file

module _ (keeps_block : KeepsBlock) (keeps_neighbour : KeepsNeighbour) where
  block_kept : (style : Style) (a : Amendments) (bytes : List ℕ) (edit : header.Edit)
      → amendment_of style a bytes ≡ Ok (Some edit) → KeepsOutsideBlock style bytes (header.edited bytes edit)
  block_kept style a bytes edit h = of_block (option_map (span_in bytes) (header_of style bytes)) refl h
    where
      of_block : (found : Option HeaderSpan) → option_map (span_in bytes) (header_of style bytes) ≡ found
          → option_map_or (block_amendment style a bytes) found (Ok None) ≡ Ok (Some edit)
          → KeepsOutsideBlock style bytes (header.edited bytes edit)
      of_block None is e = absurd (cc)
      of_block (Some span) is e = (span, is, (edit.text, keeps_block style a bytes edit span h is))

  file_kept : (style : Style) (a : Amendments) (bytes : List ℕ) (given : Option Edit) (at : List ℕ)
      → (m : Makes at bytes (amendment_of style a bytes) given)
      → (m.made ≡ bytes) ⊎ KeepsOutsideBlock style bytes m.made
  file_kept style a bytes given at m = elim m.kept [
    | inl same ↦ inl same
    | inr by ↦ inr (subst (KeepsOutsideBlock style bytes) (sym by.2) (block_kept style a bytes by.0 by.1))
  ]

  neighbour_kept : (a : Amendments) (bytes : List ℕ) (given : Option Edit) (at : List ℕ)
      → (m : Makes at bytes (neighbour_amendment_of a bytes) given)
      → (m.made ≡ bytes) ⊎ IsSameAround (mark_len_of bytes) (neighbour_end bytes) bytes m.made
  neighbour_kept a bytes given at m = elim m.kept [
    | inl same ↦ inl same
    | inr by ↦ inr (subst (IsSameAround (mark_len_of bytes) (neighbour_end bytes) bytes) (sym by.2)
        (by.0.text, keeps_neighbour a bytes by.0 by.1))
  ]

  -- a text whose values are amended is the old one, or an edit makes it
  block_values_kept : (style : Style) (a : Amendments) (bytes made : List ℕ)
      → amended_file bytes (amendment_of style a bytes) ≡ Ok made
      → (made ≡ bytes) ⊎ KeepsOutsideBlock style bytes made
  block_values_kept style a bytes made h = by_edit (amendment_of style a bytes) refl h
    where
      by_edit : (expected : Expected) → amendment_of style a bytes ≡ expected → amended_file bytes expected ≡ Ok made
          → (made ≡ bytes) ⊎ KeepsOutsideBlock style bytes made
      by_edit (Ok None) is e = inl (sym (same_Ok bytes made e))
      by_edit (Err refusal) is e = absurd (cc)
      by_edit (Ok (Some edit)) is e = inr (subst (KeepsOutsideBlock style bytes)
          (same_Ok (header.edited bytes edit) made e) (block_kept style a bytes edit is))

  values_kept : (a : Amendments) (bytes made : List ℕ) → amended_file bytes (neighbour_amendment_of a bytes) ≡ Ok made
      → (made ≡ bytes) ⊎ IsSameAround (mark_len_of bytes) (neighbour_end bytes) bytes made
  values_kept a bytes made h = by_edit (neighbour_amendment_of a bytes) refl h
    where
      by_edit : (expected : Expected) → neighbour_amendment_of a bytes ≡ expected
          → amended_file bytes expected ≡ Ok made
          → (made ≡ bytes) ⊎ IsSameAround (mark_len_of bytes) (neighbour_end bytes) bytes made
      by_edit (Ok None) is e = inl (sym (same_Ok bytes made e))
      by_edit (Err refusal) is e = absurd (cc)
      by_edit (Ok (Some edit)) is e = inr (subst (IsSameAround (mark_len_of bytes) (neighbour_end bytes) bytes)
          (same_Ok (header.edited bytes edit) made e) (edit.text, keeps_neighbour a bytes edit is))

  module _ (amendment : FileAmendment) (scope : Scope) (own : OwnKinds) (tree : Files) (path : List ℕ)
      (given : Option Edit) where
    abbrev Becomes : List ℕ → Type 0
    Becomes bytes =
        (HasNoPlace amendment scope own path bytes (pair_at tree path)
        × (pair_then tree given path ≡ pair_at tree path))
        ⊎ IsFileAmended amendment scope own path bytes (pair_at tree path) (pair_then tree given path)
        ⊎ IsNeighbourAmended amendment (pair_at tree path) (pair_then tree given path)

    unchanged : (bytes : List ℕ) → done None ≡ done given
        → HasNoPlace amendment scope own path bytes (pair_at tree path) → Becomes bytes
    unchanged bytes h none = inl (none, ap (λ g. pair_then tree g path) (sym (same_Ok None given h)))

    -- this is left of the neighbour
    beside_left : (there : List ℕ) (left : Option (List ℕ)) → get tree (neighbour_of path) ≡ Some there
        → file_then tree given path ≡ get tree path → file_then tree given (neighbour_of path) ≡ left
        → BecomesNeighbour amendment there left
        → IsNeighbourAmended amendment (pair_at tree path) (pair_then tree given path)
    beside_left there left is other here becomes = record {
      beside = there;
      there = is;
      left = left;
      becomes = becomes;
      holds = ap₂ pair other here;
    }

    -- the neighbour becomes these bytes
    beside_to : (there made : List ℕ) → get tree (neighbour_of path) ≡ Some there
        → IsEditTo (neighbour_of path) there made given → BecomesNeighbour amendment there (Some made)
        → IsNeighbourAmended amendment (pair_at tree path) (pair_then tree given path)
    beside_to there made is makes becomes =
        beside_left there (Some made) is (then_other tree (neighbour_of path) there made given path makes (apart path))
        (then_here tree (neighbour_of path) there made given makes is) becomes

    -- the file does
    file_to : (bytes made : List ℕ) → get tree path ≡ Some bytes → get tree (neighbour_of path) ≡ None
        → IsEditTo path bytes made given → BecomesFile amendment scope own path bytes made → Becomes bytes
    file_to bytes made here alone makes becomes = inr (inl (record {
      alone = alone;
      made = made;
      becomes = becomes;
      holds = ap₂ pair (then_here tree path bytes made given makes here)
          (then_other tree path bytes made given (neighbour_of path) makes (λ same. apart path (sym same)) ∙ alone);
    }))

  module _ (scope : Scope) (own : OwnKinds) (tree : Files) (path : List ℕ) (given : Option Edit) where
    beside_by : (amendment : FileAmendment) (there : List ℕ) → get tree (neighbour_of path) ≡ Some there
        → amend_beside amendment path there ≡ Ok given
        → IsNeighbourAmended amendment (pair_at tree path) (pair_then tree given path)
    beside_by (InHeader values) there is h =
        let m = amendment_makes path (neighbour_of path) there (neighbour_amendment_of values there) given h in
        beside_to (InHeader values) scope own tree path given there m.made is m.makes
        (record { by_rules = m.by_rules; keeps = neighbour_kept values there given (neighbour_of path) m })
    beside_by (Everywhere values) there is h =
        let text = err_or (not (is_text there)) (refusals.Header path faults.NotText) _ given h in
        let m = text_makes values path (neighbour_of path) there given text.1 in
        beside_to (Everywhere values) scope own tree path given there m.made is m.makes (record {
          text = not-false (is_text there) text.0;
          by_rules = m.by_rules;
          keeps = keeps_values values there m.made m.by_rules;
        })
    beside_by (Remove values removal) there is h =
        let m = beside_parts values removal path (neighbour_of path) there given h in
        beside_left (Remove values removal) scope own tree path given there m.left is
        (left_other tree (neighbour_of path) there m.left given path m.gives (apart path))
        (left_here tree (neighbour_of path) there m.left given m.gives is) (record {
          amended = m.amended;
          by_values = record { by_rules = m.by_values; keeps = values_kept values there m.amended m.by_values };
          by_rules = m.by_removal;
          keeps = neighbour_keeps removal m.amended m.left m.by_removal;
        })

    -- a file without a style stays
    block_by : (values : Amendments) (bytes : List ℕ) (style : Option Style) → get tree path ≡ Some bytes
        → get tree (neighbour_of path) ≡ None → style_for scope own path bytes ≡ style → is_text bytes ≡ true
        → amend_block values path bytes style ≡ Ok given → Becomes (InHeader values) scope own tree path given bytes
    block_by values bytes None here alone of_style text h =
        unchanged (InHeader values) scope own tree path given bytes h
        (alone, inr (none_reason scope own path bytes scope.style (kind_of_file own path bytes) refl refl of_style))
    block_by values bytes (Some style) here alone of_style text h =
        let m = amendment_makes path path bytes (amendment_of style values bytes) given h in
        file_to (InHeader values) scope own tree path given bytes m.made here alone m.makes (record {
          text = text;
          style = style;
          of_style =
              style_reason scope own path bytes scope.style (kind_of_file own path bytes) style refl refl of_style;
          by_rules = m.by_rules;
          keeps = file_kept style values bytes given path m;
        })

    removed_by : (values : Amendments) (removal : HeaderRemoval) (bytes : List ℕ) (style : Option Style)
        → get tree path ≡ Some bytes → get tree (neighbour_of path) ≡ None → style_for scope own path bytes ≡ style
        → is_text bytes ≡ true → remove_block values removal path bytes style ≡ Ok given
        → Becomes (Remove values removal) scope own tree path given bytes
    removed_by values removal bytes None here alone of_style text h =
        unchanged (Remove values removal) scope own tree path given bytes h
        (alone, inr (none_reason scope own path bytes scope.style (kind_of_file own path bytes) refl refl of_style))
    removed_by values removal bytes (Some style) here alone of_style text h =
        let m = inside_parts values removal style path bytes given h in
        file_to (Remove values removal) scope own tree path given bytes m.made here alone
        (between_edit path bytes m.made given m.gives) (record {
          amended = m.amended;
          by_values = record {
            text = text;
            style = style;
            of_style =
                style_reason scope own path bytes scope.style (kind_of_file own path bytes) style refl refl of_style;
            by_rules = m.by_values;
            keeps = block_values_kept style values bytes m.amended m.by_values;
          };
          by_rules = m.by_removal;
          keeps = text_keeps removal style m.amended m.made m.by_removal;
        })

    own_text_by : (amendment : FileAmendment) (bytes : List ℕ) → get tree path ≡ Some bytes
        → get tree (neighbour_of path) ≡ None → length bytes ≤ LONGEST_FILE → is_text bytes ≡ true
        → amend_own_text amendment scope own path bytes ≡ Ok given → Becomes amendment scope own tree path given bytes
    own_text_by (InHeader values) bytes here alone short text h =
        block_by values bytes (style_for scope own path bytes) here alone refl text h
    own_text_by (Remove values removal) bytes here alone short text h =
        removed_by values removal bytes (style_for scope own path bytes) here alone refl text h
    own_text_by (Everywhere values) bytes here alone short text h =
        let m = text_makes values path path bytes given h in
        file_to (Everywhere values) scope own tree path given bytes m.made here alone m.makes (
          short,
          record {
            text = text;
            by_rules = m.by_rules;
            keeps = keeps_values values bytes m.made m.by_rules;
          },
        )

    passed_by : (amendment : FileAmendment) (bytes : List ℕ) → is_passed_over amendment scope own path bytes ≡ true
        → HasNoText amendment scope own path bytes
    passed_by (InHeader values) bytes passed = inr (unread_none scope own path bytes passed)
    passed_by (Remove values removal) bytes passed = inr (unread_none scope own path bytes passed)
    passed_by (Everywhere values) bytes passed =
        let parts = and_parts (nat_lt LONGEST_FILE (length bytes)) (has_no_style_unread scope own path) passed in
        inr (ltb-true LONGEST_FILE (length bytes) parts.0, unread_none scope own path bytes parts.1)

    not_text : (amendment : FileAmendment) (bytes : List ℕ) → is_text bytes ≡ false
        → HasNoText amendment scope own path bytes
    not_text (InHeader values) bytes e = inl e
    not_text (Remove values removal) bytes e = inl e
    not_text (Everywhere values) bytes e = inl e

  module _ (amendment : FileAmendment) (scope : Scope) (own : OwnKinds) (tree : Files) (path : List ℕ)
      (given : Option Edit) where
    abbrev BecomesAt : List ℕ → Type 0
    BecomesAt bytes = Becomes amendment scope own tree path given bytes

    beside : (bytes there : List ℕ) → get tree (neighbour_of path) ≡ Some there
        → amend_neighbour amendment path there ≡ Ok given → BecomesAt bytes
    beside bytes there is h =
        let few = err_or (nat_lt 4096 (length (neighbour_of path))) (refusals.TooLong path) _ given h in
        let short = err_or (nat_lt LONGEST_FILE (length there)) (refusals.TooLong path) _ given few.1 in
        inr (inr (beside_by scope own tree path given amendment there is short.1))

    inside_text : (bytes : List ℕ) (text : Bool) → get tree path ≡ Some bytes → get tree (neighbour_of path) ≡ None
        → length bytes ≤ LONGEST_FILE → is_text bytes ≡ text
        → cond (not text) (done None) (amend_own_text amendment scope own path bytes) ≡ Ok given → BecomesAt bytes
    inside_text bytes false here alone short text h = unchanged amendment scope own tree path given bytes h
        (alone, not_text scope own tree path given amendment bytes text)
    inside_text bytes true here alone short text h =
        own_text_by scope own tree path given amendment bytes here alone short text h

    inside : (bytes : List ℕ) (none : Bool) → get tree path ≡ Some bytes → get tree (neighbour_of path) ≡ None
        → is_passed_over amendment scope own path bytes ≡ none
        → cond none (done None) (cond (nat_lt LONGEST_FILE (length bytes)) (Err (refusals.TooLong path))
        (cond (not (is_text bytes)) (done None) (amend_own_text amendment scope own path bytes))) ≡ Ok given
        → BecomesAt bytes
    inside bytes true here alone passed h = unchanged amendment scope own tree path given bytes h
        (alone, passed_by scope own tree path given amendment bytes passed)
    inside bytes false here alone passed h =
        let short = err_or (nat_lt LONGEST_FILE (length bytes)) (refusals.TooLong path) _ given h in
        inside_text bytes (is_text bytes) here alone (ltb-false LONGEST_FILE (length bytes) short.0) refl short.1

    by_neighbour : (bytes : List ℕ) (there : Option (List ℕ)) → get tree path ≡ Some bytes → get tree
        (neighbour_of path) ≡ there → amend_covered amendment scope own path bytes there ≡ Ok given → BecomesAt bytes
    by_neighbour bytes (Some there) here is h = beside bytes there is h
    by_neighbour bytes None here is h = inside bytes (is_passed_over amendment scope own path bytes) here is refl h

    table : (bytes : List ℕ) → get tree path ≡ Some bytes → amend_table (values_of amendment) path bytes ≡ Ok given
        → IsTableAmended (values_of amendment) (pair_at tree path) (pair_then tree given path)
    table bytes here h =
        let short = err_or (nat_lt LONGEST_FILE (length bytes)) (refusals.TooLong path)
        (table_amendment path bytes (toml_amendment_of (values_of amendment) bytes)) given h in
        let m = table_makes (values_of amendment) path bytes given short.1 in
        record {
          bytes = bytes;
          there = here;
          made = m.made;
          by_rules = m.by_rules;
          holds = ap₂ pair (then_here tree path bytes m.made given m.makes here)
              (then_other tree path bytes m.made given (neighbour_of path) m.makes (λ same. apart path (sym same)));
          reads = m.reads;
          keeps = m.keeps;
        }

    of_file : (file : Option (List ℕ)) → get tree path ≡ file
        → amended_where amendment scope own tree path file ≡ Ok given
        → IsAmended amendment scope own path (pair_at tree path) (pair_then tree given path)
    of_file None is h =
        absurd (both_err (is_folder tree path) (refusals.IsFolder (place.Path path)) (refusals.NoSuchPath path) given h)
    of_file (Some bytes) is h = by_path (is_table path) refl h
      where
        by_path : (b : Bool) → is_table path ≡ b
            → cond b (amend_table (values_of amendment) path bytes)
            (cond (not (is_covered path)) (Err (refusals.NotCovered path))
            (amend_covered amendment scope own path bytes (get tree (neighbour_of path)))) ≡ Ok given
            → IsAmended amendment scope own path (pair_at tree path) (pair_then tree given path)
        by_path true t e = inl (t, table bytes is e)
        by_path false t e =
            let covered = err_or (not (is_covered path)) (refusals.NotCovered path)
            (amend_covered amendment scope own path bytes (get tree (neighbour_of path))) given e in
            inr (record {
              bytes = bytes;
              there = is;
              covered = not-false (is_covered path) covered.0;
              becomes = by_neighbour bytes (get tree (neighbour_of path)) is refl covered.1;
            })

    -- what is done at a path
    pub amended_there : amended_at amendment scope own tree path ≡ Ok given
        → IsAmended amendment scope own path (pair_at tree path) (pair_then tree given path)
    amended_there h = of_file (get tree path) refl h
