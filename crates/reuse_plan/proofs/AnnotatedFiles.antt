-- Where the licensing information of a file goes and why, and what annotate writes there.
use Rattle.std.proofs.Common.{◌≡◌, ◌≢◌, ◌⊎◌, inl, inr, ℕ, Bool, true, false, cond, not, ◌&&◌, nat_lt, List, length}
use Rattle.std.proofs.Common.{Option, Some, None, is_some, Result, Ok, refl, sym, ap₂, subst, ◌∙◌, [], ◌∷◌, ◌++◌, take}
use Rattle.std.proofs.Common.{drop, Err, ap, is_none, unwrap_or, bytes_eq, option_map}
use Rattle.reuse_command.specs.Reading.{get, Files}
use Rattle.std.proofs.lemmas.Bool.{false≢true, or_cases, or_parts, and_parts, not-false}
use Rattle.reuse_style.specs.declared.style.Style.{Style}
use Rattle.reuse_style.specs.declared.style.Kind.{Kind}
use Rattle.reuse_style.specs.declared.style.Kind.TheVariants as kind
use Rattle.reuse_header.specs.Neighbour.{is_text, neighbour_end}
use Rattle.reuse_text.specs.declared.TheConstants.{LONGEST_FILE}
use Rattle.reuse_edit.specs.Annotation.{annotation_of, made_by, neighbour_annotation_of}
use Rattle.reuse_plan.specs.Accepted.{IsUnread}
use Rattle.reuse_edit.specs.Annotate.{neighbour_of, is_uncommentable, goes_to_neighbour, goes_to_neighbour_unread}
use Rattle.reuse_edit.specs.Annotate.{target_of_unknown, target_by_kind, target_by_style, target_by_bytes}
use Rattle.reuse_edit.specs.Annotate.{neighbour_is_tagged, target_of, edit_by, edit_neighbour, edit_target}
use Rattle.reuse_edit.specs.Annotate.{annotated_where, annotated_at}
use Rattle.reuse_plan.specs.Annotated.{pair_at, IsStyleOf, HasKind, TakesComment, TakesNeighbour, IsSameAround}
use Rattle.reuse_plan.specs.Annotated.{KeepsOthers, block_replaced, part_replaced, Pair, IsCommented, IsAccompanied}
use Rattle.reuse_plan.specs.Annotated.{IsSkipped, IsAnnotated, file_written}
use Rattle.reuse_style.specs.Kinds.{OwnKinds, kind_of_file, kind_unread}
use Rattle.reuse_style.proofs.RuleLemmas.{kind_if_unread}
use Rattle.reuse_command.specs.declared.command.Scope.{Scope}
use Rattle.reuse_command.specs.declared.command.Unknown.{Unknown}
use Rattle.reuse_command.specs.declared.command.Unknown.TheVariants as unknown
use Rattle.reuse_edit.specs.declared.target.Target.{Target}
use Rattle.reuse_edit.specs.declared.target.Target.TheVariants.{Inside, InNeighbour, Nowhere}
use Rattle.reuse_command.specs.declared.reply.Refusal.{Refusal}
use Rattle.reuse_command.specs.declared.reply.Refusal.TheVariants as refusals
use Rattle.reuse_edit.proofs.Results.{same_Ok, err_or, none_from_test, both_err}
use Rattle.reuse_plan.proofs.OneAnnotation.{no_call, comment_not_skipped, beside_not_skipped}
use Rattle.std.proofs.lemmas.Slice.Eq.{bytes_eq-Decides}
use Rattle.std.proofs.lemmas.Option.{same_Some, none-some}
use Rattle.reuse_text.specs.Text.{mark_len_of, file_lines}
use Rattle.reuse_notice.specs.declared.adding.Additions.{Additions}
use Rattle.reuse_words.specs.Added.{text_annotation_of, neighbour_text_annotation_of}
use Rattle.reuse_command.specs.declared.command.HeaderAdditions.{HeaderAdditions}
use Rattle.reuse_header.specs.declared.annotation.How.{How}
use Rattle.reuse_header.specs.Annotation as header
use Rattle.reuse_header.specs.Body.{body_lines, place_in}
use Rattle.reuse_header.specs.Header.{Header, HeaderSpan, header_of, span_in}
use Rattle.reuse_header.specs.Laws.{IsInsertion}
use Rattle.reuse_change.specs.Clash.{is_clash}
use Rattle.reuse_command.specs.Covered.{is_covered}
use Rattle.reuse_edit.specs.Edit.{Edit, file_then}
use Rattle.reuse_change.specs.Listing.{is_folder}
use Rattle.reuse_command.specs.declared.command.Place.TheVariants as place
use Rattle.reuse_edit.proofs.EditResults.{done}
use Rattle.reuse_edit.proofs.EditedPlaces.{aimed, IsEditTo, makes_by, then_here, then_other}
use Rattle.reuse_edit.proofs.NeighbourPaths.{apart}

no_style : (style : Option Style) → is_none style ≡ true → style ≡ None
no_style None e = refl
no_style (Some style) e = absurd (false≢true e)

uncommentable : (known : Option Kind) → is_uncommentable known ≡ true → known ≡ Some kind.Uncommentable
uncommentable None e = absurd (false≢true e)
uncommentable (Some (kind.Style style)) e = absurd (false≢true e)
uncommentable (Some kind.Uncommentable) e = refl
uncommentable (Some kind.Unknown) e = absurd (false≢true e)

skip_or_neighbour : unknown.Skip ≡ unknown.Neighbour → ⊥
skip_or_neighbour e = cc

module _ (scope : Scope) (own : OwnKinds) (tree : Files) (path bytes : List ℕ) where
  -- why the information goes there
  abbrev pub Takes : Target → Type 0
  Takes (Inside style) = TakesComment scope own path bytes (pair_at tree path) style
  Takes InNeighbour = TakesNeighbour scope own path bytes (pair_at tree path)
  Takes Nowhere = HasKind scope own path bytes kind.Unknown × (scope.unknown ≡ unknown.Skip)
      × ¬ (TakesNeighbour scope own path bytes (pair_at tree path))

  -- the test that is made without reading the file
  pub unread : goes_to_neighbour scope own tree path ≡ true → IsUnread scope own path (pair_at tree path)
  unread e = elim (or_cases (is_some (get tree (neighbour_of path))) (goes_to_neighbour_unread scope own path) e) [
    | inl there ↦ inl there
    | inr called ↦
        elim (or_cases scope.force_dot_license (is_none scope.style && is_uncommentable (kind_unread own path)) called) [
          | inl forced ↦ inr (inl forced)
          | inr plain ↦
              let parts = and_parts (is_none scope.style) (is_uncommentable (kind_unread own path)) plain in
              inr (inr (no_style scope.style parts.0, uncommentable (kind_unread own path) parts.1))
        ]
  ]

  unread_takes : IsUnread scope own path (pair_at tree path) → Takes InNeighbour
  unread_takes (inl there) = inl there
  unread_takes (inr (inl forced)) = inr (inl forced)
  unread_takes (inr (inr plain)) =
      inr (inr (inr (inl (plain.0, kind_if_unread own path bytes kind.Uncommentable plain.1))))

  module _ (e : goes_to_neighbour scope own tree path ≡ false) where
    parts : (is_some (get tree (neighbour_of path)) ≡ false) × (goes_to_neighbour_unread scope own path ≡ false)
    parts = or_parts (is_some (get tree (neighbour_of path))) (goes_to_neighbour_unread scope own path) e

    unread_parts : (scope.force_dot_license ≡ false)
        × ((is_none scope.style && is_uncommentable (kind_unread own path)) ≡ false)
    unread_parts = or_parts scope.force_dot_license (is_none scope.style && is_uncommentable (kind_unread own path)) parts.1

    pub is_read : IsUnread scope own path (pair_at tree path) → ⊥
    is_read (inl there) = false≢true (sym parts.0 ∙ there)
    is_read (inr (inl forced)) = false≢true (sym unread_parts.0 ∙ forced)
    is_read (inr (inr plain)) = false≢true (sym unread_parts.1
        ∙ ap₂ (λ (style : Option Style) (known : Option Kind). is_none style && is_uncommentable known) plain.0 plain.1)

  module _ (e : goes_to_neighbour scope own tree path ≡ false) (text : is_text bytes ≡ true) where
    comment_takes : (style : Style) → (scope.style ≡ Some style)
        ⊎ ((scope.style ≡ None) × (kind_of_file own path bytes ≡ kind.Style style)) → Takes (Inside style)
    comment_takes style of_style = record {
      text = text;
      alone = none_from_test (get tree (neighbour_of path)) (parts e).0;
      unforced = (unread_parts e).0;
      of_style = of_style;
    }

    -- nothing calls for a neighbour
    pub no_neighbour : ((style : Style) × IsStyleOf scope own path bytes style)
        ⊎ ((kind_of_file own path bytes ≡ kind.Unknown) × (scope.unknown ≢ unknown.Neighbour))
        → TakesNeighbour scope own path bytes (pair_at tree path) → ⊥
    no_neighbour named why =
        no_call scope own path bytes (pair_at tree path) (none_from_test (get tree (neighbour_of path)) (parts e).0)
        (unread_parts e).0 text named why

    unknown_takes : (asked : Unknown) → scope.unknown ≡ asked → HasKind scope own path bytes kind.Unknown
        → (target : Target)
        → target_of_unknown asked path ≡ Ok target → Takes target
    unknown_takes unknown.Refuse is named target h = absurd (cc)
    unknown_takes unknown.Neighbour is named target h =
        subst Takes (same_Ok InNeighbour target h) (inr (inr (inr (inr (named, is)))))
    unknown_takes unknown.Skip is named target h = subst Takes (same_Ok Nowhere target h)
        (named, is, no_neighbour (inr (named.1, λ e. skip_or_neighbour (sym is ∙ e))))

    kind_takes : (of_file : Kind) → kind_of_file own path bytes ≡ of_file → scope.style ≡ None → (target : Target)
        → target_by_kind scope.unknown path of_file ≡ Ok target → Takes target
    kind_takes (kind.Style style) is none target h =
        subst Takes (same_Ok (Inside style) target h) (comment_takes style (inr (none, is)))
    kind_takes kind.Uncommentable is none target h =
        subst Takes (same_Ok InNeighbour target h) (inr (inr (inr (inl (none, is)))))
    kind_takes kind.Unknown is none target h = unknown_takes scope.unknown refl (none, is) target h

    style_takes : (style : Option Style) → scope.style ≡ style → (target : Target)
        → target_by_style scope own path bytes style ≡ Ok target → Takes target
    style_takes (Some style) is target h = subst Takes (same_Ok (Inside style) target h) (comment_takes style (inl is))
    style_takes None is target h = kind_takes (kind_of_file own path bytes) refl is target h

  bytes_take : goes_to_neighbour scope own tree path ≡ false → (b : Bool) → is_text bytes ≡ b → (target : Target)
      → cond (not b) (aimed InNeighbour) (target_by_style scope own path bytes scope.style) ≡ Ok target → Takes target
  bytes_take e true text target h = style_takes e text scope.style refl target h
  bytes_take e false text target h = subst Takes (same_Ok InNeighbour target h) (inr (inr (inl text)))

  pub takes : (b : Bool) → goes_to_neighbour scope own tree path ≡ b → (target : Target)
      → cond b (aimed InNeighbour) (target_by_bytes scope own path bytes) ≡ Ok target → Takes target
  takes true e target h = subst Takes (same_Ok InNeighbour target h) (unread_takes (unread e))
  takes false e target h =
      let short = err_or (nat_lt LONGEST_FILE (length bytes)) (refusals.TooLong path)
      (cond (not (is_text bytes)) (aimed InNeighbour) (target_by_style scope own path bytes scope.style)) target h in
      bytes_take e (is_text bytes) refl target short.1

-- ---- where annotate isn't refused at a path, its file and the neighbour become what the rules say of them

-- ---- tests

-- ---- what an edit leaves

abbrev pub pair_then : Files → Option Edit → List ℕ → Pair
pair_then tree given path = record {
  file = file_then tree given path;
  neighbour = file_then tree given (neighbour_of path);
}

abbrev pub pair : Option (List ℕ) → Option (List ℕ) → Pair
pair file neighbour = record { file = file; neighbour = neighbour }

then_made : (tree : Files) (at made : List ℕ) (given : Option Edit) → IsEditTo at [] made given → get tree at ≡ None
    → file_then tree given at ≡ file_written None made
then_made tree at made None makes here = here ∙ ap (file_written None) (sym makes)
then_made tree at made (Some edit) makes here = ap (λ b. cond b edit.file (get tree at))
    ((bytes_eq-Decides at edit.path).1 (sym makes.0)) ∙ makes.1 ∙ some_made made makes.2
  where
    some_made : (bytes : List ℕ) → bytes_eq bytes [] ≡ false → Some bytes ≡ file_written None bytes
    some_made [] e = absurd (false≢true (sym e))
    some_made (byte ∷ bytes) e = refl

-- ---- bytes that stay

-- what is known of each annotation
abbrev pub ReplacesBlock : Type 0
ReplacesBlock = (style : Style) (how : How) (tags : Additions) (texts : List (List (List ℕ))) (file : List ℕ)
    (edit : header.Edit) (span : HeaderSpan) → how.replace ≡ true
    → text_annotation_of style how tags texts file ≡ Ok edit
    → option_map (span_in file) (header_of style file) ≡ Some span
    → header.edited file edit ≡ take span.start file ++ edit.text ++ drop span.end file

abbrev pub InsertsBlock : Type 0
InsertsBlock = (style : Style) (how : How) (tags : Additions) (texts : List (List (List ℕ))) (file : List ℕ)
    (edit : header.Edit) → (how.replace ≡ false) ⊎ (header_of style file ≡ None)
    → text_annotation_of style how tags texts file ≡ Ok edit
    → IsInsertion file (place_in file (body_lines style (file_lines file))) edit

abbrev pub ReplacesNeighbour : Type 0
ReplacesNeighbour = (how : How) (tags : Additions) (texts : List (List (List ℕ))) (file : List ℕ)
    (edit : header.Edit) → how.replace ≡ true
    → neighbour_text_annotation_of how tags texts file ≡ Ok edit
    → header.edited file edit ≡ take (mark_len_of file) file ++ edit.text ++ drop (neighbour_end file) file

abbrev pub InsertsNeighbour : Type 0
InsertsNeighbour = (how : How) (tags : Additions) (texts : List (List (List ℕ))) (file : List ℕ)
    (edit : header.Edit) → how.replace ≡ false
    → neighbour_text_annotation_of how tags texts file ≡ Ok edit
    → IsInsertion file (mark_len_of file) edit

no_span : (file : List ℕ) (found : Option Header) → option_map (span_in file) found ≡ None → found ≡ None
no_span file None e = refl
no_span file (Some found) e = absurd (cc)

module _ (replaces : ReplacesBlock) (inserts : InsertsBlock) (replaces_beside : ReplacesNeighbour)
    (inserts_beside : InsertsNeighbour) where
  keeps_file : (style : Style) (how : How) (additions : HeaderAdditions) (file : List ℕ) (edit : header.Edit)
      → annotation_of style how additions file ≡ Ok edit
      → KeepsOthers (block_replaced how style file) file (header.edited file edit)
  keeps_file style how additions file edit h =
      of_block how.replace refl (option_map (span_in file) (header_of style file)) refl
    where
      put : (how.replace ≡ false) ⊎ (header_of style file ≡ None) → KeepsOthers None file (header.edited file edit)
      put none = let new = inserts style how additions.tags additions.texts file edit none h in
          (place_in file (body_lines style (file_lines file)), (header.new_bytes edit, new.made))

      of_block : (b : Bool) → how.replace ≡ b → (found : Option HeaderSpan)
          → option_map (span_in file) (header_of style file) ≡ found
          → KeepsOthers (cond b found None) file (header.edited file edit)
      of_block false e found k = put (inl e)
      of_block true e None k = put (inr (no_span file (header_of style file) k))
      of_block true e (Some span) k =
          (edit.text, replaces style how additions.tags additions.texts file edit span e h k)

  keeps_neighbour : (how : How) (additions : HeaderAdditions) (file : List ℕ) (edit : header.Edit)
      → neighbour_annotation_of how additions file ≡ Ok edit
      → IsSameAround (mark_len_of file) (part_replaced how file) file (header.edited file edit)
  keeps_neighbour how additions file edit h = of_test how.replace refl
    where
      of_test : (b : Bool) → how.replace ≡ b → IsSameAround (mark_len_of file)
          (cond b (neighbour_end file) (mark_len_of file)) file (header.edited file edit)
      of_test true e = (edit.text, replaces_beside how additions.tags additions.texts file edit e h)
      of_test false e = (header.new_bytes edit, (inserts_beside how additions.tags additions.texts file edit e h).made)

  -- ---- one file

  module _ (additions : HeaderAdditions) (how : How) (scope : Scope) (own : OwnKinds) (tree : Files)
      (path bytes : List ℕ) (here : get tree path ≡ Some bytes) where
    abbrev old : Pair
    old = pair_at tree path

    abbrev TakesTo : Target → Type 0
    TakesTo = Takes scope own tree path bytes

    abbrev Becomes : Pair → Type 0
    Becomes new = (IsSkipped scope own path bytes old × (new ≡ old))
        ⊎ (¬ (IsSkipped scope own path bytes old) × (IsCommented additions how scope own path bytes old new
        ⊎ IsAccompanied additions how scope own path bytes old new))

    skipped : (given : Option Edit) → None ≡ given → IsSkipped scope own path bytes old
        → Becomes (pair_then tree given path)
    skipped given none is = subst (λ x. Becomes (pair_then tree x path)) none (inl (is, refl))

    -- it is commented, unless it is skipped
    commented : (style : Style) → TakesTo (Inside style)
        → (scope.skip_existing && is_some (header_of style bytes)) ≡ false → (given : Option Edit)
        → edit_by path path bytes (annotation_of style how additions bytes) ≡ Ok given
        → Becomes (pair_then tree given path)
    commented style reason kept given h =
        let made = makes_by path path bytes (annotation_of style how additions bytes) given h in
        inr (
          comment_not_skipped scope own path bytes old style reason kept,
          inl (record {
            style = style;
            takes = reason;
            made = header.edited bytes made.0;
            by_rules = ap (made_by bytes) made.1;
            holds = ap₂ pair (then_here tree path bytes (header.edited bytes made.0) given made.2 here)
                (then_other tree path bytes (header.edited bytes made.0) given (neighbour_of path) made.2
                (λ same. apart path (sym same)) ∙ reason.alone);
            keeps = keeps_file style how additions bytes made.0 made.1;
          }),
        )

    inside : (style : Style) → TakesTo (Inside style) → (b : Bool)
        → (scope.skip_existing && is_some (header_of style bytes)) ≡ b → (given : Option Edit)
        → cond b (done None) (edit_by path path bytes (annotation_of style how additions bytes)) ≡ Ok given
        → Becomes (pair_then tree given path)
    inside style reason true e given h =
        let tests = and_parts scope.skip_existing (is_some (header_of style bytes)) e in
        skipped given (same_Ok None given h) (inr (tests.0, inl (style, reason, tests.1)))
    inside style reason false e given h = commented style reason e given h

    -- it is accompanied, unless it is skipped
    abbrev IsBeside : Option (List ℕ) → Pair → Type 0
    IsBeside file new = IsAccompanied additions how scope own path bytes (pair (get tree path) file) new

    accompanied : (file : Option (List ℕ)) → get tree (neighbour_of path) ≡ file → TakesTo InNeighbour
        → ¬ (IsSkipped scope own path bytes old) → (given : Option Edit) (edit : header.Edit)
        → neighbour_annotation_of how additions (unwrap_or file []) ≡ Ok edit
        → IsEditTo (neighbour_of path) (unwrap_or file []) (header.edited (unwrap_or file []) edit) given
        → file_then tree given (neighbour_of path) ≡ file_written file (header.edited (unwrap_or file []) edit)
        → Becomes (pair_then tree given path)
    accompanied file is reason unskipped given edit expected makes written = inr (
      unskipped,
      inr (subst (λ f. IsBeside f (pair_then tree given path)) (sym is) (record {
        takes = subst (λ f. TakesNeighbour scope own path bytes (pair (get tree path) f)) is reason;
        made = header.edited (unwrap_or file []) edit;
        by_rules = ap (made_by (unwrap_or file [])) expected;
        holds = ap₂ pair (then_other tree (neighbour_of path) (unwrap_or file [])
            (header.edited (unwrap_or file []) edit) given path makes (apart path)) written;
        keeps = keeps_neighbour how additions (unwrap_or file []) edit expected;
      })),
    )

    beside_there : (beside : List ℕ) → get tree (neighbour_of path) ≡ Some beside → TakesTo InNeighbour → (b : Bool)
        → (scope.skip_existing && neighbour_is_tagged beside) ≡ b → (given : Option Edit)
        → cond b (done None) (edit_by path (neighbour_of path) beside (neighbour_annotation_of how additions beside))
        ≡ Ok given → Becomes (pair_then tree given path)
    beside_there beside is reason true e given h =
        let tests = and_parts scope.skip_existing (neighbour_is_tagged beside) e in
        skipped given (same_Ok None given h) (inr (tests.0, inr (beside, is, tests.1)))
    beside_there beside is reason false e given h =
        let made = makes_by path (neighbour_of path) beside (neighbour_annotation_of how additions beside) given h in
        let kept = λ (other : List ℕ) (there : get tree (neighbour_of path) ≡ Some other). subst
        (λ f. (scope.skip_existing && neighbour_is_tagged f) ≡ false) (same_Some beside other (sym is ∙ there)) e in
        accompanied (Some beside) is reason (beside_not_skipped scope own path bytes old reason kept) given made.0
        made.1 made.2 (then_here tree (neighbour_of path) beside (header.edited beside made.0) given made.2 is)

    beside : (file : Option (List ℕ)) → get tree (neighbour_of path) ≡ file → TakesTo InNeighbour
        → (given : Option Edit) → edit_neighbour how scope additions tree path file ≡ Ok given
        → Becomes (pair_then tree given path)
    beside None is reason given h =
        let free = err_or (is_clash tree (neighbour_of path)) (refusals.Clash (neighbour_of path))
        (edit_by path (neighbour_of path) [] (neighbour_annotation_of how additions [])) given h in
        let made = makes_by path (neighbour_of path) [] (neighbour_annotation_of how additions []) given free.1 in
        let kept = λ (other : List ℕ) (there : get tree (neighbour_of path) ≡ Some other). absurd
        (none-some other (sym is ∙ there)) in
        accompanied None is reason (beside_not_skipped scope own path bytes old reason kept) given made.0 made.1 made.2
        (then_made tree (neighbour_of path) (header.edited [] made.0) given made.2 is)
    beside (Some there) is reason given h =
        let short = err_or (nat_lt LONGEST_FILE (length there)) (refusals.TooLong path)
        (cond (scope.skip_existing && neighbour_is_tagged there) (done None)
        (edit_by path (neighbour_of path) there (neighbour_annotation_of how additions there))) given h in
        beside_there there is reason (scope.skip_existing && neighbour_is_tagged there) refl given short.1

    by_target : (target : Target) → TakesTo target → (given : Option Edit)
        → edit_target how scope additions tree path bytes (Ok target) ≡ Ok given → Becomes (pair_then tree given path)
    by_target (Inside style) reason given h =
        inside style reason (scope.skip_existing && is_some (header_of style bytes)) refl given h
    by_target InNeighbour reason given h =
        let short = err_or (nat_lt 4096 (length (neighbour_of path))) (refusals.TooLong path)
        (edit_neighbour how scope additions tree path (get tree (neighbour_of path))) given h in
        beside (get tree (neighbour_of path)) refl reason given short.1
    by_target Nowhere reason given h = skipped given (same_Ok None given h) (inl reason)

    becomes : (aim : Result Target Refusal) → ((target : Target) → aim ≡ Ok target → TakesTo target)
        → (given : Option Edit) → edit_target how scope additions tree path bytes aim ≡ Ok given
        → Becomes (pair_then tree given path)
    becomes (Err refusal) reason given h = absurd (cc)
    becomes (Ok target) reason given h = by_target target (reason target refl) given h

  -- what is done at a path
  pub annotated_there : (additions : HeaderAdditions) (how : How) (scope : Scope) (own : OwnKinds) (tree : Files)
      (path : List ℕ) (given : Option Edit) → annotated_at how scope additions own tree path ≡ Ok given
      → IsAnnotated additions how scope own path (pair_at tree path) (pair_then tree given path)
  annotated_there additions how scope own tree path given h = of_file (get tree path) refl h
    where
      of_file : (file : Option (List ℕ)) → get tree path ≡ file
          → annotated_where how scope additions own tree path file ≡ Ok given
          → IsAnnotated additions how scope own path (pair_at tree path) (pair_then tree given path)
      of_file None is k = absurd
          (both_err (is_folder tree path) (refusals.IsFolder (place.Path path)) (refusals.NoSuchPath path) given k)
      of_file (Some bytes) is k =
          let covered = err_or (not (is_covered path)) (refusals.NotCovered path)
          (edit_target how scope additions tree path bytes (target_of scope own tree path bytes)) given k in
          record {
            bytes = bytes;
            there = is;
            covered = not-false (is_covered path) covered.0;
            becomes = becomes additions how scope own tree path bytes is (target_of scope own tree path bytes)
                (takes scope own tree path bytes (goes_to_neighbour scope own tree path) refl) given covered.1;
          }
