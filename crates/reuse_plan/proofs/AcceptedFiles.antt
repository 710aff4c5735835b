-- Where annotate is accepted at a path.
use Rattle.std.proofs.Common.{◌≡◌, ◌⊎◌, inl, inr, ℕ, ◌≤◌, Bool, true, false, cond, not, ◌&&◌, nat_lt, List, [], length}
use Rattle.std.proofs.Common.{Option, Some, None, is_some, Result, Ok, Err, refl, sym, ap, subst, ◌∙◌, IsOk, is_ok}
use Rattle.std.proofs.Common.{unwrap_or, bytes_eq}
use Rattle.std.specs.FinMap.{get}
use Rattle.std.proofs.lemmas.Bool.{false≢true, le-ltb, ltb-false}
use Rattle.std.proofs.lemmas.Option.{none-some}
use Rattle.reuse_text.specs.declared.TheConstants.{LONGEST_FILE}
use Rattle.reuse_command.specs.declared.command.HeaderAdditions.{HeaderAdditions}
use Rattle.reuse_header.specs.Annotation as header
use Rattle.reuse_header.specs.Header.{header_of}
use Rattle.reuse_header.specs.Neighbour.{is_text}
use Rattle.reuse_header.specs.declared.annotation.How.{How}
use Rattle.reuse_style.specs.declared.style.Kind.{Kind}
use Rattle.reuse_style.specs.declared.style.Kind.TheVariants as kind
use Rattle.reuse_style.specs.declared.style.Style.{Style}
use Rattle.reuse_change.specs.Files.{Files, Clashes}
use Rattle.reuse_edit.specs.Annotation.{annotated, annotation_of, made_by, neighbour_annotated, neighbour_annotation_of}
use Rattle.reuse_plan.specs.Accepted.{IsUnread, HasRoomForNeighbour, RulesAccept, CanBeAnnotated}
use Rattle.reuse_edit.specs.Annotate.{neighbour_of, neighbour_is_tagged, goes_to_neighbour, target_of}
use Rattle.reuse_edit.specs.Annotate.{target_of_unknown, target_by_kind, target_by_style, target_by_bytes, edit_by}
use Rattle.reuse_edit.specs.Annotate.{edit_inside, edit_neighbour, edit_of_neighbour, edit_target, annotated_where}
use Rattle.reuse_edit.specs.Annotate.{annotated_at}
use Rattle.reuse_plan.specs.Annotated.{Pair, pair_at, HasKind, IsSkipped, IsCommented, IsAccompanied, TakesComment}
use Rattle.reuse_plan.specs.Annotated.{TakesNeighbour}
use Rattle.reuse_edit.specs.Annotations.{Expected}
use Rattle.reuse_change.specs.Clash.{is_clash}
use Rattle.reuse_command.specs.Covered.{is_covered}
use Rattle.reuse_edit.specs.Edit.{Edit}
use Rattle.reuse_style.specs.Kinds.{OwnKinds, kind_of_file}
use Rattle.reuse_command.specs.declared.command.Scope.{Scope}
use Rattle.reuse_command.specs.declared.command.Unknown.{Unknown}
use Rattle.reuse_command.specs.declared.command.Unknown.TheVariants as unknown
use Rattle.reuse_edit.specs.declared.target.Target.{Target}
use Rattle.reuse_edit.specs.declared.target.Target.TheVariants.{Inside, InNeighbour, Nowhere}
use Rattle.reuse_command.specs.declared.reply.Refusal.{Refusal}
use Rattle.reuse_command.specs.declared.reply.Refusal.TheVariants as refusals
use Rattle.reuse_plan.proofs.Accepting.{not_clashing, free_of_clash}
use Rattle.reuse_plan.proofs.AnnotatedFiles.{ReplacesBlock, InsertsBlock, ReplacesNeighbour, InsertsNeighbour}
use Rattle.reuse_plan.proofs.AnnotatedFiles.{pair_then, annotated_there, Takes, is_read, no_neighbour, takes, unread}
use Rattle.reuse_edit.proofs.EditedPlaces.{aimed}
use Rattle.reuse_plan.proofs.OneAnnotation.{no_kind, no_neighbour_too, one_style, comment_not_skipped}
use Rattle.reuse_plan.proofs.OneAnnotation.{beside_not_skipped, style_or_unknown}
use Rattle.reuse_edit.proofs.EditResults.{done}
use Rattle.reuse_edit.proofs.Results.{err_or}

-- something is done, or nothing has to be
abbrev pub IsDone : Result (Option Edit) Refusal → Type 0
IsDone at = (given : Option Edit) × (at ≡ Ok given)

pub done_nothing : (b : Bool) (rest : Result (Option Edit) Refusal) → b ≡ true → IsDone (cond b (done None) rest)
done_nothing b rest e = (None, ap (λ t. cond t (done None) rest) e)

pub done_rest : (b : Bool) (first rest : Result (Option Edit) Refusal) → b ≡ false → IsDone rest
    → IsDone (cond b first rest)
done_rest b first rest e more = (more.0, ap (λ t. cond t first rest) e ∙ more.1)

-- an annotation that the header rules accept is done
pub done_by : (path at bytes : List ℕ) (expected : Expected) → IsOk (made_by bytes expected)
    → IsDone (edit_by path at bytes expected)
done_by path at bytes (Err refusal) is = absurd (false≢true is)
done_by path at bytes (Ok edit) is = by_test (bytes_eq (header.edited bytes edit) bytes) _
  where
    by_test : (b : Bool) (it : Edit) → IsDone (cond b (done None) (done (Some it)))
    by_test true it = (None, refl)
    by_test false it = (Some it, refl)

module _ (additions : HeaderAdditions) (how : How) (scope : Scope) (own : OwnKinds) (tree : Files)
    (path bytes : List ℕ) where
  abbrev pair : Pair
  pair = pair_at tree path

  abbrev at_target : Result Target Refusal → Result (Option Edit) Refusal
  at_target aim = edit_target how scope additions tree path bytes aim

  -- ---- what is done is accepted

  read_short : (b : Bool) → goes_to_neighbour scope own tree path ≡ b → (target : Target)
      → cond b (aimed InNeighbour) (target_by_bytes scope own path bytes) ≡ Ok target → ¬ (IsUnread scope own path pair)
      → length bytes ≤ LONGEST_FILE
  read_short true e target h read = absurd (read (unread scope own tree path bytes e))
  read_short false e target h read =
      ltb-false LONGEST_FILE (length bytes) (err_or (nat_lt LONGEST_FILE (length bytes)) (refusals.TooLong path)
      (cond (not (is_text bytes)) (aimed InNeighbour) (target_by_style scope own path bytes scope.style)) target h).0

  room_here : (given : Option Edit) (file : Option (List ℕ)) → get tree (neighbour_of path) ≡ file
      → edit_neighbour how scope additions tree path file ≡ Ok given
      → ((beside : List ℕ) → get tree (neighbour_of path) ≡ Some beside → length beside ≤ LONGEST_FILE)
      × (get tree (neighbour_of path) ≡ None → ¬ (Clashes tree (neighbour_of path)))
  room_here given None is h = (
    λ beside there. absurd (none-some beside (sym is ∙ there)),
    λ none. not_clashing tree (neighbour_of path)
        (err_or (is_clash tree (neighbour_of path)) (refusals.Clash (neighbour_of path))
        (edit_by path (neighbour_of path) [] (neighbour_annotation_of how additions [])) given h).0,
  )
  room_here given (Some there) is h = (
    λ beside other. subst (λ f. LengthOf f) (sym is ∙ other)
        (ltb-false LONGEST_FILE (length there) (err_or (nat_lt LONGEST_FILE (length there)) (refusals.TooLong path)
        (cond (scope.skip_existing && neighbour_is_tagged there) (done None)
        (edit_by path (neighbour_of path) there (neighbour_annotation_of how additions there))) given h).0),
    λ none. absurd (none-some there (sym none ∙ is)),
  )
    where
      LengthOf : Option (List ℕ) → Type 0
      LengthOf file = length (unwrap_or file []) ≤ LONGEST_FILE

  room_beside : (target : Target) → Takes scope own tree path bytes target → (given : Option Edit)
      → at_target (Ok target) ≡ Ok given → TakesNeighbour scope own path bytes pair → HasRoomForNeighbour tree path
  room_beside (Inside style) reason given h calls =
      absurd (no_neighbour_too scope own path bytes pair style reason calls)
  room_beside Nowhere reason given h calls = absurd (reason.2 calls)
  room_beside InNeighbour reason given h calls =
      let path_fits = err_or (nat_lt 4096 (length (neighbour_of path))) (refusals.TooLong path)
      (edit_neighbour how scope additions tree path (get tree (neighbour_of path))) given h in
      let rest = room_here given (get tree (neighbour_of path)) refl path_fits.1 in
      record { short_path = ltb-false 4096 (length (neighbour_of path)) path_fits.0; short = rest.0; free = rest.1 }

  -- the place is one, where something is done
  place_of : (aim : Result Target Refusal) (given : Option Edit) → at_target aim ≡ Ok given
      → (target : Target) × (aim ≡ Ok target)
  place_of (Err refusal) given h = absurd (cc)
  place_of (Ok target) given h = (target, refl)

  -- ---- what is accepted is done

  module _ (can : CanBeAnnotated additions how scope own tree path) (is : can.bytes ≡ bytes) where
    abbrev Accepts : List ℕ → Type 0
    Accepts bs = RulesAccept additions how scope own path bs pair

    accepted : Accepts bytes
    accepted = subst Accepts is can.accepted

    -- a name without a style isn't refused
    named : (e : goes_to_neighbour scope own tree path ≡ false) → is_text bytes ≡ true
        → HasKind scope own path bytes kind.Unknown → (scope.unknown ≡ unknown.Refuse) → Accepts bytes → ⊥
    named e text nameless refuse (inl (inl skipped)) = let a = sym refuse ∙ skipped.1 in cc
    named e text nameless refuse (inl (inr (skip, inl (style, too, tagged)))) =
        no_kind scope own path bytes style kind.Unknown (style_or_unknown style) too.of_style nameless
    named e text nameless refuse (inl (inr (skip, inr (beside, there, tagged)))) =
        is_read scope own tree path bytes e (inl (ap is_some there))
    named e text nameless refuse (inr (inl (style, too, made))) =
        no_kind scope own path bytes style kind.Unknown (style_or_unknown style) too.of_style nameless
    named e text nameless refuse (inr (inr (calls, made))) = no_neighbour scope own tree path bytes e text
        (inr (nameless.1, λ beside. refuse_or_neighbour (sym refuse ∙ beside))) calls
      where
        refuse_or_neighbour : unknown.Refuse ≡ unknown.Neighbour → ⊥
        refuse_or_neighbour h = cc

    abbrev Aims : Result Target Refusal → Type 0
    Aims aim = (target : Target) × (aim ≡ Ok target)

    aims_by_style : (e : goes_to_neighbour scope own tree path ≡ false) → is_text bytes ≡ true → (style : Option Style)
        → scope.style ≡ style → Aims (target_by_style scope own path bytes style)
    aims_by_style e text (Some style) asked = (Inside style, refl)
    aims_by_style e text None asked = by_kind (kind_of_file own path bytes) refl
      where
        by_kind : (of_file : Kind) → kind_of_file own path bytes ≡ of_file
            → Aims (target_by_kind scope.unknown path of_file)
        by_kind (kind.Style style) known = (Inside style, refl)
        by_kind kind.Uncommentable known = (InNeighbour, refl)
        by_kind kind.Unknown known = by_wish scope.unknown refl
          where
            by_wish : (wish : Unknown) → scope.unknown ≡ wish → Aims (target_of_unknown wish path)
            by_wish unknown.Refuse wished = absurd (named e text (asked, known) wished accepted)
            by_wish unknown.Neighbour wished = (InNeighbour, refl)
            by_wish unknown.Skip wished = (Nowhere, refl)

    aims_by_text : (e : goes_to_neighbour scope own tree path ≡ false) → (b : Bool) → is_text bytes ≡ b
        → Aims (cond (not b) (aimed InNeighbour) (target_by_style scope own path bytes scope.style))
    aims_by_text e false text = (InNeighbour, refl)
    aims_by_text e true text = aims_by_style e text scope.style refl

    aims : (b : Bool) → goes_to_neighbour scope own tree path ≡ b
        → Aims (cond b (aimed InNeighbour) (target_by_bytes scope own path bytes))
    aims true e = (InNeighbour, refl)
    aims false e =
        let short =
        subst (λ (bs : List ℕ). length bs ≤ LONGEST_FILE) is (can.short (is_read scope own tree path bytes e)) in
        let more = aims_by_text e (is_text bytes) refl in (
          more.0,
          ap (λ b. cond b (Err (refusals.TooLong path)) (cond (not (is_text bytes)) (aimed InNeighbour)
              (target_by_style scope own path bytes scope.style))) (le-ltb LONGEST_FILE (length bytes) short) ∙ more.1,
        )

    comment_made : (style : Style) → TakesComment scope own path bytes pair style
        → (scope.skip_existing && is_some (header_of style bytes)) ≡ false → Accepts bytes
        → IsOk (annotated style how additions bytes)
    comment_made style reason kept (inl skipped) =
        absurd (comment_not_skipped scope own path bytes pair style reason kept skipped)
    comment_made style reason kept (inr (inl (other, too, made))) =
        subst (λ s. IsOk (annotated s how additions bytes))
        (one_style scope own path bytes other style too.of_style reason.of_style) made
    comment_made style reason kept (inr (inr (calls, made))) =
        absurd (no_neighbour_too scope own path bytes pair style reason calls)

    inside : (style : Style) → TakesComment scope own path bytes pair style → (b : Bool)
        → (scope.skip_existing && is_some (header_of style bytes)) ≡ b
        → IsDone (edit_inside how scope additions path bytes style)
    inside style reason true e = done_nothing _ _ e
    inside style reason false e = done_rest _ _ _ e (done_by path path bytes
        (annotation_of style how additions bytes) (comment_made style reason e accepted))

    neighbour_made : TakesNeighbour scope own path bytes pair → ((beside : List ℕ) → get tree
        (neighbour_of path) ≡ Some beside → (scope.skip_existing && neighbour_is_tagged beside) ≡ false) → Accepts bytes
        → IsOk (neighbour_annotated how additions (unwrap_or (get tree (neighbour_of path)) []))
    neighbour_made calls kept (inl skipped) = absurd (beside_not_skipped scope own path bytes pair calls kept skipped)
    neighbour_made calls kept (inr (inl (style, too, made))) =
        absurd (no_neighbour_too scope own path bytes pair style too calls)
    neighbour_made calls kept (inr (inr (too, made))) = made

    module _ (calls : TakesNeighbour scope own path bytes pair) (room : HasRoomForNeighbour tree path) where
      tagged_or_made : (beside : List ℕ) → get tree (neighbour_of path) ≡ Some beside → (b : Bool)
          → (scope.skip_existing && neighbour_is_tagged beside) ≡ b
          → IsDone (cond (scope.skip_existing && neighbour_is_tagged beside) (done None)
          (edit_by path (neighbour_of path) beside (neighbour_annotation_of how additions beside)))
      tagged_or_made beside there true e = done_nothing _ _ e
      tagged_or_made beside there false e =
          let kept = λ (other : List ℕ) (too : get tree (neighbour_of path) ≡ Some other). subst (λ f. IsKept f)
          (sym there ∙ too) e in
          done_rest _ _ _ e (done_by path (neighbour_of path) beside (neighbour_annotation_of how additions beside)
          (subst (λ f. IsOk (neighbour_annotated how additions (unwrap_or f []))) there
          (neighbour_made calls kept accepted)))
        where
          IsKept : Option (List ℕ) → Type 0
          IsKept file = (scope.skip_existing && neighbour_is_tagged (unwrap_or file [])) ≡ false

      at_neighbour : (file : Option (List ℕ)) → get tree (neighbour_of path) ≡ file
          → IsDone (edit_neighbour how scope additions tree path file)
      at_neighbour None there =
          let kept = λ (other : List ℕ) (too : get tree (neighbour_of path) ≡ Some other). absurd
          (none-some other (sym there ∙ too)) in
          done_rest _ _ _ (free_of_clash tree (neighbour_of path) (room.free there))
          (done_by path (neighbour_of path) [] (neighbour_annotation_of how additions [])
          (subst (λ f. IsOk (neighbour_annotated how additions (unwrap_or f []))) there
          (neighbour_made calls kept accepted)))
      at_neighbour (Some beside) there =
          done_rest _ _ _ (le-ltb LONGEST_FILE (length beside) (room.short beside there))
          (tagged_or_made beside there (scope.skip_existing && neighbour_is_tagged beside) refl)

      beside_done : IsDone (edit_of_neighbour how scope additions tree path)
      beside_done = done_rest _ _ _ (le-ltb 4096 (length (neighbour_of path)) room.short_path)
          (at_neighbour (get tree (neighbour_of path)) refl)

    at_place : (target : Target) → Takes scope own tree path bytes target → IsDone (at_target (Ok target))
    at_place (Inside style) reason = inside style reason (scope.skip_existing && is_some (header_of style bytes)) refl
    at_place InNeighbour reason =
        beside_done reason (can.room (subst (λ bs. TakesNeighbour scope own path bs pair) (sym is) reason))
    at_place Nowhere reason = (None, refl)

    placed : IsDone (at_target (target_of scope own tree path bytes))
    placed =
        let aim = aims (goes_to_neighbour scope own tree path) refl in
        let here =
        at_place aim.0 (takes scope own tree path bytes (goes_to_neighbour scope own tree path) refl aim.0 aim.1) in
        (here.0, ap at_target aim.1 ∙ here.1)

-- ---- a path

module _ (additions : HeaderAdditions) (how : How) (scope : Scope) (own : OwnKinds) (tree : Files) (path : List ℕ) where
  pub accepted_is_done : CanBeAnnotated additions how scope own tree path
      → IsDone (annotated_at how scope additions own tree path)
  accepted_is_done can =
      let here = placed additions how scope own tree path can.bytes can refl in (
        here.0,
        ap (annotated_where how scope additions own tree path) can.there
            ∙ ap (λ b. cond (not b) (Err (refusals.NotCovered path))
            (edit_target how scope additions tree path can.bytes (target_of scope own tree path can.bytes))) can.covered
            ∙ here.1,
      )

  pub done_is_accepted : ReplacesBlock → InsertsBlock → ReplacesNeighbour → InsertsNeighbour
      → IsDone (annotated_at how scope additions own tree path) → CanBeAnnotated additions how scope own tree path
  done_is_accepted replaces inserts replaces_beside inserts_beside (given, h) =
      let is =
      annotated_there replaces inserts replaces_beside inserts_beside additions how scope own tree path given h in
      let bytes = is.bytes in
      let k = (err_or (not (is_covered path)) (refusals.NotCovered path)
      (edit_target how scope additions tree path bytes (target_of scope own tree path bytes)) given
      (sym (ap (annotated_where how scope additions own tree path) is.there) ∙ h)).1 in
      let place = place_of additions how scope own tree path bytes (target_of scope own tree path bytes) given k in
      let at = sym (ap (edit_target how scope additions tree path bytes) place.1) ∙ k in
      record {
        bytes = bytes;
        there = is.there;
        covered = is.covered;
        short = read_short additions how scope own tree path bytes
            (goes_to_neighbour scope own tree path) refl place.0 place.1;
        room = room_beside additions how scope own tree path bytes place.0
            (takes scope own tree path bytes (goes_to_neighbour scope own tree path) refl place.0 place.1) given at;
        accepted = by_end is.bytes is.becomes;
      }
    where
      by_end : (bytes : List ℕ)
          → (IsSkipped scope own path bytes (pair_at tree path) × (pair_then tree given path ≡ pair_at tree path))
          ⊎ (¬ (IsSkipped scope own path bytes (pair_at tree path))
          × (IsCommented additions how scope own path bytes (pair_at tree path) (pair_then tree given path)
          ⊎ IsAccompanied additions how scope own path bytes (pair_at tree path) (pair_then tree given path)))
          → RulesAccept additions how scope own path bytes (pair_at tree path)
      by_end bytes (inl (skipped, same)) = inl skipped
      by_end bytes (inr (kept, inl comment)) = inr (inl (comment.style, comment.takes, ap is_ok comment.by_rules))
      by_end bytes (inr (kept, inr beside)) = inr (inr (beside.takes, ap is_ok beside.by_rules))
