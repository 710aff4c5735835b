-- One annotation: the place that it goes to, and the text that it leaves there.
use Rattle.std.proofs.Common.{◌≡◌, ◌≢◌, ◌⊎◌, inl, inr, ℕ, Bool, true, false, ◌&&◌, List, Some, None, IsSome, is_some}
use Rattle.std.proofs.Common.{sym, ap, subst, ◌∙◌, [], ◌∷◌, refl, Option, Ok, Err, bytes_eq, Contains}
use Rattle.std.proofs.lemmas.Bool.{false≢true}
use Rattle.std.proofs.lemmas.Option.{same_Some, none-some}
use Rattle.reuse_style.specs.declared.style.Style.{Style}
use Rattle.reuse_style.specs.declared.style.Kind.{Kind}
use Rattle.reuse_style.specs.declared.style.Kind.TheVariants as kind
use Rattle.reuse_header.specs.Header.{header_of}
use Rattle.reuse_header.specs.Neighbour.{is_text}
use Rattle.reuse_edit.specs.Annotation.{annotated, annotation_of, made_by, neighbour_annotated, neighbour_annotation_of}
use Rattle.reuse_edit.specs.Annotations.{Expected}
use Rattle.reuse_edit.specs.Annotate.{neighbour_is_tagged, neighbour_of}
use Rattle.reuse_plan.specs.Annotated.{Pair, IsStyleOf, HasKind, TakesComment, TakesNeighbour, IsSkipped, IsCommented}
use Rattle.reuse_plan.specs.Annotated.{IsAccompanied, IsAnnotated, Annotates, file_written, pair_at, StaysOrIsText}
use Rattle.reuse_style.specs.Kinds.{OwnKinds, kind_of_file}
use Rattle.reuse_command.specs.declared.command.Scope.{Scope}
use Rattle.reuse_command.specs.declared.command.Unknown.TheVariants as unknown
use Rattle.reuse_command.specs.Reading.{get, Files}
use Rattle.std.proofs.lemmas.Slice.Eq.{bytes_eq-Decides}
use Rattle.reuse_notice.specs.declared.adding.Additions.{Additions}
use Rattle.reuse_header.specs.Annotation as header
use Rattle.reuse_words.specs.Added.{text_annotation_of, neighbour_text_annotation_of}
use Rattle.reuse_words.specs.Texts.{AreTexts}
use Rattle.reuse_command.specs.declared.command.HeaderAdditions.{HeaderAdditions}
use Rattle.reuse_notice.proofs.SetLemmas.{In, In-from_contains, Contains-from_in}
use Rattle.reuse_header.specs.declared.annotation.How.{How}
use Rattle.reuse_change.proofs.FileMaps.{same_files}
use Rattle.reuse_plan.specs.Selected.{selected_paths}
use Rattle.reuse_command.specs.declared.command.Place.{Place}
use Rattle.reuse_edit.proofs.Results.{same_Ok}
use Rattle.reuse_notice.specs.Plain.{ArePlain, AreUtf8}

-- ---- where the licensing information of a file goes: into one place

kinds_differ : (style : Style) → kind.Style style ≡ kind.Uncommentable → ⊥
kinds_differ style e = cc

pub style_or_unknown : (style : Style) → kind.Style style ≡ kind.Unknown → ⊥
style_or_unknown style e = cc

style_is_none : (style : Style) → Some style ≡ None → ⊥
style_is_none style e = cc

-- a file that has a style, which is asked for or is that of its kind, has no kind without one
pub no_kind : (scope : Scope) (own : OwnKinds) (path bytes : List ℕ) (style : Style) (of_file : Kind)
    → (kind.Style style ≡ of_file → ⊥) → IsStyleOf scope own path bytes style → HasKind scope own path bytes of_file → ⊥
no_kind scope own path bytes style of_file differ (inl asked) named = style_is_none style (sym asked ∙ named.0)
no_kind scope own path bytes style of_file differ (inr by_kind) named = differ (sym by_kind.1 ∙ named.1)

-- where no neighbour is there or asked for, the file is text, and it has a style or gets no neighbour for want of one,
-- nothing calls for a neighbour
pub no_call : (scope : Scope) (own : OwnKinds) (path bytes : List ℕ) (pair : Pair) → pair.neighbour ≡ None
    → scope.force_dot_license ≡ false → is_text bytes ≡ true
    → ((style : Style) × IsStyleOf scope own path bytes style)
    ⊎ ((kind_of_file own path bytes ≡ kind.Unknown) × (scope.unknown ≢ unknown.Neighbour))
    → TakesNeighbour scope own path bytes pair → ⊥
no_call scope own path bytes pair alone unforced text named (inl there) = false≢true (sym (ap is_some alone) ∙ there)
no_call scope own path bytes pair alone unforced text named (inr (inl forced)) = false≢true (sym unforced ∙ forced)
no_call scope own path bytes pair alone unforced text named (inr (inr (inl binary))) = false≢true (sym binary ∙ text)
no_call scope own path bytes pair alone unforced text (inl styled) (inr (inr (inr (inl plain)))) =
    no_kind scope own path bytes styled.0 kind.Uncommentable (λ e. kinds_differ styled.0 e) styled.1 plain
no_call scope own path bytes pair alone unforced text (inr nameless) (inr (inr (inr (inl plain)))) =
    let e = sym nameless.0 ∙ plain.1 in cc
no_call scope own path bytes pair alone unforced text (inl styled) (inr (inr (inr (inr beside)))) =
    no_kind scope own path bytes styled.0 kind.Unknown (style_or_unknown styled.0) styled.1 beside.0
no_call scope own path bytes pair alone unforced text (inr nameless) (inr (inr (inr (inr beside)))) =
    nameless.1 beside.1

-- a file that takes a comment takes no neighbour
pub no_neighbour_too : (scope : Scope) (own : OwnKinds) (path bytes : List ℕ) (pair : Pair) (style : Style)
    → TakesComment scope own path bytes pair style → TakesNeighbour scope own path bytes pair → ⊥
no_neighbour_too scope own path bytes pair style takes =
    no_call scope own path bytes pair takes.alone takes.unforced takes.text (inl (style, takes.of_style))

-- it has one style
pub one_style : (scope : Scope) (own : OwnKinds) (path bytes : List ℕ) (style other : Style)
    → IsStyleOf scope own path bytes style → IsStyleOf scope own path bytes other → style ≡ other
one_style scope own path bytes style other (inl e) (inl f) = same_Some style other (sym e ∙ f)
one_style scope own path bytes style other (inl e) (inr f) = absurd (style_is_none style (sym e ∙ f.0))
one_style scope own path bytes style other (inr e) (inl f) = absurd (style_is_none other (sym f ∙ e.0))
one_style scope own path bytes style other (inr e) (inr f) = kind_same style other (sym e.1 ∙ f.1)
  where
    kind_same : (one two : Style) → kind.Style one ≡ kind.Style two → one ≡ two
    kind_same one two h = cc

and_true : (a b : Bool) → (a && b) ≡ false → a ≡ true → b ≡ true → ⊥
and_true true b e f g = false≢true (sym e ∙ g)
and_true false b e f g = false≢true f

-- a file that takes a comment, and isn't passed over for its header, isn't skipped
pub comment_not_skipped : (scope : Scope) (own : OwnKinds) (path bytes : List ℕ) (pair : Pair) (style : Style)
    → TakesComment scope own path bytes pair style
    → (scope.skip_existing && is_some (header_of style bytes)) ≡ false → IsSkipped scope own path bytes pair → ⊥
comment_not_skipped scope own path bytes pair style takes kept (inl nameless) =
    no_kind scope own path bytes style kind.Unknown (style_or_unknown style) takes.of_style nameless.0
comment_not_skipped scope own path bytes pair style takes kept (inr (skip, inl (other, too, tagged))) =
    let same = one_style scope own path bytes other style too.of_style takes.of_style in
    and_true scope.skip_existing (is_some (header_of style bytes)) kept skip
    (subst (λ s. IsSome (header_of s bytes)) same tagged)
comment_not_skipped scope own path bytes pair style takes kept (inr (skip, inr (beside, there, tagged))) =
    none-some beside (sym takes.alone ∙ there)

-- nor is one that takes a neighbour, which isn't passed over for its tags
pub beside_not_skipped : (scope : Scope) (own : OwnKinds) (path bytes : List ℕ) (pair : Pair)
    → TakesNeighbour scope own path bytes pair
    → ((beside : List ℕ) → pair.neighbour ≡ Some beside → (scope.skip_existing && neighbour_is_tagged beside) ≡ false)
    → IsSkipped scope own path bytes pair → ⊥
beside_not_skipped scope own path bytes pair takes kept (inl nameless) = nameless.2 takes
beside_not_skipped scope own path bytes pair takes kept (inr (skip, inl (style, too, tagged))) =
    no_neighbour_too scope own path bytes pair style too takes
beside_not_skipped scope own path bytes pair takes kept (inr (skip, inr (beside, there, tagged))) =
    and_true scope.skip_existing (neighbour_is_tagged beside) (kept beside there) skip tagged

-- ---- what annotate makes of a tree, said in other words, is one tree

-- ---- one file

module _ (additions : HeaderAdditions) (how : How) (scope : Scope) (own : OwnKinds) (path bytes : List ℕ)
    (old new other : Pair) where
  both_commented : IsCommented additions how scope own path bytes old new
      → IsCommented additions how scope own path bytes old other → new ≡ other
  both_commented one two =
      let style = one_style scope own path bytes one.style two.style one.takes.of_style two.takes.of_style in
      let made =
      same_Ok one.made two.made (sym one.by_rules ∙ ap (λ s. annotated s how additions bytes) style ∙ two.by_rules) in
      one.holds ∙ ap (λ (m : List ℕ). record { file = Some m; neighbour = None }) made ∙ sym two.holds

  both_accompanied : IsAccompanied additions how scope own path bytes old new
      → IsAccompanied additions how scope own path bytes old other → new ≡ other
  both_accompanied one two =
      let made = same_Ok one.made two.made (sym one.by_rules ∙ two.by_rules) in
      one.holds
      ∙ ap (λ (m : List ℕ). record { file = old.file; neighbour = file_written old.neighbour m }) made ∙ sym two.holds

  abbrev Written : Pair → Type 0
  Written pair = IsCommented additions how scope own path bytes old pair
      ⊎ IsAccompanied additions how scope own path bytes old pair

  both_written : Written new → Written other → new ≡ other
  both_written (inl one) (inl two) = both_commented one two
  both_written (inl one) (inr two) = absurd (no_neighbour_too scope own path bytes old one.style one.takes two.takes)
  both_written (inr one) (inl two) = absurd (no_neighbour_too scope own path bytes old two.style two.takes one.takes)
  both_written (inr one) (inr two) = both_accompanied one two

  abbrev Becomes : Pair → Type 0
  Becomes pair =
      (IsSkipped scope own path bytes old × (pair ≡ old)) ⊎ (¬ (IsSkipped scope own path bytes old) × Written pair)

  becomes_one : Becomes new → Becomes other → new ≡ other
  becomes_one (inl one) (inl two) = one.1 ∙ sym two.1
  becomes_one (inl one) (inr two) = absurd (two.0 one.0)
  becomes_one (inr one) (inl two) = absurd (one.0 two.0)
  becomes_one (inr one) (inr two) = both_written one.1 two.1

annotated_one : (additions : HeaderAdditions) (how : How) (scope : Scope) (own : OwnKinds) (path : List ℕ)
    (old new other : Pair) → IsAnnotated additions how scope own path old new
    → IsAnnotated additions how scope own path old other → new ≡ other
annotated_one additions how scope own path old new other one two =
    let same = same_Some two.bytes one.bytes (sym two.there ∙ one.there) in
    becomes_one additions how scope own path one.bytes old new other one.becomes
    (subst (λ bytes. Becomes additions how scope own path bytes old new other other) same two.becomes)

-- ---- the tree

-- whether a path is one that is made of some
module _ (of : List ℕ → List ℕ) (q : List ℕ) where
  abbrev pub Found : List (List ℕ) → Type 0
  Found paths = (path : List ℕ) × In path paths × (q ≡ of path)

  abbrev pub Lacking : List (List ℕ) → Type 0
  Lacking paths = (path : List ℕ) → In path paths → q ≢ of path

  pub searched : (paths : List (List ℕ)) → Found paths ⊎ Lacking paths
  searched [] = inr (λ path there. absurd there)
  searched (first ∷ paths) = of_test (bytes_eq q (of first)) refl (searched paths)
    where
      of_test : (b : Bool) → bytes_eq q (of first) ≡ b → Found paths ⊎ Lacking paths
          → Found (first ∷ paths) ⊎ Lacking (first ∷ paths)
      of_test true e rest = inl (first, inl refl, (bytes_eq-Decides q (of first)).0 e)
      of_test false e (inl found) = inl (found.0, inr found.1, found.2)
      of_test false e (inr none) = inr (λ path there. elim there [
        | inl same ↦ λ is. false≢true (sym e ∙ (bytes_eq-Decides q (of first)).1 (is ∙ ap of same))
        | inr later ↦ none path later
      ])

module _ (places : List Place) (additions : HeaderAdditions) (how : How) (scope : Scope) (before after other : Files)
    (one : Annotates places additions how scope before after)
    (two : Annotates places additions how scope before other) where
  abbrev paths : List (List ℕ)
  paths = selected_paths scope places before

  same_pair : (path : List ℕ) → In path paths
      → (get after path ≡ get other path) × (get after (neighbour_of path) ≡ get other (neighbour_of path))
  same_pair path there =
      let here = Contains-from_in paths path there in
      let own = same_Ok two.own one.own (sym two.styles ∙ one.styles) in
      let same = annotated_one additions how scope one.own path _ _ _ (one.selected path here)
      (subst (λ names. IsAnnotated additions how scope names path _ _) own (two.selected path here)) in
      (ap (λ (pair : Pair). pair.file) same, ap (λ (pair : Pair). pair.neighbour) same)

  same_at : (q : List ℕ) → get after q ≡ get other q
  same_at q = by_path (searched (λ path. path) q paths) (searched neighbour_of q paths)
    where
      by_path : Found (λ path. path) q paths ⊎ Lacking (λ path. path) q paths
          → Found neighbour_of q paths ⊎ Lacking neighbour_of q paths → get after q ≡ get other q
      by_path (inl found) beside = subst (λ p. get after p ≡ get other p) (sym found.2) (same_pair found.0 found.1).0
      by_path (inr none) (inl found) =
          subst (λ p. get after p ≡ get other p) (sym found.2) (same_pair found.0 found.1).1
      by_path (inr none) (inr lacking) =
          let apart : (path : List ℕ) → Contains paths path → (q ≢ path) × (q ≢ neighbour_of path) = λ path there.
          (none path (In-from_contains paths path there), lacking path (In-from_contains paths path there)) in
          one.others q apart ∙ sym (two.others q apart)

  pub one_tree : after ≡ other
  one_tree = same_files after other same_at

-- ---- what annotate changes is text then

-- what the header rules make of text is text
abbrev pub MakesTexts : Type 0
MakesTexts = (style : Style) (how : How) (tags : Additions) (texts : List (List (List ℕ))) (file : List ℕ)
    (edit : header.Edit) → ArePlain tags → AreUtf8 tags → AreTexts texts → is_text file ≡ true
    → text_annotation_of style how tags texts file ≡ Ok edit → is_text (header.edited file edit) ≡ true

abbrev pub MakesNeighbourTexts : Type 0
MakesNeighbourTexts = (how : How) (tags : Additions) (texts : List (List (List ℕ))) (file : List ℕ)
    (edit : header.Edit) → ArePlain tags → AreUtf8 tags → AreTexts texts
    → neighbour_text_annotation_of how tags texts file ≡ Ok edit
    → (is_text file ≡ true) × (is_text (header.edited file edit) ≡ true)

-- what is made is made by an edit
made_from : (file made : List ℕ) (expected : Expected) → made_by file expected ≡ Ok made
    → (edit : header.Edit) × (expected ≡ Ok edit) × (header.edited file edit ≡ made)
made_from file made (Ok edit) e = (edit, refl, let same : header.edited file edit ≡ made = cc e in same)
made_from file made (Err refusal) e = absurd (let none : ⊥ = cc e in none)

-- a file stays, or is one of text then
abbrev Stays : Option (List ℕ) → Option (List ℕ) → Type 0
Stays old new = (new ≡ old) ⊎ ((bytes : List ℕ) × (new ≡ Some bytes) × (is_text bytes ≡ true))

written_stays : (old : Option (List ℕ)) (made : List ℕ) → is_text made ≡ true → Stays old (file_written old made)
written_stays None [] text = inl refl
written_stays None (b ∷ made) text = inr (b ∷ made, refl, text)
written_stays (Some bytes) made text = inr (made, refl, text)

module _ (files : MakesTexts) (beside : MakesNeighbourTexts) (additions : HeaderAdditions) (how : How) (scope : Scope)
    (plain : ArePlain additions.tags) (utf8 : AreUtf8 additions.tags) (are : AreTexts additions.texts) where
  file_text : (style : Style) (file made : List ℕ) → is_text file ≡ true → annotated style how additions file ≡ Ok made
      → is_text made ≡ true
  file_text style file made text e =
      let from = made_from file made (annotation_of style how additions file) e in
      ap is_text (sym from.2)
      ∙ files style how additions.tags additions.texts file from.0 plain utf8 are text from.1

  neighbour_text : (file made : List ℕ) → neighbour_annotated how additions file ≡ Ok made → is_text made ≡ true
  neighbour_text file made e =
      let from = made_from file made (neighbour_annotation_of how additions file) e in
      ap is_text (sym from.2)
      ∙ (beside how additions.tags additions.texts file from.0 plain utf8 are from.1).1

  module _ (own : OwnKinds) (path : List ℕ) (old new : Pair)
      (is : IsAnnotated additions how scope own path old new) where
    commented : IsCommented additions how scope own path is.bytes old new
        → Stays old.file new.file × Stays old.neighbour new.neighbour
    commented c = (
      inr (
        c.made,
        ap (λ (pair : Pair). pair.file) c.holds,
        file_text c.style is.bytes c.made c.takes.text c.by_rules,
      ),
      inl (ap (λ (pair : Pair). pair.neighbour) c.holds ∙ sym c.takes.alone),
    )

    accompanied : IsAccompanied additions how scope own path is.bytes old new
        → Stays old.file new.file × Stays old.neighbour new.neighbour
    accompanied a = (
      inl (ap (λ (pair : Pair). pair.file) a.holds),
      subst (λ (file : Option (List ℕ)). Stays old.neighbour file) (sym (ap (λ (pair : Pair). pair.neighbour) a.holds))
          (written_stays old.neighbour a.made (neighbour_text _ a.made a.by_rules)),
    )

    pair_stays : Stays old.file new.file × Stays old.neighbour new.neighbour
    pair_stays = by is.becomes
      where
        by : (IsSkipped scope own path is.bytes old × (new ≡ old))
            ⊎ (¬ (IsSkipped scope own path is.bytes old) × (IsCommented additions how scope own path is.bytes old new
            ⊎ IsAccompanied additions how scope own path is.bytes old new))
            → Stays old.file new.file × Stays old.neighbour new.neighbour
        by (inl skipped) =
            (inl (ap (λ (pair : Pair). pair.file) skipped.1), inl (ap (λ (pair : Pair). pair.neighbour) skipped.1))
        by (inr (apart, inl c)) = commented c
        by (inr (apart, inr a)) = accompanied a

  module _ (places : List Place) (before after : Files) (made : Annotates places additions how scope before after) where
    abbrev chosen : List (List ℕ)
    chosen = selected_paths scope places before

    both_stay : (path : List ℕ) → In path chosen
        → StaysOrIsText before after path × StaysOrIsText before after (neighbour_of path)
    both_stay path there = pair_stays made.own path (pair_at before path) (pair_at after path)
        (made.selected path (Contains-from_in chosen path there))

    pub stays_or_text : (q : List ℕ) → StaysOrIsText before after q
    stays_or_text q = by_path (searched (λ path. path) q chosen) (searched neighbour_of q chosen)
      where
        by_path : Found (λ path. path) q chosen ⊎ Lacking (λ path. path) q chosen
            → Found neighbour_of q chosen ⊎ Lacking neighbour_of q chosen → StaysOrIsText before after q
        by_path (inl found) other =
            subst (λ p. StaysOrIsText before after p) (sym found.2) (both_stay found.0 found.1).0
        by_path (inr none) (inl found) =
            subst (λ p. StaysOrIsText before after p) (sym found.2) (both_stay found.0 found.1).1
        by_path (inr none) (inr lacking) =
            inl (made.others q (λ path there.
            (none path (In-from_contains chosen path there), lacking path (In-from_contains chosen path there))))
