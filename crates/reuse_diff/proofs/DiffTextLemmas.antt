-- A diff that is written part by part.
use Rattle.std.proofs.Common.{◌≡◌, ℕ, false, List, [], ◌++◌, Option, Some, None, refl, sym, subst, ◌∙◌}
use Rattle.std.specs.List.{flat_map}
use Rattle.std.specs.Prelude.{IsNone, IfSome, ◌↔◌}
use Rattle.std.proofs.KnownBytes.{Appends-trans}
use Rattle.std.specs.Io.KnownBytes.{Appends}
use Rattle.reuse_change.specs.Change.{path_of}
use Rattle.reuse_change.specs.declared.change.Change.{Change}
use Rattle.reuse_change.specs.declared.change.Change.TheVariants.{Make, Drop, Splice}
use Rattle.reuse_change.specs.declared.digest.Seal.{Seal}
use Rattle.reuse_diff.specs.declared.hunk.Hunk.{Hunk}
use Rattle.reuse_diff.specs.declared.hunk.Piece.{Piece}
use Rattle.reuse_diff.specs.Hunks.{IsHunk, KeepsEnds, hunk_text, old_lines, new_lines, piece_text}
use Rattle.reuse_diff.specs.TextLines.{AreLinesOf}
use Rattle.reuse_shown.specs.JoinedTexts.{AppendsSome}
use Rattle.reuse_shown.proofs.JoinedLemmas.{appends_none}
use Rattle.reuse_diff.specs.DiffText.{IsTextBody, IsBody, IsDiff, IsRange, IsRangeBody, IsRangeLines, IsRecord}
use Rattle.reuse_diff.specs.DiffText.{head_text, part_before, part_after, range_title, same_side}

-- the names and the hunk of texts that differ
pub text_body-hunk : (names before after : List ℕ) (hunk : Hunk) (old new : Option (List ℕ)) → (before ≡ after → ⊥)
    → IsHunk before after hunk
    → Appends old new (names ++ hunk_text hunk) → AppendsSome old new (IsTextBody names before after)
text_body-hunk names before after hunk old new differ is so =
    (names ++ hunk_text hunk, (record { same = λ e. absurd (differ e); hunk = λ _. (hunk, is, refl) }, so))

-- texts that are the same
pub text_body-same : (names before after : List ℕ) (known : Option (List ℕ)) → before ≡ after
    → AppendsSome known known (IsTextBody names before after)
text_body-same names before after known e =
    ([], (record { same = λ _. refl; hunk = λ differ. absurd (differ e) }, appends_none known))

-- the head, and what stands behind it
pub diff-body : (path : List ℕ) (before after : Option (List ℕ)) (old mid new : Option (List ℕ))
    → same_side before after ≡ false
    → Appends old mid (head_text path before after) → AppendsSome mid new (IsBody path before after)
    → AppendsSome old new (IsDiff path before after)
diff-body path before after old mid new differ head body = (
  head_text path before after ++ body.0,
  (rw differ (body.0, body.1.0, refl), Appends-trans old mid new (head_text path before after) body.0 head body.1.1),
)

-- what is found between two texts, as they are handed on
pub found-hunk : (names before after b a : List ℕ) (found : Option Hunk) (hunk : Hunk) (old new : Option (List ℕ))
    → b ≡ before → a ≡ after → found ≡ Some hunk
    → (IsNone found ↔ (b ≡ a)) → IfSome found (IsHunk b a) → Appends old new (names ++ hunk_text hunk)
    → AppendsSome old new (IsTextBody names before after)
found-hunk names before after b a found hunk old new first second is same ok so =
    text_body-hunk names before after hunk old new (λ e. let none = rw is at (same.1 (first ∙ e ∙ sym second)) in cc)
    (rw (is, first, second) at ok) so

pub found-none : (names before after b a : List ℕ) (found : Option Hunk) (known : Option (List ℕ)) → b ≡ before
    → a ≡ after → found ≡ None
    → (IsNone found ↔ (b ≡ a)) → AppendsSome known known (IsTextBody names before after)
found-none names before after b a found known first second none same =
    text_body-same names before after known (sym first ∙ same.0 (rw none refl) ∙ second)

-- the head of a range, and what stands behind it
pub range-body : (path : List ℕ) (before after : Option (List ℕ)) (at : ℕ) (old mid new : Option (List ℕ))
    → Appends old mid (head_text path before after)
    → AppendsSome mid new (IsRangeBody path before after at) → AppendsSome old new (IsRange path before after at)
range-body path before after at old mid new head body = (
  head_text path before after ++ body.0,
  ((body.0, body.1.0, refl), Appends-trans old mid new (head_text path before after) body.0 head body.1.1),
)

-- names, where a range stands, and its lines
pub range-lines : (names before after b a : List ℕ) (at : ℕ) (pieces shown : List Piece)
    (old named titled new : Option (List ℕ)) → b ≡ before → a ≡ after → shown ≡ pieces
    → AreLinesOf b (old_lines pieces) → AreLinesOf a (new_lines pieces) → KeepsEnds pieces → Appends old named names
    → Appends named titled (range_title at)
    → Appends titled new (flat_map piece_text shown) → AppendsSome old new (IsRangeLines names at before after)
range-lines names before after b a at pieces shown old named titled new first second same olds news ends
    wrote title lines =
    let last = flat_map piece_text pieces in
    let shows : Appends titled new last = subst (λ l. Appends titled new (flat_map piece_text l)) same lines in (
      names ++ range_title at ++ last,
      (
        (
          pieces,
          subst (λ t. AreLinesOf t (old_lines pieces)) first olds,
          subst (λ t. AreLinesOf t (new_lines pieces)) second news,
          ends,
          refl,
        ),
        Appends-trans old titled new (names ++ range_title at) last
            (Appends-trans old named titled names (range_title at) wrote title) shows,
      ),
    )

-- ---- what a change has recorded

-- a range
pub record_range : (change : Change) (path : List ℕ) (at : ℕ) (old new : List ℕ) (rest : ℕ) (seal : Option Seal)
    → change ≡ Splice path at old new rest seal
    → (name : List ℕ) (before after : Option (List ℕ)) → name ≡ path_of change → before ≡ part_before change
    → after ≡ part_after change → (Holds : (List ℕ → Type 0) → Type 0)
    → Holds (IsRange name before after at) → Holds (IsRecord change)
record_range (Make p w d) path at old new rest seal is name before after here from to Holds holds = absurd (cc)
record_range (Drop p o d) path at old new rest seal is name before after here from to Holds holds = absurd (cc)
record_range (Splice p n o w r s) path at old new rest seal is name before after here from to Holds holds =
    let place : at ≡ n = cc in
    subst (λ m. Holds (IsRange p (Some o) (Some w) m)) place (
    subst (λ q. Holds (IsRange q (Some o) (Some w) at)) here (
    subst (λ (x : Option (List ℕ)). Holds (IsRange name x (Some w) at)) from (
    subst (λ (y : Option (List ℕ)). Holds (IsRange name before y at)) to holds)))

-- a file that is made or removed
abbrev pub IsWhole : Change → Type 0
IsWhole (Splice path at old new rest seal) = ⊥
IsWhole change = Unit {0}

pub record_whole : (change : Change) → IsWhole change → (name : List ℕ) (before after : Option (List ℕ))
    → name ≡ path_of change → before ≡ part_before change → after ≡ part_after change
    → (Holds : (List ℕ → Type 0) → Type 0) → Holds (IsDiff name before after) → Holds (IsRecord change)
record_whole (Make p w d) is name before after here from to Holds holds =
    subst (λ q. Holds (IsDiff q None (Some w))) here (
    subst (λ (x : Option (List ℕ)). Holds (IsDiff name x (Some w))) from (
    subst (λ (y : Option (List ℕ)). Holds (IsDiff name before y)) to holds))
record_whole (Drop p o d) is name before after here from to Holds holds =
    subst (λ q. Holds (IsDiff q (Some o) None)) here (
    subst (λ (x : Option (List ℕ)). Holds (IsDiff name x None)) from (
    subst (λ (y : Option (List ℕ)). Holds (IsDiff name before y)) to holds))
record_whole (Splice p n o w r s) is name before after here from to Holds holds = absurd is
