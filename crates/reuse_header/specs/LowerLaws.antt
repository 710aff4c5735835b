-- What the laws of the crates below say, as the proofs of this crate's laws take it.
use Rattle.std.specs.Prelude.{◌≡◌, ◌⊎◌, ◌↔◌, ℕ, false, List, None, Some, Contains}
use Rattle.reuse_text.specs.Text.{TextLine, AreLines, lines_of, text_of}
use Rattle.reuse_notice.specs.declared.prefixes.Prefix.{Prefix}
use Rattle.reuse_notice.specs.declared.infos.Info.{Info}
use Rattle.reuse_notice.specs.declared.adding.Additions.{Additions}
use Rattle.reuse_notice.specs.Tags.{NoticeText, is_blank, all_blank, trimmed, leaves_value, prefix_of, notice_of}
use Rattle.reuse_notice.specs.Sets.{set_of, IsSorted}
use Rattle.reuse_notice.specs.Merging.{merged}
use Rattle.reuse_notice.specs.Infos.{union_of, merged_of}
use Rattle.reuse_notice.specs.Keeping.{IsWrittenOf}

-- what is known of merged notices and of holders
pub record Merges : Type 0 where
  pub written : (command notices : List (List ℕ)) (text : List ℕ) → Contains (merged command notices) text
      → (Contains notices text) ⊎ ((old : List ℕ) × (Contains notices old) × IsWrittenOf old text)
  pub some : (text : List ℕ) (notice : NoticeText) → notice_of text ≡ Some notice → all_blank notice.holder ≡ false
  pub trim : (text : List ℕ) (notice : NoticeText) → notice_of text ≡ Some notice
      → trimmed is_blank notice.holder ≡ notice.holder

-- what is known of notices
pub record Known : Type 0 where
  pub merges : Merges
  pub sorted : (texts : List (List ℕ)) → IsSorted (set_of texts)
  pub none : (text : List ℕ) (prefix : Prefix) → prefix_of text ≡ None → leaves_value text prefix ≡ false

-- what is known of lines, of sets and of notices
pub record Laws : Type 0 where
  pub joined : (text : List ℕ) → text_of (lines_of text) ≡ text
  pub well : (text : List ℕ) → AreLines (lines_of text)
  pub only : (text : List ℕ) (lines : List TextLine) → AreLines lines → text_of lines ≡ text → lines ≡ lines_of text
  pub sets : (texts other : List (List ℕ)) → IsSorted other
      → ((text : List ℕ) → (Contains other text) ↔ (Contains texts text)) → other ≡ set_of texts
  pub united : (info : Info) (additions : Additions)
      → union_of (union_of info additions) additions ≡ union_of info additions
  pub merged : (info : Info) (additions : Additions)
      → merged_of (union_of (merged_of (union_of info additions) additions) additions) additions ≡ merged_of
      (union_of info additions) additions
