-- Information that is merged reads back.
use Rattle.std.proofs.Common.{◌≡◌, ℕ, false, List, None, Some, sym, inl, inr, ◌⊎◌, subst}
use Rattle.std.specs.Prelude.{All, Contains}
use Rattle.std.proofs.lemmas.List.Elements.{All-contains, All-contains_itself}
use Rattle.reuse_notice.specs.declared.prefixes.Prefix.{Prefix}
use Rattle.reuse_notice.specs.declared.infos.Info.{Info}
use Rattle.reuse_notice.specs.declared.adding.Additions.{Additions}
use Rattle.reuse_notice.specs.Tags.{leaves_value, prefix_of, tag_of}
use Rattle.reuse_notice.specs.Contents.{notice_text}
use Rattle.reuse_notice.specs.Sets.{set_of, IsSorted}
use Rattle.reuse_notice.specs.Merging.{merged}
use Rattle.reuse_notice.specs.Infos.{merged_of}
use Rattle.reuse_notice.specs.Keeping.{IsWrittenOf}
use Rattle.reuse_header.specs.Reading.{IsSayable}
use Rattle.reuse_header.specs.LowerLaws.{Merges}
use Rattle.reuse_header.proofs.SayableLemmas.{IsValue}
use Rattle.reuse_header.proofs.PlainLemmas.{NoFillers, value_notice}

-- what holds of the notices, and of those that are written of their holders, holds of merged ones
pub merged_each : Merges → (P : List ℕ → Type 0) (command notices : List (List ℕ)) → All P notices
    → ((old text : List ℕ) → P old → IsWrittenOf old text → P text) → All P (merged command notices)
merged_each merges P command notices all made =
    λ k d low. by _ (merges.written command notices _ (All-contains_itself (merged command notices) k d low))
  where
    by : (text : List ℕ)
        → (Contains notices text) ⊎ ((old : List ℕ) × (Contains notices old) × IsWrittenOf old text) → P text
    by text (inl c) = All-contains P notices text all c
    by text (inr from) = made from.0 text (All-contains P notices from.0 all from.1) from.2

pub merged_sayable : Merges → ((texts : List (List ℕ)) → IsSorted (set_of texts))
    → ((text : List ℕ) (prefix : Prefix) → prefix_of text ≡ None → leaves_value text prefix ≡ false)
    → (punct : List ℕ) → NoFillers punct → (info : Info) (additions : Additions) → IsSayable punct info
    → IsSayable punct (merged_of info additions)
merged_sayable merges sorted none punct letters info additions s =
    let reads : (old text : List ℕ) → notice_text (tag_of punct old) ≡ Some old → IsWrittenOf old text
    → notice_text (tag_of punct text) ≡ Some text = λ old text said w.
    (let is : IsValue
    w.notice.holder = record { some = merges.some old w.notice w.read; trim = merges.trim old w.notice w.read } in
    subst (λ (t : List ℕ). notice_text (tag_of punct t) ≡ Some t) (sym w.written)
    (value_notice punct letters none w.prefix w.years w.notice.holder is)) in
    record {
      notices = merged_each merges
          (λ (t : List ℕ). notice_text (tag_of punct t) ≡ Some t) additions.notices info.notices s.notices reads;
      contributors = s.contributors;
      licences = s.licences;
      free = s.free;
      free_ends = s.free_ends;
      notices_sorted = sorted _;
      contributors_sorted = s.contributors_sorted;
      licences_sorted = s.licences_sorted;
    }
