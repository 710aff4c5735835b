-- What holds of each text of an information: where it holds of what is read, joined or merged, it holds of what comes
-- of it.
use Rattle.std.proofs.Common.{◌≡◌, ℕ, Bool, true, false, cond, List, [], ◌∷◌, Option, None, Some, refl, sym, subst}
use Rattle.std.specs.Prelude.{filter, filter_map}
use Rattle.std.specs.List.{cons_option}
use Rattle.std.specs.Option.{is_none}
use Rattle.reuse_notice.specs.declared.infos.Info.{Info}
use Rattle.reuse_notice.specs.declared.adding.Additions.{Additions}
use Rattle.reuse_notice.specs.Tags.{stripped, value_after, licence_lead, contributor_lead, tag_of}
use Rattle.reuse_notice.specs.Contents.{notice_text, contributor_value, licence_value, is_blank_content}
use Rattle.reuse_notice.specs.Infos.{info_of, union_of, merged_of}
use Rattle.reuse_notice.specs.Keeping.{IsWrittenOf}
use Rattle.reuse_header.specs.Writing.{new_info}
use Rattle.reuse_header.proofs.SayableLemmas.{Each, all_of_each, each_of_all, each_both, each_front, each_end, each_set}
use Rattle.reuse_header.proofs.SayableLemmas.{notice_whole, contributor_is, licence_is}
use Rattle.reuse_header.specs.LowerLaws.{Merges}
use Rattle.reuse_header.proofs.MergedLemmas.{merged_each}

pub record EachText (P : List ℕ → Type 0) (info : Info) : Type 0 where
  pub notices : Each P info.notices
  pub contributors : Each P info.contributors
  pub licences : Each P info.licences
  pub free : Each P info.free

pub record EachAdded (P : List ℕ → Type 0) (additions : Additions) : Type 0 where
  pub notices : Each P additions.notices
  pub contributors : Each P additions.contributors
  pub licences : Each P additions.licences

-- what has to be known of a content's parts, and of notices that are written
pub record Spreads (P : List ℕ → Type 0) (punct : List ℕ) : Type 0 where
  pub inner : (content : List ℕ) → P content → P (stripped punct content)
  pub contributor : (text value : List ℕ) → P text → value_after contributor_lead text ≡ Some value → P value
  pub licence : (text value : List ℕ) → P text → value_after licence_lead text ≡ Some value → P value
  pub written : (old text : List ℕ) → P old → IsWrittenOf old text → P text

module _ (P : List ℕ → Type 0) where
  -- what texts of some kind say
  pub each_said_of : (f : List ℕ → Option (List ℕ)) (xs : List (List ℕ)) → ((x v : List ℕ) → P x → f x ≡ Some v → P v)
      → Each P xs → Each P (filter_map f xs)
  unfolding Each
  each_said_of f [] w h = tt
  each_said_of f (x ∷ xs) w h = by_value (f x) refl (each_said_of f xs w h.1)
    where
      by_value : (o : Option (List ℕ)) → f x ≡ o → Each P (filter_map f xs) → Each P (cons_option o (filter_map f xs))
      by_value None e deep = deep
      by_value (Some v) e deep = (w x v h.0 e, deep)

  pub each_filtered : (p : List ℕ → Bool) (xs : List (List ℕ)) → Each P xs → Each P (filter p xs)
  unfolding Each
  each_filtered p [] h = tt
  each_filtered p (x ∷ xs) h = by (p x) (each_filtered p xs h.1)
    where
      by : (b : Bool) → Each P (filter p xs) → Each P (cond b (x ∷ filter p xs) (filter p xs))
      by true deep = (h.0, deep)
      by false deep = deep

  module _ (punct : List ℕ) (s : Spreads P punct) where
    pub each_read : (contents : List (List ℕ)) → Each P contents → EachText P (info_of punct contents)
    each_read contents h = record {
      notices = each_set P _ (each_said_of (λ c. notice_text (tag_of punct c)) contents
          (λ c t f e. subst P (sym (notice_whole (stripped punct c) t e)) (s.inner c f)) h);
      contributors = each_set P _ (each_said_of (λ c. contributor_value (tag_of punct c)) contents
          (λ c v f e. s.contributor (stripped punct c) v (s.inner c f) (contributor_is (stripped punct c) v e)) h);
      licences = each_set P _ (each_said_of (λ c. licence_value (tag_of punct c)) contents
          (λ c v f e. s.licence (stripped punct c) v (s.inner c f) (licence_is (stripped punct c) v e)) h);
      free = each_end P (is_blank_content punct) _
          (each_front P (is_blank_content punct) _ (each_filtered (λ c. is_none (tag_of punct c)) contents h));
    }

    united : (info : Info) (additions : Additions) → EachText P info → EachAdded P additions
        → EachText P (union_of info additions)
    united info additions h a = record {
      notices = each_set P _ (each_both P info.notices additions.notices h.notices a.notices);
      contributors = each_set P _ (each_both P info.contributors additions.contributors h.contributors a.contributors);
      licences = each_set P _ (each_both P info.licences additions.licences h.licences a.licences);
      free = h.free;
    }

    merged : Merges → (info : Info) (additions : Additions) → EachText P info → EachText P (merged_of info additions)
    merged merges info additions h = record {
      notices = each_of_all P _
          (merged_each merges P additions.notices info.notices (all_of_each P info.notices h.notices) s.written);
      contributors = h.contributors;
      licences = h.licences;
      free = h.free;
    }

    pub each_new : Merges → (contents : List (List ℕ)) (merge : Bool) (additions : Additions) → Each P contents
        → EachAdded P additions → EachText P (new_info punct contents merge additions)
    unfolding new_info
    each_new merges contents false additions h a = united (info_of punct contents) additions (each_read contents h) a
    each_new merges contents true additions h a = merged merges (union_of (info_of punct contents) additions) additions
        (united (info_of punct contents) additions (each_read contents h) a)
