-- The tree's own files of styles and comments: what was read of each, and the first refusal among them.
use Rattle.std.proofs.Common.{◌≡◌, ◌∙◌, ℕ, Bool, true, false, cond, List, length, Option, Some, None, Result, Ok, Err}
use Rattle.std.proofs.Common.{IfOk, IfErr, refl, ap}
use Rattle.std.specs.Prelude.{nat_lt}
use Rattle.reuse_text.specs.declared.TheConstants.{LONGEST_FILE}
use Rattle.reuse_style.specs.Rules.{CommentRules}
use Rattle.reuse_style.specs.StyleFile.{IsRefused}
use Rattle.reuse_style.specs.CommentFile.{comments_of, IsCommentsRefused}
use Rattle.reuse_style.specs.declared.style.Kind.{Kind}
use Rattle.reuse_style.specs.declared.comments_refusal.CommentsRefusal.{CommentsRefusal}
use Rattle.reuse_style.specs.declared.comments_refusal.CommentsRefusal.TheVariants as comments
use Rattle.reuse_style.specs.declared.style_refusal.StylesRefusal.{StylesRefusal}
use Rattle.reuse_style.specs.declared.style_refusal.StylesRefusal.TheVariants as styles
use Rattle.reuse_command.specs.declared.reply.Refusal.{Refusal}
use Rattle.reuse_command.specs.declared.reply.Refusal.TheVariants as refusals
use Rattle.reuse_edit.specs.Answered.{IsRefusalOf}
use Rattle.reuse_edit.proofs.AbsentFiles.{refusal_passes}
use Rattle.reuse_style.specs.Kinds.{OwnKinds}
use Rattle.reuse_plan.specs.TreeStyles.{own_file, comments_read, styles_given, styles_read, styles_beside, styles_by}
use Rattle.reuse_plan.specs.TreeStyles.{comments_refusal, styles_refusal}

-- ---- a file

pub file_ok : (path : List ℕ) (file : Option (List ℕ)) → IfOk (own_file path file) (λ f. own_file path file ≡ Ok f)
file_ok path None = refl
file_ok path (Some bytes) = by (nat_lt LONGEST_FILE (length bytes))
  where
    of : Bool → Result (Option (List ℕ)) Refusal
    of b = cond b (Err (refusals.TooLong path)) (Ok (Some bytes))

    by : (b : Bool) → IfOk (of b) (λ f. of b ≡ Ok f)
    by true = tt
    by false = refl

-- what is read of a file that isn't too long is the file
pub file_given : (path : List ℕ) (file read : Option (List ℕ)) → own_file path file ≡ Ok read → file ≡ read
file_given path None read e = same None read e
  where
    same : (one other : Option (List ℕ)) → ◌≡◌ {A = Result (Option (List ℕ)) Refusal} (Ok one) (Ok other) → one ≡ other
    same one other h = cc
file_given path (Some bytes) read e = by (nat_lt LONGEST_FILE (length bytes)) e
  where
    by : (b : Bool) → ◌≡◌ {A = Result (Option (List ℕ)) Refusal} (cond b (Err (refusals.TooLong path)) (Ok (Some bytes)))
        (Ok read) → Some bytes ≡ read
    by true h = absurd (cc)
    by false h = cc

pub file_refused : (path : List ℕ) (file : Option (List ℕ))
    → IfErr (own_file path file) (λ r. IsRefusalOf (own_file path file) r)
file_refused path None = tt
file_refused path (Some bytes) = by (nat_lt LONGEST_FILE (length bytes))
  where
    of : Bool → Result (Option (List ℕ)) Refusal
    of b = cond b (Err (refusals.TooLong path)) (Ok (Some bytes))

    by : (b : Bool) → IfErr (of b) (λ r. IsRefusalOf (of b) r)
    by true = refl
    by false = tt

-- ---- what the files give

pub comments_refused_is : (expected : Result CommentRules CommentsRefusal) (refusal : CommentsRefusal)
    → IsCommentsRefused expected refusal → IsRefusalOf (comments_read expected) (comments_refusal refusal)
comments_refused_is expected (comments.Memory e) is = tt
comments_refused_is expected refusal is = ap comments_read is

-- names beside comments and rules
abbrev pub kinds_ok : (List ℕ → Option Kind) → CommentRules → Result OwnKinds Refusal
kinds_ok names comments = Ok (record { names = names; comments = comments })

pub styles_refused_is : (comments : CommentRules) (expected : Result (List ℕ → Option Kind) StylesRefusal)
    (refusal : StylesRefusal) → IsRefused expected refusal
    → IsRefusalOf (styles_read comments expected) (styles_refusal refusal)
styles_refused_is comments expected (styles.Memory e) is = tt
styles_refused_is comments expected refusal is = ap (styles_read comments) is

-- ---- both files

module _ (styles comments : Result (Option (List ℕ)) Refusal) where
  -- a file of styles that is too long is refused first
  pub by_styles : (refusal : Refusal) → IsRefusalOf styles refusal → IsRefusalOf (styles_by styles comments) refusal
  by_styles refusal is = refusal_passes styles (styles_by styles comments)
      (λ r e. ap (λ (s : Result (Option (List ℕ)) Refusal). styles_by s comments) e) refusal is

  module _ (file : Option (List ℕ)) (styles_are : styles ≡ Ok file) where
    -- then a file of comments that is too long
    pub by_comments : (refusal : Refusal) → IsRefusalOf comments refusal
        → IsRefusalOf (styles_by styles comments) refusal
    by_comments refusal is = refusal_passes comments (styles_by styles comments)
        (λ r e. ap (λ (s : Result (Option (List ℕ)) Refusal). styles_by s comments) styles_are
        ∙ ap (styles_by (Ok file)) e) refusal is

    module _ (own : Option (List ℕ)) (comments_are : comments ≡ Ok own) where
      both : styles_by styles comments ≡ styles_beside file (comments_read (comments_of own))
      both = ap (λ (s : Result (Option (List ℕ)) Refusal). styles_by s comments) styles_are
          ∙ ap (styles_by (Ok file)) comments_are

      -- then comments that are bad
      pub by_own : (refusal : Refusal) → IsRefusalOf (comments_read (comments_of own)) refusal
          → IsRefusalOf (styles_by styles comments) refusal
      by_own refusal is = refusal_passes (comments_read (comments_of own)) (styles_by styles comments)
          (λ r e. both ∙ ap (styles_beside file) e) refusal is

      module _ (table : CommentRules) (table_is : comments_of own ≡ Ok table) where
        pub read_is : styles_by styles comments ≡ styles_given file table
        read_is = both ∙ ap (λ (r : Result CommentRules CommentsRefusal). styles_beside file (comments_read r))
            table_is
