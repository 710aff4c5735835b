-- The kinds that a tree gives to its own names, by its `.reuse/styles.toml`, and its own comments and rules, by its
-- `.reuse/comments.toml` (this project's own).
use Rattle.std.specs.Prelude.{ℕ, List, length, codes, nat_lt, Option, Some, None, Result, Ok, Err, if◌then◌else◌}
use Rattle.std.specs.FinMap.{get}
use Rattle.reuse_style.specs.CommentFile.{comments_of}
use Rattle.reuse_style.specs.Kinds.{OwnKinds}
use Rattle.reuse_style.specs.Rules.{CommentRules}
use Rattle.reuse_style.specs.StyleFile.{styles_of}
use Rattle.reuse_style.specs.declared.style.Kind.{Kind}
use Rattle.reuse_style.specs.declared.comments_refusal.CommentsRefusal.{CommentsRefusal}
use Rattle.reuse_style.specs.declared.comments_refusal.CommentsRefusal.TheVariants as comments
use Rattle.reuse_style.specs.declared.style_refusal.StylesRefusal.{StylesRefusal}
use Rattle.reuse_style.specs.declared.style_refusal.StylesRefusal.TheVariants as styles
use Rattle.reuse_change.specs.Files.{Files}
use Rattle.reuse_text.specs.declared.TheConstants.{LONGEST_FILE}
use Rattle.reuse_command.specs.declared.reply.Refusal.{Refusal}
use Rattle.reuse_command.specs.declared.failure.Failure.TheVariants.{Memory}
use Rattle.reuse_command.specs.declared.reply.Refusal.TheVariants.{TooLong, BadStyles, BadComments, Failed}

abbrev pub styles_path : List ℕ
styles_path = codes ".reuse/styles.toml"

abbrev pub comments_path : List ℕ
comments_path = codes ".reuse/comments.toml"

-- a refusal of a file as one of the command
abbrev pub styles_refusal : StylesRefusal → Refusal
styles_refusal (styles.Memory e) = Failed Memory
styles_refusal refusal = BadStyles refusal

abbrev pub comments_refusal : CommentsRefusal → Refusal
comments_refusal (comments.Memory e) = Failed Memory
comments_refusal refusal = BadComments refusal

-- what a file gives, its refusal as one of the command
abbrev pub styles_read : CommentRules → Result (List ℕ → Option Kind) StylesRefusal → Result OwnKinds Refusal
styles_read comments (Ok names) = Ok (record { names = names; comments = comments })
styles_read comments (Err refusal) = Err (styles_refusal refusal)

abbrev pub comments_read : Result CommentRules CommentsRefusal → Result CommentRules Refusal
comments_read (Ok comments) = Ok comments
comments_read (Err refusal) = Err (comments_refusal refusal)

-- a file, if there is one, unless it is too long
abbrev pub own_file : List ℕ → Option (List ℕ) → Result (Option (List ℕ)) Refusal
own_file path None = Ok None
own_file path (Some bytes) = if nat_lt LONGEST_FILE (length bytes) then Err (TooLong path) else Ok (Some bytes)

-- the names by the file of styles, beside these comments and rules of the tree
abbrev pub styles_given : Option (List ℕ) → CommentRules → Result OwnKinds Refusal
styles_given styles comments = styles_read comments (styles_of comments.styles styles)

-- the same beside the tree's own comments and rules, unless those are refused
abbrev pub styles_beside : Option (List ℕ) → Result CommentRules Refusal → Result OwnKinds Refusal
styles_beside styles (Err refusal) = Err refusal
styles_beside styles (Ok comments) = styles_given styles comments

-- by both files: neither may be too long before the comments are judged, and then the styles
abbrev pub styles_by : Result (Option (List ℕ)) Refusal → Result (Option (List ℕ)) Refusal → Result OwnKinds Refusal
styles_by (Err refusal) comments = Err refusal
styles_by (Ok styles) (Err refusal) = Err refusal
styles_by (Ok styles) (Ok comments) = styles_beside styles (comments_read (comments_of comments))

abbrev pub styles_in : Files → Result OwnKinds Refusal
styles_in tree =
    styles_by (own_file styles_path (get tree styles_path)) (own_file comments_path (get tree comments_path))
