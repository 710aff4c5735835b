-- What an addition of styles leaves where it isn't refused.
use Rattle.std.proofs.Common.{◌≡◌, ◌≢◌, ◌⊎◌, inl, inr, ℕ, ◌+◌, ◌≤◌, Bool, true, false, cond, ◌&&◌, nat_lt, List, []}
use Rattle.std.proofs.Common.{◌∷◌, ◌++◌, length, Option, Some, None, is_none, Result, Ok, Err, refl, sym, ap, subst}
use Rattle.std.proofs.Common.{◌∙◌, arith, length-append}
use Rattle.std.specs.FinMap.{get}
use Rattle.std.specs.List.{AllByRecursion}
use Rattle.std.specs.Option.{option_to_list}
use Rattle.std.proofs.lemmas.Bool.{false≢true}
use Rattle.std.proofs.lemmas.Bool.Decides.{nat_tests}
use Rattle.std.proofs.lemmas.List.{append-nil}
use Rattle.std.proofs.lemmas.List.Elements.{All-from_recursion}
use Rattle.std.proofs.lemmas.Option.{none-some}
use Rattle.std.proofs.lemmas.Slice.Eq.{bytes_eq-Decides}
use Rattle.reuse_text.specs.Text.{is_empty}
use Rattle.reuse_text.specs.declared.TheConstants.{LONGEST_FILE}
use Rattle.reuse_style.specs.Marks.{GoodStyle}
use Rattle.reuse_style.specs.CommentFile.{comments_of}
use Rattle.reuse_style.specs.Kinds.{OwnKinds}
use Rattle.reuse_style.specs.Rules.{CommentRules}
use Rattle.reuse_style.specs.StyleFile.{styles_of}
use Rattle.reuse_style.specs.declared.comments_refusal.CommentsRefusal.{CommentsRefusal}
use Rattle.reuse_style.specs.declared.style.Kind.{Kind}
use Rattle.reuse_style.specs.declared.style_refusal.StylesRefusal.{StylesRefusal}
use Rattle.reuse_ready.specs.Additions.{are_named, comment_lines, has_kind, if_named, if_read, lines_added}
use Rattle.reuse_ready.specs.Additions.{missing_names, missing_rules, missing_tables, read_back, style_lines}
use Rattle.reuse_ready.specs.Additions.{with_lines}
use Rattle.reuse_ready.specs.declared.additions.NameAddition.{NameAddition}
use Rattle.reuse_ready.specs.declared.additions.StyleAdditions.{StyleAdditions}
use Rattle.reuse_ready.specs.declared.own_lines.AddedLines.{AddedLines}
use Rattle.reuse_ready.specs.declared.own_lines.AdditionRefusal.{AdditionRefusal}
use Rattle.reuse_ready.specs.declared.own_lines.AdditionRefusal.TheVariants as refused
use Rattle.reuse_change.specs.Clash.{is_clash}
use Rattle.reuse_change.specs.Files.{Files}
use Rattle.reuse_command.specs.declared.command.Command.TheVariants.{AddStyles}
use Rattle.reuse_command.specs.declared.reply.Refusal.{Refusal}
use Rattle.reuse_command.specs.declared.reply.Refusal.TheVariants as refusals
use Rattle.reuse_edit.specs.Edit.{Edit, made, appended}
use Rattle.reuse_plan.specs.Outcome.{edited, edits_of, outcome_of, with_file}
use Rattle.reuse_plan.specs.StyleEdits.{file_with, lines_edit, lines_for, lines_read}
use Rattle.reuse_plan.specs.StylesAdded.{AddsStyles, IsNamed, StandsInFront}
use Rattle.reuse_plan.specs.TreeStyles.{comments_path, own_file, styles_by, styles_in, styles_path}
use Rattle.reuse_plan.proofs.CommandEdits.{of_addition}
use Rattle.reuse_edit.proofs.EditResults.{done, no_edit}
use Rattle.reuse_plan.proofs.Outcomes.{edits_of_tree}
use Rattle.reuse_plan.proofs.Planning.{with_other, with_same}
use Rattle.reuse_edit.proofs.Results.{err_or, same_Ok}
use Rattle.reuse_plan.proofs.StyleAdding.{IsMadeOfLines, HasLinesBehind, addition_is, lines_are}

-- ---- what was read back

pub record IsReadBack (names : List NameAddition) (styles comments : Option (List ℕ)) (added : AddedLines) : Type 0 where
  pub own_comments : CommentRules
  pub comments_are : comments_of (with_lines comments added.comments) ≡ Ok own_comments
  pub now : List ℕ → Option Kind
  pub styles_are : styles_of own_comments.styles (with_lines styles added.styles) ≡ Ok now
  pub named : are_named now names ≡ true

abbrev ok_lines : AddedLines → Result AddedLines AdditionRefusal
ok_lines added = Ok added

back_is : (names : List NameAddition) (styles comments : Option (List ℕ)) (lines added : AddedLines)
    → read_back lines names styles comments ≡ ok_lines added → IsReadBack names styles comments added
back_is names styles comments lines added h = of_comments (comments_of (with_lines comments lines.comments)) refl h
  where
    same : ok_lines lines ≡ ok_lines added → lines ≡ added
    same e = cc

    of_test : (b : Bool) → (c : CommentRules) → comments_of (with_lines comments lines.comments) ≡ Ok c
        → (own : List ℕ → Option Kind) → styles_of c.styles (with_lines styles lines.styles) ≡ Ok own
        → are_named own names ≡ b
        → cond b (ok_lines lines) (Err refused.Styles) ≡ ok_lines added → IsReadBack names styles comments added
    of_test false c are own is all e = absurd (cc)
    of_test true c are own is all e = subst (IsReadBack names styles comments) (same e) (record {
      own_comments = c;
      comments_are = are;
      now = own;
      styles_are = is;
      named = all;
    })

    of_styles : (c : CommentRules) → comments_of (with_lines comments lines.comments) ≡ Ok c
        → (given : Result (List ℕ → Option Kind) StylesRefusal)
        → styles_of c.styles (with_lines styles lines.styles) ≡ given
        → if_named lines names given ≡ ok_lines added → IsReadBack names styles comments added
    of_styles c are (Err refusal) is e = absurd (cc)
    of_styles c are (Ok own) is e = of_test (are_named own names) c are own is refl e

    of_comments : (given : Result CommentRules CommentsRefusal)
        → comments_of (with_lines comments lines.comments) ≡ given
        → if_read lines names (with_lines styles lines.styles) given ≡ ok_lines added
        → IsReadBack names styles comments added
    of_comments (Err refusal) are e = absurd (cc)
    of_comments (Ok c) are e = of_styles c are (styles_of c.styles (with_lines styles lines.styles)) refl e

lines_back : (additions : StyleAdditions) (styles comments : Option (List ℕ)) (own : List ℕ → Option Kind)
    (own_comments : List GoodStyle) (added : AddedLines)
    → lines_added additions styles comments own own_comments ≡ ok_lines added
    → IsReadBack (missing_names own additions.names) styles comments added
unfolding lines_added
lines_back additions styles comments own own_comments added h =
    back_is (missing_names own additions.names) styles comments (record {
      styles = style_lines styles (missing_names own additions.names);
      comments = comment_lines comments (missing_tables own_comments additions.tables)
          (missing_rules comments additions.rules);
    }) added h

-- the tree's own styles weren't refused, and what is added is read back so
pub record WasRead (additions : StyleAdditions) (tree : Files) (added : AddedLines) : Type 0 where
  pub own : OwnKinds
  pub was : styles_in tree ≡ Ok own
  pub back : IsReadBack (missing_names own.names additions.names) (get tree styles_path) (get tree comments_path) added

was_read : (additions : StyleAdditions) (tree : Files) (added : AddedLines)
    → lines_for additions tree (styles_in tree) ≡ Ok added → WasRead additions tree added
was_read additions tree added h = of_styles (styles_in tree) refl h
  where
    of_lines : (own : OwnKinds) → styles_in tree ≡ Ok own → (given : Result AddedLines AdditionRefusal)
        → lines_added additions (get tree styles_path) (get tree comments_path) own.names own.comments.styles ≡ given
        → lines_read given ≡ Ok added → WasRead additions tree added
    of_lines own was (Err refusal) is e = absurd (cc)
    of_lines own was (Ok lines) is e = record {
      own = own;
      was = was;
      back = lines_back additions (get tree styles_path) (get tree comments_path) own.names own.comments.styles added
          (is ∙ ap ok_lines (same_Ok lines added e));
    }

    of_styles : (given : Result OwnKinds Refusal) → styles_in tree ≡ given → lines_for additions tree given ≡ Ok added
        → WasRead additions tree added
    of_styles (Err refusal) was e = absurd (cc)
    of_styles (Ok own) was e =
        of_lines own was (lines_added additions (get tree styles_path) (get tree comments_path) own.names
        own.comments.styles) refl e

-- ---- one file

abbrev whole : List ℕ → Option (List ℕ) → Type 0
whole path file = own_file path file ≡ Ok file

file_is : (path : List ℕ) (file read : Option (List ℕ)) → own_file path file ≡ Ok read → whole path file
file_is path None read e = refl
file_is path (Some bytes) read e =
    let short = err_or (nat_lt LONGEST_FILE (length bytes)) (refusals.TooLong path) (Ok (Some bytes)) read e in
    ap (λ b. cond b (Err (refusals.TooLong path)) (Ok (Some bytes))) short.0

short_whole : (path bytes : List ℕ) → length bytes ≤ LONGEST_FILE → whole path (Some bytes)
short_whole path bytes short =
    ap (λ b. cond b (Err (refusals.TooLong path)) (Ok (Some bytes))) (not_longer (length bytes) short)
  where
    not_longer : (n : ℕ) → n ≤ LONGEST_FILE → nat_lt LONGEST_FILE n ≡ false
    not_longer n h = grind (arith, nat_tests)

-- an edit gives a file these lines, with which it can be read
abbrev GivesLines : List ℕ → List ℕ → Option (List ℕ) → Edit → Type 0
GivesLines path lines file edit =
    (edit.path ≡ path) × (edit.file ≡ with_lines file lines) × whole path (with_lines file lines)

-- what an edit of lines makes of its file, which can be read then; where there is none, the file is as it was
abbrev Leaves : Files → List ℕ → List ℕ → Option Edit → Type 0
Leaves tree path lines None = with_lines (get tree path) lines ≡ get tree path
Leaves tree path lines (Some edit) = GivesLines path lines (get tree path) edit

leaves : (tree : Files) (path lines : List ℕ) (given : Option Edit)
    → lines_edit tree path (get tree path) lines ≡ done given → Leaves tree path lines given
leaves tree path lines None h = none_added (is_empty lines) refl (get tree path) h
  where
    with_none : (file : Option (List ℕ)) (l : List ℕ) → is_empty l ≡ true → with_lines file l ≡ file
    with_none None [] e = refl
    with_none (Some bytes) [] e = ap (λ b. Some b) (append-nil bytes)
    with_none file (b ∷ l) e = absurd (false≢true e)

    none_added : (b : Bool) → is_empty lines ≡ b → (file : Option (List ℕ))
        → cond b no_edit (file_with tree path file lines) ≡ no_edit → with_lines file lines ≡ file
    none_added true e file k = with_none file lines e
    none_added false e None k = by_length (nat_lt LONGEST_FILE (length lines)) (is_clash tree path) k
      where
        by_length : (b c : Bool) → cond b (Err (refusals.TooLong path)) (cond c (Err (refusals.Clash path))
            (done (Some (made path lines)))) ≡ no_edit → with_lines None lines ≡ None
        by_length true c k = absurd (cc)
        by_length false true k = absurd (cc)
        by_length false false k = absurd (cc)
    none_added false e (Some bytes) k = by_length (nat_lt LONGEST_FILE (length bytes + length lines)) k
      where
        by_length : (b : Bool)
            → cond b (Err (refusals.TooLong path)) (done (Some (appended path bytes lines))) ≡ no_edit
            → with_lines (Some bytes) lines ≡ Some bytes
        by_length true k = absurd (cc)
        by_length false k = absurd (cc)
leaves tree path lines (Some edit) h = of_kind (lines_are tree path lines edit (get tree path) refl h)
  where
    made_whole : is_empty lines ≡ false → length lines ≤ LONGEST_FILE → GivesLines path lines None (made path lines)
    made_whole e short = (
      refl,
      sym (ap (λ b. cond b None (Some lines)) e),
      subst (whole path) (sym (ap (λ b. cond b None (Some lines)) e)) (short_whole path lines short),
    )

    of_kind : IsMadeOfLines tree path lines edit ⊎ HasLinesBehind tree path lines edit
        → GivesLines path lines (get tree path) edit
    of_kind (inl new) = subst (λ f. GivesLines path lines f edit) (sym new.absent) (subst (GivesLines path lines None) new.it_is (made_whole new.some new.short))
    of_kind (inr behind) = subst (λ f. GivesLines path lines f edit) (sym behind.here) (subst (GivesLines path lines (Some behind.bytes)) behind.it_is (
      refl,
      refl,
      short_whole path (behind.bytes ++ lines)
          (omega (arith, behind.short, length-append behind.bytes lines)),
    ))

in_front : (file : Option (List ℕ)) (lines : List ℕ) → StandsInFront file (with_lines file lines)
in_front None lines = tt
in_front (Some bytes) lines = (lines, refl)

-- ---- both files

apart : comments_path ≢ styles_path
apart same = false≢true ((bytes_eq-Decides comments_path styles_path).1 same)

module _ (tree : Files) (c s : List ℕ) where
  pub record AreLeft (after : Files) : Type 0 where
    pub comments : get after comments_path ≡ with_lines (get tree comments_path) c
    pub styles : get after styles_path ≡ with_lines (get tree styles_path) s
    pub others : (path : List ℕ) → path ≢ comments_path → path ≢ styles_path → get after path ≡ get tree path

  both_left : (first second : Option Edit) → Leaves tree comments_path c first → Leaves tree styles_path s second
      → AreLeft (edited tree (option_to_list first ++ option_to_list second))
  both_left None None h k =
      record { comments = sym h; styles = sym k; others = λ path not_comments not_styles. refl }
  both_left None (Some two) h k = subst (λ p. AreLeft (with_file tree p two.file)) (sym k.0) (record {
    comments = with_other tree styles_path two.file comments_path apart ∙ sym h;
    styles = with_same tree styles_path two.file ∙ k.1;
    others = λ path not_comments not_styles. with_other tree styles_path two.file path not_styles;
  })
  both_left (Some one) None h k = subst (λ p. AreLeft (with_file tree p one.file)) (sym h.0) (record {
    comments = with_same tree comments_path one.file ∙ h.1;
    styles = with_other tree comments_path one.file styles_path (λ e. apart (sym e)) ∙ sym k;
    others = λ path not_comments not_styles. with_other tree comments_path one.file path not_comments;
  })
  both_left (Some one) (Some two) h k = subst (λ p. AreLeft (with_file (with_file tree two.path two.file) p one.file))
      (sym h.0) (subst (λ p. AreLeft (with_file (with_file tree p two.file) comments_path one.file)) (sym k.0) (record {
        comments = with_same (with_file tree styles_path two.file) comments_path one.file ∙ h.1;
        styles = with_other (with_file tree styles_path two.file) comments_path one.file styles_path (λ e. apart (sym e))
            ∙ with_same tree styles_path two.file ∙ k.1;
        others = λ path not_comments not_styles.
            with_other (with_file tree styles_path two.file) comments_path one.file path not_comments
            ∙ with_other tree styles_path two.file path not_styles;
      }))

-- a file can be read afterwards
whole_after : (tree : Files) (path lines : List ℕ) (given : Option Edit) → Leaves tree path lines given
    → whole path (get tree path) → whole path (with_lines (get tree path) lines)
whole_after tree path lines None h was = subst (whole path) (sym h) was
whole_after tree path lines (Some edit) h was = h.2

-- ---- the tree's own styles

record WereWhole (tree : Files) : Type 0 where
  styles : whole styles_path (get tree styles_path)
  comments : whole comments_path (get tree comments_path)

were_whole : (tree : Files) (own : OwnKinds) → styles_in tree ≡ Ok own → WereWhole tree
were_whole tree own h =
    of_files (own_file styles_path (get tree styles_path)) refl (own_file comments_path (get tree comments_path)) refl h
  where
    of_files : (a : Result (Option (List ℕ)) Refusal) → own_file styles_path (get tree styles_path) ≡ a
        → (b : Result (Option (List ℕ)) Refusal) → own_file comments_path (get tree comments_path) ≡ b
        → styles_by a b ≡ Ok own → WereWhole tree
    of_files (Err refusal) e b f k = absurd (cc)
    of_files (Ok styles) e (Err refusal) f k = absurd (cc)
    of_files (Ok styles) e (Ok comments) f k = record {
      styles = file_is styles_path (get tree styles_path) styles e;
      comments = file_is comments_path (get tree comments_path) comments f;
    }

styles_after : (after : Files) (s c : Option (List ℕ)) (comments : CommentRules) (now : List ℕ → Option Kind)
    → get after styles_path ≡ s → get after comments_path ≡ c → whole styles_path s → whole comments_path c
    → comments_of c ≡ Ok comments → styles_of comments.styles s ≡ Ok now
    → styles_in after ≡ Ok (record { names = now; comments = comments })
styles_after after s c comments now s_is c_is s_whole c_whole comments_are now_is =
    rw (s_is, c_is, s_whole, c_whole, comments_are, now_is) refl

each_named : (own now : OwnKinds) (names : List NameAddition)
    → are_named now.names (missing_names own.names names) ≡ true → AllByRecursion (IsNamed own now) names
each_named own now [] h = tt
each_named own now (n ∷ names) h = by_own (own.names n.name) refl h (each_named own now names)
  where
    by_test : (b : Bool) → has_kind (now.names n.name) n.style ≡ b
        → (b && are_named now.names (missing_names own.names names)) ≡ true
        → (b ≡ true) × (are_named now.names (missing_names own.names names) ≡ true)
    by_test true e k = (refl, k)
    by_test false e k = absurd (false≢true k)

    by_own : (o : Option Kind) → own.names n.name ≡ o
        → are_named now.names (cond (is_none o) (n ∷ missing_names own.names names) (missing_names own.names names)) ≡ true
        → (are_named now.names (missing_names own.names names) ≡ true → AllByRecursion (IsNamed own now) names)
        → AllByRecursion (IsNamed own now) (n ∷ names)
    by_own None e k rest =
        let both = by_test (has_kind (now.names n.name) n.style) refl k in (λ none. both.0, rest both.1)
    by_own (Some kind) e k rest = (λ none. absurd (none-some kind (sym none ∙ e)), rest k)

-- ---- together

pub addition_adds : (additions : StyleAdditions) (tree after : Files) → outcome_of (AddStyles additions) tree ≡ Ok after
    → AddsStyles additions tree after
unfolding outcome_of
addition_adds additions tree after h =
    let given = edits_of_tree tree after (edits_of (AddStyles additions) tree) h in
    let is = addition_is additions tree given.0 (sym (of_addition additions tree) ∙ given.1) in
    let read = was_read additions tree is.added is.lines in
    let whole = were_whole tree read.own read.was in
    let now : OwnKinds = record { names = read.back.now; comments = read.back.own_comments } in
    let first = leaves tree comments_path is.added.comments is.both.first is.both.is_first in
    let second = leaves tree styles_path is.added.styles is.both.second is.both.is_second in
    let left = subst (AreLeft tree is.added.comments is.added.styles) (ap (edited tree) is.both.they_are ∙ given.2)
    (both_left tree is.added.comments is.added.styles is.both.first is.both.second first second) in
    record {
      own = read.own;
      was = read.was;
      now = now;
      is = styles_after after (with_lines (get tree styles_path) is.added.styles)
          (with_lines (get tree comments_path) is.added.comments) read.back.own_comments read.back.now left.styles
          left.comments (whole_after tree styles_path is.added.styles is.both.second second whole.styles)
          (whole_after tree comments_path is.added.comments is.both.first first whole.comments)
          read.back.comments_are read.back.styles_are;
      named = All-from_recursion (IsNamed read.own now) additions.names
          (each_named read.own now additions.names read.back.named);
      comments = subst (StandsInFront (get tree comments_path)) (sym left.comments)
          (in_front (get tree comments_path) is.added.comments);
      styles = subst (StandsInFront (get tree styles_path)) (sym left.styles)
          (in_front (get tree styles_path) is.added.styles);
      others = left.others;
    }
