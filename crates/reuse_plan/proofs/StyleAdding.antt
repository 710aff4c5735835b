-- An addition of styles: its edits, and the changes that carry them out.
use Rattle.std.proofs.Common.{◌≡◌, ◌⊎◌, inl, inr, ℕ, ◌+◌, ◌-◌, ◌≤◌, Bool, true, false, cond, ◌||◌, nat_lt, List, []}
use Rattle.std.proofs.Common.{◌∷◌, ◌++◌, length, take, drop, Option, Some, None, Result, Ok, Err, IsTrue, refl, sym, ap}
use Rattle.std.proofs.Common.{subst, ◌∙◌, arith, ◌≢◌, bytes_eq, length-append}
use Rattle.std.specs.List.{AllByRecursion}
use Rattle.std.specs.List.Sorted.{IsStrictlySortedBy}
use Rattle.std.specs.Option.{option_to_list}
use Rattle.std.specs.FinMap.{get}
use Rattle.std.proofs.lemmas.Bool.{false≢true, ltb-false}
use Rattle.std.proofs.lemmas.Bool.Decides.{nat_tests}
use Rattle.std.proofs.lemmas.List.{append-nil}
use Rattle.std.proofs.Math.Seq.{take-length, drop-length}
use Rattle.std.proofs.lemmas.Option.{none-some}
use Rattle.std.proofs.lemmas.Slice.Eq.{bytes_eq-Decides}
use Rattle.reuse_text.specs.Text.{is_empty}
use Rattle.reuse_text.specs.declared.TheConstants.{LONGEST_FILE}
use Rattle.reuse_change.specs.Change.{sealed_make, sealed_splice}
use Rattle.reuse_change.specs.declared.change.Change.{Change}
use Rattle.reuse_change.specs.Clash.{is_clash}
use Rattle.reuse_change.specs.Files.{Files}
use Rattle.reuse_change.specs.Listing.{ArePaths, is_among}
use Rattle.reuse_change.specs.Path.{is_path, lies_under}
use Rattle.reuse_change.specs.Tree.{is_of_tree}
use Rattle.reuse_ready.specs.declared.additions.StyleAdditions.{StyleAdditions}
use Rattle.reuse_ready.specs.declared.own_lines.AddedLines.{AddedLines}
use Rattle.reuse_command.specs.declared.reply.Refusal.{Refusal}
use Rattle.reuse_command.specs.declared.reply.Refusal.TheVariants as refusals
use Rattle.reuse_store.proofs.Testing.{clashes_keys}
use Rattle.reuse_edit.specs.Edit.{Edit, made, appended}
use Rattle.reuse_edit.specs.PathEdits.{or_first}
use Rattle.reuse_edit.specs.Answered.{AnswersEdit, CarriesOutEdit, IsRefusalOf, MakesEdit, MakesEdits}
use Rattle.reuse_plan.specs.StyleEdits.{edits_for, file_with, lines_edit, lines_for, style_edits}
use Rattle.reuse_plan.specs.TreeStyles.{styles_path, comments_path, styles_in}
use Rattle.reuse_edit.proofs.AbsentFiles.{refusal_passes}
use Rattle.reuse_edit.proofs.EditResults.{done, some_edit, same_edit, unskipped}
use Rattle.reuse_plan.proofs.Planning.{AreEdits, IsFit, paths_at}
use Rattle.reuse_edit.proofs.Results.{err_or, same_Ok}
use Rattle.reuse_edit.proofs.SpliceLemmas.{makes_splice}

-- ---- the edit of one file

-- a file is made of lines, or they come behind its bytes
pub record IsMadeOfLines (tree : Files) (path lines : List ℕ) (edit : Edit) : Type 0 where
  pub absent : get tree path ≡ None
  pub some : is_empty lines ≡ false
  pub short : length lines ≤ LONGEST_FILE
  pub free : is_clash tree path ≡ false
  pub it_is : made path lines ≡ edit

pub record HasLinesBehind (tree : Files) (path lines : List ℕ) (edit : Edit) : Type 0 where
  pub bytes : List ℕ
  pub here : get tree path ≡ Some bytes
  pub some : is_empty lines ≡ false
  pub short : length bytes + length lines ≤ LONGEST_FILE
  pub it_is : appended path bytes lines ≡ edit

module _ (tree : Files) (path lines : List ℕ) (edit : Edit) where
  pub lines_are : (file : Option (List ℕ)) → get tree path ≡ file → lines_edit tree path file lines ≡ some_edit edit
      → IsMadeOfLines tree path lines edit ⊎ HasLinesBehind tree path lines edit
  lines_are file here h =
      let some = unskipped (is_empty lines) (file_with tree path file lines) edit h in of_file file here some.0 some.1
    where
      of_file : (file : Option (List ℕ)) → get tree path ≡ file → is_empty lines ≡ false
          → file_with tree path file lines ≡ some_edit edit
          → IsMadeOfLines tree path lines edit ⊎ HasLinesBehind tree path lines edit
      of_file None here some e =
          let short = err_or (nat_lt LONGEST_FILE (length lines)) (refusals.TooLong path)
          (cond (is_clash tree path) (Err (refusals.Clash path)) (some_edit (made path lines))) (Some edit) e in
          let free = err_or (is_clash tree path) (refusals.Clash path) (some_edit (made path lines)) (Some edit) short.1 in
          inl (record {
            absent = here;
            some = some;
            short = ltb-false LONGEST_FILE (length lines) short.0;
            free = free.0;
            it_is = same_edit (made path lines) edit free.1;
          })
      of_file (Some bytes) here some e =
          let short = err_or (nat_lt LONGEST_FILE (length bytes + length lines)) (refusals.TooLong path)
          (some_edit (appended path bytes lines)) (Some edit) e in
          inr (record {
            bytes = bytes;
            here = here;
            some = some;
            short = ltb-false LONGEST_FILE (length bytes + length lines) short.0;
            it_is = same_edit (appended path bytes lines) edit short.1;
          })

-- an edit of this path that is fit
abbrev pub FitAt : Files → List ℕ → Edit → Type 0
FitAt tree path edit = (edit.path ≡ path) × IsFit tree edit

lines_fit : (tree : Files) (path lines : List ℕ) (edit : Edit) → is_of_tree path ≡ true → IsTrue (is_path path)
    → IsMadeOfLines tree path lines edit ⊎ HasLinesBehind tree path lines edit → FitAt tree path edit
lines_fit tree path lines edit of_tree good (inl new) = subst (FitAt tree path) new.it_is (
  refl,
  record {
    of_tree = of_tree;
    good_path = good;
    free = λ none some clash. false≢true (sym new.free ∙ (clashes_keys tree path).1 clash);
  },
)
lines_fit tree path lines edit of_tree good (inr behind) = subst (FitAt tree path) behind.it_is (
  refl,
  record {
    of_tree = of_tree;
    good_path = good;
    free = λ none some. absurd (none-some behind.bytes (sym none ∙ behind.here));
  },
)

-- ---- the edits of both

-- an edit, or none, and another behind it
pub record AreBoth (one two : Result (Option Edit) Refusal) (edits : List Edit) : Type 0 where
  pub first : Option Edit
  pub second : Option Edit
  pub is_first : one ≡ done first
  pub is_second : two ≡ done second
  pub they_are : option_to_list first ++ option_to_list second ≡ edits

pub both_are : (one two : Result (Option Edit) Refusal) (edits : List Edit)
    → or_first one (or_first two (Ok [])) ≡ Ok edits
    → AreBoth one two edits
both_are (Err refusal) two edits h = absurd (cc)
both_are (Ok None) (Err refusal) edits h = absurd (cc)
both_are (Ok (Some edit)) (Err refusal) edits h = absurd (cc)
both_are (Ok None) (Ok None) edits h =
    record { first = None; second = None; is_first = refl; is_second = refl; they_are = same_Ok [] edits h }
both_are (Ok None) (Ok (Some two)) edits h =
    record { first = None; second = Some two; is_first = refl; is_second = refl; they_are = same_Ok (two ∷ []) edits h }
both_are (Ok (Some one)) (Ok None) edits h =
    record { first = Some one; second = None; is_first = refl; is_second = refl; they_are = same_Ok (one ∷ []) edits h }
both_are (Ok (Some one)) (Ok (Some two)) edits h = record {
  first = Some one;
  second = Some two;
  is_first = refl;
  is_second = refl;
  they_are = same_Ok (one ∷ two ∷ []) edits h;
}

-- what holds of each holds of all
pub all_both : (P : Edit → Type 0) (first second : Option Edit) → ((edit : Edit) → first ≡ Some edit → P edit)
    → ((edit : Edit) → second ≡ Some edit → P edit) → AllByRecursion P (option_to_list first ++ option_to_list second)
all_both P None None h k = tt
all_both P None (Some two) h k = (k two refl, tt)
all_both P (Some one) None h k = (h one refl, tt)
all_both P (Some one) (Some two) h k = (h one refl, (k two refl, tt))

-- ---- they are fit

abbrev Own : List ℕ → Type 0
Own path = (path ≡ comments_path) ⊎ (path ≡ styles_path)

abbrev Apart : List ℕ → List ℕ → Type 0
Apart path other = (lies_under other path || lies_under path other) ≡ false

own_apart : (path other : List ℕ) → Own path → Own other → Apart path other
own_apart path other (inl e) (inl f) = rw (e, f) refl
own_apart path other (inl e) (inr f) = rw (e, f) refl
own_apart path other (inr e) (inl f) = rw (e, f) refl
own_apart path other (inr e) (inr f) = rw (e, f) refl

-- these paths are in byte order, and each is one of the two
record AreOwn (paths : List (List ℕ)) : Type 0 where
  ascending : ArePaths paths
  own : (path : List ℕ) → is_among paths path ≡ true → Own path

among_one : (one path : List ℕ) → Own one → is_among (one ∷ []) path ≡ true → Own path
among_one one path is h = by_test (bytes_eq path one) refl h
  where
    by_test : (b : Bool) → bytes_eq path one ≡ b → (b || false) ≡ true → Own path
    by_test true e k = subst Own (sym ((bytes_eq-Decides path one).0 e)) is
    by_test false e k = absurd (false≢true k)

among_two : (path : List ℕ) → is_among (comments_path ∷ styles_path ∷ []) path ≡ true → Own path
among_two path h = by_test (bytes_eq path comments_path) refl h
  where
    by_test : (b : Bool) → bytes_eq path comments_path ≡ b → (b || is_among (styles_path ∷ []) path) ≡ true → Own path
    by_test true e k = inl ((bytes_eq-Decides path comments_path).0 e)
    by_test false e k = among_one styles_path path (inr refl) k

none_own : AreOwn []
unfolding IsStrictlySortedBy
none_own = record { ascending = tt; own = λ path h. absurd (false≢true h) }

comments_own : AreOwn (comments_path ∷ [])
unfolding IsStrictlySortedBy
comments_own = record { ascending = (tt, tt); own = λ path h. among_one comments_path path (inl refl) h }

styles_own : AreOwn (styles_path ∷ [])
unfolding IsStrictlySortedBy
styles_own = record { ascending = (tt, tt); own = λ path h. among_one styles_path path (inr refl) h }

both_own : AreOwn (comments_path ∷ styles_path ∷ [])
unfolding IsStrictlySortedBy
both_own = record { ascending = ((refl, tt), (tt, tt)); own = among_two }

paths_own : (tree : Files) (first second : Option Edit)
    → ((edit : Edit) → first ≡ Some edit → FitAt tree comments_path edit)
    → ((edit : Edit) → second ≡ Some edit → FitAt tree styles_path edit)
    → AreOwn (paths_at (option_to_list first ++ option_to_list second))
paths_own tree None None h k = none_own
paths_own tree None (Some two) h k = subst (λ p. AreOwn (p ∷ [])) (sym (k two refl).0) styles_own
paths_own tree (Some one) None h k = subst (λ p. AreOwn (p ∷ [])) (sym (h one refl).0) comments_own
paths_own tree (Some one) (Some two) h k = subst (λ p. AreOwn (p ∷ two.path ∷ [])) (sym (h one refl).0)
    (subst (λ p. AreOwn (comments_path ∷ p ∷ [])) (sym (k two refl).0) both_own)

both_fit : (tree : Files) (first second : Option Edit)
    → ((edit : Edit) → first ≡ Some edit → FitAt tree comments_path edit)
    → ((edit : Edit) → second ≡ Some edit → FitAt tree styles_path edit)
    → AreEdits tree (option_to_list first ++ option_to_list second)
both_fit tree first second h k = let own = paths_own tree first second h k in record {
  ascending = own.ascending;
  apart = λ path other in_path in_other. own_apart path other (own.own path in_path) (own.own other in_other);
  each = all_both (IsFit tree) first second (λ edit is. (h edit is).1) (λ edit is. (k edit is).1);
}

-- ---- where an addition isn't refused

-- the lines that are added, and the edits of both files
pub record IsAddition (additions : StyleAdditions) (tree : Files) (edits : List Edit) : Type 0 where
  pub added : AddedLines
  pub lines : lines_for additions tree (styles_in tree) ≡ Ok added
  pub both : AreBoth (lines_edit tree comments_path (get tree comments_path) added.comments)
      (lines_edit tree styles_path (get tree styles_path) added.styles) edits

pub addition_is : (additions : StyleAdditions) (tree : Files) (edits : List Edit)
    → style_edits additions tree ≡ Ok edits
    → IsAddition additions tree edits
addition_is additions tree edits h = of_lines (lines_for additions tree (styles_in tree)) refl h
  where
    of_lines : (given : Result AddedLines Refusal) → lines_for additions tree (styles_in tree) ≡ given
        → edits_for tree given ≡ Ok edits → IsAddition additions tree edits
    of_lines (Err refusal) is e = absurd (cc)
    of_lines (Ok added) is e = record {
      added = added;
      lines = is;
      both = both_are (lines_edit tree comments_path (get tree comments_path) added.comments)
          (lines_edit tree styles_path (get tree styles_path) added.styles) edits e;
    }

-- each edit is one of lines
pub edits_of_lines : (additions : StyleAdditions) (tree : Files) (edits : List Edit) (P : Edit → Type 0)
    → ((path lines : List ℕ) (edit : Edit)
    → IsMadeOfLines tree path lines edit ⊎ HasLinesBehind tree path lines edit
    → P edit) → IsAddition additions tree edits
    → AllByRecursion P edits
edits_of_lines additions tree edits P each is = subst (AllByRecursion P) is.both.they_are
    (all_both P is.both.first is.both.second
    (λ edit e. each comments_path is.added.comments edit (lines_are tree comments_path is.added.comments edit
    (get tree comments_path) refl (is.both.is_first ∙ ap done e)))
    (λ edit e. each styles_path is.added.styles edit (lines_are tree styles_path is.added.styles edit
    (get tree styles_path) refl (is.both.is_second ∙ ap done e))))

pub addition_fits : (additions : StyleAdditions) (tree : Files) (edits : List Edit)
    → style_edits additions tree ≡ Ok edits
    → AreEdits tree edits
addition_fits additions tree edits h = let is = addition_is additions tree edits h in
    subst (AreEdits tree) is.both.they_are (both_fit tree is.both.first is.both.second
    (λ edit e. lines_fit tree comments_path is.added.comments edit refl refl (lines_are tree comments_path
    is.added.comments edit (get tree comments_path) refl (is.both.is_first ∙ ap done e)))
    (λ edit e. lines_fit tree styles_path is.added.styles edit refl refl (lines_are tree styles_path is.added.styles edit
    (get tree styles_path) refl (is.both.is_second ∙ ap done e))))

-- ---- the changes

-- the change that puts lines behind the bytes of a file
pub appends : (tree : Files) (path bytes lines : List ℕ) → get tree path ≡ Some bytes → lines ≢ []
    → length bytes + length lines ≤ LONGEST_FILE
    → CarriesOutEdit tree (sealed_splice path bytes (length bytes) [] lines) (appended path bytes lines)
appends tree path bytes lines here some short = subst (λ f. CarriesOutEdit tree
    (sealed_splice path bytes (length bytes) [] lines)
    (record { path = path; removed = []; written = lines; file = Some f })) whole
    (makes_splice bytes (length bytes) 0 (omega arith) tree path lines here (omega (arith, short))
    (subst (λ (f : List ℕ). length f ≤ LONGEST_FILE) (sym whole)
    (omega (arith, short, length-append bytes lines)))
    (differs (bytes_eq (take (length bytes) bytes ++ lines ++ drop (length bytes + 0) bytes) bytes) refl))
  where
    at_end : (n : ℕ) → n + 0 ≡ n
    at_end n = omega arith

    none_behind : drop (length bytes + 0) bytes ≡ []
    none_behind = ap (λ n. drop n bytes) (at_end (length bytes)) ∙ drop-length bytes

    whole : take (length bytes) bytes ++ lines ++ drop (length bytes + 0) bytes ≡ bytes ++ lines
    whole = ap (λ front. front ++ lines ++ drop (length bytes + 0) bytes) (take-length bytes)
        ∙ ap (λ behind. bytes ++ lines ++ behind) none_behind ∙ append-nil (bytes ++ lines)

    none_more : bytes ++ lines ≡ bytes → lines ≡ []
    none_more e = of_length lines (omega (arith, ap length e, length-append bytes lines))
      where
        of_length : (l : List ℕ) → length l ≡ 0 → l ≡ []
        of_length [] h = refl
        of_length (b ∷ l) h = absurd (omega (arith, h))

    differs : (b : Bool) → bytes_eq (take (length bytes) bytes ++ lines ++ drop (length bytes + 0) bytes) bytes ≡ b
        → bytes_eq (take (length bytes) bytes ++ lines ++ drop (length bytes + 0) bytes) bytes ≡ false
    differs false e = e
    differs true e = absurd (some (none_more (sym whole ∙ (bytes_eq-Decides _ bytes).0 e)))

-- the changes of both edits
pub both_made : (tree : Files) (one two : Result (Option Edit) Refusal) (first second : Option Change)
    → MakesEdit tree one first → MakesEdit tree two second
    → MakesEdits tree (or_first one (or_first two (Ok []))) (option_to_list first ++ option_to_list second)
both_made tree one two None None h k = ([], rw (h, k) refl, tt)
both_made tree one two None (Some second) h k = (k.0 ∷ [], rw (h, k.1) refl, (k.2, tt))
both_made tree one two (Some first) None h k = (h.0 ∷ [], rw (h.1, k) refl, (h.2, tt))
both_made tree one two (Some first) (Some second) h k =
    (h.0 ∷ k.0 ∷ [], rw (h.1, k.1) refl, (h.2, (k.2, tt)))

-- the refusal of the first, and of the second where the first isn't refused
pub first_refused : (one : Result (Option Edit) Refusal) (rest : Result (List Edit) Refusal) (refusal : Refusal)
    → IsRefusalOf one refusal → IsRefusalOf (or_first one rest) refusal
first_refused one rest refusal is =
    refusal_passes one (or_first one rest) (λ r e. ap (λ (o : Result (Option Edit) Refusal). or_first o rest) e) refusal is

pub second_refused : (tree : Files) (one two : Result (Option Edit) Refusal) (first : Option Change) (refusal : Refusal)
    → MakesEdit tree one first → IsRefusalOf two refusal
    → IsRefusalOf (or_first one (or_first two (Ok []))) refusal
second_refused tree one two None refusal made is =
    refusal_passes two (or_first one (or_first two (Ok []))) (λ r e. rw (made, e) refl) refusal is
second_refused tree one two (Some first) refusal made is =
    refusal_passes two (or_first one (or_first two (Ok []))) (λ r e. rw (made.1, e) refl) refusal is

-- ---- the change of one file

-- the change of lines behind the bytes of a file, and of a file that is made of lines
pub append_made : (tree : Files) (path bytes lines : List ℕ) → get tree path ≡ Some bytes → lines ≢ []
    → length lines ≤ LONGEST_FILE - length bytes
    → MakesEdit tree (file_with tree path (Some bytes) lines) (Some (sealed_splice path bytes (length bytes) [] lines))
append_made tree path bytes lines here some room = (
  appended path bytes lines,
  ap (λ b. cond b (Err (refusals.TooLong path)) (some_edit (appended path bytes lines)))
      (not_longer (length bytes + length lines) short),
  appends tree path bytes lines here some short,
)
  where
    not_empty : (l : List ℕ) → l ≢ [] → 1 ≤ length l
    not_empty [] h = absurd (h refl)
    not_empty (b ∷ l) h = omega arith

    short : length bytes + length lines ≤ LONGEST_FILE
    short = omega (arith, room, not_empty lines some)

    not_longer : (n : ℕ) → n ≤ LONGEST_FILE → nat_lt LONGEST_FILE n ≡ false
    not_longer n h = grind (arith, nat_tests)

-- where there is none
module _ (tree : Files) (path lines : List ℕ) (short : length lines ≤ LONGEST_FILE) where
  not_long : nat_lt LONGEST_FILE (length lines) ≡ false
  not_long = at_most (length lines) short
    where
      at_most : (n : ℕ) → n ≤ LONGEST_FILE → nat_lt LONGEST_FILE n ≡ false
      at_most n h = grind (arith, nat_tests)

  new_is : file_with tree path None lines
      ≡ cond (is_clash tree path) (Err (refusals.Clash path)) (some_edit (made path lines))
  new_is = ap (λ b. cond b (Err (refusals.TooLong path))
      (cond (is_clash tree path) (Err (refusals.Clash path)) (some_edit (made path lines)))) not_long

  pub new_clashes : is_clash tree path ≡ true → file_with tree path None lines ≡ Err (refusals.Clash path)
  new_clashes e = new_is ∙ ap (λ b. cond b (Err (refusals.Clash path)) (some_edit (made path lines))) e

  pub new_made : get tree path ≡ None → is_clash tree path ≡ false
      → MakesEdit tree (file_with tree path None lines) (Some (sealed_make path lines))
  new_made none e = (
    made path lines,
    new_is ∙ ap (λ b. cond b (Err (refusals.Clash path)) (some_edit (made path lines))) e,
    record {
      path = refl;
      removed = refl;
      written = refl;
      proper = tt;
      small = short;
      applies = record { range = (none, refl); from = tt; to = refl };
      sealed = refl;
    },
  )

-- what is known of the change of a file, by another spelling of its path and by what was read of it
pub lines_at : (tree : Files) (path at : List ℕ) (file : Option (List ℕ)) (lines : List ℕ)
    (answer : Result (Option Change) Refusal) → at ≡ path → get tree path ≡ file
    → (is_of_tree at ≡ true → get tree at ≡ file → AnswersEdit tree (lines_edit tree at file lines) answer)
    → is_of_tree path ≡ true → AnswersEdit tree (lines_edit tree path (get tree path) lines) answer
lines_at tree path at file lines answer is here made of_tree =
    subst (λ f. AnswersEdit tree (lines_edit tree path f lines) answer) (sym here)
    (subst (λ p. AnswersEdit tree (lines_edit tree p file lines) answer) is
    (made (ap is_of_tree is ∙ of_tree) (ap (get tree) is ∙ here)))
