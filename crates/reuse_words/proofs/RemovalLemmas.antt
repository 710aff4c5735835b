-- The answers of a removal, by those of the write.
use Rattle.std.proofs.Common.{◌≡◌, ℕ, ◌+◌, ◌-◌, Bool, true, false, List, [], ◌∷◌, length, drop, Option, None, Some, suc}
use Rattle.std.proofs.Common.{refl, sym, ap, subst, ◌∙◌, cond, arith}
use Rattle.std.specs.Prelude.{Result, Ok, Err, ◌==◌}
use Rattle.std.proofs.lemmas.Bool.Decides.{nat_tests}
use Rattle.reuse_notice.specs.Contents.{is_nil, free_of}
use Rattle.reuse_style.specs.declared.style.Style.{Style}
use Rattle.reuse_style.specs.Styles.{punctuation_of}
use Rattle.reuse_header.specs.declared.annotation.Splice.{Splice}
use Rattle.reuse_header.specs.declared.annotation.HeaderRefusal.{HeaderRefusal}
use Rattle.reuse_header.specs.declared.annotation.HeaderRefusal.TheVariants.{NotText, NoSuchForm, HoldsCloser, TooLong}
use Rattle.reuse_header.specs.declared.annotation.HeaderRefusal.TheVariants.{Unsettled, Memory}
use Rattle.reuse_header.specs.Marks.{marks_of}
use Rattle.reuse_header.specs.Header.{HeaderSpan}
use Rattle.reuse_header.specs.Annotation.{Edit}
use Rattle.reuse_header.specs.Splices.{splice_at, answer_of, IsExpected}
use Rattle.reuse_header.specs.Comment.{comment_written}
use Rattle.reuse_words.specs.Removal.{some_edit, edit_answer, gap_behind, block_taken, block_untagged}
use Rattle.reuse_words.specs.Removal.{neighbour_change_of, neighbour_answer, IsExpectedChange}
use Rattle.reuse_words.specs.declared.removal.NeighbourChange.{NeighbourChange}

-- the answer of an edit that is made
some_answer : (file : List ℕ) (made : Result Edit HeaderRefusal)
    → answer_of file made ≡ edit_answer file (some_edit made)
some_answer file (Ok edit) = refl
some_answer file (Err refusal) = refl

pub some_expected : (file : List ℕ) (made : Result Edit HeaderRefusal) (given : Result (Option Splice) HeaderRefusal)
    → IsExpected (answer_of file made) given → IsExpected (edit_answer file (some_edit made)) given
some_expected file made given = subst (λ expected. IsExpected expected given) (some_answer file made)

not_zero : (n : ℕ) → (suc n == 0) ≡ false
not_zero n = grind (arith, nat_tests)

-- whether there are contents, by their count
pub nil_by_count : (contents : List (List ℕ)) (test : Bool) → test ≡ (length contents == 0) → is_nil contents ≡ test
nil_by_count [] test e = sym e
nil_by_count (c ∷ contents) test e = sym (e ∙ not_zero (length contents))

-- ---- a block

block_by : Style → List ℕ → HeaderSpan → List (List ℕ) → Bool → Result (Option Edit) HeaderRefusal
block_by style file span free test =
    cond test (Ok (Some (block_taken file span)))
    (some_edit (comment_written file span free (marks_of style span.form)))

untagged_by : (style : Style) (file : List ℕ) (span : HeaderSpan) (free : List (List ℕ)) (test : Bool)
    → free ≡ free_of (punctuation_of style) span.contents → is_nil free ≡ test
    → block_by style file span free test ≡ block_untagged style file span
unfolding block_untagged block_by
untagged_by style file span free test says is =
    ap (block_by style file span free) (sym is)
    ∙ ap (λ (fs : List (List ℕ)). block_by style file span fs (is_nil fs)) says

pub block_goes : (style : Style) (file : List ℕ) (span : HeaderSpan) (free : List (List ℕ))
    → free ≡ free_of (punctuation_of style) span.contents → is_nil free ≡ true
    → (given : Result (Option Splice) HeaderRefusal)
    → IsExpected (Ok (splice_at file span.start
    ((span.end + gap_behind (drop span.end file)) - span.start) [])) given
    → IsExpected (edit_answer file (block_untagged style file span)) given
unfolding block_by
block_goes style file span free says is given answered =
    subst (λ (made : Result (Option Edit) HeaderRefusal). IsExpected (edit_answer file made) given)
    (untagged_by style file span free true says is) answered

pub block_stays : (style : Style) (file : List ℕ) (span : HeaderSpan) (free : List (List ℕ))
    → free ≡ free_of (punctuation_of style) span.contents → is_nil free ≡ false
    → (given : Result (Option Splice) HeaderRefusal)
    → IsExpected (answer_of file (comment_written file span free (marks_of style span.form))) given
    → IsExpected (edit_answer file (block_untagged style file span)) given
unfolding block_by
block_stays style file span free says is given answered =
    subst (λ (made : Result (Option Edit) HeaderRefusal). IsExpected (edit_answer file made) given)
    (untagged_by style file span free false says is)
    (some_expected file (comment_written file span free (marks_of style span.form)) given answered)

-- ---- a neighbour

-- what becomes of a neighbour, by the change that is answered
change_of : List ℕ → Result (Option Splice) HeaderRefusal → Result NeighbourChange HeaderRefusal
change_of file (Ok splice) = Ok (neighbour_change_of file splice)
change_of file (Err refusal) = Err refusal

changed : (file : List ℕ) (made : Result (Option Edit) HeaderRefusal)
    → change_of file (edit_answer file made) ≡ neighbour_answer file made
unfolding change_of
changed file (Ok None) = refl
changed file (Ok (Some edit)) = refl
changed file (Err refusal) = refl

change_expected : (file : List ℕ) (expected given : Result (Option Splice) HeaderRefusal) → IsExpected expected given
    → IsExpectedChange (change_of file expected) (change_of file given)
unfolding change_of
change_expected file expected (Ok splice) is = ap (change_of file) is
change_expected file expected (Err NotText) is = ap (change_of file) is
change_expected file expected (Err NoSuchForm) is = ap (change_of file) is
change_expected file expected (Err HoldsCloser) is = ap (change_of file) is
change_expected file expected (Err TooLong) is = ap (change_of file) is
change_expected file expected (Err Unsettled) is = ap (change_of file) is
change_expected file expected (Err (Memory e)) is = tt

pub change_ok : (file : List ℕ) (made : Result (Option Edit) HeaderRefusal) (splice : Option Splice)
    → IsExpected (edit_answer file made) (Ok splice)
    → IsExpectedChange (neighbour_answer file made) (Ok (neighbour_change_of file splice))
unfolding change_of
change_ok file made splice is =
    subst (λ (expected : Result NeighbourChange HeaderRefusal). IsExpectedChange expected
    (Ok (neighbour_change_of file splice))) (changed file made)
    (change_expected file (edit_answer file made) (Ok splice) is)

pub change_err : (file : List ℕ) (made : Result (Option Edit) HeaderRefusal) (refusal : HeaderRefusal)
    → IsExpected (edit_answer file made) (Err refusal)
    → IsExpectedChange (neighbour_answer file made) (Err refusal)
unfolding change_of
change_err file made refusal is =
    subst (λ (expected : Result NeighbourChange HeaderRefusal). IsExpectedChange expected (Err refusal))
    (changed file made) (change_expected file (edit_answer file made) (Err refusal) is)
