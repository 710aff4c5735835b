-- The answers of an amendment, by those of the write.
use Rattle.std.proofs.Common.{◌≡◌, ℕ, List, Option, None, Some, refl, sym, ap, subst, ◌∙◌, true, false, [], cond}
use Rattle.std.specs.Prelude.{Result, Ok, Err}
use Rattle.reuse_notice.specs.declared.infos.Info.{Info}
use Rattle.reuse_header.specs.declared.annotation.Splice.{Splice}
use Rattle.reuse_header.specs.declared.annotation.HeaderRefusal.{HeaderRefusal}
use Rattle.reuse_header.specs.declared.annotation.HeaderRefusal.TheVariants.{NotText, NoSuchForm, HoldsCloser, TooLong}
use Rattle.reuse_header.specs.declared.annotation.HeaderRefusal.TheVariants.{Unsettled, Memory}
use Rattle.reuse_header.specs.declared.amendment.AmendHeaderRefusal.{AmendHeaderRefusal}
use Rattle.reuse_header.specs.declared.amendment.AmendHeaderRefusal.TheVariants.{BadExpression, NothingLeft, Header}
use Rattle.reuse_amend.specs.declared.amendments.Amendments.{Amendments}
use Rattle.reuse_notice.specs.Infos.{info_of}
use Rattle.reuse_style.specs.declared.style.Style.{Style}
use Rattle.reuse_style.specs.Styles.{punctuation_of}
use Rattle.reuse_header.specs.Marks.{LineMarks, marks_of}
use Rattle.reuse_header.specs.Header.{HeaderSpan}
use Rattle.reuse_header.specs.Neighbour.{is_text, replaced_contents, neighbour_written}
use Rattle.reuse_header.specs.Annotation.{Edit, written_by}
use Rattle.reuse_header.specs.Splices.{answer_of, IsExpected}
use Rattle.reuse_header.specs.Amendment.{amended_information, as_amendment, written_if, block_amendment}
use Rattle.reuse_header.specs.Amendment.{neighbour_amendment_of, amendment_answer, IsExpectedAmendment}

-- an answer of a write, as one of an amendment
abbrev lifted : Result (Option Splice) HeaderRefusal → Result (Option Splice) AmendHeaderRefusal
lifted (Ok splice) = Ok splice
lifted (Err refusal) = Err (Header refusal)

lifted_answer : (file : List ℕ) (made : Result Edit HeaderRefusal)
    → amendment_answer file (as_amendment made) ≡ lifted (answer_of file made)
lifted_answer file (Ok edit) = refl
lifted_answer file (Err refusal) = refl

lifted_expected : (expected given : Result (Option Splice) HeaderRefusal) → IsExpected expected given
    → IsExpectedAmendment (lifted expected) (lifted given)
lifted_expected expected (Ok splice) is = ap lifted is
lifted_expected expected (Err NotText) is = ap lifted is
lifted_expected expected (Err NoSuchForm) is = ap lifted is
lifted_expected expected (Err HoldsCloser) is = ap lifted is
lifted_expected expected (Err TooLong) is = ap lifted is
lifted_expected expected (Err Unsettled) is = ap lifted is
lifted_expected expected (Err (Memory e)) is = tt

-- what a write answered is the amendment's answer
write_answered : (file : List ℕ) (made : Result Edit HeaderRefusal) (given : Result (Option Splice) HeaderRefusal)
    → IsExpected (answer_of file made) given
    → IsExpectedAmendment (amendment_answer file (as_amendment made)) (lifted given)
write_answered file made given answered =
    subst (λ x. IsExpectedAmendment x (lifted given)) (sym (lifted_answer file made))
    (lifted_expected (answer_of file made) given answered)

pub write_ok : (file : List ℕ) (made : Result Edit HeaderRefusal) (splice : Option Splice)
    → IsExpected (answer_of file made) (Ok splice)
    → IsExpectedAmendment (amendment_answer file (as_amendment made)) (Ok splice)
write_ok file made splice answered = write_answered file made (Ok splice) answered

pub write_err : (file : List ℕ) (made : Result Edit HeaderRefusal) (refusal : HeaderRefusal)
    → IsExpected (answer_of file made) (Err refusal)
    → IsExpectedAmendment {X = Option Splice} (amendment_answer file (as_amendment made)) (Err (Header refusal))
write_err file made refusal answered = write_answered file made (Err refusal) answered

pub no_form : (style : Style) (file : List ℕ) (old : Option HeaderSpan) (info : Info)
    (marks : Option LineMarks) → marks ≡ None
    → IsExpectedAmendment {X = Option Splice}
    (amendment_answer file (as_amendment (written_by style file old info marks)))
    (Err (Header NoSuchForm))
unfolding written_by
no_form style file old info marks is =
    ap (λ m. amendment_answer file (as_amendment (written_by style file old info m))) is

-- a refusal
pub write_refused : (file : List ℕ) (write : Info → Result Edit HeaderRefusal)
    (expected : Result (Option Info) AmendHeaderRefusal) (refusal : AmendHeaderRefusal)
    → IsExpectedAmendment expected (Err refusal)
    → IsExpectedAmendment {X = Option Splice} (amendment_answer file (written_if write expected)) (Err refusal)
write_refused file write expected BadExpression is = ap (λ d. amendment_answer file (written_if write d)) is
write_refused file write expected NothingLeft is = ap (λ d. amendment_answer file (written_if write d)) is
write_refused file write expected (Header NotText) is = ap (λ d. amendment_answer file (written_if write d)) is
write_refused file write expected (Header NoSuchForm) is = ap (λ d. amendment_answer file (written_if write d)) is
write_refused file write expected (Header HoldsCloser) is = ap (λ d. amendment_answer file (written_if write d)) is
write_refused file write expected (Header TooLong) is = ap (λ d. amendment_answer file (written_if write d)) is
write_refused file write expected (Header Unsettled) is = ap (λ d. amendment_answer file (written_if write d)) is
write_refused file write expected (Header (Memory e)) is = tt

-- ---- a block

-- the answer, by what the block says
pub block_written : (style : Style) (a : Amendments) (file : List ℕ) (span : HeaderSpan) (old : Info)
    (new : Option Info) (given : Result (Option Splice) AmendHeaderRefusal)
    → old ≡ info_of (punctuation_of style) span.contents
    → amended_information a old ≡ Ok new → IsExpectedAmendment (amendment_answer file
    (written_if (λ i. written_by style file (Some span) i (marks_of style span.form)) (Ok new))) given
    → IsExpectedAmendment (amendment_answer file (block_amendment style a file span)) given
unfolding block_amendment
block_written style a file span old new given says is answered =
    subst (λ d. IsExpectedAmendment
    (amendment_answer file (written_if (λ i. written_by style file (Some span) i (marks_of style span.form)) d)) given)
    (sym (ap (amended_information a) (sym says) ∙ is)) answered

pub block_refused : (style : Style) (a : Amendments) (file : List ℕ) (span : HeaderSpan) (old : Info)
    (refusal : AmendHeaderRefusal) → old ≡ info_of (punctuation_of style) span.contents
    → IsExpectedAmendment (amended_information a old) (Err refusal)
    → IsExpectedAmendment {X = Option Splice} (amendment_answer file (block_amendment style a file span)) (Err refusal)
unfolding block_amendment
block_refused style a file span old refusal says is =
    write_refused file (λ i. written_by style file (Some span) i (marks_of style span.form))
    (amended_information a (info_of (punctuation_of style) span.contents)) refusal
    (subst (λ i. IsExpectedAmendment (amended_information a i) (Err refusal)) says is)

-- ---- a neighbour

pub neighbour_read : (a : Amendments) (file : List ℕ) (old : Info) (new : Option Info)
    (given : Result (Option Splice) AmendHeaderRefusal) → old ≡ info_of [] (replaced_contents true file)
    → amended_information a old ≡ Ok new
    → IsExpectedAmendment (amendment_answer file (written_if (neighbour_written true file) (Ok new))) given
    → IsExpectedAmendment (amendment_answer file
    (written_if (neighbour_written true file) (amended_information a (info_of [] (replaced_contents true file))))) given
neighbour_read a file old new given says is answered =
    subst (λ d. IsExpectedAmendment (amendment_answer file (written_if (neighbour_written true file) d)) given)
    (sym (ap (amended_information a) (sym says) ∙ is)) answered

pub neighbour_refused : (a : Amendments) (file : List ℕ) (old : Info) (refusal : AmendHeaderRefusal)
    → old ≡ info_of [] (replaced_contents true file) → IsExpectedAmendment (amended_information a old) (Err refusal)
    → IsExpectedAmendment {X = Option Splice} (amendment_answer file (written_if (neighbour_written true file)
    (amended_information a (info_of [] (replaced_contents true file))))) (Err refusal)
neighbour_refused a file old refusal says is =
    write_refused file (neighbour_written true file) (amended_information a (info_of [] (replaced_contents true file)))
    refusal (subst (λ i. IsExpectedAmendment (amended_information a i) (Err refusal)) says is)

pub text_answered : (a : Amendments) (file : List ℕ) (given : Result (Option Splice) AmendHeaderRefusal)
    → is_text file ≡ true
    → IsExpectedAmendment (amendment_answer file
    (written_if (neighbour_written true file) (amended_information a (info_of [] (replaced_contents true file))))) given
    → IsExpectedAmendment (amendment_answer file (neighbour_amendment_of a file)) given
unfolding neighbour_amendment_of
text_answered a file given text answered =
    subst (λ b. IsExpectedAmendment (amendment_answer file (cond b (written_if (neighbour_written true file)
    (amended_information a (info_of [] (replaced_contents true file)))) (Err (Header NotText)))) given)
    (sym text) answered

pub not_text : (a : Amendments) (file : List ℕ) → is_text file ≡ false
    → IsExpectedAmendment {X = Option Splice} (amendment_answer file (neighbour_amendment_of a file))
    (Err (Header NotText))
unfolding neighbour_amendment_of
not_text a file e = ap (λ b. amendment_answer file (cond b (written_if (neighbour_written true file)
    (amended_information a (info_of [] (replaced_contents true file)))) (Err (Header NotText)))) e
