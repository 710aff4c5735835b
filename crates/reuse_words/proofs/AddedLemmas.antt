-- The answers of adding texts, by those of the write.
use Rattle.std.proofs.Common.{◌≡◌, ℕ, Bool, true, false, List, [], Option, refl, sym, ap, subst, ◌∙◌, cond, map}
use Rattle.std.specs.Prelude.{Result, Ok, Err}
use Rattle.std.specs.List.{list_any}
use Rattle.std.specs.Option.{option_map}
use Rattle.reuse_notice.specs.declared.infos.Info.{Info}
use Rattle.reuse_notice.specs.declared.adding.Additions.{Additions}
use Rattle.reuse_style.specs.declared.style.Style.{Style}
use Rattle.reuse_style.specs.declared.marks.Form.{Form}
use Rattle.reuse_style.specs.Styles.{punctuation_of}
use Rattle.reuse_header.specs.declared.annotation.How.{How}
use Rattle.reuse_header.specs.declared.annotation.Splice.{Splice}
use Rattle.reuse_header.specs.declared.annotation.HeaderRefusal.{HeaderRefusal}
use Rattle.reuse_header.specs.declared.annotation.HeaderRefusal.TheVariants.{NotText, NoSuchForm, HoldsCloser, TooLong}
use Rattle.reuse_header.specs.declared.annotation.HeaderRefusal.TheVariants.{Unsettled, Memory}
use Rattle.reuse_header.specs.Marks.{marks_of}
use Rattle.reuse_header.specs.Header.{HeaderSpan, span_in, header_of}
use Rattle.reuse_header.specs.Writing.{new_info}
use Rattle.reuse_header.specs.Annotation.{Edit, chosen_form, replaced_block, old_contents, written_by}
use Rattle.reuse_header.specs.Neighbour.{is_text, replaced_contents, neighbour_written}
use Rattle.reuse_header.specs.Splices.{answer_of, IsExpected}
use Rattle.reuse_header.specs.Comment.{closes_comment}
use Rattle.reuse_words.specs.declared.refusal.TextHeaderRefusal.{TextHeaderRefusal}
use Rattle.reuse_words.specs.declared.refusal.TextHeaderRefusal.TheVariants.{BadText, Header}
use Rattle.reuse_words.specs.Information.{gap_of, text_in, info_with}
use Rattle.reuse_words.specs.Added.{header_edit, text_annotation_of, neighbour_text_annotation_of, text_answer}
use Rattle.reuse_words.specs.Added.{IsExpectedTextEdit}

-- an answer of a write, as one of adding texts
abbrev lifted : Result (Option Splice) HeaderRefusal → Result (Option Splice) TextHeaderRefusal
lifted (Ok splice) = Ok splice
lifted (Err refusal) = Err (Header refusal)

lifted_answer : (file : List ℕ) (made : Result Edit HeaderRefusal)
    → lifted (answer_of file made) ≡ text_answer file (header_edit made)
lifted_answer file (Ok edit) = refl
lifted_answer file (Err refusal) = refl

lifted_expected : (expected given : Result (Option Splice) HeaderRefusal) → IsExpected expected given
    → IsExpectedTextEdit (lifted expected) (lifted given)
lifted_expected expected (Ok splice) is = ap lifted is
lifted_expected expected (Err NotText) is = ap lifted is
lifted_expected expected (Err NoSuchForm) is = ap lifted is
lifted_expected expected (Err HoldsCloser) is = ap lifted is
lifted_expected expected (Err TooLong) is = ap lifted is
lifted_expected expected (Err Unsettled) is = ap lifted is
lifted_expected expected (Err (Memory e)) is = tt

pub written_ok : (file : List ℕ) (made : Result Edit HeaderRefusal) (splice : Option Splice)
    → IsExpected (answer_of file made) (Ok splice)
    → IsExpectedTextEdit (text_answer file (header_edit made)) (Ok splice)
written_ok file made splice is =
    subst (λ (expected : Result (Option Splice) TextHeaderRefusal). IsExpectedTextEdit expected (Ok splice))
    (lifted_answer file made) (lifted_expected (answer_of file made) (Ok splice) is)

pub written_err : (file : List ℕ) (made : Result Edit HeaderRefusal) (refusal : HeaderRefusal)
    → IsExpected (answer_of file made) (Err refusal)
    → IsExpectedTextEdit (text_answer file (header_edit made)) (Err (Header refusal))
written_err file made refusal is =
    subst (λ (expected : Result (Option Splice) TextHeaderRefusal). IsExpectedTextEdit expected (Err (Header refusal)))
    (lifted_answer file made) (lifted_expected (answer_of file made) (Err refusal) is)

-- what is made, by the steps on the way
pub added_by : (style : Style) (how : How) (additions : Additions) (texts : List (List (List ℕ))) (file : List ℕ)
    (found old : Option HeaderSpan) (form : Form) (gap punct : List ℕ) (closes : Bool) (info : Info)
    → found ≡ option_map (span_in file) (header_of style file) → old ≡ replaced_block how.replace found
    → form ≡ chosen_form style how.form found → gap ≡ gap_of (marks_of style form) → punct ≡ punctuation_of style
    → closes ≡ list_any (closes_comment (marks_of style form)) (map (text_in gap) texts)
    → info ≡ info_with punct (map (text_in gap) texts) (new_info punct (old_contents old) how.merge additions)
    → cond closes (Err BadText) (header_edit (written_by style file old info (marks_of style form)))
    ≡ text_annotation_of style how additions texts file
unfolding text_annotation_of
added_by style how additions texts file found old form gap punct closes info e1 e2 e3 e4 e5 e6 e7 =
    rw (e6, e7, e4, e2, e3, e1, e5) refl

-- that a line would end the comment
pub added_bad : (style : Style) (how : How) (additions : Additions) (texts : List (List (List ℕ))) (file : List ℕ)
    (found : Option HeaderSpan) (form : Form) (gap : List ℕ)
    → found ≡ option_map (span_in file) (header_of style file)
    → form ≡ chosen_form style how.form found → gap ≡ gap_of (marks_of style form)
    → true ≡ list_any (closes_comment (marks_of style form)) (map (text_in gap) texts)
    → text_answer file (text_annotation_of style how additions texts file) ≡ Err BadText
added_bad style how additions texts file found form gap e1 e3 e4 e6 =
    ap (text_answer file) (sym (added_by style how additions texts file found (replaced_block how.replace found) form
    gap
    (punctuation_of style) true
    (info_with (punctuation_of style) (map (text_in gap) texts)
    (new_info (punctuation_of style) (old_contents (replaced_block how.replace found)) how.merge additions))
    e1 refl e3 e4 refl e6 refl))

-- ---- a neighbour

pub neighbour_added : (how : How) (additions : Additions) (texts : List (List (List ℕ))) (file : List ℕ) (info : Info)
    → is_text file ≡ true
    → info ≡ info_with [] (map (text_in []) texts)
    (new_info [] (replaced_contents how.replace file) how.merge additions)
    → header_edit (neighbour_written how.replace file info) ≡ neighbour_text_annotation_of how additions texts file
unfolding neighbour_text_annotation_of
neighbour_added how additions texts file info text says =
    ap (λ (i : Info). header_edit (neighbour_written how.replace file i)) says
    ∙ ap (λ (t : Bool). cond t (header_edit (neighbour_written how.replace file (info_with [] (map (text_in []) texts)
    (new_info [] (replaced_contents how.replace file) how.merge additions)))) (Err (Header NotText))) (sym text)

pub neighbour_not_text : (how : How) (additions : Additions) (texts : List (List (List ℕ))) (file : List ℕ)
    → is_text file ≡ false
    → text_answer file (neighbour_text_annotation_of how additions texts file) ≡ Err (Header NotText)
unfolding neighbour_text_annotation_of
neighbour_not_text how additions texts file e =
    ap (λ (t : Bool). text_answer file (cond t (header_edit (neighbour_written how.replace file
    (info_with [] (map (text_in []) texts) (new_info [] (replaced_contents how.replace file) how.merge additions))))
    (Err (Header NotText)))) e
