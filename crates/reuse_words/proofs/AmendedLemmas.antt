-- The answers of taking texts out, by those of the write.
use Rattle.std.proofs.Common.{◌≡◌, ℕ, Bool, true, false, List, [], Option, None, Some, sym, ap, subst, ◌∙◌, cond, map}
use Rattle.std.specs.Prelude.{Result, Ok, Err}
use Rattle.reuse_notice.specs.declared.infos.Info.{Info}
use Rattle.reuse_notice.specs.Infos.{info_of}
use Rattle.reuse_style.specs.declared.style.Style.{Style}
use Rattle.reuse_style.specs.Styles.{punctuation_of}
use Rattle.reuse_header.specs.declared.annotation.Splice.{Splice}
use Rattle.reuse_header.specs.declared.annotation.HeaderRefusal.{HeaderRefusal}
use Rattle.reuse_header.specs.declared.annotation.HeaderRefusal.TheVariants.{NotText}
use Rattle.reuse_header.specs.Marks.{marks_of}
use Rattle.reuse_header.specs.Header.{HeaderSpan}
use Rattle.reuse_header.specs.Annotation.{Edit, written_by}
use Rattle.reuse_header.specs.Neighbour.{is_text, replaced_contents, neighbour_written}
use Rattle.reuse_header.specs.Splices.{answer_of, IsExpected}
use Rattle.reuse_words.specs.Information.{gap_of, text_in, without_texts, with_free}
use Rattle.reuse_words.specs.Removal.{edit_answer}
use Rattle.reuse_words.specs.Amended.{free_to_write, written_if_some, block_without, neighbour_without_texts_of}
use Rattle.reuse_words.proofs.RemovalLemmas.{some_expected}

-- free contents that are to be written, none where they are the same
nothing_written : (file : List ℕ) (write : List (List ℕ) → Result Edit HeaderRefusal) (free : Option (List (List ℕ)))
    → free ≡ None → edit_answer file (written_if_some write free) ≡ Ok None
nothing_written file write free e = ap (λ (f : Option (List (List ℕ))). edit_answer file (written_if_some write f)) e

something_written : (file : List ℕ) (write : List (List ℕ) → Result Edit HeaderRefusal) (free : Option (List (List ℕ)))
    (new : List (List ℕ)) → free ≡ Some new → (given : Result (Option Splice) HeaderRefusal)
    → IsExpected (answer_of file (write new)) given → IsExpected (edit_answer file (written_if_some write free)) given
something_written file write free new e given answered =
    subst (λ (f : Option (List (List ℕ))). IsExpected (edit_answer file (written_if_some write f)) given) (sym e)
    (some_expected file (write new) given answered)

-- ---- a block

-- the free contents that are to be written, by those of the steps on the way
free_left : (style : Style) (texts : List (List (List ℕ))) (span : HeaderSpan) (info : Info) (gap punct : List ℕ)
    → info ≡ info_of (punctuation_of style) span.contents → gap ≡ gap_of (marks_of style span.form)
    → punct ≡ punctuation_of style
    → free_to_write (info_of (punctuation_of style) span.contents).free (without_texts (punctuation_of style)
    (map (text_in (gap_of (marks_of style span.form))) texts) (info_of (punctuation_of style) span.contents).free)
    ≡ free_to_write info.free (without_texts punct (map (text_in gap) texts) info.free)
free_left style texts span info gap punct says behind signs =
    ap (λ (i : Info). free_to_write i.free (without_texts (punctuation_of style)
    (map (text_in (gap_of (marks_of style span.form))) texts) i.free)) (sym says)
    ∙ ap (λ (g : List ℕ). free_to_write info.free
    (without_texts (punctuation_of style) (map (text_in g) texts) info.free)) (sym behind)
    ∙ ap (λ (p : List ℕ). free_to_write info.free (without_texts p (map (text_in gap) texts) info.free)) (sym signs)

pub block_same : (style : Style) (texts : List (List (List ℕ))) (file : List ℕ) (span : HeaderSpan) (info : Info)
    (gap punct : List ℕ)
    → info ≡ info_of (punctuation_of style) span.contents → gap ≡ gap_of (marks_of style span.form)
    → punct ≡ punctuation_of style
    → free_to_write info.free (without_texts punct (map (text_in gap) texts) info.free) ≡ None
    → edit_answer file (block_without style texts file span) ≡ Ok None
unfolding block_without
block_same style texts file span info gap punct says behind signs none =
    nothing_written file
    (λ free. written_by style file (Some span) (with_free (punctuation_of style)
    (info_of (punctuation_of style) span.contents) free) (marks_of style span.form)) _
    (free_left style texts span info gap punct says behind signs ∙ none)

pub block_other : (style : Style) (texts : List (List (List ℕ))) (file : List ℕ) (span : HeaderSpan) (info : Info)
    (gap punct : List ℕ) (new : List (List ℕ))
    → info ≡ info_of (punctuation_of style) span.contents → gap ≡ gap_of (marks_of style span.form)
    → punct ≡ punctuation_of style
    → free_to_write info.free (without_texts punct (map (text_in gap) texts) info.free) ≡ Some new
    → (given : Result (Option Splice) HeaderRefusal)
    → IsExpected (answer_of file (written_by style file (Some span) (with_free (punctuation_of style) info new)
    (marks_of style span.form))) given
    → IsExpected (edit_answer file (block_without style texts file span)) given
unfolding block_without
block_other style texts file span info gap punct new says behind signs some given answered =
    something_written file
    (λ free. written_by style file (Some span) (with_free (punctuation_of style)
    (info_of (punctuation_of style) span.contents) free) (marks_of style span.form)) _ new
    (free_left style texts span info gap punct says behind signs ∙ some) given
    (subst (λ (i : Info). IsExpected (answer_of file (written_by style file (Some span)
    (with_free (punctuation_of style) i new) (marks_of style span.form))) given) says answered)

-- ---- a neighbour

pub neighbour_same : (texts : List (List (List ℕ))) (file : List ℕ) (info : Info) → is_text file ≡ true
    → info ≡ info_of [] (replaced_contents true file)
    → free_to_write info.free (without_texts [] (map (text_in []) texts) info.free) ≡ None
    → edit_answer file (neighbour_without_texts_of texts file) ≡ Ok None
unfolding neighbour_without_texts_of
neighbour_same texts file info text says none =
    let old = info_of [] (replaced_contents true file) in
    let written = written_if_some (λ free. neighbour_written true file (with_free [] old free))
    (free_to_write old.free (without_texts [] (map (text_in []) texts) old.free)) in
    ap (λ (t : Bool). edit_answer file (cond t written (Err NotText))) text
    ∙ nothing_written file (λ free. neighbour_written true file (with_free [] old free)) _
    (ap (λ (i : Info). free_to_write i.free (without_texts [] (map (text_in []) texts) i.free)) (sym says) ∙ none)

pub neighbour_other : (texts : List (List (List ℕ))) (file : List ℕ) (info : Info) (new : List (List ℕ))
    → is_text file ≡ true → info ≡ info_of [] (replaced_contents true file)
    → free_to_write info.free (without_texts [] (map (text_in []) texts) info.free) ≡ Some new
    → (given : Result (Option Splice) HeaderRefusal)
    → IsExpected (answer_of file (neighbour_written true file (with_free [] info new))) given
    → IsExpected (edit_answer file (neighbour_without_texts_of texts file)) given
unfolding neighbour_without_texts_of
neighbour_other texts file info new text says some given answered =
    let old = info_of [] (replaced_contents true file) in
    let written = written_if_some (λ free. neighbour_written true file (with_free [] old free))
    (free_to_write old.free (without_texts [] (map (text_in []) texts) old.free)) in
    subst (λ (t : Bool). IsExpected (edit_answer file (cond t written (Err NotText))) given) (sym text)
    (something_written file (λ free. neighbour_written true file (with_free [] old free)) _ new
    (ap (λ (i : Info). free_to_write i.free (without_texts [] (map (text_in []) texts) i.free)) (sym says) ∙ some) given
    (subst (λ (i : Info). IsExpected (answer_of file (neighbour_written true file (with_free [] i new))) given)
    says answered))

pub not_text : (texts : List (List (List ℕ))) (file : List ℕ) → is_text file ≡ false
    → edit_answer file (neighbour_without_texts_of texts file) ≡ Err NotText
unfolding neighbour_without_texts_of
not_text texts file e =
    let old = info_of [] (replaced_contents true file) in
    let written = written_if_some (λ free. neighbour_written true file (with_free [] old free))
    (free_to_write old.free (without_texts [] (map (text_in []) texts) old.free)) in
    ap (λ (t : Bool). edit_answer file (cond t written (Err NotText))) e
