-- What an edit is, where annotating answers one.
use Rattle.std.proofs.Common.{◌≡◌, ℕ, ◌+◌, ◌-◌, ◌≤◌, Bool, true, false, List, ◌++◌, length, length-append, take, drop}
use Rattle.std.proofs.Common.{length-take, Option, None, Some, refl, ap, ◌∙◌, arith}
use Rattle.std.specs.Prelude.{Ok, Err, nat_lt, if◌then◌else◌}
use Rattle.std.proofs.Math.Seq.{drop-append-add}
use Rattle.std.proofs.lemmas.List.{drop-drop}
use Rattle.reuse_text.specs.declared.TheConstants.{LONGEST_FILE}
use Rattle.reuse_text.specs.Text.{spliced}
use Rattle.reuse_notice.specs.declared.infos.Info.{Info}
use Rattle.reuse_style.specs.declared.style.Style.{Style}
use Rattle.reuse_header.specs.declared.annotation.HeaderRefusal.{HeaderRefusal}
use Rattle.reuse_header.specs.declared.annotation.HeaderRefusal.TheVariants.{NoSuchForm, HoldsCloser, TooLong}
use Rattle.reuse_header.specs.declared.annotation.HeaderRefusal.TheVariants.{Unsettled}
use Rattle.reuse_header.specs.Marks.{LineMarks}
use Rattle.reuse_header.specs.Header.{HeaderSpan}
use Rattle.reuse_header.specs.Writing.{block_text, holds_closer}
use Rattle.reuse_header.specs.Annotation.{Edit, edited, text_start, text_end, settled, stands_at, edit_of, kind_of_file}
use Rattle.reuse_header.specs.Annotation.{written_by}
use Rattle.reuse_header.specs.Laws.{part}

pub error_is_ok : {X : Type 0} (e : HeaderRefusal) (x : X) → Err e ≡ Ok x → ⊥
error_is_ok e x h = cc

pub record IsSettled (made : List ℕ) (first edit : Edit) (is_found : Bool) : Type 0 where
  pub same : edit ≡ first
  pub few : nat_lt LONGEST_FILE (length made) ≡ false
  pub found : is_found ≡ true

pub settled_ok : (made : List ℕ) (first edit : Edit) (is_found : Bool) → settled made first is_found ≡ Ok edit
    → IsSettled made first edit is_found
settled_ok made first edit is_found e = by_size (nat_lt LONGEST_FILE (length made)) refl is_found e
  where
    by_size : (long : Bool) → nat_lt LONGEST_FILE (length made) ≡ long → (found : Bool)
        → (if long then Err TooLong else (if found then Ok first else Err Unsettled)) ≡ Ok edit
        → IsSettled made first edit found
    by_size true is found e = absurd (error_is_ok TooLong edit e)
    by_size false is true e = record { same = cc; few = is; found = refl }
    by_size false is false e = absurd (error_is_ok Unsettled edit e)

-- the edit that writes the block of some marks
pub record IsWritten (style : Style) (file : List ℕ) (old : Option HeaderSpan) (info : Info) (marks : LineMarks)
    (edit : Edit) : Type 0 where
  pub same : edit ≡ edit_of style file old (block_text marks (kind_of_file file) info)
  pub clear : holds_closer marks info ≡ false
  pub few : nat_lt LONGEST_FILE (length (edited file edit)) ≡ false
  pub stands : stands_at style (edited file edit) (text_start edit) (text_end edit) ≡ true

pub written_ok : (style : Style) (file : List ℕ) (old : Option HeaderSpan) (info : Info) (marks : Option LineMarks)
    (edit : Edit) → written_by style file old info marks ≡ Ok edit
    → (m : LineMarks) × (marks ≡ Some m) × IsWritten style file old info m edit
unfolding written_by
written_ok style file old info None edit e = absurd (error_is_ok NoSuchForm edit e)
written_ok style file old info (Some m) edit e = (m, refl, by_closer (holds_closer m info) refl e)
  where
    by_closer : (holds : Bool) → holds_closer m info ≡ holds
        → (let first = edit_of style file old (block_text m (kind_of_file file) info) in
        (if holds then Err HoldsCloser else settled (edited file first) first
        (stands_at style (edited file first) (text_start first) (text_end first)))) ≡ Ok edit
        → IsWritten style file old info m edit
    by_closer true is e = absurd (error_is_ok HoldsCloser edit e)
    by_closer false is e =
        let first = edit_of style file old (block_text m (kind_of_file file) info) in
        let s = settled_ok (edited file first) first edit
        (stands_at style (edited file first) (text_start first) (text_end first)) e in
        record {
          same = s.same;
          clear = is;
          few = ap (λ (x : Edit). nat_lt LONGEST_FILE (length (edited file x))) s.same ∙ s.few;
          stands = ap (λ (x : Edit). stands_at style (edited file x) (text_start x) (text_end x)) s.same ∙ s.found;
        }

-- ---- an insertion keeps what stands behind its place

pub kept_behind : (file new : List ℕ) (at start end : ℕ) → at ≤ start → at ≤ length file
    → part (spliced file at 0 new) (start + length new) (end + length new) ≡ part file start end
kept_behind file new at start end low fits =
    let front = take at file in
    let n : length front ≡ at = simp length-take (omega (arith, fits)) in
    let size : length (front ++ new) ≡ at + length new = length-append front new ∙ ap (λ (k : ℕ). k + length new) n in
    let place : start + length new ≡ length (front ++ new) + (start - at) = omega (arith, size, low) in
    let behind : drop (start + length new) (spliced file at 0 new) ≡ drop start file =
    ap (λ (k : ℕ). drop k (spliced file at 0 new)) place
    ∙ drop-append-add (front ++ new) (drop (at + 0) file) (start - at)
    ∙ drop-drop (start - at) (at + 0) file
    ∙ ap (λ (k : ℕ). drop k file) (omega (arith, low)) in
    let wide : end + length new - (start + length new) ≡ end - start = omega arith in
    ap (take (end + length new - (start + length new))) behind ∙ ap (λ (k : ℕ). take k (drop start file)) wide
