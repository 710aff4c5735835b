-- A text of bounded length, written in parts.
use Rattle.std.proofs.Common.{◌≡◌, ℕ, ◌-◌, ◌≤◌, Bool, true, false, List, [], ◌∷◌, ◌++◌, length, length-append, map}
use Rattle.std.proofs.Common.{take, drop, subst, slice_index_or, Option, None, Some, refl, sym, ap, ◌∙◌, append_assoc}
use Rattle.std.proofs.Common.{inl, inr, arith}
use Rattle.std.specs.Prelude.{nat_le, if◌then◌else◌}
use Rattle.std.proofs.lemmas.List.{append-nil, take_rest}
use Rattle.std.proofs.lemmas.Bool.Decides.{nat_tests}
use Rattle.reuse_header.specs.declared.writer.LineWriter.{LineWriter}
use Rattle.reuse_header.specs.Writing.{ended_by}
use Rattle.reuse_header.specs.Bounded.{with_more, written, Writes}
use Rattle.std.proofs.lemmas.Bool.{cases_Bool as truth}
use Rattle.reuse_header.proofs.WritingLemmas.{ended_by-append}

-- no bytes more
pub with_more-nil : (room : ℕ) (text : Option (List ℕ)) → with_more room text [] ≡ text
with_more-nil room None = refl
with_more-nil room (Some bytes) = ap Some (append-nil bytes)

still_over : (a b room : ℕ) → a ≤ b → nat_le a room ≡ false → nat_le b room ≡ false
still_over a b room low over = grind (arith, nat_tests)

longer : (a b c : List ℕ) → length (a ++ b) ≤ length (a ++ (b ++ c))
longer a b c = omega (arith, length-append a b, length-append a (b ++ c), length-append b c)

-- more bytes, by whether there is room for them
by_room : (room : ℕ) (bytes : List ℕ) (x : ℕ) (xs : List ℕ) (b : Bool) → nat_le (length (bytes ++ x ∷ xs)) room ≡ b
    → with_more room (Some bytes) (x ∷ xs) ≡ (if b then Some (bytes ++ x ∷ xs) else None)
by_room room bytes x xs b e = ap (λ (b : Bool). if b then Some (bytes ++ x ∷ xs) else None) e

-- more bytes in two parts
with_more-parts : (room : ℕ) (bytes : List ℕ) (x : ℕ) (xs : List ℕ) (y : ℕ) (ys : List ℕ)
    → with_more room (with_more room (Some bytes) (x ∷ xs)) (y ∷ ys) ≡ with_more room (Some bytes) ((x ∷ xs) ++ y ∷ ys)
with_more-parts room bytes x xs y ys =
    let front : List ℕ = x ∷ xs in
    let back : List ℕ = y ∷ ys in
    elim (truth (nat_le (length (bytes ++ front)) room)) [
      | inl e ↦ ap (λ (text : Option (List ℕ)). with_more room text back) (by_room room bytes x xs true e)
          ∙ ap (λ (bs : List ℕ). if nat_le (length bs) room then Some bs else None) (append_assoc bytes front back)
      | inr e ↦ ap (λ (text : Option (List ℕ)). with_more room text back) (by_room room bytes x xs false e)
          ∙ sym (by_room room bytes x (xs ++ back) false
          (still_over (length (bytes ++ front)) (length (bytes ++ (front ++ back))) room (longer bytes front back) e))
    ]

pub with_more-append : (room : ℕ) (text : Option (List ℕ)) (xs ys : List ℕ)
    → with_more room (with_more room text xs) ys ≡ with_more room text (xs ++ ys)
with_more-append room None xs ys = refl
with_more-append room (Some bytes) [] ys = ap (λ bs. with_more room (Some bs) ys) (append-nil bytes)
with_more-append room (Some bytes) (x ∷ xs) [] = with_more-nil room (with_more room (Some bytes) (x ∷ xs))
    ∙ ap (with_more room (Some bytes)) (sym (append-nil (x ∷ xs)))
with_more-append room (Some bytes) (x ∷ xs) (y ∷ ys) = with_more-parts room bytes x xs y ys

-- no line
pub writes_none : (writer : LineWriter) → Writes writer writer []
writes_none writer = record { format = refl; text = sym (with_more-nil writer.format.room (written writer)) }

-- lines behind others
pub writes_more : {a b c : LineWriter} {xs ys : List (List ℕ)} → Writes a b xs → Writes b c ys → Writes a c (xs ++ ys)
writes_more {a = a} {b = b} {c = c} {xs = xs} {ys = ys} one two = record {
  format = two.format ∙ one.format;
  text = two.text
      ∙ ap (λ form. with_more form.room (written b) (ended_by form.kind ys)) one.format
      ∙ ap (λ text. with_more a.format.room text (ended_by a.format.kind ys)) one.text
      ∙ with_more-append a.format.room (written a) (ended_by a.format.kind xs) (ended_by a.format.kind ys)
      ∙ ap (with_more a.format.room (written a)) (sym (ended_by-append a.format.kind xs ys));
}

-- lines of which some are written: with those that are left, all are
pub record IsUnderWay (start now : LineWriter) (left all : List (List ℕ)) : Type 0 where
  pub format : now.format ≡ start.format
  pub text : with_more start.format.room (written now) (ended_by start.format.kind left) ≡ with_more start.format.room
      (written start) (ended_by start.format.kind all)

pub under_way-next : {start now next : LineWriter} {line : List ℕ} {left all : List (List ℕ)}
    → IsUnderWay start now (line ∷ left) all → Writes now next (line ∷ []) → IsUnderWay start next left all
under_way-next {start = start} {now = now} {next = next} {line = line} {left = left} before one =
    record {
      format = one.format ∙ before.format;
      text = ap (λ (text : Option (List ℕ)). with_more start.format.room text (ended_by start.format.kind left))
          (one.text ∙ ap (λ form. with_more form.room (written now) (ended_by form.kind (line ∷ []))) before.format)
          ∙ with_more-append start.format.room (written now) (ended_by start.format.kind (line ∷ []))
          (ended_by start.format.kind left)
          ∙ ap (with_more start.format.room (written now)) (sym (ended_by-append start.format.kind (line ∷ []) left))
          ∙ before.text;
    }

pub under_way-end : {start now : LineWriter} {all : List (List ℕ)} → IsUnderWay start now [] all → Writes start now all
under_way-end {start = start} {now = now} left = record {
  format = left.format;
  text = sym (with_more-nil start.format.room (written now)) ∙ left.text;
}

-- the next of some texts is written as a line
pub under_way-first : {start now next : LineWriter} {all : List (List ℕ)} (f : List ℕ → List ℕ) (texts : List (List ℕ))
    (text : List ℕ) → 1 ≤ length texts → text ≡ slice_index_or texts 0 text
    → IsUnderWay start now (map f texts) all → Writes now next (f text ∷ [])
    → IsUnderWay start next (map f (take (length texts - 1) (drop 1 texts))) all
under_way-first f [] text some is before one = absurd (omega arith)
under_way-first {start = start} {now = now} {next = next} {all = all} f (t ∷ texts) text some is before one =
    let P : List ℕ → Type 0 = λ t. Writes now next (f t ∷ []) in
    let Q : List (List ℕ) → Type 0 = λ ts. IsUnderWay start next (map f ts) all in
    subst Q (sym (take_rest (t ∷ texts) 1)) (under_way-next before (subst P is one))

-- the same lines
pub writes_same : {a b : LineWriter} {xs : List (List ℕ)} (ys : List (List ℕ)) → Writes a b xs → xs ≡ ys → Writes a b ys
writes_same {a = a} {b = b} ys one e = let P : List (List ℕ) → Type 0 = λ lines. Writes a b lines in subst P e one
