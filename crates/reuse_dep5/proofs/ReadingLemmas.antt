-- What a reading that succeeded, or was refused, has found.
use Rattle.std.proofs.Common.{◌≡◌, ◌⊎◌, inl, inr, ℕ, List, [], ◌∷◌, ◌++◌, Bool, true, false, cond, Option, Some, None}
use Rattle.std.proofs.Common.{Result, Ok, Err, refl, ap, ◌∙◌}
use Rattle.reuse_dep5.specs.declared.refusal.Dep5Refusal.{Dep5Refusal}
use Rattle.reuse_dep5.specs.declared.refusal.Dep5Refusal.TheVariants.{BadDep5}
use Rattle.reuse_dep5.specs.declared.refusal.Dep5Cause.TheVariants.{NoKind, Missing, BadEscape}
use Rattle.reuse_dep5.specs.declared.pattern.PatternPiece.{PatternPiece}
use Rattle.reuse_dep5.specs.PatternValue.{PatternValue}
use Rattle.reuse_dep5.specs.SourceText.{NumberedLine, is_nil}
use Rattle.reuse_dep5.specs.Fields.{text_of, nonempty_lines, first_line}
use Rattle.reuse_dep5.specs.PatternText.{words_of, onto_patterns, patterns_of}
use Rattle.reuse_dep5.specs.Dep5.{FilesValue, line_fault, first_number, files_value, copyright_value, license_value}
use Rattle.reuse_dep5.specs.Dep5.{comment_value, ◌>>=◌, unless, is_incomplete, files_of, later_of, laters_of}

-- one result after another
pub bind_ok : {A B : Type 0} (r : Result A Dep5Refusal) (f : A → Result B Dep5Refusal) (y : B) → r >>= f ≡ Ok y
    → (x : A) × (r ≡ Ok x) × (f x ≡ Ok y)
bind_ok (Ok x) f y e = (x, refl, e)
bind_ok (Err d) f y e = cc

pub bind_err : {A B : Type 0} (r : Result A Dep5Refusal) (f : A → Result B Dep5Refusal) (d : Dep5Refusal)
    → r >>= f ≡ Err d → (r ≡ Err d) ⊎ ((x : A) × (r ≡ Ok x) × (f x ≡ Err d))
bind_err (Ok x) f d e = inr (x, refl, e)
bind_err (Err c) f d e = inl (let same : c ≡ d = cc in ap Err same)

pub unless_ok : {A : Type 0} (fault : Option Dep5Refusal) (r : Result A Dep5Refusal) (x : A) → unless fault r ≡ Ok x
    → (fault ≡ None) × (r ≡ Ok x)
unless_ok None r x e = (refl, e)
unless_ok (Some d) r x e = cc

pub unless_err : {A : Type 0} (fault : Option Dep5Refusal) (r : Result A Dep5Refusal) (d : Dep5Refusal)
    → unless fault r ≡ Err d → (fault ≡ Some d) ⊎ ((fault ≡ None) × (r ≡ Err d))
unless_err None r d e = inr (refl, e)
unless_err (Some c) r d e = inl (let same : c ≡ d = cc in ap Some same)

-- a choice between two results
pub cond_ok : {A : Type 0} (b : Bool) (refusal : Dep5Refusal) (r : Result A Dep5Refusal) (x : A)
    → cond b (Err refusal) r ≡ Ok x → (b ≡ false) × (r ≡ Ok x)
cond_ok true refusal r x e = cc
cond_ok false refusal r x e = (refl, e)

pub cond_err : {A : Type 0} (b : Bool) (refusal : Dep5Refusal) (r : Result A Dep5Refusal) (d : Dep5Refusal)
    → cond b (Err refusal) r ≡ Err d → ((b ≡ true) × (refusal ≡ d)) ⊎ ((b ≡ false) × (r ≡ Err d))
cond_err true refusal r d e = inl (refl, cc)
cond_err false refusal r d e = inr (refl, e)

-- the patterns of words
pub patterns_ok : (number : ℕ) (pieces : Option (List PatternPiece)) (r : Result (List PatternValue) Dep5Refusal)
    (patterns : List PatternValue) → onto_patterns number pieces r ≡ Ok patterns
    → (first : List PatternPiece) × (rest : List PatternValue) × (pieces ≡ Some first) × (r ≡ Ok rest)
    × (record { pieces = first; line = number } ∷ rest ≡ patterns)
patterns_ok number None r patterns e = cc
patterns_ok number (Some first) (Ok rest) patterns e = (first, rest, refl, refl, cc)
patterns_ok number (Some first) (Err d) patterns e = cc

pub patterns_err : (number : ℕ) (pieces : Option (List PatternPiece)) (r : Result (List PatternValue) Dep5Refusal)
    (d : Dep5Refusal) → onto_patterns number pieces r ≡ Err d → ((pieces ≡ None) × (BadDep5 number BadEscape ≡ d))
    ⊎ ((first : List PatternPiece) × (pieces ≡ Some first) × (r ≡ Err d))
patterns_err number None r d e = inl (refl, cc)
patterns_err number (Some first) (Ok rest) d e = cc
patterns_err number (Some first) (Err c) d e = inr (first, refl, let same : c ≡ d = cc in ap Err same)

-- a Files paragraph
abbrev files_made : List NumberedLine → List PatternValue → Result FilesValue Dep5Refusal
files_made p patterns = Ok (record {
  patterns = patterns;
  notices = nonempty_lines (copyright_value p);
  license = first_line (license_value p);
  comment = text_of (comment_value p);
})

made_patterns : (p : List NumberedLine) (patterns : List PatternValue) (files : FilesValue)
    → files_made p patterns ≡ Ok files → patterns ≡ files.patterns
made_patterns p patterns files e = ap (patterns_in patterns) e
  where
    patterns_in : List PatternValue → Result FilesValue Dep5Refusal → List PatternValue
    patterns_in other (Ok f) = f.patterns
    patterns_in other (Err d) = other

pub files_ok : (p : List NumberedLine) (files : FilesValue) → files_of p ≡ Ok files
    → (is_incomplete p ≡ false) × (patterns_of (words_of (files_value p)) ≡ Ok files.patterns)
unfolding files_of
files_ok p files e =
    let whole = cond_ok (is_incomplete p) (BadDep5 (first_number p) Missing)
    (patterns_of (words_of (files_value p)) >>= files_made p) files e in
    let read = bind_ok (patterns_of (words_of (files_value p))) (files_made p) files whole.1 in
    (whole.0, read.1 ∙ ap Ok (made_patterns p read.0 files read.2))

pub files_err : (p : List NumberedLine) (d : Dep5Refusal) → files_of p ≡ Err d
    → ((is_incomplete p ≡ true) × (BadDep5 (first_number p) Missing ≡ d))
    ⊎ ((is_incomplete p ≡ false) × (patterns_of (words_of (files_value p)) ≡ Err d))
unfolding files_of
files_err p d e =
    elim (cond_err (is_incomplete p) (BadDep5 (first_number p) Missing)
    (patterns_of (words_of (files_value p)) >>= files_made p) d e) [
      | inl m ↦ inl m
      | inr whole ↦
          elim (bind_err (patterns_of (words_of (files_value p))) (files_made p) d whole.1) [
            | inl r ↦ inr (whole.0, r)
            | inr x ↦ let f = x.2 in cc
          ]
    ]

-- a paragraph after the header
kind_ok : (b c : Bool) (refusal : Dep5Refusal) (r : Result FilesValue Dep5Refusal) (fs : List FilesValue)
    → cond b (cond c (Err refusal) (Ok [])) (r >>= (λ f. Ok (f ∷ []))) ≡ Ok fs
    → ((b ≡ true) × (c ≡ false) × ([] ≡ fs)) ⊎ ((b ≡ false) × ((f : FilesValue) × (r ≡ Ok f) × (f ∷ [] ≡ fs)))
kind_ok true true refusal r fs e = cc
kind_ok true false refusal r fs e = inl (refl, refl, cc)
kind_ok false c refusal (Ok f) fs e = inr (refl, (f, refl, cc))
kind_ok false c refusal (Err d) fs e = cc

kind_err : (b c : Bool) (refusal : Dep5Refusal) (r : Result FilesValue Dep5Refusal) (d : Dep5Refusal)
    → cond b (cond c (Err refusal) (Ok [])) (r >>= (λ f. Ok (f ∷ []))) ≡ Err d
    → ((b ≡ true) × (c ≡ true) × (refusal ≡ d)) ⊎ ((b ≡ false) × (r ≡ Err d))
kind_err true true refusal r d e = inl (refl, refl, cc)
kind_err true false refusal r d e = cc
kind_err false c refusal (Ok f) d e = cc
kind_err false c refusal (Err x) d e = inr (refl, let same : x ≡ d = cc in ap Err same)

pub later_ok : (p : List NumberedLine) (fs : List FilesValue) → later_of p ≡ Ok fs
    → (line_fault [] p ≡ None) × (((is_nil (files_value p) ≡ true) × (is_nil (license_value p) ≡ false) × ([] ≡ fs))
    ⊎ ((is_nil (files_value p) ≡ false) × ((f : FilesValue) × (files_of p ≡ Ok f) × (f ∷ [] ≡ fs))))
unfolding later_of
later_ok p fs e =
    let sound = unless_ok (line_fault [] p) _ fs e in (
      sound.0,
      kind_ok (is_nil (files_value p)) (is_nil (license_value p)) (BadDep5 (first_number p) NoKind)
          (files_of p) fs sound.1,
    )

pub later_err : (p : List NumberedLine) (d : Dep5Refusal) → later_of p ≡ Err d → (line_fault [] p ≡ Some d)
    ⊎ ((line_fault [] p ≡ None) × (((is_nil (files_value p) ≡ true) × (is_nil (license_value p) ≡ true)
    × (BadDep5 (first_number p) NoKind ≡ d)) ⊎ ((is_nil (files_value p) ≡ false) × (files_of p ≡ Err d))))
unfolding later_of
later_err p d e =
    elim (unless_err (line_fault [] p) _ d e) [
      | inl f ↦ inl f
      | inr sound ↦
          inr (
            sound.0,
            kind_err (is_nil (files_value p)) (is_nil (license_value p)) (BadDep5 (first_number p) NoKind)
                (files_of p) d sound.1,
          )
    ]

-- the paragraphs after the header
pub laters_ok : (p : List NumberedLine) (ps : List (List NumberedLine)) (fs : List FilesValue)
    → laters_of (p ∷ ps) ≡ Ok fs
    → (first rest : List FilesValue) × (later_of p ≡ Ok first) × (laters_of ps ≡ Ok rest) × (first ++ rest ≡ fs)
laters_ok p ps fs e =
    let a = bind_ok (later_of p) _ fs e in
    let b = bind_ok (laters_of ps) _ fs a.2 in
    (a.0, b.0, a.1, b.1, let f = b.2 in cc)

pub laters_err : (p : List NumberedLine) (ps : List (List NumberedLine)) (d : Dep5Refusal) → laters_of (p ∷ ps) ≡ Err d
    → (later_of p ≡ Err d) ⊎ ((first : List FilesValue) × (later_of p ≡ Ok first) × (laters_of ps ≡ Err d))
laters_err p ps d e =
    elim (bind_err (later_of p) _ d e) [
      | inl r ↦ inl r
      | inr a ↦
          elim (bind_err (laters_of ps) _ d a.2) [ inl r ↦ inr (a.0, a.1, r) | inr b ↦ let f = b.2 in cc ]
    ]
