-- The names of the fields of a paragraph, one line after another.
use Rattle.std.proofs.Common.{◌≡◌, ℕ, ◌||◌, ◌&&◌, Bool, true, false, cond, List, [], ◌∷◌, ◌++◌, refl, sym, ap, ◌∙◌}
use Rattle.std.proofs.Common.{arith}
use Rattle.std.specs.BTreeSet.{BTreeSet, Updates}
use Rattle.std.specs.Cmp.Lexicographic.{slice_cmp, texts_ties}
use Rattle.std.specs.List.{list_any}
use Rattle.std.specs.Ordering.{nat_cmp, is_eq}
use Rattle.std.specs.Str.{str_to_ascii_lowercase, bytes_eq}
use Rattle.std.proofs.lemmas.List.Folds.{list_any-append}
use Rattle.reuse_dep5.specs.SourceText.{NumberedLine, is_blank, is_continuation}
use Rattle.reuse_dep5.specs.Fields.{is_name_byte, is_field, field_name, has_name}
use Rattle.reuse_dep5.specs.Steps.Names.{HoldsNames}

-- a blank may not stand in a name
blank_no_name : (b : ℕ) → is_blank b ≡ true → is_name_byte b ≡ false
blank_no_name b e = grind arith

-- a continuation is no field line
pub continuation_no_field : (content : List ℕ) → is_continuation content ≡ true → is_field content ≡ false
continuation_no_field [] e = refl
continuation_no_field (b ∷ content) e = rw (blank_no_name b e) refl

one_more : (t b : Bool) → cond t true b ≡ (b || (t || false))
one_more true true = refl
one_more true false = refl
one_more false true = refl
one_more false false = refl

-- the name of a field line more
pub names_more : (old new : BTreeSet (List ℕ)) (before : List NumberedLine) (line : NumberedLine)
    → is_field line.content ≡ true
    → Updates (slice_cmp nat_cmp) old new (str_to_ascii_lowercase (field_name line.content)) true
    → HoldsNames old before → HoldsNames new (before ++ line ∷ [])
names_more old new before line field updates holds = λ name.
    let key : List ℕ = str_to_ascii_lowercase (field_name line.content) in
    let q : List ℕ = str_to_ascii_lowercase name in
    let t : Bool = is_eq (slice_cmp nat_cmp key q) in
    let p : NumberedLine → Bool = λ l. has_name name l.content in
    let here : p line ≡ t = ap (λ f. f && bytes_eq key q) field ∙ texts_ties key q in
    updates.0 q ∙ ap (cond t true) (holds name) ∙ one_more t (list_any p before)
    ∙ ap (λ x. list_any p before || (x || false)) (sym here) ∙ sym (list_any-append p before (line ∷ []))
