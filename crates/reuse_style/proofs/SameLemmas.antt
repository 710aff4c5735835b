-- Styles of one name with the same marks are one, and the styles of the table by their names.
use Rattle.std.proofs.Common.{◌≡◌, ℕ, Bool, true, false, cond, List, [], ◌∷◌, map, Option, Some, refl, sym, subst}
use Rattle.std.specs.Prelude.{find}
use Rattle.std.specs.Option.{option_map}
use Rattle.std.specs.Str.{bytes_eq}
use Rattle.reuse_style.specs.declared.table.TableStyle.{TableStyle}
use Rattle.reuse_style.specs.declared.table.TableStyle.TheVariants.{Python, C, Css, Html, Haskell, Tex, Lisp, Semicolon}
use Rattle.reuse_style.specs.declared.table.TableStyle.TheVariants.{Ml, Vim}
use Rattle.reuse_style.specs.Marks.{GoodStyle, is_good, punctuation_in}
use Rattle.reuse_style.specs.Styles.{style_name, style_named, table_name, table_marks, table_style, table_styles}
use Rattle.reuse_style.specs.Styles.{table_punctuation}
use mathlib.Core.Bool.{Bool-set}
use mathlib.Core.HLevel.{is_prop→PathP}

pub same_style : (a b : GoodStyle) → a.name ≡ b.name → a.marks ≡ b.marks → a ≡ b
same_style a b n m =
    let good = is_prop→PathP {0} (λ i. is_good (m i) ≡ true) (λ i. Bool-set (is_good (m i)) true) a.good b.good in
    λ i. record { name = n i; marks = m i; good = good i }

-- the punctuation of the styles of the table is that of their marks
pub table_punctuated : (style : TableStyle) → table_punctuation style ≡ punctuation_in (table_marks style)
unfolding punctuation_in
table_punctuated Python = refl
table_punctuated C = refl
table_punctuated Css = refl
table_punctuated Html = refl
table_punctuated Haskell = refl
table_punctuated Tex = refl
table_punctuated Lisp = refl
table_punctuated Semicolon = refl
table_punctuated Ml = refl
table_punctuated Vim = refl

-- the first style of some that has a name
named_among : (styles : List TableStyle) (name : List ℕ)
    → option_map table_style (find (λ style. bytes_eq (table_name style) name) styles) ≡ find
    (λ style. bytes_eq (style_name style) name) (map table_style styles)
named_among [] name = refl
named_among (style ∷ styles) name = by (bytes_eq (table_name style) name) (named_among styles name)
  where
    by : (b : Bool) → option_map table_style (find (λ s. bytes_eq (table_name s) name) styles) ≡ find
        (λ s. bytes_eq (style_name s) name) (map table_style styles)
        → option_map table_style (cond b (Some style) (find (λ s. bytes_eq (table_name s) name) styles))
        ≡ cond b (Some (table_style style)) (find (λ s. bytes_eq (style_name s) name) (map table_style styles))
    by true e = refl
    by false e = e

pub named : (name : List ℕ) (found : Option TableStyle) → found ≡ find
    (λ style. bytes_eq (table_name style) name) table_styles → option_map table_style found ≡ style_named name
named name found is = subst (λ (o : Option TableStyle). option_map table_style o ≡ style_named name) (sym is)
    (named_among table_styles name)
