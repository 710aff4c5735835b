-- Lines of a tree's own files.
use Rattle.std.proofs.Common.{◌≡◌, ◌+◌, ℕ, zero, suc, List, [], ◌∷◌, length, get_or, map, refl, sym, arith}
use Rattle.std.proofs.Common.{◌∙◌, ap, ap₂, Bool, cond, Result, Ok, Err}
use Rattle.std.specs.Borrow.{Bor}
use Rattle.std.specs.Prelude.{◌==◌, Option}
use Rattle.std.specs.List.{list_all}
use Rattle.std.proofs.lemmas.List.Folds.{list_all-map}
use Rattle.reuse_style.specs.declared.style.Kind.{Kind}
use Rattle.reuse_ready.specs.declared.additions.NameAddition.{NameAddition}
use Rattle.reuse_style.specs.declared.style_refusal.StylesRefusal.{StylesRefusal}
use Rattle.reuse_ready.specs.declared.own_lines.AddedLines.{AddedLines}
use Rattle.reuse_ready.specs.declared.own_lines.AdditionRefusal.TheVariants as refused
use Rattle.reuse_style.specs.CommentFile.{comments_of}
use Rattle.reuse_style.specs.Marks.{GoodStyle}
use Rattle.reuse_ready.specs.declared.additions.TableAddition.{TableAddition}
use Rattle.reuse_ready.specs.declared.additions.RuleAddition.{RuleAddition}
use Rattle.reuse_ready.specs.declared.additions.StyleAdditions.{StyleAdditions}
use Rattle.reuse_ready.specs.Additions.{is_ended, if_named, if_read, are_named, has_kind, lines_added, missing_names}
use Rattle.reuse_ready.specs.Additions.{missing_tables, missing_rules, style_lines, comment_lines, with_lines}

-- the last byte says whether bytes are ended
pub ended : (bytes : List ℕ) (i d : ℕ) → i + 1 ≡ length bytes → is_ended bytes ≡ (get_or bytes i d == 10)
unfolding is_ended
ended [] i d e = absurd (omega arith)
ended (b ∷ []) zero d e = refl
ended (b ∷ []) (suc i) d e = absurd (omega arith)
ended (b ∷ c ∷ bytes) zero d e = absurd (omega arith)
ended (b ∷ c ∷ bytes) (suc i) d e = ended (c ∷ bytes) i d (omega arith)

-- lent names have their styles
pub all_named : (own : List ℕ → Option Kind) (names : List (Bor NameAddition))
    → list_all (λ name. has_kind (own name.now.name) name.now.style) names ≡ are_named own (map (λ name. name.now) names)
all_named own names = sym (list_all-map (λ (n : NameAddition). has_kind (own n.name) n.style)
    (λ (name : Bor NameAddition). name.now) names)

-- names that are read back have their styles
pub named_back : (added : AddedLines) (names : List (Bor NameAddition))
    (given : Result (List ℕ → Option Kind) StylesRefusal) (own : List ℕ → Option Kind) (b : Bool) → given ≡ Ok own
    → b ≡ list_all (λ name. has_kind (own name.now.name) name.now.style) names
    → if_named added (map (λ name. name.now) names) given ≡ cond b (Ok added) (Err refused.Styles)
named_back added names given own b e is =
    ap (if_named added (map (λ (name : Bor NameAddition). name.now) names)) e
    ∙ ap (λ (t : Bool). cond t (Ok added) (Err refused.Styles)) (sym (is ∙ all_named own names))

-- what is added, by what was found of it one after the other
pub lines_are : (additions : StyleAdditions) (styles comments : Option (List ℕ)) (own : List ℕ → Option Kind)
    (own_comments : List GoodStyle) (names : List NameAddition) (tables : List TableAddition)
    (rules : List RuleAddition) (added : AddedLines)
    (styles_after comments_after : Option (List ℕ)) → names ≡ missing_names own additions.names
    → tables ≡ missing_tables own_comments additions.tables → rules ≡ missing_rules comments additions.rules
    → added.styles ≡ style_lines styles names
    → added.comments ≡ comment_lines comments tables rules → styles_after ≡ with_lines styles added.styles
    → comments_after ≡ with_lines comments added.comments
    → lines_added additions styles comments own own_comments ≡ if_read added names styles_after (comments_of comments_after)
unfolding lines_added
lines_are additions styles comments own own_comments names tables rules added styles_after comments_after n t r s c sa ca =
    let same : record {
      styles = style_lines styles (missing_names own additions.names);
      comments = comment_lines comments (missing_tables own_comments additions.tables)
          (missing_rules comments additions.rules);
    } ≡ added = ap₂ (λ (x y : List ℕ). record { styles = x; comments = y })
    (ap (style_lines styles) (sym n) ∙ sym s) (ap₂ (comment_lines comments) (sym t) (sym r) ∙ sym c) in
    ap (λ (a : AddedLines). if_read a (missing_names own additions.names) (with_lines styles a.styles)
    (comments_of (with_lines comments a.comments))) same
    ∙ ap (λ (k : List NameAddition). if_read added k (with_lines styles added.styles)
    (comments_of (with_lines comments added.comments))) (sym n)
    ∙ ap (λ (f : Option (List ℕ)). if_read added names f (comments_of (with_lines comments added.comments))) (sym sa)
    ∙ ap (λ (f : Option (List ℕ)). if_read added names styles_after (comments_of f)) (sym ca)
