use Rattle.std.proofs.Common.{◌≡◌, List, ℕ, sym, ◌∙◌, ap, subst, rules, length, ◌<◌, Some, Err}
use Rattle.std.specs.List.{HoldsAt}
use Rattle.std.specs.List.Sorted.{IsBinarySearchResult}
use Rattle.std.specs.declared.cmp.Ordering.TheVariants.{Equal}
use Rattle.std.specs.Ordering.{nat_cmp}
use Rattle.std.specs.Cmp.Lexicographic.{slice_cmp}
use Rattle.std.specs.Str.{str_to_ascii_lowercase}
use Rattle.std.proofs.lemmas.Fn.{always_returns_same}
use Rattle.reuse_style.specs.declared.style.Kind.{Kind}
use Rattle.reuse_style.specs.Kinds.{OwnEntries}
use Rattle.reuse_style.specs.Names.{lookup}
use Rattle.reuse_style.proofs.KeyedLemmas.{own_found, own_missing}
use Rattle.reuse_style.proofs.style_table.StyleTable.own_kind.Goals as goal

pub returns-in-Ok : goal.returns-in-Ok
returns-in-Ok c =
    let ord = λ (e : List ℕ × Kind). slice_cmp nat_cmp e.0 (str_to_ascii_lowercase c.args.name.now) in
    let low = c.in-Ok.ensures.bound in
    let e = c.index.result.now in
    let at = subst (λ (xs : List (List ℕ × Kind)). HoldsAt (λ y. ord y ≡ Equal) xs c.in-Ok.place) c.deref.ensures.value
    (c.in-Ok.ensures.position ord (always_returns_same _ (λ a r. r ≡ ord a.0.now) _ (λ a r f' k. search rules))) in
    let found = own_found c.self.inside.entries.items c.args.name.now c.in-Ok.place e c.self.invariant
    (subst (λ (xs : List (List ℕ × Kind)). c.in-Ok.place < length xs) c.deref.ensures.value low) (at e) in
    ap (λ (kind : Kind). Some kind) c.lent.ensures ∙ ap (λ (f : List ℕ × Kind). Some f.1) c.index.ensures ∙ sym found
    ∙ ap (λ (own : OwnEntries). lookup own.entries c.args.name.now) c.self.view_is

pub returns-in-Err : goal.returns-in-Err
returns-in-Err c =
    let ord = λ (e : List ℕ × Kind). slice_cmp nat_cmp e.0 (str_to_ascii_lowercase c.args.name.now) in
    let found =
    subst (λ (xs : List (List ℕ × Kind)). IsBinarySearchResult ord xs (Err c.in-Err.field-0)) c.deref.ensures.value
    (c.in-Err.ensures.position ord (always_returns_same _ (λ a r. r ≡ ord a.0.now) _ (λ a r f' k. search rules))) in
    sym (ap (λ (own : OwnEntries). lookup own.entries c.args.name.now) (sym c.self.view_is)
    ∙ own_missing c.self.inside.entries.items c.args.name.now c.in-Err.field-0 c.self.invariant found)
