use Rattle.std.proofs.Common.{ℕ, List, subst, sym, ap, ◌∙◌, Option, Ok}
use Rattle.std.proofs.lemmas.Result.{err_from_is_err_and}
use Rattle.std.specs.Option.{option_copied}
use Rattle.reuse_style.specs.declared.style.Kind.{Kind}
use Rattle.reuse_style.specs.Kinds.{OwnEntries}
use Rattle.reuse_style.specs.Names.{lookup}
use Rattle.reuse_style.specs.Documents.{read_document}
use Rattle.reuse_style.specs.Rules.{CommentRules}
use Rattle.reuse_style.specs.StyleFile.{styles_in, styles_of, IsRefused}
use Rattle.reuse_style.specs.Keyed.{AreKeys}
use Rattle.reuse_style.proofs.KeyedLemmas.{own_is}
use Rattle.reuse_style.proofs.StyleFileLemmas.{no_keys, styles_none, styles_some, refused_by}
use Rattle.reuse_style.proofs.style_table.StyleTable.read.Goals as goal

pub invariant_of-result : goal.invariant_of-result
invariant_of-result c = subst AreKeys (sym c.new-entries.ensures.items) no_keys

pub returns-in_default-clause-names : goal.returns-in_default-clause-names
returns-in_default-clause-names c =
    ap (λ o. styles_of c.args.comments.now.styles (option_copied o)) c.in_default.is
    ∙ styles_none c.args.comments.now.styles
    ∙ ap (λ (es : List (List ℕ × Kind)). Ok (lookup es)) (sym c.new-entries.ensures.items)

pub returns-in_err-names-clause-refused : goal.returns-in_err-names-clause-refused
returns-in_err-names-clause-refused c =
    let p = err_from_is_err_and c.from_residual.result c.from_residual.ensures.1 in
    rw (p.1, p.2) (refused_by _ _ _ (ap (λ o. styles_of c.args.comments.now.styles (option_copied o)) c.in-Some.is
    ∙ styles_some c.args.comments.now.styles c.in-Some.bytes.now)
    (subst (λ (own : CommentRules). IsRefused (styles_in own.styles (read_document c.in-Some.bytes.now))
    c.in_err-names.field-0.0) c.comments.view_is c.in_err-names.ensures.refused))

pub returns-clause-names : goal.returns-clause-names
returns-clause-names c =
    let (own, is, keyed) = c.in_ok-names.ensures.ok in
    ap (λ o. styles_of c.args.comments.now.styles (option_copied o)) c.in-Some.is
    ∙ styles_some c.args.comments.now.styles c.in-Some.bytes.now
    ∙ sym (ap (λ (own : CommentRules). styles_in own.styles (read_document c.in-Some.bytes.now)) c.comments.view_is) ∙ is
    ∙ ap (λ (kinds : List ℕ → Option Kind). Ok kinds) (sym (own_is c.in_ok-names.names own keyed))
    ∙ ap (λ (own : OwnEntries). Ok (lookup own.entries)) (sym c.in_ok-of_names.ensures)
