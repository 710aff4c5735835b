use Rattle.std.proofs.Common.{◌≡◌, ◌∙◌, sym, ap, subst, Some}
use Rattle.std.specs.Prelude.{IfOk, option_map}
use Rattle.std.specs.Option.{option_map_or}
use Rattle.reuse_amend.specs.NoticeParts.{parts_of}
use Rattle.reuse_amend.specs.PartViews.{parts_view}
use Rattle.reuse_amend.specs.Amending.{text_amended, holder_amended, notice_amended}
use Rattle.reuse_amend.proofs.amending.amend_notice.Goals as goal

pub returns-in-Some : goal.returns-in-Some
returns-in-Some c =
    let a = c.args.amendments.now in
    let text = c.args.text.now in
    let p = parts_view c.in-Some.parts in
    let read : Some p ≡ parts_of text = ap (option_map parts_view) (sym c.in-Some.is) ∙ c.read_parts.ensures in
    let becomes : holder_amended a p c.amend_text-holder.result.now ≡ notice_amended a text =
    ap (holder_amended a p) (c.amend_text-holder.ensures ∙ ap (λ rs. text_amended rs p.holder) c.as_slice.ensures)
    ∙ ap (λ o. option_map_or (λ q. holder_amended a q (text_amended a.replaced_holders q.holder)) o (Some text)) read in
    subst (λ new. IfOk c.amend_parts.result (λ amended. amended ≡ new)) becomes c.amend_parts.ensures
