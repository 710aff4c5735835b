use Rattle.std.proofs.Common.{◌≡◌, ◌∙◌, sym, ap, subst, Some}
use Rattle.std.specs.Prelude.{IfOk, option_map}
use Rattle.reuse_amend.specs.Amending.{notice_amended}
use Rattle.reuse_tags.specs.Ignored.{read_part}
use Rattle.reuse_tags.specs.Reading.{tag_view, notice_tag}
use Rattle.reuse_tags.specs.Around.{around_view, with_value}
use Rattle.reuse_tags.specs.Everywhere.{notice_amended_in}
use Rattle.reuse_tags.proofs.EverywhereLemmas.{amended_by}
use Rattle.reuse_tags.proofs.everywhere.amend_notice_in.Goals as goal

pub returns : goal.returns
returns c =
    let a = c.args.amendments.now in
    let line = c.args.line.now in
    let p = around_view c.around_of-around.result in
    let found : Some (tag_view c.in-Some.place) ≡ notice_tag (read_part line) =
    ap (option_map tag_view) (sym c.in-Some.is) ∙ c.notice_tag.ensures ∙ ap notice_tag c.read_part-part.ensures in
    let becomes : with_value p line c.in_ok-value.value ≡ notice_amended_in a line =
    amended_by (notice_amended a) line c.read_part-part.result.now (tag_view c.in-Some.place)
    (notice_tag (read_part line)) p c.in_ok-value.value c.read_part-part.ensures found c.around_of-around.ensures
    c.in_ok-value.ensures in
    subst (λ new. IfOk c.with_value.result (λ made. made ≡ new)) becomes c.with_value.ensures
