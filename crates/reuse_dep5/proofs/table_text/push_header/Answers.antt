use Rattle.std.proofs.Common.{◌∙◌, ap}
use Rattle.reuse_dep5.specs.Dep5.{HeaderValue}
use Rattle.reuse_dep5.proofs.WriteLemmas.{header_pushed}
use Rattle.reuse_dep5.proofs.table_text.push_header.Goals as goal

pub returns : goal.returns
returns c =
    header_pushed c.args.header.now _ _ _ _ _ _ _ _ _
    (c.deref.ensures.value ∙ ap (λ (h : HeaderValue). h.name) c.header.view_is)
    (c.deref-2.ensures.value ∙ ap (λ (h : HeaderValue). h.contact) c.header.view_is)
    (c.deref-3.ensures.value ∙ ap (λ (h : HeaderValue). h.source) c.header.view_is)
    (c.deref-4.ensures.value ∙ ap (λ (h : HeaderValue). h.comment) c.header.view_is)
    c.in_ok-push_text_line.ensures c.in_ok-push_text_line-2.ensures c.in_ok-push_text_line-3.ensures
    c.in_ok-push_text_line-4.ensures
