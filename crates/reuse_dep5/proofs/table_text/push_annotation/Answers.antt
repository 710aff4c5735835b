use Rattle.std.proofs.Common.{ℕ, ◌∙◌, ap, map}
use Rattle.std.specs.Prelude.{Vec}
use Rattle.std.specs.declared.alloc.Global.{Global}
use Rattle.reuse_dep5.specs.PatternValue.{PatternValue}
use Rattle.reuse_dep5.specs.Dep5.{FilesValue}
use Rattle.reuse_dep5.specs.Translation.{translated}
use Rattle.reuse_toml.specs.GlobText.{glob_text}
use Rattle.reuse_dep5.proofs.WriteLemmas.{annotation_pushed}
use Rattle.reuse_dep5.proofs.table_text.push_annotation.Goals as goal

pub returns : goal.returns
returns c =
    let v = c.paragraph.view_is in
    annotation_pushed c.args.paragraph.now c.args.out.now.items _ _ _ _ _ _
    (map (λ (t : Vec ℕ Global). t.items) c.deref-2.result.now)
    (map (λ (t : Vec ℕ Global). t.items) c.deref-3.result.now) c.deref-4.result.now c.deref-5.result.now
    (ap (map (λ (t : Vec ℕ Global). t.items)) c.deref-2.ensures.value ∙ c.in_ok-paths.ensures
    ∙ ap (λ ps. map glob_text (map (λ (p : PatternValue). translated p.pieces) ps))
    (c.deref.ensures.value ∙ ap (λ (f : FilesValue). f.patterns) v))
    (ap (map (λ (t : Vec ℕ Global). t.items)) c.deref-3.ensures.value ∙ ap (λ (f : FilesValue). f.notices) v)
    (c.deref-4.ensures.value ∙ ap (λ (f : FilesValue). f.license) v)
    (c.deref-5.ensures.value ∙ ap (λ (f : FilesValue). f.comment) v)
    c.in_ok-extend_from_slice.ensures.items c.in_ok-push_list_line.ensures c.in_ok-push_quoted_line.ensures
    c.in_ok-push_list_line-2.ensures
    c.in_ok-push_quoted_line-2.ensures c.in_ok-push_text_line.ensures
