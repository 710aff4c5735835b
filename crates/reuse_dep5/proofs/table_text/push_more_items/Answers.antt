use Rattle.std.proofs.Common.{ℕ, List, ◌++◌, map, ap, ◌∙◌}
use Rattle.std.specs.Prelude.{Vec, codes}
use Rattle.std.specs.declared.alloc.Global.{Global}
use Rattle.std.proofs.lemmas.List.{take_all}
use Rattle.reuse_toml.specs.TomlText.{quoted}
use Rattle.reuse_dep5.specs.ReuseTable.{more_items}
use Rattle.reuse_toml.proofs.Appending.{then}
use Rattle.reuse_dep5.proofs.WriteLemmas.{pushed_more}
use Rattle.reuse_dep5.proofs.table_text.push_more_items.Goals as goal

pub loop-text-preserved : goal.loop-text-preserved
loop-text-preserved c =
    pushed_more (λ (t : List ℕ). codes ", " ++ quoted t) (λ (t : Vec ℕ Global). t.items) c.args.texts.now
    c.loop-text.text-index _ c.text-item.result c.args.out.now.items c.loop-text.out.items _
    c.loop-text-test.true c.text-item.is c.loop-text.invariant
    (then c.loop-text.out.items c.extend_from_slice.new.self.items _ (codes ", ")
    (quoted c.text-item.result.items) c.in_ok-extend_from_slice.ensures.items
    (c.in_ok-push_quoted.ensures ∙ ap (λ t. c.extend_from_slice.new.self.items ++ quoted t) c.deref.ensures.value))

pub returns : goal.returns
returns c =
    c.loop-text.invariant ∙ ap (λ xs. c.args.out.now.items ++ more_items (map (λ (t : Vec ℕ Global). t.items) xs))
    (take_all _ _ c.loop-text-test.false)
