use Rattle.std.proofs.Common.{◌≡◌, ◌++◌, take, map, ℕ}
use Rattle.std.specs.Prelude.{Vec}
use Rattle.std.specs.declared.alloc.Global.{Global}
use Rattle.reuse_dep5.specs.ReuseTable.{more_items}
use Rattle.reuse_dep5.proofs.table_text.push_more_items.Given as goal

abbrev pub invariant-loop-text : goal.invariant-loop-text
invariant-loop-text l =
    l.out.items ≡ l.fn.out.items ++ more_items (map (λ (t : Vec ℕ Global). t.items) (take l.text-index l.texts))
