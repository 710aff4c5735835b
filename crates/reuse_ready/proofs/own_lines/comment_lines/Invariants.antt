use Rattle.std.proofs.Common.{◌≡◌, ◌++◌, take, map, codes}
use Rattle.std.specs.List.{flat_map}
use Rattle.std.specs.Option.{option_copied}
use Rattle.reuse_ready.specs.Additions.{before_lines, rule_lines, table_lines}
use Rattle.reuse_ready.proofs.own_lines.comment_lines.Given as goal

abbrev pub invariant-loop-table : goal.invariant-loop-table
invariant-loop-table l = l.lines ≡ before_lines (codes "version = 1\n") (option_copied l.file) ++ flat_map table_lines
    (map (λ table. table.now) (take l.table-index l.tables))

abbrev pub invariant-loop-rule : goal.invariant-loop-rule
invariant-loop-rule l = l.lines ≡ before_lines (codes "version = 1\n") (option_copied l.file)
    ++ flat_map table_lines (map (λ table. table.now) l.tables)
    ++ flat_map rule_lines (map (λ rule. rule.now) (take l.rule-index l.rules))
