use Rattle.std.proofs.Common.{◌≡◌, take, map}
use Rattle.reuse_ready.specs.Additions.{missing_tables}
use Rattle.reuse_ready.proofs.own_lines.missing_tables.Given as goal

abbrev pub invariant-loop-table : goal.invariant-loop-table
invariant-loop-table l =
    map (λ table. table.now) l.missing.items ≡ missing_tables l.own_comments.styles (take l.table-index l.tables)
