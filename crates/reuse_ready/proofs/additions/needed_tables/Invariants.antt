use Rattle.std.proofs.Common.{◌≡◌, take, map, filter}
use Rattle.reuse_ready.specs.Needed.{is_needed, table_addition}
use Rattle.reuse_ready.proofs.additions.needed_tables.Given as goal

abbrev pub invariant-loop-style : goal.invariant-loop-style
invariant-loop-style l = l.tables.items ≡ filter (λ addition. is_needed l.rows addition.name)
    (map table_addition (map (λ comment. (comment.0.now, comment.1.now)) (take l.style-index l.comments)))
