use Rattle.std.proofs.Common.{ap, ◌∙◌}
use Rattle.std.specs.List.{list_any}
use Rattle.std.specs.Ordering.{nat_cmp}
use Rattle.std.specs.BTreeMap.{is_at}
use Rattle.std.specs.Prelude.{string_bytes}
use Rattle.std.specs.Cmp.Lexicographic.{slice_cmp}
use Rattle.reuse_disk.proofs.NoteLemmas.{any_still}
use Rattle.reuse_disk.proofs.syncs.add.Goals as goal

pub returns-in_ok-insert-clause-kept : goal.returns-in_ok-insert-clause-kept
returns-in_ok-insert-clause-kept c = λ folder was.
    let fits = is_at (λ key. slice_cmp nat_cmp folder (string_bytes key)) in
    ap (list_any fits) c.in_ok-insert.ensures.keys
    ∙ any_still _ fits c.args.paths.now.keys c.in_ok-from_str.field-0 was
