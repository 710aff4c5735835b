use Rattle.std.proofs.Common.{◌≡◌, ◌+◌, ℕ, List, cond, Some, is_some, sym, ap, subst, ◌∙◌}
use Rattle.std.specs.BTreeMap.{BTreeMap, get, is_at}
use Rattle.reuse_notice.specs.Sets.{byte_order}
use Rattle.reuse_ready.specs.declared.name_count.NameCount.{NameCount}
use Rattle.reuse_ready.proofs.CountedLemmas.{counted_at}
use Rattle.reuse_ready.proofs.RowLemmas.{more}
use Rattle.reuse_ready.proofs.name_count.count_name.Goals as goal

pub returns-in-Some : goal.returns-in-Some
returns-in-Some c names before =
    let row = c.in-Some.row.now in
    let next : NameCount = record { name = row.name; count = row.count + 1; style = row.style } in
    let held = c.get_mut.follows.holds next in
    let found = c.in-Some.ensures.value in
    counted_at c.args.rows.now (c.get_mut.follows.lender next) names c.args.name.now c.from_vec-lowered.result next
    (c.from_vec-lowered.ensures ∙ c.in_ok-to_ascii_lowercase.ensures.ok) before (ap (more c.args.name.now) found)
    (held.3 (ap is_some (sym found))).0 held.4

pub returns : goal.returns
returns c names before =
    let found = c.in_default.ensures.value in
    counted_at c.args.rows.now c.insert.new.self names c.args.name.now c.from_vec-lowered.result c.in_ok-row.row
    (c.from_vec-lowered.ensures ∙ c.in_ok-to_ascii_lowercase.ensures.ok) before
    (c.in_ok-row.ensures ∙ ap (more c.args.name.now) found)
    (subst (λ (rows : BTreeMap (List ℕ) NameCount). (lowered : List ℕ) → get byte_order c.insert.new.self lowered
    ≡ cond (is_at (byte_order c.from_vec-lowered.result) lowered) (Some c.in_ok-row.row) (get byte_order rows lowered))
    c.get_mut.follows.holds-at-none c.in-Ok.ensures.updates.0) c.in-Ok.ensures.ordered
