use Rattle.std.proofs.Common.{◌≡◌, ◌∙◌, ◌<◌, ℕ, List, false, get_or, length, take, sym, ap, subst, arith}
use Rattle.std.specs.List.{slice_range}
use borrow.Author.Count.{below_more}
use Rattle.reuse_change.proofs.NeedLemmas.{slash_found, no_slash_found}
use Rattle.reuse_change.proofs.listing.is_pruned.Goals as goal
use Rattle.reuse_change.proofs.listing.is_pruned.Goals.{else-byte-eq47-via-then-byte-eq47+else-prunes}
use Rattle.reuse_change.proofs.listing.is_pruned.Goals.{else-byte-eq47-via-else-byte-eq47}

front_is : (path text front : List ℕ) (at : ℕ) → text ≡ path → front ≡ slice_range text 0 at → take at path ≡ front
front_is path text front at same is = grind arith

pub returns-then-prunes : goal.returns-then-prunes
returns-then-prunes g c =
    let path = c.args.path.now in
    let at = c.loop-at.at in
    let same = c.as_bytes-byte-items.ensures.value ∙ c.text-text.ensures.text in
    let front =
    front_is path c.text-text.result.now c.range.result.now at c.text-text.ensures.text c.range.ensures.value in
    sym (slash_found
    (g.P.Pruning.prunes c.args.pruning.now) path at (subst (λ (p : List ℕ). at < length p) same c.loop-at-test.true)
    (ap (λ (p : List ℕ). get_or p at 0) (sym same) ∙ c.if-byte-eq47.true)
    (ap (g.P.Pruning.prunes c.args.pruning.now) front ∙ sym c.prunes.ensures ∙ c.if-prunes.true))

pub loop-at-preserved : goal.loop-at-preserved
loop-at-preserved g c =
    let path = c.args.path.now in
    let at = c.loop-at.at in
    let same = c.as_bytes-byte-items.ensures.value ∙ c.text-text.ensures.text in
    below_more (λ k. get_or path k 0 ≡ 47 → g.P.Pruning.prunes c.args.pruning.now
    (take k path) ≡ false) at c.loop-at.invariant (elim c.else-byte-eq47.branch [
      | else-byte-eq47-via-then-byte-eq47+else-prunes w ↦ λ slash.
          ap (g.P.Pruning.prunes c.args.pruning.now)
          (front_is path c.text-text.result.now w.range.result.now at c.text-text.ensures.text w.range.ensures.value)
          ∙ sym w.prunes.ensures ∙ w.if-prunes.false
      | else-byte-eq47-via-else-byte-eq47 w ↦
          λ slash. absurd (w.if-byte-eq47.false (ap (λ (p : List ℕ). get_or p at 0) same ∙ slash))
    ])

pub returns : goal.returns
returns g c =
    sym (no_slash_found (g.P.Pruning.prunes c.args.pruning.now) c.args.path.now
    (λ k low slash. c.loop-at.invariant k (omega (
      arith,
      low,
      c.loop-at-test.false,
      ap length c.text-text.ensures.text,
      ap length c.as_bytes-byte-items.ensures.value,
    )) slash))
