use Rattle.std.proofs.Common.{◌≡◌, ℕ, ◌<◌, false, List, get_or, length, take, sym, ap, subst, ◌∙◌, arith}
use Rattle.std.specs.FinMap.{keys}
use Rattle.std.specs.List.{slice_range}
use borrow.Author.Count.{below_more}
use Rattle.reuse_change.specs.Listing.{is_among}
use Rattle.reuse_change.specs.Files.{Files}
use Rattle.reuse_store.specs.Asked.{OnlyReads}
use Rattle.reuse_store.proofs.AskedLemmas.{reads_more}
use Rattle.reuse_change.proofs.ClashLemmas.{part_found, no_part}
use Rattle.reuse_store.proofs.at_path.is_below_file_at.Goals as goal
use Rattle.reuse_store.proofs.at_path.is_below_file_at.Goals.{
  else-byte-eq47-via-then-byte-eq47+in_ok-is_file_at+else-branch,
}
use Rattle.reuse_store.proofs.at_path.is_below_file_at.Goals.{else-byte-eq47-via-else-byte-eq47}

front_is : (path text front : List ℕ) (at : ℕ) → text ≡ path → front ≡ slice_range text 0 at → take at path ≡ front
front_is path text front at same is = grind arith

-- what was answered of the part in front of a slash
answered : (start now : Files) (path front : List ℕ) (at : ℕ) → now ≡ start → take at path ≡ front
    → is_among (keys start) (take at path) ≡ is_among (keys now) front
answered start now path front at files is =
    ap (λ m. is_among (keys m) (take at path)) (sym files) ∙ ap (is_among (keys now)) is

pub returns-then-branch-clause-below : goal.returns-then-branch-clause-below
returns-then-branch-clause-below g c honest =
    let path = c.args.path.now in
    let at = c.loop-at.at in
    let start = g.S.Store.files c.args.store.now in
    let same = c.as_bytes-byte-items.ensures.value ∙ c.text-text.ensures.text in
    let files = c.loop-at.invariant.reads.files (c.is_file_at.ensures.reads.was_honest honest) in
    let front =
    front_is path c.text-text.result.now c.range.result.now at c.text-text.ensures.text c.range.ensures.value in
    sym (part_found (keys start) path at (subst (λ (p : List ℕ). at < length p) same c.loop-at-test.true)
    (ap (λ (p : List ℕ). get_or p at 0) (sym same) ∙ c.if-byte-eq47.true)
    (answered start (g.S.Store.files c.loop-at.store) path c.range.result.now at files front
    ∙ sym (c.in_ok-is_file_at.ensures.file honest) ∙ c.if-branch.true))

pub loop-at-preserved : goal.loop-at-preserved
loop-at-preserved g c = elim c.else-byte-eq47.branch [
  | else-byte-eq47-via-then-byte-eq47+in_ok-is_file_at+else-branch w ↦ record {
    reads = subst (OnlyReads g.S.Store c.args.store.now) (sym w.store-is)
        (reads_more g.S.Store _ _ _ c.loop-at.invariant.reads w.is_file_at.ensures.reads);
    none = λ honest.
        let honest_then = subst g.S.Store.honest w.store-is honest in
        let path = c.args.path.now in
        let at = c.loop-at.at in
        let start = g.S.Store.files c.args.store.now in
        let before = w.is_file_at.ensures.reads.was_honest honest_then in
        let front =
        front_is path c.text-text.result.now w.range.result.now at c.text-text.ensures.text w.range.ensures.value in
        below_more (λ k. get_or path k 0 ≡ 47
        → is_among (keys start) (take k path) ≡ false) at (c.loop-at.invariant.none before) (λ slash.
        answered start
        (g.S.Store.files c.loop-at.store) path w.range.result.now at (c.loop-at.invariant.reads.files before) front
        ∙ sym (w.in_ok-is_file_at.ensures.file honest_then) ∙ w.if-branch.false);
  }
  | else-byte-eq47-via-else-byte-eq47 w ↦ record {
    reads = subst (OnlyReads g.S.Store c.args.store.now) (sym w.store-is) c.loop-at.invariant.reads;
    none = λ honest.
        let path = c.args.path.now in
        let at = c.loop-at.at in
        let same = c.as_bytes-byte-items.ensures.value ∙ c.text-text.ensures.text in
        below_more (λ k. get_or path k 0 ≡ 47 → is_among (keys (g.S.Store.files c.args.store.now))
        (take k path) ≡ false) at (c.loop-at.invariant.none (subst g.S.Store.honest w.store-is honest)) (λ slash.
        absurd (w.if-byte-eq47.false (ap (λ (p : List ℕ). get_or p at 0) same ∙ slash)));
  }
]

pub returns-clause-below : goal.returns-clause-below
returns-clause-below g c honest =
    sym (no_part (keys (g.S.Store.files c.args.store.now)) c.args.path.now
    (λ k low slash. c.loop-at.invariant.none honest k (omega (
      arith,
      low,
      c.loop-at-test.false,
      ap length c.text-text.ensures.text,
      ap length c.as_bytes-byte-items.ensures.value,
    )) slash))
