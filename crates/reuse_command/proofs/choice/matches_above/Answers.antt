use Rattle.std.proofs.Common.{◌≡◌, ◌∙◌, ◌<◌, ℕ, List, false, get_or, length, take, sym, ap, subst, arith, chars}
use Rattle.std.specs.List.{slice_range}
use borrow.Author.Count.{below_more}
use Rattle.reuse_toml.specs.GlobMatch.{matches_glob}
use Rattle.reuse_change.proofs.NeedLemmas.{slash_found, no_slash_found}
use Rattle.reuse_command.proofs.choice.matches_above.Goals as goal
use Rattle.reuse_command.proofs.choice.matches_above.Goals.{else-byte-eq47-via-then-byte-eq47+else-matches_text}
use Rattle.reuse_command.proofs.choice.matches_above.Goals.{else-byte-eq47-via-else-byte-eq47}

front_is : (path text front : List ℕ) (at : ℕ) → text ≡ path → front ≡ slice_range text 0 at → take at path ≡ front
front_is path text front at same is = grind arith

pub returns-then-matches_text : goal.returns-then-matches_text
returns-then-matches_text c =
    let path = c.args.path.now in
    let at = c.loop-at.at in
    let same = c.as_bytes-byte-items.ensures.value ∙ c.text-text.ensures.text in
    let front =
    front_is path c.text-text.result.now c.range.result.now at c.text-text.ensures.text c.range.ensures.value in
    sym (slash_found (λ folder. matches_glob c.args.glob.now (chars folder))
    path at (subst (λ (p : List ℕ). at < length p) same c.loop-at-test.true)
    (ap (λ (p : List ℕ). get_or p at 0) (sym same) ∙ c.if-byte-eq47.true)
    (ap (λ f. matches_glob c.args.glob.now (chars f)) front ∙ sym c.matches_text.ensures ∙ c.if-matches_text.true))

pub loop-at-preserved : goal.loop-at-preserved
loop-at-preserved c =
    let path = c.args.path.now in
    let at = c.loop-at.at in
    let same = c.as_bytes-byte-items.ensures.value ∙ c.text-text.ensures.text in
    below_more (λ k. get_or path k 0 ≡ 47
    → matches_glob c.args.glob.now (chars (take k path)) ≡ false) at c.loop-at.invariant (elim c.else-byte-eq47.branch [
      | else-byte-eq47-via-then-byte-eq47+else-matches_text w ↦ λ slash.
          ap (λ f. matches_glob c.args.glob.now (chars f))
          (front_is path c.text-text.result.now w.range.result.now at c.text-text.ensures.text w.range.ensures.value)
          ∙ sym w.matches_text.ensures ∙ w.if-matches_text.false
      | else-byte-eq47-via-else-byte-eq47 w ↦
          λ slash. absurd (w.if-byte-eq47.false (ap (λ (p : List ℕ). get_or p at 0) same ∙ slash))
    ])

pub returns : goal.returns
returns c = sym (no_slash_found (λ folder. matches_glob c.args.glob.now (chars folder)) c.args.path.now
    (λ k low slash. c.loop-at.invariant k (omega (
      arith,
      low,
      c.loop-at-test.false,
      ap length c.text-text.ensures.text,
      ap length c.as_bytes-byte-items.ensures.value,
    )) slash))
