use Rattle.std.proofs.Common.{◌≡◌, ◌↔◌, IsTrue, Some, None, length, subst, sym, ap}
use Rattle.std.specs.Option.{option_copied}
use Rattle.reuse_text.specs.Text.{spliced}
use Rattle.reuse_change.specs.Digest.{IsSealOf}
use Rattle.reuse_change.specs.declared.change.Change.TheVariants.{Splice}
use Rattle.reuse_change.specs.Change.{HoldsPart, IsBefore}
use Rattle.reuse_change.proofs.Sealed.{splice_sealed_before}
use Rattle.reuse_change.proofs.change.has_seal.Goals as goal

pub returns-in-None : goal.returns-in-None
returns-in-None c = λ path rest h.
    let held = subst (λ f. HoldsPart f c.args.old.now c.args.at rest) (ap option_copied c.in-None.is) h in
    let whole : None ≡ Some _ = held.2.whole in
    absurd (cc)

pub returns-in-Some : goal.returns-in-Some
returns-in-Some c = λ path rest h.
    let file = c.in-Some.file.now in
    let at = c.args.at in
    let old = c.args.old.now in
    let new = c.args.new.now in
    let seal = c.args.seal in
    let yes = IsTrue c.is_seal_of.result in
    let here : option_copied c.args.file ≡ Some file = ap option_copied c.in-Some.is in
    let held = subst (λ f. HoldsPart f old at rest) here h in
    let by_length = subst
    (λ len. yes ↔ IsSealOf seal file (spliced file at len c.as_slice.result.now)) c.len.ensures c.is_seal_of.ensures in
    let by_part =
    subst (λ part. yes ↔ IsSealOf seal file (spliced file at (length old) part)) c.as_slice.ensures by_length in
    subst (λ f. yes ↔ IsBefore (Splice path at old new rest seal) f) (sym here)
    (splice_sealed_before path at old new rest seal file yes held by_part)
