use Rattle.std.proofs.Common.{refl}
use Rattle.std.proofs.lemmas.Bool.{false≢true}
use Rattle.reuse_change.proofs.ChangeStates.{after≢before, neither≢after, neither≢before, before_after, after_before}
use Rattle.reuse_change.proofs.ChangeStates.{after_after, after_neither, neither_before, neither_after, neither_neither}
use Rattle.reuse_change.proofs.Applying.{before_too, not_both}
use Rattle.reuse_change.proofs.change.Change.state.Goals as goal

pub is_sealed_before-requires : goal.is_sealed_before-requires
is_sealed_before-requires c = c.in-Before.ensures.before.0 refl

-- ---- before

pub returns-in-Before-clause-before : goal.returns-in-Before-clause-before
returns-in-Before-clause-before c = (λ _. c.if-is_sealed_before.ensures.0 refl, λ _. refl)

pub returns-in-Before-clause-after : goal.returns-in-Before-clause-after
returns-in-Before-clause-after c = before_after (c.if-is_sealed_before.ensures.0 refl)

pub returns-in-Before-clause-apart : goal.returns-in-Before-clause-apart
returns-in-Before-clause-apart c = not_both _ _

-- ---- after

pub returns-in-After-clause-before : goal.returns-in-After-clause-before
returns-in-After-clause-before c = after_before (λ before. after≢before (c.in-After.ensures.at_before before))

pub returns-in-After-clause-after : goal.returns-in-After-clause-after
returns-in-After-clause-after c =
    after_after (c.if-is_sealed_after.ensures.0 refl) (λ before. after≢before (c.in-After.ensures.at_before before))

pub returns-in-After-clause-neither : goal.returns-in-After-clause-neither
returns-in-After-clause-neither c = after_neither (c.if-is_sealed_after.ensures.0 refl)

-- ---- before by range alone

pub returns-in_default-clause-before : goal.returns-in_default-clause-before
returns-in_default-clause-before c = neither_before (λ before. false≢true (c.if-is_sealed_before.ensures.1 before))

pub returns-in_default-clause-after : goal.returns-in_default-clause-after
returns-in_default-clause-after c =
    neither_after
    (λ after. false≢true (c.if-is_sealed_before.ensures.1 (before_too _ _ (c.in-Before.ensures.before.0 refl) after)))

pub returns-in_default-clause-neither : goal.returns-in_default-clause-neither
returns-in_default-clause-neither c =
    let unsealed = c.if-is_sealed_before.ensures.1 in
    neither_neither (λ after. false≢true (unsealed (before_too _ _ (c.in-Before.ensures.before.0 refl) after)))
    (λ before. false≢true (unsealed before))

-- ---- after by range alone

pub returns-in_default-2-clause-before : goal.returns-in_default-2-clause-before
returns-in_default-2-clause-before c = neither_before (λ before. after≢before (c.in-After.ensures.at_before before))

pub returns-in_default-2-clause-after : goal.returns-in_default-2-clause-after
returns-in_default-2-clause-after c = neither_after (λ after. false≢true (c.if-is_sealed_after.ensures.1 after))

pub returns-in_default-2-clause-neither : goal.returns-in_default-2-clause-neither
returns-in_default-2-clause-neither c =
    neither_neither (λ after. false≢true (c.if-is_sealed_after.ensures.1 after))
    (λ before. after≢before (c.in-After.ensures.at_before before))

-- ---- neither by range

pub returns-in_default-3-clause-before : goal.returns-in_default-3-clause-before
returns-in_default-3-clause-before c = neither_before (λ before. neither≢before (c.in_default.ensures.at_before before))

pub returns-in_default-3-clause-after : goal.returns-in_default-3-clause-after
returns-in_default-3-clause-after c =
    neither_after (λ after. neither≢after
    (c.in_default.ensures.at_after after (λ before. neither≢before (c.in_default.ensures.at_before before))))

pub returns-in_default-3-clause-neither : goal.returns-in_default-3-clause-neither
returns-in_default-3-clause-neither c =
    neither_neither
    (λ after. neither≢after
    (c.in_default.ensures.at_after after (λ before. neither≢before (c.in_default.ensures.at_before before))))
    (λ before. neither≢before (c.in_default.ensures.at_before before))
