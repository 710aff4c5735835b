use Rattle.std.proofs.Common.{◌≡◌, ℕ, ◌+◌, ◌<◌, Bool, true, false, cond, List, length, get_or, drop, sym, ap, ◌∙◌}
use Rattle.std.proofs.Common.{bytes_eq}
use Rattle.std.proofs.lemmas.List.{at_drop_more, at_drop_all}
use Rattle.reuse_edit.specs.Licence.{text_for}
use Rattle.reuse_command.specs.declared.licence.LicenceText.{LicenceText}
use Rattle.reuse_edit.proofs.licence_file.text_for.Goals as goal

-- one text on
one_more : (texts : List LicenceText) (id : List ℕ) (k : ℕ) (given : LicenceText) (same : Bool) → k < length texts
    → given ≡ get_or texts k given → bytes_eq given.id id ≡ same
    → text_for (drop k texts) id ≡ cond same given.text (text_for (drop (k + 1) texts) id)
one_more texts id k given same low is e =
    at_drop_more (λ ts. text_for ts id) texts k given low
    ∙ ap (λ (g : LicenceText). cond (bytes_eq g.id id) g.text (text_for (drop (k + 1) texts) id)) (sym is)
    ∙ ap (λ b. cond b given.text (text_for (drop (k + 1) texts) id)) e

pub returns-then-eq : goal.returns-then-eq
returns-then-eq c =
    c.as_ref.ensures.value
    ∙ sym (c.loop-given.invariant
    ∙ one_more c.args.texts.now c.args.id.now c.loop-given.given-index c.given-item.result true c.loop-given-test.true
    c.given-item.is (ap (λ x. bytes_eq x c.args.id.now) (sym c.as_slice.ensures) ∙ sym c.eq.ensures ∙ c.if-eq.true))

pub loop-given-preserved : goal.loop-given-preserved
loop-given-preserved c =
    c.loop-given.invariant
    ∙ one_more c.args.texts.now c.args.id.now c.loop-given.given-index c.given-item.result false c.loop-given-test.true
    c.given-item.is (ap (λ x. bytes_eq x c.args.id.now) (sym c.as_slice.ensures) ∙ sym c.eq.ensures ∙ c.if-eq.false)

pub returns : goal.returns
returns c = sym (c.loop-given.invariant
    ∙ at_drop_all (λ ts. text_for ts c.args.id.now) c.args.texts.now c.loop-given.given-index c.loop-given-test.false)
