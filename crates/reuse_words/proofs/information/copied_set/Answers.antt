use Rattle.std.proofs.Common.{sym, ap, ◌∙◌}
use Rattle.reuse_notice.specs.Sets.{set_of}
use Rattle.reuse_words.proofs.information.copied_set.Goals as goal

pub returns : goal.returns
returns c =
    c.new.ensures ∙ ap set_of c.in_ok-copied.ensures
    ∙ sym (c.sets_are_one.ensures.only c.args.texts.now c.args.texts.now c.requires (λ text. (λ h. h, λ h. h)))
