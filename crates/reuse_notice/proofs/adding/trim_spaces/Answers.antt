use Rattle.std.proofs.Common.{◌≡◌, rules, sym, subst}
use Rattle.std.specs.Prelude.{IsUtf8}
use Rattle.reuse_notice.specs.Adding.{without_spaces}
use Rattle.reuse_notice.proofs.SoundLemmas.{utf8_without_spaces}
use Rattle.reuse_notice.proofs.adding.trim_spaces.Goals as goal

pub returns : goal.returns
returns c =
    let value : c.trim_end_with.result.now ≡ without_spaces c.args.text.now = search rules in
    record { value = value; utf8 = subst IsUtf8 (sym value) (utf8_without_spaces c.args.text.now c.utf8.text) }
