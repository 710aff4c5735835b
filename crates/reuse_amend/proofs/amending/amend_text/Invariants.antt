use Rattle.std.proofs.Common.{◌≡◌, take}
use Rattle.reuse_amend.specs.Amending.{text_amended}
use Rattle.reuse_amend.proofs.amending.amend_text.Given as goal

abbrev pub invariant-loop-replacement : goal.invariant-loop-replacement
invariant-loop-replacement l = l.amended ≡ text_amended (take l.replacement-index l.replacements) l.text
