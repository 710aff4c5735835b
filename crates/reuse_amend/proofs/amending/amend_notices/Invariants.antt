use Rattle.std.proofs.Common.{◌≡◌, take}
use Rattle.std.specs.Prelude.{filter_map}
use Rattle.reuse_amend.specs.Amending.{notice_amended}
use Rattle.reuse_amend.proofs.amending.amend_notices.Given as goal

abbrev pub invariant-loop-text : goal.invariant-loop-text
invariant-loop-text l = l.texts.items ≡ filter_map (notice_amended l.amendments) (take l.text-index l.notices)
