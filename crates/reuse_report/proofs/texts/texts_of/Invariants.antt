use Rattle.std.proofs.Common.{◌≡◌, map, take}
use Rattle.reuse_command.specs.declared.licence.LicenceText.{LicenceText}
use Rattle.reuse_report.specs.Texts.{licences_among}
use Rattle.reuse_report.proofs.texts.texts_of.Given as goal

-- the texts so far are those of the ids so far
abbrev pub invariant-loop-id : goal.invariant-loop-id
invariant-loop-id g l = map (λ (text : LicenceText). text.id) l.texts.items ≡ licences_among (take l.id-index l.ids)
