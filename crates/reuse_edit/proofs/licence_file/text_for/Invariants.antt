use Rattle.std.proofs.Common.{◌≡◌, drop}
use Rattle.reuse_edit.specs.Licence.{text_for}
use Rattle.reuse_edit.proofs.licence_file.text_for.Given as goal

-- the texts so far are of other ids
abbrev pub invariant-loop-given : goal.invariant-loop-given
invariant-loop-given l = text_for l.texts l.id ≡ text_for (drop l.given-index l.texts) l.id
