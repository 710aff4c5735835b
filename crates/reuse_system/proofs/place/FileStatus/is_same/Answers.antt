use Rattle.std.proofs.Common.{sym, ◌∙◌}
use Rattle.reuse_system.proofs.VersionLemmas.{same_version, same_if_version}
use Rattle.reuse_system.proofs.place.FileStatus.is_same.Goals as goal

pub returns : goal.returns
returns c = (
  (λ same. same_version c.args.self.now.version c.args.other.now.version (sym c.eq.ensures ∙ same)),
  λ same. c.eq.ensures ∙ same_if_version c.args.self.now.version c.args.other.now.version same,
)
