use Rattle.std.proofs.Common.{subst}
use Rattle.std.specs.Option.{option_copied}
use Rattle.reuse_change.specs.Change.{IsBeforeByRange}
use Rattle.reuse_change.proofs.change.Change.is_sealed_before.Goals as goal

pub returns-in-Splice : goal.returns-in-Splice
returns-in-Splice c =
    let s = c.in-Splice in
    let range = (subst (λ change. IsBeforeByRange change (option_copied c.args.file)) s.is c.requires).1 in
    rw s.is (c.has_seal.ensures s.path s.rest (range.0, range.1, range.2))
