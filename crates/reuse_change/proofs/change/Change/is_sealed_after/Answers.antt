use Rattle.std.proofs.Common.{◌↔◌, IsTrue, subst}
use Rattle.std.specs.Option.{option_copied}
use Rattle.reuse_change.specs.declared.change.Change.TheVariants.{Splice}
use Rattle.reuse_change.specs.Change.{IsBefore, IsAfterByRange}
use Rattle.reuse_change.proofs.Sealed.{sealed_after}
use Rattle.reuse_change.proofs.change.Change.is_sealed_after.Goals as goal

pub returns-in-Splice : goal.returns-in-Splice
returns-in-Splice c =
    let s = c.in-Splice in
    let file = option_copied c.args.file in
    let yes = IsTrue c.has_seal.result in
    let range = (subst (λ change. IsAfterByRange change file) s.is c.requires).1 in
    let back = subst (λ seal. yes ↔ IsBefore (Splice s.path s.at s.new s.old s.rest seal) file) c.swapped.ensures
    (c.has_seal.ensures s.path s.rest (range.0, range.1, range.3)) in
    rw s.is (sealed_after (Splice s.path s.at s.old s.new s.rest s.seal) file yes back)
