use Rattle.std.proofs.Common.{◌≡◌, ◌+◌, length, arith}
use Rattle.std.proofs.lemmas.Slice.Eq.{slice_eq-Decides}
use Rattle.std.proofs.lemmas.Bool.Decides.{Decides-eqb}
use Rattle.reuse_change.proofs.Cuts.{cuts, holds_part}
use Rattle.reuse_change.proofs.file_range.has_part.Goals as goal

pub returns : goal.returns
returns c =
    let file = c.args.file.now in
    let part = c.args.part.now in
    let decides = slice_eq-Decides Decides-eqb _ _ _ c.eq.ensures in
    let total : length file ≡ c.args.at + length part + c.args.rest =
    omega (arith, c.if-file-at.false, c.if-file-at-2.false, c.if-file-at-3.false) in (
      λ yes. holds_part file part c.args.at c.args.rest total (decides.0 yes),
      λ h. decides.1 (cuts file h.0 part h.1 c.args.at c.args.rest h.2).between,
    )
