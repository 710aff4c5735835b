use Rattle.std.proofs.Common.{◌≡◌, true, ap, ◌∙◌, string_bytes}
use Rattle.reuse_system.specs.Ignored.{is_new_name}
use Rattle.reuse_system.proofs.NewNameLemmas.{numbered_is_new}
use Rattle.reuse_system.proofs.new_name.NewName.of_number.Goals as goal
use Rattle.reuse_system.proofs.new_name.NewName.of_number.Goals.{then-number-eq0+in_ok-name}
use Rattle.reuse_system.proofs.new_name.NewName.of_number.Goals.{else-number-eq0+in_ok-name-2}

pub invariant_of-result : goal.invariant_of-result
invariant_of-result c =
    let is_new : is_new_name (string_bytes c.if-number-eq0.name) ≡ true =
    elim c.if-number-eq0.branch [
      | then-number-eq0+in_ok-name w ↦
          ap (λ name. is_new_name (string_bytes name)) w.name-is ∙ ap is_new_name w.in_ok-name.ensures.ok
      | else-number-eq0+in_ok-name-2 w ↦ ap (λ name. is_new_name (string_bytes name)) w.name-is
          ∙ ap is_new_name w.in_ok-name-2.ensures.ok ∙ numbered_is_new c.args.number c.ranges.number.fits
    ] in
    record { is_new = is_new }
