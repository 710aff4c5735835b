-- What is known of a new file, by what it asked for.
use Rattle.std.proofs.Common.{◌≡◌, ℕ, Option, None, Some, false, refl, true≢false, ◌∙◌, ap}
use Rattle.std.specs.Option.{is_some}
use Rattle.reuse_system.specs.NewFiles.{made_mode, made_status}
use Rattle.reuse_system.specs.declared.place.FileStatus.{FileStatus}
use Rattle.reuse_system.specs.declared.system.new_status.NewStatus.{NewStatus}
use Rattle.reuse_disk.specs.Due.{asked_for}

pub asked_mode : (status : NewStatus) (asked : Option ℕ) (seen : Option FileStatus) → status ≡ made_status asked
    → asked ≡ asked_for seen → status.mode ≡ made_mode (asked_for seen)
asked_mode status asked seen made is = ap (λ (one : NewStatus). one.mode) made ∙ ap made_mode is

pub none_of : (seen : Option FileStatus) → is_some seen ≡ false → seen ≡ None
none_of None is = refl
none_of (Some one) is = absurd (true≢false is)
