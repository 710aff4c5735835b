-- Names along a path.
use Rattle.std.proofs.Common.{◌≡◌, ◌≢◌, ◌||◌, ◌==◌, ℕ, Bool, List, [], ◌∷◌, length, refl, ap, arith}
use Rattle.std.proofs.lemmas.List.Splits.{length-slice_split}
use Rattle.reuse_system.specs.Names.{between_slashes}
use Rattle.reuse_system.specs.Ignored.{is_control_folder, begins_journal, is_foreign}

step : (is_folder : Bool) (name : List ℕ) (names : List (List ℕ)) → names ≢ []
    → is_foreign is_folder
    (name ∷ names) ≡ (is_control_folder name || begins_journal names || is_foreign is_folder names)
step is_folder name [] some = absurd (some refl)
step is_folder name (next ∷ names) some = refl

-- a name with a slash behind it isn't the last one
pub foreign_before : (is_folder : Bool) (name rest : List ℕ)
    → is_foreign is_folder (name ∷ between_slashes rest)
    ≡ (is_control_folder name || begins_journal (between_slashes rest) || is_foreign is_folder (between_slashes rest))
foreign_before is_folder name rest =
    step is_folder name (between_slashes rest)
    (λ none. omega (arith, ap length none, length-slice_split (λ byte. byte == 47) rest))
