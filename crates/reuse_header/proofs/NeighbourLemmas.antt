-- Whether a neighbour file is text.
use Rattle.std.proofs.Common.{◌≡◌, ℕ, Bool, List, refl}
use Rattle.std.specs.Prelude.{◌↔◌, ◌==◌, IsTrue, not, Contains}
use Rattle.std.specs.List.{list_any}
use Rattle.std.specs.Str.{is_utf8}
use Rattle.std.specs.Bool.{Decides}
use Rattle.std.proofs.lemmas.Bool.Decides.{same_from_decides, Decides-and, Decides-not, Decides-eqb, Decides-like}
use Rattle.std.proofs.lemmas.Bool.Decides.{Decides-by_or}
use Rattle.std.proofs.lemmas.List.Elements.{Decides-contains}
use Rattle.std.proofs.lemmas.Str.{IsUtf8-from_is_utf8, is_utf8-from_IsUtf8}
use Rattle.reuse_text.specs.Text.{IsText}
use Rattle.reuse_header.specs.Neighbour.{is_text}

holds_nul : (file : List ℕ) → Decides (list_any (λ b. b == 0) file) (Contains file 0)
holds_nul file =
    let each =
    Decides-by_or (λ b. b == 0) (λ b. b ≡ 0) (list_any (λ b. b == 0)) (λ b. Decides-eqb b 0) refl (λ _ _. refl) file in
    Decides-contains file 0 (list_any (λ b. b == 0) file) each

pub text-test : (file : List ℕ) (b : Bool) → (IsTrue b ↔ IsText file) → b ≡ is_text file
text-test file b says =
    let whole = Decides-and (is_utf8 file) (not (list_any (λ b. b == 0) file))
    (IsUtf8-from_is_utf8 file, is_utf8-from_IsUtf8 file) (Decides-not _ (holds_nul file)) in
    same_from_decides b (is_text file) (says.0, says.1)
    (Decides-like _ (λ both. record { utf8 = both.0; no_nul = both.1 }) (λ t. (t.utf8, t.no_nul)) whole)
