-- Texts that a file must hold for amendments to change it (this project's own).
use Rattle.std.specs.Prelude.{ℕ, Bool, ◌||◌, List, is_some}
use Rattle.std.specs.List.{list_any}
use Rattle.reuse_amend.specs.declared.replacements.Replacement.{Replacement}
use Rattle.reuse_amend.specs.declared.amendments.Amendments.{Amendments}
use Rattle.reuse_notice.specs.Adding.{holds}

-- whether bytes hold one of some texts, and one of those that are replaced
abbrev pub holds_any : List (List ℕ) → List ℕ → Bool
holds_any texts bytes = list_any (λ text. holds text bytes) texts

abbrev pub holds_old : List Replacement → List ℕ → Bool
holds_old replacements bytes = list_any (λ r. holds r.old bytes) replacements

-- whether bytes hold a text that the amendments replace or remove
abbrev pub holds_named : Amendments → List ℕ → Bool
holds_named a bytes =
    holds_old a.replaced_licences bytes || holds_any a.removed_licences bytes
    || holds_old a.replaced_holders bytes
    || holds_any a.removed_holders bytes || holds_old a.replaced_contributors bytes
    || holds_any a.removed_contributors bytes

-- whether the amendments set years or a prefix, or bytes hold a text that they name
abbrev pub may_change : Amendments → List ℕ → Bool
may_change a bytes = is_some a.until || is_some a.prefix || holds_named a bytes
