-- Members taken off a TOML table one by one, and compared with the stated ones.
use Rattle.std.specs.Prelude.{◌≡◌, ℕ, Bool, List, MatchBool}
use Rattle.toml.specs.Data.{Data, Members, member}
use Rattle.reuse_dep5.specs.Dep5.{HeaderValue}
use Rattle.reuse_dep5.specs.ReuseTable.{Annotation}
use Rattle.reuse_dep5.specs.ReadBack.{with_text, with_annotations, header_members}

-- the next member was this one and was taken off; or it is another
abbrev pub TakesMember : Members → Members → List ℕ → Data → Bool → Type 0
TakesMember old new key value taken =
    MatchBool taken (old ≡ member key value new) ((rest : Members) → old ≡ member key value rest → ⊥)

-- the same for a member that may be left out
abbrev pub TakesText : Members → Members → List ℕ → List ℕ → Bool → Type 0
TakesText old new key text taken =
    MatchBool taken (old ≡ with_text key text new) ((rest : Members) → old ≡ with_text key text rest → ⊥)

abbrev pub TakesAnnotations : Members → Members → List Annotation → Bool → Type 0
TakesAnnotations old new annotations taken =
    MatchBool taken (old ≡ with_annotations annotations new)
    ((rest : Members) → old ≡ with_annotations annotations rest → ⊥)

abbrev pub TakesHeaderTexts : Members → Members → List ℕ → List ℕ → List ℕ → List ℕ → Bool → Type 0
TakesHeaderTexts old new name contact source comment taken =
    MatchBool taken (old ≡ header_members name contact source comment new)
    ((rest : Members) → old ≡ header_members name contact source comment rest → ⊥)

abbrev pub TakesHeader : Members → Members → HeaderValue → Bool → Type 0
TakesHeader old new header taken =
    TakesHeaderTexts old new header.name header.contact header.source header.comment taken
