-- Why words are no line, and how a reading ends with the first mistake (docs/REFERENCE.md).
use Rattle.std.specs.Prelude.{◌≡◌, ◌≢◌, ℕ, List, [], ◌∷◌, ◌++◌, Option, None, Some, Result, Ok, Err, IfSome, codes}
use Rattle.std.specs.Prelude.{option_map, string_bytes}
use Rattle.clap.specs.declared.error.kind.ErrorKind.{ErrorKind}
use Rattle.clap.specs.declared.error.kind.ErrorKind.TheVariants as kinds
use Rattle.reuse_notice.specs.Adding.{Refusal}
use Rattle.reuse_notice.specs.Refusals.{refusal_view}
use Rattle.reuse_words.specs.declared.text.TextRefusal.{TextRefusal}
use Rattle.reuse_words.specs.declared.text.TextRefusal.TheVariants as texts
use Rattle.reuse_arguments.specs.declared.line.LineFault.{LineFault}
use Rattle.reuse_arguments.specs.declared.line.LineFault.TheVariants as faults

-- why words are no line, without where its texts lie in memory
pub data Mistake : Type 0 where
  usage : List ℕ → Mistake
  help : List ℕ → Mistake
  bad_path : List ℕ → Mistake
  bad_additions : Refusal → Mistake
  nothing_to_amend : Mistake
  bad_glob : List ℕ → Mistake
  unreadable : List ℕ → Mistake
  bad_text : List ℕ → TextRefusal → Mistake
  no_tree : Mistake

-- the mistake; an allocation failure is none
abbrev pub mistake_of : LineFault → Option Mistake
mistake_of (faults.Usage text) = Some (usage (string_bytes text))
mistake_of (faults.Help text) = Some (help (string_bytes text))
mistake_of (faults.BadPath word) = Some (bad_path (string_bytes word))
mistake_of (faults.BadAdditions refusal) = option_map bad_additions (refusal_view refusal)
mistake_of faults.NothingToAmend = Some nothing_to_amend
mistake_of (faults.BadGlob word) = Some (bad_glob (string_bytes word))
mistake_of (faults.Unreadable file) = Some (unreadable (string_bytes file))
mistake_of (faults.BadText file (texts.Memory error)) = None
mistake_of (faults.BadText file refusal) = Some (bad_text (string_bytes file) refusal)
mistake_of faults.NoTree = Some no_tree
mistake_of faults.Memory = None

-- words that nothing reads; clap refuses them before, but its contracts don't say so of a line with global options
abbrev pub unread : List ℕ → Mistake
unread text = usage (codes "error: " ++ text ++ codes "\n")

-- what is read next, unless there was a mistake
abbrev pub then_read : {A B : Type 0} → Result A Mistake → (A → Result B Mistake) → Result B Mistake
then_read (Ok a) next = next a
then_read (Err mistake) next = Err mistake

-- what is there, or else this mistake
abbrev pub or_mistake : {A : Type 0} → Option A → Mistake → Result A Mistake
or_mistake None mistake = Err mistake
or_mistake (Some a) mistake = Ok a

-- this, unless it is refused
abbrev pub unless_refused : {A : Type 0} → Option Refusal → A → Result A Mistake
unless_refused None a = Ok a
unless_refused (Some refusal) a = Err (bad_additions refusal)

-- what the words make, each some, one after the other; or the first mistake
unfoldable pub all_read : {A : Type 0} → (List ℕ → Result (List A) Mistake) → List (List ℕ) → Result (List A) Mistake
all_read read [] = Ok []
all_read read (word ∷ words) =
    then_read (read word) (λ made. then_read (all_read read words) (λ others. Ok (made ++ others)))

-- what the words make, each one; or the first mistake
abbrev pub each_read : {A : Type 0} → (List ℕ → Result A Mistake) → List (List ℕ) → Result (List A) Mistake
each_read read words = all_read (λ word. then_read (read word) (λ a. Ok (a ∷ []))) words

-- what is expected was answered, as it is seen; an allocation failure may take its place
abbrev pub IsExpectedAs : {A B : Type 0} → (A → B) → Result B Mistake → Result A LineFault → Type 0
IsExpectedAs seen expected (Ok a) = expected ≡ Ok (seen a)
IsExpectedAs seen expected (Err fault) = IfSome (mistake_of fault) (λ mistake. expected ≡ Err mistake)

-- what is expected was answered; an allocation failure may take its place
abbrev pub IsExpected : {A : Type 0} → Result A Mistake → Result A LineFault → Type 0
IsExpected expected answer = IsExpectedAs (λ a. a) expected answer

-- how clap's error is reported: help and the version are no mistakes
abbrev pub IsReportedAs : ErrorKind → LineFault → Type 0
IsReportedAs kind (faults.Usage text) = (kind ≢ kinds.DisplayHelp) × (kind ≢ kinds.DisplayVersion)
IsReportedAs kind (faults.Help text) = ¬ ((kind ≢ kinds.DisplayHelp) × (kind ≢ kinds.DisplayVersion))
IsReportedAs kind faults.Memory = kind ≡ kinds.OutOfMemory
IsReportedAs kind fault = ⊥
