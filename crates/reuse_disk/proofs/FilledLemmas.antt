-- A file that got its bytes, and was then made durable or left as it is.
use Rattle.std.proofs.Common.{◌≡◌, ◌++◌, ◌∙◌, ℕ, Bool, true, false, List, Result, Ok, Err, MatchResult, sym, subst}
use Rattle.reuse_system.specs.FileStates.{FileKey, FileState, IsNot}
use Rattle.reuse_system.specs.SystemLaws.{IsAlikeButFile, IsFilled}
use Rattle.reuse_disk.specs.Written.{IsSyncedIf}

-- no other file differs, if none does before and after
alike_twice : (key : FileKey) (a b c : FileState) → IsAlikeButFile key a b → IsAlikeButFile key b c
    → IsAlikeButFile key a c
alike_twice key a b c one two place apart =
    two place (subst (IsNot key) (sym (one place apart)) apart) ∙ one place apart

pub filled_then : {A E : Type 0} (key at : FileKey) (bytes : List ℕ) (is_kept : Bool) (a b c : FileState)
    (answer : Result A E) → at ≡ key → IsFilled key bytes false a b
    → MatchResult answer (λ _. IsSyncedIf is_kept at b c) (λ _. IsAlikeButFile at b c)
    → MatchResult answer (λ _. IsFilled key bytes is_kept a c) (λ _. IsAlikeButFile key a c)
filled_then {A} {E} key at bytes is_kept a b c answer same filled synced =
    by answer is_kept
    (subst (λ one. MatchResult answer (λ _. IsSyncedIf is_kept one b c) (λ _. IsAlikeButFile one b c)) same synced)
  where
    by : (answer : Result A E) (is_kept : Bool)
        → MatchResult answer (λ _. IsSyncedIf is_kept key b c) (λ _. IsAlikeButFile key b c)
        → MatchResult answer (λ _. IsFilled key bytes is_kept a c) (λ _. IsAlikeButFile key a c)
    by (Ok done) true synced = record {
      here = λ place had was is. synced.here place (had ++ bytes) false (filled.here place had was is);
      others = alike_twice key a b c filled.others synced.others;
    }
    by (Ok done) false alike = record {
      here = λ place had was is. alike place ∙ filled.here place had was is;
      others = alike_twice key a b c filled.others (λ place apart. alike place);
    }
    by (Err error) is_kept alike = alike_twice key a b c filled.others alike
