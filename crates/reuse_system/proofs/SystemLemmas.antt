-- What follows from the laws of the system's calls.
use Rattle.std.proofs.Common.{Bool, false, List, ◌++◌, ℕ, Result, Ok, Err, MatchResult, sym, ◌∙◌, ap, subst}
use Rattle.std.proofs.Common.{append_assoc}
use Rattle.std.specs.declared.io.Error.{Error}
use Rattle.reuse_system.specs.FileStates.{FileKey, FileState, file, IsNot}
use Rattle.reuse_system.specs.SystemLaws.{IsAlikeButFile, IsFilled, IsAppended}

-- what is alike but for the file, and then again
pub alike_twice : (key : FileKey) (a b c : FileState) → IsAlikeButFile key a b → IsAlikeButFile key b c
    → IsAlikeButFile key a c
alike_twice key a b c first second place apart =
    let e = first place apart in second place (subst (λ held. IsNot key held) (sym e) apart) ∙ e

pub filled_twice : (key : FileKey) (first second : List ℕ) (was is : Bool) (a b c : FileState)
    → IsFilled key first was a b → IsFilled key second is b c → IsFilled key (first ++ second) is a c
filled_twice key first second was is a b c one two =
    record {
      here = λ place had durable e. two.here place (had ++ first) was (one.here place had durable e)
          ∙ ap (λ bytes. file key bytes is) (append_assoc had first second);
      others = alike_twice key a b c one.others two.others;
    }

-- appended, and then again
pub appended_before : (key : FileKey) (first second : List ℕ) (a b c : FileState) (answer : Result (Unit {0}) Error)
    → IsAppended key first a b
    → MatchResult answer (λ _. IsAppended key second b c) (λ _. IsAlikeButFile key b c)
    → MatchResult answer (λ _. IsAppended key (first ++ second) a c) (λ _. IsAlikeButFile key a c)
appended_before key first second a b c (Ok done) one two = filled_twice key first second false false a b c one two
appended_before key first second a b c (Err error) one two = alike_twice key a b c one.others two
