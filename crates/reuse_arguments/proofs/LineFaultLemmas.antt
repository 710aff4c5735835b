-- A reading that ends with its first mistake.
use Rattle.std.proofs.Common.{◌≡◌, Option, Some, None, ap, subst, sym}
use Rattle.std.specs.Prelude.{Result, Ok, Err, IfSome, IsErrAnd}
use Rattle.std.specs.Prelude.{option_map}
use Rattle.reuse_notice.specs.Adding.{Refusal}
use Rattle.reuse_notice.specs.Refusals.{refusal_view}
use Rattle.reuse_notice.specs.declared.adding.NoticeRefusal.{NoticeRefusal}
use Rattle.reuse_arguments.specs.LineFaults.{IsExpectedAs, Mistake, bad_additions, mistake_of, then_read}
use Rattle.reuse_arguments.specs.declared.line.LineFault.{LineFault}
use Rattle.reuse_arguments.specs.declared.line.LineFault.TheVariants as faults

-- a mistake stays one, whatever would be read next
pub mistake_first : {A B : Type 0} (expected : Result A Mistake) (next : A → Result B Mistake)
    (fault : LineFault) → IfSome
    (mistake_of fault) (λ mistake. expected ≡ Err mistake)
    → IfSome (mistake_of fault) (λ mistake. then_read expected next ≡ Err mistake)
mistake_first expected next fault h = go (mistake_of fault) h
  where
    go : (o : Option Mistake) → IfSome o (λ mistake. expected ≡ Err mistake) → IfSome o
        (λ mistake. then_read expected next ≡ Err mistake)
    go None h = tt
    go (Some mistake) h = ap (λ d. then_read d next) h

-- an answer that is a fault, behind the conversion that `?` makes
pub expected_after : {A B : Type 0} (seen : A → B) (expected : Result B Mistake) (answer : Result A LineFault)
    (fault : LineFault) → IsErrAnd answer (λ e. e ≡ fault)
    → IfSome (mistake_of fault) (λ mistake. expected ≡ Err mistake) → IsExpectedAs seen expected answer
expected_after seen expected (Err e) fault is h =
    subst (λ f. IfSome (mistake_of f) (λ mistake. expected ≡ Err mistake)) (sym is) h
expected_after seen expected (Ok a) fault is h = absurd is

-- a refusal as a fault
pub refused_mistake : {A : Type 0} (expected : Result A Mistake) (e : NoticeRefusal) → IfSome (refusal_view e)
    (λ refusal. expected ≡ Err (bad_additions refusal))
    → IfSome (mistake_of (faults.BadAdditions e)) (λ mistake. expected ≡ Err mistake)
refused_mistake expected e h = go (refusal_view e) h
  where
    go : (o : Option Refusal) → IfSome o (λ refusal. expected ≡ Err (bad_additions refusal)) → IfSome
        (option_map bad_additions o) (λ mistake. expected ≡ Err mistake)
    go None h = tt
    go (Some refusal) h = h

-- what is read next, behind what was read
pub read_on : {A B : Type 0} (expected : Result A Mistake) (next : A → Result B Mistake) (a : A) → expected ≡ Ok a
    → then_read expected next ≡ next a
read_on expected next a h = ap (λ d. then_read d next) h

-- a mistake of what is equal
pub mistake_same : {A : Type 0} (expected other : Result A Mistake) (fault : LineFault) → expected ≡ other → IfSome
    (mistake_of fault) (λ mistake. other ≡ Err mistake)
    → IfSome (mistake_of fault) (λ mistake. expected ≡ Err mistake)
mistake_same expected other fault e h = subst (λ d. IfSome (mistake_of fault) (λ mistake. d ≡ Err mistake)) (sym e) h

-- what answers something answers what is equal
pub expected_same : {A B : Type 0} (seen : A → B) (expected other : Result B Mistake)
    (answer : Result A LineFault) → expected
    ≡ other → IsExpectedAs seen other answer → IsExpectedAs seen expected answer
expected_same seen expected other answer e h = subst (λ d. IsExpectedAs seen d answer) (sym e) h

-- a mistake behind what was read
pub mistake_behind : {A B : Type 0} (expected : Result A Mistake) (next : A → Result B Mistake) (a : A)
    (fault : LineFault)
    → expected ≡ Ok a → IfSome (mistake_of fault) (λ mistake. next a ≡ Err mistake)
    → IfSome (mistake_of fault) (λ mistake. then_read expected next ≡ Err mistake)
mistake_behind expected next a fault e h =
    mistake_same (then_read expected next) (next a) fault (read_on expected next a e) h
