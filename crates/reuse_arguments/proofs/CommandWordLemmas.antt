-- The arguments of `annotate`, as they were found.
use Rattle.std.proofs.Common.{◌≡◌, ◌∙◌, ℕ, Bool, List, [], ◌∷◌, Bor, Option, Some, None, ap, refl, sym, map, codes}
use Rattle.std.specs.Prelude.{Result, Ok, Err, IfSome}
use Rattle.reuse_notice.specs.Adding.{Arguments, Refusal, additions_of, refusal_of, without_spaces}
use Rattle.reuse_notice.specs.Refusals.{arguments, refusal_view}
use Rattle.reuse_notice.specs.Texts.{texts_of}
use Rattle.reuse_notice.specs.declared.adding.Additions.{Additions}
use Rattle.reuse_notice.specs.declared.adding.NoticeRefusal.{NoticeRefusal}
use Rattle.reuse_notice.specs.declared.prefixes.Prefix.{Prefix}
use Rattle.reuse_arguments.specs.CommandWords.{arguments_of, named_prefix}
use Rattle.reuse_arguments.specs.Found.{Rows, flag, values}
use Rattle.reuse_arguments.specs.LineFaults.{Mistake, bad_additions, mistake_of, then_read, unless_refused}
use Rattle.reuse_arguments.specs.declared.line.LineFault.TheVariants as faults
use Rattle.reuse_arguments.proofs.LineFaultLemmas.{refused_mistake}

trimmed_texts : (texts : List (Bor (List ℕ))) (found : List (List ℕ)) → map (λ (text : Bor (List ℕ)). text.now) texts
    ≡ found → texts_of texts ≡ map without_spaces found
trimmed_texts texts found e = each texts ∙ ap (map without_spaces) e
  where
    each : (list : List (Bor (List ℕ))) → texts_of list ≡ map without_spaces
        (map (λ (text : Bor (List ℕ)). text.now) list)
    each [] = refl
    each (x ∷ xs) = ap (λ l. without_spaces x.now ∷ l) (each xs)

pub arguments_same : (found : Rows) (copyrights licences contributors years : List (Bor (List ℕ))) (exclude : Bool)
    (year : ℕ) (prefix : Prefix)
    → map (λ (text : Bor (List ℕ)). text.now) copyrights ≡ values found (codes "copyright") → map
    (λ (text : Bor (List ℕ)). text.now) licences ≡ values found (codes "license")
    → map (λ (text : Bor (List ℕ)). text.now) contributors ≡ values found (codes "contributor") → map
    (λ (text : Bor (List ℕ)). text.now) years ≡ values found (codes "year")
    → exclude ≡ flag found (codes "exclude-year")
    → arguments copyrights licences contributors years exclude year prefix ≡ arguments_of found year prefix
arguments_same found copyrights licences contributors years exclude year prefix a b c d e =
    let ta = trimmed_texts copyrights _ a in
    let tb = trimmed_texts licences _ b in
    let tc = trimmed_texts contributors _ c in
    let td = trimmed_texts years _ d in
    cc

pub additions_refused : (given wanted : Arguments) (e : NoticeRefusal) → given ≡ wanted → IfSome (refusal_view e)
    (λ refusal. refusal_of given ≡ Some refusal)
    → IfSome (mistake_of (faults.BadAdditions e)) (λ mistake. unless_refused (refusal_of wanted) (additions_of wanted)
    ≡ Err mistake)
additions_refused given wanted e same h = refused_mistake (unless_refused (refusal_of wanted) (additions_of wanted)) e
    (go (refusal_view e) h)
  where
    go : (o : Option Refusal) → IfSome o (λ refusal. refusal_of given ≡ Some refusal) → IfSome o
        (λ refusal. unless_refused (refusal_of wanted) (additions_of wanted) ≡ Err (bad_additions refusal))
    go None h = tt
    go (Some refusal) h = ap (λ o. unless_refused o (additions_of wanted)) (ap refusal_of (sym same) ∙ h)

pub additions_now : (given wanted : Arguments) (additions : Additions) → given ≡ wanted → refusal_of given ≡ None
    → additions ≡ additions_of given
    → unless_refused (refusal_of wanted) (additions_of wanted) ≡ Ok additions
additions_now given wanted additions same fit is = ap (λ o. unless_refused o (additions_of wanted))
    (ap refusal_of (sym same) ∙ fit) ∙ ap Ok (ap additions_of (sym same) ∙ sym is)

-- the prefix that is named
pub prefix_same : (found name : Option (List ℕ)) (next : Prefix → Result Additions Mistake) → name ≡ found → then_read
    (named_prefix found) next ≡ then_read (named_prefix name) next
prefix_same found name next e = ap (λ n. then_read (named_prefix n) next) (sym e)
