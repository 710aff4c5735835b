-- A look-up in the ready lines, which the code has in parts.
use Rattle.std.proofs.Common.{◌≡◌, ◌∙◌, ℕ, Bool, true, false, cond, List, [], ◌∷◌, ◌++◌, Option, Some}
use Rattle.std.proofs.Common.{None, refl, sym, ap}
use Rattle.std.specs.List.{filter_map}
use Rattle.std.specs.Option.{option_or}
use Rattle.std.specs.Str.{str_eq_ignore_ascii_case}
use Rattle.std.proofs.lemmas.List.Elements.{filter_map-append}
use Rattle.reuse_style.specs.Names.{lookup}
use Rattle.reuse_ready.specs.Ready.{ReadyLine, named, listed_style, table_names, uncommentable_names}
use Rattle.reuse_ready.specs.Ready.{other_names, later_names}

lookup-append : {A : Type 0} (xs ys : List (List ℕ × A)) (name : List ℕ)
    → lookup (xs ++ ys) name ≡ option_or (lookup xs name) (lookup ys name)
unfolding lookup
lookup-append [] ys name = refl
lookup-append {A} (x ∷ xs) ys name = by (str_eq_ignore_ascii_case x.0 name) (lookup-append xs ys name)
  where
    by : (b : Bool) → lookup (xs ++ ys) name ≡ option_or (lookup xs name) (lookup ys name)
        → cond b (Some x.1) (lookup (xs ++ ys) name) ≡ option_or (cond b (Some x.1) (lookup xs name)) (lookup ys name)
    by true e = refl
    by false e = e

-- a look-up in two parts of the lines
in_parts : (xs ys : List ReadyLine) (name : List ℕ) → lookup (filter_map named (xs ++ ys)) name ≡ option_or
    (lookup (filter_map named xs) name) (lookup (filter_map named ys) name)
in_parts xs ys name = ap (λ (names : List (List ℕ × List ℕ)). lookup names name) (filter_map-append named xs ys)
    ∙ lookup-append (filter_map named xs) (filter_map named ys) name

-- what the first part has
first_has : (xs ys : List ReadyLine) (name style : List ℕ) → Some style ≡ lookup (filter_map named xs) name
    → Some style ≡ lookup (filter_map named (xs ++ ys)) name
first_has xs ys name style e = sym (in_parts xs ys name ∙ ap
    (λ (o : Option (List ℕ)). option_or o (lookup (filter_map named ys) name)) (sym e))

-- what the second part has, where the first has nothing
second_has : (xs ys : List ReadyLine) (name : List ℕ) (found : Option (List ℕ))
    → None ≡ lookup (filter_map named xs) name → found ≡ lookup (filter_map named ys) name
    → found ≡ lookup (filter_map named (xs ++ ys)) name
second_has xs ys name found none e = e ∙ sym (in_parts xs ys name ∙ ap
    (λ (o : Option (List ℕ)). option_or o (lookup (filter_map named ys) name)) (sym none))

pub listed_first : (name style : List ℕ) → Some style ≡ lookup (filter_map named table_names) name
    → Some style ≡ listed_style name
unfolding listed_style
listed_first name style e = first_has table_names later_names name style e

pub listed_second : (name : List ℕ) (found : Option (List ℕ)) → None ≡ lookup (filter_map named table_names) name
    → found ≡ lookup (filter_map named later_names) name → found ≡ listed_style name
unfolding listed_style
listed_second name found none e = second_has table_names later_names name found none e

pub later_first : (name style : List ℕ) → Some style ≡ lookup (filter_map named uncommentable_names) name
    → Some style ≡ lookup (filter_map named later_names) name
unfolding later_names
later_first name style e = first_has uncommentable_names other_names name style e

pub later_second : (name : List ℕ) (found : Option (List ℕ))
    → None ≡ lookup (filter_map named uncommentable_names) name → found ≡ lookup (filter_map named other_names) name
    → found ≡ lookup (filter_map named later_names) name
unfolding later_names
later_second name found none e = second_has uncommentable_names other_names name found none e
