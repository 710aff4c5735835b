-- The names of new files.
use Rattle.std.proofs.Common.{◌≡◌, ◌<◌, ◌+◌, ◌^◌, ◌%◌, ℕ, Bool, true, false, not, cond, ◌&&◌, ◌==◌, [], ◌∷◌, length}
use Rattle.std.proofs.Common.{refl, sym, ◌∙◌, ap, ap₂, arith}
use Rattle.std.proofs.lemmas.Bool.Decides.{Decides-eqb, nat_tests}
use Rattle.std.proofs.lemmas.Bool.{false_from_ne_true}
use Rattle.std.proofs.lemmas.Fmt.{decimal_by_steps, decimal_injective, decimal_nonempty}
use Rattle.std.proofs.lemmas.List.Folds.{list_all-append}
use Rattle.std.specs.Char.{is_ascii_digit}
use Rattle.std.specs.Fmt.{decimal}
use Rattle.std.specs.List.{list_all}
use Rattle.reuse_system.specs.TempFiles.{beside_name, new_name}
use Rattle.reuse_system.specs.Ignored.{is_beside_name, is_new_name}
use Rattle.reuse_system.specs.declared.place.Identity.{Identity}

is_digit : (digit : ℕ) → digit < 10 → is_ascii_digit (48 + digit) ≡ true
is_digit digit low = grind (arith, nat_tests)

one_digit : (digit : ℕ) → digit < 10 → list_all is_ascii_digit ((48 + digit) ∷ []) ≡ true
one_digit digit low = ap (λ b. b && true) (is_digit digit low)

are_digits : (number : ℕ) → number < 2 ^ 64 → list_all is_ascii_digit (decimal number) ≡ true
are_digits number short =
    decimal_by_steps (λ n digits. list_all is_ascii_digit digits ≡ true) one_digit
    (λ n digits high all. list_all-append is_ascii_digit digits ((48 + n % 10) ∷ [])
    ∙ ap₂ (λ a b. a && b) all (one_digit (n % 10) (omega arith)))
    number short

is_some : (number : ℕ) → number < 2 ^ 64 → (length (decimal number) == 0) ≡ false
is_some number short = false_from_ne_true _
    (λ none. omega (arith, decimal_nonempty number short, (Decides-eqb (length (decimal number)) 0).0 none))

-- the name with a dot and a number behind it
pub numbered_is_new : (number : ℕ) → number < 2 ^ 64 → is_new_name (110 ∷ 101 ∷ 119 ∷ 46 ∷ decimal number) ≡ true
numbered_is_new number short = ap₂ (λ a b. not a && b) (is_some number short) (are_digits number short)

-- the name of a number, by whether it is 0
named_by : (number : ℕ) (is_zero : Bool) → (number == 0) ≡ is_zero
    → new_name number ≡ cond is_zero (110 ∷ 101 ∷ 119 ∷ []) (110 ∷ 101 ∷ 119 ∷ 46 ∷ decimal number)
named_by number is_zero is = ap (λ b. cond b (110 ∷ 101 ∷ 119 ∷ []) (110 ∷ 101 ∷ 119 ∷ 46 ∷ decimal number)) is

differ_by : (one other : ℕ) (is_zero is_other : Bool) → (one == 0) ≡ is_zero → (other == 0) ≡ is_other → one < 2 ^ 64
    → other < 2 ^ 64
    → cond is_zero (110 ∷ 101 ∷ 119 ∷ []) (110 ∷ 101 ∷ 119 ∷ 46 ∷ decimal one) ≡ cond is_other (110 ∷ 101 ∷ 119 ∷ [])
    (110 ∷ 101 ∷ 119 ∷ 46 ∷ decimal other) → one ≡ other
differ_by one other true true zero also low high same = (Decides-eqb one 0).0 zero ∙ sym ((Decides-eqb other 0).0 also)
differ_by one other true false zero also low high same = absurd (cc)
differ_by one other false true zero also low high same = absurd (cc)
differ_by one other false false zero also low high same = let digits : decimal one ≡ decimal other = cc in
    decimal_injective one other low high digits

-- no two numbers have one name
pub new_names_differ : (one other : ℕ) → one < 2 ^ 64 → other < 2 ^ 64 → new_name one ≡ new_name other → one ≡ other
new_names_differ one other low high same =
    differ_by one other (one == 0) (other == 0) refl refl low high
    (sym (named_by one (one == 0) refl) ∙ same ∙ named_by other (other == 0) refl)

-- each number has a name of a new file
new_by : (number : ℕ) (is_zero : Bool) → (number == 0) ≡ is_zero → number < 2 ^ 64
    → is_new_name (cond is_zero (110 ∷ 101 ∷ 119 ∷ []) (110 ∷ 101 ∷ 119 ∷ 46 ∷ decimal number)) ≡ true
new_by number true is short = refl
new_by number false is short = numbered_is_new number short

pub new_name_is_new : (number : ℕ) → number < 2 ^ 64 → is_new_name (new_name number) ≡ true
new_name_is_new number short =
    ap is_new_name (named_by number (number == 0) refl) ∙ new_by number (number == 0) refl short

-- a file beside another has a name that is kept for such files, and none of the other new files
pub beside_is_kept : (new_files : Identity) → new_files.number < 2 ^ 64 → is_beside_name (beside_name new_files) ≡ true
beside_is_kept new_files short =
    ap₂ (λ a b. not a && b) (is_some new_files.number short) (are_digits new_files.number short)

pub beside_is_not_new : (new_files : Identity) → is_new_name (beside_name new_files) ≡ false
beside_is_not_new new_files = refl
