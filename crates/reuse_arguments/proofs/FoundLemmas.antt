-- What clap's getters read, by the rows of what was found.
use Rattle.std.proofs.Common.{◌≡◌, ◌^◌, ◌<◌, ◌∙◌, ℕ, Bool, true, false, List, Option, Some, None, refl, sym, ap, cond}
use Rattle.std.proofs.Common.{codes, arith}
use Rattle.std.specs.Prelude.{Result, Ok, Err, unwrap_or, option_and_then}
use Rattle.std.specs.Option.{option_map_or}
use Rattle.std.specs.Str.{bytes_eq}
use Rattle.std.specs.Str.Parse.{IsNumeral, ParsesBool, ParsesUnsigned, digits_value, without_leading_plus}
use Rattle.std.proofs.lemmas.Bool.{false_from_ne_true}
use Rattle.std.proofs.lemmas.Slice.Eq.{bytes_eq-Decides}
use Rattle.clap.specs.Matches.{ReadsOne, one_text}
use Rattle.clap.specs.Values.{IsUnsignedIn}
use Rattle.clap.specs.ValueTests.{is_unsigned_in}
use Rattle.clap.specs.Walk.{rows_of}
use Rattle.clap.specs.declared.builder.value_parser.ValueParser.TheVariants as vp
use Rattle.clap.specs.declared.parser.matches.Found.{Found}
use Rattle.clap.proofs.ValueTestLemmas.{Accepts-accepts, accepts-Accepts}
use Rattle.clap.proofs.WalkLemmas.{one_text-rows}
use Rattle.reuse_arguments.specs.Found.{flag, number, number_of}

pub number_ok : (text : List ℕ) (n : ℕ) → (IsNumeral 10 (without_leading_plus text) ×
    (digits_value 10 (without_leading_plus text) < 2 ^ 32)) × (n ≡ digits_value 10 (without_leading_plus text))
    → Some n ≡ number_of text
unfolding number_of
number_ok text n h =
    let fits : IsUnsignedIn 0 4_294_967_295 text = (h.0.0, omega (arith, h.0.1), omega arith, omega (arith, h.0.1)) in
    sym (ap (λ b. cond b (Some (digits_value 10 (without_leading_plus text))) None)
    (Accepts-accepts false (vp.Unsigned 0 4_294_967_295) text fits) ∙ ap Some (sym h.1))

pub number_err : (text : List ℕ) → ¬ (IsNumeral 10 (without_leading_plus text) ×
    (digits_value 10 (without_leading_plus text) < 2 ^ 32)) → None ≡ number_of text
unfolding number_of
number_err text h = go (is_unsigned_in 0 4_294_967_295 text) refl
  where
    go : (b : Bool) → is_unsigned_in 0 4_294_967_295 text ≡ b → None ≡ cond b
        (Some (digits_value 10 (without_leading_plus text))) None
    go false is = refl
    go true is =
        let fits : IsUnsignedIn 0 4_294_967_295 text = accepts-Accepts false (vp.Unsigned 0 4_294_967_295) text is in
        absurd (h (fits.0, omega (arith, fits.3)))

-- a number that `get_one` reads
pub one_number : (E : Type 0) (gives : List ℕ → Result ℕ E → Type 0) →
    ((text : List ℕ) (r : Result ℕ E) → gives text r → ParsesUnsigned 32 10 text r)
    → (found : Found) (name : List ℕ) (read : Option ℕ) → (one_text found name ≡ None → read ≡ None) →
    ((text : List ℕ) → one_text found name ≡ Some text → ReadsOne gives text read)
    → read ≡ number (rows_of found) name
unfolding number
one_number E gives sound found name read none some =
    go (one_text found name) refl ∙ ap (option_and_then number_of) (one_text-rows found name)
  where
    of_text : (text : List ℕ) (r : Option ℕ) → ReadsOne gives text r → r ≡ number_of text
    of_text text (Some n) h = number_ok text n (sound text (Ok n) h)
    of_text text None h = number_err text (sound text (Err h.0) h.1)

    go : (o : Option (List ℕ)) → one_text found name ≡ o → read ≡ option_and_then number_of o
    go None e = none e
    go (Some text) e = of_text text read (some text e)

-- a flag that `get_one` reads
pub one_flag : (E : Type 0) (found : Found) (name : List ℕ) (read : Option Bool) →
    (one_text found name ≡ None → read ≡ None)
    → ((text : List ℕ) → one_text found name ≡ Some text → ReadsOne {E = E} ParsesBool text read)
    → unwrap_or read false ≡ flag (rows_of found) name
unfolding flag
one_flag E found name read none some = go (one_text found name) refl ∙ ap
    (λ o. option_map_or (λ text. bytes_eq text (codes "true")) o false) (one_text-rows found name)
  where
    of_text : (text : List ℕ) (r : Option Bool) → ReadsOne {E = E} ParsesBool text r → unwrap_or r false
        ≡ bytes_eq text (codes "true")
    of_text text (Some true) h = sym (ap (λ t. bytes_eq t (codes "true")) h)
    of_text text (Some false) h = sym (ap (λ t. bytes_eq t (codes "true")) h)
    of_text text None h = sym (false_from_ne_true _ (λ is. h.1.0 ((bytes_eq-Decides text (codes "true")).0 is)))

    go : (o : Option (List ℕ)) → one_text found name ≡ o → unwrap_or read false ≡ option_map_or
        (λ text. bytes_eq text (codes "true")) o false
    go None e = ap (λ o. unwrap_or o false) (none e)
    go (Some text) e = of_text text read (some text e)
