-- The search for years behind a holder, comma by comma.
use Rattle.std.proofs.Common.{◌≡◌, ℕ, suc, List, [], Some, None, refl, sym, ap, ◌∙◌}
use Rattle.std.specs.Option.{option_map_or}
use Rattle.reuse_notice.specs.Tags.{drop_front}
use Rattle.reuse_amend.specs.NoticeParts.{is_no_comma, next_searched, years_tail}

pub tail-zero : (n : ℕ) (text : List ℕ) → n ≡ 0 → years_tail n text ≡ []
unfolding years_tail
tail-zero n text e = ap (λ k. years_tail k text) e

tail-suc : (n : ℕ) (text : List ℕ) → years_tail (suc n) text ≡ option_map_or (years_tail n)
    (next_searched (drop_front is_no_comma text)) (drop_front is_no_comma text)
unfolding years_tail
tail-suc n text = refl

pub tail-stop : (n m : ℕ) (text tail : List ℕ) → n ≡ suc m → tail ≡ drop_front is_no_comma text
    → next_searched tail ≡ None → tail ≡ years_tail n text
tail-stop n m text tail size is e =
    sym (ap (λ k. years_tail k text) size ∙ tail-suc m text ∙ ap (λ t. option_map_or (years_tail m) (next_searched t) t)
    (sym is)
    ∙ ap (λ o. option_map_or (years_tail m) o tail) e)

pub tail-more : (n m : ℕ) (text tail rest : List ℕ) → n ≡ suc m → tail ≡ drop_front is_no_comma text
    → next_searched tail ≡ Some rest
    → years_tail m rest ≡ years_tail n text
tail-more n m text tail rest size is e =
    sym (ap (λ k. years_tail k text) size ∙ tail-suc m text ∙ ap (λ t. option_map_or (years_tail m) (next_searched t) t)
    (sym is)
    ∙ ap (λ o. option_map_or (years_tail m) o tail) e)
