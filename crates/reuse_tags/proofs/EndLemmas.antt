-- The end of a value, closer by closer.
use Rattle.std.proofs.Common.{◌≡◌, ℕ, suc, List, Some, None, refl, sym, ap, ◌∙◌}
use Rattle.std.specs.Option.{option_map_or}
use Rattle.reuse_notice.specs.Tags.{drop_end}
use Rattle.reuse_tags.specs.Ends.{is_blank_or_quote, before_closer, without_closers}

pub closers-zero : (n : ℕ) (text : List ℕ) → n ≡ 0 → without_closers n text ≡ text
unfolding without_closers
closers-zero n text e = ap (λ k. without_closers k text) e

closers-suc : (n : ℕ) (text : List ℕ) → without_closers (suc n) text
    ≡ option_map_or (λ front. without_closers n (drop_end is_blank_or_quote front)) (before_closer text) text
unfolding without_closers
closers-suc n text = refl

pub closers-stop : (n m : ℕ) (text : List ℕ) → n ≡ suc m → before_closer text ≡ None → text ≡ without_closers n text
closers-stop n m text size e =
    sym (ap (λ k. without_closers k text) size ∙ closers-suc m text
    ∙ ap (λ o. option_map_or (λ front. without_closers m (drop_end is_blank_or_quote front)) o text) e)

pub closers-more : (n m : ℕ) (text front rest : List ℕ) → n ≡ suc m → before_closer text ≡ Some front
    → rest ≡ drop_end is_blank_or_quote front → without_closers m rest ≡ without_closers n text
closers-more n m text front rest size e is =
    ap (without_closers m) is
    ∙ sym (ap (λ k. without_closers k text) size ∙ closers-suc m text
    ∙ ap (λ o. option_map_or (λ f. without_closers m (drop_end is_blank_or_quote f)) o text) e)
