-- The change between two texts makes the one the other.
use Rattle.std.proofs.Common.{◌≡◌, ℕ, suc, ◌+◌, ◌-◌, ◌≤◌, Bool, true, false, List, [], ◌∷◌, ◌++◌, length, take, drop}
use Rattle.std.proofs.Common.{reverse, refl, sym, ap, ◌∙◌, arith, cond, append_assoc}
use Rattle.std.specs.Prelude.{nat_eq}
use Rattle.std.specs.List.{common_prefix_len}
use Rattle.std.proofs.lemmas.List.{take-append-drop, reverse-append, reverse-reverse, length-reverse, length-drop}
use Rattle.std.proofs.lemmas.List.{drop-drop}
use Rattle.std.proofs.Math.Seq.{drop-append_seam}
use Rattle.std.proofs.lemmas.List.Sums.{common_prefix_len-le}
use Rattle.std.proofs.lemmas.Bool.Decides.{Decides-eqb}
use Rattle.reuse_text.specs.Text.{spliced}
use Rattle.reuse_toml.specs.TomlAmending.{same_front, same_end, change_between}

-- the bytes that two texts begin with alike
front-alike : (xs ys : List ℕ) → take (common_prefix_len nat_eq xs ys) xs ≡ take (common_prefix_len nat_eq xs ys) ys
front-alike [] ys = refl
front-alike (x ∷ xs) [] = refl
front-alike (x ∷ xs) (y ∷ ys) = by (nat_eq x y) refl (front-alike xs ys)
  where
    by : (b : Bool) → nat_eq x y ≡ b → take (common_prefix_len nat_eq xs ys) xs ≡ take
        (common_prefix_len nat_eq xs ys) ys → take (cond b (1 + common_prefix_len nat_eq xs ys) 0) (x ∷ xs) ≡ take
        (cond b (1 + common_prefix_len nat_eq xs ys) 0) (y ∷ ys)
    by false e more = refl
    by true e more =
        let n = common_prefix_len nat_eq xs ys in
        let one : 1 + n ≡ suc n = omega arith in
        ap (λ k. take k (x ∷ xs)) one ∙ ap (λ z. z ∷ take n xs) ((Decides-eqb x y).0 e) ∙ ap (λ zs. y ∷ zs) more
        ∙ sym (ap (λ k. take k (y ∷ ys)) one)

-- the end of a list, as the front of it reversed
end-is : (xs : List ℕ) (e : ℕ) → e ≤ length xs → drop (length xs - e) xs ≡ reverse (take e (reverse xs))
end-is xs e within =
    let front = reverse (drop e (reverse xs)) in
    let back = reverse (take e (reverse xs)) in
    let whole : xs ≡ front ++ back =
    sym (reverse-reverse xs) ∙ ap reverse (sym (take-append-drop e (reverse xs)))
    ∙ reverse-append (take e (reverse xs)) (drop e (reverse xs)) in
    let len : length front ≡ length xs - e =
    length-reverse (drop e (reverse xs)) ∙ length-drop e (reverse xs) ∙ ap (λ n. n - e) (length-reverse xs) in
    ap (λ n. drop n xs) (sym len) ∙ ap (drop (length front)) whole ∙ drop-append_seam front back

ends-alike : (xs ys : List ℕ) → drop (length xs - same_end xs ys) xs ≡ drop (length ys - same_end xs ys) ys
ends-alike xs ys =
    let within = common_prefix_len-le nat_eq (reverse xs) (reverse ys) in
    let low : same_end xs ys ≤ length xs = omega (arith, within.0, length-reverse xs) in
    let other : same_end xs ys ≤ length ys = omega (arith, within.1, length-reverse ys) in
    end-is xs (same_end xs ys) low ∙ ap reverse (front-alike (reverse xs) (reverse ys))
    ∙ sym (end-is ys (same_end xs ys) other)

pub change-makes : (file text : List ℕ)
    → spliced file (change_between file text).at (change_between file text).old (change_between file text).new ≡ text
change-makes file text =
    let at = same_front file text in
    let old = drop at file in
    let new = drop at text in
    let end = same_end old new in
    let kept = take (length new - end) new in
    append_assoc (take at file) kept (drop (at + (length old - end)) file)
    ∙ ap (λ xs. take at file ++ (kept ++ xs)) (sym (drop-drop (length old - end) at file) ∙ ends-alike old new)
    ∙ ap (λ xs. take at file ++ xs) (take-append-drop (length new - end) new)
    ∙ ap (λ xs. xs ++ new) (front-alike file text)
    ∙ take-append-drop at text

-- the range of the change stands in the file
pub change-within : (file text : List ℕ) → (change_between file text).at + (change_between file text).old ≤ length file
change-within file text =
    let low = (common_prefix_len-le nat_eq file text).0 in
    let len = length-drop (same_front file text) file in
    omega (arith, low, len)
