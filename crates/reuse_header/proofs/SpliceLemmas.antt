-- When an edit makes the file itself.
use Rattle.std.proofs.Common.{◌≡◌, ℕ, ◌+◌, ◌-◌, Bool, true, false, List, ◌++◌, take, drop, None, Some, refl, sym, ap}
use Rattle.std.proofs.Common.{◌∙◌, append_assoc, arith}
use Rattle.std.specs.Str.{bytes_eq}
use Rattle.std.proofs.lemmas.List.{append_cancel_left, append_cancel_right, take-append-drop, drop-drop}
use Rattle.std.proofs.lemmas.Bool.Decides.{same_from_decides, Decides-like}
use Rattle.std.proofs.lemmas.Slice.Eq.{bytes_eq-Decides}
use Rattle.reuse_text.specs.Text.{spliced}
use Rattle.reuse_header.specs.Splices.{splice_at}

-- bytes in their own place
in_place : (file : List ℕ) (start n : ℕ) → spliced file start n (take n (drop start file)) ≡ file
in_place file start n =
    append_assoc (take start file) (take n (drop start file)) (drop (start + n) file)
    ∙ ap (λ bytes. take start file ++ (take n (drop start file) ++ bytes)) (sym (drop-drop n start file))
    ∙ ap (λ bytes. take start file ++ bytes) (take-append-drop n (drop start file))
    ∙ take-append-drop start file

other_bytes : (file new old : List ℕ) (start n : ℕ) → spliced file start n new ≡ spliced file start n old → new ≡ old
other_bytes file new old start n e = append_cancel_left (take start file) new old
    (append_cancel_right (take start file ++ new) (take start file ++ old) (drop (start + n) file) e)

-- the file is the same where the new bytes are the old ones
same_file : (file new : List ℕ) (start n : ℕ)
    → bytes_eq new (take n (drop start file)) ≡ bytes_eq (spliced file start n new) file
same_file file new start n =
    let old = take n (drop start file) in
    same_from_decides _ _
    (Decides-like _ (λ e. ap (spliced file start n) e ∙ in_place file start n)
    (λ e. other_bytes file new old start n (e ∙ sym (in_place file start n))) (bytes_eq-Decides new old))
    (bytes_eq-Decides (spliced file start n new) file)

-- the range of a slice is its length
range : (file : List ℕ) (start n : ℕ) → take (start + n - start) (drop start file) ≡ take n (drop start file)
range file start n = let e : start + n - start ≡ n = omega arith in rw e refl

-- no change, where the lent bytes that are new are those of the range
pub splice_at-none : (file : List ℕ) (start n : ℕ) (new : List ℕ) {same : Bool} {lent : List ℕ} → same ≡ true
    → same ≡ bytes_eq lent (take (start + n - start) (drop start file)) → lent ≡ new
    → splice_at file start n new ≡ None
splice_at-none file start n new same_bytes test is =
    let e = sym (same_file file new start n) ∙ ap (bytes_eq new) (sym (range file start n))
    ∙ ap (λ bytes. bytes_eq bytes (take (start + n - start) (drop start file))) (sym is) ∙ sym test ∙ same_bytes in
    rw e refl

-- a change, where they are others
pub splice_at-some : (file : List ℕ) (start n : ℕ) (new : List ℕ) {same : Bool} {lent old : List ℕ} → same ≡ false
    → same ≡ bytes_eq lent (take (start + n - start) (drop start file)) → lent ≡ new
    → old ≡ take (start + n - start) (drop start file)
    → splice_at file start n new ≡ Some (record { at = start; old = old; new = new })
splice_at-some file start n new differ test is taken =
    let e = sym (same_file file new start n) ∙ ap (bytes_eq new) (sym (range file start n))
    ∙ ap (λ bytes. bytes_eq bytes (take (start + n - start) (drop start file))) (sym is) ∙ sym test ∙ differ in
    rw (e, taken, range file start n) refl
