-- The change of a file that an annotation's splice is.
use Rattle.std.proofs.Common.{◌≡◌, ℕ, ◌+◌, ◌-◌, ◌≤◌, false, List, ◌++◌, length, take, drop, Some, refl, sym, ap, ◌∙◌}
use Rattle.std.proofs.Common.{arith, length-append, append_assoc, length-drop, bytes_eq, option_map}
use Rattle.sha2.specs.Sha256.{sha256}
use Rattle.reuse_command.specs.Reading.{get, Files}
use Rattle.std.proofs.lemmas.Bool.{false≢true}
use Rattle.std.proofs.lemmas.List.{take-append-drop, length-take-le, drop-drop}
use Rattle.std.proofs.lemmas.Slice.Eq.{bytes_eq-Decides}
use Rattle.reuse_change.specs.Change.{sealed_splice}
use Rattle.reuse_text.specs.declared.TheConstants.{LONGEST_FILE}
use Rattle.reuse_edit.specs.Answered.{CarriesOutEdit}

-- the three parts of a file
pub three_parts : (bytes : List ℕ) (s n : ℕ) → bytes ≡ take s bytes ++ take n (drop s bytes) ++ drop (s + n) bytes
three_parts bytes s n =
    sym (append_assoc (take s bytes) (take n (drop s bytes)) (drop (s + n) bytes)
    ∙ ap (λ xs. take s bytes ++ (take n (drop s bytes) ++ xs)) (sym (drop-drop n s bytes))
    ∙ ap (λ xs. take s bytes ++ xs) (take-append-drop n (drop s bytes)) ∙ take-append-drop s bytes)

module _ (bytes : List ℕ) (s n : ℕ) (within : s + n ≤ length bytes) where
  front_len : length (take s bytes) ≡ s
  front_len = length-take-le s bytes (omega (arith, within))

  old_len : length (take n (drop s bytes)) ≡ n
  old_len = length-take-le n (drop s bytes) (omega (arith, within, length-drop s bytes))

  pub rest_len : length bytes - s - length (take n (drop s bytes)) ≡ length (drop (s + n) bytes)
  rest_len = omega (arith, old_len, length-drop (s + n) bytes, within)

  -- the sealed splice of a file, where it changes something
  pub makes_splice : (tree : Files) (at new : List ℕ) → get tree at ≡ Some bytes → length bytes ≤ LONGEST_FILE
      → length (take s bytes ++ new ++ drop (s + n) bytes) ≤ LONGEST_FILE
      → bytes_eq (take s bytes ++ new ++ drop (s + n) bytes) bytes ≡ false
      → CarriesOutEdit tree (sealed_splice at bytes s (take n (drop s bytes)) new) (record {
        path = at;
        removed = take n (drop s bytes);
        written = new;
        file = Some (take s bytes ++ new ++ drop (s + n) bytes);
      })
  makes_splice tree at new here short fits differs = record {
    path = refl;
    removed = refl;
    written = refl;
    proper = λ e. false≢true (sym differs ∙ (bytes_eq-Decides _ bytes).1
        (ap (λ o. take s bytes ++ o ++ drop (s + n) bytes) (sym e) ∙ sym (three_parts bytes s n)));
    small = (
      omega (arith, old_len, rest_len, length-drop (s + n) bytes, within, short),
      omega (
        arith,
        front_len,
        rest_len,
        fits,
        length-append (take s bytes ++ new) (drop (s + n) bytes),
        length-append (take s bytes) new,
      ),
    );
    applies = record {
      range = (
        take s bytes,
        drop (s + n) bytes,
        record { whole = here ∙ ap (λ b. Some b) (three_parts bytes s n); before = front_len; behind = sym rest_len },
        record { whole = refl; before = front_len; behind = sym rest_len },
      );
      from = ap (option_map sha256) here;
      to = ap (λ m. Some (sha256 (take s bytes ++ new ++ drop (s + m) bytes))) (sym old_len);
    };
    sealed = refl;
  }
