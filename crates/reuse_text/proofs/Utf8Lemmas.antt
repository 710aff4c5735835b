-- What is read of bytes where they are UTF-8.
use Rattle.std.proofs.Common.{◌≡◌, ℕ, Bool, true, false, cond, List, Option, None, refl}
use Rattle.std.specs.Prelude.{if◌then◌else◌}
use Rattle.std.specs.Str.{is_utf8, IsUtf8}
use Rattle.std.proofs.lemmas.Str.{IsUtf8-from_is_utf8, is_utf8-from_IsUtf8}

module _ {A : Type 0} (read : List ℕ → Option A) (bytes : List ℕ) where
  -- bytes that are UTF-8 are read
  pub read_if_utf8 : (answer : Option A) → IsUtf8 bytes → read bytes ≡ answer
      → (if is_utf8 bytes then read bytes else None) ≡ answer
  read_if_utf8 answer utf8 e = rw (is_utf8-from_IsUtf8 bytes utf8) e

  -- nothing is read of bytes that are not, or in which nothing is found
  pub none_if_utf8 : (IsUtf8 bytes → read bytes ≡ None) → (if is_utf8 bytes then read bytes else None) ≡ None
  none_if_utf8 unread = by_test (is_utf8 bytes) refl
    where
      by_test : (b : Bool) → is_utf8 bytes ≡ b → cond b (read bytes) None ≡ None
      by_test true e = unread (IsUtf8-from_is_utf8 bytes e)
      by_test false e = refl
