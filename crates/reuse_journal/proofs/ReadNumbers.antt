-- Entries that are read number by number.
use Rattle.std.proofs.Common.{◌≡◌, ⊎_elim, ℕ, ◌+◌, ◌<◌, Bool, true, false, nat_lt, if◌then◌else◌, List, [], ◌∷◌, ◌++◌}
use Rattle.std.proofs.Common.{length, length-append, get_or, take, drop, Option, Some, None, refl, sym, ap, subst, ◌∙◌}
use Rattle.std.proofs.Common.{arith}
use Rattle.std.specs.List.{All, AllZip}
use Rattle.std.proofs.lemmas.Bool.{ltb-true, ltb-false}
use Rattle.std.proofs.lemmas.List.{take_more}
use Rattle.std.proofs.lemmas.List.Elements.{All-push, All-contains, Contains-append_left, Contains-push}
use Rattle.std.proofs.lemmas.List.Elements.{Contains-push_cases}
use Rattle.std.proofs.lemmas.Slice.Zip.{all_zipped_more}
use Rattle.reuse_change.specs.Files.{Files}
use Rattle.reuse_journal.specs.Opening.{least, IsReadable, IsListedIn, IsLeastFound, IsLeastUnreadable}
use Rattle.reuse_journal.specs.declared.history.ListedEntry.{ListedEntry}

module _ (folder : Files) (numbers : List ℕ) (i n : ℕ) (lt : i < length numbers) (is : n ≡ get_or numbers i 0) where
  front : take (i + 1) numbers ≡ take i numbers ++ n ∷ []
  front = take_more numbers i 0 lt ∙ ap (λ m. take i numbers ++ m ∷ []) (sym is)

  pub long_more : (entries : List ListedEntry) (entry : ListedEntry) → length entries ≡ length (take i numbers)
      → length (entries ++ entry ∷ []) ≡ length (take (i + 1) numbers)
  long_more entries entry long =
      omega (arith, length-append entries (entry ∷ []), length-append (take i numbers) (n ∷ []), ap length front)

  pub listed_more : (entries : List ListedEntry) (entry : ListedEntry)
      → AllZip (IsListedIn folder) (take i numbers) entries → IsListedIn folder n entry
      → AllZip (IsListedIn folder) (take (i + 1) numbers) (entries ++ entry ∷ [])
  listed_more entries entry all here =
      subst (λ ns. AllZip (IsListedIn folder) ns (entries ++ entry ∷ [])) (sym front)
      (all_zipped_more (IsListedIn folder) (take i numbers) entries n entry all here)

  -- one more that can be read
  pub found_readable : (unreadable : Option ℕ) → IsLeastFound folder (take i numbers) unreadable → IsReadable folder n
      → IsLeastFound folder (take (i + 1) numbers) unreadable
  found_readable None all here =
      subst (All (IsReadable folder)) (sym front) (All-push (IsReadable folder) (take i numbers) n all here)
  found_readable (Some m) found here = subst (λ ns. IsLeastUnreadable folder ns m) (sym front) (record {
    among = Contains-append_left (take i numbers) (n ∷ []) m found.among;
    unreadable = found.unreadable;
    first = λ other among lower. ⊎_elim
        (λ before. found.first other before lower)
        (λ (same : n ≡ other). subst (IsReadable folder) same here)
        (Contains-push_cases (take i numbers) n other among);
  })

  -- one more that can't
  pub found_unreadable : (unreadable : Option ℕ) → IsLeastFound folder (take i numbers) unreadable
      → (IsReadable folder n → ⊥) → IsLeastFound folder (take (i + 1) numbers) (Some (least unreadable n))
  found_unreadable None all not_here = subst (λ ns. IsLeastUnreadable folder ns n) (sym front) (record {
    among = Contains-push (take i numbers) n;
    unreadable = not_here;
    first = λ other among lower. ⊎_elim
        (λ before. All-contains (IsReadable folder) (take i numbers) other all before)
        (λ (same : n ≡ other). absurd (omega arith))
        (Contains-push_cases (take i numbers) n other among);
  })
  found_unreadable (Some m) found not_here = at_test (nat_lt m n) refl
    where
      at_test : (b : Bool) → nat_lt m n ≡ b → IsLeastFound folder (take (i + 1) numbers) (Some (if b then m else n))
      at_test true e = subst (λ ns. IsLeastUnreadable folder ns m) (sym front) (record {
        among = Contains-append_left (take i numbers) (n ∷ []) m found.among;
        unreadable = found.unreadable;
        first = λ other among lower. ⊎_elim
            (λ before. found.first other before lower)
            (λ (same : n ≡ other). absurd (omega (arith, ltb-true m n e)))
            (Contains-push_cases (take i numbers) n other among);
      })
      at_test false e = subst (λ ns. IsLeastUnreadable folder ns n) (sym front) (record {
        among = Contains-push (take i numbers) n;
        unreadable = not_here;
        first = λ other among lower. ⊎_elim
            (λ before. found.first other before (omega (arith, ltb-false m n e)))
            (λ (same : n ≡ other). absurd (omega arith))
            (Contains-push_cases (take i numbers) n other among);
      })

-- what is in two lists together with one, in parts
pub zip_parts : {A B : Type 0} (R : A → B → Type 0) (xs ys : List A) (zs : List B) → AllZip R (xs ++ ys) zs
    → AllZip R xs (take (length xs) zs) × AllZip R ys (drop (length xs) zs)
zip_parts R [] ys zs all = (tt, all)
zip_parts R (x ∷ xs) ys [] all = absurd all
zip_parts R (x ∷ xs) ys (z ∷ zs) all = let more = zip_parts R xs ys zs all.1 in ((all.0, more.0), more.1)
