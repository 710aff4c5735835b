-- Files stay good: paths are good, and none is a folder of another.
use Rattle.std.proofs.Common.{◌≡◌, ◌≢◌, ◌⊎◌, inl, inr, ⊎_elim, ℕ, Bool, true, false, ◌&&◌, ◌||◌, List, length, Option}
use Rattle.std.proofs.Common.{None, IsTrue, IsSome, is_some, nat_eq, refl, sym, ap, subst, ◌∙◌}
use Rattle.std.specs.List.{starts_with}
use Rattle.std.specs.FinMap.{get, insert, remove}
use Rattle.std.proofs.Math.Nat.{le_refl}
use Rattle.std.proofs.lemmas.Bool.{false≢true}
use Rattle.std.proofs.lemmas.List.{get_or_past}
use Rattle.reuse_change.specs.Path.{is_path, lies_under}
use Rattle.reuse_change.specs.Files.{Files, Clashes, AreFiles}
use Rattle.reuse_store.specs.Store.{Puts}
use Rattle.reuse_change.proofs.FileMaps.{same_or_other, get-put_other, get-removed_same, get-removed_other}

pub or_true : (a b : Bool) → b ≡ true → (a || b) ≡ true
or_true true b e = refl
or_true false b e = e

pub or_cases : (a b : Bool) → (a || b) ≡ true → (a ≡ true) ⊎ (b ≡ true)
or_cases true b e = inl refl
or_cases false b e = inr e

pub or_from : (a b : Bool) → (a ≡ true) ⊎ (b ≡ true) → (a || b) ≡ true
or_from true b e = refl
or_from false b (inl e) = absurd (false≢true e)
or_from false b (inr e) = e

-- one of two paths is a folder of the other
abbrev Nested : List ℕ → List ℕ → Type 0
Nested path other = IsTrue (lies_under other path || lies_under path other)

or_swap : (a b : Bool) → (a || b) ≡ true → (b || a) ≡ true
or_swap a b h = or_from b a (⊎_elim (λ (e : a ≡ true). inr e) (λ (e : b ≡ true). inl e) (or_cases a b h))

nested_swap : (path other : List ℕ) → Nested path other → Nested other path
nested_swap path other = or_swap (lies_under other path) (lies_under path other)

and_false : (a b : Bool) → b ≡ false → (a && b) ≡ false
and_false true b e = e
and_false false b e = refl

under_itself : (path : List ℕ) → lies_under path path ≡ false
under_itself path = and_false (starts_with nat_eq path path) _
    (ap (λ n. nat_eq n 47) (get_or_past path (length path) 0 (le_refl (length path))) ∙ refl)

not_nested_itself : (path : List ℕ) → Nested path path → ⊥
not_nested_itself path h = false≢true (sym (ap (λ b. b || b) (under_itself path)) ∙ h)

is_some_of : (x y : Option (List ℕ)) → x ≡ y → IsSome x → IsSome y
is_some_of x y e h = ap is_some (sym e) ∙ h

-- what is there after a put was put or was there before
put_or_there : (m : Files) (path bytes q : List ℕ) → IsSome (get (insert m path bytes) q)
    → (q ≡ path) ⊎ IsSome (get m q)
put_or_there m path bytes q h = ⊎_elim
    (λ (e : q ≡ path). inl e)
    (λ (other : q ≢ path). inr (is_some_of _ _ (get-put_other m path bytes q other) h))
    (same_or_other q path)

-- a put at a good path that doesn't clash
put_keeps_apart : (m : Files) (path bytes q : List ℕ) → AreFiles m → ¬ (Clashes m path)
    → IsSome (get (insert m path bytes) q) → ¬ (Clashes (insert m path bytes) q)
put_keeps_apart m path bytes q good free h c =
    let other_was = put_or_there m path bytes c.other c.is_file in ⊎_elim
    (λ (e : q ≡ path). let nested : Nested path c.other = subst (λ p. Nested p c.other) e c.nested in ⊎_elim
    (λ (f : c.other ≡ path). not_nested_itself path (subst (Nested path) f nested))
    (λ (there : IsSome (get m c.other)). free (record { other = c.other; is_file = there; nested = nested }))
    other_was)
    (λ (at_q : IsSome (get m q)). ⊎_elim
    (λ (f : c.other ≡ path). free
    (record { other = q; is_file = at_q; nested = nested_swap q path (subst (Nested q) f c.nested) }))
    (λ (there : IsSome (get m c.other)). good.apart q at_q
    (record { other = c.other; is_file = there; nested = c.nested }))
    other_was)
    (put_or_there m path bytes q h)

pub put_keeps : (m : Files) (path bytes : List ℕ) → AreFiles m → IsTrue (is_path path) → ¬ (Clashes m path)
    → AreFiles (insert m path bytes)
put_keeps m path bytes good is free = record {
  are_paths = λ q h. ⊎_elim (λ (e : q ≡ path). ap is_path e ∙ is) (good.are_paths q) (put_or_there m path bytes q h);
  apart = λ q h. put_keeps_apart m path bytes q good free h;
}

-- what is there after a removal was there before
still : (m : Files) (path q : List ℕ) → IsSome (get (remove m path) q) → IsSome (get m q)
still m path q h = ⊎_elim
    (λ (e : q ≡ path). absurd
    (false≢true (ap is_some (sym (subst (λ r. get (remove m path) r ≡ None) (sym e) (get-removed_same m path))) ∙ h)))
    (λ (n : q ≢ path). is_some_of _ _ (get-removed_other m path q n) h)
    (same_or_other q path)

pub remove_keeps : (m : Files) (path : List ℕ) → AreFiles m → AreFiles (remove m path)
remove_keeps m path good = record {
  are_paths = λ q h. good.are_paths q (still m path q h);
  apart = λ q h c. good.apart q (still m path q h)
      (record { other = c.other; is_file = still m path c.other c.is_file; nested = c.nested });
}

pub puts_keep : (path bytes : List ℕ) (before after : Files) → AreFiles before → IsTrue (is_path path)
    → Puts path bytes before after → AreFiles after
puts_keep path bytes before after good is puts =
    subst AreFiles (sym puts.files) (put_keeps before path bytes good is puts.free)
