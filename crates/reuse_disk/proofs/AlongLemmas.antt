-- Where names along a path lead.
use Rattle.std.proofs.Common.{◌≡◌, ◌≢◌, ◌⊎◌, inl, inr, ℕ, ◌<◌, List, [], ◌∷◌, ◌++◌, length, get_or, Option, None, Some}
use Rattle.std.proofs.Common.{refl, sym, ◌∙◌, ap, subst}
use Rattle.reuse_system.specs.Names.{between_slashes}
use Rattle.reuse_system.specs.FileStates.{FileState}
use Rattle.reuse_system.specs.Folders.{Folders, folder_in, folder_along, folder_at, file_in, file_along, file_at}
use Rattle.reuse_system.specs.Folders.{folder_above, without_last, IsBare, IsBarredAlong, IsBarred}
use Rattle.reuse_system.specs.Names.{IsNameOf, IsSplit}
use Rattle.reuse_system.specs.declared.place.Identity.{Identity}
use Rattle.reuse_disk.proofs.LastNames.{between-append, between-some, by_parts, no_slash}

pub named_of : (path folder name : List ℕ) → IsSplit path folder name → IsNameOf path name
named_of path folder name split = by_parts split.parts
  where
    by_parts : ((folder ≡ []) × (name ≡ path)) ⊎ (path ≡ folder ++ 47 ∷ name) → IsNameOf path name
    by_parts (inl (none, is)) = record { behind = inl is; last = split.last }
    by_parts (inr is) = record { behind = inr (folder, is); last = split.last }

module _ (folders : Folders) (held : FileState) where
  along_none : (names : List (List ℕ)) → folder_along folders None names ≡ None
  along_none [] = refl
  along_none (name ∷ names) = refl

  -- along names, and then along others
  pub along_append : (at : Option Identity) (xs ys : List (List ℕ))
      → folder_along folders at (xs ++ ys) ≡ folder_along folders (folder_along folders at xs) ys
  along_append at [] ys = refl
  along_append None (x ∷ xs) ys = sym (along_none ys)
  along_append (Some at) (x ∷ xs) ys = along_append (folder_in folders at x) xs ys

  not_barred : {A : Type 0} (names : List (List ℕ)) → IsBarredAlong folders held None names → A
  not_barred [] bad = absurd bad
  not_barred (name ∷ names) bad = absurd bad

  pub barred_behind : (at : Option Identity) (xs ys : List (List ℕ))
      → IsBarredAlong folders held (folder_along folders at xs) ys → IsBarredAlong folders held at (xs ++ ys)
  barred_behind at [] ys barred = barred
  barred_behind None (x ∷ xs) ys barred = not_barred ys barred
  barred_behind (Some at) (x ∷ xs) ys barred = inr (barred_behind (folder_in folders at x) xs ys barred)

  pub barred_before : (at : Option Identity) (xs ys : List (List ℕ)) → IsBarredAlong folders held at xs
      → IsBarredAlong folders held at (xs ++ ys)
  barred_before at [] ys barred = absurd barred
  barred_before None (x ∷ xs) ys barred = absurd barred
  barred_before (Some at) (x ∷ xs) ys (inl bare) = inl bare
  barred_before (Some at) (x ∷ xs) ys (inr barred) = inr (barred_before (folder_in folders at x) xs ys barred)

  -- the last folder along names is one of them
  pub bare_at_end : (at : Option Identity) (name : List ℕ) (names : List (List ℕ))
      → IsBare folders held (folder_along folders at (name ∷ names)) → IsBarredAlong folders held at (name ∷ names)
  bare_at_end None name names bare = absurd bare
  bare_at_end (Some at) name [] bare = inl bare
  bare_at_end (Some at) name (next ∷ names) bare = inr (bare_at_end (folder_in folders at name) next names bare)

  -- ---- texts

  pub along_slash : (at : Option Identity) (path rest : List ℕ)
      → folder_along folders at (between_slashes (path ++ 47 ∷ rest)) ≡ folder_along folders
      (folder_along folders at (between_slashes path)) (between_slashes rest)
  along_slash at path rest = ap (folder_along folders at) (between-append path rest)
      ∙ along_append at (between_slashes path) (between_slashes rest)

  -- no text leads to the folder itself
  pub along_nothing : (at : Option Identity) → folder_along folders at (between_slashes []) ≡ at
  along_nothing None = refl
  along_nothing (Some at) = refl

  bare_along : (at : Option Identity) (names : List (List ℕ)) → names ≢ []
      → IsBare folders held (folder_along folders at names) → IsBarredAlong folders held at names
  bare_along at [] some bare = absurd (some refl)
  bare_along at (name ∷ names) some bare = bare_at_end at name names bare

  pub bare_at : (at : Option Identity) (path : List ℕ) → IsBare folders held
      (folder_along folders at (between_slashes path)) → IsBarredAlong folders held at (between_slashes path)
  bare_at at path bare = bare_along at (between_slashes path) (between-some path) bare

  nothing_barred : (at : Option Identity) → IsBarredAlong folders held at (between_slashes []) → IsBare folders held at
  nothing_barred None bad = absurd bad
  nothing_barred (Some at) (inl bare) = bare
  nothing_barred (Some at) (inr bad) = absurd bad

  pub barred_nothing : (at : Option Identity) → IsBare folders held at
      → IsBarredAlong folders held at (between_slashes [])
  barred_nothing None bare = absurd bare
  barred_nothing (Some at) bare = inl bare

  -- nothing is barred behind a path that isn't at it
  pub barred_end : (at : Option Identity) (path : List ℕ)
      → IsBarredAlong folders held (folder_along folders at (between_slashes path)) (between_slashes [])
      → IsBarredAlong folders held at (between_slashes path)
  barred_end at path barred = bare_at at path (nothing_barred (folder_along folders at (between_slashes path)) barred)

  pub barred_slash : (at : Option Identity) (path rest : List ℕ)
      → IsBarredAlong folders held (folder_along folders at (between_slashes path)) (between_slashes rest)
      → IsBarredAlong folders held at (between_slashes (path ++ 47 ∷ rest))
  barred_slash at path rest barred = subst (IsBarredAlong folders held at) (sym (between-append path rest))
      (barred_behind at (between_slashes path) (between_slashes rest) barred)

  -- ---- files

  files_none : (names : List (List ℕ)) → file_along folders held None names ≡ None
  files_none [] = refl
  files_none (name ∷ []) = refl
  files_none (name ∷ next ∷ names) = refl

  last_file : (at : Option Identity) (xs : List (List ℕ)) (name : List ℕ)
      → file_along folders held at (xs ++ name ∷ []) ≡ file_in held (folder_along folders at xs) name
  last_file at [] name = refl
  last_file None (x ∷ []) name = refl
  last_file (Some at) (x ∷ []) name = refl
  last_file None (x ∷ y ∷ xs) name = refl
  last_file (Some at) (x ∷ y ∷ xs) name = last_file (folder_in folders at x) (y ∷ xs) name

  last_away : (xs : List (List ℕ)) (name : List ℕ) → without_last (xs ++ name ∷ []) ≡ xs
  last_away [] name = refl
  last_away (x ∷ []) name = refl
  last_away (x ∷ y ∷ xs) name = ap (λ l. x ∷ l) (last_away (y ∷ xs) name)

  -- the file at a path is that of the path's own name in the folder that it lies in
  pub file_of_name : (path name : List ℕ) → IsNameOf path name
      → file_at folders held path ≡ file_in held (folder_above folders path) name
  file_of_name path name named =
      let parts = by_parts path name named named.behind in
      ap (file_along folders held (Some folders.root)) parts.1 ∙ last_file (Some folders.root) parts.0 name
      ∙ ap (λ names. file_in held (folder_along folders (Some folders.root) names) name)
      (sym (last_away parts.0 name) ∙ ap without_last (sym parts.1))

  between_split : (folder name : List ℕ) → ((i : ℕ) → i < length name → get_or name i 0 ≢ 47)
      → between_slashes (folder ++ 47 ∷ name) ≡ between_slashes folder ++ name ∷ []
  between_split folder name last =
      between-append folder name ∙ ap (λ l. between_slashes folder ++ l) (no_slash name last)

  above_parts : (path folder name : List ℕ) → ((i : ℕ) → i < length name → get_or name i 0 ≢ 47)
      → ((folder ≡ []) × (name ≡ path)) ⊎ (path ≡ folder ++ 47 ∷ name)
      → folder_above folders path ≡ folder_at folders folder
  above_parts path folder name last (inl (none, is)) =
      ap (λ t. folder_above folders t) (sym is)
      ∙ ap (λ names. folder_along folders (Some folders.root) (without_last names)) (no_slash name last)
      ∙ ap (folder_at folders) (sym none)
  above_parts path folder name last (inr is) =
      ap (λ t. folder_above folders t) is
      ∙ ap (λ names. folder_along folders (Some folders.root) (without_last names)) (between_split folder name last)
      ∙ ap (folder_along folders (Some folders.root)) (last_away (between_slashes folder) name)

  pub above_of_split : (path folder name : List ℕ) → IsSplit path folder name
      → folder_above folders path ≡ folder_at folders folder
  above_of_split path folder name split = above_parts path folder name split.last split.parts

  barred_parts : (path folder name : List ℕ) → ((i : ℕ) → i < length name → get_or name i 0 ≢ 47)
      → ((folder ≡ []) × (name ≡ path)) ⊎ (path ≡ folder ++ 47 ∷ name) → folder ≢ []
      → IsBarred folders held folder → IsBarred folders held path
  barred_parts path folder name last (inl (none, is)) some barred = absurd (some none)
  barred_parts path folder name last (inr is) some barred =
      subst (IsBarredAlong folders held (Some folders.root))
      (sym (ap between_slashes is ∙ between_split folder name last))
      (barred_before (Some folders.root) (between_slashes folder) (name ∷ []) barred)

  pub barred_above : (path folder name : List ℕ) → IsSplit path folder name → folder ≢ [] → IsBarred folders held folder
      → IsBarred folders held path
  barred_above path folder name split some barred = barred_parts path folder name split.last split.parts some barred
