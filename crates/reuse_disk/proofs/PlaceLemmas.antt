-- Places of names in folders.
use Rattle.std.proofs.Common.{◌≡◌, ◌<◌, ◌^◌, inl, inr, ℕ, true≢false, List, refl, sym, ◌∙◌, ap, ap₂}
use Rattle.reuse_system.specs.TempFiles.{beside_name, new_name, IsNewIn, IsNewNameIn, IsNewPlace}
use Rattle.reuse_system.specs.FileStates.{place_in}
use Rattle.reuse_system.specs.Ignored.{is_beside_name, is_new_name}
use Rattle.reuse_system.specs.declared.place.Identity.{Identity}
use Rattle.reuse_system.proofs.NewNameLemmas.{beside_is_kept, beside_is_not_new, new_name_is_new, new_names_differ}

-- one place is one name in one folder
pub folder_of_place : (one other : Identity) (name also : List ℕ)
    → place_in one name ≡ place_in other also → one ≡ other
folder_of_place one other name also same =
    let device : one.device ≡ other.device = cc in
    let number : one.number ≡ other.number = cc in
    ap₂ (λ d n. let identity : Identity = record { device = d; number = n } in identity) device number

pub name_of_place : (one other : Identity) (name also : List ℕ) → place_in one name ≡ place_in other also → name ≡ also
name_of_place one other name also same = cc

-- no two numbers have one place
pub numbers_of_place : (new_files : Identity) (one other : ℕ) → one < 2 ^ 64 → other < 2 ^ 64
    → place_in new_files (new_name one) ≡ place_in new_files (new_name other) → one ≡ other
numbers_of_place new_files one other low high same =
    new_names_differ one other low high (name_of_place new_files new_files (new_name one) (new_name other) same)

pub numbered_in : (new_files : Identity) (number : ℕ) → number < 2 ^ 64
    → IsNewIn new_files (place_in new_files (new_name number))
numbered_in new_files number short = (new_name number, new_name_is_new number short, refl)

-- a file beside another has the name of no other new file
pub beside_is_no_new : (new_files folder : Identity) → ¬ (IsNewIn new_files (place_in folder (beside_name new_files)))
beside_is_no_new new_files folder (name, is_new, same) =
    true≢false (sym is_new ∙ ap is_new_name (sym (name_of_place folder new_files (beside_name new_files) name same))
    ∙ beside_is_not_new new_files)

-- a name that isn't kept for new files is no place of one
pub apart_of_name : (new_files folder : Identity) (name : List ℕ) → new_files.number < 2 ^ 64
    → ¬ (IsNewNameIn new_files folder name) → ¬ (IsNewPlace new_files folder (place_in folder name))
apart_of_name new_files folder name short not (inl (other, is_new, same)) =
    not (inr (
      folder_of_place folder new_files name other same,
      ap is_new_name (name_of_place folder new_files name other same) ∙ is_new,
    ))
apart_of_name new_files folder name short not (inr same) =
    not (inl (ap is_beside_name (name_of_place folder folder name (beside_name new_files) same)
    ∙ beside_is_kept new_files short))
