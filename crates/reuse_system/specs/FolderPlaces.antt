-- What a path of a folder is.
use Rattle.std.specs.Prelude.{Bool, true, false}
use Rattle.reuse_system.specs.declared.place.Found.{Found}
use Rattle.reuse_system.specs.declared.place.Found.TheVariants as found
use Rattle.reuse_system.specs.declared.place.Place.{Place}
use Rattle.reuse_system.specs.declared.place.Place.TheVariants.{Nothing, BelowFile, File, Folder, Other}

-- by what stands there, where each part above it is a folder
abbrev pub place_of_found : Found → Place
place_of_found found.Nothing = Nothing
place_of_found (found.File status) = File status
place_of_found (found.Folder identity) = Folder
place_of_found found.Other = Other

-- by what stands above it: nothing is there where that is missing or a folder, and below a file or a link nothing can
-- be
abbrev pub place_below : Found → Place
place_below found.Nothing = Nothing
place_below (found.File status) = BelowFile
place_below (found.Folder identity) = Nothing
place_below found.Other = Other

-- anything is there
abbrev pub stands : Found → Bool
stands found.Nothing = false
stands _ = true

-- the path isn't reported to be a regular file
abbrev pub IsNoFile : Place → Type 0
IsNoFile (File status) = ⊥
IsNoFile place = Unit {0}
