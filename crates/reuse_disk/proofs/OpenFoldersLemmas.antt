-- Open folders, as they come and go.
use Rattle.std.proofs.Common.{◌≡◌, ◌≢◌, ◌⊎◌, inl, inr, ℕ, ◌<◌, ◌-◌, List, [], ◌∷◌, ◌++◌, length, take, drop, get_or}
use Rattle.std.proofs.Common.{Option, None, Some, IfSome, refl, sym, ◌∙◌, ap, subst, arith, length-append, string_bytes}
use Rattle.std.proofs.Common.{slice_get, option_map}
use Rattle.std.specs.List.{All}
use Rattle.std.specs.Option.{option_or, unwrap_or}
use Rattle.std.proofs.Math.Seq.{get_or-append_seam}
use Rattle.std.proofs.lemmas.List.Elements.{All-append, All-take, All-drop, All-push, All-get_or}
use Rattle.std.proofs.lemmas.Option.{slice_get-get_or, slice_get_within, get_or_from_slice_get}
use Rattle.reuse_system.specs.Names.{between_slashes}
use Rattle.reuse_system.specs.FileStates.{FileState}
use Rattle.reuse_system.specs.Folders.{Folders, folder_in, folder_along, folder_at, IsBare, IsBarredAlong}
use Rattle.reuse_system.specs.SystemLaws.{IsNoFolder}
use Rattle.reuse_disk.specs.OpenFolders.{HasNoSlash, IsEntered, IsNext, IsOnWay, IsRest, path_below}
use Rattle.reuse_system.specs.FolderPlaces.{IsNoFile, place_below}
use Rattle.reuse_system.specs.declared.handle.OpenFolder.{OpenFolder}
use Rattle.reuse_system.specs.declared.place.Found.{Found}
use Rattle.reuse_system.specs.declared.place.Found.TheVariants as found
use Rattle.reuse_system.specs.declared.place.Identity.{Identity}
use Rattle.reuse_system.specs.declared.place.Place.{Place}
use Rattle.reuse_disk.specs.declared.open_folders.Step.{Step}
use Rattle.reuse_disk.proofs.AlongLemmas.{along_slash, along_nothing, barred_end, barred_slash}
use Rattle.reuse_disk.proofs.LastNames.{between-append, no_slash}

abbrev pub IsAt : Folders → Step → Type 0
IsAt folders step = folder_at folders (string_bytes step.path) ≡ Some step.folder.identity

-- one folder more
pub opened_push : (folders : Folders) (old new : List Step) (step : Step) → new ≡ old ++ step ∷ []
    → All (IsAt folders) old → IsAt folders step → All (IsAt folders) new
opened_push folders old new step is all here = rw is (All-push (IsAt folders) old step all here)

pub opened_removed : (folders : Folders) (old new : List Step) → new ≡ take 0 old ++ drop 1 old → All (IsAt folders) old
    → All (IsAt folders) new
opened_removed folders old new is all = rw is (All-append (IsAt folders) (take 0 old) (drop 1 old)
    (All-take (IsAt folders) 0 old all) (All-drop (IsAt folders) 1 old all))

pub opened_popped : (folders : Folders) (n : ℕ) (old new : List Step) → new ≡ take n old → All (IsAt folders) old
    → All (IsAt folders) new
opened_popped folders n old new is all = rw is (All-take (IsAt folders) n old all)

pub last_pushed : {A : Type 0} (f : Step → A) (old new : List Step) (step : Step) → new ≡ old ++ step ∷ []
    → option_map f (slice_get new (length new - 1)) ≡ Some (f step)
last_pushed f old new step is =
    let long : length new - 1 ≡ length old = omega (arith, ap length is, length-append old (step ∷ [])) in
    let short : length old < length new = omega (arith, ap length is, length-append old (step ∷ [])) in
    let got : slice_get new (length old) ≡ Some (get_or new (length old) step) =
    slice_get-get_or new (length old) step short in
    let one : get_or new (length old) step ≡ step =
    ap (λ l. get_or l (length old) step) is ∙ get_or-append_seam old step [] step in
    ap (λ n. option_map f (slice_get new n)) long ∙ ap (option_map f) (got ∙ ap (λ s. Some s) one)

-- ---- the folder that was entered last is the one at its path

-- the folder that was entered last, by the root and the steps, and its path
abbrev pub last_folder : Option OpenFolder → Option Step → Option Identity
last_folder root last =
    option_or (option_map (λ step. step.folder.identity) last) (option_map (λ folder. folder.identity) root)

abbrev pub last_step : List Step → Option Step
last_step steps = slice_get steps (length steps - 1)

abbrev pub last_path : List Step → List ℕ
last_path steps = unwrap_or (option_map (λ step. string_bytes step.path) (last_step steps)) []

abbrev pub IsRoot : Folders → Option OpenFolder → Type 0
IsRoot folders root = IfSome root (λ folder. folder.identity ≡ folders.root)

at_root : (folders : Folders) (root : Option OpenFolder) (at : Identity) → IsRoot folders root
    → option_map (λ folder. folder.identity) root ≡ Some at → Some folders.root ≡ Some at
at_root folders None at is e = absurd (cc)
at_root folders (Some folder) at is e = ap (λ i. Some i) (sym is) ∙ e

at_last : (folders : Folders) (root : Option OpenFolder) (steps : List Step) (o : Option Step) → last_step steps ≡ o
    → IsRoot folders root → All (IsAt folders) steps → (at : Identity) → last_folder root o ≡ Some at
    → folder_at folders (unwrap_or (option_map (λ step. string_bytes step.path) o) []) ≡ Some at
at_last folders root steps None is first all at e = at_root folders root at first e
at_last folders root steps (Some step) is first all at e =
    let inside : length steps - 1 < length steps = slice_get_within steps (length steps - 1) step is in
    let same : get_or steps (length steps - 1) step ≡ step =
    get_or_from_slice_get steps (length steps - 1) step step is in
    let here : IsAt folders step =
    subst (IsAt folders) same (All-get_or (IsAt folders) steps (length steps - 1) step inside all) in
    here ∙ e

pub current_at : (folders : Folders) (root : Option OpenFolder) (steps : List Step) (at : Identity)
    → IsRoot folders root → All (IsAt folders) steps → last_folder root (last_step steps) ≡ Some at
    → folder_at folders (last_path steps) ≡ Some at
current_at folders root steps at first all e = at_last folders root steps (last_step steps) refl first all at e

-- ---- a step

one_name : (folders : Folders) (at : Option Identity) (name : List ℕ) → HasNoSlash name
    → folder_along folders at (between_slashes name) ≡ folder_along folders at (name ∷ [])
one_name folders at name apart = ap (folder_along folders at) (no_slash name apart)

pub below_at : (folders : Folders) (path name : List ℕ) (at one : Identity) → HasNoSlash name
    → folder_at folders path ≡ Some at → folder_along folders (Some at) (name ∷ []) ≡ Some one
    → folder_at folders (path_below path name) ≡ Some one
below_at folders [] name at one apart above is =
    one_name folders (Some folders.root) name apart ∙ ap (λ o. folder_along folders o (name ∷ [])) above ∙ is
below_at folders (byte ∷ path) name at one apart above is =
    along_slash folders (λ place. None) (Some folders.root) (byte ∷ path) name
    ∙ ap (λ o. folder_along folders o (between_slashes name)) above ∙ one_name folders (Some at) name apart ∙ is

-- ---- on the way

module _ (folders : Folders) (held : FileState) where
  same_way : (path rest : List ℕ) → rest ≡ path → IsOnWay folders held (Some folders.root) rest path
  same_way path rest is = rw is (record { no_rest = λ none. none; leads = refl; barred = λ barred. barred })

  ended_way : (path folder : List ℕ) (at : Identity) → path ≡ folder → folder_at folders folder ≡ Some at
      → IsOnWay folders held (Some at) [] path
  ended_way path folder at is leads =
      rw is (record {
        no_rest = λ none. refl;
        leads = along_nothing folders held (Some at) ∙ sym leads;
        barred = λ barred. barred_end folders held (Some folders.root) folder
            (subst (λ o. IsBarredAlong folders held o (between_slashes [])) (sym leads) barred);
      })

  slash_way : (path folder rest : List ℕ) (at : Identity) → path ≡ folder ++ 47 ∷ rest
      → folder_at folders folder ≡ Some at → IsOnWay folders held (Some at) rest path
  slash_way path folder rest at is leads =
      rw is (record {
        no_rest = λ none. absurd (omega (arith, ap length none, length-append folder (47 ∷ rest)));
        leads = ap (λ o. folder_along folders o (between_slashes rest)) (sym leads)
            ∙ sym (along_slash folders held (Some folders.root) folder rest);
        barred = λ barred. barred_slash folders held (Some folders.root) folder rest
            (subst (λ o. IsBarredAlong folders held o (between_slashes rest)) (sym leads) barred);
      })

  -- a folder that a path lies below
  pub rest_way : (folder path rest : List ℕ) (at : Identity) → folder_at folders folder ≡ Some at
      → IsRest folder path rest → IsOnWay folders held (Some at) rest path
  rest_way folder path rest at leads (inl (none, is)) =
      let root : Some folders.root ≡ Some at = sym (ap (folder_at folders) none) ∙ leads in
      subst (λ o. IsOnWay folders held o rest path) root (same_way path rest is)
  rest_way folder path rest at leads (inr (inl (is, none))) = rw none (ended_way path folder at is leads)
  rest_way folder path rest at leads (inr (inr is)) = slash_way path folder rest at is leads

  step_slash : (at : Identity) (text name rest path : List ℕ) (one : Option Identity) → HasNoSlash name
      → text ≡ name ++ 47 ∷ rest → (path ≡ [] → rest ≡ []) → folder_in folders at name ≡ one
      → IsOnWay folders held (Some at) text path → IsOnWay folders held one rest path
  step_slash at text name rest path one apart is no_rest into way =
      let first : folder_along folders (Some at) (between_slashes name) ≡ one =
      one_name folders (Some at) name apart ∙ into in
      record {
        no_rest = no_rest;
        leads = ap (λ o. folder_along folders o (between_slashes rest)) (sym first)
            ∙ sym (along_slash folders held (Some at) name rest)
            ∙ ap (λ t. folder_along folders (Some at) (between_slashes t)) (sym is) ∙ way.leads;
        barred = λ barred. way.barred (subst (λ t. IsBarredAlong folders held (Some at) (between_slashes t)) (sym is)
            (barred_slash folders held (Some at) name rest
            (subst (λ o. IsBarredAlong folders held o (between_slashes rest)) (sym first) barred)));
      }

  step_end : (at : Identity) (text name rest path : List ℕ) (one : Option Identity) → HasNoSlash name → text ≡ name
      → rest ≡ [] → folder_in folders at name ≡ one → IsOnWay folders held (Some at) text path
      → IsOnWay folders held one rest path
  step_end at text name rest path one apart is none into way =
      let first : folder_along folders (Some at) (between_slashes name) ≡ one =
      one_name folders (Some at) name apart ∙ into in
      rw none (record {
        no_rest = λ e. refl;
        leads = along_nothing folders held one ∙ sym first
            ∙ ap (λ t. folder_along folders (Some at) (between_slashes t)) (sym is) ∙ way.leads;
        barred = λ barred. way.barred (subst (λ t. IsBarredAlong folders held (Some at) (between_slashes t)) (sym is)
            (barred_end folders held (Some at) name
            (subst (λ o. IsBarredAlong folders held o (between_slashes [])) (sym first) barred)));
      })

  by_parts : (at : Identity) (text name rest path : List ℕ) (one : Option Identity) → HasNoSlash name
      → (text ≡ name ++ 47 ∷ rest) ⊎ ((text ≡ name) × (rest ≡ [])) → (path ≡ [] → rest ≡ [])
      → folder_in folders at name ≡ one → IsOnWay folders held (Some at) text path → IsOnWay folders held one rest path
  by_parts at text name rest path one apart (inl is) no_rest into way =
      step_slash at text name rest path one apart is no_rest into way
  by_parts at text name rest path one apart (inr (is, none)) no_rest into way =
      step_end at text name rest path one apart is none into way

  some_path : (text name rest path : List ℕ) (current : Option Identity) → IsNext text name rest
      → IsOnWay folders held current text path → path ≢ []
  some_path text name rest path current next way none = omega (arith, next.is_shorter, ap length (way.no_rest none))

  -- a step along the way
  pub step_way : (at : Identity) (text name rest path : List ℕ) (one : Option Identity) → IsNext text name rest
      → folder_in folders at name ≡ one → IsOnWay folders held (Some at) text path
      → IsOnWay folders held one rest path
  step_way at text name rest path one next into way =
      by_parts at text name rest path one next.has_no_slash next.parts
      (λ none. absurd (some_path text name rest path (Some at) next way none)) into way

  -- the end of the way
  pub end_way : (current : Option Identity) (path : List ℕ) → IsOnWay folders held current [] path
      → folder_at folders path ≡ current
  end_way current path way = sym way.leads ∙ along_nothing folders held current

  none_along : (names : List (List ℕ)) → folder_along folders None names ≡ None
  none_along [] = refl
  none_along (name ∷ names) = refl

  no_folder : (rest path : List ℕ) (one : Option Identity) → one ≡ None → IsOnWay folders held one rest path
      → folder_at folders path ≡ None
  no_folder rest path one none way =
      sym way.leads ∙ ap (λ o. folder_along folders o (between_slashes rest)) none ∙ none_along (between_slashes rest)

  bare_before : (at : Option Identity) (names : List (List ℕ)) → IsBare folders held at → (one : List ℕ)
      (above : Identity) → folder_in folders above one ≡ at → IsBarredAlong folders held (Some above) (one ∷ names)
  bare_before at names bare one above is = inl (subst (IsBare folders held) (sym is) bare)

  barred_head : (at : Identity) (text name rest : List ℕ) → HasNoSlash name
      → (text ≡ name ++ 47 ∷ rest) ⊎ ((text ≡ name) × (rest ≡ [])) → IsBare folders held (folder_in folders at name)
      → IsBarredAlong folders held (Some at) (between_slashes text)
  barred_head at text name rest apart (inl is) bare =
      subst (λ t. IsBarredAlong folders held (Some at) (between_slashes t)) (sym is)
      (subst (IsBarredAlong folders held (Some at)) (sym (between_cons name rest apart)) (inl bare))
    where
      between_cons : (name rest : List ℕ) → HasNoSlash name
          → between_slashes (name ++ 47 ∷ rest) ≡ name ∷ between_slashes rest
      between_cons name rest apart =
          between-append name rest ∙ ap (λ l. l ++ between_slashes rest) (no_slash name apart)
  barred_head at text name rest apart (inr (is, none)) bare =
      subst (λ t. IsBarredAlong folders held (Some at) (between_slashes t)) (sym is)
      (subst (IsBarredAlong folders held (Some at)) (sym (no_slash name apart)) (inl bare))

  -- where the way ends before
  pub stopped : (at : Identity) (text name rest path : List ℕ) (seen : Found) (current : Option Identity)
      → IsNext text name rest → IsOnWay folders held (Some at) text path
      → IsNoFolder folders held (folder_in folders at name) seen
      → IsEntered folders held path current (Some (place_below seen))
  stopped at text name rest path found.Nothing current next way none = no_folder rest path
      (folder_in folders at name) none (step_way at text name rest path (folder_in folders at name) next refl way)
  stopped at text name rest path (found.File status) current next way none = no_folder rest path
      (folder_in folders at name) none (step_way at text name rest path (folder_in folders at name) next refl way)
  stopped at text name rest path (found.Folder identity) current next way none = no_folder rest path
      (folder_in folders at name) none (step_way at text name rest path (folder_in folders at name) next refl way)
  stopped at text name rest path found.Other current next way (inl none) = (
    some_path text name rest path (Some at) next way,
    inl (no_folder rest path (folder_in folders at name) none
        (step_way at text name rest path (folder_in folders at name) next refl way)),
  )
  stopped at text name rest path found.Other current next way (inr bare) = (
    some_path text name rest path (Some at) next way,
    inr (way.barred (barred_head at text name rest next.has_no_slash next.parts bare)),
  )

-- ---- the path of a step below the last folder

step_from : (folders : Folders) (path name : List ℕ) (current : Option Identity) (one : Identity) → HasNoSlash name
    → ((at : Identity) → current ≡ Some at → folder_at folders path ≡ Some at)
    → folder_along folders current (name ∷ []) ≡ Some one → folder_at folders (path_below path name) ≡ Some one
step_from folders path name None one apart above is = absurd (cc)
step_from folders path name (Some at) one apart above is = below_at folders path name at one apart (above at refl) is

pub step_at : (folders : Folders) (root : Option OpenFolder) (steps : List Step) (name : List ℕ) (one : Identity)
    → HasNoSlash name → IsRoot folders root → All (IsAt folders) steps
    → folder_along folders (last_folder root (last_step steps)) (name ∷ []) ≡ Some one
    → folder_at folders (path_below (last_path steps) name) ≡ Some one
step_at folders root steps name one apart first all is =
    step_from folders (last_path steps) name (last_folder root (last_step steps)) one apart
    (λ at e. current_at folders root steps at first all e) is

-- ---- the folder that was gone back to

pub way_back : (folders : Folders) (held : FileState) (root : Option OpenFolder) (steps : List Step)
    (folder path rest : List ℕ) → 0 < length steps → IsRoot folders root → All (IsAt folders) steps
    → folder ≡ last_path steps → IsRest folder path rest
    → IsOnWay folders held (last_folder root (last_step steps)) rest path
way_back folders held root [] folder path rest some first all is below = absurd (omega (arith, some))
way_back folders held root (step ∷ steps) folder path rest some first all is below =
    let all_steps : List Step = step ∷ steps in
    let n : ℕ = length all_steps - 1 in
    let short : n < length all_steps = omega arith in
    let last : Step = get_or all_steps n step in
    let got : slice_get all_steps n ≡ Some last = slice_get-get_or all_steps n step short in
    let current : last_folder root (slice_get all_steps n) ≡ Some last.folder.identity = ap (last_folder root) got in
    let here = current_at folders root all_steps last.folder.identity first all current in
    subst (λ o. IsOnWay folders held o rest path) (sym current)
    (rest_way folders held folder path rest last.folder.identity (ap (folder_at folders) is ∙ here) below)

root_current : (folders : Folders) (root : Option OpenFolder) → root ≢ None → IsRoot folders root
    → option_map (λ folder. folder.identity) root ≡ Some folders.root
root_current folders None some first = absurd (some refl)
root_current folders (Some folder) some first = ap (λ i. Some i) first

-- where only the root is open
pub way_from_root : (folders : Folders) (held : FileState) (root : Option OpenFolder) (steps : List Step)
    (path : List ℕ) → length steps ≡ 0 → root ≢ None → IsRoot folders root
    → IsOnWay folders held (last_folder root (last_step steps)) path path
way_from_root folders held root [] path none some first = subst (λ o. IsOnWay folders held o path path)
    (sym (root_current folders root some first)) (same_way folders held path path refl)
way_from_root folders held root (step ∷ steps) path none some first = absurd (omega (arith, none))

-- ---- a turn of entering, where a call changes nothing that names lead to

module _ (folders other : Folders) (held was : FileState) (same : folders ≡ other) (kept : held ≡ was)
    (current : Option Identity) (at : Identity) (is : current ≡ Some at) (text name rest path : List ℕ)
    (next : IsNext text name rest) (way : IsOnWay other was current text path) where
  here : IsOnWay folders held (Some at) text path
  here = rw (same, kept) (subst (λ o. IsOnWay other was o text path) is way)

  pub turn_way : (one : Identity) (new : Option Identity) → folder_in folders at name ≡ Some one → new ≡ Some one
      → IsOnWay folders held new rest path
  turn_way one new into e = subst (λ o. IsOnWay folders held o rest path) (sym e)
      (step_way folders held at text name rest path (Some one) next into here)

  pub turn_stops : (seen : Found) (place : Place) (last : Option Identity) → place ≡ place_below seen
      → IsNoFolder folders held (folder_in folders at name) seen → IsEntered folders held path last (Some place)
  turn_stops seen place last e none = subst (λ p. IsEntered folders held path last (Some p)) (sym e)
      (stopped folders held at text name rest path seen last next here none)

pub leads_to : (folders : Folders) (current : Option Identity) (at one : Identity) (name : List ℕ) → current ≡ Some at
    → folder_in folders at name ≡ Some one → folder_along folders current (name ∷ []) ≡ Some one
leads_to folders current at one name is into = ap (λ o. folder_along folders o (name ∷ [])) is ∙ into

-- what lies below something isn't reported to be a regular file
pub below_no_file : (found : Found) → IsNoFile (place_below found)
below_no_file found.Nothing = tt
below_no_file (found.File status) = tt
below_no_file (found.Folder identity) = tt
below_no_file found.Other = tt
