-- A download: what is found for its ids, and the files that it makes.
use Rattle.std.proofs.Common.{◌≡◌, inl, inr, ℕ, ◌≤◌, Bool, true, false, cond, ◌||◌, nat_lt, List, [], ◌∷◌, length, map}
use Rattle.std.proofs.Common.{Option, Some, None, IsSome, is_some, unwrap_or, Ok, refl, sym, ap, ◌∙◌, subst, arith}
use Rattle.std.proofs.Common.{◌++◌, append_assoc, bytes_eq}
use Rattle.std.specs.List.{AllByRecursion, cons_option}
use Rattle.std.specs.Option.{option_or, option_map}
use Rattle.reuse_command.specs.Reading.{get, Files}
use Rattle.std.proofs.lemmas.Bool.{false≢true, le-ltb, ltb-false}
use Rattle.std.proofs.lemmas.Slice.Eq.{bytes_eq-Decides}
use Rattle.reuse_notice.specs.Sets.{set_of}
use Rattle.reuse_notice.proofs.SetLemmas.{In, In-set_of, sorted-set_of}
use Rattle.reuse_change.specs.Path.{is_path, lies_under}
use Rattle.reuse_text.specs.declared.TheConstants.{LONGEST_FILE}
use Rattle.reuse_change.specs.Tree.{is_of_tree}
use Rattle.reuse_change.specs.declared.change.Change.{Change}
use Rattle.reuse_change.specs.Clash.{is_clash, is_clash_of}
use Rattle.reuse_edit.specs.Edit.{Edit}
use Rattle.reuse_change.specs.Listing.{ArePaths, is_among}
use Rattle.reuse_edit.specs.Licence.{is_id, licence_path, licence_id, text_for}
use Rattle.reuse_plan.specs.Downloads.{refusal_of_found, id_refusal, ids_refusal, licence_edit, unless_refused}
use Rattle.reuse_plan.specs.Downloads.{download_of, download_edits, id_refusals}
use Rattle.reuse_plan.specs.DownloadPlan.{made_at, HasText}
use Rattle.reuse_plan.specs.Shown.{Shows}
use Rattle.reuse_edit.specs.Answered.{CarriesOutEdit, MakesEach, MakesEdits, IsRefusalOf}
use Rattle.reuse_command.specs.declared.licence.LicenceText.{LicenceText}
use Rattle.reuse_command.specs.declared.reply.Refusal.{Refusal}
use Rattle.reuse_command.specs.declared.reply.Refusal.TheVariants as refusals
use Rattle.reuse_store.proofs.Testing.{clashes_keys}
use Rattle.reuse_edit.proofs.LicenceLemmas.{name_length, id_of_path, id_bytes, path_is_good, path_of_tree, paths_apart}
use Rattle.reuse_store.proofs.TreeLemmas.{among_keys}
use Rattle.reuse_plan.proofs.Outcomes.{edits_unless}
use Rattle.reuse_plan.proofs.Planning.{paths_at, IsFit, AreEdits}
use Rattle.reuse_edit.proofs.Results.{none_from_test}
use Rattle.reuse_edit.specs.PathEdits.{PathEdit, refused_with, edits_in}
use Rattle.reuse_edit.specs.PathPlans.{IsPlanOf, EndsWalk}
use Rattle.reuse_command.specs.Answer.{IsNoFailure}
use Rattle.reuse_command.specs.Refused.{IsRefused}
use Rattle.reuse_edit.specs.declared.path_plan.PathPlan.{PathPlan}
use Rattle.reuse_edit.specs.declared.path_plan.Policy.{Policy}
use Rattle.reuse_command.specs.declared.failure.Failure.TheVariants.{Fault, Memory}
use Rattle.reuse_command.specs.declared.reply.Refusal.TheVariants.{Failed}
use Rattle.reuse_plan.proofs.PathPlanning.{WalkedSoFar, after_plan, at_refusal}
use Rattle.reuse_edit.proofs.PathPlanLemmas.{is_refusal_of}

-- ---- a download: the files that it makes, where no id is refused

-- ---- an id that isn't refused

-- a file that is made: the text of a licence, which was found, at the path for its id
pub record IsMade (tree : Files) (texts : List LicenceText) (path : List ℕ) : Type 0 where
  pub id : List ℕ
  pub good : is_id id ≡ true
  pub here : path ≡ licence_path id
  pub text : List ℕ
  pub found : text_for texts id ≡ Some text
  pub short : length text ≤ LONGEST_FILE
  pub absent : get tree path ≡ None
  pub free : is_clash tree path ≡ false

abbrev expected : Refusal → Option Refusal
expected r = Some r

passed : (b : Bool) (r : Refusal) (rest : Option Refusal) → cond b (expected r) rest ≡ None
    → (b ≡ false) × (rest ≡ None)
passed true r rest e = absurd (cc)
passed false r rest e = (refl, e)

last_passed : (b : Bool) (r : Refusal) → cond b (expected r) None ≡ None → b ≡ false
last_passed true r e = absurd (cc)
last_passed false r e = refl

module _ (tree : Files) (texts : List LicenceText) (id : List ℕ) where
  made_where : is_id id ≡ true → (found : Option (List ℕ)) → text_for texts id ≡ found
      → refusal_of_found tree id found ≡ None → IsMade tree texts (licence_path id)
  made_where good None at h = absurd (cc)
  made_where good (Some text) at h =
      let first = passed (nat_lt LONGEST_FILE (length text)) (refusals.TooLong (licence_path id))
      (cond (is_some (get tree (licence_path id))) (expected (refusals.Exists (licence_path id)))
      (cond (is_clash tree (licence_path id)) (expected (refusals.Clash (licence_path id))) None)) h in
      let second = passed (is_some (get tree (licence_path id))) (refusals.Exists (licence_path id))
      (cond (is_clash tree (licence_path id)) (expected (refusals.Clash (licence_path id))) None) first.1 in
      record {
        id = id;
        good = good;
        here = refl;
        text = text;
        found = at;
        short = ltb-false LONGEST_FILE (length text) first.0;
        absent = none_from_test (get tree (licence_path id)) second.0;
        free = last_passed (is_clash tree (licence_path id)) (refusals.Clash (licence_path id)) second.1;
      }

  pub made_of : id_refusal tree texts id ≡ None → IsMade tree texts (licence_path id)
  made_of h = of_test (is_id id) refl h
    where
      of_test : (b : Bool) → is_id id ≡ b → cond b (refusal_of_found tree id (text_for texts id))
          (expected (refusals.BadId id)) ≡ None → IsMade tree texts (licence_path id)
      of_test true e k = made_where e (text_for texts id) refl k
      of_test false e k = absurd (cc)

-- ---- several ids

all_of_each : (P : List ℕ → Type 0) (paths : List (List ℕ)) → ((path : List ℕ) → In path paths → P path)
    → AllByRecursion P paths
all_of_each P [] each = tt
all_of_each P (path ∷ paths) each = (each path (inl refl), all_of_each P paths (λ p h. each p (inr h)))

each_of_all : (P : List ℕ → Type 0) (paths : List (List ℕ)) → AllByRecursion P paths → (path : List ℕ)
    → In path paths → P path
each_of_all P [] all path h = absurd h
each_of_all P (first ∷ paths) all path (inl e) = subst P (sym e) all.0
each_of_all P (first ∷ paths) all path (inr h) = each_of_all P paths all.1 path h

-- the text that was found for an id is found again by the path of its file
pub has_text : (texts : List LicenceText) (id path : List ℕ) → path ≡ licence_path id → IsSome (text_for texts id)
    → HasText texts path
has_text texts id path here some =
    let n = name_length id in
    let long : 13 ≤ length (licence_path id) = omega (arith, n) in (
      subst (λ p. 13 ≤ length p) (sym here) long,
      subst (λ i. IsSome (text_for texts i)) (sym (ap licence_id here ∙ id_of_path id)) some,
    )

pub sorted_have_texts : (texts : List LicenceText) (paths : List (List ℕ)) → AllByRecursion (HasText texts) paths
    → AllByRecursion (HasText texts) (set_of paths)
sorted_have_texts texts paths all =
    all_of_each (HasText texts) (set_of paths) (λ p h. each_of_all (HasText texts) paths all p (In-set_of paths p h))

abbrev AreMade : Files → List LicenceText → List (List ℕ) → Type 0
AreMade tree texts paths = AllByRecursion (IsMade tree texts) paths

or_none : (a b : Option Refusal) → option_or a b ≡ None → (a ≡ None) × (b ≡ None)
or_none None b e = (refl, e)
or_none (Some r) b e = absurd (cc)

module _ (tree : Files) (texts : List LicenceText) where
  each_made : (ids : List (List ℕ)) → ids_refusal tree texts ids ≡ None → (path : List ℕ)
      → In path (map licence_path ids) → IsMade tree texts path
  each_made [] none path h = absurd h
  each_made (id ∷ ids) none path (inl e) = subst (IsMade tree texts) (sym e)
      (made_of tree texts id (or_none (id_refusal tree texts id) (ids_refusal tree texts ids) none).0)
  each_made (id ∷ ids) none path (inr h) =
      each_made ids (or_none (id_refusal tree texts id) (ids_refusal tree texts ids) none).1 path h

  pub are_made : (ids : List (List ℕ)) → ids_refusal tree texts ids ≡ None
      → AreMade tree texts (set_of (map licence_path ids))
  are_made ids none = all_of_each (IsMade tree texts) (set_of (map licence_path ids))
      (λ p h. each_made ids none p (In-set_of (map licence_path ids) p h))

  -- ---- the changes

  text_at : (path : List ℕ) (made : IsMade tree texts path) → text_for texts (licence_id path) ≡ Some made.text
  text_at path made =
      ap (λ p. text_for texts (licence_id p)) made.here ∙ ap (text_for texts) (id_of_path made.id) ∙ made.found

  makes : (path : List ℕ) → IsMade tree texts path → CarriesOutEdit tree (made_at texts path) (licence_edit texts path)
  makes path made = record {
    path = refl;
    removed = refl;
    written = refl;
    proper = tt;
    small =
        subst (λ (o : Option (List ℕ)). length (unwrap_or o []) ≤ LONGEST_FILE) (sym (text_at path made)) made.short;
    applies = record { range = (made.absent, refl); from = tt; to = refl };
    sealed = refl;
  }

  makes_each : (paths : List (List ℕ)) → AreMade tree texts paths
      → MakesEach tree (map (made_at texts) paths) (map (licence_edit texts) paths)
  makes_each [] each = tt
  makes_each (path ∷ paths) each = (makes path each.0, makes_each paths each.1)

  -- ---- the edits

  their_paths : (paths : List (List ℕ)) → paths_at (map (licence_edit texts) paths) ≡ paths
  their_paths [] = refl
  their_paths (path ∷ paths) = ap (λ (ps : List (List ℕ)). path ∷ ps) (their_paths paths)

  fits : (path : List ℕ) → IsMade tree texts path → IsFit tree (licence_edit texts path)
  fits path made = record {
    of_tree = ap is_of_tree made.here ∙ path_of_tree made.id;
    good_path = ap is_path made.here ∙ path_is_good made.id made.good;
    free = λ none some clash. false≢true (sym made.free ∙ (clashes_keys tree path).1 clash);
  }

  fit_each : (paths : List (List ℕ)) → AreMade tree texts paths
      → AllByRecursion (IsFit tree) (map (licence_edit texts) paths)
  fit_each [] each = tt
  fit_each (path ∷ paths) each = (fits path each.0, fit_each paths each.1)

  among_made : (paths : List (List ℕ)) → AreMade tree texts paths → (path : List ℕ) → is_among paths path ≡ true
      → IsMade tree texts path
  among_made [] each path h = absurd (false≢true h)
  among_made (first ∷ paths) each path h = of_test (bytes_eq path first) refl h (among_made paths each.1 path)
    where
      of_test : (b : Bool) → bytes_eq path first ≡ b → (b || is_among paths path) ≡ true
          → (is_among paths path ≡ true → IsMade tree texts path) → IsMade tree texts path
      of_test true e k rest = subst (IsMade tree texts) (sym ((bytes_eq-Decides path first).0 e)) each.0
      of_test false e k rest = rest k

  two_apart : (path other : List ℕ) → IsMade tree texts path → IsMade tree texts other → lies_under path other ≡ false
  two_apart path other made too =
      ap (λ p. lies_under p other) made.here ∙ ap (lies_under (licence_path made.id)) too.here
      ∙ paths_apart made.id too.id (id_bytes made.id made.good)

  are_edits : (paths : List (List ℕ)) → ArePaths paths → AreMade tree texts paths
      → AreEdits tree (map (licence_edit texts) paths)
  are_edits paths sorted each = record {
    ascending = subst ArePaths (sym (their_paths paths)) sorted;
    apart = λ path other h k.
        let made = among_made paths each path (ap (λ ps. is_among ps path) (sym (their_paths paths)) ∙ h) in
        let too = among_made paths each other (ap (λ ps. is_among ps other) (sym (their_paths paths)) ∙ k) in
        ap (λ b. b || lies_under path other) (two_apart other path too made) ∙ two_apart path other made too;
    each = fit_each paths each;
  }

-- ---- the whole

-- the edits of a download
pub download_fits : (ids : List (List ℕ)) (texts : List LicenceText) (tree : Files) (edits : List Edit)
    → download_edits ids texts tree ≡ Ok edits → AreEdits tree edits
download_fits ids texts tree edits h =
    let given = map (licence_edit texts) (set_of (map licence_path (set_of ids))) in
    let parts = edits_unless (ids_refusal tree texts (set_of ids))
    (map (licence_edit texts) (set_of (map licence_path (set_of ids)))) edits h in
    subst (AreEdits tree) parts.1 (are_edits tree texts (set_of (map licence_path (set_of ids)))
    (sorted-set_of (map licence_path (set_of ids))) (are_made tree texts (set_of ids) parts.0))

-- the changes at the paths of the ids do what the download's edits say
pub download_makes : (ids : List (List ℕ)) (texts : List LicenceText) (tree : Files) (changes : List Change)
    → ids_refusal tree texts ids ≡ None → changes ≡ map (made_at texts) (set_of (map licence_path ids))
    → MakesEdits tree (download_of ids texts tree) changes
download_makes ids texts tree changes none are = (
  map (licence_edit texts) (set_of (map licence_path ids)),
  ap (λ r. unless_refused r (map (licence_edit texts) (set_of (map licence_path ids)))) none,
  subst (λ cs. MakesEach tree cs (map (licence_edit texts) (set_of (map licence_path ids)))) (sym are)
      (makes_each tree texts (set_of (map licence_path ids)) (are_made tree texts ids none)),
)

-- ---- one id

second_expected : (a b c : Bool) (x y z : Refusal) → a ≡ false → b ≡ true
    → cond a (expected x) (cond b (expected y) (cond c (expected z) None)) ≡ expected y
second_expected a b c x y z e f = rw (e, f)

third_expected : (a b c : Bool) (x y z : Refusal) → a ≡ false → b ≡ false → c ≡ true
    → cond a (expected x) (cond b (expected y) (cond c (expected z) None)) ≡ expected z
third_expected a b c x y z e f g = rw (e, f, g)

pub none_expected : (a b c : Bool) (x y z : Refusal) → a ≡ false → b ≡ false → c ≡ false
    → cond a (expected x) (cond b (expected y) (cond c (expected z) None)) ≡ None
none_expected a b c x y z e f g = rw (e, f, g)

-- what was found for the id is a text that isn't too long; these paths show what stands at its path
module _ (tree : Files) (id path text : List ℕ) (paths : List (List ℕ)) (found : Option (List ℕ))
    (are : Shows paths tree path) (here : path ≡ licence_path id) (is : found ≡ Some text)
    (short : length text ≤ LONGEST_FILE) where
  there : (b : Bool) → is_among paths path ≡ b → is_some (get tree (licence_path id)) ≡ b
  there b e = ap (λ p. is_some (get tree p)) (sym here) ∙ sym (among_keys tree path) ∙ sym are.there ∙ e

  clashes : (b : Bool) → is_clash_of paths path ≡ b → is_clash tree (licence_path id) ≡ b
  clashes b e = ap (is_clash tree) (sym here) ∙ sym are.clash ∙ e

  pub exists_answer : is_among paths path ≡ true → refusal_of_found tree id found ≡ Some (refusals.Exists path)
  exists_answer e =
      ap (refusal_of_found tree id) is
      ∙ second_expected _ _ _ _ _ _ (le-ltb LONGEST_FILE (length text) short) (there true e)
      ∙ ap (λ p. expected (refusals.Exists p)) (sym here)

  pub clash_answer : is_among paths path ≡ false → is_clash_of paths path ≡ true
      → refusal_of_found tree id found ≡ Some (refusals.Clash path)
  clash_answer e f =
      ap (refusal_of_found tree id) is
      ∙ third_expected _ _ _ _ _ _ (le-ltb LONGEST_FILE (length text) short) (there false e) (clashes true f)
      ∙ ap (λ p. expected (refusals.Clash p)) (sym here)

  pub made_answer : is_among paths path ≡ false → is_clash_of paths path ≡ false → refusal_of_found tree id found ≡ None
  made_answer e f =
      ap (refusal_of_found tree id) is
      ∙ none_expected _ _ _ (refusals.TooLong (licence_path id)) (refusals.Exists (licence_path id))
      (refusals.Clash (licence_path id)) (le-ltb LONGEST_FILE (length text) short) (there false e) (clashes false f)

-- ---- what is found for the ids of a download, one after the other

-- one path more whose text was found
pub one_text_more : (texts : List LicenceText) (paths : List (List ℕ)) (path : List ℕ)
    → AllByRecursion (HasText texts) paths → HasText texts path → AllByRecursion (HasText texts) (paths ++ path ∷ [])
one_text_more texts [] path all is = (is, tt)
one_text_more texts (first ∷ paths) path all is = (all.0, one_text_more texts paths path all.1 is)

-- a refusal that is reported is the one that is expected
is_due : (expected : Option Refusal) (refusal : Refusal) → IsNoFailure refusal → IsRefused expected refusal
    → expected ≡ Some refusal
is_due expected (Failed failure) reported is = absurd reported
is_due expected refusal reported is = is

none_after : {A : Type 0} (done : List A) (x : A) (rest : List A) → done ++ x ∷ rest ≡ [] → ⊥
none_after [] x rest e = cc
none_after (y ∷ done) x rest e = cc

module _ (policy : Policy) (tree : Files) (texts : List LicenceText) (all : List PathEdit) (id : List ℕ)
    (rest : List (List ℕ)) (plans : List PathPlan)
    (so : WalkedSoFar policy tree all (id_refusals tree texts (id ∷ rest)) plans) where
  unrefused : id_refusal tree texts id ≡ None → id_refusals tree texts (id ∷ rest) ≡ id_refusals tree texts rest
  unrefused none = ap (λ o. cons_option (option_map refused_with o) (id_refusals tree texts rest)) none

  is_refused : (refusal : Refusal) → id_refusal tree texts id ≡ Some refusal
      → id_refusals tree texts (id ∷ rest) ≡ refused_with refusal ∷ id_refusals tree texts rest
  is_refused refusal some = ap (λ o. cons_option (option_map refused_with o) (id_refusals tree texts rest)) some

  -- an id of which a file is made
  pub after_made : id_refusal tree texts id ≡ None → WalkedSoFar policy tree all (id_refusals tree texts rest) plans
  after_made none = subst (λ left. WalkedSoFar policy tree all left plans) (unrefused none) so

  -- one that is refused
  pub after_refused : (refusal : Refusal) (one : PathPlan) → IsNoFailure refusal
      → IsRefused (id_refusal tree texts id) refusal → IsPlanOf policy tree (refused_with refusal) one
      → WalkedSoFar policy tree all (id_refusals tree texts rest) (plans ++ one ∷ [])
  after_refused refusal one reported is planned =
      after_plan policy tree all (refused_with refusal) (id_refusals tree texts rest) plans one
      (subst (λ left. WalkedSoFar policy tree all left plans)
      (is_refused refusal (is_due (id_refusal tree texts id) refusal reported is)) so) planned

  pub some_refused : (refusal : Refusal) → IsNoFailure refusal
      → IsRefused (id_refusal tree texts id) refusal → all ≡ [] → ⊥
  some_refused refusal reported is none =
      none_after so.done (refused_with refusal) (id_refusals tree texts rest) (ap (λ left. so.done ++ left)
      (sym (is_refused refusal (is_due (id_refusal tree texts id) refusal reported is))) ∙ so.same ∙ none)

  -- one at which the walk ends
  pub ended : (refusal : Refusal) → EndsWalk policy refusal → IsRefused (id_refusal tree texts id) refusal
      → IsRefusalOf (edits_in all) refusal
  ended (Failed Memory) ends is = tt
  ended (Failed (Fault fault)) ends is = tt
  ended refusal ends is =
      at_refusal policy tree all (refused_with refusal) (id_refusals tree texts rest) plans refusal
      (subst (λ left. WalkedSoFar policy tree all left plans) (is_refused refusal is) so) ends
      (is_refusal_of (refused_with refusal).edit refusal refl)

-- the paths so far, and those of the ids that are left
pub paths_after : (made paths : List (List ℕ)) (id path : List ℕ) (rest all : List (List ℕ)) → path ≡ licence_path id
    → paths ≡ made ++ path ∷ [] → made ++ map licence_path (id ∷ rest) ≡ all
    → paths ++ map licence_path rest ≡ all
paths_after made paths id path rest all here pushed so =
    ap (λ ps. ps ++ map licence_path rest) pushed ∙ append_assoc made (path ∷ []) (map licence_path rest)
    ∙ ap (λ p. made ++ p ∷ map licence_path rest) here ∙ so
