-- The edit of a file, and whether the file is skipped.
use Rattle.std.proofs.Common.{◌≡◌, ℕ, zero, suc, ◌+◌, ◌≤◌, Bool, true, false, cond, not, ◌&&◌, List, [], ◌++◌, length}
use Rattle.std.proofs.Common.{take, drop, Option, Some, None, IsSome, is_some, nat_lt, Result, Ok, Err, refl, sym, ap}
use Rattle.std.proofs.Common.{ap₂, subst, ◌∙◌, bytes_eq, option_map}
use Rattle.reuse_command.specs.Reading.{get, Files}
use Rattle.std.proofs.lemmas.Bool.{false≢true, and_right}
use Rattle.std.proofs.lemmas.List.{append-nil}
use Rattle.reuse_style.specs.declared.style.Style.{Style}
use Rattle.reuse_header.specs.declared.annotation.HeaderRefusal.TheVariants.{NotText, NoSuchForm, HoldsCloser, TooLong}
use Rattle.reuse_header.specs.declared.annotation.HeaderRefusal.TheVariants.{Unsettled, Memory}
use Rattle.reuse_words.specs.Added.{text_answer, IsExpectedTextEdit}
use Rattle.reuse_words.specs.declared.refusal.TextHeaderRefusal.{TextHeaderRefusal}
use Rattle.reuse_words.specs.declared.refusal.TextHeaderRefusal.TheVariants.{BadText, Header}
use Rattle.reuse_edit.specs.HeaderFaults.{text_refused_by}
use Rattle.reuse_header.specs.declared.annotation.Splice.{Splice}
use Rattle.reuse_header.specs.declared.harm.Harm.{Harm}
use Rattle.reuse_header.specs.Annotation as header
use Rattle.reuse_header.specs.Header.{header_of}
use Rattle.reuse_change.specs.Change.{sealed_make, sealed_splice}
use Rattle.sha2.specs.Sha256.{sha256}
use Rattle.reuse_text.specs.declared.TheConstants.{LONGEST_FILE}
use Rattle.reuse_edit.specs.Annotation.{annotation_of, neighbour_annotation_of}
use Rattle.reuse_edit.specs.Edit.{Edit}
use Rattle.reuse_edit.specs.Annotate.{neighbour_of, neighbour_is_tagged, goes_to_neighbour, target_of, edit_by}
use Rattle.reuse_edit.specs.Annotate.{annotated_where}
use Rattle.reuse_edit.specs.AnnotationPlan.{own_of, annotated_by, beside_by, neighbour_by, inside_by, place_by}
use Rattle.reuse_edit.specs.AnnotationPlan.{edit_by_place, path_by, path_beside_by, path_by_place, path_inside_by}
use Rattle.reuse_edit.specs.AnnotationPlan.{path_neighbour_by}
use Rattle.reuse_change.specs.Clash.{is_clash}
use Rattle.reuse_command.specs.Covered.{is_covered}
use Rattle.reuse_command.specs.declared.reply.Refusal.TheVariants as refusals
use Rattle.reuse_edit.specs.declared.target.Target.TheVariants.{InNeighbour}
use Rattle.reuse_edit.specs.Annotations.{Expected, Fits}
use Rattle.reuse_edit.specs.Answered.{CarriesOutEdit, IsRefusalOf, MakesEdit}
use Rattle.reuse_edit.specs.Steps.{short_file}
use Rattle.reuse_edit.specs.declared.annotation.Annotation.{Annotation}
use Rattle.reuse_command.specs.declared.reply.Refusal.{Refusal}
use Rattle.reuse_edit.proofs.SpliceLemmas.{makes_splice}
use Rattle.reuse_edit.proofs.EditedPlaces.{aimed}
use Rattle.reuse_edit.specs.Harmed.{harm_at, harm_in, harm_where, harm_inside}
use Rattle.reuse_edit.specs.Skipped.{has_tagged, is_skipped, is_skipped_at, is_skipped_where}
use Rattle.reuse_edit.specs.PathEdits.{PathEdit}

-- ---- the change of a place, by what an annotation makes of its bytes

-- what is known of each edit is known of an annotation
pub fits_by : (bytes : List ℕ) (expected : Expected) → ((edit : header.Edit) → expected ≡ Ok edit
    → (edit.start + edit.old_len ≤ length bytes) × (length (header.edited bytes edit) ≤ LONGEST_FILE))
    → Fits bytes expected
fits_by bytes (Ok edit) each = each edit refl
fits_by bytes (Err refusal) each = tt

abbrev answered : Option Splice → Result (Option Splice) TextHeaderRefusal
answered splice = Ok splice

abbrev pub edited_to : Option Edit → Result (Option Edit) Refusal
edited_to edit = Ok edit

same_splice : (one other : Splice) → answered (Some one) ≡ answered (Some other) → one ≡ other
same_splice one other e = cc

-- the change of a file that is there
pub change_made : (tree : Files) (path at clone bytes : List ℕ) (expected : Expected) (splice : Splice)
    → get tree at ≡ Some bytes → length bytes ≤ LONGEST_FILE → Fits bytes expected
    → text_answer bytes expected ≡ answered (Some splice) → clone ≡ at
    → MakesEdit tree (edit_by path at bytes expected) (Some (sealed_splice clone bytes splice.at splice.old splice.new))
change_made tree path at clone bytes (Err refusal) splice here short fits answer same = absurd (cc)
change_made tree path at clone bytes (Ok edit) splice here short fits answer same =
    by_test (bytes_eq (header.edited bytes edit) bytes) refl answer
  where
    it : Edit
    it = record {
      path = at;
      removed = take edit.old_len (drop edit.start bytes);
      written = header.new_bytes edit;
      file = Some (header.edited bytes edit);
    }

    made : Splice
    made = record { at = edit.start; old = take edit.old_len (drop edit.start bytes); new = header.new_bytes edit }

    makes : bytes_eq (header.edited bytes edit) bytes ≡ false → CarriesOutEdit tree
        (sealed_splice at bytes edit.start (take edit.old_len (drop edit.start bytes)) (header.new_bytes edit)) it
    makes e = makes_splice bytes edit.start edit.old_len fits.0 tree at (header.new_bytes edit) here short fits.1 e

    by_test : (b : Bool) → bytes_eq (header.edited bytes edit) bytes ≡ b
        → answered (cond b None (Some made)) ≡ answered (Some splice)
        → (x : Edit) × (cond b (edited_to None) (edited_to (Some it)) ≡ edited_to (Some x))
        × CarriesOutEdit tree (sealed_splice clone bytes splice.at splice.old splice.new) x
    by_test true e h = absurd (cc)
    by_test false e h = (
      it,
      refl,
      subst (λ (p : List ℕ). CarriesOutEdit tree (sealed_splice p bytes splice.at splice.old splice.new) it) (sym same)
          (subst (λ (s : Splice). CarriesOutEdit tree (sealed_splice at bytes s.at s.old s.new) it)
          (same_splice made splice h) (makes e)),
    )

pub take_none : (n : ℕ) → take {A = ℕ} n [] ≡ []
take_none zero = refl
take_none (suc n) = refl

pub drop_none : (n : ℕ) → drop {A = ℕ} n [] ≡ []
drop_none zero = refl
drop_none (suc n) = refl

-- the change that makes a file
pub making_made : (tree : Files) (path at clone : List ℕ) (expected : Expected) (splice : Splice) → get tree at ≡ None
    → Fits [] expected → text_answer [] expected ≡ answered (Some splice) → clone ≡ at
    → MakesEdit tree (edit_by path at [] expected) (Some (sealed_make clone splice.new))
making_made tree path at clone (Err refusal) splice here fits answer same = absurd (cc)
making_made tree path at clone (Ok edit) splice here fits answer same =
    by_test (bytes_eq (header.edited [] edit) []) answer
  where
    it : Edit
    it = record {
      path = at;
      removed = take edit.old_len (drop edit.start []);
      written = header.new_bytes edit;
      file = Some (header.edited [] edit);
    }

    made : Splice
    made = record { at = edit.start; old = take edit.old_len (drop edit.start []); new = header.new_bytes edit }

    around : header.edited [] edit ≡ header.new_bytes edit
    around = ap₂ (λ x y. x ++ header.new_bytes edit ++ y) (take_none edit.start) (drop_none (edit.start + edit.old_len))
        ∙ append-nil (header.new_bytes edit)

    makes : CarriesOutEdit tree (sealed_make at (header.new_bytes edit)) it
    makes = record {
      path = refl;
      removed = sym (ap (take edit.old_len) (drop_none edit.start) ∙ take_none edit.old_len);
      written = refl;
      proper = tt;
      small = subst (λ xs. length xs ≤ LONGEST_FILE) around fits.1;
      applies = record {
        range = (here, ap (λ xs. Some xs) around);
        from = tt;
        to = ap (λ xs. Some (sha256 xs)) around;
      };
      sealed = refl;
    }

    by_test : (b : Bool) → answered (cond b None (Some made)) ≡ answered (Some splice)
        → (x : Edit) × (cond b (edited_to None) (edited_to (Some it)) ≡ edited_to (Some x))
        × CarriesOutEdit tree (sealed_make clone splice.new) x
    by_test true h = absurd (cc)
    by_test false h = (
      it,
      refl,
      subst (λ (p : List ℕ). CarriesOutEdit tree (sealed_make p splice.new) it) (sym same)
          (subst (λ (s : Splice). CarriesOutEdit tree (sealed_make at s.new) it) (same_splice made splice h) makes),
    )

-- ---- why a header isn't written

err_edit : (path at file : List ℕ) (expected : Expected) (refusal : TextHeaderRefusal)
    → text_answer file expected ≡ Err refusal → edit_by path at file expected ≡ Err (text_refused_by path refusal)
err_edit path at file (Ok edit) refusal e = absurd (cc)
err_edit path at file (Err other) refusal e = let same : other ≡ refusal = cc in
    ap (λ r. Err (text_refused_by path r)) same

-- its refusal is the one of the path
pub refused_edit : (path at file : List ℕ) (expected : Expected) (refusal : TextHeaderRefusal)
    → IsExpectedTextEdit (text_answer file expected) (Err refusal)
    → IsRefusalOf (edit_by path at file expected) (text_refused_by path refusal)
refused_edit path at file expected BadText is = err_edit path at file expected BadText is
refused_edit path at file expected (Header NotText) is = err_edit path at file expected (Header NotText) is
refused_edit path at file expected (Header NoSuchForm) is = err_edit path at file expected (Header NoSuchForm) is
refused_edit path at file expected (Header HoldsCloser) is = err_edit path at file expected (Header HoldsCloser) is
refused_edit path at file expected (Header TooLong) is = err_edit path at file expected (Header TooLong) is
refused_edit path at file expected (Header Unsettled) is = err_edit path at file expected (Header Unsettled) is
refused_edit path at file expected (Header (Memory e)) is = tt

-- ---- files that are not skipped

pub same_some : {X Y Z : Type 0} (f : X → Z) (g : Y → Z) (x : Option X) (y : Option Y) → option_map f x ≡ option_map g y
    → is_some x ≡ is_some y
same_some f g None None e = refl
same_some f g (Some x) (Some y) e = refl
same_some f g None (Some y) e = absurd (cc)
same_some f g (Some x) None e = absurd (cc)

pub inside_is : (asked : Annotation) (path bytes : List ℕ) (style : Style)
    → (asked.scope.now.skip_existing && is_some (header_of style bytes)) ≡ false
    → inside_by asked path bytes style ≡ edit_by path path bytes
    (annotation_of style asked.how.now asked.additions.now bytes)
inside_is asked path bytes style e = ap (λ b. cond b (edited_to None)
    (edit_by path path bytes (annotation_of style asked.how.now asked.additions.now bytes))) e

-- ---- a file that was read

abbrev found : List ℕ → Result (List ℕ) Refusal
found bytes = Ok bytes

-- where its bytes were found, they are not too many
pub short_is : (path file bytes : List ℕ) → short_file path file ≡ found bytes
    → (nat_lt LONGEST_FILE (length file) ≡ false) × (file ≡ bytes)
short_is path file bytes e = by_test (nat_lt LONGEST_FILE (length file)) e
  where
    by_test : (b : Bool) → cond b (Err (refusals.TooLong path)) (found file) ≡ found bytes
        → (b ≡ false) × (file ≡ bytes)
    by_test true h = absurd (cc)
    by_test false h = (refl, cc)

-- where they are too many, nothing else is made of them
pub long_is : {A : Type 0} (path file : List ℕ) (rest : Result A Refusal) (refusal : Refusal)
    → short_file path file ≡ Err refusal
    → cond (nat_lt LONGEST_FILE (length file)) (Err (refusals.TooLong path)) rest ≡ Err refusal
long_is path file rest refusal e = by_test (nat_lt LONGEST_FILE (length file)) e
  where
    by_test : (b : Bool) → cond b (Err (refusals.TooLong path)) (found file) ≡ Err refusal
        → cond b (Err (refusals.TooLong path)) rest ≡ Err refusal
    by_test true h = cc
    by_test false h = absurd (cc)

-- ---- the edit of a neighbour, and of a file, by the tests of the code

abbrev pub refused : Refusal → Result (Option Edit) Refusal
refused refusal = Err refusal

pub some_bytes : (file : Option (List ℕ)) → IsSome file → (bytes : List ℕ) × (file ≡ Some bytes)
some_bytes (Some bytes) some = (bytes, refl)
some_bytes None some = absurd (false≢true some)

module _ (asked : Annotation) (tree : Files) (path : List ℕ) where
  abbrev by_neighbour : List ℕ → Result (Option Edit) Refusal
  by_neighbour bytes =
      edit_by path (neighbour_of path) bytes (neighbour_annotation_of asked.how.now asked.additions.now bytes)

  pub neighbour_is : (bytes : List ℕ) → nat_lt LONGEST_FILE (length bytes) ≡ false
      → (asked.scope.now.skip_existing && neighbour_is_tagged bytes) ≡ false
      → neighbour_by asked tree path (Some bytes) ≡ edit_by path (neighbour_of path) bytes
      (neighbour_annotation_of asked.how.now asked.additions.now bytes)
  neighbour_is bytes short kept =
      ap (λ b. cond b (refused (refusals.TooLong path))
      (cond (asked.scope.now.skip_existing && neighbour_is_tagged bytes) (edited_to None) (by_neighbour bytes))) short
      ∙ ap (λ b. cond b (edited_to None) (by_neighbour bytes)) kept

  pub new_clashes : is_clash tree (neighbour_of path) ≡ true
      → neighbour_by asked tree path None ≡ refused (refusals.Clash (neighbour_of path))
  new_clashes e = ap (λ b. cond b (refused (refusals.Clash (neighbour_of path))) (by_neighbour [])) e

  pub new_is : is_clash tree (neighbour_of path) ≡ false → neighbour_by asked tree path None ≡ edit_by path
      (neighbour_of path) [] (neighbour_annotation_of asked.how.now asked.additions.now [])
  new_is e = ap (λ b. cond b (refused (refusals.Clash (neighbour_of path))) (by_neighbour [])) e

  pub beside_is : (file : Option (List ℕ)) → nat_lt 4096 (length (neighbour_of path)) ≡ false
      → get tree (neighbour_of path) ≡ file → beside_by asked tree path ≡ neighbour_by asked tree path file
  beside_is file short is =
      ap (λ b. cond b (refused (refusals.TooLong path)) (neighbour_by asked tree path (get tree (neighbour_of path))))
      short ∙ ap (neighbour_by asked tree path) is

  pub uncovered_is : (file : Option (List ℕ)) → IsSome file → is_covered path ≡ false → annotated_where asked.how.now
      asked.scope.now asked.additions.now (own_of asked) tree path file ≡ refused (refusals.NotCovered path)
  uncovered_is None some e = absurd (false≢true some)
  uncovered_is (Some bytes) some e =
      ap (λ b. cond (not b) (refused (refusals.NotCovered path))
      (edit_by_place asked tree path bytes (target_of asked.scope.now (own_of asked) tree path bytes))) e

  pub covered_is : (bytes : List ℕ) (b : Bool) → get tree path ≡ Some bytes → is_covered path ≡ true
      → goes_to_neighbour asked.scope.now (own_of asked) tree path ≡ b
      → annotated_by asked tree path ≡ edit_by_place asked tree path bytes
      (cond b (aimed InNeighbour) (place_by asked path bytes))
  covered_is bytes b here covered beside =
      ap (annotated_where asked.how.now asked.scope.now asked.additions.now (own_of asked) tree path) here
      ∙ ap (λ t. cond (not t) (refused (refusals.NotCovered path))
      (edit_by_place asked tree path bytes (target_of asked.scope.now (own_of asked) tree path bytes))) covered
      ∙ ap (λ t. edit_by_place asked tree path bytes (cond t (aimed InNeighbour) (place_by asked path bytes))) beside

-- ---- files that annotate goes through: whether they are skipped, by the place that is chosen

module _ (asked : Annotation) (tree : Files) (path : List ℕ) where
  skipped_is : (bytes : List ℕ) (b : Bool) → get tree path ≡ Some bytes
      → goes_to_neighbour asked.scope.now (own_of asked) tree path ≡ b
      → is_skipped asked.scope.now (own_of asked) tree path ≡ is_skipped_at asked.scope.now tree path bytes
      (cond b (aimed InNeighbour) (place_by asked path bytes))
  skipped_is bytes b here beside =
      ap (is_skipped_where asked.scope.now (own_of asked) tree path) here ∙ ap (λ t.
      is_skipped_at asked.scope.now tree path bytes (cond t (aimed InNeighbour) (place_by asked path bytes))) beside

  harm_is : (bytes : List ℕ) (b : Bool) → get tree path ≡ Some bytes
      → goes_to_neighbour asked.scope.now (own_of asked) tree path ≡ b
      → harm_in asked.scope.now (own_of asked) tree path ≡ harm_at bytes
      (cond b (aimed InNeighbour) (place_by asked path bytes))
  harm_is bytes b here beside =
      ap (harm_where asked.scope.now (own_of asked) tree path) here
      ∙ ap (λ t. harm_at bytes (cond t (aimed InNeighbour) (place_by asked path bytes))) beside

  -- what is done at a covered file, by the place
  pub path_is : (bytes : List ℕ) (b : Bool) → get tree path ≡ Some bytes → is_covered path ≡ true
      → goes_to_neighbour asked.scope.now (own_of asked) tree path ≡ b
      → path_by asked tree path ≡ path_by_place asked tree path bytes
      (cond b (aimed InNeighbour) (place_by asked path bytes))
  path_is bytes b here covered beside =
      let place = cond b (aimed InNeighbour) (place_by asked path bytes) in
      let harm = harm_in asked.scope.now (own_of asked) tree path in
      ap₂ (λ s e. record { path = path; skipped = s; harm = harm; left = false; edit = e })
      (skipped_is bytes b here beside) (covered_is asked tree path bytes b here covered beside) ∙ ap (λ h. record {
        path = path;
        skipped = is_skipped_at asked.scope.now tree path bytes place;
        harm = h;
        left = false;
        edit = edit_by_place asked tree path bytes place;
      }) (harm_is bytes b here beside)

  -- where the neighbour is the place, by what it holds
  pub path_beside_is : (file : Option (List ℕ)) → nat_lt 4096 (length (neighbour_of path)) ≡ false
      → get tree (neighbour_of path) ≡ file → path_beside_by asked tree path ≡ path_neighbour_by asked tree path file
  path_beside_is file short is =
      ap₂ (λ s e. record { path = path; skipped = s; harm = None; left = false; edit = e })
      (ap (λ f. asked.scope.now.skip_existing && has_tagged f) is) (beside_is asked tree path file short is)

  -- no file is skipped for a neighbour that isn't there
  pub new_is_unskipped : path_neighbour_by asked tree path None ≡ record {
    path = path;
    skipped = false;
    harm = None;
    left = false;
    edit = neighbour_by asked tree path None;
  }
  new_is_unskipped =
      ap (λ s. record { path = path; skipped = s; harm = None; left = false; edit = neighbour_by asked tree path None })
      (and_right asked.scope.now.skip_existing false refl)

-- a file that isn't skipped
abbrev pub unskipped : List ℕ → Option Harm → Result (Option Edit) Refusal → PathEdit
unskipped path harm edit = record { path = path; skipped = false; harm = harm; left = false; edit = edit }

module _ (asked : Annotation) (path : List ℕ) where
  pub inside_unskipped : (bytes : List ℕ) (style : Style)
      → (asked.scope.now.skip_existing && is_some (header_of style bytes)) ≡ false
      → path_inside_by asked path bytes style ≡ unskipped path (harm_inside style bytes)
      (edit_by path path bytes (annotation_of style asked.how.now asked.additions.now bytes))
  inside_unskipped bytes style kept =
      ap₂ (λ s e. record { path = path; skipped = s; harm = harm_inside style bytes; left = false; edit = e }) kept
      (inside_is asked path bytes style kept)

  pub beside_unskipped : (tree : Files) (bytes : List ℕ) → nat_lt LONGEST_FILE (length bytes) ≡ false
      → (asked.scope.now.skip_existing && neighbour_is_tagged bytes) ≡ false
      → path_neighbour_by asked tree path (Some bytes) ≡ unskipped path None
      (edit_by path (neighbour_of path) bytes (neighbour_annotation_of asked.how.now asked.additions.now bytes))
  beside_unskipped tree bytes short kept =
      ap₂ (λ s e. record { path = path; skipped = s; harm = None; left = false; edit = e }) kept
      (neighbour_is asked tree path bytes short kept)
