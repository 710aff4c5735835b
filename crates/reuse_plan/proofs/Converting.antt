-- A conversion: its edits, and the table that it puts.
use Rattle.std.proofs.Common.{◌≡◌, ◌⊎◌, inl, inr, ℕ, ◌<◌, ◌≤◌, Bool, true, false, cond, ◌||◌, nat_lt, List, [], ◌∷◌}
use Rattle.std.proofs.Common.{length, Option, Some, None, is_some, Result, Ok, Err, refl, sym, ap, ap₂, ◌∙◌, subst}
use Rattle.std.proofs.Common.{arith, ◌≢◌, bytes_eq, option_map}
use Rattle.std.specs.List.Sorted.{IsStrictlySortedBy}
use Rattle.reuse_command.specs.Reading.{get, Files, reading_of}
use Rattle.std.proofs.lemmas.Bool.{false≢true, ltb-false}
use Rattle.std.proofs.lemmas.Bool.Decides.{nat_tests}
use Rattle.std.proofs.lemmas.Slice.Eq.{bytes_eq-Decides}
use Rattle.reuse_dep5.specs.declared.refusal.Dep5Refusal.{Dep5Refusal}
use Rattle.reuse_dep5.specs.declared.refusal.Dep5Refusal.TheVariants as dep5_refusals
use Rattle.reuse_dep5.specs.Answers as answers
use Rattle.reuse_dep5.specs.Conversion.{converted}
use Rattle.reuse_change.specs.Path.{lies_under}
use Rattle.reuse_store.specs.declared.store.Reading.TheVariants.{Absent, TooLong}
use Rattle.reuse_change.specs.Change.{sealed_drop, sealed_make}
use Rattle.sha2.specs.Sha256.{sha256}
use Rattle.reuse_text.specs.declared.TheConstants.{LONGEST_FILE}
use Rattle.reuse_change.specs.Clash.{is_clash, is_clash_of}
use Rattle.reuse_edit.specs.Edit.{Edit, made, dropped}
use Rattle.reuse_plan.specs.Conversion.{dep5_path, replaced_by, conversion_where, conversion_edits}
use Rattle.reuse_edit.specs.Tables.{toml_path}
use Rattle.reuse_change.specs.Listing.{ArePaths, is_among}
use Rattle.reuse_command.specs.declared.reply.Refusal.{Refusal}
use Rattle.reuse_command.specs.declared.reply.Refusal.TheVariants as refusals
use Rattle.reuse_command.specs.Refused.{dep5_refusal}
use Rattle.reuse_plan.specs.Shown.{Shows}
use Rattle.reuse_edit.specs.Answered.{IsRefusalOf, MakesEdits}
use Rattle.reuse_store.proofs.ReadingLemmas.{absent_is, long_is}
use Rattle.reuse_store.proofs.Testing.{clashes_keys}
use Rattle.reuse_store.proofs.TreeLemmas.{among_keys}
use Rattle.reuse_plan.proofs.Outcomes.{ok_edits, edits_of_tree}
use Rattle.reuse_plan.proofs.Planning.{AreEdits, with_same, with_other}
use Rattle.reuse_edit.proofs.Results.{err_or, same_Ok, none_from_test}
use Rattle.reuse_plan.specs.Outcome.{edited, outcome_of, edits_of}
use Rattle.reuse_plan.specs.TablePut.{PutsTable}
use Rattle.reuse_command.specs.declared.command.Command.TheVariants.{ConvertDep5}
use Rattle.reuse_plan.proofs.CommandEdits.{of_conversion}

-- ---- a conversion: its two edits, and what is answered to what was read

-- ---- the two edits

abbrev both_paths : List (List ℕ)
both_paths = dep5_path ∷ toml_path ∷ []

both_ascend : ArePaths both_paths
unfolding IsStrictlySortedBy
both_ascend = ((refl, tt), (tt, tt))

one_of_both : (path : List ℕ) → is_among both_paths path ≡ true → (path ≡ dep5_path) ⊎ (path ≡ toml_path)
one_of_both path h = of_tests (bytes_eq path dep5_path) refl (bytes_eq path toml_path) refl h
  where
    of_tests : (a : Bool) → bytes_eq path dep5_path ≡ a → (b : Bool) → bytes_eq path toml_path ≡ b
        → (a || (b || false)) ≡ true → (path ≡ dep5_path) ⊎ (path ≡ toml_path)
    of_tests true e b f k = inl ((bytes_eq-Decides path dep5_path).0 e)
    of_tests false e true f k = inr ((bytes_eq-Decides path toml_path).0 f)
    of_tests false e false f k = absurd (false≢true k)

abbrev Apart : List ℕ → List ℕ → Type 0
Apart path other = (lies_under other path || lies_under path other) ≡ false

two_apart : (path other : List ℕ) → (path ≡ dep5_path) ⊎ (path ≡ toml_path) → (other ≡ dep5_path) ⊎ (other ≡ toml_path)
    → Apart path other
two_apart path other (inl e) (inl f) = ap₂ (λ p q. lies_under q p || lies_under p q) e f
two_apart path other (inl e) (inr f) = ap₂ (λ p q. lies_under q p || lies_under p q) e f
two_apart path other (inr e) (inl f) = ap₂ (λ p q. lies_under q p || lies_under p q) e f
two_apart path other (inr e) (inr f) = ap₂ (λ p q. lies_under q p || lies_under p q) e f

both_are_edits : (tree : Files) (bytes text : List ℕ) → is_clash tree toml_path ≡ false
    → AreEdits tree (dropped dep5_path bytes ∷ made toml_path text ∷ [])
both_are_edits tree bytes text free = record {
  ascending = both_ascend;
  apart = λ path other h k. two_apart path other (one_of_both path h) (one_of_both other k);
  each = (
    record { of_tree = refl; good_path = refl; free = λ none some. absurd (false≢true some) },
    (
      record {
        of_tree = refl;
        good_path = refl;
        free = λ none some clash. false≢true (sym free ∙ (clashes_keys tree toml_path).1 clash);
      },
      tt,
    ),
  );
}

-- ---- where a conversion is accepted

replaced_fits : (tree : Files) (bytes : List ℕ) (given : Result (List ℕ) Dep5Refusal) (edits : List Edit)
    → replaced_by tree bytes given ≡ ok_edits edits → AreEdits tree edits
replaced_fits tree bytes (Err refusal) edits h = absurd (cc)
replaced_fits tree bytes (Ok text) edits h =
    let parts = err_or (is_clash tree toml_path) (refusals.Clash toml_path)
    (ok_edits (dropped dep5_path bytes ∷ made toml_path text ∷ [])) edits h in
    subst (AreEdits tree) (same_Ok (dropped dep5_path bytes ∷ made toml_path text ∷ []) edits parts.1)
    (both_are_edits tree bytes text parts.0)

fits_where : (tree : Files) (file : Option (List ℕ)) (edits : List Edit) → conversion_where tree file ≡ ok_edits edits
    → AreEdits tree edits
fits_where tree None edits h = absurd (cc)
fits_where tree (Some bytes) edits h =
    let first =
    err_or (nat_lt LONGEST_FILE (length bytes)) (refusals.TooLong dep5_path) (cond (is_some (get tree toml_path))
    (Err (refusals.Exists toml_path)) (replaced_by tree bytes (converted bytes))) edits h in
    let second = err_or (is_some (get tree toml_path)) (refusals.Exists toml_path)
    (replaced_by tree bytes (converted bytes)) edits first.1 in
    replaced_fits tree bytes (converted bytes) edits second.1

-- the edits of a conversion
pub conversion_fits : (tree : Files) (edits : List Edit) → conversion_edits tree ≡ Ok edits → AreEdits tree edits
conversion_fits tree edits h = fits_where tree (get tree dep5_path) edits h

-- ---- what is answered to what was read

refused_by : (b c : Bool) (r : Refusal) (rest : Result (List Edit) Refusal) → b ≡ c
    → cond b (Err r) rest ≡ cond c (Err r) rest
refused_by b c r rest e = ap (λ t. cond t (Err r) rest) e

longer : (most n : ℕ) → most < n → nat_lt most n ≡ true
longer most n h = grind (arith, nat_tests)

not_longer : (most n : ℕ) → n ≤ most → nat_lt most n ≡ false
not_longer most n h = grind (arith, nat_tests)

pub none_read : (tree : Files) → Absent ≡ reading_of (get tree dep5_path) LONGEST_FILE
    → conversion_edits tree ≡ Err refusals.NoDep5
none_read tree e = ap (conversion_where tree) (absent_is (get tree dep5_path) LONGEST_FILE e)

pub long_read : (tree : Files) → TooLong ≡ reading_of (get tree dep5_path) LONGEST_FILE
    → conversion_edits tree ≡ Err (refusals.TooLong dep5_path)
long_read tree e =
    let long = long_is (get tree dep5_path) LONGEST_FILE e in
    ap (conversion_where tree) long.1
    ∙ refused_by _ true (refusals.TooLong dep5_path) _ (longer LONGEST_FILE (length long.0) long.2)

-- the dep5 is there and isn't too long; these are the paths of the tree
module _ (tree : Files) (paths : List (List ℕ)) (bytes : List ℕ) (are : Shows paths tree toml_path)
    (here : get tree dep5_path ≡ Some bytes) (short : length bytes ≤ LONGEST_FILE) where
  abbrev rest : Result (List Edit) Refusal
  rest =
      cond (is_some (get tree toml_path)) (Err (refusals.Exists toml_path)) (replaced_by tree bytes (converted bytes))

  read : conversion_edits tree ≡ rest
  read = ap (conversion_where tree) here
      ∙ refused_by _ false (refusals.TooLong dep5_path) rest (not_longer LONGEST_FILE (length bytes) short)

  there : (b : Bool) → is_among paths toml_path ≡ b → is_some (get tree toml_path) ≡ b
  there b e = sym (among_keys tree toml_path) ∙ sym are.there ∙ e

  pub exists_answer : is_among paths toml_path ≡ true → conversion_edits tree ≡ Err (refusals.Exists toml_path)
  exists_answer e =
      read ∙ refused_by _ true (refusals.Exists toml_path) (replaced_by tree bytes (converted bytes)) (there true e)

  passed : is_among paths toml_path ≡ false → conversion_edits tree ≡ replaced_by tree bytes (converted bytes)
  passed e =
      read ∙ refused_by _ false (refusals.Exists toml_path) (replaced_by tree bytes (converted bytes)) (there false e)

  expected : (given : Result (List Edit) Refusal) (e : Dep5Refusal) → answers.IsRefusalOf e (converted bytes)
      → given ≡ replaced_by tree bytes (converted bytes) → IsRefusalOf given (dep5_refusal e)
  expected given dep5_refusals.Memory h same = tt
  expected given e h same = same ∙ ap (replaced_by tree bytes) h

  pub dep5_answer : is_among paths toml_path ≡ false → (e : Dep5Refusal) → answers.IsRefusalOf e (converted bytes)
      → IsRefusalOf (conversion_edits tree) (dep5_refusal e)
  dep5_answer free e h = expected (conversion_edits tree) e h (passed free)

  module _ (text : List ℕ) (is : converted bytes ≡ Ok text) (absent : is_among paths toml_path ≡ false) where
    replaced : conversion_edits tree ≡ cond (is_clash_of paths toml_path) (Err (refusals.Clash toml_path))
        (ok_edits (dropped dep5_path bytes ∷ made toml_path text ∷ []))
    replaced = passed absent ∙ ap (replaced_by tree bytes) is
        ∙ ap (λ b. cond b (Err (refusals.Clash toml_path))
        (ok_edits (dropped dep5_path bytes ∷ made toml_path text ∷ []))) (sym are.clash)

    pub clash_answer : is_clash_of paths toml_path ≡ true → conversion_edits tree ≡ Err (refusals.Clash toml_path)
    clash_answer e = replaced
        ∙ refused_by _ true (refusals.Clash toml_path) (ok_edits (dropped dep5_path bytes ∷ made toml_path text ∷ [])) e

    pub made_answer : is_clash_of paths toml_path ≡ false → length text ≤ LONGEST_FILE
        → MakesEdits tree (conversion_edits tree) (sealed_drop dep5_path bytes ∷ sealed_make toml_path text ∷ [])
    made_answer e fits = (
      dropped dep5_path bytes ∷ made toml_path text ∷ [],
      replaced ∙ refused_by _ false (refusals.Clash toml_path)
          (ok_edits (dropped dep5_path bytes ∷ made toml_path text ∷ [])) e,
      (
        record {
          path = refl;
          removed = refl;
          written = refl;
          proper = tt;
          small = short;
          applies = record { range = (here, refl); from = ap (option_map sha256) here; to = tt };
          sealed = refl;
        },
        (
          record {
            path = refl;
            removed = refl;
            written = refl;
            proper = tt;
            small = fits;
            applies = record {
              range = (none_from_test (get tree toml_path) (there false absent), refl);
              from = tt;
              to = refl;
            };
            sealed = refl;
          },
          tt,
        ),
      ),
    )

-- ---- where a conversion isn't refused, the text stands in the place of the dep5

toml_is_not_dep5 : toml_path ≢ dep5_path
toml_is_not_dep5 same = false≢true ((bytes_eq-Decides toml_path dep5_path).1 same)

abbrev pub both : List ℕ → List ℕ → List Edit
both bytes text = dropped dep5_path bytes ∷ made toml_path text ∷ []

-- a conversion that is accepted
pub record IsAccepted (tree : Files) (edits : List Edit) : Type 0 where
  pub dep5 : List ℕ
  pub was : get tree dep5_path ≡ Some dep5
  pub short : length dep5 ≤ LONGEST_FILE
  pub free : is_clash tree toml_path ≡ false
  pub absent : get tree toml_path ≡ None
  pub text : List ℕ
  pub by_rules : converted dep5 ≡ Ok text
  pub edits_are : both dep5 text ≡ edits

module _ (tree : Files) (edits : List Edit) where
  by_text : (bytes : List ℕ) (given : Result (List ℕ) Dep5Refusal) → get tree dep5_path ≡ Some bytes
      → length bytes ≤ LONGEST_FILE → get tree toml_path ≡ None → converted bytes ≡ given
      → replaced_by tree bytes given ≡ ok_edits edits → IsAccepted tree edits
  by_text bytes (Err refusal) was short absent is h = absurd (cc)
  by_text bytes (Ok text) was short absent is h =
      let free = err_or (is_clash tree toml_path) (refusals.Clash toml_path) (ok_edits (both bytes text)) edits h in
      record {
        dep5 = bytes;
        was = was;
        short = short;
        free = free.0;
        absent = absent;
        text = text;
        by_rules = is;
        edits_are = same_Ok (both bytes text) edits free.1;
      }

  pub by_file : (file : Option (List ℕ)) → get tree dep5_path ≡ file → conversion_where tree file ≡ ok_edits edits
      → IsAccepted tree edits
  by_file None is h = absurd (cc)
  by_file (Some bytes) is h =
      let short =
      err_or (nat_lt LONGEST_FILE (length bytes)) (refusals.TooLong dep5_path) (cond (is_some (get tree toml_path))
      (Err (refusals.Exists toml_path)) (replaced_by tree bytes (converted bytes))) edits h in
      let alone = err_or (is_some (get tree toml_path)) (refusals.Exists toml_path)
      (replaced_by tree bytes (converted bytes)) edits short.1 in
      by_text bytes (converted bytes) is (ltb-false LONGEST_FILE (length bytes) short.0)
      (none_from_test (get tree toml_path) alone.0) refl alone.1

  module _ (is : IsAccepted tree edits) where
    abbrev after : Files
    after = edited tree (both is.dep5 is.text)

    table_put : PutsTable tree after
    table_put = record {
      dep5 = is.dep5;
      was = is.was;
      gone = with_same (edited tree (made toml_path is.text ∷ [])) dep5_path None;
      absent = is.absent;
      text = is.text;
      by_rules = is.by_rules;
      put = with_other (edited tree (made toml_path is.text ∷ [])) dep5_path None toml_path toml_is_not_dep5
          ∙ with_same tree toml_path (Some is.text);
      others =
          λ path not_dep5 not_toml. with_other (edited tree (made toml_path is.text ∷ [])) dep5_path None path not_dep5
          ∙ with_other tree toml_path (Some is.text) path not_toml;
    }

pub conversion_puts : (tree after : Files) → outcome_of ConvertDep5 tree ≡ Ok after → PutsTable tree after
unfolding outcome_of
conversion_puts tree after h =
    let given = edits_of_tree tree after (edits_of ConvertDep5 tree) h in
    let is = by_file tree given.0 (get tree dep5_path) refl (sym (of_conversion tree) ∙ given.1) in
    subst (PutsTable tree) (ap (edited tree) is.edits_are ∙ given.2) (table_put tree given.0 is)
