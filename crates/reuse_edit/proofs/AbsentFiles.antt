-- A path without a file, and refusals that are passed on.
use Rattle.std.proofs.lemmas.Result.{err_from_is_err_and}
use Rattle.std.proofs.Common.{IsErrAnd, ◌≡◌, ℕ, Bool, true, false, cond, List, Option, None, IsSome, Result, Err, sym}
use Rattle.std.proofs.Common.{ap, ◌∙◌}
use Rattle.reuse_command.specs.Reading.{get, keys, Files}
use Rattle.reuse_command.specs.declared.reply.Refusal.{Refusal}
use Rattle.reuse_command.specs.declared.failure.Failure.TheVariants as failures
use Rattle.reuse_command.specs.declared.reply.Refusal.TheVariants as refusals
use Rattle.reuse_command.specs.declared.command.Place.TheVariants as place
use Rattle.reuse_change.specs.Listing.{is_among, is_folder_of}
use Rattle.reuse_edit.specs.Edit.{Edit}
use Rattle.reuse_edit.specs.Amend.{amended_where, amended_at}
use Rattle.reuse_edit.specs.Annotate.{annotated_where, annotated_at}
use Rattle.reuse_header.specs.declared.annotation.How.{How}
use Rattle.reuse_style.specs.Kinds.{OwnKinds}
use Rattle.reuse_command.specs.declared.command.HeaderAdditions.{HeaderAdditions}
use Rattle.reuse_command.specs.declared.command.FileAmendment.{FileAmendment}
use Rattle.reuse_command.specs.declared.command.Scope.{Scope}
use Rattle.reuse_edit.specs.Pair.{ShowsPair}
use Rattle.reuse_edit.specs.Answered.{IsRefusalOf}
use Rattle.reuse_store.proofs.TreeLemmas.{among_keys}
use Rattle.reuse_edit.proofs.Results.{none_from_test}

-- ---- refusals

-- the refusal that is passed on
pub reported_as : {A : Type 0} (answer : Result A Refusal) (refusal : Refusal)
    → IsErrAnd answer (λ reported. reported ≡ refusal) → answer ≡ Err refusal
reported_as answer refusal is = let p = err_from_is_err_and answer is in p.1 ∙ ap (λ r. Err r) p.2

-- a refusal of one result is that of another
pub refusal_passes : {A B : Type 0} (g : Result A Refusal) (h : Result B Refusal)
    → ((r : Refusal) → g ≡ Err r → h ≡ Err r) → (r : Refusal) → IsRefusalOf g r → IsRefusalOf h r
refusal_passes g h k (refusals.Failed failures.Memory) e = tt
refusal_passes g h k (refusals.Failed (failures.Fault fault)) e = tt
refusal_passes g h k refusal e = k refusal e

-- ---- one path

abbrev refused : Refusal → Result (Option Edit) Refusal
refused r = Err r

-- ---- a path without a file

module _ (tree : Files) (path : List ℕ) (paths : List (List ℕ))
    (same : is_among paths path ≡ is_among (keys tree) path) where
  pub is_absent : is_among paths path ≡ false → get tree path ≡ None
  is_absent none = none_from_test (get tree path) (sym (among_keys tree path) ∙ sym same ∙ none)

  pub some_file : is_among paths path ≡ true → IsSome (get tree path)
  some_file there = sym (among_keys tree path) ∙ sym same ∙ there

pub absent_answer : (tree : Files) (path : List ℕ) (paths : List (List ℕ)) → ShowsPair paths tree path
    → (how : How) (scope : Scope) (additions : HeaderAdditions) (own : OwnKinds) (b : Bool)
    → is_among paths path ≡ false → is_folder_of paths path ≡ b
    → annotated_at how scope additions own tree path ≡ cond b
    (refused (refusals.IsFolder (place.Path path))) (refused (refusals.NoSuchPath path))
absent_answer tree path paths are how scope additions own b none folder =
    ap (annotated_where how scope additions own tree path) (is_absent tree path paths are.there none)
    ∙ ap (λ t. cond t (refused (refusals.IsFolder (place.Path path))) (refused (refusals.NoSuchPath path)))
    (sym (are.folder (sym are.there ∙ none)) ∙ folder)

pub absent_amended : (tree : Files) (path : List ℕ) (paths : List (List ℕ)) → ShowsPair paths tree path
    → (amendment : FileAmendment) (scope : Scope) (own : OwnKinds) (b : Bool) → is_among paths path ≡ false
    → is_folder_of paths path ≡ b
    → amended_at amendment scope own tree path ≡ cond b (refused (refusals.IsFolder (place.Path path)))
    (refused (refusals.NoSuchPath path))
absent_amended tree path paths are amendment scope own b none folder =
    ap (amended_where amendment scope own tree path) (is_absent tree path paths are.there none)
    ∙ ap (λ t. cond t (refused (refusals.IsFolder (place.Path path))) (refused (refusals.NoSuchPath path)))
    (sym (are.folder (sym are.there ∙ none)) ∙ folder)
