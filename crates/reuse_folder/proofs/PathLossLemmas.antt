-- What a loss of power may leave, path by path: it is one of what is supposed, but for files that were never synced.
use Rattle.std.proofs.Common.{◌≡◌, ◌≢◌, ◌⊎◌, inl, inr, ⊎_elim, ℕ, Bool, true, false, cond, not, ◌||◌, List, [], ◌∷◌}
use Rattle.std.proofs.Common.{Option, Some, None, Result, Ok, Err, refl, sym, ap, subst, ◌∙◌}
use Rattle.std.specs.List.{Contains}
use Rattle.std.specs.Str.{bytes_eq}
use Rattle.std.specs.FinMap.{get, insert, remove}
use Rattle.std.proofs.lemmas.Bool.{false≢true}
use Rattle.std.proofs.lemmas.Slice.Eq.{bytes_eq-Decides}
use Rattle.reuse_change.specs.Change.{path_of}
use Rattle.reuse_change.specs.Entry.{touches}
use Rattle.reuse_change.specs.Files.{Files, tree_of}
use Rattle.reuse_change.specs.Path.{lies_under, journal_folder}
use Rattle.reuse_change.specs.Tree.{undo_folder_of}
use Rattle.reuse_change.specs.declared.change.Change.{Change}
use Rattle.reuse_change.proofs.FileMaps.{same_or_other}
use Rattle.reuse_store.specs.Calls.{Call}
use Rattle.reuse_store.specs.Calls.Call.{ListCall, ReadCall, PutCall, RemoveCall, SyncCall}
use Rattle.reuse_store.specs.Durable.{DurableAfterBarrier}
use Rattle.reuse_store.specs.declared.fault.StoreFault.{StoreFault}
use Rattle.reuse_store.proofs.TreeLemmas.{tree_file}
use Rattle.reuse_folder.specs.Honesty.{files_of, has_effect, IsCrashState}
use Rattle.reuse_folder.specs.PathLosses.{SupposesDurableTree, IsNeverSynced, IsOtherOrKept, IsLeftByPaths}
use Rattle.reuse_folder.proofs.SetFiles.{set, get-set_same, get-set_other, set_held, set_again, set_apart}
use Rattle.reuse_folder.proofs.SetFiles.{folder_of_set, folders_of_set, one_journal, either_side}

-- behind a put or a removal what might be left before may be left, with it or without
abbrev SetOrNot : (Files → Type 0) → List ℕ → Option (List ℕ) → Files → Type 0
SetOrNot MayBe path file left = MayBe left ⊎ ((kept : Files) × MayBe kept × (left ≡ set kept path file))

-- it stays one of these if some path is made to hold what it holds now, where that is so of what might be left before
module _ (MayBe : Files → Type 0) (now : Files) (target : List ℕ) (file : Option (List ℕ)) (path : List ℕ)
    (before : (left : Files) → MayBe left → MayBe (set left path (get now path))) where
  -- the put or the removal took no effect
  without : (left : Files) → SetOrNot MayBe target file left
      → SetOrNot MayBe target file (set left path (get now path))
  without left (inl may) = inl (before left may)
  without left (inr (kept, may, is)) = ⊎_elim
      (λ (same : path ≡ target). inl (subst MayBe
      (sym (ap (λ f. set f path (get now path)) is ∙ ap (λ p. set (set kept p file) path (get now path)) (sym same)
      ∙ set_again kept path file (get now path))) (before kept may)))
      (λ (apart : path ≢ target). inr (
        set kept path (get now path),
        before kept may,
        ap (λ f. set f path (get now path)) is ∙ set_apart kept target path file (get now path) apart,
      ))
      (same_or_other path target)

  -- it did
  with_it : (left : Files) → SetOrNot MayBe target file left
      → SetOrNot MayBe target file (set left path (get (set now target file) path))
  with_it left may = ⊎_elim
      (λ (same : path ≡ target). here left may (ap (get (set now target file)) same ∙ get-set_same now target file)
      same)
      (λ (apart : path ≢ target). subst (λ f. SetOrNot MayBe target file (set left path f))
      (sym (get-set_other now target file path apart)) (without left may))
      (same_or_other path target)
    where
      here : (left : Files) → SetOrNot MayBe target file left → get (set now target file) path ≡ file
          → path ≡ target → SetOrNot MayBe target file (set left path (get (set now target file) path))
      here left (inl may) is same = inr (left, may, ap (set left path) is ∙ ap (λ p. set left p file) same)
      here left (inr (kept, may, is_left)) is same = inr (
        kept,
        may,
        ap (set left path) is ∙ ap (λ p. set left p file) same ∙ ap (λ f. set f target file) is_left
            ∙ set_again kept target file file,
      )

  pub with_or_without : (effect : Bool) (left : Files) → SetOrNot MayBe target file left
      → SetOrNot MayBe target file (set left path (get (cond effect (set now target file) now) path))
  with_or_without true left may = with_it left may
  with_or_without false left may = without left may

module _ (start : Files) (supposed : List Files)
    (trees : (other : Files) → Contains supposed other → tree_of other ≡ tree_of start) where
  -- What may be left may also be left with what a path of the tree holds now.
  pub with_now : (calls : List Call) (path : List ℕ) → lies_under path journal_folder ≡ false → (left : Files)
      → IsCrashState start supposed calls left
      → IsCrashState start supposed calls (set left path (get (files_of start calls) path))
  with_now [] path outside left (inl is) = inl (set_held left path _ (ap (λ f. get f path) is) ∙ is)
  with_now [] path outside left (inr one) = inr (subst (Contains supposed) (sym (set_held left path _
      (in_tree left ∙ ap (λ f. get f path) (trees left one) ∙ sym (in_tree start)))) one)
    where
      in_tree : (files : Files) → get files path ≡ get (tree_of files) path
      in_tree files = sym (tree_file files path ∙ ap (λ b. cond (not b) (get files path) None) outside)
  with_now (ListCall folders pruned answer ∷ calls) path outside left may = with_now calls path outside left may
  with_now (ReadCall read limit answer ∷ calls) path outside left may = with_now calls path outside left may
  with_now (PutCall target bytes answer took ∷ calls) path outside left may =
      with_or_without (IsCrashState start supposed calls) (files_of start calls) target (Some bytes) path
      (with_now calls path outside) (has_effect answer took) left may
  with_now (RemoveCall target answer took ∷ calls) path outside left may =
      with_or_without (IsCrashState start supposed calls) (files_of start calls) target None path
      (with_now calls path outside) (has_effect answer took) left may
  with_now (SyncCall changes (Ok done) ∷ calls) path outside left (may, durable) = (
    with_now calls path outside left may,
    record {
      folder = folder_of_set left path _ outside ∙ durable.folder;
      here = λ other touched. ⊎_elim
          (λ (same : other ≡ path). ap (get (set left path (get (files_of start calls) path))) same
          ∙ get-set_same left path _ ∙ ap (get (files_of start calls)) (sym same))
          (λ (apart : other ≢ path). get-set_other left path _ other apart ∙ durable.here other touched)
          (same_or_other other path);
      others = λ other none. inr refl;
    },
  )
  with_now (SyncCall changes (Err fault) ∷ calls) path outside left may = with_now calls path outside left may

  -- So it may be left with what the paths of changes hold now, if it has the journal as it is now.
  pub record HasNow (changes : List Change) (calls : List Call) (left : Files) : Type 0 where
    pub now : Files
    pub may : IsCrashState start supposed calls now
    pub journal : undo_folder_of now ≡ undo_folder_of (files_of start calls)
    pub here : (path : List ℕ) → touches changes path ≡ true → get now path ≡ get (files_of start calls) path
    pub others : (path : List ℕ) → touches changes path ≡ false → get now path ≡ get left path

  one_more : (change : Change) (changes : List Change) (calls : List Call) (left : Files) → HasNow changes calls left
      → HasNow (change ∷ changes) calls left
  one_more change changes calls left has = ⊎_elim within beside (either_side (path_of change))
    where
      files : Files
      files = files_of start calls

      path : List ℕ
      path = path_of change

      -- the first path is that of the change or not
      first : (other : List ℕ) → (bytes_eq other path ≡ true) ⊎ (bytes_eq other path ≡ false)
      first other = of_test (bytes_eq other path) refl
        where
          of_test : (b : Bool) → bytes_eq other path ≡ b
              → (bytes_eq other path ≡ true) ⊎ (bytes_eq other path ≡ false)
          of_test true e = inl e
          of_test false e = inr e

      behind : (other : List ℕ) (answer : Bool) → touches (change ∷ changes) other ≡ answer
          → bytes_eq other path ≡ false → touches changes other ≡ answer
      behind other answer e none = ap (λ b. b || touches changes other) (sym none) ∙ e

      neither : (a b : Bool) → (a || b) ≡ false → (a ≡ false) × (b ≡ false)
      neither true b e = absurd (false≢true (sym e))
      neither false b e = (refl, e)

      within : lies_under path journal_folder ≡ true → HasNow (change ∷ changes) calls left
      within inside = record {
        now = has.now;
        may = has.may;
        journal = has.journal;
        here = λ other touched. ⊎_elim
            (λ (is : bytes_eq other path ≡ true).
            ap (get has.now) ((bytes_eq-Decides other path).0 is) ∙ one_journal has.now files path inside has.journal
            ∙ ap (get files) (sym ((bytes_eq-Decides other path).0 is)))
            (λ (none : bytes_eq other path ≡ false). has.here other (behind other true touched none)) (first other);
        others = λ other none. has.others other (neither (bytes_eq other path) (touches changes other) none).1;
      }

      beside : lies_under path journal_folder ≡ false → HasNow (change ∷ changes) calls left
      beside outside = record {
        now = set has.now path (get files path);
        may = with_now calls path outside has.now has.may;
        journal = folder_of_set has.now path _ outside ∙ has.journal;
        here = λ other touched. ⊎_elim
            (λ (is : bytes_eq other path ≡ true).
            ap (get (set has.now path (get files path))) ((bytes_eq-Decides other path).0 is)
            ∙ get-set_same has.now path _ ∙ ap (get files) (sym ((bytes_eq-Decides other path).0 is)))
            (λ (none : bytes_eq other path ≡ false). get-set_other has.now path _ other
            (λ (same : other ≡ path). false≢true (sym none ∙ (bytes_eq-Decides other path).1 same))
            ∙ has.here other (behind other true touched none)) (first other);
        others = λ other none. get-set_other has.now path _ other
            (λ (same : other ≡ path). false≢true (sym (neither (bytes_eq other path) (touches changes other) none).0 ∙ (bytes_eq-Decides other path).1 same))
            ∙ has.others other (neither (bytes_eq other path) (touches changes other) none).1;
      }

  pub with_all : (changes : List Change) (calls : List Call) (left : Files) → IsCrashState start supposed calls left
      → undo_folder_of left ≡ undo_folder_of (files_of start calls) → HasNow changes calls left
  with_all [] calls left may journal = record {
    now = left;
    may = may;
    journal = journal;
    here = λ path touched. absurd (false≢true touched);
    others = λ path none. refl;
  }
  with_all (change ∷ changes) calls left may journal =
      one_more change changes calls left (with_all changes calls left may journal)

-- A path that no barrier was over may be left as it was at the start.
module _ (start : Files) (supposed : List Files) (path : List ℕ) (outside : lies_under path journal_folder ≡ false) where
  abbrev as_start : List Call → Files
  as_start calls = set (files_of start calls) path (get start path)

  put_or_removed : (calls : List Call) (target : List ℕ) (file : Option (List ℕ)) (effect : Bool)
      → IsCrashState start supposed calls (as_start calls)
      → SetOrNot (IsCrashState start supposed calls) target file
      (set (cond effect (set (files_of start calls) target file) (files_of start calls)) path (get start path))
  put_or_removed calls target file false may = inl may
  put_or_removed calls target file true may = ⊎_elim
      (λ (same : path ≡ target). inl (subst (IsCrashState start supposed calls)
      (sym (ap (λ p. set (set (files_of start calls) p file) path (get start path)) (sym same)
      ∙ set_again (files_of start calls) path file (get start path))) may))
      (λ (apart : path ≢ target). inr (
        as_start calls,
        may,
        set_apart (files_of start calls) target path file (get start path) apart,
      ))
      (same_or_other path target)

  never_synced : (calls : List Call) → IsNeverSynced path calls → IsCrashState start supposed calls (as_start calls)
  never_synced [] never = inl (set_held start path (get start path) refl)
  never_synced (ListCall folders pruned answer ∷ calls) never = never_synced calls never
  never_synced (ReadCall read limit answer ∷ calls) never = never_synced calls never
  never_synced (PutCall target bytes answer took ∷ calls) never =
      put_or_removed calls target (Some bytes) (has_effect answer took) (never_synced calls never)
  never_synced (RemoveCall target answer took ∷ calls) never =
      put_or_removed calls target None (has_effect answer took) (never_synced calls never)
  never_synced (SyncCall changes (Ok done) ∷ calls) (none, never) = (
    never_synced calls never,
    record {
      folder = folder_of_set (files_of start calls) path _ outside;
      here = λ other touched. get-set_other (files_of start calls) path _ other
          (λ (same : other ≡ path). false≢true (sym none ∙ ap (touches changes) (sym same) ∙ touched));
      others = λ other not. inr refl;
    },
  )
  never_synced (SyncCall changes (Err fault) ∷ calls) never = never_synced calls never

  pub left_as_it_was : (calls : List Call) → IsNeverSynced path calls
      → (other : Files) × IsCrashState start supposed calls other × (get other path ≡ get start path)
  left_as_it_was calls never =
      (as_start calls, never_synced calls never, get-set_same (files_of start calls) path (get start path))

module _ (start : Files) (initial supposed : List Files) (supposes : SupposesDurableTree start initial supposed) where
  -- the same with other calls behind it, none of which is a barrier that succeeded
  stays : (calls more : List Call) (left : Files)
      → ((path : List ℕ) → IsNeverSynced path calls → IsNeverSynced path more)
      → ((other : Files) → IsCrashState start supposed calls other → IsCrashState start supposed more other)
      → IsLeftByPaths start initial supposed calls left → IsLeftByPaths start initial supposed more left
  stays calls more left never may (other, kept, is_other, is_kept, is) = (
    other,
    kept,
    may other is_other,
    is_kept,
    record {
      journal = is.journal;
      each = λ path. ⊎_elim (λ same. inl same) (λ was. inr (was.0, never path was.1)) (is.each path);
    },
  )

  -- a put or a removal of a path was made of it, too
  sets : (calls more : List Call) (target : List ℕ) (file : Option (List ℕ)) (left before : Files)
      → left ≡ set before target file → ((path : List ℕ) → IsNeverSynced path calls → IsNeverSynced path more)
      → ((other : Files) → IsCrashState start supposed calls other
      → IsCrashState start supposed more (set other target file))
      → IsLeftByPaths start initial supposed calls before → IsLeftByPaths start initial supposed more left
  sets calls more target file left before is_left never may (other, kept, is_other, is_kept, is) = (
    set other target file,
    kept,
    may other is_other,
    is_kept,
    record {
      journal = ap undo_folder_of is_left ∙ folders_of_set before other target file is.journal;
      each = λ path. ⊎_elim
          (λ (same : path ≡ target). inl (ap (λ f. get f path) is_left ∙ ap (get (set before target file)) same
          ∙ get-set_same before target file ∙ sym (get-set_same other target file)
          ∙ ap (get (set other target file)) (sym same)))
          (λ (apart : path ≢ target). ⊎_elim
          (λ same. inl (ap (λ f. get f path) is_left ∙ get-set_other before target file path apart ∙ same
          ∙ sym (get-set_other other target file path apart)))
          (λ was. inr (
            ap (λ f. get f path) is_left ∙ get-set_other before target file path apart ∙ was.0,
            never path was.1,
          )) (is.each path))
          (same_or_other path target);
    },
  )

  -- behind a barrier that succeeded
  synced : (changes : List Change) (done : Unit {0}) (calls : List Call) (left : Files)
      → DurableAfterBarrier changes (files_of start calls) left left → IsLeftByPaths start initial supposed calls left
      → IsLeftByPaths start initial supposed (SyncCall changes (Ok done) ∷ calls) left
  synced changes done calls left durable (other, kept, is_other, is_kept, is) = (
    has.now,
    kept,
    (has.may, record { folder = has.journal; here = has.here; others = λ path none. inr refl }),
    is_kept,
    record {
      journal = durable.folder ∙ sym has.journal;
      each = λ path. by_test path (touches changes path) refl;
    },
  )
    where
      has : HasNow start supposed supposes.trees changes calls other
      has = with_all start supposed supposes.trees changes calls other is_other (sym is.journal ∙ durable.folder)

      by_test : (path : List ℕ) (b : Bool) → touches changes path ≡ b
          → (get left path ≡ get has.now path)
          ⊎ ((get left path ≡ get kept path) × IsNeverSynced path (SyncCall changes (Ok done) ∷ calls))
      by_test path true touched = inl (durable.here path touched ∙ sym (has.here path touched))
      by_test path false none = ⊎_elim (λ same. inl (same ∙ sym (has.others path none)))
          (λ was. inr (was.0, (none, was.1))) (is.each path)

  pub left_by_paths : (calls : List Call) (left : Files) → IsCrashState start initial calls left
      → IsLeftByPaths start initial supposed calls left
  left_by_paths [] left (inl is) = (
    start,
    start,
    inl refl,
    inl refl,
    record { journal = ap undo_folder_of is; each = λ path. inl (ap (λ f. get f path) is) },
  )
  left_by_paths [] left (inr one) = let other = supposes.journals left one in
      (other.0, left, inr other.1, inr one, record { journal = sym other.2; each = λ path. inr (refl, tt) })
  left_by_paths (ListCall folders pruned answer ∷ calls) left may =
      stays calls _ left (λ path never. never) (λ other is. is) (left_by_paths calls left may)
  left_by_paths (ReadCall path limit answer ∷ calls) left may =
      stays calls _ left (λ path never. never) (λ other is. is) (left_by_paths calls left may)
  left_by_paths (PutCall path bytes answer took ∷ calls) left (inl may) =
      stays calls _ left (λ path never. never) (λ other is. inl is) (left_by_paths calls left may)
  left_by_paths (PutCall path bytes answer took ∷ calls) left (inr (before, may, is)) =
      sets calls _ path (Some bytes) left before is (λ path never. never) (λ other is. inr (other, is, refl))
      (left_by_paths calls before may)
  left_by_paths (RemoveCall path answer took ∷ calls) left (inl may) =
      stays calls _ left (λ path never. never) (λ other is. inl is) (left_by_paths calls left may)
  left_by_paths (RemoveCall path answer took ∷ calls) left (inr (before, may, is)) =
      sets calls _ path None left before is (λ path never. never) (λ other is. inr (other, is, refl))
      (left_by_paths calls before may)
  left_by_paths (SyncCall changes (Ok done) ∷ calls) left (may, durable) =
      synced changes done calls left durable (left_by_paths calls left may)
  left_by_paths (SyncCall changes (Err fault) ∷ calls) left may =
      stays calls _ left (λ path never. never) (λ other is. is) (left_by_paths calls left may)
