-- A path that is put or removed in a folder.
use Rattle.std.proofs.Common.{◌≡◌, ◌≢◌, ◌⊎◌, ◌<◌, inl, inr, ℕ, zero, suc, Bool, true, false, List, [], ◌∷◌, ◌++◌}
use Rattle.std.proofs.Common.{length, get_or, refl, sym, ◌∙◌, ap, ap₂, ◌==◌, arith, true≢false, None, Result, Ok, Err}
use Rattle.std.proofs.Common.{IsErr, MatchResult}
use Rattle.std.specs.Bool.{Decides}
use Rattle.std.proofs.lemmas.Bool.Decides.{Decides-eqb}
use Rattle.reuse_system.specs.TempFiles.{IsNewIn, IsNewPlace}
use Rattle.reuse_folder.specs.FolderWrites.{IsCleared, IsRemovedAt}
use Rattle.reuse_system.specs.FileStates.{FileState, place_in}
use Rattle.reuse_system.specs.NameChanges.{NameChange, OnlyChanges}
use Rattle.reuse_system.specs.Names.{IsNameOf}
use Rattle.reuse_system.specs.SystemLaws.{IsAlikeBut, IsAlikeUnless, IsRemoved}
use Rattle.reuse_disk.specs.Written.{IsWritten}
use Rattle.reuse_disk.specs.declared.new_file.NewFile.{NewFile}
use Rattle.reuse_system.specs.declared.place.Identity.{Identity}
use Rattle.reuse_disk.proofs.EditLemmas.{only_none}
use Rattle.reuse_disk.proofs.WrittenLemmas.{then_alike}

-- written, after something differed at places for new files
pub written_after_clearing : (new_files folder : Identity) (name bytes : List ℕ) (is : Bool) (a b c : FileState)
    (is_done : Bool) → IsAlikeUnless (IsNewIn new_files) a b
    → IsWritten (IsNewPlace new_files folder) (place_in folder name) bytes is b c is_done
    → IsWritten (IsNewPlace new_files folder) (place_in folder name) bytes is a c is_done
written_after_clearing new_files folder name bytes is a b c is_done alike written =
    record {
      done = written.done;
      whole = λ apart. then_alike _ _ _ (alike (place_in folder name) (λ new. apart (inl new))) (written.whole apart);
      others = λ place apart other. written.others place apart other ∙ alike place (λ new. apart (inl new));
    }

pub cleared_at_error : {E : Type 0} (folder : Identity) (before after : List NameChange) (a b : FileState)
    (answer : Result NewFile E) → IsErr answer → OnlyChanges (IsNewIn folder) before after
    → IsAlikeUnless (IsNewIn folder) a b → IsCleared before after None a b answer
cleared_at_error folder before after a b (Ok new_file) bad changed alike = absurd (true≢false (sym bad))
cleared_at_error folder before after a b (Err error) bad changed alike =
    record { folder = folder; was = tt; others = alike; none_left = tt; is_folder = tt; changed = changed }

pub nothing_cleared : {E : Type 0} (before after : List NameChange) (held : FileState) (answer : Result NewFile E)
    → IsErr answer → after ≡ before → IsCleared before after None held held answer
nothing_cleared before after held answer bad same =
    let any : Identity = record {
      device = 0;
      number = 0;
    } in cleared_at_error any before after held held answer bad (only_none (IsNewIn any) before after same)
    (λ place apart. refl)

-- ---- each path has a name

longer : (byte : ℕ) (path name : List ℕ) → IsNameOf path name → ((folder : List ℕ) × (path ≡ folder ++ 47 ∷ name))
    → IsNameOf (byte ∷ path) name
longer byte path name named at = record { behind = inr (byte ∷ at.0, ap (λ l. byte ∷ l) at.1); last = named.last }

no_slash : (byte : ℕ) (name : List ℕ) → byte ≢ 47 → ((i : ℕ) → i < length name → get_or name i 0 ≢ 47) → (i : ℕ)
    → i < length (byte ∷ name) → get_or (byte ∷ name) i 0 ≢ 47
no_slash byte name other last zero short = other
no_slash byte name other last (suc i) short = last i (omega (arith, short))

whole : (byte : ℕ) (path name : List ℕ) → IsNameOf path name → name ≡ path → (is_slash : Bool)
    → Decides is_slash (byte ≡ 47) → (one : List ℕ) × IsNameOf (byte ∷ path) one
whole byte path name named e true decides =
    (name, record { behind = inr ([], ap₂ (λ b l. b ∷ l) (decides.0 refl) (sym e)); last = named.last })
whole byte path name named e false decides = (
  byte ∷ name,
  record {
    behind = inl (ap (λ l. byte ∷ l) e);
    last = no_slash byte name (λ slash. true≢false (sym (decides.1 slash))) named.last;
  },
)

more : (byte : ℕ) (path name : List ℕ) → IsNameOf path name
    → (name ≡ path) ⊎ ((folder : List ℕ) × (path ≡ folder ++ 47 ∷ name)) → (one : List ℕ) × IsNameOf (byte ∷ path) one
more byte path name named (inl e) = whole byte path name named e (byte == 47) (Decides-eqb byte 47)
more byte path name named (inr at) = (name, longer byte path name named at)

pub some_name : (path : List ℕ) → (name : List ℕ) × IsNameOf path name
some_name [] = ([], record { behind = inl refl; last = λ i short. omega (arith, short) })
some_name (byte ∷ path) = let one = some_name path in more byte path one.0 one.1 one.1.behind

pub nothing_removed : (path : List ℕ) (held : FileState) → IsRemovedAt path held held
nothing_removed path held =
    let one = some_name path in record {
      folder = record { device = 0; number = 0 };
      name = one.0;
      is_named = one.1;
      others = λ place apart. refl;
    }

-- the name was to be removed, and was or wasn't
pub removed_at : {E : Type 0} (path name : List ℕ) (folder : Identity) (a b : FileState) (answer : Result (Unit {0}) E)
    → IsNameOf path name
    → MatchResult answer (λ _. IsRemoved (place_in folder name) a b) (λ _. IsAlikeBut (place_in folder name) a b)
    → IsRemovedAt path a b
removed_at path name folder a b (Ok done) named removed = record {
  folder = folder;
  name = name;
  is_named = named;
  others = removed.others;
}
removed_at path name folder a b (Err error) named alike = record {
  folder = folder;
  name = name;
  is_named = named;
  others = alike;
}
