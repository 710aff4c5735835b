-- That the calls of a record keep the laws of the system.
use Rattle.std.proofs.Common.{◌≡◌, ◌≢◌, ◌<◌, ◌+◌, inl, inr, ℕ, zero, suc, Bool, true, false, cond, List, [], ◌∷◌, ◌++◌}
use Rattle.std.proofs.Common.{length, take, Option, None, Some, Result, Ok, Err, is_ok, IfOk, MatchResult, refl, sym}
use Rattle.std.proofs.Common.{◌∙◌, ap, arith, append-nil, true≢false}
use Rattle.std.proofs.lemmas.Bool.{false_from_ne_true}
use Rattle.std.proofs.lemmas.Bool.Decides.{Decides-eqb}
use Rattle.std.proofs.lemmas.Slice.Eq.{bytes_eq-Decides}
use Rattle.std.specs.Str.{bytes_eq}
use Rattle.std.specs.declared.io.Error.{Error}
use Rattle.reuse_system.specs.declared.system.TempFile.{TempFile}
use Rattle.reuse_system.specs.declared.system.new_status.NewStatus.{NewStatus}
use Rattle.reuse_system.specs.TempFiles.{place_of, key_of}
use Rattle.reuse_system.specs.FileStates.{FileKey, StateFile, Place, FileState, file, IsNot}
use Rattle.reuse_system.specs.FileStates.FileKey.{Found, Made}
use Rattle.reuse_system.specs.SystemLaws.{IsAlikeBut, IsMade, IsFilled, IsSynced, IsRenamed, IsOneFile, IsLeft}
use Rattle.reuse_system.specs.SystemLaws.{IsLinked, MayBeLinked, MayBeRenamed}
use Rattle.reuse_system.specs.SystemCall.{SystemCall, made_of}
use Rattle.reuse_system.specs.SystemCall.SystemCall.{MakeCall, AppendCall, SyncCall, RenameCall, LinkCall, RemoveCall}
use Rattle.reuse_system.specs.SystemCall.SystemCall.{LookCall, ReadCall, RootCall, OpenCall, NoFolderCall}
use Rattle.reuse_system.specs.SystemCall.SystemCall.{MakeFolderCall, RemoveFolderCall, SyncFolderCall}
use Rattle.reuse_system.specs.SystemCalls.{held_at_start, set, set_by, is_made, filled_if, filled, is_one_key}
use Rattle.reuse_system.specs.SystemCalls.{is_one_file, renamed, renamed_by, linked, linked_by, held_by, held_after}
use Rattle.reuse_system.specs.SystemCalls.{effect_at}

set_here : (held : FileState) (place : Place) (one : Option StateFile) → set held place one place ≡ one
set_here held place one = ap (λ b. cond b one (held place)) ((bytes_eq-Decides place place).1 refl)

set_other : (held : FileState) (place : Place) (one : Option StateFile) → IsAlikeBut place held (set held place one)
set_other held place one other apart =
    ap (λ b. cond b one (held other)) (false_from_ne_true _ (λ yes. apart ((bytes_eq-Decides other place).0 yes)))

set_by_other : (effect : ℕ) (held : FileState) (place : Place) (one : Option StateFile)
    → IsAlikeBut place held (set_by effect held place one)
set_by_other zero held place one other apart = refl
set_by_other (suc effect) held place one other apart = set_other held place one other apart

is_made-not : (number : ℕ) (key : FileKey) → key ≢ Made number → is_made number key ≡ false
is_made-not number (Found other) apart = refl
is_made-not number (Made other) apart =
    false_from_ne_true _ (λ yes. apart (ap (λ n. Made n) ((Decides-eqb other number).0 yes)))

filled_if-not : (number : ℕ) (bytes : List ℕ) (is : Bool) (one : Option StateFile) → IsNot (Made number) one
    → filled_if number bytes is one ≡ one
filled_if-not number bytes is None apart = refl
filled_if-not number bytes is (Some held) apart =
    ap (λ b. cond b (file held.key (held.bytes ++ bytes) is) (Some held)) (is_made-not number held.key apart)

filled_if-here : (number : ℕ) (bytes : List ℕ) (is : Bool) (had : List ℕ) (was : Bool)
    → filled_if number bytes is (file (Made number) had was) ≡ file (Made number) (had ++ bytes) is
filled_if-here number bytes is had was =
    ap (λ b. cond b (file (Made number) (had ++ bytes) is) (file (Made number) had was))
    ((Decides-eqb number number).1 refl)

fills : (number : ℕ) (bytes : List ℕ) (is : Bool) (held : FileState)
    → IsFilled (Made number) bytes is held (filled number bytes is held)
fills number bytes is held =
    record {
      here = λ place had was e. ap (filled_if number bytes is) e ∙ filled_if-here number bytes is had was;
      others = λ place apart. filled_if-not number bytes is (held place) apart;
    }

syncs : (number : ℕ) (held : FileState) → IsSynced (Made number) held (filled number [] true held)
syncs number held =
    let one = fills number [] true held in
    record {
      here = λ place had was e. one.here place had was e ∙ ap (λ bytes. file (Made number) bytes true) (append-nil had);
      others = one.others;
    }

set_others : (stays : Bool) (from to : Place) (held : FileState) (one : Option StateFile) (place : Place) → place ≢ from
    → place ≢ to → set (cond stays held (set held from None)) to one place ≡ held place
set_others true from to held one place = λ apart other. set_other held to one place other
set_others false from to held one place =
    λ apart other. set_other (set held from None) to one place other ∙ set_other held from None place apart

renames : (from to : Place) (held : FileState) → IsRenamed from to held (renamed from to held)
renames from to held =
    let stays = is_one_file (held from) (held to) in
    record {
      there = set_here (cond stays held (set held from None)) to (held from);
      others = set_others stays from to held (held from);
    }

same_key : (one other : FileKey) → is_one_key one other ≡ true → one ≡ other
same_key (Found one) (Found other) is = ap (λ n. Found n) ((Decides-eqb one other).0 is)
same_key (Made one) (Made other) is = ap (λ n. Made n) ((Decides-eqb one other).0 is)
same_key (Found one) (Made other) is = absurd (true≢false (sym is))
same_key (Made one) (Found other) is = absurd (true≢false (sym is))

one_file : (one other : Option StateFile) → is_one_file one other ≡ true → IsOneFile one other
one_file (Some one) (Some other) is = same_key one.key other.key is
one_file (Some one) None is = absurd (true≢false (sym is))
one_file None (Some other) is = absurd (true≢false (sym is))
one_file None None is = absurd (true≢false (sym is))

-- where the names are apart, by whether both led to one file
left_apart : (from to : Place) (held : FileState) (stays : Bool) → from ≢ to → is_one_file (held from) (held to) ≡ stays
    → IsLeft from to held (renamed from to held)
left_apart from to held true apart is =
    inr (
      set_other (cond (is_one_file (held from) (held to)) held (set held from None)) to (held from) from apart
          ∙ ap (λ b. cond b held (set held from None) from) is,
      inr (one_file (held from) (held to) is),
    )
left_apart from to held false apart is =
    inl (set_other (cond (is_one_file (held from) (held to)) held (set held from None)) to (held from) from apart
    ∙ ap (λ b. cond b held (set held from None) from) is ∙ set_here held from None)

left_by : (from to : Place) (held : FileState) (is_same : Bool) → bytes_eq from to ≡ is_same
    → IsLeft from to held (renamed from to held)
left_by from to held true same =
    let e = (bytes_eq-Decides from to).0 same in
    inr (ap (renamed from to held) e ∙ (renames from to held).there, inl e)
left_by from to held false differ =
    left_apart from to held (is_one_file (held from) (held to))
    (λ e. true≢false (sym ((bytes_eq-Decides from to).1 e) ∙ differ)) refl

-- what a renaming that was done leaves at the old name
pub left_noted : (files : List (Place × (ℕ × (List ℕ × Bool)))) (effects : List ℕ) (calls : List SystemCall)
    (from to : Place) (given : NewStatus) (answer : Result (Unit {0}) Error)
    → IfOk answer (λ _. IsLeft from to (held_after files effects calls)
    (held_after files effects (RenameCall from to given (is_ok answer) ∷ calls)))
left_noted files effects calls from to given (Ok done) =
    left_by from to (held_after files effects calls) (bytes_eq from to) refl
left_noted files effects calls from to given (Err error) = tt

may_rename : (effect : ℕ) (from to : Place) (held : FileState)
    → MayBeRenamed from to held (renamed_by effect from to held)
may_rename zero from to held = inl (λ place. refl)
may_rename (suc effect) from to held = inr (renames from to held)

-- what a file that was to be renamed leaves
pub rename_noted : (files : List (Place × (ℕ × (List ℕ × Bool)))) (effects : List ℕ) (calls : List SystemCall)
    (from to : Place) (given : NewStatus) (answer : Result (Unit {0}) Error)
    → let new = held_after files effects (RenameCall from to given (is_ok answer) ∷ calls) in
    MatchResult answer (λ _. IsRenamed from to (held_after files effects calls) new)
    (λ _. MayBeRenamed from to (held_after files effects calls) new)
rename_noted files effects calls from to given (Ok done) = renames from to (held_after files effects calls)
rename_noted files effects calls from to given (Err error) =
    may_rename (effect_at effects (length calls)) from to (held_after files effects calls)

-- ---- a file that is made is none of those that were made before

abbrev KeyBelow : ℕ → FileKey → Type 0
KeyBelow most (Found other) = Unit {0}
KeyBelow most (Made other) = other < most

abbrev IsBelow : ℕ → Option StateFile → Type 0
IsBelow most None = Unit {0}
IsBelow most (Some held) = KeyBelow most held.key

abbrev AreBelow : ℕ → FileState → Type 0
AreBelow most held = (place : Place) → IsBelow most (held place)

KeyBelow-more : (most : ℕ) (key : FileKey) → KeyBelow most key → KeyBelow (most + 1) key
KeyBelow-more most (Found other) below = tt
KeyBelow-more most (Made other) below = omega (arith, below)

IsBelow-more : (most : ℕ) (one : Option StateFile) → IsBelow most one → IsBelow (most + 1) one
IsBelow-more most None below = tt
IsBelow-more most (Some held) below = KeyBelow-more most held.key below

either : (most : ℕ) (one other : Option StateFile) → IsBelow most one → IsBelow most other → (b : Bool)
    → IsBelow most (cond b one other)
either most one other new old true = new
either most one other new old false = old

set-below : (most : ℕ) (held : FileState) (at : Place) (one : Option StateFile) → IsBelow most one → AreBelow most held
    → AreBelow most (set held at one)
set-below most held at one new old place = either most one (held place) new (old place) (bytes_eq place at)

set_by-below : (most effect : ℕ) (held : FileState) (at : Place) (one : Option StateFile) → IsBelow most one
    → AreBelow most held → AreBelow most (set_by effect held at one)
set_by-below most zero held at one new old = old
set_by-below most (suc effect) held at one new old = set-below most held at one new old

filled_if-below : (most number : ℕ) (bytes : List ℕ) (is : Bool) (one : Option StateFile) → IsBelow most one
    → IsBelow most (filled_if number bytes is one)
filled_if-below most number bytes is None below = tt
filled_if-below most number bytes is (Some held) below =
    either most (file held.key (held.bytes ++ bytes) is) (Some held) below below (is_made number held.key)

cond-below : (most : ℕ) (held other : FileState) → AreBelow most held → AreBelow most other → (b : Bool)
    → AreBelow most (cond b held other)
cond-below most held other old new true = old
cond-below most held other old new false = new

renamed-below : (most : ℕ) (from to : Place) (held : FileState) → AreBelow most held
    → AreBelow most (renamed from to held)
renamed-below most from to held old =
    let stays = is_one_file (held from) (held to) in
    set-below most (cond stays held (set held from None)) to (held from) (old from)
    (cond-below most held (set held from None) old (set-below most held from None tt old) stays)

renamed_by-below : (most effect : ℕ) (from to : Place) (held : FileState) → AreBelow most held
    → AreBelow most (renamed_by effect from to held)
renamed_by-below most zero from to held old = old
renamed_by-below most (suc effect) from to held old = renamed-below most from to held old

linked-below : (most : ℕ) (from to : Place) (held : FileState) → AreBelow most held
    → AreBelow most (linked from to held)
linked-below most from to held old place = either most (held place) (set held to (held from) place) (old place)
    (set-below most held to (held from) (old from) old place) (bytes_eq from to)

linked_by-below : (most effect : ℕ) (from to : Place) (held : FileState) → AreBelow most held
    → AreBelow most (linked_by effect from to held)
linked_by-below most zero from to held old = old
linked_by-below most (suc effect) from to held old = linked-below most from to held old

more : (most : ℕ) (held : FileState) → AreBelow most held → AreBelow (most + 1) held
more most held old place = IsBelow-more most (held place) (old place)

made-below : (made : ℕ) → IsBelow (made + 1) (file (Made made) [] false)
made-below made = omega arith

start-below : (files : List (Place × (ℕ × (List ℕ × Bool)))) → AreBelow 0 (held_at_start files)
start-below [] place = tt
start-below (entry ∷ entries) place = either 0 (file (Found entry.1.0) entry.1.1.0 entry.1.1.1)
    (held_at_start entries place) tt (start-below entries place) (bytes_eq place entry.0)

step-below : (effect : ℕ) (call : SystemCall) (calls : List SystemCall) (held : FileState)
    → AreBelow (made_of calls) held → AreBelow (made_of (call ∷ calls)) (held_by effect (made_of calls) call held)
step-below effect (MakeCall at true) calls held old = set-below (made_of calls + 1)
    held at (file (Made (made_of calls)) [] false) (made-below (made_of calls)) (more (made_of calls) held old)
step-below effect (MakeCall at false) calls held old = set_by-below (made_of calls + 1) effect
    held at (file (Made (made_of calls)) [] false) (made-below (made_of calls)) (more (made_of calls) held old)
step-below effect (AppendCall number bytes true) calls held old =
    λ place. filled_if-below (made_of calls) number bytes false (held place) (old place)
step-below effect (AppendCall number bytes false) calls held old =
    λ place. filled_if-below (made_of calls) number (take effect bytes) false (held place) (old place)
step-below effect (SyncCall number is) calls held old =
    λ place. filled_if-below (made_of calls) number [] is (held place) (old place)
step-below effect (RenameCall from to given true) calls held old = renamed-below (made_of calls) from to held old
step-below effect (RenameCall from to given false) calls held old = renamed_by-below (made_of calls) effect from to held old
step-below effect (LinkCall from to given true) calls held old = linked-below (made_of calls) from to held old
step-below effect (LinkCall from to given false) calls held old = linked_by-below (made_of calls) effect from to held old
step-below effect (RemoveCall at true) calls held old = set-below (made_of calls) held at None tt old
step-below effect (RemoveCall at false) calls held old = set_by-below (made_of calls) effect held at None tt old
step-below effect (LookCall at answer) calls held old = old
step-below effect (ReadCall at said limit answer) calls held old = old
step-below effect (RootCall opened) calls held old = old
step-below effect (OpenCall above name opened) calls held old = old
step-below effect (NoFolderCall above name found) calls held old = old
step-below effect (MakeFolderCall above name is) calls held old = old
step-below effect (RemoveFolderCall at is) calls held old = old
step-below effect (SyncFolderCall folder is) calls held old = old

after-below : (files : List (Place × (ℕ × (List ℕ × Bool)))) (effects : List ℕ) (calls : List SystemCall)
    → AreBelow (made_of calls) (held_after files effects calls)
after-below files effects [] = start-below files
after-below files effects (call ∷ calls) = step-below (effect_at effects (length calls)) call calls
    (held_after files effects calls) (after-below files effects calls)

made_number : {a b : ℕ} → Made a ≡ Made b → a ≡ b
made_number e = cc

KeyBelow-not : (most : ℕ) (key : FileKey) → KeyBelow most key → key ≢ Made most
KeyBelow-not most (Found other) below e = absurd (cc)
KeyBelow-not most (Made other) below e = omega (arith, below, made_number e)

IsBelow-not : (most : ℕ) (one : Option StateFile) → IsBelow most one → IsNot (Made most) one
IsBelow-not most None below = tt
IsBelow-not most (Some held) below = KeyBelow-not most held.key below

makes : (files : List (Place × (ℕ × (List ℕ × Bool)))) (effects : List ℕ) (calls : List SystemCall) (place : Place)
    → IsMade place (Made (made_of calls)) (held_after files effects calls)
    (held_after files effects (MakeCall place true ∷ calls))
makes files effects calls place =
    let held = held_after files effects calls in
    let made = made_of calls in
    record {
      here = set_here held place (file (Made made) [] false);
      fresh = λ other. IsBelow-not made (held other) (after-below files effects calls other);
      others = set_other held place (file (Made made) [] false);
    }

-- what a file that was to be made leaves
pub make_noted : (files : List (Place × (ℕ × (List ℕ × Bool)))) (effects : List ℕ) (calls : List SystemCall)
    (place : Place) (number : ℕ) (answer : Result TempFile Error)
    → number ≡ made_of calls → IfOk answer (λ temp_file. place_of temp_file ≡ place)
    → IfOk answer (λ temp_file. temp_file.number ≡ number)
    → let new = held_after files effects (MakeCall place (is_ok answer) ∷ calls) in
    MatchResult answer
    (λ temp_file. (place_of temp_file ≡ place) × IsMade place (key_of temp_file) (held_after files effects calls) new)
    (λ _. IsAlikeBut place (held_after files effects calls) new)
make_noted files effects calls place number (Ok temp_file) counted at same =
    (at, rw (same ∙ counted) (makes files effects calls place))
make_noted files effects calls place number (Err error) counted at same =
    set_by_other (effect_at effects (length calls)) (held_after files effects calls) place
    (file (Made (made_of calls)) [] false)

apart_test : (a b : Place) → a ≢ b → bytes_eq a b ≡ false
apart_test a b apart = false_from_ne_true _ (λ yes. apart ((bytes_eq-Decides a b).0 yes))

links : (from to : Place) (held : FileState) → from ≢ to → IsLinked from to held (linked from to held)
links from to held apart =
    let differ = apart_test from to apart in
    record {
      apart = λ e. apart (sym e);
      there = ap (λ b. cond b (held to) (set held to (held from) to)) differ ∙ set_here held to (held from);
      others = λ place other. ap (λ b. cond b (held place) (set held to (held from) place)) differ
          ∙ set_other held to (held from) place other;
    }

linked_or_not : (from to : Place) (held : FileState) (b : Bool) → bytes_eq from to ≡ b
    → MayBeLinked from to held (linked from to held)
linked_or_not from to held true same = inl (λ place. ap (λ b. cond b (held place) (set held to (held from) place)) same)
linked_or_not from to held false differ =
    inr (links from to held (λ e. true≢false (sym ((bytes_eq-Decides from to).1 e) ∙ differ)))

may_link : (effect : ℕ) (from to : Place) (held : FileState) → MayBeLinked from to held (linked_by effect from to held)
may_link zero from to held = inl (λ place. refl)
may_link (suc effect) from to held = linked_or_not from to held (bytes_eq from to) refl

-- what a file that was to be linked leaves
pub link_noted : (files : List (Place × (ℕ × (List ℕ × Bool)))) (effects : List ℕ) (calls : List SystemCall)
    (from to : Place) (given : NewStatus) (answer : Result (Unit {0}) Error)
    → IfOk answer (λ _. from ≢ to)
    → let new = held_after files effects (LinkCall from to given (is_ok answer) ∷ calls) in
    MatchResult answer (λ _. IsLinked from to (held_after files effects calls) new)
    (λ _. MayBeLinked from to (held_after files effects calls) new)
link_noted files effects calls from to given (Ok done) apart = links from to (held_after files effects calls) apart
link_noted files effects calls from to given (Err error) apart =
    may_link (effect_at effects (length calls)) from to (held_after files effects calls)
