-- Texts of files, one file more at a time.
use Rattle.std.proofs.Common.{◌≡◌, ◌∙◌, ◌<◌, ◌≤◌, ◌+◌, inl, inr, ℕ, suc, List, [], ◌∷◌, ◌++◌, Option, Some, None, ap}
use Rattle.std.proofs.Common.{refl, sym, subst, get_or, length, map, take, drop, min, Bool, true, false, nat_lt, arith}
use Rattle.std.specs.Prelude.{Result, Ok, Err, IfSome, IfOk, IsErrAnd, string_bytes, String}
use Rattle.std.specs.declared.alloc.Global.{Global}
use Rattle.std.specs.declared.vec.Vec.{Vec}
use Rattle.std.proofs.lemmas.List.{take_all, take_more, take-append-drop, length-take, map-append}
use Rattle.std.proofs.lemmas.Bool.Decides.{nat_tests}
use Rattle.std.proofs.Math.Seq.{drop-cons}
use Rattle.reuse_words.specs.Texts.{text_of}
use Rattle.reuse_words.specs.declared.text.TheConstants.{LONGEST_TEXT}
use Rattle.reuse_words.specs.declared.text.TextRefusal.TheVariants.{TooLong}
use Rattle.reuse_arguments.specs.HeaderTexts.{Given, Text, HaveTexts, HoldsText, HoldTexts, IsFirstFault}
use Rattle.reuse_arguments.specs.HeaderTexts.{IsTextFault, text_read}
use Rattle.reuse_arguments.specs.LineFaults.{Mistake, mistake_of}
use Rattle.reuse_arguments.specs.declared.line.LineFault.{LineFault}

-- the names of files
abbrev pub names_in : List (String Global) → List (List ℕ)
names_in files = map string_bytes files

-- ---- files by name

holds_more : (gives : Given) (files : List (List ℕ)) (texts : List Text) (file : List ℕ) (text : Text)
    → HoldTexts gives files texts → HoldsText gives file text
    → HoldTexts gives (files ++ file ∷ []) (texts ++ text ∷ [])
holds_more gives [] [] file text so_far h = (h, tt)
holds_more gives [] (t ∷ texts) file text so_far h = absurd so_far
holds_more gives (f ∷ files) [] file text so_far h = absurd so_far
holds_more gives (f ∷ files) (t ∷ texts) file text so_far h =
    (so_far.0, holds_more gives files texts file text so_far.1 h)

fault_behind : (gives : Given) (before : List (List ℕ)) (texts : List Text) (file : List ℕ) (after : List (List ℕ))
    (mistake : Mistake) → HoldTexts gives before texts → IsTextFault gives file mistake
    → IsFirstFault gives (before ++ file ∷ after) mistake
fault_behind gives [] [] file after mistake so_far h = inl h
fault_behind gives [] (t ∷ texts) file after mistake so_far h = absurd so_far
fault_behind gives (f ∷ before) [] file after mistake so_far h = absurd so_far
fault_behind gives (f ∷ before) (t ∷ texts) file after mistake so_far h =
    inr (t, so_far.0, fault_behind gives before texts file after mistake so_far.1 h)

-- ---- files by place

names_before : (files : List (String Global)) (i : ℕ) (d : String Global) → i < length files
    → names_in (take (i + 1) files) ≡ names_in (take i files) ++ string_bytes (get_or files i d) ∷ []
names_before files i d h =
    ap names_in (take_more files i d h) ∙ map-append string_bytes (take i files) (get_or files i d ∷ [])

names_around : (files : List (String Global)) (i : ℕ) (d : String Global) → i < length files
    → names_in files ≡ names_in (take i files) ++ string_bytes (get_or files i d) ∷ names_in (drop (i + 1) files)
names_around files i d h =
    let next : suc i ≡ i + 1 = omega arith in
    ap names_in (sym (take-append-drop i files)) ∙ map-append string_bytes (take i files) (drop i files)
    ∙ ap (λ l. names_in (take i files) ++ names_in l) (drop-cons files i d h)
    ∙ ap (λ n. names_in (take i files) ++ string_bytes (get_or files i d) ∷ names_in (drop n files)) next

-- the files so far hold these texts
pub record HoldFront (gives : Given) (files : List (String Global)) (i : ℕ) (texts : List Text) : Type 0 where
  pub hold : HoldTexts gives (names_in (take i files)) texts

-- and one more
pub front_more : (gives : Given) (files : List (String Global)) (i : ℕ) (d : String Global) (name : List ℕ)
    (old new : List Text) (text : Text) → i < length files → HoldFront gives files i old
    → name ≡ string_bytes (get_or files i d) → HoldsText gives name text → new ≡ old ++ text ∷ []
    → HoldFront gives files (i + 1) new
front_more gives files i d name old new text h so_far named one is =
    let last : HoldsText gives (string_bytes (get_or files i d)) text =
    subst (λ n. HoldsText gives n text) named one in
    record {
      hold = subst (λ l. HoldTexts gives (names_in (take (i + 1) files)) l) (sym is)
          (subst (λ names. HoldTexts gives names (old ++ text ∷ [])) (sym (names_before files i d h))
          (holds_more gives (names_in (take i files)) old (string_bytes (get_or files i d)) text so_far.hold last));
    }

-- the first fault
pub front_stops : (gives : Given) (files : List (String Global)) (i : ℕ) (d : String Global) (name : List ℕ)
    (texts : List Text) (fault : LineFault) → i < length files → HoldFront gives files i texts
    → name ≡ string_bytes (get_or files i d) → IfSome (mistake_of fault) (IsTextFault gives name)
    → IfSome (mistake_of fault) (IsFirstFault gives (names_in files))
front_stops gives files i d name texts fault h so_far named one = go (mistake_of fault)
    (subst (λ n. IfSome (mistake_of fault) (IsTextFault gives n)) named one)
  where
    go : (o : Option Mistake) → IfSome o (IsTextFault gives (string_bytes (get_or files i d)))
        → IfSome o (IsFirstFault gives (names_in files))
    go None one = tt
    go (Some mistake) one =
        subst (λ names. IsFirstFault gives names mistake) (sym (names_around files i d h))
        (fault_behind gives (names_in (take i files)) texts (string_bytes (get_or files i d))
        (names_in (drop (i + 1) files)) mistake so_far.hold one)

-- all of them
pub front_end : (gives : Given) (files : List (String Global)) (i : ℕ) (texts : List Text) → length files ≤ i
    → HoldFront gives files i texts → HoldTexts gives (names_in files) texts
front_end gives files i texts h so_far =
    subst (λ l. HoldTexts gives (names_in l) texts) (take_all i files h) so_far.hold

-- ---- one file

-- what was read of a file, and is a text or none
pub text_given : (gives : Given) (file bytes : List ℕ) (text : Text) → gives file bytes
    → text_read file bytes ≡ Ok text → HoldsText gives file text
text_given gives file bytes text given is = (bytes, given, is)

pub fault_given : (gives : Given) (file bytes : List ℕ) (fault : LineFault) → gives file bytes
    → IfSome (mistake_of fault) (λ mistake. text_read file bytes ≡ Err mistake)
    → IfSome (mistake_of fault) (IsTextFault gives file)
fault_given gives file bytes fault given h = go (mistake_of fault) h
  where
    go : (o : Option Mistake) → IfSome o (λ mistake. text_read file bytes ≡ Err mistake)
        → IfSome o (IsTextFault gives file)
    go None h = tt
    go (Some mistake) h = inr (bytes, given, h)

-- ---- the front part of a file

too_long : (file : List ℕ) → nat_lt LONGEST_TEXT (length file) ≡ true → text_of file ≡ Err TooLong
too_long file h = rw h refl

is_long : (most n : ℕ) → most ≡ LONGEST_TEXT + 1 → nat_lt LONGEST_TEXT n ≡ true
    → nat_lt LONGEST_TEXT (min most n) ≡ true
is_long most n e h = grind (arith, nat_tests)

is_whole : (most n : ℕ) → most ≡ LONGEST_TEXT + 1 → nat_lt LONGEST_TEXT n ≡ false → n ≤ most
is_whole most n e h = grind (arith, nat_tests)

text_of_front : (most : ℕ) (bytes : List ℕ) → most ≡ LONGEST_TEXT + 1 → text_of (take most bytes) ≡ text_of bytes
text_of_front most bytes e = by (nat_lt LONGEST_TEXT (length bytes)) refl
  where
    by : (b : Bool) → nat_lt LONGEST_TEXT (length bytes) ≡ b → text_of (take most bytes) ≡ text_of bytes
    by true h =
        too_long (take most bytes) (ap (nat_lt LONGEST_TEXT) (length-take most bytes)
        ∙ is_long most (length bytes) e h) ∙ sym (too_long bytes h)
    by false h = ap text_of (take_all most bytes (is_whole most (length bytes) e h))

-- what is read of a reader is the text that all of it is, or refused as that
front_says_all : (most : ℕ) (had : Option (List ℕ)) (front : List ℕ) → most ≡ LONGEST_TEXT + 1
    → IfSome had (λ bytes. front ≡ take most bytes) → IfSome had (λ bytes. text_of front ≡ text_of bytes)
front_says_all most None front e is = tt
front_says_all most (Some bytes) front e is = ap text_of is ∙ text_of_front most bytes e

pub front_in : {E : Type 0} (most : ℕ) (had : Option (List ℕ)) (answer : Result (Vec ℕ Global) E)
    → most ≡ LONGEST_TEXT + 1 → IfOk answer (λ front. IfSome had (λ bytes. front.items ≡ take most bytes))
    → IfOk answer (λ front. IfSome had (λ bytes. text_of front.items ≡ text_of bytes))
front_in most had (Ok front) e h = front_says_all most had front.items e h
front_in most had (Err error) e h = tt

-- ---- an answer

-- one that is a fault, behind the conversion that `?` makes
pub have_after : (gives : Given) (files : List (List ℕ)) (answer : Result (Vec Text Global) LineFault)
    (fault : LineFault) → IsErrAnd answer (λ e. e ≡ fault)
    → IfSome (mistake_of fault) (IsFirstFault gives files) → HaveTexts gives files answer
have_after gives files (Err e) fault is h =
    subst (λ f. IfSome (mistake_of f) (IsFirstFault gives files)) (sym is) h
have_after gives files (Ok texts) fault is h = absurd is
