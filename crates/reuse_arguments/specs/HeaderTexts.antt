-- A line that adds texts to headers, or takes them out: those that the files hold which it names (docs/RULES.md, "Words
-- of a header").
use Rattle.std.specs.Prelude.{◌≡◌, ◌⊎◌, ℕ, List, [], ◌∷◌, Option, Result, Ok, Err, IfSome}
use Rattle.std.specs.declared.alloc.Global.{Global}
use Rattle.std.specs.declared.vec.Vec.{Vec}
use Rattle.reuse_words.specs.Texts.{text_of}
use Rattle.reuse_words.specs.declared.text.TextRefusal.{TextRefusal}
use Rattle.reuse_arguments.specs.LineFaults.{Mistake, bad_text, mistake_of, unreadable}
use Rattle.reuse_arguments.specs.ListedCommands.{IsReadWithList}
use Rattle.reuse_arguments.specs.Requests.{request_with_header_texts}
use Rattle.reuse_arguments.specs.declared.line.Line.{Line}
use Rattle.reuse_arguments.specs.declared.line.LineFault.{LineFault}

-- a text: its lines
abbrev pub Text : Type 0
Text = List (List ℕ)

-- which bytes may be given for a file
abbrev pub Given : Type 1
Given = List ℕ → List ℕ → Type 0

-- no contract says what a file of the system holds
abbrev pub any_bytes : Given
any_bytes file bytes = Unit {0}

-- the text that the bytes of a file are, or the mistake that names the file
abbrev pub or_bad_text : List ℕ → Result Text TextRefusal → Result Text Mistake
or_bad_text file (Ok text) = Ok text
or_bad_text file (Err refusal) = Err (bad_text file refusal)

abbrev pub text_read : List ℕ → List ℕ → Result Text Mistake
text_read file bytes = or_bad_text file (text_of bytes)

-- ---- one file

-- it holds this text
abbrev pub HoldsText : Given → List ℕ → Text → Type 0
HoldsText gives file text = (bytes : List ℕ) × gives file bytes × (text_read file bytes ≡ Ok text)

-- it can't be read, or holds no text
abbrev pub IsTextFault : Given → List ℕ → Mistake → Type 0
IsTextFault gives file mistake =
    (mistake ≡ unreadable file) ⊎ ((bytes : List ℕ) × gives file bytes × (text_read file bytes ≡ Err mistake))

-- its text, or why there is none; an allocation failure may take the place of each
abbrev pub HasText : Given → List ℕ → Result Text LineFault → Type 0
HasText gives file (Ok text) = HoldsText gives file text
HasText gives file (Err fault) = IfSome (mistake_of fault) (IsTextFault gives file)

-- ---- files in their order

-- each holds the text of its place
abbrev pub HoldTexts : Given → List (List ℕ) → List Text → Type 0
HoldTexts gives [] [] = Unit {0}
HoldTexts gives (file ∷ files) (text ∷ texts) = HoldsText gives file text × HoldTexts gives files texts
HoldTexts gives files texts = ⊥

-- the first that holds none has this mistake
abbrev pub IsFirstFault : Given → List (List ℕ) → Mistake → Type 0
IsFirstFault gives [] mistake = ⊥
IsFirstFault gives (file ∷ files) mistake =
    IsTextFault gives file mistake ⊎ ((text : Text) × HoldsText gives file text × IsFirstFault gives files mistake)

-- their texts, or the first mistake; an allocation failure may take the place of each
abbrev pub HaveTexts : Given → List (List ℕ) → Result (Vec Text Global) LineFault → Type 0
HaveTexts gives files (Ok texts) = HoldTexts gives files texts.items
HaveTexts gives files (Err fault) = IfSome (mistake_of fault) (IsFirstFault gives files)

-- ---- a line

-- the line as it is, or with the texts that the files hold; or the first mistake, or an allocation failure
abbrev pub IsWithTexts : Given → List (List ℕ) → Line → Result Line LineFault → Type 0
IsWithTexts gives [] line answer = answer ≡ Ok line
IsWithTexts gives (file ∷ files) line (Ok new) = (texts : List Text) × HoldTexts gives (file ∷ files) texts
    × (new ≡ record line { request = request_with_header_texts texts line.request })
IsWithTexts gives (file ∷ files) line (Err fault) =
    IfSome (mistake_of fault) (IsFirstFault gives (file ∷ files))

-- the same of words, which may be no line
abbrev pub IsReadWithTexts : Given → List (List ℕ) → Result Line LineFault → Result Line LineFault → Type 0
IsReadWithTexts gives files (Ok line) answer = IsWithTexts gives files line answer
IsReadWithTexts gives files (Err fault) answer = answer ≡ Err fault

-- the same with the list of files, which is read first
abbrev pub IsReadWhole : Option (List ℕ) → List (List ℕ) → Result Line LineFault → Result Line LineFault → Type 0
IsReadWhole list files said answer =
    (listed : Result Line LineFault) × IsReadWithList list said listed × IsReadWithTexts any_bytes files listed answer
