-- A text that a header may have beside its tags: the lines of a file (docs/RULES.md, "Words of a header").
use Rattle.std.specs.Prelude.{◌≡◌, ℕ, Bool, true, not, ◌&&◌, ◌||◌, ◌==◌, nat_lt, List, [], ◌∷◌, ◌++◌, length, map}
use Rattle.std.specs.Prelude.{All, Result, Ok, Err, codes, if◌then◌else◌}
use Rattle.std.specs.List.{list_any}
use Rattle.reuse_text.specs.Text.{file_lines}
use Rattle.reuse_notice.specs.Tags.{is_blank, drop_end}
use Rattle.reuse_notice.specs.Contents.{free_of, is_nil}
use Rattle.reuse_header.specs.Tagged.{has_tag}
use Rattle.reuse_header.specs.Body.{is_barrier}
use Rattle.reuse_header.specs.Neighbour.{is_text}
use Rattle.reuse_words.specs.declared.text.TheConstants.{LONGEST_TEXT}
use Rattle.reuse_words.specs.declared.text.TextRefusal.{TextRefusal}
use Rattle.reuse_words.specs.declared.text.TextRefusal.TheVariants.{TooLong, NotText, ControlByte, HoldsTag}
use Rattle.reuse_words.specs.declared.text.TextRefusal.TheVariants.{HoldsBarrier, Empty, Memory}

-- the marks that a style's punctuation may have: ASCII that is neither a letter, a digit, a blank nor a control byte
abbrev pub every_mark : List ℕ
every_mark = codes "!" ++ 34 ∷ codes "#$%&'()*+,-./:;<=>?@[" ++ 92 ∷ codes "]^_`{|}~"

-- a control byte other than a tab
abbrev pub is_control : ℕ → Bool
is_control b = nat_lt b 32 && not (b == 9) || b == 127

-- the lines of a file, without blanks at their ends
abbrev pub lines_in : List ℕ → List (List ℕ)
lines_in file = map (λ line. drop_end is_blank line.1.content) (file_lines file)

-- whether a line of a file has a control byte; those of its ending are none of its content
abbrev pub has_control : List ℕ → Bool
has_control file = list_any (λ line. list_any is_control line.1.content) (file_lines file)

-- lines as a text: no line has a tag, whatever the style, none is a barrier, and one isn't blank; blank ones at the
-- outer ends are left out
abbrev pub text_of_lines : List (List ℕ) → Result (List (List ℕ)) TextRefusal
text_of_lines lines =
    if list_any (has_tag every_mark) lines then Err HoldsTag
    else if list_any is_barrier lines then Err HoldsBarrier
    else if is_nil (free_of [] lines) then Err Empty
    else Ok (free_of [] lines)

-- the text that a file is, or the first refusal
abbrev pub text_of : List ℕ → Result (List (List ℕ)) TextRefusal
text_of file =
    if nat_lt LONGEST_TEXT (length file) then Err TooLong
    else if not (is_text file) then Err NotText
    else if has_control file then Err ControlByte
    else text_of_lines (lines_in file)

-- each line of each text is UTF-8 without a NUL byte
abbrev pub AreTexts : List (List (List ℕ)) → Type 0
AreTexts texts = All (λ text. All (λ line. is_text line ≡ true) text) texts

-- the text that is expected, or an allocation failure, which may take the place of each answer
abbrev pub IsExpectedText : {X : Type 0} → Result X TextRefusal → Result X TextRefusal → Type 0
IsExpectedText expected (Err (Memory e)) = Unit {0}
IsExpectedText expected (Ok text) = expected ≡ Ok text
IsExpectedText expected (Err refusal) = expected ≡ Err refusal
