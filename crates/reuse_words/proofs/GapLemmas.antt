-- Texts as contents are text where their lines are, and so is information with them.
use Rattle.std.proofs.Common.{◌≡◌, ℕ, Bool, true, false, cond, List, [], ◌∷◌, ◌++◌, length, map, drop, Option, None}
use Rattle.std.proofs.Common.{Some, refl}
use Rattle.std.specs.Prelude.{All}
use Rattle.std.specs.List.{list_all}
use Rattle.std.specs.Option.{is_none}
use Rattle.reuse_text.specs.Text.{is_empty}
use Rattle.reuse_notice.specs.declared.infos.Info.{Info}
use Rattle.reuse_notice.specs.Tags.{tag_of}
use Rattle.reuse_notice.specs.Contents.{is_nil, is_blank_content, untagged, free_of}
use Rattle.reuse_notice.proofs.SoundLemmas.{IsSound, sound_nil, sound_append}
use Rattle.reuse_style.specs.declared.style.Style.{Style}
use Rattle.reuse_style.specs.declared.marks.Form.{Form}
use Rattle.reuse_style.specs.Marks.{is_plain}
use Rattle.reuse_header.specs.Marks.{LineMarks, marks_of}
use Rattle.reuse_header.specs.Neighbour.{is_text}
use Rattle.reuse_header.proofs.SayableLemmas.{Each, each_of_all, each_both, each_front, each_end}
use Rattle.reuse_header.proofs.InfoLemmas.{each_filtered}
use Rattle.reuse_header.proofs.InfoSoundLemmas.{IsSoundInfo}
use Rattle.reuse_header.proofs.MarkLemmas.{all-back, plain_sound}
use Rattle.reuse_header.proofs.LinesLemmas.{marks_plain}
use Rattle.reuse_header.proofs.MadeTextLemmas.{text_is}
use Rattle.reuse_words.specs.Runs.{holds_text, separated, with_text}
use Rattle.reuse_words.specs.Information.{gap_of, set_in, text_in, with_texts, info_with}

-- ---- what stands between a form's mark and its tags

behind_mark : (mark lead : List ℕ) → list_all is_plain lead ≡ true → IsSound (drop (length mark) lead)
behind_mark mark lead plain =
    plain_sound (drop (length mark) lead) (all-back is_plain (length mark) lead plain)

pub gap_sound : (style : Style) (form : Form) → IsSound (gap_of (marks_of style form))
gap_sound style form = by (marks_of style form) refl
  where
    by : (o : Option LineMarks) → marks_of style form ≡ o → IsSound (gap_of o)
    by None is = sound_nil
    by (Some marks) is = behind_mark marks.mark marks.lead (marks_plain style form marks is).lead

-- ---- texts

-- each line of each text is sound
abbrev pub AreSoundTexts : List (List (List ℕ)) → Type 0
AreSoundTexts texts = Each (λ text. Each IsSound text) texts

each_line : (lines : List (List ℕ)) → Each (λ line. is_text line ≡ true) lines → Each IsSound lines
unfolding Each
each_line [] h = tt
each_line (line ∷ lines) h = (text_is line h.0, each_line lines h.1)

each_text : (texts : List (List (List ℕ))) → Each (λ text. All (λ line. is_text line ≡ true) text) texts
    → AreSoundTexts texts
unfolding Each
each_text [] h = tt
each_text (text ∷ texts) h =
    (each_line text (each_of_all (λ line. is_text line ≡ true) text h.0), each_text texts h.1)

pub texts_sound : (texts : List (List (List ℕ))) → All (λ text. All (λ line. is_text line ≡ true) text) texts
    → AreSoundTexts texts
texts_sound texts h = each_text texts (each_of_all (λ text. All (λ line. is_text line ≡ true) text) texts h)

set_sound : (gap line : List ℕ) → IsSound gap → IsSound line → IsSound (set_in gap line)
set_sound gap line g h = by (is_empty line)
  where
    by : (empty : Bool) → IsSound (cond empty [] (gap ++ line))
    by true = sound_nil
    by false = sound_append gap line g h

text_sound : (gap : List ℕ) (text : List (List ℕ)) → IsSound gap → Each IsSound text → Each IsSound (text_in gap text)
unfolding Each
text_sound gap [] g h = tt
text_sound gap (line ∷ text) g h = (set_sound gap line g h.0, text_sound gap text g h.1)

pub texts_in_sound : (gap : List ℕ) (texts : List (List (List ℕ))) → IsSound gap → AreSoundTexts texts
    → AreSoundTexts (map (text_in gap) texts)
unfolding Each
texts_in_sound gap [] g h = tt
texts_in_sound gap (text ∷ texts) g h = (text_sound gap text g h.0, texts_in_sound gap texts g h.1)

-- ---- contents

separated_sound : (contents : List (List ℕ)) → Each IsSound contents → Each IsSound (separated contents)
unfolding Each
separated_sound contents h = by (is_nil contents)
  where
    by : (nil : Bool) → Each IsSound (cond nil [] (contents ++ [] ∷ []))
    by true = tt
    by false = each_both IsSound contents ([] ∷ []) h (sound_nil, tt)

with_text_sound : (punct : List ℕ) (text contents : List (List ℕ)) → Each IsSound text → Each IsSound contents
    → Each IsSound (with_text punct text contents)
with_text_sound punct text contents t h = by (holds_text punct text contents)
  where
    by : (holds : Bool) → Each IsSound (cond holds contents (separated contents ++ text))
    by true = h
    by false = each_both IsSound (separated contents) text (separated_sound contents h) t

with_texts_sound : (punct : List ℕ) (texts : List (List (List ℕ))) (contents : List (List ℕ)) → AreSoundTexts texts
    → Each IsSound contents → Each IsSound (with_texts punct texts contents)
unfolding Each
with_texts_sound punct [] contents t h = h
with_texts_sound punct (text ∷ texts) contents t h =
    with_texts_sound punct texts (with_text punct text contents) t.1 (with_text_sound punct text contents t.0 h)

pub free_sound : (punct : List ℕ) (contents : List (List ℕ)) → Each IsSound contents
    → Each IsSound (free_of punct contents)
free_sound punct contents h =
    each_end IsSound (is_blank_content punct) _
    (each_front IsSound (is_blank_content punct) (untagged punct contents)
    (each_filtered IsSound (λ c. is_none (tag_of punct c)) contents h))

pub info_sound_with : (punct : List ℕ) (texts : List (List (List ℕ))) (info : Info) → AreSoundTexts texts
    → IsSoundInfo info → IsSoundInfo (info_with punct texts info)
info_sound_with punct texts info t h = record {
  notices = h.notices;
  contributors = h.contributors;
  licences = h.licences;
  free = free_sound punct (with_texts punct texts info.free) (with_texts_sound punct texts info.free t h.free);
}
