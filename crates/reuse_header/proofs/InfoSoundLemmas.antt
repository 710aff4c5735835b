-- What texts say as information is text, also joined with additions that are, and merged.
use Rattle.std.proofs.Common.{◌≡◌, ℕ, ◌+◌, ◌<◌, Bool, true, false, cond, List, [], ◌∷◌, length, take, drop, Option}
use Rattle.std.proofs.Common.{None, Some, refl, sym, subst, arith}
use Rattle.std.specs.Prelude.{not, ◌&&◌, ◌||◌, nat_eq, nat_lt, if◌then◌else◌, slice_index}
use Rattle.std.specs.List.{starts_with}
use Rattle.std.specs.Option.{option_map}
use Rattle.std.specs.Str.{IsUtf8}
use Rattle.std.proofs.lemmas.Bool.{and_parts}
use Rattle.std.proofs.lemmas.Bool.Decides.{nat_tests}
use Rattle.std.proofs.lemmas.Str.{IsUtf8-drop, IsCharBoundary-before_ascii}
use Rattle.reuse_notice.specs.declared.prefixes.Prefix.{Prefix}
use Rattle.reuse_notice.specs.declared.tags.Years.{Years}
use Rattle.reuse_notice.specs.declared.infos.Info.{Info}
use Rattle.reuse_notice.specs.declared.adding.Additions.{Additions}
use Rattle.reuse_notice.specs.Prefixes.{prefix_text, longest_first}
use Rattle.reuse_notice.specs.Tags.{NoticeText, is_blank, all_blank, is_filler, drop_front, trimmed, stripped}
use Rattle.reuse_notice.specs.Tags.{value_after, licence_lead, contributor_lead, needs_no_space, leaves_value}
use Rattle.reuse_notice.specs.Tags.{years_written, years_in, years_or, years_front, prefix_of, notice_behind, notice_of}
use Rattle.reuse_notice.specs.Plain.{IsPlain, ArePlain, AreUtf8}
use Rattle.reuse_notice.proofs.NoneLemmas.{none_drop}
use Rattle.reuse_notice.proofs.NoticeSoundLemmas.{prefix_sound, written_sound}
use Rattle.reuse_notice.proofs.PrefixLemmas.{found_passes}
use Rattle.reuse_amend.proofs.ShapeLemmas.{plain_sound}
use Rattle.reuse_notice.proofs.SoundLemmas.{is_nul, IsSound, is_low, low_is, low_utf8, sound_after, sound_front}
use Rattle.reuse_notice.proofs.SoundLemmas.{sound_end, sound_trimmed}
use Rattle.reuse_notice.specs.Infos.{info_of}
use Rattle.reuse_header.specs.Writing.{new_info}
use Rattle.reuse_header.proofs.SayableLemmas.{Each, each_of_all}
use Rattle.reuse_header.specs.LowerLaws.{Merges}
use Rattle.reuse_header.proofs.LineSoundLemmas.{blank_low}
use Rattle.reuse_header.proofs.InfoLemmas.{EachText, EachAdded, Spreads, each_read, each_new}

-- ---- information

abbrev pub IsSoundInfo : Info → Type 0
IsSoundInfo info = EachText IsSound info

abbrev pub AreSound : Additions → Type 0
AreSound additions = EachAdded IsSound additions

-- the blank bytes and the punctuation that stand in front of a tag are ASCII
abbrev pub AreLow : List ℕ → Type 0
AreLow punct = (b : ℕ) → is_filler punct b ≡ true → is_low b ≡ true

stripped_sound : (punct : List ℕ) → AreLow punct → (content : List ℕ) → IsSound content
    → IsSound (stripped punct content)
stripped_sound punct low content s = sound_end is_blank blank_low _ (sound_front (is_filler punct) low content s)

value_sound : (lead text v : List ℕ) → IsUtf8 lead → IsSound text → value_after lead text ≡ Some v → IsSound v
value_sound lead text v first s e =
    by (starts_with nat_eq text lead && not (all_blank (drop (length lead) text))) refl e
  where
    by : (b : Bool) → (starts_with nat_eq text lead && not (all_blank (drop (length lead) text))) ≡ b
        → (if b then Some (trimmed is_blank (drop (length lead) text)) else None) ≡ Some v → IsSound v
    by true is f =
        let begins = (and_parts (starts_with nat_eq text lead) (not (all_blank (drop (length lead) text))) is).0 in
        subst IsSound (let same : trimmed is_blank (drop (length lead) text) ≡ v = cc f in same)
        (sound_trimmed is_blank blank_low (drop (length lead) text) (sound_after text lead begins first s))
    by false is f = absurd (let none : ⊥ = cc f in none)

-- ---- merged notices

-- what stands behind years
behind_years : (n : ℕ) (value : List ℕ) (years : Years) → years_in n value ≡ Some years → IsSound value
    → IsSound (drop n value)
behind_years n value years e s =
    by (nat_lt n (length value) && is_blank (slice_index value n) && not (all_blank (drop (n + 1) value))) refl e
  where
    below : (m k : ℕ) → nat_lt m k ≡ true → m < k
    below m k h = grind (arith, nat_tests)

    by : (b : Bool)
        → (nat_lt n (length value) && is_blank (slice_index value n) && not (all_blank (drop (n + 1) value))) ≡ b
        → cond b (years_written (take n value)) None ≡ Some years → IsSound (drop n value)
    by false t f = absurd (let none : ⊥ = cc f in none)
    by true t f =
        let first = (and_parts (nat_lt n (length value) && is_blank (slice_index value n))
        (not (all_blank (drop (n + 1) value))) t).0 in
        let tests = and_parts (nat_lt n (length value)) (is_blank (slice_index value n)) first in
        record {
          utf8 = IsUtf8-drop value n s.utf8 (IsCharBoundary-before_ascii value n (below n (length value) tests.0)
              (low_is (slice_index value n) (blank_low (slice_index value n) tests.1)));
          clean = none_drop is_nul n value s.clean;
        }

or_behind : (n : ℕ) (value : List ℕ) (shorter : Option Years × ℕ) → IsSound value → IsSound (drop shorter.1 value)
    → IsSound (drop (years_or (years_in n value) n shorter).1 value)
or_behind n value shorter s rest = by (years_in n value) refl
  where
    by : (o : Option Years) → years_in n value ≡ o → IsSound (drop (years_or o n shorter).1 value)
    by None e = rest
    by (Some years) e = behind_years n value years e s

front_behind : (value : List ℕ) → IsSound value → IsSound (drop (years_front value).1 value)
front_behind value s =
    or_behind 11 value (years_or (years_in 9 value) 9 (years_or (years_in 4 value) 4 (None, 0))) s
    (or_behind 9 value (years_or (years_in 4 value) 4 (None, 0)) s (or_behind 4 value (None, 0) s s))

pub holder_sound : (text : List ℕ) (n : NoticeText) → notice_of text ≡ Some n → IsSound text → IsSound n.holder
holder_sound text n e s = by (prefix_of text) refl e
  where
    by : (o : Option Prefix) → prefix_of text ≡ o → option_map (notice_behind text) o ≡ Some n → IsSound n.holder
    by None is e = absurd (let none : ⊥ = cc e in none)
    by (Some p) is e =
        let same : notice_behind text p ≡ n = cc e in
        let rest = drop (length (prefix_text p)) text in
        let value = drop_front is_blank rest in
        let passes = found_passes (leaves_value text) longest_first p is in
        let tests =
        (and_parts (starts_with nat_eq text (prefix_text p) && (needs_no_space p || starts_with nat_eq rest (32 ∷ [])))
        (not (all_blank rest)) passes).0 in
        let begins = (and_parts (starts_with nat_eq text (prefix_text p))
        (needs_no_space p || starts_with nat_eq rest (32 ∷ [])) tests).0 in
        let sound =
        sound_front is_blank blank_low rest (sound_after text (prefix_text p) begins (prefix_sound p).utf8 s) in
        subst (λ (m : NoticeText). IsSound m.holder) same
        (sound_trimmed is_blank blank_low (drop (years_front value).1 value) (front_behind value sound))

-- what is known of the parts of contents
sound_spreads : (punct : List ℕ) → AreLow punct → Spreads IsSound punct
sound_spreads punct low = record {
  inner = stripped_sound punct low;
  contributor = λ text v. value_sound contributor_lead text v (low_utf8 contributor_lead refl);
  licence = λ text v. value_sound licence_lead text v (low_utf8 licence_lead refl);
  written = λ old text f w. subst IsSound (sym w.written)
      (written_sound w.prefix w.years w.notice.holder w.digits (holder_sound old w.notice w.read f));
}

pub info_sound : (punct : List ℕ) → AreLow punct → (contents : List (List ℕ)) → Each IsSound contents
    → IsSoundInfo (info_of punct contents)
info_sound punct low contents h = each_read IsSound punct (sound_spreads punct low) contents h

pub new_sound : Merges → (punct : List ℕ) → AreLow punct
    → (contents : List (List ℕ)) (merge : Bool) (additions : Additions) → Each IsSound contents → AreSound additions
    → IsSoundInfo (new_info punct contents merge additions)
new_sound merges punct low contents merge additions h a =
    each_new IsSound punct (sound_spreads punct low) merges contents merge additions h a

-- the texts of additions that are plain and UTF-8
each_plain : (texts : List (List ℕ)) → Each IsPlain texts → Each IsUtf8 texts → Each IsSound texts
unfolding Each
each_plain [] h k = tt
each_plain (t ∷ texts) h k = (plain_sound t h.0 k.0, each_plain texts h.1 k.1)

pub additions_sound : (additions : Additions) → ArePlain additions → AreUtf8 additions → AreSound additions
additions_sound additions plain utf8 = record {
  notices = each_plain additions.notices (each_of_all IsPlain additions.notices plain.notices)
      (each_of_all IsUtf8 additions.notices utf8.notices);
  contributors = each_plain additions.contributors (each_of_all IsPlain additions.contributors plain.contributors)
      (each_of_all IsUtf8 additions.contributors utf8.contributors);
  licences = each_plain additions.licences (each_of_all IsPlain additions.licences plain.licences)
      (each_of_all IsUtf8 additions.licences utf8.licences);
}
