-- The texts of changes, taken apart piece by piece.
use Rattle.std.proofs.Common.{◌≡◌, ℕ, ◌<◌, ◌≤◌, Bool, true, List, [], ◌∷◌, ◌++◌, length, map, codes, decimal, refl, ap}
use Rattle.std.proofs.Common.{sym, subst, ◌∙◌, append_assoc, arith, length-append}
use Rattle.std.specs.List.{All, flat_map, join_with_byte}
use Rattle.std.proofs.lemmas.Grind.{flat_map-append}
use Rattle.std.proofs.lemmas.List.{append-nil}
use Rattle.std.proofs.lemmas.List.Elements.{recursion_from_All}
use Rattle.reuse_change.specs.Change.{is_sealed}
use Rattle.reuse_change.specs.Entry.{AreAllSealed}
use Rattle.reuse_tree.specs.EntryTests.{Passes}
use Rattle.reuse_change.specs.CommandNames.{command_name}
use Rattle.reuse_json.specs.EntryText.{change_text, entry_text, is_any_sealed, IsChangeInMemory}
use Rattle.reuse_json.specs.EntryText.{IsGoodEntry}
use Rattle.reuse_json.specs.Format.{format_number, knows}
use Rattle.reuse_change.specs.declared.command_name.CommandName.{CommandName}
use Rattle.reuse_json.specs.declared.entry.Entry.{Entry}
use Rattle.reuse_change.specs.declared.change.Change.{Change}
use Rattle.reuse_tree.proofs.EntryLaws.{any_is, entry_good}
use Rattle.reuse_tree.proofs.EntryPaths.{entry_from_tests}
use Rattle.reuse_json.proofs.WrittenTexts.{step}

-- a change's text, and the comma behind it
abbrev pub with_comma : Change → List ℕ
with_comma change = change_text change ++ 44 ∷ []

comma_regroup : (text front last : List ℕ) → text ++ 44 ∷ [] ++ front ++ last ≡ text ++ 44 ∷ (front ++ last)
comma_regroup text front last = append_assoc (text ++ 44 ∷ []) front last ∙ append_assoc text (44 ∷ []) (front ++ last)

-- the texts with their commas, and a last one without
joined : (changes : List Change) (last : Change)
    → flat_map with_comma changes ++ change_text last ≡ join_with_byte 44 (map change_text (changes ++ last ∷ []))
joined [] last = refl
joined (c ∷ []) last = comma_regroup (change_text c) [] (change_text last)
joined (c ∷ d ∷ changes) last =
    comma_regroup (change_text c) (flat_map with_comma (d ∷ changes)) (change_text last)
    ∙ ap (λ (l : List ℕ). change_text c ++ 44 ∷ l) (joined (d ∷ changes) last)

-- the last change is read
pub all_taken : (whole : List ℕ) (changes : List Change) (last : Change) (text more : List ℕ)
    → whole ≡ flat_map with_comma changes ++ text → text ≡ change_text last ++ more
    → whole ≡ join_with_byte 44 (map change_text (changes ++ last ∷ [])) ++ more
all_taken whole changes last text more so_far next =
    so_far
    ∙ step (flat_map with_comma changes) text (change_text last) more next
    ∙ ap (λ (l : List ℕ). l ++ more) (joined changes last)

-- a change is read, and a comma
pub one_taken : (whole : List ℕ) (changes : List Change) (change : Change) (text behind more : List ℕ)
    → whole ≡ flat_map with_comma changes ++ text → text ≡ change_text change ++ behind → behind ≡ 44 ∷ more
    → whole ≡ flat_map with_comma (changes ++ change ∷ []) ++ more
one_taken whole changes change text behind more so_far next comma =
    let front = flat_map with_comma changes in
    so_far
    ∙ step front text (change_text change) behind next
    ∙ step (front ++ change_text change) behind (44 ∷ []) more comma
    ∙ ap (λ (l : List ℕ). l ++ more) (append_assoc front (change_text change) (44 ∷ []) ∙ ap (λ (l : List ℕ).
    front ++ l) (sym (append-nil (with_comma change))) ∙ sym (flat_map-append with_comma changes (change ∷ [])))

pub shorter : (text front behind more : List ℕ) → text ≡ front ++ behind → behind ≡ 44 ∷ more
    → length more < length text
shorter text front behind more next comma =
    omega (arith, ap (λ (l : List ℕ). length l) next, length-append front behind, ap (λ (l : List ℕ). length l) comma)

-- ---- the entry

-- some changes that are sealed alike are as any of them is
sealed_alike : (changes : List Change) (sealed : Bool) → 0 < length changes → AreAllSealed sealed changes
    → sealed ≡ is_any_sealed changes
sealed_alike [] sealed some alike = absurd (omega (arith, some))
sealed_alike (c ∷ changes) sealed some alike =
    any_is c changes sealed (recursion_from_All (λ x. is_sealed x ≡ sealed) (c ∷ changes) alike)

-- the pieces of an entry's text
abbrev pub spelled : List Change → CommandName → Bool → ℕ → List ℕ
spelled changes command sealed when =
    codes "{\"changes\":[" ++ join_with_byte 44
    (map change_text changes) ++ codes "],\"command\":\"" ++ command_name command ++ codes "\",\"format\":" ++ decimal
    (format_number sealed) ++ codes ",\"when\":" ++ decimal when ++ codes "}"

-- the text is written so, and its changes pass the tests: it is good
pub written_good : (text : List ℕ) (changes : List Change) (command : CommandName) (sealed : Bool) (when : ℕ)
    → text ≡ spelled changes command sealed when
    → 0 < length changes → All IsChangeInMemory changes → Passes changes → AreAllSealed sealed changes
    → knows sealed command ≡ true → when ≤ 250_000_000_000
    → IsGoodEntry text (record { changes = changes; command = command; when = when })
written_good text changes command sealed when is some in_memory passes alike known early =
    let entry : Entry = record { changes = changes; command = command; when = when } in
    let any = sealed_alike changes sealed some alike in
    let whole : text ≡ entry_text entry = is ∙ ap (λ (b : Bool). spelled changes command b when) any in
    subst (λ (l : List ℕ). IsGoodEntry l entry) (sym whole) (entry_good entry (record {
      held = record { changes = entry_from_tests changes (sealed, alike) passes; in_memory = in_memory; when = early };
      known = subst (λ (b : Bool). knows b command ≡ true) any known;
    }))
