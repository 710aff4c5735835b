-- The text of a sound entry is good, and no longer than the entry size.
use Rattle.std.proofs.Common.{◌≡◌, ℕ, ◌+◌, ◌*◌, ◌^◌, ◌<◌, ◌≤◌, Bool, true, false, ◌||◌, List, [], ◌∷◌, ◌++◌, length}
use Rattle.std.proofs.Common.{map, codes, decimal, Option, Some, None, is_some, refl, sym, ap, subst, ◌∙◌, arith}
use Rattle.std.proofs.Common.{length-append, ltb-true}
use Rattle.std.specs.Prelude.{IsUtf8}
use Rattle.std.specs.List.{AllByRecursion, AllZip, join_with_byte}
use Rattle.std.specs.Str.{IsAscii}
use Rattle.std.proofs.lemmas.Bool.{and_parts}
use Rattle.std.proofs.lemmas.Fmt.{length-decimal-le, IsAscii-decimal}
use Rattle.std.proofs.lemmas.Str.Ascii.{IsAscii-nil, IsAscii-cons}
use Rattle.std.proofs.lemmas.Str.{IsUtf8-append, IsUtf8-from_ascii}
use Rattle.std.proofs.lemmas.List.Elements.{recursion_from_All, All-from_recursion}
use Rattle.json.specs.Tree as tree
use Rattle.json.specs.Print.{escape_byte, escape, quoted}
use Rattle.json.proofs.Printed.Utf8.{IsUtf8-are_ascii, are_ascii, IsUtf8-quoted}
use Rattle.json.proofs.Printed.Decimals.{IsNumber-decimal}
use Rattle.hex.specs.Hex.{encode_lower, lower_digits, IsBytes}
use Rattle.hex.proofs.HexLemmas.{length-encode_with, IsAscii-encode_with, decode_of-encode_lower}
use Rattle.serde_json.specs.Data.{string}
use Rattle.serde_json.specs.Read.{read, of_json, of_items}
use Rattle.serde_json.specs.View.{items_of}
use Rattle.serde_json.specs.Written.{outline, items_outline, has_float, items_have_float}
use Rattle.serde_json.proofs.Numbers.{number_of-decimal}
use Rattle.reuse_change.specs.Entry.{change_size, entry_size, AreAllSealed, IsSmall, fixed_size}
use Rattle.reuse_json.specs.Format.{format_number}
use Rattle.reuse_change.specs.Change.{is_sealed}
use Rattle.reuse_change.specs.declared.digest.Seal.{Seal}
use Rattle.std.specs.Option.{option_map}
use Rattle.reuse_change.specs.CommandNames.{command_name}
use Rattle.reuse_json.specs.EntryText.{hex_text, digest_text, whole_text, is_any_sealed, change_text}
use Rattle.reuse_json.specs.EntryText.{entry_text, AreDigestBytes, IsHex, IsHexDigest, IsChangeValue, IsChangeInMemory}
use Rattle.reuse_json.specs.EntryText.{IsEntryInMemory, IsSoundEntry, IsGoodEntry}
use Rattle.reuse_change.specs.declared.change.Change.{Change}
use Rattle.reuse_change.specs.declared.change.Change.TheVariants.{Make, Drop, Splice}
use Rattle.reuse_json.specs.declared.entry.Entry.{Entry}
use Rattle.reuse_change.specs.declared.command_name.CommandName.{CommandName}
use Rattle.reuse_change.specs.declared.command_name.CommandName.TheVariants.{Annotate, ConvertDep5, Download, Revert}
use Rattle.reuse_change.specs.declared.command_name.CommandName.TheVariants.{Amend, AddStyles}
use Rattle.reuse_json.proofs.JsonPrinting.{IsReadable, read-compact_text}
use Rattle.reuse_tree.proofs.JoinedTexts.{◌⊹◌, length-join-le, IsUtf8-join, AllByRecursion-weaker}
use Rattle.reuse_tree.proofs.EntryTexts.{entry_compact}
use Rattle.reuse_tree.proofs.EntryValues.{hex_value, change_value, entry_value}
use Rattle.reuse_json.proofs.PlainTexts.{escape_plain, plain_digits}

-- what its text needs of a change
record IsWritable (c : Change) : Type 0 where
  small : IsSmall c
  in_memory : IsChangeInMemory c

all_writable : (e : Entry) → IsEntryInMemory e → AllByRecursion IsWritable e.changes
all_writable e sound = recursion_from_All IsWritable e.changes
    (λ k c below. record { small = sound.changes.small k c below; in_memory = sound.in_memory k c below })

-- the bytes of the file that a splice keeps
abbrev kept : Change → ℕ
kept (Make path new after) = 0
kept (Drop path old before) = 0
kept (Splice path at old new rest seal) = at + rest

-- ---- no floats

-- the value of a change has no float, and is not nested
change_plain : (c : Change) → (has_float (change_value c) ≡ false) × (tree.depth (outline (change_value c)) ≡ 1)
change_plain (Make path new None) = (refl, refl)
change_plain (Make path new (Some after)) = (refl, refl)
change_plain (Drop path old None) = (refl, refl)
change_plain (Drop path old (Some before)) = (refl, refl)
change_plain (Splice path at old new rest None) = (refl, refl)
change_plain (Splice path at old new rest (Some seal)) = (refl, refl)

changes_no_float : (cs : List Change) → items_have_float (items_of (map change_value cs)) ≡ false
changes_no_float [] = refl
changes_no_float (c ∷ cs) = rw ((change_plain c).0) (changes_no_float cs)

-- ---- the value is read back from its text

changes_flat : (cs : List Change) → tree.items_depth (items_outline (items_of (map change_value cs))) ≤ 1
changes_flat [] = omega arith
changes_flat (c ∷ cs) = omega (arith, (change_plain c).1, changes_flat cs)

change_numbers : (c : Change) → kept c < 2 ^ 64 → tree.HasNumbers (outline (change_value c))
change_numbers (Make path new None) h = (tt, (tt, (tt, tt)))
change_numbers (Make path new (Some after)) h = (tt, (tt, (tt, (tt, tt))))
change_numbers (Drop path old None) h = (tt, (tt, (tt, tt)))
change_numbers (Drop path old (Some before)) h = (tt, (tt, (tt, (tt, tt))))
change_numbers (Splice path at old new rest None) h =
    (IsNumber-decimal at (omega arith), (tt, (tt, (tt, (tt, (IsNumber-decimal rest (omega arith), tt))))))
change_numbers (Splice path at old new rest (Some seal)) h =
    (tt, (IsNumber-decimal at (omega arith), (tt, (tt, (tt, (tt, (tt, (IsNumber-decimal rest (omega arith), tt))))))))

changes_numbers : (cs : List Change) → AllByRecursion (λ c. kept c < 2 ^ 64) cs
    → tree.ItemsHaveNumbers (items_outline (items_of (map change_value cs)))
changes_numbers [] h = tt
changes_numbers (c ∷ cs) h = (change_numbers c h.0, changes_numbers cs h.1)

change_read : (c : Change) → kept c < 2 ^ 64 → of_json (outline (change_value c)) ≡ Some (change_value c)
change_read (Make path new None) h = refl
change_read (Make path new (Some after)) h = refl
change_read (Drop path old None) h = refl
change_read (Drop path old (Some before)) h = refl
change_read (Splice path at old new rest None) h =
    let low : at < 2 ^ 64 = omega arith in
    let high : rest < 2 ^ 64 = omega arith in
    rw (number_of-decimal at low, number_of-decimal rest high) refl
change_read (Splice path at old new rest (Some seal)) h =
    let low : at < 2 ^ 64 = omega arith in
    let high : rest < 2 ^ 64 = omega arith in
    rw (number_of-decimal at low, number_of-decimal rest high) refl

changes_read : (cs : List Change) → AllByRecursion (λ c. kept c < 2 ^ 64) cs
    → of_items (items_outline (items_of (map change_value cs))) ≡ Some (items_of (map change_value cs))
changes_read [] h = refl
changes_read (c ∷ cs) h = rw (change_read c h.0, changes_read cs h.1) refl

few_kept : (c : Change) → IsWritable c → kept c < 2 ^ 64
few_kept (Make path new after) h = omega arith
few_kept (Drop path old before) h = omega arith
few_kept (Splice path at old new rest seal) h = omega (arith, h.small.0)

few_formats : (second : Bool) → format_number second < 2 ^ 64
few_formats false = omega arith
few_formats true = omega arith

entry_readable : (e : Entry) → IsEntryInMemory e → IsReadable (entry_value e)
entry_readable e sound =
    let wide = AllByRecursion-weaker IsWritable (λ c. kept c < 2 ^ 64) few_kept e.changes (all_writable e sound) in
    let when : e.when < 2 ^ 64 = omega (arith, sound.when) in
    let format = few_formats (is_any_sealed e.changes) in record {
      shallow = omega (arith, changes_flat e.changes);
      numbers = (
        changes_numbers e.changes wide,
        (tt, (IsNumber-decimal (format_number (is_any_sealed e.changes)) format, (IsNumber-decimal e.when when, tt))),
      );
      again = rw (
        changes_read e.changes wide,
        number_of-decimal (format_number (is_any_sealed e.changes)) format,
        number_of-decimal e.when when,
      ) refl;
    }

-- ---- the text is UTF-8

ascii_by_test : (xs : List ℕ) → are_ascii xs ≡ true → IsAscii xs
ascii_by_test [] e = IsAscii-nil
ascii_by_test (x ∷ xs) e = let p = and_parts _ _ e in IsAscii-cons x xs (ltb-true x 128 p.0) (ascii_by_test xs p.1)

lower_ascii : IsAscii lower_digits
lower_ascii = ascii_by_test lower_digits refl

hex_utf8 : (bytes : List ℕ) → IsUtf8 (hex_text bytes)
hex_utf8 bytes = IsUtf8-quoted (encode_lower bytes)
    (IsUtf8-from_ascii (encode_lower bytes) (IsAscii-encode_with lower_digits bytes lower_ascii))

number_utf8 : (n : ℕ) → n < 2 ^ 64 → IsUtf8 (decimal n)
number_utf8 n h = IsUtf8-from_ascii (decimal n) (IsAscii-decimal n h)

ascii : (xs : List ℕ) → are_ascii xs ≡ true → IsUtf8 xs
ascii xs e = IsUtf8-are_ascii xs e

digest_utf8 : (key : List ℕ) (digest : Option (List ℕ)) → IsUtf8 key → IsUtf8 (digest_text key digest)
digest_utf8 key None h = ascii [] refl
digest_utf8 key (Some digest) h = IsUtf8-append (codes "\"") key (ascii _ refl) h ⊹ ascii
    (codes "\":") refl ⊹ hex_utf8 digest ⊹ ascii (codes ",") refl

-- a change's text up to the digest that stands first
front_utf8 : (key : List ℕ) (digest : Option (List ℕ)) → IsUtf8 key → IsUtf8 (codes "{" ++ digest_text key digest)
front_utf8 key digest h = IsUtf8-append (codes "{") (digest_text key digest) (ascii _ refl) (digest_utf8 key digest h)

whole_utf8 : (key : List ℕ) (digest : Option (List ℕ)) (kind bytes path : List ℕ) → IsUtf8 key → IsUtf8 kind
    → IsUtf8 path → IsUtf8 (whole_text key digest kind bytes path)
whole_utf8 key digest kind bytes path k n p = front_utf8 key digest k ⊹ n ⊹ hex_utf8 bytes ⊹ ascii
    (codes ",\"path\":") refl ⊹ IsUtf8-quoted path p ⊹ ascii (codes "}") refl

change_utf8 : (c : Change) → IsWritable c → IsUtf8 (change_text c)
change_utf8 (Make path new after) h = whole_utf8 (codes "after") after (codes "\"kind\":\"make\",\"new\":") new path
    (ascii _ refl) (ascii _ refl) h.in_memory.utf8
change_utf8 (Drop path old before) h = whole_utf8 (codes "before") before (codes "\"kind\":\"drop\",\"old\":") old path
    (ascii _ refl) (ascii _ refl) h.in_memory.utf8
change_utf8 (Splice path at old new rest seal) h =
    front_utf8 (codes "after") (option_map (λ (s : Seal). s.after) seal) (ascii _ refl)
    ⊹ ascii (codes "\"at\":") refl ⊹ number_utf8 at (omega (arith, h.small.0)) ⊹ ascii (codes ",") refl
    ⊹ digest_utf8 (codes "before") (option_map (λ (s : Seal). s.before) seal) (ascii _ refl)
    ⊹ ascii (codes "\"kind\":\"splice\",\"new\":") refl ⊹ hex_utf8 new ⊹ ascii (codes ",\"old\":") refl ⊹ hex_utf8 old
    ⊹ ascii (codes ",\"path\":") refl ⊹ IsUtf8-quoted path h.in_memory.utf8
    ⊹ ascii (codes ",\"rest\":") refl ⊹ number_utf8 rest (omega (arith, h.small.0)) ⊹ ascii (codes "}") refl

name_utf8 : (w : CommandName) → IsUtf8 (command_name w)
name_utf8 Annotate = IsUtf8-are_ascii _ refl
name_utf8 ConvertDep5 = IsUtf8-are_ascii _ refl
name_utf8 Download = IsUtf8-are_ascii _ refl
name_utf8 Revert = IsUtf8-are_ascii _ refl
name_utf8 Amend = IsUtf8-are_ascii _ refl
name_utf8 AddStyles = IsUtf8-are_ascii _ refl

entry_utf8 : (e : Entry) → IsEntryInMemory e → IsUtf8 (entry_text e)
entry_utf8 e sound =
    let second = is_any_sealed e.changes in
    let each =
    AllByRecursion-weaker IsWritable (λ c. IsUtf8 (change_text c)) change_utf8 e.changes (all_writable e sound) in
    IsUtf8-append (codes "{\"changes\":[") (join_with_byte 44 (map change_text e.changes)) (ascii _ refl)
    (IsUtf8-join change_text e.changes each)
    ⊹ ascii (codes "],\"command\":\"") refl ⊹ name_utf8 e.command
    ⊹ ascii (codes "\",\"format\":") refl ⊹ number_utf8 (format_number second) (few_formats second)
    ⊹ ascii (codes ",\"when\":") refl ⊹ number_utf8 e.when (omega (arith, sound.when)) ⊹ ascii (codes "}") refl

-- ---- the lengths

escape_byte_short : (x : ℕ) → length (escape_byte x) ≤ 6
unfolding escape_byte
escape_byte_short x = grind arith

length-escape-le : (s : List ℕ) → length (escape s) ≤ 6 * length s
length-escape-le [] = omega arith
length-escape-le (x ∷ s) =
    omega (arith, length-append (escape_byte x) (escape s), escape_byte_short x, length-escape-le s)

length-quoted-le : (s : List ℕ) → length (quoted s) ≤ 6 * length s + 2
length-quoted-le s = omega (arith, length-append (escape s) (34 ∷ []), length-escape-le s)

length-escape-hex : (bytes : List ℕ) → IsBytes bytes → length (escape (encode_lower bytes)) ≡ 2 * length bytes
length-escape-hex bytes h =
    ap length (escape_plain (encode_lower bytes) (plain_digits bytes h)) ∙ length-encode_with lower_digits bytes

length-hex : (bytes : List ℕ) → IsBytes bytes → length (hex_text bytes) ≡ 2 * length bytes + 2
length-hex bytes h = omega (arith, length-append (escape (encode_lower bytes)) (34 ∷ []), length-escape-hex bytes h)

number_length : (n : ℕ) → n < 2 ^ 64 → length (decimal n) ≤ 20
number_length n h = length-decimal-le 20 n (omega arith) (omega arith) h

whole_length : (digest kind bytes path : List ℕ)
    → length (codes "{" ++ digest ++ kind ++ bytes ++ codes ",\"path\":" ++ path ++ codes "}")
    ≡ 10 + (length digest + length kind + length bytes + length path)
whole_length digest kind bytes path = simp length-append (omega arith)

splice_length : (after at before new old path rest : List ℕ)
    → length (codes "{" ++ after ++ codes "\"at\":" ++ at ++ codes "," ++ before ++ codes "\"kind\":\"splice\",\"new\":"
    ++ new ++ codes ",\"old\":" ++ old ++ codes ",\"path\":" ++ path ++ codes ",\"rest\":" ++ rest ++ codes "}")
    ≤ 60 + (length after + length at + length before + length new + length old + length path + length rest)
splice_length after at before new old path rest = simp length-append (omega arith)

digest_front_length : (key digest : List ℕ)
    → length (codes "\"" ++ key ++ codes "\":" ++ digest ++ codes ",") ≡ 4 + (length key + length digest)
digest_front_length key digest = simp length-append (omega arith)

-- a digest with its key takes less than a hundred bytes, where one is recorded
abbrev digest_room : Bool → ℕ
digest_room false = 0
digest_room true = 77

digest_length : (key : List ℕ) (digest : Option (List ℕ)) → length key ≤ 6 → AreDigestBytes digest
    → length (digest_text key digest) ≤ digest_room (is_some digest)
digest_length key None short h = omega arith
digest_length key (Some digest) short h =
    let n = length-hex digest h.0 in
    let size : length digest ≡ 32 = h.1 in
    let whole = digest_front_length key (hex_text digest) in
    omega arith

-- each change with its comma keeps to its size
-- what a change counts for at least has room for its keys and its digests
room_fits : (sealed : Bool) → 256 + 2 * digest_room sealed ≤ fixed_size sealed
room_fits false = omega arith
room_fits true = omega arith

splice_fits : (sealed : Bool) (path : List ℕ) (at : ℕ) (old new : List ℕ) (rest : ℕ) (after before : List ℕ)
    → at < 2 ^ 64 → rest < 2 ^ 64 → IsBytes old → IsBytes new → length after ≤ digest_room sealed
    → length before ≤ digest_room sealed
    → length (codes "{" ++ after ++ codes "\"at\":" ++ decimal at ++ codes "," ++ before ++ codes
    "\"kind\":\"splice\",\"new\":" ++ hex_text new ++ codes ",\"old\":" ++ hex_text old ++ codes ",\"path\":" ++ quoted
    path ++ codes ",\"rest\":" ++ decimal rest ++ codes "}") + 1
    ≤ fixed_size sealed + 6 * length path + 2 * length old + 2 * length new
splice_fits sealed path at old new rest after before low high old_bytes new_bytes a b =
    omega (
      arith,
      room_fits sealed,
      number_length at low,
      number_length rest high,
      length-hex new new_bytes,
      length-hex old old_bytes,
      length-quoted-le path,
      splice_length after (decimal at) before (hex_text new) (hex_text old) (quoted path) (decimal rest),
    )

whole_fits : (key : List ℕ) (digest : Option (List ℕ)) (kind bytes path : List ℕ) → length key ≤ 6 → length kind ≤ 20
    → AreDigestBytes digest → IsBytes bytes
    → length (whole_text key digest kind bytes path) + 1 ≤ fixed_size
    (is_some digest) + 6 * length path + 2 * length bytes
whole_fits key digest kind bytes path short named is_digest are_bytes =
    let front = digest_length key digest short is_digest in
    omega (
      arith,
      room_fits (is_some digest),
      front,
      length-hex bytes are_bytes,
      length-quoted-le path,
      whole_length (digest_text key digest) kind (hex_text bytes) (quoted path),
    )

change_length : (c : Change) → IsWritable c → length (change_text c) + 1 ≤ change_size c
change_length (Make path new after) h =
    omega (
      arith,
      whole_fits (codes "after") after (codes "\"kind\":\"make\",\"new\":") new path (omega arith)
          (omega arith) h.in_memory.after h.in_memory.written,
    )
change_length (Drop path old before) h =
    omega (
      arith,
      whole_fits (codes "before") before (codes "\"kind\":\"drop\",\"old\":") old path (omega arith)
          (omega arith) h.in_memory.before h.in_memory.removed,
    )
change_length (Splice path at old new rest None) h =
    splice_fits false path at old new rest [] [] (omega (arith, h.small.0))
    (omega (arith, h.small.0)) h.in_memory.removed h.in_memory.written (omega arith) (omega arith)
change_length (Splice path at old new rest (Some seal)) h =
    splice_fits true path at old new rest (digest_text (codes "after") (Some seal.after)) (digest_text (codes "before")
    (Some seal.before)) (omega (arith, h.small.0)) (omega (arith, h.small.0)) h.in_memory.removed h.in_memory.written
    (digest_length (codes "after") (Some seal.after) (omega arith) h.in_memory.after)
    (digest_length (codes "before") (Some seal.before) (omega arith) h.in_memory.before)

name_length : (w : CommandName) → length (command_name w) ≤ 12
name_length Annotate = omega arith
name_length ConvertDep5 = omega arith
name_length Download = omega arith
name_length Revert = omega arith
name_length Amend = omega arith
name_length AddStyles = omega arith

format_length : (second : Bool) → length (decimal (format_number second)) ≤ 20
format_length second = number_length (format_number second) (few_formats second)

around_length : (items name format when : List ℕ)
    → length (codes "{\"changes\":[" ++ items ++ codes "],\"command\":\"" ++ name ++ codes "\",\"format\":" ++ format
    ++ codes ",\"when\":" ++ when ++ codes "}") ≤ 46 + (length items + length name + length format + length when)
around_length items name format when = simp length-append (omega arith)

-- the text of an entry is no longer than its entry size
pub entry_length : (e : Entry) → IsEntryInMemory e → length (entry_text e) ≤ entry_size e.changes
entry_length e sound =
    let each = AllByRecursion-weaker IsWritable
    (λ c. length (change_text c) + 1 ≤ change_size c) change_length e.changes (all_writable e sound) in
    omega (
      arith,
      around_length (join_with_byte 44 (map change_text e.changes)) (command_name e.command)
          (decimal (format_number (is_any_sealed e.changes))) (decimal e.when),
      format_length (is_any_sealed e.changes),
      length-join-le change_text change_size e.changes each,
      name_length e.command,
      number_length e.when (omega (arith, sound.when)),
    )

-- ---- the law

hex_is : (bytes : List ℕ) → IsBytes bytes → IsHex bytes (string (encode_lower bytes))
hex_is bytes h = (encode_lower bytes, refl, decode_of-encode_lower bytes h)

digest_is : (digest : List ℕ) → AreDigestBytes (Some digest) → IsHexDigest digest (string (encode_lower digest))
digest_is digest h = (hex_is digest h.0, h.1)

change_is : (c : Change) → IsWritable c → IsChangeValue c (change_value c)
change_is (Make path new None) h = (hex_value new, hex_is new h.in_memory.written, refl)
change_is (Make path new (Some after)) h =
    (hex_value new, hex_is new h.in_memory.written, hex_value after, digest_is after h.in_memory.after, refl)
change_is (Drop path old None) h = (hex_value old, hex_is old h.in_memory.removed, refl)
change_is (Drop path old (Some before)) h =
    (hex_value old, hex_is old h.in_memory.removed, hex_value before, digest_is before h.in_memory.before, refl)
change_is (Splice path at old new rest None) h =
    (hex_value new, hex_value old, hex_is new h.in_memory.written, hex_is old h.in_memory.removed, refl)
change_is (Splice path at old new rest (Some seal)) h = (
  hex_value new,
  hex_value old,
  hex_is new h.in_memory.written,
  hex_is old h.in_memory.removed,
  hex_value seal.after,
  hex_value seal.before,
  digest_is seal.after h.in_memory.after,
  digest_is seal.before h.in_memory.before,
  refl,
)

none_sealed : (cs : List Change) → AllByRecursion (λ c. is_sealed c ≡ false) cs → is_any_sealed cs ≡ false
none_sealed [] h = refl
none_sealed (c ∷ cs) h = ap (λ b. b || is_any_sealed cs) h.0 ∙ none_sealed cs h.1

-- changes that are sealed alike are as one of them is
pub any_is : (c : Change) (cs : List Change) (sealed : Bool) → AllByRecursion (λ x. is_sealed x ≡ sealed) (c ∷ cs)
    → sealed ≡ is_any_sealed (c ∷ cs)
any_is c cs true h = sym (ap (λ b. b || is_any_sealed cs) h.0)
any_is c cs false h = sym (none_sealed (c ∷ cs) h)

as_any : (cs : List Change) (sealed : Bool) → AllByRecursion (λ c. is_sealed c ≡ sealed) cs
    → AllByRecursion (λ c. is_sealed c ≡ is_any_sealed cs) cs
as_any [] sealed h = tt
as_any (c ∷ cs) sealed h = subst (λ (b : Bool). AllByRecursion (λ x. is_sealed x ≡ b) (c ∷ cs)) (any_is c cs sealed h) h

changes_are : (cs : List Change) → AllByRecursion IsWritable cs → AllZip IsChangeValue cs (map change_value cs)
changes_are [] h = tt
changes_are (c ∷ cs) h = (change_is c h.0, changes_are cs h.1)

alike : (e : Entry) → IsEntryInMemory e → AreAllSealed (is_any_sealed e.changes) e.changes
alike e sound =
    let IsAs : Bool → Change → Type 0 = λ b c. is_sealed c ≡ b in
    let one = sound.changes.alike in
    All-from_recursion (IsAs (is_any_sealed e.changes)) e.changes
    (as_any e.changes one.0 (recursion_from_All (IsAs one.0) e.changes one.1))

pub entry_good : (e : Entry) → IsSoundEntry e → IsGoodEntry (entry_text e) e
entry_good e sound = record {
  short = omega (arith, entry_length e sound.held, sound.held.changes.light);
  value = (
    entry_value e,
    record {
      utf8 = entry_utf8 e sound.held;
      reads = ap read (sym (entry_compact e)) ∙ read-compact_text (entry_value e) (entry_readable e sound.held);
    },
    (
      is_any_sealed e.changes,
      map change_value e.changes,
      alike e sound.held,
      sound.known,
      changes_are e.changes (all_writable e sound.held),
      refl,
    ),
  );
  changes = sound.held.changes;
  paths = λ k c below. (sound.held.in_memory k c below).path;
  when = sound.held.when;
}
