-- The text of an entry is the compact text of its value.
use Rattle.std.proofs.Common.{◌≡◌, ℕ, List, [], ◌++◌, map, codes, decimal, Some, None, refl, ap, ap₂, ◌∙◌, append_assoc}
use Rattle.std.proofs.Common.{false}
use Rattle.std.specs.List.{join_with_byte}
use Rattle.json.specs.Print.{escape_byte, quoted}
use Rattle.serde_json.specs.Written.{compact_text, items_text}
use Rattle.serde_json.specs.View.{items_of}
use Rattle.reuse_change.specs.CommandNames.{command_name}
use Rattle.reuse_json.specs.EntryText.{hex_text, digest_text, is_any_sealed, change_text, entry_text}
use Rattle.reuse_json.specs.Format.{format_number}
use Rattle.reuse_change.specs.declared.change.Change.{Change}
use Rattle.reuse_change.specs.declared.change.Change.TheVariants.{Make, Drop, Splice}
use Rattle.reuse_json.specs.declared.entry.Entry.{Entry}
use Rattle.reuse_change.specs.declared.command_name.CommandName.{CommandName}
use Rattle.reuse_change.specs.declared.command_name.CommandName.TheVariants.{Annotate, ConvertDep5, Download, Revert}
use Rattle.reuse_change.specs.declared.command_name.CommandName.TheVariants.{Amend, AddStyles}
use Rattle.reuse_tree.proofs.EntryValues.{change_value, entry_value}
use Rattle.reuse_json.proofs.JsonPrinting.{items_text-map}

-- the members of a change from its kind on, one after another
unfoldable whole_end : (kind bytes path : List ℕ) → List ℕ
whole_end kind bytes path = kind ++ (bytes ++ (codes ",\"path\":" ++ (path ++ codes "}")))

unfoldable splice_end : (new old path rest : List ℕ) → List ℕ
splice_end new old path rest = codes "\"kind\":\"splice\",\"new\":" ++ (new
    ++ (codes ",\"old\":" ++ (old ++ (codes ",\"path\":" ++ (path ++ (codes ",\"rest\":" ++ (rest ++ codes "}")))))))

-- from its place on
unfoldable at_end : (at digest end : List ℕ) → List ℕ
at_end at digest end = codes "\"at\":" ++ (at ++ (codes "," ++ (digest ++ end)))

whole_regroup : (digest kind bytes path : List ℕ) → codes "{" ++ (digest ++ whole_end kind bytes path)
    ≡ codes "{" ++ digest ++ kind ++ bytes ++ codes ",\"path\":" ++ path ++ codes "}"
unfolding whole_end
whole_regroup digest kind bytes path = simp append_assoc

splice_regroup : (after at before new old path rest : List ℕ)
    → codes "{" ++ (after ++ at_end at before (splice_end new old path rest))
    ≡ codes "{" ++ after ++ codes "\"at\":" ++ at ++ codes "," ++ before ++ codes "\"kind\":\"splice\",\"new\":" ++ new
    ++ codes ",\"old\":" ++ old ++ codes ",\"path\":" ++ path ++ codes ",\"rest\":" ++ rest ++ codes "}"
unfolding at_end splice_end
splice_regroup after at before new old path rest = simp append_assoc

-- a member whose value is a digest, in front of others
unfoldable digest_front : (key digest rest : List ℕ) → List ℕ
digest_front key digest rest = codes "\"" ++ (key ++ (codes "\":" ++ (digest ++ (codes "," ++ rest))))

front_regroup : (a key b digest c rest : List ℕ)
    → a ++ (key ++ (b ++ (digest ++ (c ++ rest)))) ≡ (a ++ key ++ b ++ digest ++ c) ++ rest
front_regroup a key b digest c rest = simp append_assoc

digest_regroup : (key digest rest : List ℕ)
    → digest_front key (hex_text digest) rest ≡ digest_text key (Some digest) ++ rest
unfolding digest_front
digest_regroup key digest rest = front_regroup (codes "\"") key (codes "\":") (hex_text digest) (codes ",") rest

-- a text that begins with a digest, with that as it is written
fronted : (text key digest rest : List ℕ) → text ≡ codes "{" ++ digest_front key (hex_text digest) rest
    → text ≡ codes "{" ++ (digest_text key (Some digest) ++ rest)
fronted text key digest rest is = is ∙ ap (λ l. codes "{" ++ l) (digest_regroup key digest rest)

abbrev made : List ℕ
made = codes "\"kind\":\"make\",\"new\":"

abbrev dropped : List ℕ
dropped = codes "\"kind\":\"drop\",\"old\":"

pub change_compact : (c : Change) → compact_text (change_value c) ≡ change_text c
unfolding escape_byte whole_end splice_end at_end digest_front
change_compact (Make path new None) = whole_regroup [] made (hex_text new) (quoted path)
change_compact (Make path new (Some after)) =
    fronted (compact_text (change_value (Make path new (Some after)))) (codes "after") after
    (whole_end made (hex_text new) (quoted path)) refl
    ∙ whole_regroup (digest_text (codes "after") (Some after)) made (hex_text new) (quoted path)
change_compact (Drop path old None) = whole_regroup [] dropped (hex_text old) (quoted path)
change_compact (Drop path old (Some before)) =
    fronted (compact_text (change_value (Drop path old (Some before)))) (codes "before") before
    (whole_end dropped (hex_text old) (quoted path)) refl
    ∙ whole_regroup (digest_text (codes "before") (Some before)) dropped (hex_text old) (quoted path)
change_compact (Splice path at old new rest None) =
    let end = splice_end (hex_text new) (hex_text old) (quoted path) (decimal rest) in
    let whole : compact_text
    (change_value (Splice path at old new rest None)) ≡ codes "{" ++ ([] ++ at_end (decimal at) [] end) = refl in
    whole ∙ splice_regroup [] (decimal at) [] (hex_text new) (hex_text old) (quoted path) (decimal rest)
change_compact (Splice path at old new rest (Some seal)) =
    let end = splice_end (hex_text new) (hex_text old) (quoted path) (decimal rest) in
    let after = digest_text (codes "after") (Some seal.after) in
    let before = digest_text (codes "before") (Some seal.before) in
    let whole : compact_text (change_value (Splice path at old new rest (Some seal)))
    ≡ codes "{" ++ digest_front (codes "after") (hex_text seal.after)
    (codes "\"at\":" ++ (decimal at ++ (codes "," ++ digest_front (codes "before") (hex_text seal.before) end))) =
    refl in
    whole
    ∙ ap (λ l. codes "{" ++ digest_front (codes "after") (hex_text seal.after)
    (codes "\"at\":" ++ (decimal at ++ (codes "," ++ l)))) (digest_regroup (codes "before") seal.before end)
    ∙ ap (λ l. codes "{" ++ l) (digest_regroup (codes "after") seal.after (at_end (decimal at) before end))
    ∙ splice_regroup after (decimal at) before (hex_text new) (hex_text old) (quoted path) (decimal rest)

command_text : (w : CommandName) → quoted (command_name w) ≡ codes "\"" ++ command_name w ++ codes "\""
unfolding escape_byte
command_text Annotate = refl
command_text ConvertDep5 = refl
command_text Download = refl
command_text Revert = refl
command_text Amend = refl
command_text AddStyles = refl

unfoldable pub entry_shape : (items name format when : List ℕ) → List ℕ
entry_shape items name format when = codes "{\"changes\":[" ++ (items ++ (codes ",\"command\":"
    ++ (name ++ (codes ",\"format\":" ++ (format ++ (codes ",\"when\":" ++ (when ++ codes "}")))))))

pub entry_regroup : (items name format when : List ℕ)
    → entry_shape (items ++ codes "]") (codes "\"" ++ name ++ codes "\"") format when ≡ codes "{\"changes\":[" ++ items
    ++ codes "],\"command\":\"" ++ name ++ codes "\",\"format\":" ++ format ++ codes ",\"when\":" ++ when ++ codes "}"
unfolding entry_shape
entry_regroup items name format when = simp append_assoc

pub entry_compact : (e : Entry) → compact_text (entry_value e) ≡ entry_text e
unfolding escape_byte entry_shape
entry_compact e =
    let when = decimal e.when in
    let format = decimal (format_number (is_any_sealed e.changes)) in
    let name = command_name e.command in
    let items = items_text false (items_of (map change_value e.changes)) in
    let joined = join_with_byte 44 (map change_text e.changes) in
    let whole : compact_text (entry_value e) ≡ entry_shape items (quoted name) format when = refl in
    whole ∙ ap₂ (λ (a b : List ℕ). entry_shape a b format when)
    (items_text-map change_value change_text change_compact e.changes) (command_text e.command)
    ∙ entry_regroup joined name format when
