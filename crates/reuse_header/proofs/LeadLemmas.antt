-- A file that holds no text that a tag begins with has no header block.
use Rattle.std.proofs.Common.{◌≡◌, ℕ, zero, suc, Bool, true, false, nat_eq, List, [], ◌∷◌, ◌++◌, take, drop, Option}
use Rattle.std.proofs.Common.{None, Some, refl, ap, ◌∙◌, append_assoc, inl, inr}
use Rattle.std.specs.Prelude.{All, is_some, codes, find, option_and_then, ◌||◌}
use Rattle.std.specs.List.{starts_with, list_any}
use Rattle.std.specs.Option.{option_map, option_or}
use Rattle.std.proofs.lemmas.Bool.{or_parts, false_from_ne_true, cases_Bool as truth}
use Rattle.std.proofs.lemmas.List.Elements.{All-weaker}
use Rattle.reuse_text.specs.Text.{StandsIn, file_lines}
use Rattle.reuse_notice.specs.declared.prefixes.Prefix.{Prefix}
use Rattle.reuse_notice.specs.declared.prefixes.Prefix.TheVariants.{Spdx, SpdxC, SpdxSymbol, SpdxString, SpdxStringC}
use Rattle.reuse_notice.specs.declared.prefixes.Prefix.TheVariants.{SpdxStringSymbol, String, StringC, StringSymbol}
use Rattle.reuse_notice.specs.declared.prefixes.Prefix.TheVariants.{Symbol}
use Rattle.reuse_notice.specs.Prefixes.{prefix_text, copyright_sign, longest_first}
use Rattle.reuse_notice.specs.Tags.{TagText, is_blank, is_filler, stripped, value_after, licence_lead, contributor_lead}
use Rattle.reuse_notice.specs.Tags.{leaves_value, prefix_of, tag_in}
use Rattle.reuse_notice.proofs.NoneLemmas.{or_none}
use Rattle.reuse_style.specs.declared.style.Style.{Style}
use Rattle.reuse_header.specs.declared.blocks.BlockSize.{BlockSize}
use Rattle.reuse_style.specs.Styles.{punctuation_of}
use Rattle.reuse_style.specs.Search.{place_of, holds}
use Rattle.reuse_header.specs.Tagged.{has_tag, holds_lead}
use Rattle.reuse_header.specs.Body.{PlacedLines, is_barrier, body_lines, open_contents}
use Rattle.reuse_header.specs.Blocks.{block_at}
use Rattle.reuse_header.specs.Header.{tagged, lines_inside, header_in}
use Rattle.reuse_header.proofs.ClosingLemmas.{place_of-drop}
use Rattle.reuse_header.proofs.StandsLemmas.{begins_stands, nowhere_exact}
use Rattle.reuse_header.proofs.ClearLemmas.{lacked, place_of-take, content_lacks}
use Rattle.reuse_header.proofs.HeaderLemmas.{header_in-nil, header_in-barrier, header_in-cons, tagged-false}
use Rattle.reuse_header.proofs.SayableLemmas.{Each, each_of_all}
use Rattle.reuse_header.proofs.PartLemmas.{IsOfParts, of_front, of_end, each_open, each_in_body, each_content}

-- ---- bytes without such a text, and their parts

abbrev Leadless : List ℕ → Type 0
Leadless bytes = holds_lead bytes ≡ false

record Lacks (bytes : List ℕ) : Type 0 where
  spdx : holds (codes "SPDX-") bytes ≡ false
  copyright : holds (codes "Copyright") bytes ≡ false
  sign : holds copyright_sign bytes ≡ false

lacks : (bytes : List ℕ) → Leadless bytes → Lacks bytes
lacks bytes e =
    let sign =
    or_parts (holds (codes "SPDX-") bytes || holds (codes "Copyright") bytes) (holds copyright_sign bytes) e in
    let others = or_parts (holds (codes "SPDX-") bytes) (holds (codes "Copyright") bytes) sign.0 in
    record { spdx = others.0; copyright = others.1; sign = sign.1 }

-- what lacks each text that others lack lacks these
leadless_by : (bytes part : List ℕ) → ((text : List ℕ) → holds text bytes ≡ false → holds text part ≡ false)
    → Leadless bytes → Leadless part
leadless_by bytes part by e =
    let l = lacks bytes e in
    or_none (holds (codes "SPDX-") part || holds (codes "Copyright") part) (holds copyright_sign part)
    (or_none (holds (codes "SPDX-") part) (holds (codes "Copyright") part) (by (codes "SPDX-") l.spdx)
    (by (codes "Copyright") l.copyright)) (by copyright_sign l.sign)

leadless_parts : IsOfParts Leadless
leadless_parts = record {
  front = λ n bytes. leadless_by bytes (take n bytes)
      (λ text e. ap is_some (place_of-take text bytes n (lacked (place_of text bytes) e)));
  back = λ n bytes. leadless_by bytes (drop n bytes)
      (λ text e. ap is_some (place_of-drop text bytes n (lacked (place_of text bytes) e)));
}

-- ---- a content without such a text has no tag

begins_not : (lead more text : List ℕ) → holds lead text ≡ false → starts_with nat_eq text (lead ++ more) ≡ false
begins_not lead more text e = false_from_ne_true (starts_with nat_eq text (lead ++ more)) (λ begins.
    (let s = begins_stands (lead ++ more) text begins in
    (nowhere_exact lead text).0 (lacked (place_of lead text) e) 0
    ([], more ++ s.0, refl, s.1 ∙ append_assoc lead more s.0)))

prefix_not : (text : List ℕ) → Lacks text → (prefix : Prefix) → starts_with nat_eq text (prefix_text prefix) ≡ false
prefix_not text l Spdx = begins_not (codes "SPDX-") (drop 5 (prefix_text Spdx)) text l.spdx
prefix_not text l SpdxC = begins_not (codes "SPDX-") (drop 5 (prefix_text SpdxC)) text l.spdx
prefix_not text l SpdxSymbol = begins_not (codes "SPDX-") (drop 5 (prefix_text SpdxSymbol)) text l.spdx
prefix_not text l SpdxString = begins_not (codes "SPDX-") (drop 5 (prefix_text SpdxString)) text l.spdx
prefix_not text l SpdxStringC = begins_not (codes "SPDX-") (drop 5 (prefix_text SpdxStringC)) text l.spdx
prefix_not text l SpdxStringSymbol = begins_not (codes "SPDX-") (drop 5 (prefix_text SpdxStringSymbol)) text l.spdx
prefix_not text l String = begins_not (codes "Copyright") [] text l.copyright
prefix_not text l StringC = begins_not (codes "Copyright") (drop 9 (prefix_text StringC)) text l.copyright
prefix_not text l StringSymbol = begins_not (codes "Copyright") (drop 9 (prefix_text StringSymbol)) text l.copyright
prefix_not text l Symbol = begins_not copyright_sign [] text l.sign

find_none : (test : Prefix → Bool) → ((prefix : Prefix) → test prefix ≡ false) → (prefixes : List Prefix)
    → find test prefixes ≡ None
find_none test none [] = refl
find_none test none (prefix ∷ prefixes) = let isnt = none prefix in rw isnt (find_none test none prefixes)

value_none : (lead text : List ℕ) → starts_with nat_eq text lead ≡ false → value_after lead text ≡ None
value_none lead text isnt = rw isnt refl

neither : {X : Type 0} (one other : Option X) → one ≡ None → other ≡ None → option_or one other ≡ None
neither one other e f = rw e f

-- a text that begins with no lead of a tag, and with no prefix of a notice, is no tag
pub unled : (text : List ℕ) → starts_with nat_eq text licence_lead ≡ false
    → starts_with nat_eq text contributor_lead ≡ false
    → ((prefix : Prefix) → starts_with nat_eq text (prefix_text prefix) ≡ false) → tag_in text ≡ None
unled text licence contributor prefixes =
    neither _ _ (ap (option_map TagText.a_licence) (value_none licence_lead text licence))
    (neither _ _ (ap (option_map TagText.a_contributor) (value_none contributor_lead text contributor))
    (let none : prefix_of text ≡ None = find_none (leaves_value text) leaves_none longest_first in rw none refl))
  where
    leaves_none : (prefix : Prefix) → leaves_value text prefix ≡ false
    leaves_none prefix = let isnt = prefixes prefix in rw isnt refl

tagless : (text : List ℕ) → Leadless text → tag_in text ≡ None
tagless text e =
    let l = lacks text e in
    unled text (begins_not (codes "SPDX-") (drop 5 licence_lead) text l.spdx)
    (begins_not (codes "SPDX-") (drop 5 contributor_lead) text l.spdx) (prefix_not text l)

untagged : (punct content : List ℕ) → Leadless content → has_tag punct content ≡ false
unfolding has_tag
untagged punct content e =
    ap is_some (tagless (stripped punct content)
    (of_end Leadless leadless_parts is_blank _ (of_front Leadless leadless_parts (is_filler punct) content e)))

none_tagged : (punct : List ℕ) (contents : List (List ℕ)) → Each Leadless contents
    → list_any (has_tag punct) contents ≡ false
unfolding Each
none_tagged punct [] h = refl
none_tagged punct (content ∷ contents) h = or_none (has_tag punct content) (list_any (has_tag punct) contents)
    (untagged punct content h.0) (none_tagged punct contents h.1)

-- ---- lines of such contents have no header block

untagged_block : (style : Style) (lines : PlacedLines) (block : Option BlockSize)
    → Each (λ line. Leadless line.1.content) lines → option_and_then (tagged style lines) block ≡ None
untagged_block style lines None h = refl
untagged_block style lines (Some block) h =
    tagged-false style lines block false
    (none_tagged (punctuation_of style) _ (each_content Leadless leadless_parts style block.form
    (open_contents lines) true block.count (each_open Leadless lines h))) refl

headerless : (style : Style) (inside : ℕ) (lines : PlacedLines) → Each (λ line. Leadless line.1.content) lines
    → header_in style inside lines ≡ None
unfolding Each header_in
headerless style inside [] h = header_in-nil style inside
headerless style (suc inside) (line ∷ lines) h = headerless style inside lines h.1
headerless style zero (line ∷ lines) h = elim (truth (is_barrier line.1.content)) [
  | inl is ↦ header_in-barrier style line lines is
  | inr isnt ↦
      (let block = block_at style (open_contents (line ∷ lines)) in
      header_in-cons style line lines block isnt refl
      ∙ neither _ _ (untagged_block style (line ∷ lines) block h) (headerless style (lines_inside block) lines h.1))
]

pub body_headerless : (style : Style) (file : List ℕ) → All (StandsIn file) (file_lines file) → holds_lead file ≡ false
    → header_in style 0 (body_lines style (file_lines file)) ≡ None
body_headerless style file placed e =
    let lines = file_lines file in
    let each = All-weaker (StandsIn file) (λ line. Leadless line.1.content)
    (λ line stands. leadless_by file line.1.content (λ text. content_lacks text file line stands) e) lines placed in
    headerless style 0 (body_lines style lines)
    (each_in_body Leadless style lines (each_of_all (λ line. Leadless line.1.content) lines each))
