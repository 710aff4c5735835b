-- What amendments make of the licensing information of a file (this project's own; docs/RULES.md, "What amend
-- writes").
use Rattle.std.specs.Prelude.{ℕ, Bool, true, false, not, ◌&&◌, ◌||◌, nat_lt, List, [], ◌∷◌, ◌++◌, length, drop, map}
use Rattle.std.specs.Prelude.{filter_map, fold, Option, None, Some, unwrap_or, if◌then◌else◌, codes}
use Rattle.std.specs.Option.{option_map, option_map_or, option_and_then, is_none}
use Rattle.std.specs.Str.{bytes_eq}
use Rattle.reuse_notice.specs.declared.expressions.Token.{Token}
use Rattle.reuse_notice.specs.declared.expressions.Token.TheVariants.{With, Stray}
use Rattle.reuse_amend.specs.declared.replacements.Replacement.{Replacement}
use Rattle.reuse_amend.specs.declared.amendments.Amendments.{Amendments}
use Rattle.reuse_notice.specs.declared.infos.Info.{Info}
use Rattle.reuse_notice.specs.declared.prefixes.Prefix.{Prefix}
use Rattle.reuse_notice.specs.Sets.{set_of}
use Rattle.reuse_notice.specs.Tags.{all_blank}
use Rattle.reuse_notice.specs.Adding.{four_digits}
use Rattle.reuse_notice.specs.Prefixes.{prefix_text}
use Rattle.reuse_notice.specs.MergeSteps.{is_among}
use Rattle.reuse_notice.specs.ExpressionSteps.{fault_of}
use Rattle.reuse_notice.specs.TextLists.{without}
use Rattle.reuse_amend.specs.Pieces.{pieces_of, is_identifier, has_operator}
use Rattle.reuse_amend.specs.YearSpans.{SpanText, upto, run_front}
use Rattle.reuse_amend.specs.NoticeParts.{Parts, parts_text, parts_of}

-- ---- licences

-- an expression as an operand of another: in parentheses, if it has an operator
abbrev pub operand : List ℕ → List ℕ
operand text = if has_operator text then codes "(" ++ text ++ codes ")" else text

-- whether an exception comes next: behind WITH, and the spaces after it
abbrev pub is_behind_with : Bool → Token → Bool
is_behind_with before With = true
is_behind_with before Stray = before
is_behind_with before _ = false

-- what a piece becomes: the new text, if it is the old one; an exception is replaced by an identifier alone
abbrev pub piece_replaced : Replacement → Bool → List ℕ → List ℕ
piece_replaced r behind_with piece =
    if bytes_eq piece r.old && (is_identifier r.new || not behind_with) then operand r.new else piece

-- the pieces of an expression, replaced and put together
unfoldable pub pieces_replaced : Replacement → Bool → List (List ℕ × Token) → List ℕ
pieces_replaced r behind_with [] = []
pieces_replaced r behind_with (p ∷ pieces) =
    piece_replaced r behind_with p.0 ++ pieces_replaced r (is_behind_with behind_with p.1) pieces

abbrev pub expression_replaced : Replacement → List ℕ → List ℕ
expression_replaced r text = pieces_replaced r false (pieces_of text)

-- a text that is an expression
abbrev pub if_expression : List ℕ → Option (List ℕ)
if_expression text = if is_none (fault_of text) then Some text else None

-- what a licence becomes, none where that leaves the grammar
abbrev pub licence_replaced : Replacement → List ℕ → Option (List ℕ)
licence_replaced r value =
    if bytes_eq value r.old then Some r.new
    else if is_identifier r.old && is_none (fault_of value) then if_expression (expression_replaced r value)
    else Some value

-- one replacement after the other
unfoldable pub licence_amended : List Replacement → List ℕ → Option (List ℕ)
licence_amended [] value = Some value
licence_amended (r ∷ replacements) value = option_and_then (licence_amended replacements) (licence_replaced r value)

-- a text that is not to be removed
abbrev pub unless_removed : List (List ℕ) → List ℕ → Option (List ℕ)
unless_removed removed text = if is_among removed text then None else Some text

-- what becomes of one licence: none where that leaves the grammar, and no text where it is removed
abbrev pub licence_alone : Amendments → List ℕ → Option (Option (List ℕ))
licence_alone a value = option_map (unless_removed a.removed_licences) (licence_amended a.replaced_licences value)

-- each text as it becomes, if each becomes one
unfoldable pub each_made : (List ℕ → Option (List ℕ)) → List (List ℕ) → Option (List (List ℕ))
each_made make [] = Some []
each_made make (text ∷ texts) =
    option_and_then (λ made. option_map (λ others. made ∷ others) (each_made make texts)) (make text)

-- ---- holders and contributors

-- the new text in place of the old one, where a whole text is that
abbrev pub text_replaced : List ℕ → Replacement → List ℕ
text_replaced text r = if bytes_eq text r.old then r.new else text

abbrev pub text_amended : List Replacement → List ℕ → List ℕ
text_amended replacements text = fold text_replaced text replacements

-- whether the amendments of years and prefix are of this holder, as they are of each where they name none
abbrev pub concerns : Amendments → List ℕ → Bool
concerns a holder = option_map_or (λ only. bytes_eq holder only) a.holder true

abbrev pub if_concerned : {X : Type 0} → Amendments → List ℕ → Option X → Option X
if_concerned a holder o = if concerns a holder then o else None

-- what becomes of one contributor: none where it is removed
abbrev pub contributor_alone : Amendments → List ℕ → Option (List ℕ)
contributor_alone a value = unless_removed a.removed_contributors (text_amended a.replaced_contributors value)

-- ---- notices

-- years from one to another, as an addition writes them
abbrev pub range_text : ℕ → ℕ → List ℕ
range_text low high = four_digits low ++ codes " - " ++ four_digits high

-- whether years end before a year; those that last until today don't
abbrev pub is_before : ℕ → Option ℕ → Bool
is_before year None = false
is_before year (Some high) = nat_lt high year

-- years of which the span that ends last reaches a year, if none does yet; all other bytes stay
abbrev pub span_until : ℕ → List ℕ → SpanText → List ℕ
span_until year years span =
    if is_before year span.high then upto years span.start ++ range_text span.low year ++ span.rest else years

abbrev pub years_until : ℕ → List ℕ → List ℕ
years_until year years = option_map_or (λ run. span_until year years run.latest) (run_front years) years

-- all in front of years and holder, with another prefix: as it is, if it is this prefix and blank bytes
abbrev pub is_front : Prefix → Parts → Bool
is_front prefix p =
    bytes_eq (prefix_text p.prefix) (prefix_text prefix)
    && all_blank (drop (length (prefix_text p.prefix)) p.front)

abbrev pub front_with : Parts → Prefix → List ℕ
front_with p prefix = if is_front prefix p then p.front else prefix_text prefix ++ codes " "

-- the parts of a notice, amended, where its holder becomes this one
abbrev pub parts_amended : Amendments → Parts → List ℕ → Parts
parts_amended a p holder = record {
  prefix = unwrap_or (if_concerned a holder a.prefix) p.prefix;
  front = option_map_or (front_with p) (if_concerned a holder a.prefix) p.front;
  years = option_map_or (λ year. years_until year p.years) (if_concerned a holder a.until) p.years;
  between = p.between;
  holder = holder;
  trailing = p.trailing;
  years_first = p.years_first;
}

-- what a notice becomes, none where its holder is removed
abbrev pub holder_amended : Amendments → Parts → List ℕ → Option (List ℕ)
holder_amended a p holder =
    if is_among a.removed_holders holder then None else Some (parts_text (parts_amended a p holder))

abbrev pub notice_amended : Amendments → List ℕ → Option (List ℕ)
notice_amended a text =
    option_map_or (λ p. holder_amended a p (text_amended a.replaced_holders p.holder)) (parts_of text)
    (Some text)

-- ---- the information

abbrev pub notices_amended : Amendments → List (List ℕ) → List (List ℕ)
notices_amended a notices = set_of (filter_map (notice_amended a) notices)

abbrev pub contributors_amended : Amendments → List (List ℕ) → List (List ℕ)
contributors_amended a contributors =
    set_of (without a.removed_contributors (map (text_amended a.replaced_contributors) contributors))

-- none where a licence leaves the grammar
abbrev pub licences_amended : Amendments → List (List ℕ) → Option (List (List ℕ))
licences_amended a licences =
    option_map (λ texts. set_of (without a.removed_licences texts))
    (each_made (licence_amended a.replaced_licences) licences)

-- the information amended, none where a licence leaves the grammar; the free contents stay
abbrev pub amended : Amendments → Info → Option Info
amended a info = option_map (λ licences. record {
  notices = notices_amended a info.notices;
  contributors = contributors_amended a info.contributors;
  licences = licences;
  free = info.free;
}) (licences_amended a info.licences)
