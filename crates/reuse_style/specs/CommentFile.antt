-- The comment styles that a project says by their marks, and its rules (TOML 1.0, and this project's own keys).
use Rattle.std.specs.Prelude.{◌≡◌, ℕ, pos, Bool, true, false, not, ◌&&◌, ◌||◌, ◌==◌, nat_lt, List, [], ◌∷◌, ◌++◌}
use Rattle.std.specs.Prelude.{map, length, Option, Some, None, is_none, is_some, unwrap_or, option_and_then, find}
use Rattle.std.specs.Prelude.{Result, Ok, Err, if◌then◌else◌, codes, refl}
use Rattle.std.specs.Char.{is_ascii_lowercase, is_ascii_digit}
use Rattle.std.specs.List.{list_all, filter_map, position_from}
use Rattle.std.specs.Option.{option_or, option_map, option_map_or}
use Rattle.std.specs.Str.{bytes_eq}
use Rattle.toml.specs.Data.{Data, string, integer, array, table, Items, no_items, item, Members, no_members, member}
use Rattle.toml.specs.Data.{as_array, as_table}
use Rattle.reuse_text.specs.Text.{is_empty}
use Rattle.reuse_style.specs.declared.comments_refusal.CommentsRefusal.{CommentsRefusal}
use Rattle.reuse_style.specs.declared.comments_refusal.CommentsRefusal.TheVariants.{NotToml, BadShape, BadName}
use Rattle.reuse_style.specs.declared.comments_refusal.CommentsRefusal.TheVariants.{BadMarks, BadRule, Memory}
use Rattle.reuse_style.specs.declared.marks.Declaration.TheVariants.{Nothing}
use Rattle.reuse_style.specs.Documents.{read_document, is_version}
use Rattle.reuse_style.specs.Marks.{LineForm, BlockForm, FrontMatterForm, CommentMarks, GoodStyle, is_good, marks_fault}
use Rattle.reuse_style.specs.RuleTexts.{RuleTexts, rules_data, rules_of_data}
use Rattle.reuse_style.specs.Rules.{Rule, CommentRules, is_rule, rule_of}
use Rattle.reuse_style.specs.StyleFile.{table_kind_named, kind_named}
use Rattle.reuse_style.specs.Taken.{with_text, take_text, with_value, take_value, is_done}

-- the texts of a style's table, and its lists of texts, each where its key is there
pub record CommentTexts : Type 0 where
  pub marker : Option (List ℕ)
  pub line_lead : Option (List ℕ)
  pub opener : Option (List ℕ)
  pub closer : Option (List ℕ)
  pub middle : Option (List ℕ)
  pub lead : Option (List ℕ)
  pub last_line : Option (List ℕ)
  pub first_lines : Option (List (List ℕ))
  pub front_matter : Option (List (List ℕ))

-- a style's name, with its texts
abbrev pub NamedComments : Type 0
NamedComments = List ℕ × CommentTexts

-- ---- the document that says texts

abbrev pub text_items : List (List ℕ) → Items
text_items [] = no_items
text_items (text ∷ texts) = item (string text) (text_items texts)

-- members behind a list of texts, where there is one
abbrev pub with_texts : List ℕ → Option (List (List ℕ)) → Members → Members
with_texts key None others = others
with_texts key (Some texts) others = member key (array (text_items texts)) others

-- the table of the texts of a style
abbrev pub style_members : CommentTexts → Members
style_members texts =
    with_text (codes "close") texts.closer
    (with_texts (codes "first-lines") texts.first_lines
    (with_texts (codes "front-matter") texts.front_matter
    (with_text (codes "last") texts.last_line
    (with_text (codes "lead") texts.lead
    (with_text (codes "line") texts.marker
    (with_text (codes "line-lead") texts.line_lead
    (with_text (codes "middle") texts.middle
    (with_text (codes "open") texts.opener no_members))))))))

abbrev pub named_members : List NamedComments → Members
named_members [] = no_members
named_members (named ∷ others) = member named.0 (table (style_members named.1)) (named_members others)

abbrev pub comments_data : List NamedComments → Data
comments_data named = table (named_members named)

-- what a document states: styles and rules, each if its key is there
pub record StatedComments : Type 0 where
  pub styles : Option (List NamedComments)
  pub rules : Option (List RuleTexts)

abbrev pub comments_document : StatedComments → Members
comments_document stated =
    with_value comments_data (codes "comments") stated.styles
    (with_value rules_data (codes "rules") stated.rules (member (codes "version") (integer (pos 1)) no_members))

-- it states styles or rules, or both
abbrev pub states_something : StatedComments → Bool
states_something stated = is_some stated.styles || is_some stated.rules

-- ---- the texts of a document

-- the texts of an array, where it has nothing else
unfoldable pub texts_of_items : Items → Option (List (List ℕ))
texts_of_items no_items = Some []
texts_of_items (item (string text) others) = option_map (λ texts. text ∷ texts) (texts_of_items others)
texts_of_items (item value others) = None

abbrev pub texts_of_array : Data → Option (List (List ℕ))
texts_of_array value = option_and_then texts_of_items (as_array value)

-- a list of texts and the members behind it, or no list and all members
abbrev pub texts_before : Option (List (List ℕ)) → Members → Members → Option (List (List ℕ)) × Members
texts_before None all others = (None, all)
texts_before (Some texts) all others = (Some texts, others)

-- the list of texts of a key, where the first member has it, and the members behind it
unfoldable pub take_texts : List ℕ → Members → Option (List (List ℕ)) × Members
take_texts key no_members = (None, no_members)
take_texts key (member name value others) =
    texts_before (if bytes_eq name key then texts_of_array value else None) (member name value others) others

-- the texts of a style's table, whose keys are in byte order
unfoldable pub texts_of_style : Members → Option CommentTexts
texts_of_style members =
    let closer = take_text (codes "close") members in
    let first_lines = take_texts (codes "first-lines") closer.1 in
    let front_matter = take_texts (codes "front-matter") first_lines.1 in
    let last_line = take_text (codes "last") front_matter.1 in
    let lead = take_text (codes "lead") last_line.1 in
    let marker = take_text (codes "line") lead.1 in
    let line_lead = take_text (codes "line-lead") marker.1 in
    let middle = take_text (codes "middle") line_lead.1 in
    let opener = take_text (codes "open") middle.1 in
    if is_done opener.1 then Some (record {
      marker = marker.0;
      line_lead = line_lead.0;
      opener = opener.0;
      closer = closer.0;
      middle = middle.0;
      lead = lead.0;
      last_line = last_line.0;
      first_lines = first_lines.0;
      front_matter = front_matter.0;
    }) else None

abbrev pub texts_of_data : Data → Option CommentTexts
texts_of_data value = option_and_then texts_of_style (as_table value)

-- the names and texts of a table, in its order, where each value is a style's table
unfoldable pub comments_in_table : Members → Option (List NamedComments)
comments_in_table no_members = Some []
comments_in_table (member name value others) =
    option_and_then (λ texts. option_map (λ named. (name, texts) ∷ named) (comments_in_table others))
    (texts_of_data value)

abbrev pub comments_of_data : Data → Option (List NamedComments)
comments_of_data value = option_and_then comments_in_table (as_table value)

-- the only member is the version
abbrev pub is_version_alone : Members → Bool
is_version_alone (member name value no_members) = bytes_eq name (codes "version") && is_version value
is_version_alone _ = false

-- what a document states, where the version is all that is left
abbrev pub stated_before : StatedComments → Members → Option StatedComments
stated_before stated others =
    if is_version_alone others && states_something stated then Some stated else None

-- what a document states whose only keys are, in byte order, `comments` and `rules`, or one of these, and `version`
unfoldable pub comments_of_document : Members → Option StatedComments
comments_of_document document =
    let styles = take_value comments_of_data (codes "comments") document in
    let rules = take_value rules_of_data (codes "rules") styles.1 in
    stated_before (record { styles = styles.0; rules = rules.0 }) rules.1

-- ---- the marks that texts say

-- a tag is written after the marker and a space, unless the texts say after what
abbrev pub line_of : CommentTexts → Option LineForm
line_of texts = option_map (λ marker. record {
  marker = marker;
  lead = unwrap_or texts.line_lead (marker ++ 32 ∷ []);
}) texts.marker

-- a middle and a space, or nothing
abbrev pub default_lead : Option (List ℕ) → List ℕ
default_lead None = []
default_lead (Some middle) = middle ++ 32 ∷ []

-- a tag is written after the middle and a space, and the closer is the last line, unless the texts say it otherwise
abbrev pub block_between : CommentTexts → List ℕ → List ℕ → BlockForm
block_between texts opener closer = record {
  opener = opener;
  middle = texts.middle;
  closer = closer;
  last_line = unwrap_or texts.last_line closer;
  lead = unwrap_or texts.lead (default_lead texts.middle);
}

abbrev pub block_of : CommentTexts → Option BlockForm
block_of texts =
    option_and_then (λ opener. option_map (block_between texts opener) texts.closer) texts.opener

-- front matter begins with one text and ends with another
abbrev pub front_matter_between : List (List ℕ) → Option FrontMatterForm
front_matter_between (first_line ∷ last_line ∷ []) = Some (record { first_line = first_line; last_line = last_line })
front_matter_between texts = None

abbrev pub marks_of : CommentTexts → CommentMarks
marks_of texts = record {
  line = line_of texts;
  block = block_of texts;
  declaration = Nothing;
  first_lines = unwrap_or texts.first_lines [];
  front_matter = option_and_then front_matter_between texts.front_matter;
}

-- the texts say what is only of a comment over several lines
abbrev pub says_block : CommentTexts → Bool
says_block texts = is_some texts.opener || is_some texts.closer || is_some texts.middle || is_some texts.lead || is_some
    texts.last_line

-- front matter, if the texts say it, is two of them
abbrev pub has_two_lines : Option (List (List ℕ)) → Bool
has_two_lines matter = option_map_or (λ texts. is_some (front_matter_between texts)) matter true

-- the texts say a form, and nothing of one whose marker, or opener and closer, they don't say
abbrev pub is_shaped : CommentTexts → Bool
is_shaped texts =
    (is_some texts.marker || is_some (block_of texts)) && (is_some texts.marker || is_none texts.line_lead)
    && (is_some (block_of texts) || not (says_block texts)) && has_two_lines texts.front_matter

-- ---- the styles

-- a lower-case letter, a digit or `-`
abbrev pub is_name_byte : ℕ → Bool
is_name_byte b = is_ascii_lowercase b || is_ascii_digit b || b == 45

-- 1 to 40 such bytes, which name nothing by themselves, are a good name
abbrev pub is_bad_style_name : List ℕ → Bool
is_bad_style_name name = is_empty name || nat_lt 40 (length name) || not (list_all is_name_byte name)
    || is_some (table_kind_named name)

-- why a style is not good
abbrev pub style_refusal : NamedComments → Option CommentsRefusal
style_refusal (name, texts) =
    if is_bad_style_name name then Some (BadName name)
    else option_map (λ fault. BadMarks name fault) (marks_fault (marks_of texts))

-- the first refusal of styles in order
unfoldable pub first_style_refusal : List NamedComments → Option CommentsRefusal
first_style_refusal [] = None
first_style_refusal (named ∷ others) = option_or (style_refusal named) (first_style_refusal others)

-- a style of marks, where they are good
unfoldable pub style_if : (name : List ℕ) (marks : CommentMarks) (good : Bool) → is_good marks ≡ good → Option GoodStyle
style_if name marks true good = Some (record { name = name; marks = marks; good = good })
style_if name marks false bad = None

abbrev pub good_style : NamedComments → Option GoodStyle
good_style (name, texts) = style_if name (marks_of texts) (is_good (marks_of texts)) refl

-- the styles that texts say, or the first refusal
abbrev pub checked_styles : List NamedComments → Option CommentsRefusal → Result (List GoodStyle) CommentsRefusal
checked_styles named (Some refusal) = Err refusal
checked_styles named None = Ok (filter_map good_style named)

-- the number of the first rule that names no style, where they are counted from 1
abbrev pub first_stray : List GoodStyle → List Rule → Option ℕ
first_stray styles rules = position_from (λ rule. is_none (kind_named styles rule.style)) 1 rules

-- the rules beside styles, unless one names no style
abbrev pub rules_beside : List GoodStyle → List Rule → Option ℕ → Result CommentRules CommentsRefusal
rules_beside styles rules (Some number) = Err (BadRule number)
rules_beside styles rules None = Ok (record { styles = styles; rules = rules })

abbrev pub checked_rules : List Rule → Result (List GoodStyle) CommentsRefusal → Result CommentRules CommentsRefusal
checked_rules rules (Err refusal) = Err refusal
checked_rules rules (Ok styles) = rules_beside styles rules (first_stray styles rules)

-- texts have the shape of styles, and of rules
abbrev pub are_shaped : List NamedComments → List RuleTexts → Bool
are_shaped named rules = list_all (λ style. is_shaped style.1) named && list_all is_rule rules

abbrev pub comments_by : List NamedComments → List RuleTexts → Result CommentRules CommentsRefusal
comments_by named rules =
    if are_shaped named rules
    then checked_rules (map rule_of rules) (checked_styles named (first_style_refusal named)) else Err BadShape

abbrev pub own_comments : Option StatedComments → Result CommentRules CommentsRefusal
own_comments None = Err BadShape
own_comments (Some stated) = comments_by (unwrap_or stated.styles []) (unwrap_or stated.rules [])

abbrev pub comments_in : Option Members → Result CommentRules CommentsRefusal
comments_in None = Err NotToml
comments_in (Some document) = own_comments (comments_of_document document)

-- the own styles and rules of a project by its file of comments: none where there is no file
unfoldable pub comments_of : Option (List ℕ) → Result CommentRules CommentsRefusal
comments_of None = Ok (record { styles = []; rules = [] })
comments_of (Some bytes) = comments_in (read_document bytes)

-- the texts of the first style that has a name, if one has
abbrev pub texts_named : List NamedComments → List ℕ → Option CommentTexts
texts_named named name = option_map (λ style. style.1) (find (λ style. bytes_eq style.0 name) named)

-- a refusal is the one that is expected, or an allocation failure, which may take the place of each
abbrev pub IsCommentsRefused : Result CommentRules CommentsRefusal → CommentsRefusal → Type 0
IsCommentsRefused expected (Memory e) = Unit {0}
IsCommentsRefused expected refusal = expected ≡ Err refusal

-- the same, of the first refusal of styles
abbrev pub IsFirstRefusal : Option CommentsRefusal → CommentsRefusal → Type 0
IsFirstRefusal expected (Memory e) = Unit {0}
IsFirstRefusal expected refusal = expected ≡ Some refusal
