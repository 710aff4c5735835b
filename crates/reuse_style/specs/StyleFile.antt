-- The kinds that a project's file of styles gives to names (TOML 1.0, and this project's own keys).
use Rattle.std.specs.Prelude.{◌≡◌, ℕ, pos, Bool, true, ◌&&◌, ◌==◌, List, [], ◌∷◌, ◌++◌, Option, Some, None}
use Rattle.std.specs.Prelude.{is_none, option_and_then, find, Result, Ok, Err, if◌then◌else◌, codes}
use Rattle.std.specs.List.{list_any, filter_map}
use Rattle.std.specs.Option.{option_or, option_map}
use Rattle.std.specs.Str.{bytes_eq, str_eq_ignore_ascii_case}
use Rattle.toml.specs.Data.{Data, string, integer, table, Members, no_members, member, as_table}
use Rattle.reuse_style.specs.Documents.{read_document, is_version}
use Rattle.reuse_style.specs.Marks.{GoodStyle}
use Rattle.reuse_style.specs.declared.style.Kind.{Kind}
use Rattle.reuse_style.specs.declared.style.Kind.TheVariants.{Style, Uncommentable}
use Rattle.reuse_style.specs.declared.style_refusal.StylesRefusal.{StylesRefusal}
use Rattle.reuse_style.specs.declared.style_refusal.StylesRefusal.TheVariants.{NotToml, BadShape, BadName, BadStyle}
use Rattle.reuse_style.specs.declared.style_refusal.StylesRefusal.TheVariants.{Repeated, Memory}
use Rattle.reuse_style.specs.Styles.{style_name, style_named}
use Rattle.reuse_style.specs.Names.{slash, lookup}

-- the kind that a text names by itself: the name of a style of the table, or `uncommentable`
abbrev pub table_kind_named : List ℕ → Option Kind
table_kind_named text = if bytes_eq text (codes "uncommentable") then Some Uncommentable
    else option_map (λ style. Style style) (style_named text)

-- the own style that has a name, if one has
abbrev pub own_style_named : List GoodStyle → List ℕ → Option GoodStyle
own_style_named comments name = find (λ style. bytes_eq (style_name style) name) comments

-- the kind that a text names where a project has own comments
abbrev pub kind_named : List GoodStyle → List ℕ → Option Kind
kind_named comments text =
    option_or (table_kind_named text) (option_map (λ style. Style style) (own_style_named comments text))

-- a name, and the text that stands for its kind
abbrev pub NamedText : Type 0
NamedText = List ℕ × List ℕ

-- the names and texts of a table, in its order, where each value is a text
unfoldable pub texts_in : Members → Option (List NamedText)
texts_in no_members = Some []
texts_in (member name (string text) others) = option_map (λ texts. (name, text) ∷ texts) (texts_in others)
texts_in (member name value others) = None

-- the same of a value that is a table
abbrev pub texts_of_value : Data → Option (List NamedText)
texts_of_value value = option_and_then texts_in (as_table value)

-- the names and texts of a document whose only keys are, in byte order, `styles` and `version`
unfoldable pub texts_of_document : Members → Option (List NamedText)
texts_of_document (member first names (member second version no_members)) =
    if bytes_eq first (codes "styles") && bytes_eq second (codes "version") && is_version version
    then texts_of_value names else None
texts_of_document document = None

-- texts as the table of their names, and as the document that says them
abbrev pub text_members : List NamedText → Members
text_members [] = no_members
text_members (named ∷ texts) = member named.0 (string named.1) (text_members texts)

abbrev pub document_of : List NamedText → Members
document_of texts =
    member (codes "styles") (table (text_members texts)) (member (codes "version") (integer (pos 1)) no_members)

-- no last part of a path is such a name
abbrev pub is_bad_name : List ℕ → Bool
is_bad_name [] = true
is_bad_name name = list_any (λ b. b == slash) name

-- why a name, with its text, is not good behind the names before it
abbrev pub refusal_at : List GoodStyle → List (List ℕ) → NamedText → Option StylesRefusal
refusal_at comments earlier (name, text) =
    if is_bad_name name then Some (BadName name)
    else if is_none (kind_named comments text) then Some (BadStyle name)
    else if list_any (λ other. str_eq_ignore_ascii_case other name) earlier then Some (Repeated name)
    else None

-- the first refusal of names in order, behind other names
unfoldable pub first_refusal : List GoodStyle → List (List ℕ) → List NamedText → Option StylesRefusal
first_refusal comments earlier [] = None
first_refusal comments earlier (named ∷ others) =
    option_or (refusal_at comments earlier named) (first_refusal comments (earlier ++ named.0 ∷ []) others)

-- the kinds that texts name
abbrev pub kinds_of : List GoodStyle → List NamedText → List (List ℕ × Kind)
kinds_of comments texts =
    filter_map (λ named. option_map (λ kind. (named.0, kind)) (kind_named comments named.1)) texts

-- the own names that texts give, or the first refusal
abbrev pub checked : List GoodStyle → List NamedText → Option StylesRefusal
    → Result (List ℕ → Option Kind) StylesRefusal
checked comments texts (Some refusal) = Err refusal
checked comments texts None = Ok (lookup (kinds_of comments texts))

abbrev pub own_names : List GoodStyle → Option (List NamedText) → Result (List ℕ → Option Kind) StylesRefusal
own_names comments None = Err BadShape
own_names comments (Some texts) = checked comments texts (first_refusal comments [] texts)

abbrev pub styles_in : List GoodStyle → Option Members → Result (List ℕ → Option Kind) StylesRefusal
styles_in comments None = Err NotToml
styles_in comments (Some document) = own_names comments (texts_of_document document)

-- the own names of a project by its own comments and its file of styles: none where there is no file
unfoldable pub styles_of : List GoodStyle → Option (List ℕ) → Result (List ℕ → Option Kind) StylesRefusal
styles_of comments None = Ok (lookup [])
styles_of comments (Some bytes) = styles_in comments (read_document bytes)

-- a refusal is the one that is expected, or an allocation failure, which may take the place of each
abbrev pub IsRefused : Result (List ℕ → Option Kind) StylesRefusal → StylesRefusal → Type 0
IsRefused expected (Memory e) = Unit {0}
IsRefused expected refusal = expected ≡ Err refusal

-- the same, of the first refusal of names
abbrev pub IsFirst : Option StylesRefusal → StylesRefusal → Type 0
IsFirst expected (Memory e) = Unit {0}
IsFirst expected refusal = expected ≡ Some refusal
