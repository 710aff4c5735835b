-- Reading a project's file of styles: its texts one by one, and the first refusal among its names.
use Rattle.std.proofs.Common.{◌≡◌, ℕ, Bool, false, cond, List, [], ◌∷◌, ◌++◌, map, append_assoc, append-nil, length}
use Rattle.std.proofs.Common.{get_or, drop, drop-cons, add-one, ◌+◌, ◌<◌, ◌≤◌, Option, Some, None, Result, Ok, Err}
use Rattle.std.proofs.Common.{refl, sym, ap, ◌∙◌, subst}
use Rattle.std.specs.Prelude.{is_none, is_some, if◌then◌else◌}
use Rattle.std.specs.List.{list_any, cons_option}
use Rattle.std.specs.List.Sorted.{IsStrictlySortedBy}
use Rattle.std.specs.Option.{option_map, option_or}
use Rattle.std.specs.Ordering.{nat_cmp}
use Rattle.std.specs.Cmp.Lexicographic.{slice_cmp}
use Rattle.std.specs.Map.{keys_of}
use Rattle.std.specs.BTreeMap.{BTreeMap, get, is_at, insert_entry}
use Rattle.std.specs.Str.{IsUtf8, str_to_ascii_lowercase, str_eq_ignore_ascii_case}
use Rattle.std.proofs.lemmas.List.{drop_all, map-append}
use Rattle.toml.specs.Data.{Data, string, integer, float, boolean, datetime, array, table, as_str, Members, member}
use Rattle.toml.specs.Parse.{parse_document}
use Rattle.reuse_text.proofs.Utf8Lemmas.{read_if_utf8}
use Rattle.reuse_style.specs.declared.style.Kind.{Kind}
use Rattle.reuse_style.specs.declared.style_refusal.StylesRefusal.{StylesRefusal}
use Rattle.reuse_style.specs.declared.style_refusal.StylesRefusal.TheVariants.{NotToml, BadShape, BadName, BadStyle}
use Rattle.reuse_style.specs.declared.style_refusal.StylesRefusal.TheVariants.{Repeated, Memory}
use Rattle.reuse_style.specs.Documents.{read_document}
use Rattle.reuse_style.specs.Marks.{GoodStyle}
use Rattle.reuse_style.specs.Names.{lookup}
use Rattle.reuse_style.specs.StyleFile.{NamedText, texts_in, texts_of_document, kind_named, is_bad_name, refusal_at}
use Rattle.reuse_style.specs.StyleFile.{first_refusal, kinds_of, checked, own_names, styles_in}
use Rattle.reuse_style.specs.StyleFile.{styles_of, IsRefused, IsFirst}
use Rattle.reuse_style.specs.Keyed.{AreKeys, IsKeyed, Keyed}
use Rattle.reuse_style.proofs.KeyedLemmas.{keyed_none, keyed_more}

-- ---- the texts of a table

-- one more text, at the end of those before
pub texts_more : (all : Option (List NamedText)) (before : List NamedText) (name text : List ℕ) (value : Data)
    (others : Members) → Some text ≡ as_str value
    → all ≡ option_map (λ texts. before ++ texts) (texts_in (member name value others))
    → all ≡ option_map (λ texts. (before ++ (name, text) ∷ []) ++ texts) (texts_in others)
unfolding texts_in
texts_more all before name text (string s) others is e =
    let same : text ≡ s = cc in
    e ∙ by (texts_in others)
    ∙ ap (λ (t : List ℕ). option_map (λ texts. (before ++ (name, t) ∷ []) ++ texts) (texts_in others)) (sym same)
  where
    by : (o : Option (List NamedText)) → option_map (λ texts. before ++ texts)
        (option_map (λ texts. (name, s) ∷ texts) o) ≡ option_map (λ texts. (before ++ (name, s) ∷ []) ++ texts) o
    by None = refl
    by (Some texts) = ap (λ (ts : List NamedText). Some ts) (sym (append_assoc before ((name, s) ∷ []) texts))
texts_more all before name text (integer z) others is e = absurd (let no : ⊥ = cc is in no)
texts_more all before name text (float x) others is e = absurd (let no : ⊥ = cc is in no)
texts_more all before name text (boolean b) others is e = absurd (let no : ⊥ = cc is in no)
texts_more all before name text (datetime d) others is e = absurd (let no : ⊥ = cc is in no)
texts_more all before name text (array ds) others is e = absurd (let no : ⊥ = cc is in no)
texts_more all before name text (table ms) others is e = absurd (let no : ⊥ = cc is in no)

-- ---- the names in turn

-- a map holds the names before these texts, which have the first refusal and the last kinds of all
pub record AtTexts (comments : List GoodStyle) (names : BTreeMap (List ℕ) Kind) (texts all : List NamedText) : Type 0 where
  pub earlier : List (List ℕ)
  pub entries : List (List ℕ × Kind)
  pub keyed : Keyed names earlier entries
  pub refusal : first_refusal comments earlier texts ≡ first_refusal comments [] all
  pub kinds : entries ++ kinds_of comments texts ≡ kinds_of comments all

pub at_start : (comments : List GoodStyle) (names : BTreeMap (List ℕ) Kind) (all : List NamedText) → names.entries ≡ []
    → IsStrictlySortedBy (slice_cmp nat_cmp) (keys_of names.entries) → AtTexts comments names all all
at_start comments names all e ordered = record {
  earlier = [];
  entries = [];
  keyed = keyed_none names e ordered;
  refusal = refl;
  kinds = refl;
}

pub at_next : (comments : List GoodStyle) (names new : BTreeMap (List ℕ) Kind) (named : NamedText) (texts all : List NamedText)
    → AtTexts comments names (named ∷ texts) all
    → ((earlier : List (List ℕ)) (entries : List (List ℕ × Kind)) → Keyed names earlier entries
    → (kind : Kind) × (kind_named comments named.1 ≡ Some kind) × (refusal_at comments earlier named ≡ None)
    × Keyed new (earlier ++ named.0 ∷ []) (entries ++ (named.0, kind) ∷ []))
    → AtTexts comments new texts all
unfolding first_refusal
at_next comments names new named texts all at added =
    let (kind, is, none, keyed) = added at.earlier at.entries at.keyed in
    record {
      earlier = at.earlier ++ named.0 ∷ [];
      entries = at.entries ++ (named.0, kind) ∷ [];
      keyed = keyed;
      refusal = ap (λ (o : Option StylesRefusal). option_or o (first_refusal comments (at.earlier ++ named.0 ∷ []) texts))
          (sym none) ∙ at.refusal;
      kinds = append_assoc at.entries ((named.0, kind) ∷ []) (kinds_of comments texts)
          ∙ ap (λ (o : Option Kind). at.entries ++ cons_option (option_map (λ k. (named.0, k)) o) (kinds_of comments texts))
          (sym is) ∙ at.kinds;
    }

pub at_end : (comments : List GoodStyle) (names : BTreeMap (List ℕ) Kind) (all : List NamedText)
    → AtTexts comments names [] all
    → (own : List ℕ → Option Kind) × (own_names comments (Some all) ≡ Ok own) × IsKeyed names own
unfolding first_refusal
at_end comments names all at = (
  lookup at.entries,
  ap (checked comments all) (sym at.refusal)
      ∙ ap (λ (es : List (List ℕ × Kind)). Ok (lookup es)) (sym at.kinds ∙ append-nil at.entries),
  at.keyed.own,
)

pub at_refusal : (comments : List GoodStyle) (names : BTreeMap (List ℕ) Kind) (named : NamedText) (texts all : List NamedText)
    (refusal : StylesRefusal) → AtTexts comments names (named ∷ texts) all
    → ((earlier : List (List ℕ)) (entries : List (List ℕ × Kind)) → Keyed names earlier entries
    → IsFirst (refusal_at comments earlier named) refusal) → IsRefused (own_names comments (Some all)) refusal
unfolding first_refusal
at_refusal comments names named texts all refusal at refused = by refusal (refused at.earlier at.entries at.keyed)
  where
    expected : (r : StylesRefusal) → refusal_at comments at.earlier named ≡ Some r
        → own_names comments (Some all) ≡ Err r
    expected r e = ap (checked comments all) (sym at.refusal
        ∙ ap (λ (o : Option StylesRefusal). option_or o (first_refusal comments (at.earlier ++ named.0 ∷ []) texts)) e)

    by : (r : StylesRefusal) → IsFirst (refusal_at comments at.earlier named) r
        → IsRefused (own_names comments (Some all)) r
    by NotToml e = expected NotToml e
    by BadShape e = expected BadShape e
    by (BadName name) e = expected (BadName name) e
    by (BadStyle name) e = expected (BadStyle name) e
    by (Repeated name) e = expected (Repeated name) e
    by (Memory m) e = tt

-- ---- one name

none_left : (o : Option Kind) → false ≡ is_some o → o ≡ None
none_left None e = refl
none_left (Some k) e = cc

-- a name without a refusal is added
pub added : (comments : List GoodStyle) (names new : BTreeMap (List ℕ) Kind) (earlier : List (List ℕ)) (entries : List (List ℕ × Kind))
    (name text key : List ℕ) (kind : Kind) → Keyed names earlier entries
    → false ≡ is_bad_name name → Some kind ≡ kind_named comments text → key ≡ str_to_ascii_lowercase name
    → (before : Option Kind) → false ≡ is_some before → before ≡ get (slice_cmp nat_cmp) names key
    → ((q : List ℕ) → get (slice_cmp nat_cmp) new q ≡ cond (is_at (slice_cmp nat_cmp key) q) (Some kind)
    (get (slice_cmp nat_cmp) names q))
    → new.entries ≡ insert_entry (slice_cmp nat_cmp) names.entries key kind
    → IsStrictlySortedBy (slice_cmp nat_cmp) (keys_of new.entries)
    → (k : Kind) × (kind_named comments text ≡ Some k) × (refusal_at comments earlier (name, text) ≡ None)
    × Keyed new (earlier ++ name ∷ []) (entries ++ (name, k) ∷ [])
added comments names new earlier entries name text key kind keyed good is lower before absent found updates inserted ordered =
    let none : get (slice_cmp nat_cmp) names (str_to_ascii_lowercase name) ≡ None =
    ap (get (slice_cmp nat_cmp) names) (sym lower) ∙ sym found ∙ none_left before absent in
    let unheld : list_any (λ other. str_eq_ignore_ascii_case other name) earlier ≡ false =
    sym (keyed.held name) ∙ ap is_some (sym (keyed.own.kinds name) ∙ none) in (
      kind,
      sym is,
      ap (λ (b : Bool). if b then Some (BadName name) else (if is_none (kind_named comments text) then Some (BadStyle name)
          else (if list_any (λ other. str_eq_ignore_ascii_case other name) earlier
          then Some (Repeated name) else None)))
          (sym good)
          ∙ ap (λ (o : Option Kind). if is_none o then Some (BadStyle name) else (if list_any
          (λ other. str_eq_ignore_ascii_case other name) earlier then Some (Repeated name) else None)) (sym is)
          ∙ ap (λ (b : Bool). if b then Some (Repeated name) else None) unheld,
      keyed_more names new earlier entries name kind keyed none
          (subst (λ (k : List ℕ). (q : List ℕ) → get (slice_cmp nat_cmp) new q ≡ cond (is_at (slice_cmp nat_cmp k) q)
          (Some kind) (get (slice_cmp nat_cmp) names q)) lower updates)
          (inserted ∙ ap (λ (k : List ℕ). insert_entry (slice_cmp nat_cmp) names.entries k kind) lower) ordered,
    )

-- ---- the same, at a place among texts as the code has them

module _ {X : Type 0} (comments : List GoodStyle) (seen : X → NamedText) where
  first_at : (xs : List X) (i : ℕ) (d : X) → i < length xs
      → map seen (drop i xs) ≡ seen (get_or xs i d) ∷ map seen (drop (i + 1) xs)
  first_at xs i d low =
      let here : drop i xs ≡ get_or xs i d ∷ drop (i + 1) xs = rw (add-one, drop-cons xs i d) refl in
      ap (map seen) here

  pub next_at : (names new : BTreeMap (List ℕ) Kind) (xs : List X) (i : ℕ) (d : X) → i < length xs
      → AtTexts comments names (map seen (drop i xs)) (map seen xs)
      → ((earlier : List (List ℕ)) (entries : List (List ℕ × Kind)) → Keyed names earlier entries
      → (kind : Kind) × (kind_named comments (seen (get_or xs i d)).1 ≡ Some kind)
      × (refusal_at comments earlier (seen (get_or xs i d)) ≡ None)
      × Keyed new (earlier ++ (seen (get_or xs i d)).0 ∷ []) (entries ++ ((seen (get_or xs i d)).0, kind) ∷ []))
      → AtTexts comments new (map seen (drop (i + 1) xs)) (map seen xs)
  next_at names new xs i d low at added =
      at_next comments names new (seen (get_or xs i d)) (map seen (drop (i + 1) xs)) (map seen xs)
      (subst (λ (ts : List NamedText). AtTexts comments names ts (map seen xs)) (first_at xs i d low) at) added

  pub refusal_here : (names : BTreeMap (List ℕ) Kind) (xs : List X) (i : ℕ) (d : X) (refusal : StylesRefusal)
      → i < length xs → AtTexts comments names (map seen (drop i xs)) (map seen xs)
      → ((earlier : List (List ℕ)) (entries : List (List ℕ × Kind)) → Keyed names earlier entries
      → IsFirst (refusal_at comments earlier (seen (get_or xs i d))) refusal)
      → IsRefused (own_names comments (Some (map seen xs))) refusal
  refusal_here names xs i d refusal low at refused =
      at_refusal comments names (seen (get_or xs i d)) (map seen (drop (i + 1) xs)) (map seen xs) refusal
      (subst (λ (ts : List NamedText). AtTexts comments names ts (map seen xs)) (first_at xs i d low) at) refused

  pub end_at : (names : BTreeMap (List ℕ) Kind) (xs : List X) (i : ℕ) → length xs ≤ i
      → AtTexts comments names (map seen (drop i xs)) (map seen xs)
      → (own : List ℕ → Option Kind) × (own_names comments (Some (map seen xs)) ≡ Ok own) × IsKeyed names own
  end_at names xs i past at = at_end comments names (map seen xs)
      (subst (λ (ts : List NamedText). AtTexts comments names ts (map seen xs)) (ap (map seen) (drop_all i xs past)) at)

  -- one more text behind those before, where it is a reference to what was read
  pub texts_pushed : (all : Option (List NamedText)) (before now : List X) (x : X) (value : Data) (others old : Members)
      → now ≡ before ++ x ∷ [] → Some (seen x).1 ≡ as_str value
      → old ≡ member (seen x).0 value others
      → all ≡ option_map (λ texts. map seen before ++ texts) (texts_in old)
      → all ≡ option_map (λ texts. map seen now ++ texts) (texts_in others)
  texts_pushed all before now x value others old pushed is entry e =
      texts_more all (map seen before) (seen x).0 (seen x).1 value others is
      (e ∙ ap (λ (ms : Members). option_map (λ texts. map seen before ++ texts) (texts_in ms)) entry)
      ∙ ap (λ (ts : List NamedText). option_map (λ texts. ts ++ texts) (texts_in others))
      (sym (ap (map seen) pushed ∙ map-append seen before (x ∷ [])))

-- ---- the answers for a document, and for a file

-- an answer of names by texts is one by the document that has them
pub refused_by : (expected other : Result (List ℕ → Option Kind) StylesRefusal) (refusal : StylesRefusal)
    → other ≡ expected
    → IsRefused expected refusal → IsRefused other refusal
refused_by expected other NotToml e is = e ∙ is
refused_by expected other BadShape e is = e ∙ is
refused_by expected other (BadName name) e is = e ∙ is
refused_by expected other (BadStyle name) e is = e ∙ is
refused_by expected other (Repeated name) e is = e ∙ is
refused_by expected other (Memory m) e is = tt

pub styles_none : (comments : List GoodStyle) → styles_of comments None ≡ Ok (lookup [])
unfolding styles_of
styles_none comments = refl

pub styles_some : (comments : List GoodStyle) (bytes : List ℕ)
    → styles_of comments (Some bytes) ≡ styles_in comments (read_document bytes)
unfolding styles_of
styles_some comments bytes = refl

pub no_keys : AreKeys []
unfolding IsStrictlySortedBy
no_keys = record { lowered = refl; ordered = tt }

-- the answer of a file is that of the texts of its document
pub answer_by : (comments : List GoodStyle) (bytes : List ℕ) (document : Members) (texts : Option (List NamedText))
    → IsUtf8 bytes
    → parse_document bytes ≡ Some document → texts_of_document document ≡ texts
    → styles_in comments (read_document bytes) ≡ own_names comments texts
answer_by comments bytes document texts utf8 parsed are =
    ap (styles_in comments) (read_if_utf8 parse_document bytes (Some document) utf8 parsed) ∙ ap (own_names comments) are

-- the same, of texts that the code lends
pub answer_lent : {X : Type 0} (comments : List GoodStyle) (seen : X → NamedText) (bytes : List ℕ) (document : Members) (texts lent : List X)
    → IsUtf8 bytes → parse_document bytes ≡ Some document → texts_of_document document ≡ Some (map seen texts)
    → lent ≡ texts → own_names comments (Some (map seen lent)) ≡ styles_in comments (read_document bytes)
answer_lent comments seen bytes document texts lent utf8 parsed are same =
    ap (λ xs. own_names comments (Some (map seen xs))) same
    ∙ sym (answer_by comments bytes document (Some (map seen texts)) utf8 parsed are)
