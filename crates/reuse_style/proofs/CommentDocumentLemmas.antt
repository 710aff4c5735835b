-- A document of comments is just what it says.
use Rattle.std.proofs.Common.{◌≡◌, ℕ, Bool, true, false, cond, List, [], ◌∷◌, Option, Some, None}
use Rattle.std.proofs.Common.{pos, refl, sym, ap, ◌∙◌}
use Rattle.std.specs.Prelude.{◌&&◌, ◌↔◌, codes, option_and_then}
use Rattle.std.specs.Option.{option_map}
use Rattle.std.specs.Str.{bytes_eq}
use Rattle.std.proofs.lemmas.Slice.Eq.{bytes_eq-Decides}
use Rattle.toml.specs.Data.{Data, string, integer, float, boolean, datetime, array, table}
use Rattle.toml.specs.Data.{Items, no_items, item, Members, no_members, member, as_array, as_table}
use Rattle.toml.proofs.Lines.{data_of_array, data_of_table}
use Rattle.reuse_style.specs.Documents.{is_version}
use Rattle.reuse_style.specs.CommentFile.{CommentTexts, NamedComments, StatedComments, style_members, named_members}
use Rattle.reuse_style.specs.CommentFile.{comments_data, comments_document, texts_of_style, texts_of_data}
use Rattle.reuse_style.specs.CommentFile.{comments_in_table, comments_of_data, comments_of_document}
use Rattle.reuse_style.specs.CommentFile.{text_items, with_texts, texts_of_items, texts_of_array, texts_before}
use Rattle.reuse_style.specs.CommentFile.{take_texts, is_version_alone, states_something}
use Rattle.reuse_style.specs.RuleTexts.{rules_data, rules_of_data}
use Rattle.reuse_style.specs.Taken.{with_text, take_text, with_value, take_value, is_done}
use Rattle.reuse_style.proofs.TextLemmas.{taken, takes, passes, done}
use Rattle.reuse_style.proofs.TakenLemmas.{begins, taken_value, takes_value, passes_value}
use Rattle.reuse_style.proofs.RuleDocumentLemmas.{rules_are, rules_of_texts}
use Rattle.reuse_style.proofs.DocumentLemmas.{if_some, both, given_by, version_is}

-- ---- the list of texts of a key

passes_list : (key other : List ℕ) (texts : Option (List (List ℕ))) (others : Members) → bytes_eq other key ≡ false
    → begins key others ≡ false → begins key (with_texts other texts others) ≡ false
unfolding begins
passes_list key other None others differs behind = behind
passes_list key other (Some texts) others differs behind = differs

items_are : (items : Items) (texts : List (List ℕ)) → texts_of_items items ≡ Some texts → items ≡ text_items texts
unfolding texts_of_items
items_are no_items texts e = let none : [] ≡ texts = cc e in ap text_items none
items_are (item (string text) others) texts e = by (λ more is. items_are others more is) (texts_of_items others) refl e
  where
    by : ((more : List (List ℕ)) → texts_of_items others ≡ Some more → others ≡ text_items more)
        → (o : Option (List (List ℕ))) → texts_of_items others ≡ o → option_map (λ ts. text ∷ ts) o ≡ Some texts
        → item (string text) others ≡ text_items texts
    by rest None is f = absurd (let no : ⊥ = cc f in no)
    by rest (Some more) is f =
        let same : text ∷ more ≡ texts = cc f in
        ap (item (string text)) (rest more is) ∙ ap text_items same
items_are (item (integer z) others) texts e = absurd (let no : ⊥ = cc e in no)
items_are (item (float x) others) texts e = absurd (let no : ⊥ = cc e in no)
items_are (item (boolean b) others) texts e = absurd (let no : ⊥ = cc e in no)
items_are (item (datetime d) others) texts e = absurd (let no : ⊥ = cc e in no)
items_are (item (array ds) others) texts e = absurd (let no : ⊥ = cc e in no)
items_are (item (table ms) others) texts e = absurd (let no : ⊥ = cc e in no)

items_of_texts : (texts : List (List ℕ)) → texts_of_items (text_items texts) ≡ Some texts
unfolding texts_of_items
items_of_texts [] = refl
items_of_texts (text ∷ texts) = ap (option_map (λ ts. text ∷ ts)) (items_of_texts texts)

array_is : (value : Data) (texts : List (List ℕ)) → texts_of_array value ≡ Some texts
    → value ≡ array (text_items texts)
array_is value texts e =
    let items = given_by texts_of_items array (as_array value) value (data_of_array value) texts e in
    items.1 ∙ ap array (items_are items.0 texts items.2)

-- a list that is taken off stood in front
taken_list : (key : List ℕ) (ms : Members) → ms ≡ with_texts key (take_texts key ms).0 (take_texts key ms).1
unfolding take_texts
taken_list key no_members = refl
taken_list key (member name value others) = by (bytes_eq name key) refl (texts_of_array value) refl
  where
    all : Members
    all = member name value others

    of : Option (List (List ℕ)) → Option (List (List ℕ)) × Members
    of o = texts_before o all others

    by : (b : Bool) → bytes_eq name key ≡ b → (o : Option (List (List ℕ))) → texts_of_array value ≡ o
        → member name value others ≡ with_texts key (of (cond b o None)).0 (of (cond b o None)).1
    by false b o is = refl
    by true b None is = refl
    by true b (Some texts) is =
        ap (λ (k : List ℕ). member k value others) ((bytes_eq-Decides name key).0 b)
        ∙ ap (λ (v : Data). member key v others) (array_is value texts is)

-- a list that stands in front is taken off
no_list_taken : (key : List ℕ) (ms : Members) → begins key ms ≡ false → take_texts key ms ≡ (None, ms)
unfolding take_texts begins
no_list_taken key no_members e = refl
no_list_taken key (member name value others) e =
    ap (λ (b : Bool). texts_before (cond b (texts_of_array value) None) (member name value others) others) e

takes_list : (key : List ℕ) (texts : Option (List (List ℕ))) (others : Members) → begins key others ≡ false
    → take_texts key (with_texts key texts others) ≡ (texts, others)
unfolding take_texts
takes_list key None others e = no_list_taken key others e
takes_list key (Some texts) others e =
    let all = member key (array (text_items texts)) others in
    ap (λ (b : Bool). texts_before (cond b (texts_of_items (text_items texts)) None) all others)
    ((bytes_eq-Decides key key).1 refl)
    ∙ ap (λ (o : Option (List (List ℕ))). texts_before o all others) (items_of_texts texts)

-- ---- the texts of a style

style_is : (ms : Members) (texts : CommentTexts) → texts_of_style ms ≡ Some texts → ms ≡ style_members texts
unfolding texts_of_style
style_is ms texts e =
    let closer = take_text (codes "close") ms in
    let first_lines = take_texts (codes "first-lines") closer.1 in
    let front_matter = take_texts (codes "front-matter") first_lines.1 in
    let last_line = take_text (codes "last") front_matter.1 in
    let lead = take_text (codes "lead") last_line.1 in
    let marker = take_text (codes "line") lead.1 in
    let line_lead = take_text (codes "line-lead") marker.1 in
    let middle = take_text (codes "middle") line_lead.1 in
    let opener = take_text (codes "open") middle.1 in
    let all : CommentTexts = record {
      marker = marker.0;
      line_lead = line_lead.0;
      opener = opener.0;
      closer = closer.0;
      middle = middle.0;
      lead = lead.0;
      last_line = last_line.0;
      first_lines = first_lines.0;
      front_matter = front_matter.0;
    } in
    let c = if_some (is_done opener.1) (Some all) texts e in
    let same : all ≡ texts = cc c.1 in
    taken (codes "close") ms
    ∙ ap (with_text (codes "close") closer.0) (taken_list (codes "first-lines") closer.1
    ∙ ap (with_texts (codes "first-lines") first_lines.0) (taken_list (codes "front-matter") first_lines.1
    ∙ ap (with_texts (codes "front-matter") front_matter.0) (taken (codes "last") front_matter.1
    ∙ ap (with_text (codes "last") last_line.0) (taken (codes "lead") last_line.1
    ∙ ap (with_text (codes "lead") lead.0) (taken (codes "line") lead.1
    ∙ ap (with_text (codes "line") marker.0) (taken (codes "line-lead") marker.1
    ∙ ap (with_text (codes "line-lead") line_lead.0) (taken (codes "middle") line_lead.1
    ∙ ap (with_text (codes "middle") middle.0) (taken (codes "open") middle.1
    ∙ ap (with_text (codes "open") opener.0) (done opener.1 c.0)))))))))
    ∙ ap style_members same

style_of_members : (texts : CommentTexts) → texts_of_style (style_members texts) ≡ Some texts
unfolding texts_of_style begins
style_of_members texts =
    let m1 = with_text (codes "open") texts.opener no_members in
    let m2 = with_text (codes "middle") texts.middle m1 in
    let m3 = with_text (codes "line-lead") texts.line_lead m2 in
    let m4 = with_text (codes "line") texts.marker m3 in
    let m5 = with_text (codes "lead") texts.lead m4 in
    let m6 = with_text (codes "last") texts.last_line m5 in
    let e1 = takes (codes "open") texts.opener no_members refl in
    let b2 = passes (codes "middle") (codes "open") texts.opener no_members refl refl in
    let e2 = takes (codes "middle") texts.middle m1 b2 in
    let b3 = passes (codes "line-lead") (codes "middle") texts.middle m1 refl
    (passes (codes "line-lead") (codes "open") texts.opener no_members refl refl) in
    let e3 = takes (codes "line-lead") texts.line_lead m2 b3 in
    let b4 = passes (codes "line") (codes "line-lead") texts.line_lead m2 refl
    (passes (codes "line") (codes "middle") texts.middle m1 refl
    (passes (codes "line") (codes "open") texts.opener no_members refl refl)) in
    let e4 = takes (codes "line") texts.marker m3 b4 in
    let b5 = passes (codes "lead") (codes "line") texts.marker m3 refl
    (passes (codes "lead") (codes "line-lead") texts.line_lead m2 refl
    (passes (codes "lead") (codes "middle") texts.middle m1 refl
    (passes (codes "lead") (codes "open") texts.opener no_members refl refl))) in
    let e5 = takes (codes "lead") texts.lead m4 b5 in
    let b6 = passes (codes "last") (codes "lead") texts.lead m4 refl
    (passes (codes "last") (codes "line") texts.marker m3 refl
    (passes (codes "last") (codes "line-lead") texts.line_lead m2 refl
    (passes (codes "last") (codes "middle") texts.middle m1 refl
    (passes (codes "last") (codes "open") texts.opener no_members refl refl)))) in
    let e6 = takes (codes "last") texts.last_line m5 b6 in
    let bm = passes (codes "front-matter") (codes "last") texts.last_line m5 refl
    (passes (codes "front-matter") (codes "lead") texts.lead m4 refl
    (passes (codes "front-matter") (codes "line") texts.marker m3 refl
    (passes (codes "front-matter") (codes "line-lead") texts.line_lead m2 refl
    (passes (codes "front-matter") (codes "middle") texts.middle m1 refl
    (passes (codes "front-matter") (codes "open") texts.opener no_members refl refl))))) in
    let m7 = with_texts (codes "front-matter") texts.front_matter m6 in
    let em = takes_list (codes "front-matter") texts.front_matter m6 bm in
    let bf = passes_list (codes "first-lines") (codes "front-matter") texts.front_matter m6 refl
    (passes (codes "first-lines") (codes "last") texts.last_line m5 refl
    (passes (codes "first-lines") (codes "lead") texts.lead m4 refl
    (passes (codes "first-lines") (codes "line") texts.marker m3 refl
    (passes (codes "first-lines") (codes "line-lead") texts.line_lead m2 refl
    (passes (codes "first-lines") (codes "middle") texts.middle m1 refl
    (passes (codes "first-lines") (codes "open") texts.opener no_members refl refl)))))) in
    let m8 = with_texts (codes "first-lines") texts.first_lines m7 in
    let ef = takes_list (codes "first-lines") texts.first_lines m7 bf in
    let bc = passes_list (codes "close") (codes "first-lines") texts.first_lines m7 refl
    (passes_list (codes "close") (codes "front-matter") texts.front_matter m6 refl
    (passes (codes "close") (codes "last") texts.last_line m5 refl
    (passes (codes "close") (codes "lead") texts.lead m4 refl
    (passes (codes "close") (codes "line") texts.marker m3 refl
    (passes (codes "close") (codes "line-lead") texts.line_lead m2 refl
    (passes (codes "close") (codes "middle") texts.middle m1 refl
    (passes (codes "close") (codes "open") texts.opener no_members refl refl))))))) in
    let ec = takes (codes "close") texts.closer m8 bc in
    rw (ec, ef, em, e6, e5, e4, e3, e2, e1) refl

-- texts that are taken off one after another, where nothing is left, are a style's
pub style_texts : (ms m1 m2 m3 m4 m5 m6 m7 m8 m9 : Members)
    (closer last_line lead marker line_lead middle opener : Option (List ℕ))
    (first_lines front_matter : Option (List (List ℕ)))
    → (closer, m1) ≡ take_text (codes "close") ms → (first_lines, m2) ≡ take_texts (codes "first-lines") m1
    → (front_matter, m3) ≡ take_texts (codes "front-matter") m2 → (last_line, m4) ≡ take_text (codes "last") m3
    → (lead, m5) ≡ take_text (codes "lead") m4 → (marker, m6) ≡ take_text (codes "line") m5
    → (line_lead, m7) ≡ take_text (codes "line-lead") m6 → (middle, m8) ≡ take_text (codes "middle") m7
    → (opener, m9) ≡ take_text (codes "open") m8 → is_done m9 ≡ true
    → Some (record {
      marker = marker;
      line_lead = line_lead;
      opener = opener;
      closer = closer;
      middle = middle;
      lead = lead;
      last_line = last_line;
      first_lines = first_lines;
      front_matter = front_matter;
    }) ≡ texts_of_style ms
unfolding texts_of_style
style_texts ms m1 m2 m3 m4 m5 m6 m7 m8 m9 closer last_line lead marker line_lead middle opener first_lines
    front_matter e1 e2 e3 e4 e5 e6 e7 e8 e9 none =
    rw (sym e1, sym e2, sym e3, sym e4, sym e5, sym e6, sym e7, sym e8, sym e9, none) refl

-- ---- the document

table_is : (ms : Members) (named : List NamedComments) → comments_in_table ms ≡ Some named → ms ≡ named_members named
unfolding comments_in_table
table_is no_members named e = let none : [] ≡ named = cc in ap named_members none
table_is (member name value others) named e =
    by (λ more is. table_is others more is) (texts_of_data value) refl (comments_in_table others) refl e
  where
    value_is : (v : Data) (texts : CommentTexts) → texts_of_data v ≡ Some texts → v ≡ table (style_members texts)
    value_is v texts e =
        let style = given_by texts_of_style table (as_table v) v (data_of_table v) texts e in
        style.1 ∙ ap table (style_is style.0 texts style.2)

    by : ((more : List NamedComments) → comments_in_table others ≡ Some more → others ≡ named_members more)
        → (t : Option CommentTexts) → texts_of_data value ≡ t
        → (o : Option (List NamedComments)) → comments_in_table others ≡ o
        → option_and_then (λ texts. option_map (λ ns. (name, texts) ∷ ns) o) t ≡ Some named
        → member name value others ≡ named_members named
    by rest None is o are f = absurd (let no : ⊥ = cc f in no)
    by rest (Some texts) is None are f = absurd (let no : ⊥ = cc f in no)
    by rest (Some texts) is (Some more) are f =
        let same : (name, texts) ∷ more ≡ named = cc f in
        ap (λ (v : Data). member name v others) (value_is value texts is)
        ∙ ap (member name (table (style_members texts))) (rest more are) ∙ ap named_members same

table_of_named : (named : List NamedComments) → comments_in_table (named_members named) ≡ Some named
unfolding comments_in_table
table_of_named [] = refl
table_of_named (style ∷ named) =
    ap (option_and_then (λ texts. option_map (λ ns. (style.0, texts) ∷ ns) (comments_in_table (named_members named))))
    (style_of_members style.1)
    ∙ ap (option_map (λ ns. style ∷ ns)) (table_of_named named)

data_is : (value : Data) (named : List NamedComments) → comments_of_data value ≡ Some named
    → value ≡ table (named_members named)
data_is value named e =
    let styles = given_by comments_in_table table (as_table value) value (data_of_table value) named e in
    styles.1 ∙ ap table (table_is styles.0 named styles.2)

-- members that are the version alone are just that
version_alone : (ms : Members) → is_version_alone ms ≡ true
    → ms ≡ member (codes "version") (integer (pos 1)) no_members
version_alone no_members e = absurd (let no : ⊥ = cc e in no)
version_alone (member name value (member other next others)) e = absurd (let no : ⊥ = cc e in no)
version_alone (member name value no_members) e =
    let p = both (bytes_eq name (codes "version")) (is_version value) e in
    let n : name ≡ codes "version" = (bytes_eq-Decides name (codes "version")).0 p.0 in
    let v = version_is value p.1 in
    λ i. member (n i) (v i) no_members

-- the members of what is stated, one key after another
stated : (document : Members) (about : StatedComments) → comments_of_document document ≡ Some about
    → (document ≡ comments_document about) × (states_something about ≡ true)
unfolding comments_of_document
stated document about e =
    let styles = take_value comments_of_data (codes "comments") document in
    let rules = take_value rules_of_data (codes "rules") styles.1 in
    let all : StatedComments = record { styles = styles.0; rules = rules.0 } in
    let c = if_some (is_version_alone rules.1 && states_something all) (Some all) about e in
    let p = both (is_version_alone rules.1) (states_something all) c.0 in
    let same : all ≡ about = cc c.1 in (
      taken_value comments_of_data comments_data data_is (codes "comments") document
          ∙ ap (with_value comments_data (codes "comments") styles.0)
          (taken_value rules_of_data rules_data rules_are (codes "rules") styles.1
          ∙ ap (with_value rules_data (codes "rules") rules.0) (version_alone rules.1 p.0))
          ∙ ap comments_document same,
      ap states_something (sym same) ∙ p.1,
    )

stating : (about : StatedComments) → states_something about ≡ true
    → comments_of_document (comments_document about) ≡ Some about
unfolding comments_of_document begins
stating about e =
    let version = member (codes "version") (integer (pos 1)) no_members in
    let rules = with_value rules_data (codes "rules") about.rules version in
    let r = takes_value rules_of_data rules_data rules_of_texts (codes "rules") about.rules version refl in
    let b = passes_value rules_data (codes "comments") (codes "rules") about.rules version refl refl in
    let c = takes_value comments_of_data comments_data table_of_named (codes "comments") about.styles rules b in
    rw (c, r, e) refl

pub comments_stated : (document : Members) (about : StatedComments) → (comments_of_document document ≡ Some about)
    ↔ ((document ≡ comments_document about) × (states_something about ≡ true))
comments_stated document about =
    (stated document about, λ e. ap comments_of_document e.0 ∙ stating about e.1)
