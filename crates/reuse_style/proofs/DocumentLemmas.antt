-- A document of styles is just what it says.
use Rattle.std.proofs.Common.{◌≡◌, Bool, true, false, cond, List, [], ◌∷◌, Option, Some, None, refl, ap, ◌∙◌, pos}
use Rattle.std.specs.Prelude.{◌&&◌, ◌↔◌, codes, option_and_then}
use Rattle.std.specs.Option.{option_map}
use Rattle.std.specs.Str.{bytes_eq}
use Rattle.std.proofs.lemmas.Bool.Decides.{Decides-int_eq}
use Rattle.std.proofs.lemmas.Option.{none-some}
use Rattle.std.proofs.lemmas.Slice.Eq.{bytes_eq-Decides}
use Rattle.toml.specs.Data.{Data, string, integer, float, boolean, datetime, array, table, Members, no_members, member}
use Rattle.toml.specs.Data.{as_table}
use Rattle.toml.proofs.Lines.{data_of_table}
use Rattle.reuse_style.specs.Documents.{is_version}
use Rattle.reuse_style.specs.StyleFile.{NamedText, texts_in, texts_of_value, texts_of_document}
use Rattle.reuse_style.specs.StyleFile.{text_members, document_of}

pub if_some : {X : Type 0} (b : Bool) (o : Option X) (x : X) → cond b o None ≡ Some x → (b ≡ true) × (o ≡ Some x)
if_some true o x e = (refl, e)
if_some false o x e = absurd (let no : ⊥ = cc in no)

pub both : (a b : Bool) → (a && b) ≡ true → (a ≡ true) × (b ≡ true)
both true b e = (refl, e)
both false b e = absurd (let no : ⊥ = cc in no)

-- what is found in a part of a value was found in the part that the value is made of
pub given_by : {A X : Type 0} (f : X → Option A) (make : X → Data) (part : Option X) (value : Data)
    → ((x : X) → part ≡ Some x → value ≡ make x) → (found : A) → option_and_then f part ≡ Some found
    → (x : X) × (value ≡ make x) × (f x ≡ Some found)
given_by f make None value is found e = absurd (none-some found e)
given_by f make (Some x) value is found e = (x, is x refl, e)

-- a table of texts
table_is : (ms : Members) (texts : List NamedText) → texts_in ms ≡ Some texts → ms ≡ text_members texts
unfolding texts_in
table_is no_members texts e = let none : [] ≡ texts = cc in ap text_members none
table_is (member name (string text) others) texts e = by (λ more is. table_is others more is) (texts_in others) refl e
  where
    by : ((more : List NamedText) → texts_in others ≡ Some more → others ≡ text_members more)
        → (o : Option (List NamedText)) → texts_in others ≡ o → option_map (λ ts. (name, text) ∷ ts) o ≡ Some texts
        → member name (string text) others ≡ text_members texts
    by rest None is f = absurd (let no : ⊥ = cc f in no)
    by rest (Some more) is f =
        let same : (name, text) ∷ more ≡ texts = cc f in
        ap (member name (string text)) (rest more is) ∙ ap text_members same
table_is (member name (integer z) others) texts e = absurd (let no : ⊥ = cc e in no)
table_is (member name (float x) others) texts e = absurd (let no : ⊥ = cc e in no)
table_is (member name (boolean b) others) texts e = absurd (let no : ⊥ = cc e in no)
table_is (member name (datetime d) others) texts e = absurd (let no : ⊥ = cc e in no)
table_is (member name (array ds) others) texts e = absurd (let no : ⊥ = cc e in no)
table_is (member name (table ms) others) texts e = absurd (let no : ⊥ = cc e in no)

texts_are : (texts : List NamedText) → texts_in (text_members texts) ≡ Some texts
unfolding texts_in
texts_are [] = refl
texts_are (named ∷ texts) = ap (option_map (λ ts. named ∷ ts)) (texts_are texts)

value_is : (value : Data) (texts : List NamedText) → texts_of_value value ≡ Some texts
    → value ≡ table (text_members texts)
value_is value texts e =
    let names = given_by texts_in table (as_table value) value (data_of_table value) texts e in
    names.1 ∙ ap table (table_is names.0 texts names.2)

pub version_is : (value : Data) → is_version value ≡ true → value ≡ integer (pos 1)
version_is (integer z) e = ap integer ((Decides-int_eq z (pos 1)).0 e)
version_is (string s) e = absurd (let no : ⊥ = cc e in no)
version_is (float x) e = absurd (let no : ⊥ = cc e in no)
version_is (boolean b) e = absurd (let no : ⊥ = cc e in no)
version_is (datetime d) e = absurd (let no : ⊥ = cc e in no)
version_is (array ds) e = absurd (let no : ⊥ = cc e in no)
version_is (table ms) e = absurd (let no : ⊥ = cc e in no)

stated : (document : Members) (texts : List NamedText) → texts_of_document document ≡ Some texts
    → document ≡ document_of texts
unfolding texts_of_document
stated no_members texts e = absurd (let no : ⊥ = cc e in no)
stated (member first names no_members) texts e = absurd (let no : ⊥ = cc e in no)
stated (member first names (member second version (member third value others))) texts e =
    absurd (let no : ⊥ = cc e in no)
stated (member first names (member second version no_members)) texts e =
    let c = if_some (bytes_eq first (codes "styles") && bytes_eq second (codes "version") && is_version version)
    (texts_of_value names) texts e in
    let p = both (bytes_eq first (codes "styles") && bytes_eq second (codes "version")) (is_version version) c.0 in
    let q = both (bytes_eq first (codes "styles")) (bytes_eq second (codes "version")) p.0 in
    let f : first ≡ codes "styles" = (bytes_eq-Decides first (codes "styles")).0 q.0 in
    let s : second ≡ codes "version" = (bytes_eq-Decides second (codes "version")).0 q.1 in
    let v = version_is version p.1 in
    let n = value_is names texts c.1 in
    λ i. member (f i) (n i) (member (s i) (v i) no_members)

pub documents_stated : (document : Members) (texts : List NamedText)
    → (texts_of_document document ≡ Some texts) ↔ (document ≡ document_of texts)
unfolding texts_of_document
documents_stated document texts = (stated document texts, λ e. ap texts_of_document e ∙ texts_are texts)
