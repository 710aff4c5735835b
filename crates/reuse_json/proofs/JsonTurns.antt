-- The items of an array and the members of an object, one after another, as `serde_json` reads them.
use Rattle.std.proofs.Common.{◌≡◌, ℕ, zero, suc, ◌-◌, ◌<◌, ◌≤◌, List, [], ◌∷◌, length, Option, Some, None, option_map}
use Rattle.std.proofs.Common.{option_and_then, refl, sym, ap, ◌∙◌, arith}
use Rattle.std.proofs.lemmas.Option.{none-some, same_Some}
use Rattle.json.specs.Token.{Token}
use Rattle.json.specs.Json as json
use Rattle.json.specs.Json.{Parse, parse_map, after_end_array, read_key, if_last, items, members, value}
use Rattle.json.specs.Lex.{tokens}
use Rattle.json.proofs.Grammar.{items_end, items_fail, items_more, members_end, members_fail, members_more}
use Rattle.json.proofs.Grammar.{members_no_key, value-begin_array, value-begin_object}
use Rattle.serde_json.specs.Data.{Data, array, object, Items, no_items, item, Members, no_members, put}
use Rattle.serde_json.specs.Read.{of_json, of_items, of_members, converted, read}

mapped : {A B : Type 0} (f : A → B) (o : Option A) (y : B) → option_map f o ≡ Some y
    → (x : A) × (o ≡ Some x) × (f x ≡ y)
mapped f None y e = absurd (none-some y e)
mapped f (Some x) y e = (x, refl, same_Some (f x) y e)

not_mapped : {A B : Type 0} (f : A → B) (o : Option A) → option_map f o ≡ None → o ≡ None
not_mapped f None e = refl
not_mapped f (Some x) e = absurd (none-some (f x) (sym e))

-- what was parsed, where the conversion gave a value
parsed : {A B : Type 0} (f : A → Option B) (o : Option (A × List Token)) (b : B) (r : List Token)
    → converted f o ≡ Some (b, r) → (a : A) × (o ≡ Some (a, r)) × (f a ≡ Some b)
parsed f None b r e = absurd (none-some (b, r) e)
parsed {A} {B} f (Some p) b r e =
    let m = mapped (λ x. (x, p.1)) (f p.0) (b, r) e in
    (p.0, ap (λ (q : B × List Token). Some (p.0, q.1)) m.2, m.1 ∙ ap (λ (q : B × List Token). Some q.0) m.2)

mapped_twice : {A B : Type 0} (f : A → B) (r : List Token) (o : Option A)
    → option_map (λ b. (b, r)) (option_map f o) ≡ parse_map f (option_map (λ a. (a, r)) o)
mapped_twice f r None = refl
mapped_twice f r (Some a) = refl

array_converted : (o : Option (json.Items × List Token))
    → converted of_json (parse_map json.array o) ≡ parse_map array (converted of_items o)
array_converted None = refl
array_converted (Some p) = mapped_twice array p.1 (of_items p.0)

object_converted : (o : Option (json.Members × List Token))
    → converted of_json (parse_map json.object o) ≡ parse_map object (converted (λ ms. of_members ms no_members) o)
object_converted None = refl
object_converted (Some p) = mapped_twice object p.1 (of_members p.0 no_members)

-- ---- a value that begins with a bracket or with a brace

module _ (depth : ℕ) (deep : 0 < depth) (ts s : List Token) where
  pub array_begun : ts ≡ Token.begin_array ∷ s → converted of_json (value depth ts)
      ≡ parse_map array (converted of_items (items (value (depth - 1)) (length s) s))
  array_begun first =
      ap (λ r. converted of_json (value depth r)) first ∙ ap (converted of_json) (value-begin_array depth s deep)
      ∙ array_converted (items (value (depth - 1)) (length s) s)

  pub object_begun : ts ≡ Token.begin_object ∷ s → converted of_json (value depth ts)
      ≡ parse_map object (converted (λ js. of_members js no_members) (members (value (depth - 1)) (length s) s))
  object_begun first =
      ap (λ r. converted of_json (value depth r)) first ∙ ap (converted of_json) (value-begin_object depth s deep)
      ∙ object_converted (members (value (depth - 1)) (length s) s)

-- ---- the next item

item_converted : (j : json.Json) (x : Option Data) (o : Option (json.Items × List Token)) → of_json j ≡ x
    → converted of_items (parse_map (json.item j) o) ≡ option_and_then
    (λ d. parse_map (item d) (converted of_items o)) x
item_converted j None None is = refl
item_converted j (Some d) None is = refl
item_converted j None (Some p) is = rw is refl
item_converted j (Some d) (Some p) is = rw is (mapped_twice (item d) p.1 (of_items p.0))

member_converted : (k : List ℕ) (j : json.Json) (x : Option Data) (old : Members)
    (o : Option (json.Members × List Token)) → of_json j ≡ x
    → converted (λ ms. of_members ms old) (parse_map (json.member k j) o) ≡ option_and_then
    (λ d. converted (λ ms. of_members ms (put k d old)) o) x
member_converted k j None old None is = refl
member_converted k j (Some d) old None is = refl
member_converted k j None old (Some p) is = rw is refl
member_converted k j (Some d) old (Some p) is = rw is refl

module _ (p : Parse json.Json) where
  pub item_read : (n : ℕ) (ts r : List Token) (d : Data) → 0 < n → after_end_array ts ≡ None
      → converted of_json (p ts) ≡ Some (d, r)
      → converted of_items (items p n ts) ≡ parse_map (item d) (converted of_items (items p (n - 1) r))
  item_read n ts r d some open_yet e =
      let j = parsed of_json (p ts) d r e in
      ap (converted of_items) (items_more p n ts r j.0 some open_yet j.1)
      ∙ item_converted j.0 (Some d) (items p (n - 1) r) j.2

  item_refused_at : (n : ℕ) (ts : List Token) (o : Option (json.Json × List Token)) → after_end_array ts ≡ None
      → p ts ≡ o → converted of_json o ≡ None → converted of_items (items p n ts) ≡ None
  unfolding items
  item_refused_at zero ts o open_yet is e = refl
  item_refused_at (suc n) ts None open_yet is e = ap (converted of_items) (items_fail p (suc n) ts open_yet is)
  item_refused_at (suc n) ts (Some q) open_yet is e =
      ap (converted of_items) (items_more p (suc n) ts q.1 q.0 (omega arith) open_yet is)
      ∙ item_converted q.0 None _ (not_mapped (λ d. (d, q.1)) (of_json q.0) e)

  pub item_refused : (n : ℕ) (ts : List Token) → after_end_array ts ≡ None → converted of_json (p ts) ≡ None
      → converted of_items (items p n ts) ≡ None
  item_refused n ts open_yet e = item_refused_at n ts (p ts) open_yet refl e

  pub items_over : (n : ℕ) (ts r : List Token) → length ts ≤ n → after_end_array ts ≡ Some r
      → converted of_items (items p n ts) ≡ Some (no_items, r)
  items_over n ts r enough e = ap (converted of_items) (items_end p n ts r enough e)

  -- ---- the next member, after those before

  module _ (old : Members) where
    pub member_read : (n : ℕ) (k : List ℕ) (ts s r : List Token) (d : Data) → 0 < n → read_key ts ≡ Some (Some k, s)
        → converted of_json (p s) ≡ Some (d, r)
        → converted (λ ms. of_members ms old) (members p n ts) ≡ converted (λ ms. of_members ms (put k d old))
        (members p (n - 1) r)
    member_read n k ts s r d some key e =
        let j = parsed of_json (p s) d r e in
        ap (converted (λ ms. of_members ms old)) (members_more p n k ts s r j.0 some key j.1)
        ∙ member_converted k j.0 (Some d) old (members p (n - 1) r) j.2

    member_refused_at : (n : ℕ) (k : List ℕ) (ts s : List Token) (o : Option (json.Json × List Token))
        → read_key ts ≡ Some (Some k, s) → p s ≡ o → converted of_json o ≡ None
        → converted (λ ms. of_members ms old) (members p n ts) ≡ None
    unfolding members
    member_refused_at zero k ts s o key is e = refl
    member_refused_at (suc n) k ts s None key is e =
        ap (converted (λ ms. of_members ms old)) (members_fail p (suc n) k ts s key is)
    member_refused_at (suc n) k ts s (Some q) key is e =
        ap (converted (λ ms. of_members ms old)) (members_more p (suc n) k ts s q.1 q.0 (omega arith) key is)
        ∙ member_converted k q.0 None old _ (not_mapped (λ d. (d, q.1)) (of_json q.0) e)

    pub member_refused : (n : ℕ) (k : List ℕ) (ts s : List Token) → read_key ts ≡ Some (Some k, s)
        → converted of_json (p s) ≡ None → converted (λ ms. of_members ms old) (members p n ts) ≡ None
    member_refused n k ts s key e = member_refused_at n k ts s (p s) key refl e

    pub key_refused : (n : ℕ) (ts : List Token) → read_key ts ≡ None
        → converted (λ ms. of_members ms old) (members p n ts) ≡ None
    key_refused n ts e = ap (converted (λ ms. of_members ms old)) (members_no_key p n ts e)

    pub members_over : (n : ℕ) (ts r : List Token) → length ts ≤ n → read_key ts ≡ Some (None, r)
        → converted (λ ms. of_members ms old) (members p n ts) ≡ Some (old, r)
    members_over n ts r enough e = ap (converted (λ ms. of_members ms old)) (members_end p n ts r enough e)

-- ---- the whole text

abbrev whole : Option (json.Json × List Token) → Option Data
whole o = option_and_then of_json (option_and_then (λ p. if_last p.0 p.1) o)

pub whole_read : (text : List ℕ) (d : Data) → converted of_json (value 127 (tokens text)) ≡ Some (d, [])
    → read text ≡ Some d
whole_read text d e = let j = parsed of_json (value 127 (tokens text)) d [] e in ap whole j.1 ∙ j.2

pub whole_and_more : (text : List ℕ) (d : Data) (t : Token) (r : List Token)
    → converted of_json (value 127 (tokens text)) ≡ Some (d, t ∷ r) → read text ≡ None
whole_and_more text d t r e = ap whole (parsed of_json (value 127 (tokens text)) d (t ∷ r) e).1

refused_of : (o : Option (json.Json × List Token)) → converted of_json o ≡ None → whole o ≡ None
refused_of None e = refl
refused_of (Some (j, [])) e = not_mapped (λ d. (d, [])) (of_json j) e
refused_of (Some (j, t ∷ r)) e = refl

pub whole_refused : (text : List ℕ) → converted of_json (value 127 (tokens text)) ≡ None → read text ≡ None
whole_refused text e = refused_of (value 127 (tokens text)) e

some_of : (o : Option (json.Json × List Token)) (d : Data) → whole o ≡ Some d → converted of_json o ≡ Some (d, [])
some_of None d e = absurd (none-some d e)
some_of (Some (j, [])) d e = ap (option_map (λ x. (x, []))) e
some_of (Some (j, t ∷ r)) d e = absurd (none-some d e)

pub whole_was : (text : List ℕ) (d : Data) → read text ≡ Some d
    → converted of_json (value 127 (tokens text)) ≡ Some (d, [])
whole_was text d e = some_of (value 127 (tokens text)) d e
