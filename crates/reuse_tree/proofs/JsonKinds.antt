-- A value that doesn't begin with a bracket is no array, and one that doesn't begin with a brace is no object.
use Rattle.std.proofs.Common.{◌≡◌, ℕ, ◌<◌, length, List, [], ◌∷◌, Option, Some, None, option_map, ◌⊎◌, inl, inr, refl}
use Rattle.std.proofs.Common.{sym, ap, ◌∙◌, arith}
use Rattle.std.specs.Prelude.{MatchOption, is_some, true}
use Rattle.std.proofs.lemmas.Bool.{false≢true}
use Rattle.std.proofs.lemmas.Option.{none-some, same_Some}
use Rattle.json.specs.Token.{Token}
use Rattle.json.specs.Json.{parse_map, members, value}
use Rattle.json.specs.Lex.{tokens}
use Rattle.json.specs.Reads.{token_of}
use Rattle.json.specs.declared.token.Token.{Token as Read}
use Rattle.json.specs.declared.token.Token.TheVariants.{BeginObject, EndObject, BeginArray, EndArray, Key, String}
use Rattle.json.specs.declared.token.Token.TheVariants.{Number, Bool, Null, Bad}
use Rattle.json.proofs.Grammar.{value_is}
use Rattle.serde_json.specs.Data.{Num, Data, null, boolean, number, string, array, object, Items, Members, no_members}
use Rattle.serde_json.specs.Find.{as_array, as_object}
use Rattle.serde_json.specs.Read.{of_json, of_members, converted, number_of, read}
use Rattle.reuse_json.proofs.JsonTurns.{array_begun, object_begun, whole_and_more, whole_read, whole_refused}
use Rattle.reuse_json.proofs.JsonTurns.{whole_was}

-- the first value of a pair that was read
first_is : (x d : Data) (s r : List Token) → ◌≡◌ {A = Option (Data × List Token)} (Some (x, s)) (Some (d, r)) → x ≡ d
first_is x d s r e = ap (λ (q : Data × List Token). q.0) (same_Some (x, s) (d, r) e)

number_is : (o : Option Num) (d : Data) (s r : List Token)
    → option_map {U = Data × List Token} (λ x. (x, s)) (option_map number o) ≡ Some (d, r) → (n : Num) × (number n ≡ d)
number_is None d s r e = absurd (none-some (d, r) e)
number_is (Some n) d s r e = (n, first_is (number n) d s r e)

array_is : (o : Option (Items × List Token)) (d : Data) (r : List Token) → parse_map array o ≡ Some (d, r)
    → (ds : Items) × (array ds ≡ d)
array_is None d r e = absurd (none-some (d, r) e)
array_is (Some p) d r e = (p.0, first_is (array p.0) d p.1 r e)

object_is : (o : Option (Members × List Token)) (d : Data) (r : List Token) → parse_map object o ≡ Some (d, r)
    → (ms : Members) × (object ms ≡ d)
object_is None d r e = absurd (none-some (d, r) e)
object_is (Some p) d r e = (p.0, first_is (object p.0) d p.1 r e)

module _ (depth : ℕ) (deep : 0 < depth) (s r : List Token) (d : Data) where
  -- a value of a token that is one by itself
  alone : (t : Token) (x : Data) → converted of_json (value depth (t ∷ s)) ≡ Some (x, s)
      → converted of_json (value depth (t ∷ s)) ≡ Some (d, r) → x ≡ d
  alone t x is e = first_is x d s r (sym is ∙ e)

  refused : {A : Type 0} (t : Token) → converted of_json (value depth (t ∷ s)) ≡ None
      → converted of_json (value depth (t ∷ s)) ≡ Some (d, r) → A
  refused t is e = absurd (none-some (d, r) (sym is ∙ e))

  -- it begins with a bracket or is no array, and with a brace or is no object
  kinds : (t : Read) → converted of_json (value depth (token_of t ∷ s)) ≡ Some (d, r)
      → ((t ≡ BeginArray) ⊎ (as_array d ≡ None)) × ((t ≡ BeginObject) ⊎ (as_object d ≡ None))
  kinds BeginArray e =
      let o = array_is _ d r (sym (array_begun depth deep _ s refl) ∙ e) in (inl refl, inr (sym (ap as_object o.1)))
  kinds BeginObject e =
      let o = object_is _ d r (sym (object_begun depth deep _ s refl) ∙ e) in (inr (sym (ap as_array o.1)), inl refl)
  kinds EndObject e = refused Token.end_object (ap (converted of_json) (value_is depth (Token.end_object ∷ s))) e
  kinds EndArray e = refused Token.end_array (ap (converted of_json) (value_is depth (Token.end_array ∷ s))) e
  kinds (Key k) e = refused (Token.key k.now) (ap (converted of_json) (value_is depth (Token.key k.now ∷ s))) e
  kinds Bad e = refused Token.bad (ap (converted of_json) (value_is depth (Token.bad ∷ s))) e
  kinds (String text) e =
      let is = alone (Token.string text.now) (string text.now)
      (ap (converted of_json) (value_is depth (Token.string text.now ∷ s))) e in
      (inr (sym (ap as_array is)), inr (sym (ap as_object is)))
  kinds (Number text) e =
      let n = number_is (number_of text.now) d s r
      (sym (ap (converted of_json) (value_is depth (Token.number text.now ∷ s))) ∙ e) in
      (inr (sym (ap as_array n.1)), inr (sym (ap as_object n.1)))
  kinds (Bool b) e =
      let is =
      alone (Token.boolean b) (boolean b) (ap (converted of_json) (value_is depth (Token.boolean b ∷ s))) e in
      (inr (sym (ap as_array is)), inr (sym (ap as_object is)))
  kinds Null e =
      let is = alone Token.null null (ap (converted of_json) (value_is depth (Token.null ∷ s))) e in
      (inr (sym (ap as_array is)), inr (sym (ap as_object is)))

  pub no_array : (t : Read) → (t ≡ BeginArray → ⊥) → converted of_json (value depth (token_of t ∷ s)) ≡ Some (d, r)
      → as_array d ≡ None
  no_array t other e = elim (kinds t e).0 [
    | inl is ↦ absurd (other is)
    | inr none ↦ none
  ]

  pub no_object : (t : Read) → (t ≡ BeginObject → ⊥) → converted of_json (value depth (token_of t ∷ s)) ≡ Some (d, r)
      → as_object d ≡ None
  no_object t other e = elim (kinds t e).1 [
    | inl is ↦ absurd (other is)
    | inr none ↦ none
  ]

-- ---- a text that is an object, or none

module _ (text : List ℕ) (s : List Token) where
  object_text : tokens text ≡ Token.begin_object ∷ s → converted of_json (value 127 (tokens text)) ≡ parse_map object
      (converted (λ js. of_members js no_members) (members (value 126) (length s) s))
  object_text first = object_begun 127 (omega arith) (tokens text) s first

  pub object_read : (ms : Members) → tokens text ≡ Token.begin_object ∷ s → converted (λ js. of_members js no_members)
      (members (value 126) (length s) s) ≡ Some (ms, []) → read text ≡ Some (object ms)
  object_read ms first e = whole_read text (object ms) (object_text first ∙ ap (parse_map object) e)

  pub object_and_more : (ms : Members) (t : Token) (r : List Token) → tokens text ≡ Token.begin_object ∷ s → converted
      (λ js. of_members js no_members) (members (value 126) (length s) s) ≡ Some (ms, t ∷ r) → read text ≡ None
  object_and_more ms t r first e = whole_and_more text (object ms) t r (object_text first ∙ ap (parse_map object) e)

  pub object_refused : tokens text ≡ Token.begin_object ∷ s
      → converted (λ js. of_members js no_members) (members (value 126) (length s) s) ≡ None → read text ≡ None
  object_refused first e = whole_refused text (object_text first ∙ ap (parse_map object) e)

  pub other_text : (t : Read) (ms : Members) → tokens text ≡ token_of t ∷ s → (t ≡ BeginObject → ⊥)
      → read text ≡ Some (object ms) → ⊥
  other_text t ms first other e =
      let was : converted of_json (value 127 (token_of t ∷ s)) ≡ Some (object ms, []) =
      sym (ap (λ ts. converted of_json (value 127 ts)) first) ∙ whole_was text (object ms) e in
      none-some ms (sym (no_object 127 (omega arith) s [] (object ms) t other was))

pub empty_text : (text : List ℕ) → tokens text ≡ [] → read text ≡ None
empty_text text e = whole_refused text (ap (converted of_json) (ap (value 127) e ∙ value_is 127 []))

-- a token is left
pub more_left : (o : Option Read) (old new : List Token) → MatchOption o ((old ≡ []) × (new ≡ []))
    (λ t. old ≡ token_of t ∷ new) → is_some o ≡ true → (t : Token) × (old ≡ t ∷ new)
more_left None old new is some = absurd (false≢true some)
more_left (Some t) old new is some = (token_of t, is)
