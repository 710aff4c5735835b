-- What a value was, where a part of it was read.
use Rattle.std.proofs.Common.{◌≡◌, ℕ, ◌+◌, ◌^◌, ◌==◌, ◌<◌, ◌≤◌, length, get_or, drop, Bool, true, false, cond, ◌⊎◌, inl}
use Rattle.std.proofs.Common.{inr, List, [], ◌∷◌, ◌++◌, map, Option, Some, None, option_and_then, refl, sym, ap, ap₂}
use Rattle.std.proofs.Common.{◌∙◌, subst, lt-ltb, ltb-true, eqb-true, append_assoc, append-nil, Result, Ok, Err}
use Rattle.std.specs.Prelude.{IfOk}
use Rattle.std.specs.List.{AllByRecursion}
use Rattle.std.proofs.lemmas.List.{drop_more, drop_all}
use Rattle.std.proofs.lemmas.Option.{none-some, same_Some, cond_some}
use Rattle.std.specs.Str.{bytes_eq}
use Rattle.std.proofs.lemmas.Slice.Eq.{bytes_eq-Decides}
use Rattle.serde_json.specs.Data.{Num, unsigned, Data, number, string, array, object, Items, no_items, item, Members}
use Rattle.serde_json.specs.Data.{no_members, member}
use Rattle.serde_json.specs.Find.{as_array, as_object, as_str, as_u64}
use Rattle.serde_json.specs.View.{view, items_of, items_view}
use Rattle.serde_json.specs.declared.value.Value.{Value}
use Rattle.reuse_json.specs.declared.fault.DecodeFault.{DecodeFault}
use Rattle.reuse_json.specs.declared.fault.DecodeFault.TheVariants.{NotGood, Memory}
use Rattle.reuse_json.specs.Decoded.{Fails, Gives, IsAnswer}
use Rattle.reuse_json.specs.Json.{count, counts, IsJson}
use Rattle.reuse_json.specs.JsonReading.{first_member, field_in, if_none_left, number_in, small_in, smalls_in}
use Rattle.reuse_json.specs.JsonReading.{read_items, format_of_number, format_in, with_front}
use Rattle.reuse_json.specs.Format.{format_number}

-- the two steps of a bind that gave a value
pub bind_some : {A B : Type 0} (f : A → Option B) (o : Option A) (y : B) → option_and_then f o ≡ Some y
    → (x : A) × (o ≡ Some x) × (f x ≡ Some y)
bind_some f None y e = absurd (none-some y e)
bind_some f (Some x) y e = (x, refl, e)

-- either the test led to the value, or it failed and the rest did
pub either : {A : Type 0} (b : Bool) (x y : A) (rest : Option A) → cond b (Some x) rest ≡ Some y
    → ((b ≡ true) × (x ≡ y)) ⊎ (rest ≡ Some y)
either true x y rest e = inl (refl, same_Some x y e)
either false x y rest e = inr e

-- a name that is that of a word
pub named : {A : Type 0} (text : A → List ℕ) (name : List ℕ) (v w : A)
    → (bytes_eq name (text v) ≡ true) × (v ≡ w) → name ≡ text w
named text name v w h = (bytes_eq-Decides name (text v)).0 h.0 ∙ ap text h.1

pub first_member_found : (key : List ℕ) (ms : Members) (p : Data × Members) → first_member key ms ≡ Some p
    → ms ≡ member key p.0 p.1
first_member_found key no_members p e = absurd (none-some p e)
first_member_found key (member k d rest) p e =
    let t = cond_some _ _ _ e in
    let same : k ≡ key = (bytes_eq-Decides k key).0 t.0 in
    ap (λ l. member l d rest) same ∙ ap (λ (q : Data × Members). member key q.0 q.1) t.1

-- what was read of the first member
pub field_found : {A : Type 0} (f : Data → Option A) (key : List ℕ) (ms : Members) (p : A × Members)
    → field_in f key ms ≡ Some p → (d : Data) × (f d ≡ Some p.0) × (ms ≡ member key d p.1)
field_found {A} f key ms p e =
    let first = bind_some _ (first_member key ms) p e in
    let value = bind_some _ (f first.0.0) p first.2 in
    subst (λ (q : A × Members). (d : Data) × (f d ≡ Some q.0) × (ms ≡ member key d q.1))
    (same_Some (value.0, first.0.1) p value.2) (first.0.0, value.1, first_member_found key ms first.0 first.1)

-- the same where the reader's answer determines the value
pub field_is : {A : Type 0} (f : Data → Option A) (value : A → Data) → ((d : Data) (x : A) → f d ≡ Some x → d ≡ value x)
    → (key : List ℕ) (ms : Members) (p : A × Members)
    → field_in f key ms ≡ Some p → ms ≡ member key (value p.0) p.1
field_is f value found key ms p e = let field = field_found f key ms p e in
    field.2 ∙ ap (λ (d : Data). member key d p.1) (found field.0 p.0 field.1)

pub none_left_found : (ms : Members) (u : Unit) → if_none_left ms ≡ Some u → ms ≡ no_members
none_left_found no_members u e = refl
none_left_found (member k d rest) u e = absurd (none-some u e)

pub object_found : (d : Data) (ms : Members) → as_object d ≡ Some ms → d ≡ object ms
object_found (object found) ms e = ap object (same_Some found ms e)
object_found d ms e = absurd (none-some ms e)

pub array_found : (d : Data) (ds : Items) → as_array d ≡ Some ds → d ≡ array ds
array_found (array found) ds e = ap array (same_Some found ds e)
array_found d ds e = absurd (none-some ds e)

pub string_found : (d : Data) (s : List ℕ) → as_str d ≡ Some s → d ≡ string s
string_found (string found) s e = ap string (same_Some found s e)
string_found d s e = absurd (none-some s e)

unsigned_found : (x : Num) (n : ℕ) → as_u64 x ≡ Some n → number x ≡ count n
unsigned_found (unsigned m) n e = ap count (same_Some m n e)
unsigned_found x n e = absurd (none-some n e)

pub number_found : (d : Data) (n : ℕ) → number_in d ≡ Some n → d ≡ count n
number_found (number x) n e = unsigned_found x n e
number_found d n e = absurd (none-some n e)

pub small_found : (d : Data) (n : ℕ) → small_in d ≡ Some n → (d ≡ count n) × (n < 2 ^ 32)
small_found d n e =
    let b = bind_some _ (number_in d) n e in
    let t = cond_some _ _ _ b.2 in
    let same : b.0 ≡ n = t.1 in
    (number_found d b.0 b.1 ∙ ap count same, subst (λ m. m < 2 ^ 32) same (ltb-true _ _ t.0))

pub small_again : (n : ℕ) → n < 2 ^ 32 → small_in (count n) ≡ Some n
small_again n h = rw (lt-ltb n (2 ^ 32) h) refl

number_of_format : (n : ℕ) (second : Bool) → format_of_number n ≡ Some second → n ≡ format_number second
number_of_format n second e = elim (either (n == 1) false second _ e) [
  | inl first ↦ eqb-true n 1 first.0 ∙ ap format_number first.1
  | inr other ↦ let t = cond_some (n == 2) true second other in eqb-true n 2 t.0 ∙ ap format_number t.1
]

pub format_found : (d : Data) (second : Bool) → format_in d ≡ Some second → d ≡ count (format_number second)
format_found d second e =
    let b = bind_some _ (number_in d) second e in
    number_found d b.0 b.1 ∙ ap count (number_of_format b.0 second b.2)

pub format_again : (second : Bool) → format_in (count (format_number second)) ≡ Some second
format_again false = refl
format_again true = refl

smalls_in_items_found : (ds : Items) (ns : List ℕ) → read_items small_in ds ≡ Some ns → ds ≡ items_of (map count ns)
unfolding read_items
smalls_in_items_found no_items ns e = ap (λ (ms : List ℕ). items_of (map count ms)) (same_Some [] ns e)
smalls_in_items_found (item d ds) ns e =
    let first = bind_some _ (small_in d) ns e in
    let rest = bind_some _ (read_items small_in ds) ns first.2 in
    ap₂ item (small_found d first.0 first.1).0 (smalls_in_items_found ds rest.0 rest.1)
    ∙ ap (λ (ms : List ℕ). items_of (map count ms)) (same_Some _ ns rest.2)

smalls_in_items_again : (ns : List ℕ) → AllByRecursion (λ n. n < 2 ^ 32) ns
    → read_items small_in (items_of (map count ns)) ≡ Some ns
unfolding read_items
smalls_in_items_again [] h = refl
smalls_in_items_again (n ∷ ns) h = rw (small_again n h.0, smalls_in_items_again ns h.1) refl

pub smalls_found : (d : Data) (ns : List ℕ) → smalls_in d ≡ Some ns → d ≡ counts ns
unfolding smalls_in
smalls_found d ns e =
    let b = bind_some _ (as_array d) ns e in
    array_found d b.0 b.1 ∙ ap array (smalls_in_items_found b.0 ns b.2)

pub smalls_again : (ns : List ℕ) → AllByRecursion (λ n. n < 2 ^ 32) ns → smalls_in (counts ns) ≡ Some ns
unfolding smalls_in
smalls_again ns h = smalls_in_items_again ns h

-- ---- a list that is read item by item

with_front-nil : {A : Type 0} (o : Option (List A)) → with_front [] o ≡ o
with_front-nil None = refl
with_front-nil (Some xs) = refl

with_front-push : {A : Type 0} (front : List A) (x : A) (o : Option (List A))
    → with_front (front ++ x ∷ []) o ≡ with_front front (option_and_then (λ xs. Some (x ∷ xs)) o)
with_front-push front x None = refl
with_front-push front x (Some xs) = ap Some (append_assoc front (x ∷ []) xs)

module _ {A : Type 0} (f : Data → Option A) (vs : List Value) where
  -- what is read of the values from the one at i on, behind a front
  abbrev pub rest_read : List A → ℕ → Option (List A)
  rest_read front i = with_front front (read_items f (items_view (drop i vs)))

  step : (front : List A) (i : ℕ) (v : Value) → i < length vs → v ≡ get_or vs i v
      → rest_read front i ≡ with_front front (option_and_then
      (λ x. option_and_then (λ xs. Some (x ∷ xs)) (read_items f (items_view (drop (i + 1) vs)))) (f (view v)))
  unfolding read_items
  step front i v within is = rw (drop_more vs i v within) (rw (← is) refl)

  -- one more item was read
  pub one_more : (front : List A) (i : ℕ) (v : Value) (x : A) → i < length vs → v ≡ get_or vs i v → f (view v) ≡ Some x
      → rest_read front i ≡ rest_read (front ++ x ∷ []) (i + 1)
  one_more front i v x within is e = step front i v within is ∙ rw e (sym (with_front-push front x _))

  -- an item was refused
  pub one_refused : (front : List A) (i : ℕ) (v : Value) → i < length vs → v ≡ get_or vs i v → f (view v) ≡ None
      → rest_read front i ≡ None
  one_refused front i v within is e = step front i v within is ∙ rw e refl

  -- nothing was read yet
  pub none_read : rest_read [] 0 ≡ read_items f (items_view vs)
  none_read = with_front-nil _

  -- all were read
  pub all_read : (front : List A) (i : ℕ) → length vs ≤ i → rest_read front i ≡ Some front
  unfolding read_items
  all_read front i past = rw (drop_all i vs past) (ap Some (append-nil front))

-- an error that one step passes on is right for the whole
pub refusal_passes : {A B : Type 0} (e : DecodeFault) (part : Option A) (whole : Option B)
    → (part ≡ None → whole ≡ None) → Fails e part → Fails e whole
refusal_passes NotGood part whole passes h = passes h
refusal_passes Memory part whole passes h = tt

-- ---- from what is read to what is answered

pub IfOk-from_gives : {A : Type 0} (r : Result A DecodeFault) (o : Option A) (P : A → Type 0)
    → ((x : A) → o ≡ Some x → P x) → Gives r o → IfOk r P
IfOk-from_gives (Ok x) o P each gives = each x gives
IfOk-from_gives (Err e) o P each gives = tt

pub IsAnswer-from_gives : {A : Type 0} (r : Result A DecodeFault) (o : Option A) (x : A) → Gives r o
    → o ≡ Some x → IsAnswer r x
IsAnswer-from_gives (Ok y) o x gives e = same_Some y x (sym gives ∙ e)
IsAnswer-from_gives (Err NotGood) o x gives e = none-some x (sym gives ∙ e)
IsAnswer-from_gives (Err Memory) o x gives e = tt

-- a text is one value
pub same_json : (text : List ℕ) (d e : Data) → IsJson text d → IsJson text e → d ≡ e
same_json text d e a b = same_Some d e (sym a.reads ∙ b.reads)
