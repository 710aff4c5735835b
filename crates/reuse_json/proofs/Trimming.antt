-- A trimmed value as it is read, and where it is the value itself.
use Rattle.std.proofs.Common.{◌≡◌, ℕ, suc, ◌<◌, ◌≤◌, Bool, true, false, cond, ◌⊎◌, inl, inr, List, [], ◌∷◌, ◌++◌}
use Rattle.std.proofs.Common.{length, length-append, map, Option, Some, None, Ordering, Less, Equal, Greater, nat_cmp}
use Rattle.std.proofs.Common.{String, Global, refl, sym, ap, ap₂, ◌∙◌, subst, arith, leb-true, leb-false, string_bytes}
use Rattle.std.proofs.Common.{string_cmp}
use Rattle.std.proofs.lemmas.Bool.{lt-leb}
use Rattle.std.proofs.lemmas.List.{length-map, map-append}
use Rattle.std.specs.Prelude.{nat_le, option_map, Result, Ok, Err, IfOk, IsErrAnd}
use Rattle.std.proofs.lemmas.Option.{none-some, same_Some}
use Rattle.std.specs.BTreeMap.{insert_entry}
use Rattle.std.specs.Cmp.Lexicographic.{slice_cmp}
use Rattle.std.specs.Ordering.{match_ordering}
use Rattle.json.specs.Json.{parse_map, value}
use Rattle.json.proofs.Grammar.{value_is}
use Rattle.json.specs.Token.{Token}
use Rattle.serde_json.specs.Data.{Num, Data, boolean, number, array, object, Items, no_items, item, Members, no_members}
use Rattle.serde_json.specs.Data.{member, put}
use Rattle.serde_json.specs.Events.{items_len, members_len}
use Rattle.serde_json.specs.Read.{converted, number_of, of_json}
use Rattle.serde_json.specs.View.{view, items_of, items_view, members_view}
use Rattle.serde_json.specs.declared.value.Value.{Value}
use Rattle.serde_json.proofs.Views.{members_len-members_view, members_view-insert_entry}
use Rattle.reuse_json.specs.declared.length_limit.LengthLimit.{LengthLimit}
use Rattle.reuse_json.specs.Trimmed.{most, inner, if_few, trim, trim_items, trim_members, one_more, ReadsValue}
use Rattle.reuse_json.specs.Decoded.{GivesBy}
use Rattle.reuse_json.specs.declared.fault.DecodeFault.{DecodeFault}
use Rattle.reuse_json.specs.declared.fault.DecodeFault.TheVariants.{NotGood, Memory}

-- ---- items, which come one after another

abbrev pub before : List Data → Items → Items
before [] rest = rest
before (d ∷ ds) rest = item d (before ds rest)

pub before-no_items : (ds : List Data) → before ds no_items ≡ items_of ds
before-no_items [] = refl
before-no_items (d ∷ ds) = ap (item d) (before-no_items ds)

before-push : (ds : List Data) (d : Data) (rest : Items) → before ds (item d rest) ≡ before (ds ++ d ∷ []) rest
before-push [] d rest = refl
before-push (e ∷ ds) d rest = ap (item e) (before-push ds d rest)

pub one_more_item : (ds : List Data) (d : Data) (r : Option (Items × List Token))
    → parse_map (before ds) (parse_map (item d) r) ≡ parse_map (before (ds ++ d ∷ [])) r
one_more_item ds d None = refl
one_more_item ds d (Some p) = ap (λ es. Some (es, p.1)) (before-push ds d p.0)

pub none_before : (r : Option (Items × List Token)) → r ≡ parse_map (before []) r
none_before None = refl
none_before (Some p) = refl

items_len-items_of : (ds : List Data) → items_len (items_of ds) ≡ length ds
items_len-items_of [] = refl
items_len-items_of (d ∷ ds) = ap suc (items_len-items_of ds)

trim_items-items_of : (room : LengthLimit) (ds : List Data)
    → trim_items room (items_of ds) ≡ items_of (map (trim room) ds)
trim_items-items_of room [] = refl
trim_items-items_of room (d ∷ ds) = ap (item (trim room d)) (trim_items-items_of room ds)

-- what was kept of the items: each, trimmed, or too many
abbrev pub Kept : LengthLimit → List Data → List Value → Type 0
Kept room ds vs = (map view vs ≡ map (trim (inner room)) ds) ⊎ ((most room < length ds) × (most room < length vs))

kept_len : (room : LengthLimit) (ds : List Data) (vs : List Value) → map view vs ≡ map (trim room) ds
    → length vs ≡ length ds
kept_len room ds vs e = sym (length-map vs view) ∙ ap length e ∙ length-map ds (trim room)

longer : (ds : List Data) (d : Data) (n : ℕ) → n < length ds → n < length (ds ++ d ∷ [])
longer ds d n h = omega (arith, h, length-append ds (d ∷ []))

kept_on : (room : LengthLimit) (ds : List Data) (d : Data) (vs : List Value) (v : Value) (b : Bool)
    → nat_le (length vs) (most room) ≡ b → view v ≡ trim (inner room) d → Kept room ds vs
    → Kept room (ds ++ d ∷ []) (cond b (vs ++ v ∷ []) vs)
kept_on room ds d vs v true e is (inl all) =
    inl (map-append view vs (v ∷ []) ∙ ap₂ (λ (xs : List Data) (x : Data). xs ++ x ∷ []) all is
    ∙ sym (map-append (trim (inner room)) ds (d ∷ [])))
kept_on room ds d vs v true e is (inr over) = let le = leb-true (length vs) (most room) e in
    absurd (omega (arith, le, over.1))
kept_on room ds d vs v false e is (inl all) =
    let over = leb-false (length vs) (most room) e in
    inr (longer ds d (most room) (omega (arith, over, kept_len (inner room) ds vs all)), over)
kept_on room ds d vs v false e is (inr over) = inr (longer ds d (most room) over.0, over.1)

-- one more item was read
pub kept_more : (room : LengthLimit) (ds : List Data) (d : Data) (vs ws : List Value) (v : Value) → view v ≡ trim
    (inner room) d → ws ≡ one_more room (vs ++ v ∷ []) vs → Kept room ds vs → Kept room (ds ++ d ∷ []) ws
kept_more room ds d vs ws v is e kept = subst (Kept room (ds ++ d ∷ [])) (sym e) (kept_on room ds d vs v _ refl is kept)

many : (n m : ℕ) (d : Data) → m < n → cond (nat_le n m) d (boolean false) ≡ boolean false
many n m d h = ap (λ b. cond b d (boolean false)) (lt-leb n m h)

-- all items were read
pub kept_all : (room : LengthLimit) (ds : List Data) (vs : List Value) (v : Value) → view v ≡ if_few room (length vs)
    (array (items_view vs)) → Kept room ds vs → view v ≡ trim room (array (items_of ds))
kept_all room ds vs v is (inl all) =
    let same : items_view vs ≡ trim_items (inner room) (items_of ds) =
    ap items_of all ∙ sym (trim_items-items_of (inner room) ds) in
    is ∙ ap₂ (λ n (es : Items). if_few room n (array es))
    (kept_len (inner room) ds vs all ∙ sym (items_len-items_of ds)) same
kept_all room ds vs v is (inr over) =
    is ∙ many (length vs) (most room) _ over.1
    ∙ sym (many (items_len (items_of ds)) (most room) _ (omega (arith, over.0, items_len-items_of ds)))

-- ---- members

abbrev pub Entries : Type 0
Entries = List (String Global × Value)

put_at : (o : Ordering) (room : LengthLimit) (k l : List ℕ) (d e : Data) (ms : Members)
    → trim_members room (put k d ms) ≡ put k (trim room d) (trim_members room ms)
    → trim_members room (match_ordering o (member k d (member l e ms)) (member l d ms) (member l e (put k d ms)))
    ≡ match_ordering o (member k (trim room d) (member l (trim room e) (trim_members room ms))) (member l (trim room d)
    (trim_members room ms)) (member l (trim room e) (put k (trim room d) (trim_members room ms)))
put_at Less room k l d e ms later = refl
put_at Equal room k l d e ms later = refl
put_at Greater room k l d e ms later = ap (member l (trim room e)) later

put_trimmed : (room : LengthLimit) (k : List ℕ) (d : Data) (ms : Members)
    → trim_members room (put k d ms) ≡ put k (trim room d) (trim_members room ms)
put_trimmed room k d no_members = refl
put_trimmed room k d (member l e ms) = put_at (slice_cmp nat_cmp k l) room k l d e ms (put_trimmed room k d ms)

len_at : (o : Ordering) (k l : List ℕ) (d e : Data) (ms : Members) → members_len ms ≤ members_len (put k d ms)
    → suc (members_len ms) ≤ members_len
    (match_ordering o (member k d (member l e ms)) (member l d ms) (member l e (put k d ms)))
len_at Less k l d e ms later = omega arith
len_at Equal k l d e ms later = omega arith
len_at Greater k l d e ms later = omega (arith, later)

len_put : (k : List ℕ) (d : Data) (ms : Members) → members_len ms ≤ members_len (put k d ms)
len_put k d no_members = omega arith
len_put k d (member l e ms) = len_at (slice_cmp nat_cmp k l) k l d e ms (len_put k d ms)

len_trimmed : (room : LengthLimit) (ms : Members) → members_len (trim_members room ms) ≡ members_len ms
len_trimmed room no_members = refl
len_trimmed room (member k d ms) = ap suc (len_trimmed room ms)

-- what was kept of the members: each, trimmed, or too many
abbrev pub KeptMembers : LengthLimit → Members → Entries → Type 0
KeptMembers room ms es =
    (members_view es ≡ trim_members (inner room) ms) ⊎ ((most room < members_len ms) × (most room < length es))

kept_members_len : (room : LengthLimit) (ms : Members) (es : Entries) → members_view es ≡ trim_members room ms
    → length es ≡ members_len ms
kept_members_len room ms es e = sym (members_len-members_view es) ∙ ap members_len e ∙ len_trimmed room ms

member_on : (room : LengthLimit) (k : List ℕ) (d e : Data) (ms : Members) (es fs : Entries) (b : Bool)
    → nat_le (length es) (most room) ≡ b → e ≡ trim (inner room) d
    → members_view fs ≡ put k e (members_view es) → KeptMembers room ms es
    → KeptMembers room (put k d ms) (cond b fs es)
member_on room k d e ms es fs true few is inserted (inl all) =
    inl (inserted ∙ ap₂ (put k) is all ∙ sym (put_trimmed (inner room) k d ms))
member_on room k d e ms es fs true few is inserted (inr over) = let le = leb-true (length es) (most room) few in
    absurd (omega (arith, le, over.1))
member_on room k d e ms es fs false few is inserted (inl all) =
    let over = leb-false (length es) (most room) few in
    inr (omega (arith, over, kept_members_len (inner room) ms es all, len_put k d ms), over)
member_on room k d e ms es fs false few is inserted (inr over) = inr (omega (arith, over.0, len_put k d ms), over.1)

-- one more member was read
pub member_more : (room : LengthLimit) (k : String Global) (d : Data) (v : Value) (ms : Members) (es fs : Entries)
    → view v ≡ trim (inner room) d → fs ≡ one_more room (insert_entry string_cmp es k v) es
    → KeptMembers room ms es → KeptMembers room (put (string_bytes k) d ms) fs
member_more room k d v ms es fs is e kept =
    subst (KeptMembers room (put (string_bytes k) d ms)) (sym e)
    (member_on room (string_bytes k) d (view v) ms es (insert_entry string_cmp es k v) _ refl is
    (members_view-insert_entry es k v) kept)

-- all members were read
pub members_all : (room : LengthLimit) (ms : Members) (es : Entries) (v : Value) → view v ≡ if_few room (length es)
    (object (members_view es)) → KeptMembers room ms es → view v ≡ trim room (object ms)
members_all room ms es v is (inl all) =
    is ∙ ap₂ (λ n (fs : Members). if_few room n (object fs)) (kept_members_len (inner room) ms es all) all
members_all room ms es v is (inr over) =
    is ∙ many (length es) (most room) _ over.1 ∙ sym (many (members_len ms) (most room) _ over.0)

-- ---- a number

number_of_some : (o : Option Num) (d : Data) → option_map number o ≡ Some d → (n : Num) × (d ≡ number n)
number_of_some None d e = absurd (none-some d e)
number_of_some (Some n) d e = (n, sym (same_Some (number n) d e))

number_is : (depth : ℕ) (s : List ℕ) (all ts : List Token) → all ≡ Token.number s ∷ ts
    → converted of_json (value depth all) ≡ option_map (λ d. (d, ts)) (option_map number (number_of s))
number_is depth s all ts is = ap (converted of_json) (ap (value depth) is ∙ value_is depth (Token.number s ∷ ts))

pub number_read : (r : Result Value DecodeFault) (depth : ℕ) (room : LengthLimit) (s : List ℕ) (all ts : List Token)
    → all ≡ Token.number s ∷ ts → GivesBy view r (option_map number (number_of s))
    → IfOk r (ReadsValue depth room all ts)
number_read (Ok v) depth room s all ts is gives =
    let n = number_of_some (number_of s) (view v) gives in
    (view v, number_is depth s all ts is ∙ ap (option_map (λ d. (d, ts))) gives, n.1 ∙ sym (ap (trim room) n.1))
number_read (Err e) depth room s all ts is gives = tt

pub number_refused : (r : Result Value DecodeFault) (depth : ℕ) (s : List ℕ) (all ts : List Token)
    → all ≡ Token.number s ∷ ts → GivesBy view r (option_map number (number_of s)) → r ≡ Err NotGood
    → converted of_json (value depth all) ≡ None
number_refused r depth s all ts is gives h =
    let none : option_map number (number_of s) ≡ None =
    subst (λ (x : Result Value DecodeFault). GivesBy view x (option_map number (number_of s))) h gives in
    number_is depth s all ts is ∙ ap (option_map (λ d. (d, ts))) none

-- ---- a fault that is handed on

abbrev fault_of : {A : Type 0} → Result A DecodeFault → DecodeFault
fault_of (Ok x) = Memory
fault_of (Err e) = e

pub same_fault : {A : Type 0} (r : Result A DecodeFault) (e : DecodeFault) → IsErrAnd r (λ reported. reported ≡ e)
    → r ≡ Err NotGood → e ≡ NotGood
same_fault (Ok x) e is h = absurd is
same_fault (Err reported) e is h = sym is ∙ ap fault_of h
