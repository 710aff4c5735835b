-- Trimming leaves what a text of the journal has as it is.
use Rattle.std.proofs.Common.{◌≡◌, ℕ, suc, ◌<◌, ◌≤◌, Bool, true, false, cond, ◌&&◌, List, [], ◌∷◌, ◌++◌, length, codes}
use Rattle.std.proofs.Common.{Option, Some, None, option_and_then, option_map, refl, sym, ap, ap₂, ◌∙◌, subst, arith}
use Rattle.std.proofs.Common.{le-leb, leb-false, length-append}
use Rattle.std.proofs.lemmas.Bool.{false≢true, and_parts, lt-leb}
use Rattle.std.proofs.lemmas.Slice.Eq.{bytes_eq-Decides}
use Rattle.std.specs.Str.{bytes_eq}
use Rattle.serde_json.proofs.Views.{get_member-put, get_member-put_other}
use Rattle.std.proofs.lemmas.Option.{none-some, same_Some}
use Rattle.std.proofs.lemmas.List.Elements.{All-from_recursion}
use Rattle.std.specs.Prelude.{nat_le, nat_lt, Result, Ok, Err, IfOk, IsErrAnd}
use Rattle.serde_json.specs.Data.{Data, null, boolean, number, string, array, object, Items, no_items, item, Members}
use Rattle.serde_json.specs.Data.{no_members, member, put}
use Rattle.serde_json.specs.Events.{items_len, members_len}
use Rattle.serde_json.specs.Find.{as_array, as_object, get_member}
use Rattle.serde_json.specs.Read.{read}
use Rattle.serde_json.specs.View.{items_of}
use Rattle.reuse_change.specs.Change.{is_sealed}
use Rattle.reuse_json.specs.Decoded.{Gives, IsAnswer}
use Rattle.reuse_json.specs.EntryReading.{change_in, changes_in, frame_in, command_in, moment_in, if_known}
use Rattle.reuse_json.specs.EntryReading.{if_few_changes, listed_in, with_next}
use Rattle.reuse_change.specs.CommandNames.{command_name}
use Rattle.reuse_json.specs.EntryText.{whole_members, splice_members, IsChangeValue, IsJsonEntry}
use Rattle.reuse_json.specs.EntryText.{HavePaths}
use Rattle.reuse_json.specs.Format.{format_number, knows}
use Rattle.reuse_json.specs.Json.{count, array_of, members_of, object_of, IsJson}
use Rattle.reuse_json.specs.JsonReading.{first_member, field_in, format_in, if_none_left, read_items}
use Rattle.reuse_json.specs.Trimmed.{most, inner, trim, trim_items, trim_members}
use Rattle.reuse_change.specs.declared.change.Change.{Change}
use Rattle.reuse_change.specs.declared.change.Change.TheVariants.{Make, Drop, Splice}
use Rattle.reuse_change.specs.declared.command_name.CommandName.{CommandName}
use Rattle.reuse_json.specs.declared.entry.Entry.{Entry}
use Rattle.reuse_json.specs.declared.fault.DecodeFault.{DecodeFault}
use Rattle.reuse_json.specs.declared.fault.DecodeFault.TheVariants.{NotGood, Memory}
use Rattle.reuse_json.specs.declared.length_limit.LengthLimit.{LengthLimit}
use Rattle.reuse_json.specs.declared.length_limit.LengthLimit.TheVariants as room
use Rattle.reuse_tree.proofs.EntryParts.{change_found, changes_found, changes_again, command_there, moment_found}
use Rattle.reuse_tree.proofs.EntryParts.{Frame, entry_of, frame_value, frame_again}
use Rattle.reuse_json.proofs.JsonParts.{bind_some, first_member_found, field_found, field_is, none_left_found}
use Rattle.reuse_json.proofs.JsonParts.{object_found, format_found, format_again, same_json, IfOk-from_gives}

-- ---- a value without `true` and `false`

abbrev mutual
  pub is_clean : Data → Bool
  is_clean null = true
  is_clean (boolean b) = false
  is_clean (number n) = true
  is_clean (string s) = true
  is_clean (array ds) = are_clean ds
  is_clean (object ms) = have_clean ms

  pub are_clean : Items → Bool
  are_clean no_items = true
  are_clean (item d ds) = is_clean d && are_clean ds

  pub have_clean : Members → Bool
  have_clean no_members = true
  have_clean (member k d ms) = is_clean d && have_clean ms

list_whole : (few : Bool) (trimmed ds : Items) → is_clean (cond few (array trimmed) (boolean false)) ≡ true
    → (are_clean trimmed ≡ true → trimmed ≡ ds) → cond few (array trimmed) (boolean false) ≡ array ds
list_whole true trimmed ds clean same = ap array (same clean)
list_whole false trimmed ds clean same = absurd (false≢true clean)

object_whole : (few : Bool) (trimmed ms : Members) → is_clean (cond few (object trimmed) (boolean false)) ≡ true
    → (have_clean trimmed ≡ true → trimmed ≡ ms) → cond few (object trimmed) (boolean false) ≡ object ms
object_whole true trimmed ms clean same = ap object (same clean)
object_whole false trimmed ms clean same = absurd (false≢true clean)

-- where nothing was left out, the trimmed value is the value
mutual
  pub trim_whole : (r : LengthLimit) (d : Data) → is_clean (trim r d) ≡ true → trim r d ≡ d
  trim_whole r null clean = refl
  trim_whole r (boolean b) clean = refl
  trim_whole r (number n) clean = refl
  trim_whole r (string s) clean = refl
  trim_whole r (array ds) clean =
      list_whole (nat_le (items_len ds) (most r)) (trim_items (inner r) ds) ds clean (λ h. items_whole (inner r) ds h)
  trim_whole r (object ms) clean = object_whole (nat_le (members_len ms) (most r)) (trim_members (inner r) ms) ms clean
      (λ h. members_whole (inner r) ms h)

  items_whole : (r : LengthLimit) (ds : Items) → are_clean (trim_items r ds) ≡ true → trim_items r ds ≡ ds
  items_whole r no_items clean = refl
  items_whole r (item d ds) clean = let both = and_parts _ _ clean in
      ap₂ item (trim_whole r d both.0) (items_whole r ds both.1)

  members_whole : (r : LengthLimit) (ms : Members) → have_clean (trim_members r ms) ≡ true → trim_members r ms ≡ ms
  members_whole r no_members clean = refl
  members_whole r (member k d ms) clean = let both = and_parts _ _ clean in
      ap₂ (member k) (trim_whole r d both.0) (members_whole r ms both.1)

pub whole_is : (r : LengthLimit) (d e : Data) → trim r d ≡ e → is_clean e ≡ true → d ≡ e
whole_is r d e is clean = sym (trim_whole r d (ap is_clean is ∙ clean)) ∙ is

-- ---- a change

abbrev FitsChange : Data → Type 0
FitsChange d = (trim room.Change d ≡ d) × (is_clean d ≡ true)

fits_as : (d e : Data) → d ≡ e → FitsChange e → FitsChange d
fits_as d e is fits = subst FitsChange (sym is) fits

-- the members of a change, each with its text
whole_fits : (kind name path digits : List ℕ) (b d : Data) → b ≡ string digits
    → d ≡ object_of (whole_members kind name path b) → FitsChange d
whole_fits kind name path digits b d is e =
    fits_as d _ (e ∙ ap (λ x. object_of (whole_members kind name path x)) is) (refl, refl)

sealed_fits : (key kind name path digits other : List ℕ) (b a d : Data) → b ≡ string digits → a ≡ string other
    → d ≡ object_of ((key, a) ∷ whole_members kind name path b) → FitsChange d
sealed_fits key kind name path digits other b a d is also e =
    fits_as d _ (e ∙ ap₂ (λ x y. object_of ((key, y) ∷ whole_members kind name path x)) is also) (refl, refl)

change_fits : (c : Change) (d : Data) → IsChangeValue c d → FitsChange d
change_fits (Make path new None) d h = whole_fits (codes "make") (codes "new") path h.1.0 h.0 d h.1.1 h.2
change_fits (Make path new (Some after)) d h =
    sealed_fits (codes "after") (codes "make") (codes "new") path h.1.0 h.3.0.0 h.0 h.2 d h.1.1 h.3.0.1 h.4
change_fits (Drop path old None) d h = whole_fits (codes "drop") (codes "old") path h.1.0 h.0 d h.1.1 h.2
change_fits (Drop path old (Some before)) d h =
    sealed_fits (codes "before") (codes "drop") (codes "old") path h.1.0 h.3.0.0 h.0 h.2 d h.1.1 h.3.0.1 h.4
change_fits (Splice path at old new rest None) d h =
    fits_as d (object_of ((codes "at", count at) ∷ splice_members path (string h.3.0) (string h.2.0) rest))
    (h.4 ∙ ap₂ (λ n o. object_of ((codes "at", count at) ∷ splice_members path o n rest)) h.2.1 h.3.1) (refl, refl)
change_fits (Splice path at old new rest (Some seal)) d h =
    fits_as d (object_of ((codes "after", string h.6.0.0) ∷ (codes "at", count at) ∷ (codes "before", string h.7.0.0)
    ∷ splice_members path (string h.3.0) (string h.2.0) rest))
    (h.8 ∙ ap₂ (λ n o. object_of
    ((codes "after", h.4) ∷ (codes "at", count at) ∷ (codes "before", h.5) ∷ splice_members path o n rest)) h.2.1 h.3.1
    ∙ ap₂ (λ a b. object_of ((codes "after", a) ∷ (codes "at", count at) ∷ (codes "before", b) ∷ splice_members path
    (string h.3.0) (string h.2.0) rest)) h.6.0.1 h.7.0.1) (refl, refl)

same_on : (sealed : Bool) (d : Data) (o p : Option Change) → change_in sealed (trim room.Change d) ≡ o
    → change_in sealed d ≡ p → o ≡ p
same_on sealed d None None e f = refl
same_on sealed d (Some c) p e f =
    let value = (change_found sealed (trim room.Change d) c e).0 in
    sym e ∙ ap (change_in sealed) (trim_whole room.Change d (change_fits c (trim room.Change d) value).1) ∙ f
same_on sealed d None (Some c) e f = sym e ∙ ap (change_in sealed) (change_fits c d (change_found sealed d c f).0).0 ∙ f

-- the same change is read of the trimmed value
pub same_change : (sealed : Bool) (d : Data) → change_in sealed (trim room.Change d) ≡ change_in sealed d
same_change sealed d = same_on sealed d _ _ refl refl

-- ---- a list of changes

abbrev then_one : Option (List Change) → Option Change → Option (List Change)
then_one o x = option_and_then (λ cs. option_map (λ c. cs ++ c ∷ []) x) o

front_one : (c : Change) (o : Option (List Change)) (x : Option Change)
    → option_and_then (λ cs. Some (c ∷ cs)) (then_one o x) ≡ then_one (option_and_then (λ cs. Some (c ∷ cs)) o) x
front_one c None x = refl
front_one c (Some cs) None = refl
front_one c (Some cs) (Some x) = refl

one_alone : (x : Option Change)
    → option_and_then (λ c. option_and_then (λ cs. Some (c ∷ cs)) (Some [])) x ≡ then_one (Some []) x
one_alone None = refl
one_alone (Some c) = refl

after_first : (x : Option Change) (o p : Option (List Change)) (y : Option Change) → p ≡ then_one o y
    → option_and_then (λ c. option_and_then (λ cs. Some (c ∷ cs)) p) x ≡ then_one
    (option_and_then (λ c. option_and_then (λ cs. Some (c ∷ cs)) o) x) y
after_first None o p y e = refl
after_first (Some c) o p y e = ap (option_and_then (λ cs. Some (c ∷ cs))) e ∙ front_one c o y

read_push : (f : Data → Option Change) (ds : List Data) (d : Data)
    → read_items f (items_of (ds ++ d ∷ [])) ≡ then_one (read_items f (items_of ds)) (f d)
unfolding read_items
read_push f [] d = one_alone (f d)
read_push f (e ∷ ds) d =
    after_first (f e) (read_items f (items_of ds)) (read_items f (items_of (ds ++ d ∷ []))) (f d) (read_push f ds d)

pushed_len : (cs : List Change) (c : Change) → length (cs ++ c ∷ []) ≡ suc (length cs)
pushed_len cs c = length-append cs (c ∷ []) ∙ omega arith

next_on : (cs : List Change) (x : Option Change) (b : Bool) → nat_le (length cs) 100000 ≡ b
    → with_next (cond b (Some cs) None) x ≡ if_few_changes (then_one (Some cs) x)
next_on cs None true e =
    elim (nat_lt (length cs) 100000) as (λ b. cond b (option_map (λ c. cs ++ c ∷ []) None) None ≡ None) [
      | true ↦ refl
      | false ↦ refl
    ]
next_on cs None false e = refl
next_on cs (Some c) true e = ap (λ n. cond (nat_le n 100000) (Some (cs ++ c ∷ [])) None) (sym (pushed_len cs c))
next_on cs (Some c) false e =
    let over = leb-false (length cs) 100000 e in
    let long : 100000 < length (cs ++ c ∷ []) = omega (arith, over, pushed_len cs c) in
    sym (ap (λ b. cond b (Some (cs ++ c ∷ [])) None) (lt-leb (length (cs ++ c ∷ [])) 100000 long))

next_of : (o : Option (List Change)) (x : Option Change)
    → with_next (if_few_changes o) x ≡ if_few_changes (then_one o x)
next_of None x = refl
next_of (Some cs) x = next_on cs x _ refl

-- one more change was read, of a trimmed value
pub next_change : (sealed : Bool) (ds : List Data) (d : Data)
    → with_next (if_few_changes (read_items (change_in sealed) (items_of ds))) (change_in sealed (trim room.Change d))
    ≡ if_few_changes (read_items (change_in sealed) (items_of (ds ++ d ∷ [])))
next_change sealed ds d =
    next_of (read_items (change_in sealed) (items_of ds)) (change_in sealed (trim room.Change d))
    ∙ ap (λ x. if_few_changes (then_one (read_items (change_in sealed) (items_of ds)) x)) (same_change sealed d)
    ∙ sym (ap if_few_changes (read_push (change_in sealed) ds d))

pub few_found : (o : Option (List Change)) (cs : List Change) → if_few_changes o ≡ Some cs → o ≡ Some cs
few_found None cs e = absurd (none-some cs e)
few_found (Some found) cs e =
    elim (nat_le (length found) 100000) as (λ b. cond b (Some found) None ≡ Some cs → Some found ≡ Some cs) [
      | true ↦ λ is. is
      | false ↦ λ is. absurd (none-some cs is)
    ] e

pub few_again : (cs : List Change) → length cs ≤ 100000 → if_few_changes (Some cs) ≡ Some cs
few_again cs h = ap (λ b. cond b (Some cs) None) (le-leb (length cs) 100000 h)

-- ---- an entry without its changes

-- the value has these parts, and its format knows its command
pub record IsFrame (d : Data) (f : Frame) : Type 0 where
  pub changes : Data
  pub value : d ≡ frame_value changes f
  pub known : knows f.1 f.0 ≡ true
  pub when : f.2 ≤ 250_000_000_000

known_found : (sealed : Bool) (command : CommandName) (u : Unit) → if_known sealed command ≡ Some u
    → knows sealed command ≡ true
known_found sealed command u e = elim (knows sealed command) as (λ b. cond b (Some tt) None ≡ Some u → b ≡ true) [
  | true ↦ λ is. refl
  | false ↦ λ is. absurd (none-some u is)
] e

frame_found : (d : Data) (f : Frame) → frame_in d ≡ Some f → IsFrame d f
unfolding frame_in
frame_found d f e =
    let fields = bind_some _ (as_object d) f e in
    let changes = bind_some _ (first_member (codes "changes") fields.0) f fields.2 in
    let command = bind_some _ (field_in command_in (codes "command") changes.0.1) f changes.2 in
    let format = bind_some _ (field_in format_in (codes "format") command.0.1) f command.2 in
    let known = bind_some _ (if_known format.0.0 command.0.0) f format.2 in
    let when = bind_some _ (field_in moment_in (codes "when") format.0.1) f known.2 in
    let end = bind_some _ (if_none_left when.0.1) f when.2 in
    let reported = field_found moment_in (codes "when") format.0.1 when.0 when.1 in
    let moment = moment_found reported.0 when.0.0 reported.1 in
    let fourth = reported.2 ∙ ap₂ (member (codes "when")) moment.0 (none_left_found when.0.1 end.0 end.1) in
    let third =
    field_is format_in (λ b. count (format_number b)) format_found (codes "format") command.0.1 format.0 format.1
    ∙ ap (member (codes "format") (count (format_number format.0.0))) fourth in
    let second =
    field_is command_in (λ w. string (command_name w)) command_there (codes "command") changes.0.1 command.0 command.1
    ∙ ap (member (codes "command") (string (command_name command.0.0))) third in
    let first = first_member_found (codes "changes") fields.0 changes.0 changes.1
    ∙ ap (member (codes "changes") changes.0.0) second in
    subst (IsFrame d) (same_Some (command.0.0, format.0.0, when.0.0) f end.2)
    (record {
      changes = changes.0.0;
      value = object_found d fields.0 fields.1 ∙ ap object first;
      known = known_found format.0.0 command.0.0 known.0 known.1;
      when = moment.1;
    })

-- ---- what a trimmed object was

on_object : (few : Bool) (ms found : Members) → cond few (object ms) (boolean false) ≡ object found → ms ≡ found
on_object true ms found e = same_Some ms found (ap as_object e)
on_object false ms found e = absurd (none-some found (ap as_object e))

object_before : (r : LengthLimit) (d : Data) (found : Members) → trim r d ≡ object found
    → (ms : Members) × (d ≡ object ms) × (trim_members (inner r) ms ≡ found)
object_before r null found e = absurd (none-some found (ap as_object e))
object_before r (boolean b) found e = absurd (none-some found (ap as_object e))
object_before r (number n) found e = absurd (none-some found (ap as_object e))
object_before r (string s) found e = absurd (none-some found (ap as_object e))
object_before r (array ds) found e =
    elim (nat_le (items_len ds) (most r)) as (λ b. cond b (array (trim_items (inner r) ds))
    (boolean false) ≡ object found → (ms : Members) × (array ds ≡ object ms) × (trim_members (inner r) ms ≡ found)) [
      | true ↦ λ is. absurd (none-some found (ap as_object is))
      | false ↦ λ is. absurd (none-some found (ap as_object is))
    ] e
object_before r (object ms) found e =
    (ms, refl, on_object (nat_le (members_len ms) (most r)) (trim_members (inner r) ms) found e)

abbrev front : Members → Option (List ℕ × Data × Members)
front no_members = None
front (member k d ms) = Some (k, d, ms)

member_before : (r : LengthLimit) (ms : Members) (k : List ℕ) (d : Data) (rest : Members)
    → trim_members r ms ≡ member k d rest
    → (e : Data) × (es : Members) × (ms ≡ member k e es) × (trim r e ≡ d) × (trim_members r es ≡ rest)
member_before r no_members k d rest e = absurd (none-some _ (ap front e))
member_before r (member l x xs) k d rest e =
    let same = same_Some (l, trim r x, trim_members r xs) (k, d, rest) (ap front e) in (
      x,
      xs,
      ap (λ (p : List ℕ × Data × Members). member p.0 x xs) same,
      ap (λ (p : List ℕ × Data × Members). p.1) same,
      ap (λ (p : List ℕ × Data × Members). p.2) same,
    )

none_before : (r : LengthLimit) (ms : Members) → trim_members r ms ≡ no_members → ms ≡ no_members
none_before r no_members e = refl
none_before r (member k d ms) e = absurd (none-some _ (sym (ap front e)))

frame_before : (d x : Data) (f : Frame) → trim room.Entry d ≡ frame_value x f → (y : Data) × (d ≡ frame_value y f)
frame_before d x f e =
    let all = object_before room.Entry d _ e in
    let first = member_before room.Leaf all.0 (codes "changes") x _ all.2 in
    let second = member_before room.Leaf first.1 (codes "command") (string (command_name f.0)) _ first.4 in
    let third = member_before room.Leaf second.1 (codes "format") (count (format_number f.1)) _ second.4 in
    let fourth = member_before room.Leaf third.1 (codes "when") (count f.2) _ third.4 in
    let end = none_before room.Leaf fourth.1 fourth.4 in
    let last = fourth.2 ∙ ap₂ (member (codes "when")) (whole_is room.Leaf fourth.0 (count f.2) fourth.3 refl) end in
    let later = third.2
    ∙ ap₂ (member (codes "format")) (whole_is room.Leaf third.0 (count (format_number f.1)) third.3 refl) last in
    let behind = second.2
    ∙ ap₂ (member (codes "command")) (whole_is room.Leaf second.0 (string (command_name f.0)) second.3 refl) later in
    (first.0, all.1 ∙ ap object (first.2 ∙ ap (member (codes "changes") first.0) behind))

-- ---- what `read_entry` answers

-- the parts that were read are those of an entry
pub entry_read : (text : List ℕ) (d : Data) (f : Frame) (ms : Members) (cs : List Change) → IsJson text d
    → frame_in (trim room.Entry d) ≡ Some f → IsJson text (object ms) → listed_in f.1 ms ≡ Some cs
    → IsJsonEntry text (record { changes = cs; command = f.0; when = f.2 }) × (f.2 ≤ 250_000_000_000)
entry_read text d f ms cs is e also found =
    let frame = frame_found (trim room.Entry d) f e in
    let before = frame_before d frame.changes f frame.value in
    let same : object ms ≡ frame_value before.0 f = same_json text (object ms) d also is ∙ before.1 in
    let members : ms ≡ members_of ((codes "changes", before.0) ∷ (codes "command", string (command_name f.0))
    ∷ (codes "format", count (format_number f.1)) ∷ (codes "when", count f.2) ∷ []) =
    same_Some ms _ (ap as_object same) in
    let read : changes_in f.1 before.0 ≡ Some cs =
    sym (ap (λ x. option_and_then (changes_in f.1) (get_member (codes "changes") x)) members) ∙ few_found _ cs found in
    let values = changes_found f.1 before.0 cs read in
    let IsAs : Change → Type 0 = λ c. is_sealed c ≡ f.1 in (
      (
        d,
        is,
        (
          f.1,
          values.0,
          All-from_recursion IsAs cs values.2.0,
          frame.known,
          values.2.1,
          before.1 ∙ ap (λ x. frame_value x f) values.1,
        ),
      ),
      frame.when,
    )

-- an entry's parts are read
pub frame_read : (text : List ℕ) (d : Data) (entry : Entry) (h : IsJsonEntry text entry) → entry.when ≤ 250_000_000_000
    → IsJson text d → frame_in (trim room.Entry d) ≡ Some (entry.command, h.2.0, entry.when)
frame_read text d entry h when is =
    let f : Frame = (entry.command, h.2.0, entry.when) in
    let same : d ≡ frame_value (array_of h.2.1) f = same_json text d h.0 is h.1 ∙ h.2.5 in
    ap (λ x. frame_in (trim room.Entry x)) same ∙ frame_again (trim room.Leaf (array_of h.2.1)) f h.2.3 when

pub list_read : (text : List ℕ) (ms : Members) (entry : Entry) (h : IsJsonEntry text entry) → HavePaths entry.changes
    → length entry.changes ≤ 100000 → IsJson text (object ms) → listed_in h.2.0 ms ≡ Some entry.changes
list_read text ms entry h paths few is =
    let f : Frame = (entry.command, h.2.0, entry.when) in
    let same : object ms ≡ frame_value (array_of h.2.1) f = same_json text (object ms) h.0 is h.1 ∙ h.2.5 in
    let members : ms ≡ members_of ((codes "changes", array_of h.2.1) ∷ (codes "command", string (command_name f.0))
    ∷ (codes "format", count (format_number f.1)) ∷ (codes "when", count f.2) ∷ []) =
    same_Some ms _ (ap as_object same) in
    ap (listed_in h.2.0) members ∙ ap if_few_changes (changes_again h.2.0 entry.changes h.2.1 h.2.4 h.2.2 paths)
    ∙ few_again entry.changes few

-- ---- what the readers answer

abbrev FrameOf : List ℕ → Frame → Type 0
FrameOf text f = (d : Data) × IsJson text d × (frame_in (trim room.Entry d) ≡ Some f)

pub frame_ok : (r : Result Frame DecodeFault) (text : List ℕ) (d e : Data) → IsJson text d → e ≡ trim room.Entry d
    → Gives r (frame_in e) → IfOk r (FrameOf text)
frame_ok r text d e is trimmed gives =
    IfOk-from_gives r (frame_in e) (FrameOf text) (λ f found. (d, is, sym (ap frame_in trimmed) ∙ found)) gives

pub frame_refused : (r : Result Frame DecodeFault) (text : List ℕ) (d e x : Data) → IsJson text d
    → e ≡ trim room.Entry d → Gives r (frame_in e) → r ≡ Err NotGood → IsJson text x
    → frame_in (trim room.Entry x) ≡ None
frame_refused r text d e x is trimmed gives h other =
    let none : frame_in e ≡ None = subst (λ (o : Result Frame DecodeFault). Gives o (frame_in e)) h gives in
    ap (λ y. frame_in (trim room.Entry y)) (same_json text x d other is) ∙ sym (ap frame_in trimmed) ∙ none

-- a fault that is right, if the text is refused rightly
pub fault_answers : (r : Result Entry DecodeFault) (reported : DecodeFault) (entry : Entry)
    → IsErrAnd r (λ e. e ≡ reported)
    → (reported ≡ NotGood → ⊥) → IsAnswer r entry
fault_answers (Ok found) reported entry is never = absurd is
fault_answers (Err NotGood) reported entry is never = never (sym is)
fault_answers (Err Memory) reported entry is never = tt

pub not_none : {A : Type 0} (o : Option A) (x : A) → o ≡ None → o ≡ Some x → ⊥
not_none o x none some = none-some x (sym none ∙ some)

pub same_parts : (f g : Frame) (o : Option Frame) → o ≡ Some f → o ≡ Some g → f ≡ g
same_parts f g o a b = same_Some f g (sym a ∙ b)

pub same_list : (cs ds : List Change) (o : Option (List Change)) → o ≡ Some cs → o ≡ Some ds → cs ≡ ds
same_list cs ds o a b = same_Some cs ds (sym a ∙ b)

-- ---- the list that counts

listed_on : (sealed : Bool) (key : List ℕ) (d : Data) (ms : Members) (b : Bool) → bytes_eq key (codes "changes") ≡ b
    → cond b (if_few_changes (changes_in sealed d)) (listed_in sealed ms) ≡ listed_in sealed (put key d ms)
listed_on sealed key d ms true e =
    let same : key ≡ codes "changes" = (bytes_eq-Decides key (codes "changes")).0 e in
    let found : get_member (codes "changes") (put key d ms) ≡ Some d =
    ap (λ (k : List ℕ). get_member (codes "changes") (put k d ms)) same ∙ get_member-put (codes "changes") d ms in
    sym (ap (λ o. if_few_changes (option_and_then (changes_in sealed) o)) found)
listed_on sealed key d ms false e =
    let other : codes "changes" ≡ key → ⊥ =
    λ h. false≢true (sym e ∙ (bytes_eq-Decides key (codes "changes")).1 (sym h)) in
    sym (ap (λ o. if_few_changes (option_and_then (changes_in sealed) o))
    (get_member-put_other (codes "changes") key d ms other))

-- after one more member
pub listed_more : (sealed : Bool) (key : List ℕ) (d : Data) (ms : Members) (old new : Option (List Change))
    → new ≡ cond (bytes_eq key (codes "changes")) (if_few_changes (changes_in sealed d)) old → old ≡ listed_in sealed ms
    → new ≡ listed_in sealed (put key d ms)
listed_more sealed key d ms old new is before =
    is ∙ ap (λ o. cond (bytes_eq key (codes "changes")) (if_few_changes (changes_in sealed d)) o) before
    ∙ listed_on sealed key d ms _ refl

pub no_list : (sealed : Bool) (d : Data) → as_array d ≡ None → None ≡ if_few_changes (changes_in sealed d)
unfolding changes_in
no_list sealed d none = sym (ap (λ o. if_few_changes (option_and_then (λ ds. read_items (change_in sealed) ds) o)) none)

pub of_list : (sealed : Bool) (ds : Items)
    → if_few_changes (read_items (change_in sealed) ds) ≡ if_few_changes (changes_in sealed (array ds))
unfolding changes_in
of_list sealed ds = refl

pub no_changes : (sealed : Bool) → Some [] ≡ if_few_changes (read_items (change_in sealed) no_items)
unfolding read_items
no_changes sealed = refl

-- ---- an entry and what was read

-- the changes of an entry are not missed, where its frame was read
pub list_missed : (text : List ℕ) (d : Data) (f : Frame) (entry : Entry) (h : IsJsonEntry text entry)
    → HavePaths entry.changes → entry.when ≤ 250_000_000_000 → length entry.changes ≤ 100000
    → IsJson text d → frame_in (trim room.Entry d) ≡ Some f
    → ((ms : Members) → IsJson text (object ms) → listed_in f.1 ms ≡ None) → ⊥
list_missed text d f entry h paths when few is e missed =
    let same : f ≡ (entry.command, h.2.0, entry.when) = same_parts f (entry.command, h.2.0, entry.when)
    (frame_in (trim room.Entry d)) e (frame_read text d entry h when is) in
    let sealed : f.1 ≡ h.2.0 = ap (λ (x : Frame). x.1) same in
    let ms : Members =
    members_of ((codes "changes", array_of h.2.1) ∷ (codes "command", string (command_name entry.command))
    ∷ (codes "format", count (format_number h.2.0)) ∷ (codes "when", count entry.when) ∷ []) in
    let value : IsJson text (object ms) = subst (IsJson text) h.2.5 h.1 in
    let read : listed_in h.2.0 ms ≡ Some entry.changes = list_read text ms entry h paths few value in
    not_none (listed_in f.1 ms) entry.changes (missed ms value) (ap (λ (b : Bool). listed_in b ms) sealed ∙ read)

-- what was read is the entry
pub entry_answers : (text : List ℕ) (d : Data) (f : Frame) (ms : Members) (cs found : List Change) (entry : Entry)
    (h : IsJsonEntry text entry) → HavePaths entry.changes → entry.when ≤ 250_000_000_000
    → length entry.changes ≤ 100000
    → IsJson text d → frame_in (trim room.Entry d) ≡ Some f → IsJson text (object ms)
    → listed_in f.1 ms ≡ Some cs → found ≡ cs
    → entry_of found f ≡ entry
entry_answers text d f ms cs found entry h paths when few is e also listed same =
    let parts : f ≡ (entry.command, h.2.0, entry.when) = same_parts f (entry.command, h.2.0, entry.when)
    (frame_in (trim room.Entry d)) e (frame_read text d entry h when is) in
    let sealed : f.1 ≡ h.2.0 = ap (λ (x : Frame). x.1) parts in
    let list : cs ≡ entry.changes = same_list cs entry.changes (listed_in f.1 ms) listed
    (ap (λ (b : Bool). listed_in b ms) sealed ∙ list_read text ms entry h paths few also) in
    ap₂ entry_of (same ∙ list) parts

-- ---- a text that was refused

pub no_object_read : {A : Type 0} (text : List ℕ) (ms : Members) → read text ≡ None → IsJson text (object ms) → A
no_object_read text ms none is = absurd (none-some (object ms) (sym none ∙ is.reads))

pub same_members : (text : List ℕ) (ms found : Members) → IsJson text (object ms)
    → IsJson text (object found) → ms ≡ found
same_members text ms found is also =
    same_Some ms found (ap as_object (same_json text (object ms) (object found) is also))
