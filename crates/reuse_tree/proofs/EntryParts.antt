-- What is read of an entry's value is the entry, and nothing else is.
use Rattle.std.proofs.Common.{◌≡◌, ℕ, ◌≤◌, Bool, true, false, cond, ◌==◌, eqb-true, eq-eqb, List, [], ◌∷◌, length}
use Rattle.std.proofs.Common.{codes, Option, Some, None, is_some, refl, sym, ap, ap₂, ◌∙◌, subst, le-leb, leb-true}
use Rattle.std.proofs.Common.{Result, Ok, Err, ◌⊎◌, inl, inr}
use Rattle.std.specs.Prelude.{IsTrue}
use Rattle.std.specs.List.{AllByRecursion, AllZip}
use Rattle.std.specs.Result.{result_ok}
use Rattle.std.specs.Str.{bytes_eq}
use Rattle.std.proofs.lemmas.Option.{none-some, same_Some, cond_some}
use Rattle.std.proofs.lemmas.Slice.Eq.{bytes_eq-Decides}
use Rattle.std.proofs.lemmas.Bool.{false≢true}
use Rattle.std.proofs.lemmas.List.Elements.{All-head, All-tail, recursion_from_All, All-from_recursion}
use Rattle.hex.specs.Hex.{decode_of}
use Rattle.hex.specs.declared.error.FromHexError.{FromHexError}
use Rattle.serde_json.specs.Data.{Data, string, array, object, Items, no_items, item, Members, no_members, member}
use Rattle.serde_json.specs.Find.{as_array, as_object, as_str, get}
use Rattle.serde_json.specs.View.{items_of}
use Rattle.reuse_change.specs.Path.{is_path}
use Rattle.reuse_change.specs.Change.{path_of, is_sealed}
use Rattle.reuse_change.specs.declared.digest.Seal.{Seal}
use Rattle.reuse_change.specs.Entry.{AreAllSealed}
use Rattle.reuse_json.specs.Json.{count, array_of, members_of, object_of}
use Rattle.reuse_json.specs.Format.{knows, format_number}
use Rattle.reuse_change.specs.CommandNames.{command_name}
use Rattle.reuse_json.specs.EntryText.{whole_members, splice_members, IsWholeValue, IsHex, IsHexDigest}
use Rattle.reuse_json.specs.EntryText.{IsChangeValue, IsEntryValue, HavePaths, IsGoodEntry}
use Rattle.reuse_json.specs.JsonReading.{◌>>=◌, first_member, field_in, if_none_left, number_in, read_items}
use Rattle.reuse_json.specs.EntryReading.{if_text, digest_in, first_digest, seal_of, hex_in, path_in, command_from}
use Rattle.reuse_json.specs.EntryReading.{command_in, if_known, moment_in, whole_in, make_in, drop_in, splice_in}
use Rattle.reuse_json.specs.EntryReading.{splice_bytes_in, splice_end_in, change_in, changes_in, frame_in}
use Rattle.reuse_change.specs.declared.change.Change.{Change}
use Rattle.reuse_change.specs.declared.change.Change.TheVariants.{Make, Drop, Splice}
use Rattle.reuse_json.specs.declared.entry.Entry.{Entry}
use Rattle.reuse_change.specs.declared.command_name.CommandName.{CommandName}
use Rattle.reuse_change.specs.declared.command_name.CommandName.TheVariants.{Annotate, ConvertDep5, Download, Revert}
use Rattle.reuse_change.specs.declared.command_name.CommandName.TheVariants.{Amend, AddStyles}
use Rattle.reuse_json.proofs.JsonParts.{either, named, bind_some, first_member_found, field_found, field_is}
use Rattle.reuse_json.proofs.JsonParts.{none_left_found, object_found, array_found, string_found, number_found}
use Rattle.reuse_json.proofs.JsonParts.{format_found, format_again, same_json}

-- ---- parts

if_text_found : (text : List ℕ) (d : Data) (u : Unit) → if_text text d ≡ Some u → d ≡ string text
if_text_found text d u e =
    let s = bind_some _ (as_str d) u e in
    let t = cond_some (bytes_eq s.0 text) tt u s.2 in
    string_found d s.0 s.1 ∙ ap string ((bytes_eq-Decides s.0 text).0 t.0)

ok_found : (r : Result (List ℕ) FromHexError) (bytes : List ℕ) → result_ok r ≡ Some bytes → r ≡ Ok bytes
ok_found (Ok found) bytes e = ap Ok (same_Some found bytes e)
ok_found (Err f) bytes e = absurd (none-some bytes e)

hex_found : (d : Data) (bytes : List ℕ) → hex_in d ≡ Some bytes → IsHex bytes d
hex_found d bytes e =
    let s = bind_some _ (as_str d) bytes e in
    (s.0, string_found d s.0 s.1, ok_found (decode_of s.0) bytes s.2)

hex_again : (d : Data) (bytes : List ℕ) → IsHex bytes d → hex_in d ≡ Some bytes
hex_again d bytes h = ap hex_in h.1 ∙ ap result_ok h.2

path_found : (d : Data) (path : List ℕ) → path_in d ≡ Some path → (d ≡ string path) × (is_path path ≡ true)
path_found d path e =
    let s = bind_some _ (as_str d) path e in
    let t = cond_some (is_path s.0) s.0 path s.2 in
    (string_found d s.0 s.1 ∙ ap string t.1, subst (λ (p : List ℕ). is_path p ≡ true) t.1 t.0)

pub moment_found : (d : Data) (n : ℕ) → moment_in d ≡ Some n → (d ≡ count n) × (n ≤ 250_000_000_000)
moment_found d n e =
    let m = bind_some _ (number_in d) n e in
    let t = cond_some _ m.0 n m.2 in
    let same : m.0 ≡ n = t.1 in (
      number_found d m.0 m.1 ∙ ap count same,
      subst (λ (k : ℕ). k ≤ 250_000_000_000) same (leb-true m.0 250000000000 t.0),
    )

pub moment_again : (n : ℕ) → n ≤ 250_000_000_000 → moment_in (count n) ≡ Some n
moment_again n h = rw (le-leb n 250000000000 h) refl

command_found : (name : List ℕ) (w : CommandName) → command_from name ≡ Some w → name ≡ command_name w
command_found name w e = elim (either (bytes_eq name (codes "annotate")) Annotate w _ e) [
  | inl first ↦ named command_name name Annotate w first
  | inr other ↦ elim (either (bytes_eq name (codes "convert-dep5")) ConvertDep5 w _ other) [
    | inl second ↦ named command_name name ConvertDep5 w second
    | inr third ↦ elim (either (bytes_eq name (codes "download")) Download w _ third) [
      | inl is ↦ named command_name name Download w is
      | inr fourth ↦ elim (either (bytes_eq name (codes "revert")) Revert w _ fourth) [
        | inl is ↦ named command_name name Revert w is
        | inr fifth ↦ elim (either (bytes_eq name (codes "amend")) Amend w _ fifth) [
          | inl is ↦ named command_name name Amend w is
          | inr last ↦
              named command_name name AddStyles w (cond_some (bytes_eq name (codes "styles")) AddStyles w last)
        ]
      ]
    ]
  ]
]

pub command_again : (w : CommandName) → command_from (command_name w) ≡ Some w
command_again Annotate = refl
command_again ConvertDep5 = refl
command_again Download = refl
command_again Revert = refl
command_again Amend = refl
command_again AddStyles = refl

pub command_there : (d : Data) (w : CommandName) → command_in d ≡ Some w → d ≡ string (command_name w)
command_there d w e = let name = bind_some _ (as_str d) w e in
    string_found d name.0 name.1 ∙ ap string (command_found name.0 w name.2)

path_there : (d : Data) (path : List ℕ) → path_in d ≡ Some path → d ≡ string path
path_there d path e = (path_found d path e).0

-- ---- a change

digest_found : (d : Data) (digest : List ℕ) → digest_in d ≡ Some digest → IsHexDigest digest d
digest_found d digest e =
    let bytes = bind_some _ (hex_in d) digest e in
    let t = cond_some (length bytes.0 == 32) bytes.0 digest bytes.2 in
    subst (λ (x : List ℕ). IsHexDigest x d) t.1 (hex_found d bytes.0 bytes.1, eqb-true (length bytes.0) 32 t.0)

digest_again : (d : Data) (digest : List ℕ) → IsHexDigest digest d → digest_in d ≡ Some digest
digest_again d digest h = rw (hex_again d digest h.0, eq-eqb (length digest) 32 h.1) refl

-- the members, in front of which a digest stands where changes are sealed
abbrev IsInFront : Bool → List ℕ → Option (List ℕ) → Members → Members → Type 0
IsInFront sealed key None fields rest = (sealed ≡ false) × (fields ≡ rest)
IsInFront sealed key (Some digest) fields rest =
    (sealed ≡ true) × (d : Data) × IsHexDigest digest d × (fields ≡ member key d rest)

first_digest_found : (sealed : Bool) (key : List ℕ) (fields : Members) (p : Option (List ℕ) × Members)
    → first_digest sealed key fields ≡ Some p → IsInFront sealed key p.0 fields p.1
unfolding first_digest
first_digest_found false key fields p e = subst (λ (q : Option (List ℕ) × Members). IsInFront false key q.0 fields q.1)
    (same_Some (None, fields) p e) (refl, refl)
first_digest_found true key fields p e =
    let first = bind_some _ (field_in digest_in key fields) p e in
    let digest = field_found digest_in key fields first.0 first.1 in
    subst (λ (q : Option (List ℕ) × Members). IsInFront true key q.0 fields q.1) (same_Some
    (Some first.0.0, first.0.1) p first.2) (refl, digest.0, digest_found digest.0 first.0.0 digest.1, digest.2)

-- a value of a change, sealed or not as all are
abbrev IsValueIn : Bool → Change → Data → Type 0
IsValueIn sealed c d = IsChangeValue c d × (is_sealed c ≡ sealed)

whole_value : (sealed : Bool) (key : List ℕ) (digest : Option (List ℕ)) (kind name bytes path : List ℕ) (b : Data)
    (fields rest : Members) → IsInFront sealed key digest fields rest → IsHex bytes b
    → rest ≡ members_of (whole_members kind name path b)
    → IsWholeValue key digest kind name bytes path (object fields) × (is_some digest ≡ sealed)
whole_value sealed key None kind name bytes path b fields rest front is e =
    ((b, is, ap object (front.1 ∙ e)), sym front.0)
whole_value sealed key (Some digest) kind name bytes path b fields rest front is e =
    ((b, is, front.1, front.2, ap object (front.3 ∙ ap (member key front.1) e)), sym front.0)

whole_found : (sealed : Bool) (key kind name : List ℕ) (d : Data) (w : List ℕ × List ℕ × Option (List ℕ))
    → whole_in sealed key kind name d ≡ Some w → IsWholeValue key w.2 kind name w.1 w.0 d × (is_some w.2 ≡ sealed)
unfolding whole_in
whole_found sealed key kind name d w e =
    let fields = bind_some _ (as_object d) w e in
    let digest = bind_some _ (first_digest sealed key fields.0) w fields.2 in
    let named = bind_some _ (field_in (if_text kind) (codes "kind") digest.0.1) w digest.2 in
    let bytes = bind_some _ (field_in hex_in name named.0.1) w named.2 in
    let path = bind_some _ (field_in path_in (codes "path") bytes.0.1) w bytes.2 in
    let end = bind_some _ (if_none_left path.0.1) w path.2 in
    let held = field_found hex_in name named.0.1 bytes.0 bytes.1 in
    let third = field_is path_in string path_there (codes "path") bytes.0.1 path.0 path.1
    ∙ ap (member (codes "path") (string path.0.0)) (none_left_found path.0.1 end.0 end.1) in
    let first =
    field_is (if_text kind) (λ _. string kind) (if_text_found kind) (codes "kind") digest.0.1 named.0 named.1
    ∙ ap (member (codes "kind") (string kind)) (held.2 ∙ ap (member name held.0) third) in
    subst (λ (q : List ℕ × List ℕ × Option (List ℕ)). IsWholeValue key q.2 kind name q.1 q.0 d × (is_some q.2 ≡ sealed))
    (same_Some (path.0.0, bytes.0.0, digest.0.0) w end.2)
    (subst (λ (x : Data). IsWholeValue key digest.0.0 kind name bytes.0.0 path.0.0 x × (is_some digest.0.0 ≡ sealed))
    (sym (object_found d fields.0 fields.1))
    (whole_value sealed key digest.0.0 kind name bytes.0.0 path.0.0 held.0 fields.0 digest.0.1
    (first_digest_found sealed key fields.0 digest.0 digest.1) (hex_found held.0 bytes.0.0 held.1) first))

-- the value is one of the change that is made of a whole file's parts
change_of_whole : (sealed : Bool) (key kind name : List ℕ) (d : Data) (c : Change)
    (change : List ℕ → List ℕ → Option (List ℕ) → Change)
    → ((w : List ℕ × List ℕ × Option (List ℕ)) → IsWholeValue key w.2 kind name w.1 w.0 d × (is_some w.2 ≡ sealed)
    → IsValueIn sealed (change w.0 w.1 w.2) d)
    → (whole_in sealed key kind name d >>= (λ w. Some (change w.0 w.1 w.2))) ≡ Some c → IsValueIn sealed c d
change_of_whole sealed key kind name d c change is e =
    let w = bind_some _ (whole_in sealed key kind name d) c e in
    subst (λ (x : Change). IsValueIn sealed x d) (same_Some (change w.0.0 w.0.1 w.0.2) c w.2)
    (is w.0 (whole_found sealed key kind name d w.0 w.1))

make_found : (sealed : Bool) (d : Data) (c : Change) → make_in sealed d ≡ Some c → IsValueIn sealed c d
unfolding make_in
make_found sealed d c e = change_of_whole sealed (codes "after") (codes "make") (codes "new") d c Make (λ w h. h) e

drop_found : (sealed : Bool) (d : Data) (c : Change) → drop_in sealed d ≡ Some c → IsValueIn sealed c d
unfolding drop_in
drop_found sealed d c e = change_of_whole sealed (codes "before") (codes "drop") (codes "old") d c Drop (λ w h. h) e

splice_end_found : (at : ℕ) (new old : List ℕ) (seal : Option Seal) (fields : Members) (c : Change)
    → splice_end_in at new old seal fields ≡ Some c
    → (p : List ℕ) × (r : ℕ) × (c ≡ Splice p at old new r seal)
    × (fields ≡ member (codes "path") (string p) (member (codes "rest") (count r) no_members))
unfolding splice_end_in
splice_end_found at new old seal fields c e =
    let path = bind_some _ (field_in path_in (codes "path") fields) c e in
    let rest = bind_some _ (field_in number_in (codes "rest") path.0.1) c path.2 in
    let end = bind_some _ (if_none_left rest.0.1) c rest.2 in
    let sixth = field_is number_in count number_found (codes "rest") path.0.1 rest.0 rest.1
    ∙ ap (member (codes "rest") (count rest.0.0)) (none_left_found rest.0.1 end.0 end.1) in (
      path.0.0,
      rest.0.0,
      sym (same_Some (Splice path.0.0 at old new rest.0.0 seal) c end.2),
      field_is path_in string path_there (codes "path") fields path.0 path.1
          ∙ ap (member (codes "path") (string path.0.0)) sixth,
    )

-- the members of a splice from its kind on
pub record SpliceBytes (at : ℕ) (seal : Option Seal) (fields : Members) (c : Change) : Type 0 where
  pub path : List ℕ
  pub rest : ℕ
  pub new_bytes : List ℕ
  pub old_bytes : List ℕ
  pub new : Data
  pub old : Data
  pub is_new : IsHex new_bytes new
  pub is_old : IsHex old_bytes old
  pub change : c ≡ Splice path at old_bytes new_bytes rest seal
  pub all : fields ≡ members_of (splice_members path old new rest)

splice_bytes_found : (at : ℕ) (seal : Option Seal) (fields : Members) (c : Change)
    → splice_bytes_in at seal fields ≡ Some c → SpliceBytes at seal fields c
unfolding splice_bytes_in
splice_bytes_found at seal fields c e =
    let kind = bind_some _ (field_in (if_text (codes "splice")) (codes "kind") fields) c e in
    let new = bind_some _ (field_in hex_in (codes "new") kind.0.1) c kind.2 in
    let old = bind_some _ (field_in hex_in (codes "old") new.0.1) c new.2 in
    let written = field_found hex_in (codes "new") kind.0.1 new.0 new.1 in
    let removed = field_found hex_in (codes "old") new.0.1 old.0 old.1 in
    let end = splice_end_found at new.0.0 old.0.0 seal old.0.1 c old.2 in
    let second =
    written.2 ∙ ap (member (codes "new") written.0) (removed.2 ∙ ap (member (codes "old") removed.0) end.3) in
    record {
      path = end.0;
      rest = end.1;
      new_bytes = new.0.0;
      old_bytes = old.0.0;
      new = written.0;
      old = removed.0;
      is_new = hex_found written.0 new.0.0 written.1;
      is_old = hex_found removed.0 old.0.0 removed.1;
      change = end.2;
      all = field_is (if_text (codes "splice")) (λ _. string (codes "splice")) (if_text_found (codes "splice"))
          (codes "kind") fields kind.0 kind.1 ∙ ap (member (codes "kind") (string (codes "splice"))) second;
    }

-- a splice's members, given what stands in front of its kind
splice_value : (sealed : Bool) (after before : Option (List ℕ)) (at : ℕ) (d : Data)
    (fields first second rest : Members) (c : Change)
    → IsInFront sealed (codes "after") after fields first → first ≡ member (codes "at") (count at) second
    → IsInFront sealed (codes "before") before second rest
    → SpliceBytes at (seal_of before after) rest c → d ≡ object fields → IsValueIn sealed c d
splice_value sealed None None at d fields first second rest c a is b bytes e =
    subst (λ (x : Change). IsValueIn sealed x d) (sym bytes.change) (
      (
        bytes.new,
        bytes.old,
        bytes.is_new,
        bytes.is_old,
        e ∙ ap object (a.1 ∙ is ∙ ap (member (codes "at") (count at)) (b.1 ∙ bytes.all)),
      ),
      sym a.0,
    )
splice_value sealed (Some after) (Some before) at d fields first second rest c a is b bytes e =
    let inner = b.3 ∙ ap (member (codes "before") b.1) bytes.all in
    subst (λ (x : Change). IsValueIn sealed x d) (sym bytes.change) (
      (
        bytes.new,
        bytes.old,
        bytes.is_new,
        bytes.is_old,
        a.1,
        b.1,
        a.2,
        b.2,
        e ∙ ap object (a.3 ∙ ap (member (codes "after") a.1) (is ∙ ap (member (codes "at") (count at)) inner)),
      ),
      sym a.0,
    )
splice_value sealed None (Some before) at d fields first second rest c a is b bytes e =
    absurd (false≢true (sym a.0 ∙ b.0))
splice_value sealed (Some after) None at d fields first second rest c a is b bytes e =
    absurd (false≢true (sym b.0 ∙ a.0))

splice_found : (sealed : Bool) (d : Data) (c : Change) → splice_in sealed d ≡ Some c → IsValueIn sealed c d
unfolding splice_in
splice_found sealed d c e =
    let fields = bind_some _ (as_object d) c e in
    let after = bind_some _ (first_digest sealed (codes "after") fields.0) c fields.2 in
    let at = bind_some _ (field_in number_in (codes "at") after.0.1) c after.2 in
    let before = bind_some _ (first_digest sealed (codes "before") at.0.1) c at.2 in
    splice_value sealed after.0.0 before.0.0 at.0.0 d fields.0 after.0.1 at.0.1 before.0.1 c
    (first_digest_found sealed (codes "after") fields.0 after.0 after.1) (field_is number_in count number_found
    (codes "at") after.0.1 at.0 at.1) (first_digest_found sealed (codes "before") at.0.1 before.0 before.1)
    (splice_bytes_found at.0.0 (seal_of before.0.0 after.0.0) before.0.1 c before.2) (object_found d fields.0 fields.1)

-- one of three readers gave the value
of_kind : (b1 b2 b3 : Bool) (x y z : Option Change) (c : Change) → cond b1 x (cond b2 y (cond b3 z None)) ≡ Some c
    → (x ≡ Some c) ⊎ ((y ≡ Some c) ⊎ (z ≡ Some c))
of_kind true b2 b3 x y z c e = inl e
of_kind false true b3 x y z c e = inr (inl e)
of_kind false false true x y z c e = inr (inr e)
of_kind false false false x y z c e = absurd (none-some c e)

pub change_found : (sealed : Bool) (d : Data) (c : Change) → change_in sealed d ≡ Some c → IsValueIn sealed c d
unfolding change_in
change_found sealed d c e =
    let kind = bind_some _ (get (codes "kind") d) c e in
    let name = bind_some _ (as_str kind.0) c kind.2 in
    elim (of_kind (bytes_eq name.0 (codes "make")) (bytes_eq name.0 (codes "drop")) (bytes_eq name.0 (codes "splice"))
    (make_in sealed d) (drop_in sealed d) (splice_in sealed d) c name.2) [
      | inl make ↦ make_found sealed d c make
      | inr other ↦ elim other [
        | inl dropped ↦ drop_found sealed d c dropped
        | inr spliced ↦ splice_found sealed d c spliced
      ]
    ]

change_again : (c : Change) (d : Data) → IsChangeValue c d → is_path (path_of c) ≡ true
    → change_in (is_sealed c) d ≡ Some c
unfolding change_in make_in drop_in whole_in splice_in splice_bytes_in splice_end_in first_digest
change_again (Make path new None) d h is = rw h.2 (rw (hex_again h.0 new h.1, is) refl)
change_again (Make path new (Some after)) d h is =
    rw h.4 (rw (digest_again h.2 after h.3, hex_again h.0 new h.1, is) refl)
change_again (Drop path old None) d h is = rw h.2 (rw (hex_again h.0 old h.1, is) refl)
change_again (Drop path old (Some before)) d h is =
    rw h.4 (rw (digest_again h.2 before h.3, hex_again h.0 old h.1, is) refl)
change_again (Splice path at old new rest None) d h is =
    rw h.4 (rw (hex_again h.0 new h.2, hex_again h.1 old h.3, is) refl)
change_again (Splice path at old new rest (Some seal)) d h is =
    rw h.8 (rw (
      digest_again h.4 seal.after h.6,
      digest_again h.5 seal.before h.7,
      hex_again h.0 new h.2,
      hex_again h.1 old h.3,
      is,
    ) refl)

abbrev AreValuesIn : Bool → List Change → List Data → Type 0
AreValuesIn sealed cs values = AllByRecursion (λ c. is_sealed c ≡ sealed) cs × AllZip IsChangeValue cs values

changes_found_in : (sealed : Bool) (ds : Items) (cs : List Change) → read_items (change_in sealed) ds ≡ Some cs
    → (values : List Data) × (ds ≡ items_of values) × AreValuesIn sealed cs values
unfolding read_items
changes_found_in sealed no_items cs e =
    ([], refl, subst (λ (xs : List Change). AreValuesIn sealed xs []) (same_Some [] cs e) (tt, tt))
changes_found_in sealed (item d ds) cs e =
    let first = bind_some _ (change_in sealed d) cs e in
    let others = bind_some _ (read_items (change_in sealed) ds) cs first.2 in
    let rest = changes_found_in sealed ds others.0 others.1 in
    let value = change_found sealed d first.0 first.1 in (
      d ∷ rest.0,
      ap (item d) rest.1,
      subst (λ (xs : List Change). AreValuesIn sealed xs (d ∷ rest.0)) (same_Some (first.0 ∷ others.0) cs others.2)
          ((value.1, rest.2.0), (value.0, rest.2.1)),
    )

changes_again_in : (sealed : Bool) (cs : List Change) (values : List Data) → AllZip IsChangeValue cs values
    → AllByRecursion (λ c. is_sealed c ≡ sealed) cs → HavePaths cs
    → read_items (change_in sealed) (items_of values) ≡ Some cs
unfolding read_items
changes_again_in sealed [] [] h are sound = refl
changes_again_in sealed [] (d ∷ ds) h are sound = absurd h
changes_again_in sealed (c ∷ cs) [] h are sound = absurd h
changes_again_in sealed (c ∷ cs) (d ∷ ds) h are sound =
    let is_good = λ (x : Change). IsTrue (is_path (path_of x)) in
    let first : change_in sealed d ≡ Some c =
    subst (λ (b : Bool). change_in b d ≡ Some c) are.0 (change_again c d h.0 (All-head is_good c cs sound)) in
    rw (first, changes_again_in sealed cs ds h.1 are.1 (All-tail is_good c cs sound)) refl

pub changes_found : (sealed : Bool) (d : Data) (cs : List Change) → changes_in sealed d ≡ Some cs
    → (values : List Data) × (d ≡ array_of values) × AreValuesIn sealed cs values
unfolding changes_in
changes_found sealed d cs e =
    let items = bind_some _ (as_array d) cs e in
    let rest = changes_found_in sealed items.0 cs items.2 in
    (rest.0, array_found d items.0 items.1 ∙ ap array rest.1, rest.2)

pub changes_again : (sealed : Bool) (cs : List Change) (values : List Data) → AllZip IsChangeValue cs values
    → AreAllSealed sealed cs → HavePaths cs → changes_in sealed (array_of values) ≡ Some cs
unfolding changes_in
changes_again sealed cs values h are sound =
    let IsAs : Change → Type 0 = λ c. is_sealed c ≡ sealed in
    changes_again_in sealed cs values h (recursion_from_All IsAs cs are) sound

-- ---- an entry

-- an entry without its changes
abbrev pub Frame : Type 0
Frame = CommandName × Bool × ℕ

abbrev pub entry_of : List Change → Frame → Entry
entry_of cs f = record { changes = cs; command = f.0; when = f.2 }

abbrev pub frame_value : Data → Frame → Data
frame_value changes f = object_of (
    (codes "changes", changes) ∷
    (codes "command", string (command_name f.0)) ∷
    (codes "format", count (format_number f.1)) ∷
    (codes "when", count f.2) ∷ [])

known_again : (sealed : Bool) (command : CommandName) → knows sealed command ≡ true → if_known sealed command ≡ Some tt
known_again sealed command is = ap (λ b. cond b (Some tt) None) is

pub frame_again : (changes : Data) (f : Frame) → knows f.1 f.0 ≡ true → f.2 ≤ 250_000_000_000
    → frame_in (frame_value changes f) ≡ Some f
unfolding frame_in
frame_again changes f known when =
    rw (command_again f.0, format_again f.1, known_again f.1 f.0 known, moment_again f.2 when) refl

-- the entry that a value is read as
abbrev entry_in : Data → Option Entry
entry_in d = do
  fields ← as_object d
  changes ← first_member (codes "changes") fields
  frame ← frame_in d
  cs ← changes_in frame.1 changes.0
  Some (entry_of cs frame)

-- a value of an entry is read as the entry
entry_again : (d : Data) (entry : Entry) → HavePaths entry.changes → entry.when ≤ 250_000_000_000 → IsEntryValue entry d
    → entry_in d ≡ Some entry
entry_again d entry paths when h =
    rw h.5 (rw (
      frame_again (array_of h.1) (entry.command, h.0, entry.when) h.3 when,
      changes_again h.0 entry.changes h.1 h.4 h.2 paths,
    ) refl)

-- a text stands for one entry at most
pub one_entry : (text : List ℕ) (a b : Entry) → IsGoodEntry text a → IsGoodEntry text b → a ≡ b
one_entry text a b is_a is_b =
    let same = same_json text is_a.value.0 is_b.value.0 is_a.value.1 is_b.value.1 in
    same_Some a b (sym (entry_again is_a.value.0 a is_a.paths is_a.when is_a.value.2) ∙ ap entry_in same
    ∙ entry_again is_b.value.0 b is_b.paths is_b.when is_b.value.2)
