-- The items of an array, and the members of an object, as far as a loop has read them.
use Rattle.std.proofs.Common.{◌≡◌, ℕ, ◌-◌, ◌<◌, ◌≤◌, List, [], ◌∷◌, ◌++◌, length, Some, None, refl, ap, ◌∙◌, arith}
use Rattle.json.specs.Token.{Token}
use Rattle.json.specs.Json as json
use Rattle.json.specs.Json.{Parse, parse_map, after_end_array, read_key, items, members}
use Rattle.json.proofs.Grammar.{read_key-shorter}
use Rattle.serde_json.specs.Data.{Data, Members, no_members, put}
use Rattle.serde_json.specs.Read.{of_json, of_items, of_members, converted}
use Rattle.serde_json.specs.View.{items_of}
use Rattle.reuse_json.proofs.JsonTurns.{item_read, item_refused, items_over}
use Rattle.reuse_json.proofs.JsonTurns.{member_read, member_refused, key_refused, members_over}
use Rattle.reuse_json.proofs.Trimming.{before, before-no_items, none_before, one_more_item}

-- of all tokens, those that are left come behind these items
pub record ItemsRead (p : Parse json.Json) (all left : List Token) (ds : List Data) : Type 0 where
  pub most : ℕ
  pub enough : length left ≤ most
  pub rest : converted of_items (items p (length all) all)
      ≡ parse_map (before ds) (converted of_items (items p most left))
  pub shorter : length left ≤ length all

pub no_item_read : (p : Parse json.Json) (all : List Token) → ItemsRead p all all []
no_item_read p all = record {
  most = length all;
  enough = omega arith;
  rest = none_before _;
  shorter = omega arith;
}

pub one_item_read : (p : Parse json.Json) (all left mid r : List Token) (ds : List Data) (d : Data)
    → ItemsRead p all left ds → (after_end_array left ≡ None) × (mid ≡ left) → converted of_json (p mid) ≡ Some (d, r)
    → length r < length mid → ItemsRead p all r (ds ++ d ∷ [])
one_item_read p all left mid r ds d read going e shorter =
    let less : length r < length left = rw (← going.1) shorter in
    let some : 0 < read.most = omega (arith, read.enough, less) in
    record {
      most = read.most - 1;
      enough = omega (arith, read.enough, less);
      rest = read.rest ∙ ap (parse_map (before ds)) (item_read p read.most left r d some going.0 (rw (← going.1) e))
          ∙ one_more_item ds d _;
      shorter = omega (arith, read.shorter, less);
    }

pub item_not_read : (p : Parse json.Json) (all left mid : List Token) (ds : List Data)
    → ItemsRead p all left ds → (after_end_array left ≡ None) × (mid ≡ left) → converted of_json (p mid) ≡ None
    → converted of_items (items p (length all) all) ≡ None
item_not_read p all left mid ds read going e =
    read.rest ∙ ap (parse_map (before ds)) (item_refused p read.most left going.0 (rw (← going.1) e))

pub items_read : (p : Parse json.Json) (all left r : List Token) (ds : List Data)
    → ItemsRead p all left ds → after_end_array left ≡ Some r
    → converted of_items (items p (length all) all) ≡ Some (items_of ds, r)
items_read p all left r ds read over =
    read.rest ∙ ap (parse_map (before ds)) (items_over p read.most left r read.enough over)
    ∙ ap (λ xs. Some (xs, r)) (before-no_items ds)

-- of all tokens, those that are left come behind these members
pub record MembersRead (p : Parse json.Json) (all left : List Token) (ms : Members) : Type 0 where
  pub most : ℕ
  pub enough : length left ≤ most
  pub rest : converted (λ js. of_members js no_members) (members p (length all) all)
      ≡ converted (λ js. of_members js ms) (members p most left)
  pub shorter : length left ≤ length all

pub no_member_read : (p : Parse json.Json) (all : List Token) → MembersRead p all all no_members
no_member_read p all = record {
  most = length all;
  enough = omega arith;
  rest = refl;
  shorter = omega arith;
}

pub one_member_read : (p : Parse json.Json) (all left s r : List Token) (ms : Members) (k : List ℕ) (d : Data)
    → MembersRead p all left ms → read_key left ≡ Some (Some k, s) → converted of_json (p s) ≡ Some (d, r)
    → length r < length s → MembersRead p all r (put k d ms)
one_member_read p all left s r ms k d read named e shorter =
    let less = read_key-shorter left (Some k) s named in
    let some : 0 < read.most = omega (arith, read.enough, less) in
    record {
      most = read.most - 1;
      enough = omega (arith, read.enough, less, shorter);
      rest = read.rest ∙ member_read p ms read.most k left s r d some named e;
      shorter = omega (arith, read.shorter, less, shorter);
    }

pub member_not_read : (p : Parse json.Json) (all left s : List Token) (ms : Members) (k : List ℕ)
    → MembersRead p all left ms → read_key left ≡ Some (Some k, s) → converted of_json (p s) ≡ None
    → converted (λ js. of_members js no_members) (members p (length all) all) ≡ None
member_not_read p all left s ms k read named e = read.rest ∙ member_refused p ms read.most k left s named e

pub key_not_read : (p : Parse json.Json) (all left : List Token) (ms : Members)
    → MembersRead p all left ms → read_key left ≡ None
    → converted (λ js. of_members js no_members) (members p (length all) all) ≡ None
key_not_read p all left ms read none = read.rest ∙ key_refused p ms read.most left none

pub members_read : (p : Parse json.Json) (all left r : List Token) (ms : Members)
    → MembersRead p all left ms → read_key left ≡ Some (None, r)
    → converted (λ js. of_members js no_members) (members p (length all) all) ≡ Some (ms, r)
members_read p all left r ms read over = read.rest ∙ members_over p ms read.most left r read.enough over
