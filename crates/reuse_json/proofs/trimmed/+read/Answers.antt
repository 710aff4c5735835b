use Rattle.std.proofs.Common.{◌≡◌, [], ◌∷◌, ◌++◌, length, map, None, Err, inl, string_bytes, ap, ap₂, ◌∙◌, subst, arith}
use Rattle.std.proofs.Common.{rules, List, ℕ}
use Rattle.std.proofs.lemmas.Result.{IfOk-weaker}
use Rattle.json.specs.Token.{Token}
use Rattle.json.specs.Json.{parse_map, value}
use Rattle.json.specs.Reads.{token_of}
use Rattle.json.proofs.Grammar.{value_is}
use Rattle.serde_json.specs.Data.{null, boolean, string, array, object, no_members, put}
use Rattle.serde_json.specs.Read.{of_json, converted}
use Rattle.serde_json.specs.View.{view, items_of, members_view}
use Rattle.serde_json.specs.declared.value.Value.{String, Bool, Null, the_lemmas}
use Rattle.reuse_json.proofs.JsonTurns.{array_begun, object_begun}
use Rattle.reuse_json.proofs.ReadSoFar.{no_item_read, one_item_read, item_not_read, items_read}
use Rattle.reuse_json.proofs.ReadSoFar.{no_member_read, one_member_read, member_not_read, key_not_read, members_read}
use Rattle.reuse_json.specs.Trimmed.{trim}
use Rattle.reuse_json.proofs.Trimming.{kept_more, kept_all, KeptMembers}
use Rattle.reuse_json.proofs.Trimming.{member_more, members_all, number_read, number_refused, same_fault}
use Rattle.reuse_json.proofs.trimmed.+read.Goals as goal

pub read-returns-in_err-token-clause-refused : goal.read-returns-in_err-token-clause-refused
read-returns-in_err-token-clause-refused t c refused =
    let empty : c.args.reader.now ≡ [] = grind arith in
    ap (converted of_json) (ap (value c.args.depth) empty ∙ value_is c.args.depth [])

pub read_from-returns-then-depth-eq0-clause-refused : goal.read_from-returns-then-depth-eq0-clause-refused
unfolding value
read_from-returns-then-depth-eq0-clause-refused t c never =
    let none : c.args.depth ≡ 0 = omega arith in
    ap (converted of_json) (ap₂ value none (ap (λ k. token_of k ∷ c.args.reader.now) c.in-BeginArray.is))

pub read_from-returns-then-depth-eq0-2-clause-refused : goal.read_from-returns-then-depth-eq0-2-clause-refused
unfolding value
read_from-returns-then-depth-eq0-2-clause-refused t c never =
    let none : c.args.depth ≡ 0 = omega arith in
    ap (converted of_json) (ap₂ value none (ap (λ k. token_of k ∷ c.args.reader.now) c.in-BeginObject.is))

pub read_from-returns-in_ok-from_str-in-String-clause-ok : goal.read_from-returns-in_ok-from_str-in-String-clause-ok
read_from-returns-in_ok-from_str-in-String-clause-ok t c =
    let is : token_of c.args.token ∷ c.args.reader.now ≡ Token.string c.in-String.text.now ∷ c.args.reader.now =
    grind arith in
    let seen : view (String c.in_ok-from_str-in-String.field-0) ≡ string c.in-String.text.now =
    search (rules, the_lemmas) in
    (string c.in-String.text.now, ap (converted of_json) (ap (value c.args.depth) is ∙ value_is c.args.depth _), seen)

pub read_from-returns-in-Number-clause-ok : goal.read_from-returns-in-Number-clause-ok
read_from-returns-in-Number-clause-ok t c =
    let is : token_of c.args.token ∷ c.args.reader.now ≡ Token.number c.in-Number.text.now ∷ c.args.reader.now =
    grind arith in
    number_read c.number_value.result c.args.depth c.args.room c.in-Number.text.now _ c.args.reader.now is
    c.number_value.ensures

pub read_from-returns-in-Number-clause-refused : goal.read_from-returns-in-Number-clause-refused
read_from-returns-in-Number-clause-refused t c refused =
    let is : token_of c.args.token ∷ c.args.reader.now ≡ Token.number c.in-Number.text.now ∷ c.args.reader.now =
    grind arith in
    number_refused c.number_value.result c.args.depth c.in-Number.text.now _ c.args.reader.now is
    c.number_value.ensures refused

pub read_from-returns-in-Bool-clause-ok : goal.read_from-returns-in-Bool-clause-ok
read_from-returns-in-Bool-clause-ok t c =
    let is : token_of c.args.token ∷ c.args.reader.now ≡ Token.boolean c.in-Bool.b ∷ c.args.reader.now = grind arith in
    let seen : view (Bool c.in-Bool.b) ≡ boolean c.in-Bool.b = search (rules, the_lemmas) in
    (boolean c.in-Bool.b, ap (converted of_json) (ap (value c.args.depth) is ∙ value_is c.args.depth _), seen)

pub read_from-returns-in-Null-clause-ok : goal.read_from-returns-in-Null-clause-ok
read_from-returns-in-Null-clause-ok t c =
    let is : token_of c.args.token ∷ c.args.reader.now ≡ Token.null ∷ c.args.reader.now = grind arith in
    let seen : view Null ≡ null = search (rules, the_lemmas) in
    (null, ap (converted of_json) (ap (value c.args.depth) is ∙ value_is c.args.depth _), seen)

pub read_from-returns-in-EndObject-clause-refused : goal.read_from-returns-in-EndObject-clause-refused
read_from-returns-in-EndObject-clause-refused t c never =
    let none : value c.args.depth (token_of c.args.token ∷ c.args.reader.now) ≡ None =
    rw (value_is c.args.depth (token_of c.args.token ∷ c.args.reader.now)) (grind arith) in
    ap (converted of_json) none

pub read_from-returns-else-depth-eq0-clause-ok : goal.read_from-returns-else-depth-eq0-clause-ok
read_from-returns-else-depth-eq0-clause-ok t c =
    let begun =
    array_begun c.args.depth (omega arith) _ _ (ap (λ k. token_of k ∷ c.args.reader.now) c.in-BeginArray.is) in
    IfOk-weaker c.read_items.result _ _
    (λ v h. (array h.0, begun ∙ ap (parse_map array) h.1, h.2)) c.read_items.ensures.ok

pub read_from-returns-else-depth-eq0-clause-refused : goal.read_from-returns-else-depth-eq0-clause-refused
read_from-returns-else-depth-eq0-clause-refused t c refused =
    let begun =
    array_begun c.args.depth (omega arith) _ _ (ap (λ k. token_of k ∷ c.args.reader.now) c.in-BeginArray.is) in
    begun ∙ ap (parse_map array) (c.read_items.ensures.refused refused)

pub read_from-returns-else-depth-eq0-2-clause-ok : goal.read_from-returns-else-depth-eq0-2-clause-ok
read_from-returns-else-depth-eq0-2-clause-ok t c =
    let begun =
    object_begun c.args.depth (omega arith) _ _ (ap (λ k. token_of k ∷ c.args.reader.now) c.in-BeginObject.is) in
    IfOk-weaker c.read_members.result _ _
    (λ v h. (object h.0, begun ∙ ap (parse_map object) h.1, h.2)) c.read_members.ensures.ok

pub read_from-returns-else-depth-eq0-2-clause-refused : goal.read_from-returns-else-depth-eq0-2-clause-refused
read_from-returns-else-depth-eq0-2-clause-refused t c refused =
    let begun =
    object_begun c.args.depth (omega arith) _ _ (ap (λ k. token_of k ∷ c.args.reader.now) c.in-BeginObject.is) in
    begun ∙ ap (parse_map object) (c.read_members.ensures.refused refused)

pub read_items-items-init : goal.read_items-items-init
read_items-items-init t c = ([], no_item_read _ _, inl (ap (map view) c.new-found.ensures.items))

pub read_items-returns-in_err-item-clause-refused : goal.read_items-returns-in_err-item-clause-refused
read_items-returns-in_err-item-clause-refused t c refused =
    let l = c.items in
    let fault = same_fault _ c.in_err-item.field-0.0 c.from_residual.ensures.1 refused in
    item_not_read (value c.args.depth) _ _ _ l.invariant.0 l.invariant.1 (grind arith)
    (c.in_err-item.ensures.refused (ap Err fault))

pub read_items-items-preserved : goal.read_items-items-preserved
read_items-items-preserved t c =
    let l = c.items in
    let ds = l.invariant.0 in
    let done = c.in_ok-item.ensures in
    let d = done.ok.0 in (
      ds ++ d ∷ [],
      one_item_read (value c.args.depth) _ _ _ _ ds d l.invariant.1 (grind arith) done.ok.1 done.shorter,
      kept_more c.args.room ds d l.found.items c.keep_item.new.found.items c.in_ok-item.item
          (done.ok.2 ∙ ap (λ room. trim room d) c.inner.ensures) c.in_ok-keep_item.ensures l.invariant.2,
    )

pub read_items-returns-clause-ok : goal.read_items-returns-clause-ok
read_items-returns-clause-ok t c =
    let l = c.items in
    let ds = l.invariant.0 in (
      items_of ds,
      items_read (value c.args.depth) _ _ _ ds l.invariant.1 (grind arith),
      kept_all c.args.room ds l.found.items c.array_of.result c.array_of.ensures l.invariant.2,
    )

pub read_members-members-init : goal.read_members-members-init
read_members-members-init t c = (no_members, no_member_read _ _, inl (ap members_view c.new-found.ensures.empty))

pub read_members-returns-in_err-name-clause-refused : goal.read_members-returns-in_err-name-clause-refused
read_members-returns-in_err-name-clause-refused t c refused =
    let l = c.members in
    key_not_read (value c.args.depth) _ _ l.invariant.0 l.invariant.1 c.in_err-name.ensures.value

pub read_members-returns-in_err-member-clause-refused : goal.read_members-returns-in_err-member-clause-refused
read_members-returns-in_err-member-clause-refused t c refused =
    let l = c.members in
    let fault = same_fault _ c.in_err-member.field-0.0 c.from_residual-in_err-member.ensures.1 refused in
    member_not_read (value c.args.depth) _ _ c.next_key.new.self l.invariant.0 c.in-Some.name.now l.invariant.1
    (grind arith) (c.in_err-member.ensures.refused (ap Err fault))

pub read_members-members-preserved : goal.read_members-members-preserved
read_members-members-preserved t c =
    let l = c.members in
    let ms = l.invariant.0 in
    let k = c.in-Some.name.now in
    let done = c.in_ok-member.ensures in
    let d = done.ok.0 in
    let copied : string_bytes c.in_ok-key.key ≡ k = search rules in
    let seen = done.ok.2 ∙ ap (λ room. trim room d) c.inner.ensures in (
      put k d ms,
      one_member_read (value c.args.depth) _ _ c.next_key.new.self _ ms k d l.invariant.1 (grind arith) done.ok.1
          done.shorter,
      subst (λ (name : List ℕ). KeptMembers c.args.room (put name d ms) c.keep_member.new.found.entries) copied
          (member_more c.args.room c.in_ok-key.key d c.in_ok-member.member ms l.found.entries
          c.keep_member.new.found.entries seen c.in_ok-keep_member.ensures l.invariant.2),
    )

pub read_members-returns-clause-ok : goal.read_members-returns-clause-ok
read_members-returns-clause-ok t c =
    let l = c.members in
    let ms = l.invariant.0 in (
      ms,
      members_read (value c.args.depth) _ _ c.next_key.new.self ms l.invariant.1 (grind arith),
      members_all c.args.room ms l.found.entries c.object_of.result c.object_of.ensures l.invariant.2,
    )
