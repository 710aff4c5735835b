use Rattle.std.proofs.Common.{◌≡◌, [], ◌∷◌, Some, Err, IsUtf8, is_some, true, option_map, ap, sym, ◌∙◌, arith}
use Rattle.json.specs.Lex.{tokens}
use Rattle.json.specs.Reads.{token_of}
use Rattle.serde_json.specs.Data.{object}
use Rattle.reuse_json.specs.EntryReading.{listed_in}
use Rattle.reuse_json.specs.Json.{IsJson}
use Rattle.reuse_tree.proofs.JsonKinds.{empty_text, more_left, object_and_more, object_read, object_refused, other_text}
use Rattle.reuse_json.proofs.Trimming.{same_fault}
use Rattle.reuse_tree.proofs.TrimmedEntries.{no_object_read, same_members}
use Rattle.reuse_tree.proofs.journal.changes_reading.read_changes.Goals as goal

pub returns-in_err-token-clause-refused : goal.returns-in_err-token-clause-refused
returns-in_err-token-clause-refused c refused ms is =
    let empty : tokens c.args.text.now ≡ [] = grind arith in
    no_object_read c.args.text.now ms (empty_text c.args.text.now empty) is

pub returns-in_err-found-clause-refused : goal.returns-in_err-found-clause-refused
returns-in_err-found-clause-refused c refused ms is =
    let s = c.next.new.self in
    let first : tokens c.args.text.now ≡ token_of c.in_ok-token.token ∷ s = grind arith in
    let opened = first ∙ ap (λ k. token_of k ∷ s) c.in-BeginObject.is in
    let fault = same_fault _ c.in_err-found.field-0.0 c.from_residual-in_err-found.ensures.1 refused in
    no_object_read c.args.text.now ms
    (object_refused c.args.text.now s opened (c.in_err-found.ensures.refused (ap Err fault))) is

pub returns-then-is_some-clause-refused : goal.returns-then-is_some-clause-refused
returns-then-is_some-clause-refused c refused ms is =
    let s = c.next.new.self in
    let first : tokens c.args.text.now ≡ token_of c.in_ok-token.token ∷ s = grind arith in
    let opened = first ∙ ap (λ k. token_of k ∷ s) c.in-BeginObject.is in
    let done = c.in_ok-found.ensures.ok in
    let some : is_some c.next-2.result ≡ true = grind arith in
    let left = more_left c.next-2.result c.list_in_object.new.reader c.next-2.new.self c.next-2.ensures.value some in
    no_object_read c.args.text.now ms (object_and_more c.args.text.now s done.0 left.0 c.next-2.new.self opened
    (done.1 ∙ ap (λ r. Some (done.0, r)) left.1)) is

pub returns-in-Some-clause-ok : goal.returns-in-Some-clause-ok
returns-in-Some-clause-ok c =
    let s = c.next.new.self in
    let first : tokens c.args.text.now ≡ token_of c.in_ok-token.token ∷ s = grind arith in
    let opened = first ∙ ap (λ k. token_of k ∷ s) c.in-BeginObject.is in
    let done = c.in_ok-found.ensures.ok in
    let end : c.list_in_object.new.reader ≡ [] = grind arith in
    let utf8 : IsUtf8 c.args.text.now = grind arith in
    let reads = object_read c.args.text.now s done.0 opened (done.1 ∙ ap (λ r. Some (done.0, r)) end) in
    (done.0, record { utf8 = utf8; reads = reads }, sym done.2 ∙ ap (option_map (λ v. v.items)) c.in-Some.is)

pub returns-clause-refused : goal.returns-clause-refused
returns-clause-refused c refused ms is =
    let s = c.next.new.self in
    let first : tokens c.args.text.now ≡ token_of c.in_ok-token.token ∷ s = grind arith in
    let opened = first ∙ ap (λ k. token_of k ∷ s) c.in-BeginObject.is in
    let done = c.in_ok-found.ensures.ok in
    let end : c.list_in_object.new.reader ≡ [] = grind arith in
    let reads = object_read c.args.text.now s done.0 opened (done.1 ∙ ap (λ r. Some (done.0, r)) end) in
    let also : IsJson c.args.text.now (object done.0) = record { utf8 = is.utf8; reads = reads } in
    ap (listed_in c.args.sealed) (same_members c.args.text.now ms done.0 is also) ∙ sym done.2
    ∙ ap (option_map (λ v. v.items)) c.in-None.is

pub returns-in_default-token : goal.returns-in_default-token
returns-in_default-token c =
    let s = c.next.new.self in
    let first : tokens c.args.text.now ≡ token_of c.in_ok-token.token ∷ s = grind arith in record {
      ok = tt;
      refused = λ never ms is. absurd
          (other_text c.args.text.now s c.in_ok-token.token ms first c.in_default-token.not-BeginObject is.reads);
    }
