use Rattle.std.proofs.Common.{◌≡◌, [], ◌∷◌, length, ap, ◌∙◌, arith}
use Rattle.std.proofs.lemmas.Result.{IfOk-weaker}
use Rattle.json.specs.Json.{parse_map, value}
use Rattle.json.specs.Reads.{token_of}
use Rattle.json.proofs.Grammar.{value_is}
use Rattle.serde_json.specs.Data.{array}
use Rattle.serde_json.specs.Read.{of_json, converted}
use Rattle.reuse_tree.proofs.JsonKinds.{no_array}
use Rattle.reuse_json.proofs.JsonTurns.{array_begun}
use Rattle.reuse_tree.proofs.TrimmedEntries.{no_list, of_list}
use Rattle.reuse_tree.proofs.journal.changes_reading.list_in_value.Goals as goal

pub returns-in_err-token-clause-refused : goal.returns-in_err-token-clause-refused
returns-in_err-token-clause-refused c refused =
    let empty : c.args.reader.now ≡ [] = grind arith in
    ap (converted of_json) (ap (value 126) empty ∙ value_is 126 [])

pub returns-in-BeginArray-clause-ok : goal.returns-in-BeginArray-clause-ok
returns-in-BeginArray-clause-ok c =
    let s = c.next.new.self in
    let first : c.args.reader.now ≡ token_of c.in_ok-token.token ∷ s = grind arith in
    let begun = array_begun 126 (omega arith) _ s (first ∙ ap (λ k. token_of k ∷ s) c.in-BeginArray.is) in
    IfOk-weaker c.change_list.result _ _ (λ found h.
    (array h.0, begun ∙ ap (parse_map array) h.1, h.2 ∙ of_list c.args.sealed h.0)) c.change_list.ensures.ok

pub returns-in-BeginArray-clause-refused : goal.returns-in-BeginArray-clause-refused
returns-in-BeginArray-clause-refused c refused =
    let s = c.next.new.self in
    let first : c.args.reader.now ≡ token_of c.in_ok-token.token ∷ s = grind arith in
    let begun = array_begun 126 (omega arith) _ s (first ∙ ap (λ k. token_of k ∷ s) c.in-BeginArray.is) in
    begun ∙ ap (parse_map array) (c.change_list.ensures.refused refused)

pub returns : goal.returns
returns c =
    let s = c.next.new.self in
    let first : c.args.reader.now ≡ token_of c.in_ok-token.token ∷ s = grind arith in
    let done = c.in_ok-read_from.ensures in
    let d = done.ok.0 in
    let none = no_array 126
    (omega arith) s c.read_from.new.reader d c.in_ok-token.token c.in_default.not-BeginArray done.ok.1 in record {
      ok = (d, ap (λ ts. converted of_json (value 126 ts)) first ∙ done.ok.1, no_list c.args.sealed d none);
      shorter = omega (arith, done.shorter, ap length first);
      refused = λ never. absurd (cc);
    }
