use Rattle.std.proofs.Common.{◌≡◌, List, [], ◌∷◌, ◌++◌, ℕ, ap, ap₂, ◌∙◌}
use Rattle.json.specs.Token.{Token, string}
use Rattle.json.specs.Print.{print, quoted}
use Rattle.reuse_json.proofs.Appending.{at_last, print_string}
use Rattle.reuse_json.proofs.json_writing.append_escaped.Goals as goal

pub returns : goal.returns
returns c =
    let content = c.args.content.now in
    let text = c.args.text.now.items in
    let tokens : c.string.new.self.tokens ≡ string content ∷ [] =
    c.in_ok-string.ensures.ok ∙ ap (λ (ts : List Token). ts ++ string content ∷ []) c.new-writer.ensures.tokens in
    let before : c.string.new.self.before ≡ [] =
    c.in_ok-string.ensures.room.0 ∙ c.new-writer.ensures.before ∙ c.new.ensures.items in
    let written = c.as_slice.ensures.value ∙ c.into_inner-string.ensures.items
    ∙ ap₂ (λ (b : List ℕ) (ts : List Token). b ++ print ts) before tokens ∙ print_string content in
    at_last c.extend_from_slice.result text c.extend_from_slice.new.self.items c.as_slice.result.now
    (text ++ quoted content) c.extend_from_slice.ensures.items (ap (λ (l : List ℕ). text ++ l) written)
