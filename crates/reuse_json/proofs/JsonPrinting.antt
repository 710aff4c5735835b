-- A value with no float is read back from its compact text.
use Rattle.std.proofs.Common.{◌≡◌, ℕ, ◌≤◌, List, [], ◌∷◌, ◌++◌, map, false, Some, Option, option_and_then, refl, sym}
use Rattle.std.proofs.Common.{ap, ap₂, ◌∙◌, append_assoc, append-nil}
use Rattle.std.specs.List.{join_with_byte}
use Rattle.json.specs.Token.{Token}
use Rattle.json.specs.Lex.{tokens}
use Rattle.json.specs.Json as json
use Rattle.json.specs.Tree as tree
use Rattle.json.proofs.Printed.Tokens.{tokens-print}
use Rattle.json.proofs.Printed.Trees.{value-json_tokens, ArePrintable-json_tokens}
use Rattle.serde_json.specs.Data.{Data}
use Rattle.serde_json.specs.Read.{read, of_json, max_depth}
use Rattle.serde_json.specs.View.{items_of}
use Rattle.serde_json.specs.Written.{outline, compact_text, items_text}
use Rattle.serde_json.proofs.Texts.{print-outline}

abbrev whole : Option (json.Json × List Token) → Option Data
whole o = option_and_then of_json (option_and_then (λ p. json.if_last p.0 p.1) o)

-- what is needed to read a value back
pub record IsReadable (d : Data) : Type 0 where
  pub shallow : tree.depth (outline d) ≤ max_depth
  pub numbers : tree.HasNumbers (outline d)
  pub again : of_json (outline d) ≡ Some d

pub read-compact_text : (d : Data) → IsReadable d → read (compact_text d) ≡ Some d
read-compact_text d h =
    let ts = tree.json_tokens (outline d) in
    let same : tokens (compact_text d) ≡ ts ++ [] = ap tokens (sym (print-outline d))
    ∙ tokens-print ts (ArePrintable-json_tokens (outline d) h.numbers) ∙ sym (append-nil ts) in
    ap whole (ap (json.value max_depth) same ∙ value-json_tokens (outline d) max_depth [] h.shallow) ∙ h.again

-- the text of an array's items, each with its text
pub items_text-map : {A : Type 0} (value : A → Data) (text : A → List ℕ) → ((x : A) → compact_text (value x) ≡ text x)
    → (xs : List A) → items_text false (items_of (map value xs)) ≡ join_with_byte 44 (map text xs) ++ 93 ∷ []
items_text-map value text same [] = refl
items_text-map value text same (x ∷ []) = ap (λ l. l ++ 93 ∷ []) (same x)
items_text-map value text same (x ∷ y ∷ xs) =
    ap₂ (λ (a b : List ℕ). a ++ 44 ∷ b) (same x) (items_text-map value text same (y ∷ xs))
    ∙ sym (append_assoc (text x) (44 ∷ join_with_byte 44 (map text (y ∷ xs))) (93 ∷ []))
