-- Lines whose tags are amended.
use Rattle.std.proofs.Common.{◌≡◌, ℕ, Bool, List, ◌∷◌, ◌++◌, Option, Some, None, refl, sym, ap, ◌∙◌}
use Rattle.std.proofs.Common.{append_assoc}
use Rattle.std.specs.Option.{option_map, option_map_or, option_and_then}
use Rattle.reuse_text.specs.Text.{TextLine}
use Rattle.reuse_amend.specs.declared.amendments.Amendments.{Amendments}
use Rattle.reuse_tags.specs.Ignored.{read_part, ignores_next}
use Rattle.reuse_tags.specs.Reading.{TagText, value_of}
use Rattle.reuse_tags.specs.Around.{AroundText, around_of, with_value}
use Rattle.reuse_tags.specs.Everywhere.{amended_at}
use Rattle.reuse_tags.specs.Everywhere.{bytes_made, lines_made}

pub amended_by : (f : List ℕ → Option (List ℕ)) (line part : List ℕ) (t : TagText) (o : Option TagText)
    (p : AroundText) (v : Option (List ℕ)) → part ≡ read_part line → Some t ≡ o → p ≡ around_of line part t
    → v ≡ f p.value → with_value p line v ≡ option_map_or (λ u. amended_at line u (f (value_of u))) o (Some line)
amended_by f line part t o p v read found around new =
    ap (with_value p line) (new ∙ ap (λ (q : AroundText). f q.value) around)
    ∙ ap (λ q. with_value q line (f (value_of t))) around
    ∙ ap (λ q. with_value (around_of line q t) line (f (value_of t))) read
    ∙ ap (λ q. option_map_or (λ u. amended_at line u (f (value_of u))) q (Some line)) found

-- ---- lines, one after the other

made-cons : (a : Amendments) (ignored : Bool) (line : ℕ × TextLine) (lines : List (ℕ × TextLine))
    → lines_made a ignored (line ∷ lines) ≡ option_and_then
    (λ made. option_map (λ rest. made ++ rest) (lines_made a (ignores_next ignored line.1.content) lines))
    (bytes_made a ignored line.1)
unfolding lines_made
made-cons a ignored line lines = refl

pub made-more : (a : Amendments) (ignored next : Bool) (line : ℕ × TextLine) (left lines : List (ℕ × TextLine))
    (made done new : List ℕ) (r : Option (List ℕ)) → left ≡ line ∷ lines
    → next ≡ ignores_next ignored line.1.content
    → bytes_made a ignored line.1 ≡ Some made → new ≡ done ++ made
    → option_map (λ rest. done ++ rest) (lines_made a ignored left) ≡ r
    → option_map (λ rest. new ++ rest) (lines_made a next lines) ≡ r
made-more a ignored next line left lines made done new r is after becomes grown so =
    ap (λ (bytes : List ℕ). option_map (λ rest. bytes ++ rest) (lines_made a next lines)) grown
    ∙ ap (λ b. option_map (λ rest. (done ++ made) ++ rest) (lines_made a b lines)) after
    ∙ by (lines_made a (ignores_next ignored line.1.content) lines)
    ∙ ap (option_map (λ rest. done ++ rest)) (sym (ap (lines_made a ignored) is ∙ made-cons a ignored line lines
    ∙ ap (option_and_then
    (λ bytes. option_map (λ rest. bytes ++ rest) (lines_made a (ignores_next ignored line.1.content) lines))) becomes))
    ∙ so
  where
    by : (o : Option (List ℕ)) → option_map (λ rest. (done ++ made) ++ rest) o
        ≡ option_map (λ rest. done ++ rest) (option_map (λ rest. made ++ rest) o)
    by None = refl
    by (Some rest) = ap (λ bytes. Some bytes) (append_assoc done made rest)
