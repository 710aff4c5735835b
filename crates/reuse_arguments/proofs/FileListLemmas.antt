-- The words of a list of files, one after the other.
use Rattle.std.proofs.Common.{◌≡◌, ℕ, cond, List, [], ◌∷◌, ◌++◌, Option, Some, None, map, Bor, refl, sym, ap, ◌∙◌}
use Rattle.std.specs.Prelude.{filter_map}
use Rattle.std.specs.List.{cons_option}
use Rattle.std.specs.Str.{IsUtf8}
use Rattle.std.specs.Option.{option_to_list}
use Rattle.std.proofs.lemmas.List.{map-append}
use Rattle.std.proofs.lemmas.List.Elements.{filter_map-append}
use Rattle.std.proofs.lemmas.Str.{is_utf8-from_IsUtf8}
use Rattle.reuse_toml.proofs.ReadGlobLemmas.{not_utf8}
use Rattle.reuse_command.specs.declared.command.Place.{Place}
use Rattle.reuse_command.specs.declared.command.Place.TheVariants.{Path}
use Rattle.reuse_arguments.specs.FileLists.{path_at, path_of_word}
use Rattle.reuse_arguments.specs.Places.{place_of_word}

-- a word that is UTF-8, and one that isn't
pub named : (folder : Option (List ℕ)) (word text : List ℕ) (place : Option Place) (path : List ℕ) → IsUtf8 word
    → text ≡ word → place ≡ place_of_word folder text → place ≡ Some (Path path) → Some path ≡ path_of_word folder word
named folder word text place path utf8 same e is =
    sym (ap (λ b. cond b (path_at (place_of_word folder word)) None) (is_utf8-from_IsUtf8 word utf8)
    ∙ ap (λ t. path_at (place_of_word folder t)) (sym same) ∙ ap path_at (sym e ∙ is))

pub unnamed : (folder : Option (List ℕ)) (word : List ℕ) → ¬ IsUtf8 word → None ≡ path_of_word folder word
unnamed folder word h = sym (ap (λ b. cond b (path_at (place_of_word folder word)) None) (not_utf8 word h))

-- the paths of one word more
pub one_word_more : (named : List ℕ → Option (List ℕ)) (words : List (Bor (List ℕ))) (word : Bor (List ℕ))
    (old new : List (List ℕ)) → old ≡ filter_map named (map (λ (w : Bor (List ℕ)). w.now) words)
    → new ≡ old ++ option_to_list (named word.now)
    → new ≡ filter_map named (map (λ (w : Bor (List ℕ)). w.now) (words ++ word ∷ []))
one_word_more named words word old new so is =
    let front = map (λ (w : Bor (List ℕ)). w.now) words in
    is ∙ ap (λ ys. ys ++ option_to_list (named word.now)) so
    ∙ ap (λ ys. filter_map named front ++ ys) (of_one (named word.now))
    ∙ sym (filter_map-append named front (word.now ∷ []))
    ∙ ap (filter_map named) (sym (map-append (λ (w : Bor (List ℕ)). w.now) words (word ∷ [])))
  where
    of_one : (o : Option (List ℕ)) → option_to_list o ≡ cons_option o []
    of_one None = refl
    of_one (Some x) = refl
