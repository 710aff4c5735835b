use Rattle.std.proofs.Common.{◌≡◌, ◌∙◌, ap, List, ℕ, Bor, Option, Some, None, refl, map, []}
use Rattle.std.specs.Prelude.{unwrap_or}
use Rattle.std.specs.Option.{option_map}
use Rattle.clap.specs.Matches.{found_of}
use Rattle.clap.proofs.WalkLemmas.{raw_values-rows}
use Rattle.reuse_arguments.specs.Found.{values}
use Rattle.reuse_arguments.proofs.words.found.values.Goals as goal

or_none : (o : Option (Bor (List (Bor (List ℕ))))) (none : Bor (List (Bor (List ℕ)))) → none.now ≡ []
    → map (λ text. text.now) (unwrap_or o none).now ≡ unwrap_or
    (option_map (λ list. map (λ text. text.now) list.now) o) []
or_none None none e = ap (map (λ text. text.now)) e
or_none (Some list) none e = refl

pub returns : goal.returns
unfolding values
returns c =
    ap (λ (list : Bor (List (Bor (List ℕ)))). map (λ text. text.now) list.now) c.unwrap_or.ensures
    ∙ or_none c.get_strs.result _ refl
    ∙ ap (λ lists. unwrap_or lists []) (c.get_strs.ensures ∙ raw_values-rows
    (found_of c.args.matches.now) c.args.name.now)
