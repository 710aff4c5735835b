use Rattle.std.proofs.Common.{◌≡◌, ◌++◌, ◌∷◌, [], take, flat_map}
use Rattle.reuse_toml.specs.TomlText.{escaped}
use Rattle.reuse_toml.proofs.toml_text.push_quoted.Given as goal

abbrev pub invariant-loop-b : goal.invariant-loop-b
invariant-loop-b l = l.out.items ≡ l.fn.out.items ++ (34 ∷ [] ++ flat_map escaped (take l.b-index l.text))
