use Rattle.std.proofs.Common.{◌≡◌, ◌∙◌, List, ℕ, Option, sym, ap}
use Rattle.std.specs.Option.{option_and_then}
use Rattle.std.proofs.lemmas.Result.{IfOk-weaker}
use Rattle.toml.specs.Data.{as_str}
use Rattle.toml.specs.Parse.{parse_value}
use Rattle.reuse_text.proofs.Utf8Lemmas.{read_if_utf8, none_if_utf8}
use Rattle.reuse_toml.specs.TomlValues.{value_written}
use Rattle.reuse_toml.proofs.toml_values.read_string.Goals as goal

pub returns-in-Err : goal.returns-in-Err
returns-in-Err c = sym
    (ap (option_and_then as_str) (none_if_utf8 parse_value c.args.piece.now (λ u. absurd (c.in-Err.ensures.cases.0 u))))

pub returns-in-Ok : goal.returns-in-Ok
returns-in-Ok c =
    IfOk-weaker c.read_text.result (λ (v : Option (List ℕ)). v ≡ option_and_then as_str (parse_value c.in-Ok.text.now))
    (λ (v : Option (List ℕ)). v ≡ value_written c.args.piece.now)
    (λ v is. is ∙ ap (λ t. option_and_then as_str (parse_value t)) c.in-Ok.ensures.cases.0 ∙ ap (option_and_then as_str)
    (sym (read_if_utf8 parse_value c.args.piece.now _ c.in-Ok.ensures.cases.1 (λ k. parse_value c.args.piece.now))))
    c.read_text.ensures
