use Rattle.std.proofs.Common.{◌≡◌, ◌∙◌, List, ℕ, Option, Some, option_map, sym, ap}
use Rattle.std.proofs.lemmas.Result.{IfOk-weaker}
use Rattle.reuse_amend.specs.Amending.{notice_amended}
use Rattle.reuse_toml.specs.declared.toml_places.TomlKey.TheVariants.{Notice}
use Rattle.reuse_toml.specs.TomlValues.{without_lead, value_amended}
use Rattle.reuse_toml.proofs.toml_values.amend_notice_value.Goals as goal

pub returns : goal.returns
returns c =
    IfOk-weaker c.drop_lead.result (λ (o : Option (List ℕ)). o ≡ option_map without_lead c.in_ok-new.new)
    (λ (o : Option (List ℕ)). value_amended c.args.amendments.now Notice c.args.value.now ≡ Some o)
    (λ o is. ap (λ x. Some x) (sym (is ∙ ap (option_map without_lead)
    (c.in_ok-new.ensures ∙ ap (notice_amended c.args.amendments.now) (c.as_slice.ensures ∙ c.in_ok-text.ensures)))))
    c.drop_lead.ensures
