use Rattle.std.proofs.Common.{rules}
use Rattle.std.specs.Prelude.{not}
use Rattle.std.specs.List.{list_any}
use Rattle.std.specs.Str.{bytes_eq}
use Rattle.std.proofs.lemmas.Fn.{filter_same}
use Rattle.reuse_notice.proofs.text_lists.without.Goals as goal

pub returns : goal.returns
returns c = filter_same _ (λ text. not (list_any (λ other. bytes_eq other text) c.args.removed.now)) _
    (λ x b f' k. search rules) _ _ c.retain.ensures.filtered
