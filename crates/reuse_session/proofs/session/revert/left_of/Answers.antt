use Rattle.std.proofs.Common.{not, rules}
use Rattle.std.proofs.lemmas.Fn.{filter_same}
use Rattle.reuse_change.specs.Listing.{is_among}
use Rattle.reuse_session.proofs.session.revert.left_of.Goals as goal

pub returns : goal.returns
returns c ascend = filter_same _ (λ path. not (is_among c.args.changed.now path)) _
    (λ x b f' k. search (rules, ascend)) _ _ c.retain.ensures.filtered
