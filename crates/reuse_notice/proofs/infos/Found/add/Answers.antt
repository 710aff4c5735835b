use Rattle.std.proofs.Common.{◌≡◌, ◌++◌, Option, subst}
use Rattle.std.specs.Prelude.{OnOk}
use Rattle.std.specs.Option.{option_to_list}
use Rattle.reuse_notice.specs.Tags.{TagText}
use Rattle.reuse_notice.specs.Contents.{notice_text, contributor_value, licence_value, with_content}
use Rattle.reuse_notice.proofs.infos.Found.add.Goals as goal

pub returns-clause-notices : goal.returns-clause-notices
returns-clause-notices c =
    subst (λ (t : Option TagText). OnOk c.add_tag.result (c.add_tag.new.self.notices.items
    ≡ c.args.self.now.notices.items ++ option_to_list (notice_text t))) c.read_tag.ensures c.add_tag.ensures.notices

pub returns-clause-contributors : goal.returns-clause-contributors
returns-clause-contributors c =
    subst (λ (t : Option TagText). OnOk c.add_tag.result (c.add_tag.new.self.contributors.items
    ≡ c.args.self.now.contributors.items ++ option_to_list (contributor_value t))) c.read_tag.ensures
    c.add_tag.ensures.contributors

pub returns-clause-licences : goal.returns-clause-licences
returns-clause-licences c =
    subst (λ (t : Option TagText). OnOk c.add_tag.result (c.add_tag.new.self.licences.items
    ≡ c.args.self.now.licences.items ++ option_to_list (licence_value t))) c.read_tag.ensures c.add_tag.ensures.licences

pub returns-clause-free : goal.returns-clause-free
returns-clause-free c =
    subst (λ (t : Option TagText). OnOk c.add_tag.result (c.add_tag.new.self.free.items ≡ with_content t
    c.args.punct.now c.args.self.now.free.items c.args.content.now)) c.read_tag.ensures c.add_tag.ensures.free
