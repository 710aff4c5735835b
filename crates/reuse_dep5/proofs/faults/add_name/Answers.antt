use Rattle.std.proofs.Common.{◌≡◌, ℕ, true, List, map, ap, subst, ◌∙◌}
use Rattle.std.specs.BTreeSet.{Updates}
use Rattle.std.specs.Char.{to_ascii_lowercase}
use Rattle.std.specs.Cmp.Lexicographic.{slice_cmp}
use Rattle.std.specs.Ordering.{nat_cmp}
use Rattle.std.specs.Str.{str_to_ascii_lowercase}
use Rattle.reuse_dep5.specs.SourceText.{NumberedLine}
use Rattle.reuse_dep5.specs.Fields.{field_name}
use Rattle.reuse_dep5.proofs.NameLemmas.{names_more}
use Rattle.reuse_dep5.proofs.faults.add_name.Goals as goal

pub returns-clause-holds : goal.returns-clause-holds
returns-clause-holds c =
    let e : c.from_vec.result ≡ str_to_ascii_lowercase (field_name c.args.line.now.content) =
    c.from_vec.ensures ∙ c.in_ok-name.ensures.ok ∙ ap (map to_ascii_lowercase)
    (c.leading_name.ensures ∙ ap (λ (l : NumberedLine). field_name l.content) c.line.view_is) in
    names_more c.args.names.now c.insert.new.self c.args.before.now c.args.line.now c.requires.field
    (subst (λ (key : List ℕ). Updates (slice_cmp nat_cmp) c.args.names.now c.insert.new.self key true) e
    c.in_ok-added.ensures.updates) c.requires.holds
