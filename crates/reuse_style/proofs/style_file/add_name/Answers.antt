use Rattle.std.proofs.Common.{◌∙◌, ap}
use Rattle.std.specs.Str.{str_to_ascii_lowercase}
use Rattle.reuse_style.proofs.StyleFileLemmas.{added}
use Rattle.reuse_style.proofs.style_file.add_name.Goals as goal

pub returns-clause-ok : goal.returns-clause-ok
returns-clause-ok c =
    λ earlier entries keyed.
    added c.args.comments.now c.args.names.now c.insert.new.self earlier entries c.args.name.now c.args.text.now c.from_vec-lowered.result
    c.in-Some.kind keyed
    c.if-is_bad_name.ensures c.in-Some.ensures
    (c.from_vec-lowered.ensures ∙ c.in_ok-to_ascii_lowercase.ensures.ok
    ∙ ap str_to_ascii_lowercase c.as_bytes.ensures.value)
    c.in-Ok.before c.if-is_some.ensures c.in-Ok.ensures.old c.in-Ok.ensures.updates.0 c.in-Ok.ensures.entries
    c.in-Ok.ensures.ordered
