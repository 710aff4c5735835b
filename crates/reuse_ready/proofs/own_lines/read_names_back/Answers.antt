use Rattle.std.proofs.Common.{◌∙◌, sym, ap}
use Rattle.reuse_style.specs.Names.{lookup}
use Rattle.reuse_style.specs.StyleFile.{styles_of}
use Rattle.reuse_ready.proofs.OwnLemmas.{named_back}
use Rattle.reuse_ready.proofs.own_lines.read_names_back.Goals as goal

pub returns-then-are_named-clause-read : goal.returns-then-are_named-clause-read
returns-then-are_named-clause-read c = λ added.
    named_back added c.args.names.now _ (lookup c.in-Ok.own.entries) _
    (ap (styles_of c.args.own_comments.now.styles) (sym c.lent.ensures) ∙ c.in-Ok.ensures.names) c.if-are_named.ensures

pub returns-in-Ok-clause-refusal : goal.returns-in-Ok-clause-refusal
returns-in-Ok-clause-refusal c = λ added.
    named_back added c.args.names.now _ (lookup c.in-Ok.own.entries) _
    (ap (styles_of c.args.own_comments.now.styles) (sym c.lent.ensures) ∙ c.in-Ok.ensures.names) c.if-are_named.ensures
