use Rattle.std.proofs.Common.{sym, ◌∙◌}
use Rattle.std.proofs.lemmas.Bool.{false≢true}
use Rattle.toml.specs.Parse.{parse_document}
use Rattle.reuse_text.proofs.Utf8Lemmas.{read_if_utf8, none_if_utf8}
use Rattle.reuse_style.proofs.documents.read_document.Goals as goal

pub returns-in-Ok : goal.returns-in-Ok
returns-in-Ok c =
    sym (read_if_utf8 parse_document c.args.file.now _ c.in-Ok.ensures.ok.0 c.in-Ok.ensures.ok.1)

pub returns-else-is_memory : goal.returns-else-is_memory
returns-else-is_memory c = sym (none_if_utf8 parse_document c.args.file.now
    (c.in-Err.ensures.refused (λ m. false≢true (sym c.if-is_memory.false ∙ c.is_memory.ensures.1 m))))
