use Rattle.std.proofs.lemmas.Bool.{false≢true}
use Rattle.toml.specs.Parse.{parse_document}
use Rattle.reuse_text.proofs.Utf8Lemmas.{read_if_utf8, none_if_utf8}
use Rattle.reuse_toml.proofs.toml_change.read_table.Goals as goal

pub returns-in-Ok : goal.returns-in-Ok
returns-in-Ok c = read_if_utf8 parse_document c.args.bytes.now _ c.in-Ok.ensures.ok.0 c.in-Ok.ensures.ok.1

pub returns-else-is_memory : goal.returns-else-is_memory
returns-else-is_memory c = none_if_utf8 parse_document c.args.bytes.now
    (c.in-Err.ensures.refused (λ m. false≢true (c.if-is_memory.ensures.1 m)))
