use Rattle.reuse_header.proofs.AnnotationLemmas.{replaced_within}
use Rattle.reuse_header.proofs.annotate.annotate_file.Goals as goal

pub write_header-requires-clause-within : goal.write_header-requires-clause-within
write_header-requires-clause-within c = replaced_within c.args.style.now c.args.file.now c.args.how.now.replace
    c.find.result.block c.replaced_block-old.result c.find.ensures.split c.replaced_block-old.ensures
