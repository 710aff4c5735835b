use Rattle.std.proofs.Common.{drop, map}
use Rattle.reuse_style.proofs.StyleFileLemmas.{AtTexts}
use Rattle.reuse_style.proofs.style_file.names_of_texts.Given as goal

abbrev pub invariant-loop-name : goal.invariant-loop-name
invariant-loop-name l =
    AtTexts l.comments l.names (map (λ t. (t.0.now, t.1.now)) (drop l.name-index l.texts)) (map (λ t. (t.0.now, t.1.now)) l.texts)
