use Rattle.std.proofs.Common.{arith, ap, ◌∙◌, ◌++◌, ◌∷◌, [], map}
use Rattle.std.specs.Prelude.{string_bytes}
use Rattle.std.proofs.lemmas.List.{map-append}
use Rattle.reuse_arguments.proofs.WordListLemmas.{one_text_more}
use Rattle.reuse_arguments.proofs.words.file_words.strings_of.Goals as goal

pub loop-word-preserved : goal.loop-word-preserved
loop-word-preserved c =
    one_text_more _ c.loop-word.word-index _ _ _ (omega arith) c.loop-word.invariant
    (ap (map string_bytes) c.in_ok-push.ensures.items ∙ map-append string_bytes c.loop-word.texts.items _
    ∙ ap (λ text. map string_bytes c.loop-word.texts.items ++ text ∷ []) c.in_ok-from_str.ensures.ok)
