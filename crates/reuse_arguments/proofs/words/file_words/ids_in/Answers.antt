use Rattle.std.proofs.Common.{arith, ap, ◌∙◌, ◌++◌, ◌∷◌, []}
use Rattle.reuse_arguments.proofs.WordListLemmas.{one_text_more}
use Rattle.reuse_arguments.proofs.words.file_words.ids_in.Goals as goal

pub loop-word-preserved : goal.loop-word-preserved
loop-word-preserved c =
    one_text_more _ c.loop-word.word-index _ _ _ (omega arith) c.loop-word.invariant
    (c.in_ok-push.ensures.items ∙ ap (λ id. c.loop-word.ids.items ++ id ∷ [])
    (c.in_ok-from_slice.ensures ∙ c.as_bytes.ensures.value))
