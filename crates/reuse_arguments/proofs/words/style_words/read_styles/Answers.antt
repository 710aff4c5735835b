use Rattle.reuse_arguments.proofs.LineFaultLemmas.{expected_same}
use Rattle.reuse_arguments.proofs.StyleWordLemmas.{styles_all, styles_else, styles_unread}
use Rattle.reuse_arguments.proofs.words.style_words.read_styles.Goals as goal

pub returns-then-flag : goal.returns-then-flag
returns-then-flag c =
    styles_all _ _ _ _ c.if-flag.ensures c.flag-then-flag.ensures c.in_ok-ready_table.ensures

pub returns-in_ok-unread : goal.returns-in_ok-unread
returns-in_ok-unread c =
    rw c.in_ok-unread.ensures (styles_unread _ _ c.if-flag.ensures c.if-is_without_objects.ensures)

pub returns-else-is_without_objects : goal.returns-else-is_without_objects
returns-else-is_without_objects c =
    expected_same (λ a. a) _ _ _ (styles_else _ _ c.if-flag.ensures c.if-is_without_objects.ensures)
    c.read_annotation.ensures
