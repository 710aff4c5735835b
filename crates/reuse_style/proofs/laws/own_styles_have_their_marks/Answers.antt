use Rattle.reuse_style.proofs.CommentLemmas.{own_style_is, comments_none, alone}
use Rattle.reuse_style.proofs.laws.own_styles_have_their_marks.Goals as goal

pub returns : goal.returns
returns c = record { marks = own_style_is; absent = comments_none; alone = alone }
