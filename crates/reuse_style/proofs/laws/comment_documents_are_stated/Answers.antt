use Rattle.reuse_style.proofs.CommentDocumentLemmas.{comments_stated}
use Rattle.reuse_style.proofs.laws.comment_documents_are_stated.Goals as goal

pub returns : goal.returns
returns c = comments_stated
