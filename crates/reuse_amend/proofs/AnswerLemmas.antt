-- An answer that stops a search is its own.
use Rattle.std.proofs.Common.{◌≡◌, Option, None}
use Rattle.std.specs.Prelude.{Err}
use Rattle.reuse_amend.specs.declared.amendments.AmendRefusal.{AmendRefusal}
use Rattle.reuse_amend.specs.declared.amendments.AmendRefusal.TheVariants.{BadExpression, Memory}
use Rattle.reuse_amend.specs.AmendmentViews.{IsAnswer}

pub answer-stop : {X Y : Type 0} (expected : Option X) (whole : Option Y) (e : AmendRefusal)
    → (expected ≡ None → whole ≡ None)
    → IsAnswer expected (Err e) → IsAnswer whole (Err e)
answer-stop expected whole BadExpression f is = f is
answer-stop expected whole (Memory e) f is = tt
