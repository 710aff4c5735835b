-- What is carried out on the folder that is watched is carried out on the folder.
use Rattle.std.proofs.Common.{refl, sym}
use Rattle.reuse_undo.proofs.lemmas.run.CarriedInside.{carried_inside}
use Rattle.reuse_undo.proofs.run.on_folder.run_on_folder.Goals as goal

pub returns : goal.returns
returns g c =
    carried_inside _ _ _ _ _ _ _ _ _ _ _ _ _ c.run_request-watched.ensures (λ watched. watched.inner)
    (λ watched. record {
      files = refl;
      failures = refl;
      written = refl;
      mutations = refl;
      gives = λ honest. honest;
      takes = λ honest. honest;
      gives_left = λ left is. is;
      takes_left = λ left is. is;
    })
    c.new-watched.ensures (sym c.into_inner.ensures)
