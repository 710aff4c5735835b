-- What is found on the folder that is watched is found on the folder.
use Rattle.std.proofs.Common.{refl, sym}
use Rattle.reuse_undo.proofs.lemmas.run.FoundInside.{found_inside}
use Rattle.reuse_undo.proofs.run.on_folder.find_on_folder.Goals as goal

pub returns : goal.returns
returns g c =
    found_inside _ _ _ _ _ _ _ _ c.find_names-watched.ensures (λ watched. watched.inner)
    (λ watched. record {
      files = refl;
      failures = refl;
      written = refl;
      mutations = refl;
      gives = λ honest. honest;
      takes = λ honest. honest;
      gives_left = λ left is. is;
      takes_left = λ left is. is;
    })
    c.new-watched.ensures (sym c.into_inner.ensures)
