use Rattle.std.proofs.Common.{◌≡◌, ◌∙◌, ap, Option, Some, None, refl, is_some}
use Rattle.std.specs.Option.{option_map}
use Rattle.clap.specs.Matches.{found_of}
use Rattle.clap.proofs.WalkLemmas.{raw_values-rows}
use Rattle.reuse_arguments.specs.Found.{is_given}
use Rattle.reuse_arguments.proofs.words.found.is_given.Goals as goal

some_still : {A B : Type 0} (f : A → B) (o : Option A) → is_some o ≡ is_some (option_map f o)
some_still f None = refl
some_still f (Some x) = refl

pub returns : goal.returns
unfolding is_given
returns c = c.is_some.ensures ∙ some_still _ c.get_strs.result ∙ ap is_some
    (c.get_strs.ensures ∙ raw_values-rows (found_of c.args.matches.now) c.args.name.now)
