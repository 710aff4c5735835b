use Rattle.std.proofs.Common.{◌≡◌, ◌++◌, take, map}
use Rattle.std.specs.List.{flat_map}
use Rattle.reuse_ready.specs.Ready.{front_text}
use Rattle.reuse_ready.proofs.texts.push_fronts.Given as goal

abbrev pub invariant-loop-front : goal.invariant-loop-front
invariant-loop-front l =
    l.text ≡ l.fn.text ++ flat_map front_text (map (λ front. (front.0.now, front.1.now)) (take l.front-index l.fronts))
