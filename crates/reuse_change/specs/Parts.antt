-- What a file holds, in three parts.
use Rattle.std.specs.Prelude.{ℕ, List, ◌++◌}
use Rattle.reuse_change.specs.declared.parts.Pieces.{Pieces}

-- the parts joined
abbrev pub joined : Pieces → List ℕ
joined parts = parts.front.now ++ parts.middle.now ++ parts.back.now
