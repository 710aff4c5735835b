use Rattle.std.proofs.Common.{◌≡◌, take, map, ℕ}
use Rattle.std.specs.Prelude.{Vec}
use Rattle.std.specs.declared.alloc.Global.{Global}
use Rattle.reuse_dep5.specs.PatternValue.{PatternValue}
use Rattle.reuse_dep5.specs.Translation.{translated}
use Rattle.reuse_toml.specs.GlobText.{glob_text}
use Rattle.reuse_dep5.proofs.table_text.written_globs.Given as goal

abbrev pub invariant-loop-pattern : goal.invariant-loop-pattern
invariant-loop-pattern l =
    map (λ (t : Vec ℕ Global). t.items) l.texts.items ≡ map glob_text
    (map (λ (p : PatternValue). translated p.pieces) (take l.pattern-index l.patterns))
