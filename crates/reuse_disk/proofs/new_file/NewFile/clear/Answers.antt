use Rattle.std.proofs.Common.{◌∙◌, inl, refl, sym, subst}
use Rattle.reuse_system.specs.TempFiles.{name_in, IsNewIn}
use Rattle.reuse_system.specs.NameChanges.{change_at}
use Rattle.reuse_disk.proofs.EditLemmas.{only_none, only_one, only_then}
use Rattle.reuse_disk.proofs.WrittenLemmas.{cleared_one}
use Rattle.reuse_disk.proofs.new_file.NewFile.clear.Goals as goal

pub returns-in_err-remove-clause-changes : goal.returns-in_err-remove-clause-changes
returns-in_err-remove-clause-changes g c =
    let s = g.S.System in
    let folder = c.args.self.now.folder in
    let place = name_in folder c.as_str.result.now in
    let new : IsNewIn folder.identity place = (c.as_str.result.now, c.as_str.ensures.is_new, refl) in
    let before = c.loop-name.system in
    only_then (IsNewIn folder.identity) (s.changes c.args.system.now) (s.changes before)
    (s.changes c.remove.new.self) c.loop-name.invariant.3
    (only_one (IsNewIn folder.identity) (s.changes before) (s.changes c.remove.new.self)
    (change_at (s.looked before) place) c.remove.ensures.changes new)

pub loop-name-preserved : goal.loop-name-preserved
loop-name-preserved g c =
    let s = g.S.System in
    let folder = c.args.self.now.folder in
    let place = name_in folder c.as_str.result.now in
    let new : IsNewIn folder.identity place = (c.as_str.result.now, c.as_str.ensures.is_new, refl) in
    let before = c.loop-name.system in (
      (λ other no. c.in_ok-remove.ensures.removed.others other (λ e. no (subst (IsNewIn folder.identity) (sym e) new))
          ∙ c.loop-name.invariant.0 other no),
      c.remove.ensures.still ∙ c.loop-name.invariant.1,
      (λ honest. c.loop-name.invariant.2 (c.remove.ensures.earlier honest)),
      only_then (IsNewIn folder.identity) (s.changes c.args.system.now) (s.changes before)
          (s.changes c.remove.new.self) c.loop-name.invariant.3
          (only_one (IsNewIn folder.identity) (s.changes before) (s.changes c.remove.new.self)
          (change_at (s.looked before) place) c.remove.ensures.changes new),
      cleared_one (IsNewIn folder.identity) place (s.holds c.args.system.now) (s.holds before)
          (s.holds c.remove.new.self) c.loop-name.invariant.4 c.in_ok-remove.ensures.removed,
    )

pub loop-name-init : goal.loop-name-init
loop-name-init g c =
    let s = g.S.System in
    let folder = c.args.self.now.folder.identity in (
      (λ place away. refl),
      refl,
      (λ honest. honest),
      only_none (IsNewIn folder) (s.changes c.args.system.now) (s.changes c.args.system.now) refl,
      (λ place new. inl refl),
    )
