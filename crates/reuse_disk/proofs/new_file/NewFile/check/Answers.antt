use Rattle.std.proofs.Common.{rules, ◌≡◌, ◌<◌, ◌^◌, ◌&&◌, ◌==◌, inl, inr, true, true≢false, sym, ◌∙◌, ap, ap₂}
use Rattle.std.proofs.lemmas.Bool.Decides.{Decides-eqb}
use Rattle.reuse_system.specs.TempFiles.{IsNewNameIn}
use Rattle.reuse_system.specs.declared.place.Identity.{Identity}
use Rattle.reuse_disk.proofs.PlaceLemmas.{apart_of_name}
use Rattle.reuse_disk.proofs.new_file.NewFile.check.Goals as goal
use Rattle.reuse_disk.proofs.new_file.NewFile.check.Goals.{then-is_here, else-is_here}

same_folder : (one other : Identity) → one ≡ other → (one.device == other.device) && (one.number == other.number) ≡ true
same_folder one other same =
    ap₂ (λ a b. a && b) ((Decides-eqb one.device other.device).1 (ap (λ (i : Identity). i.device) same))
    ((Decides-eqb one.number other.number).1 (ap (λ (i : Identity). i.number) same))

pub returns-clause-apart : goal.returns-clause-apart
returns-clause-apart c =
    let folder = c.args.target.folder.now.identity in
    let new_files = c.args.self.now.folder.identity in
    let name = c.args.target.name.now in
    let number : c.identity-2.result.number < 2 ^ 64 = search rules in
    apart_of_name new_files folder name (rw c.identity-2.ensures at number) not_kept
  where
    not_kept : ¬ (IsNewNameIn c.args.self.now.folder.identity c.args.target.folder.now.identity c.args.target.name.now)
    not_kept (inl kept) = true≢false (sym kept ∙ sym c.is_beside_name.ensures ∙ c.if-is_beside_name.false)
    not_kept (inr (same, new)) = elim c.if-is_here.branch [
      | then-is_here w ↦ true≢false (sym new ∙ sym w.is_new_name.ensures ∙ sym w.value-is ∙ c.if-is_new_name.false)
      | else-is_here w ↦
          true≢false (sym (same_folder c.args.target.folder.now.identity c.args.self.now.folder.identity same)
          ∙ ap₂ (λ (x : Identity) (y : Identity). (x.device == y.device) && (x.number == y.number))
          (sym c.identity.ensures) (sym c.identity-2.ensures) ∙ sym c.eq-is_here.ensures ∙ w.if-is_here.false)
    ]
