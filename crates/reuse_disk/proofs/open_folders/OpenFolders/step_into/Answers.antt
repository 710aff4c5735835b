use Rattle.reuse_disk.proofs.OpenFoldersLemmas.{step_at}
use Rattle.reuse_disk.proofs.open_folders.OpenFolders.step_into.Goals as goal

pub returns-clause-opened : goal.returns-clause-opened
returns-clause-opened c folders apart opened leads =
    c.push.ensures.opened folders opened
    (rw (c.in_ok-path.ensures, c.path.ensures) (step_at folders c.args.self.now.root c.args.self.now.steps.items
    c.args.name.now c.args.folder.identity apart opened.0 opened.1 leads))
