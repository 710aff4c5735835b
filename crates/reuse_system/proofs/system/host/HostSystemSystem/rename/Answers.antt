use Rattle.std.proofs.Common.{rules}
use Rattle.reuse_system.specs.TempFiles.{name_in, place_of}
use Rattle.reuse_system.proofs.HostLemmas.{left_noted, rename_noted}
use Rattle.reuse_system.proofs.system.host.HostSystemSystem.rename.Goals as goal

pub returns-clause-renamed : goal.returns-clause-renamed
returns-clause-renamed g c =
    let noted = c.args.self.now.noted in
    let left = rename_noted noted.files noted.effects noted.calls (place_of c.args.temp_file.now)
    (name_in c.args.folder.now c.args.name.now) c.args.temp_file.now.status c.rename_to-answer.result in
    search rules

pub returns-clause-left : goal.returns-clause-left
returns-clause-left g c =
    let noted = c.args.self.now.noted in
    let left = left_noted noted.files noted.effects noted.calls (place_of c.args.temp_file.now)
    (name_in c.args.folder.now c.args.name.now) c.args.temp_file.now.status c.rename_to-answer.result in
    search rules
