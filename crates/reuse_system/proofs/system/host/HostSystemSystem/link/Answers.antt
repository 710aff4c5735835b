use Rattle.std.proofs.Common.{rules}
use Rattle.reuse_system.specs.TempFiles.{name_in, place_of}
use Rattle.reuse_system.proofs.HostLemmas.{link_noted}
use Rattle.reuse_system.proofs.system.host.HostSystemSystem.link.Goals as goal

pub returns-clause-linked : goal.returns-clause-linked
returns-clause-linked g c =
    let noted = c.args.self.now.noted in
    let left = link_noted noted.files noted.effects noted.calls (place_of c.args.temp_file.now)
    (name_in c.args.folder.now c.args.name.now) c.args.temp_file.now.status c.link_to-answer.result c.link_to-answer.ensures in
    search rules
