use Rattle.std.proofs.Common.{rules}
use Rattle.reuse_system.specs.TempFiles.{name_in}
use Rattle.reuse_system.proofs.HostLemmas.{make_noted}
use Rattle.reuse_system.proofs.system.host.HostSystemSystem.make.Goals as goal

pub returns : goal.returns
returns g c =
    let noted = c.args.self.now.noted in
    let left =
    make_noted noted.files noted.effects noted.calls
    (name_in c.args.folder.now c.args.name.now) c.args.self.now.made c.make_file-answer.result
    c.args.self.now.counted c.make_file-answer.ensures.place c.make_file-answer.ensures.number in
    search rules
