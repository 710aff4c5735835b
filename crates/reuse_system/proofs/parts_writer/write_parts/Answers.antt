use Rattle.std.proofs.Common.{◌++◌, false}
use Rattle.reuse_system.specs.TempFiles.{key_of}
use Rattle.reuse_system.proofs.SystemLemmas.{filled_twice, appended_before}
use Rattle.reuse_system.proofs.parts_writer.write_parts.Goals as goal

pub returns-then-saturating_add-gt-MOST_JOINED-clause-appended :
    goal.returns-then-saturating_add-gt-MOST_JOINED-clause-appended
returns-then-saturating_add-gt-MOST_JOINED-clause-appended g c =
    let key = key_of c.args.temp_file.now in
    let parts = c.args.parts in
    let holds = g.S.System.holds in
    let at_start = holds c.args.system.now in
    let one = holds c.append.new.self in
    let two = holds c.append-then-saturating_add-gt-MOST_JOINED.new.self in
    let last = c.append-then-saturating_add-gt-MOST_JOINED-2 in
    appended_before key (parts.front.now ++ parts.middle.now) parts.back.now at_start two
    (holds last.new.self) last.result
    (filled_twice key parts.front.now parts.middle.now false false at_start one two c.in_ok-append.ensures.appended
    c.in_ok-append-2.ensures.appended) last.ensures.appended
