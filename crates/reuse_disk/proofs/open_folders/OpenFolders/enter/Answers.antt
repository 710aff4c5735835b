use Rattle.std.proofs.Common.{rules, ◌≡◌, ◌∙◌, Some}
use Rattle.reuse_system.specs.Folders.{folder_in}
use Rattle.reuse_system.specs.SystemLaws.{IsNoFolder}
use Rattle.reuse_system.specs.declared.place.Identity.{Identity}
use Rattle.reuse_disk.specs.OpenFolders.{current_of, IsNext}
use Rattle.reuse_disk.proofs.OpenFoldersLemmas.{below_no_file, turn_way, turn_stops, leads_to}
use Rattle.reuse_disk.proofs.ReadsOnlyLemmas.{enters_then, reads_none}
use Rattle.reuse_disk.proofs.open_folders.OpenFolders.enter.Goals as goal

pub loop-name-preserved : goal.loop-name-preserved
loop-name-preserved g c =
    let s = g.S.System in
    let system = c.open_next.new.system in
    let self = c.open_next.new.self in
    let folders = s.folders system in
    let held = s.holds system in
    let name = c.in-Some.name.now in
    let one = c.in-Folder.opened.identity in
    let next : IsNext c.loop-name.rest.now name c.in-Some.below.now = search rules in
    let enters = c.open_next.ensures.enters in
    let into : s.honest system
    → (at : Identity) × (current_of c.loop-name.self ≡ Some at) × (folder_in folders at name ≡ Some one) =
    λ honest. rw c.in-Folder.is at (c.in_ok-opened.ensures.below honest) in (
      search rules,
      enters_then s _ c.loop-name.system _ _ c.loop-name.self _ c.loop-name.invariant.1
          (enters_then s _ system _ _ self _ enters (record {
            reads = reads_none s system;
            opened = λ are honest. c.step_into.ensures.opened folders next.has_no_slash (are honest)
                (leads_to folders (current_of self) (into honest).0 one name
                (c.open_next.ensures.current ∙ (into honest).1) (into honest).2);
          })),
      (λ right honest. turn_way folders (s.folders c.loop-name.system) held (s.holds c.loop-name.system)
          enters.reads.still enters.reads.kept (current_of c.loop-name.self) (into honest).0 (into honest).1
          c.loop-name.rest.now name c.in-Some.below.now c.args.folder.now next
          (c.loop-name.invariant.2 right (enters.reads.earlier honest)) one (current_of c.step_into.new.self)
          (into honest).2 c.in_ok-step_into-in-Folder.ensures.current),
      c.open_next.ensures.no_sync ∙ c.loop-name.invariant.3,
    )

pub returns-in-Other-clause-no_file : goal.returns-in-Other-clause-no_file
returns-in-Other-clause-no_file g c = rw c.into_place_below.ensures (below_no_file c.in-Other.found)

pub returns-in-Other-clause-entered : goal.returns-in-Other-clause-entered
returns-in-Other-clause-entered g c right honest =
    let s = g.S.System in
    let folders = s.folders c.open_next.new.system in
    let held = s.holds c.open_next.new.system in
    let name = c.in-Some.name.now in
    let next : IsNext c.loop-name.rest.now name c.in-Some.below.now = search rules in
    let reads = c.open_next.ensures.enters.reads in
    let none : (at : Identity) × (current_of c.loop-name.self ≡ Some at)
    × IsNoFolder folders held (folder_in folders at name) c.in-Other.found =
    rw c.in-Other.is at (c.in_ok-opened.ensures.below honest) in
    turn_stops folders (s.folders c.loop-name.system) held (s.holds c.loop-name.system) reads.still reads.kept
    (current_of c.loop-name.self) none.0 none.1 c.loop-name.rest.now name c.in-Some.below.now c.args.folder.now next
    (c.loop-name.invariant.2 right (reads.earlier honest)) c.in-Other.found c.into_place_below.result
    (current_of c.open_next.new.self) c.into_place_below.ensures none.2
