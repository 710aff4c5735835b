use Rattle.std.proofs.Common.{nat_cmp, sym, ap, refl, subst, IsTrue, ◌∙◌}
use Rattle.std.specs.Result.{is_ok}
use Rattle.std.specs.Cmp.Lexicographic.{slice_cmp}
use Rattle.std.specs.FinMap.{from_entries, insert}
use Rattle.std.proofs.lemmas.Bool.{false≢true}
use Rattle.reuse_change.specs.Path.{is_path}
use Rattle.reuse_change.specs.Files.{Clashes}
use Rattle.reuse_store.proofs.Contents.{one_put, inserted, if_given, clashes_contents}
use Rattle.reuse_store.proofs.file_map.FileMap.put_parts.Goals as goal

pub returns-then-clashes-clause-err : goal.returns-then-clashes-clause-err
returns-then-clashes-clause-err c = (
  (clashes_contents c.args.self.now.contents.entries c.args.path.now c.clashes.ensures.ordered).0
      (sym c.clashes.ensures.nested ∙ c.if-clashes.true),
  refl,
)

pub invariant_of-self : goal.invariant_of-self
invariant_of-self c =
    let is : IsTrue (is_path c.in_ok-path.path) = ap is_path (sym c.path.view_is) ∙ c.path.invariant in
    let free : ¬ (Clashes (from_entries {R = slice_cmp nat_cmp} c.args.self.now.contents.entries) c.in_ok-path.path) =
    λ clash. false≢true (sym c.if-clashes.false ∙ c.clashes.ensures.nested
    ∙ (clashes_contents c.args.self.now.contents.entries c.args.path.now c.clashes.ensures.ordered).1
    (subst (Clashes _) c.in_ok-path.ensures clash)) in
    record {
      are_files = inserted c.insert.result c.args.self.now.contents c.insert.new.self c.in_ok-path.path
          c.in_ok-bytes.bytes c.insert.ensures.updates c.insert.ensures.err c.args.self.now.are_files is free;
    }

pub returns-clause-ok : goal.returns-clause-ok
returns-clause-ok c =
    let files = from_entries {R = slice_cmp nat_cmp} c.args.self.now.contents.entries in
    let put =
    if_given c.insert.result (sym c.map_err.ensures.variant ∙ ap is_ok c.in_ok-map_err.was) c.insert.ensures.updates in
    record {
      free = λ clash. false≢true (sym c.if-clashes.false ∙ c.clashes.ensures.nested
          ∙ (clashes_contents c.args.self.now.contents.entries c.args.path.now c.clashes.ensures.ordered).1 clash);
      files =
          one_put c.args.self.now.contents.entries c.insert.new.self.entries c.in_ok-path.path c.in_ok-bytes.bytes put.0
          ∙ ap (λ p. insert files p c.in_ok-bytes.bytes) c.in_ok-path.ensures
          ∙ ap (λ b. insert files c.args.path.now b) c.in_ok-bytes.ensures;
    }
