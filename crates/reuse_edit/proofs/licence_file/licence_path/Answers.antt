use Rattle.std.proofs.Common.{◌≡◌, ◌∙◌, ◌++◌, IsTrue, codes, sym, ap, subst}
use Rattle.reuse_change.specs.Path.{is_path}
use Rattle.reuse_edit.specs.Licence.{licence_path}
use Rattle.reuse_edit.proofs.LicenceLemmas.{path_is_good}
use Rattle.reuse_edit.proofs.licence_file.licence_path.Goals as goal

pub known_path-requires : goal.known_path-requires
known_path-requires c =
    let id = c.args.id.now in
    let is : c.as_str.result.now ≡ licence_path id =
    c.as_str.ensures.value ∙ c.in_ok-push_str-2.ensures.bytes
    ∙ ap (λ t. t ++ codes ".txt") (c.in_ok-push_str.ensures.bytes ∙ ap (λ t. t ++ id) c.in_ok-text.ensures.ok) in
    subst (λ path. IsTrue (is_path path)) (sym is) (path_is_good id c.requires)
