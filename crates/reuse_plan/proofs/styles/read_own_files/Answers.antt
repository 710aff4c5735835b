use Rattle.std.proofs.Common.{◌≡◌, Ok, sym, subst}
use Rattle.std.proofs.lemmas.Result.{err_from_is_err_and}
use Rattle.reuse_command.specs.Reading.{get, tree_of}
use Rattle.reuse_edit.specs.Answered.{IsRefusalOf}
use Rattle.reuse_plan.specs.TreeStyles.{own_file, styles_path, comments_path}
use Rattle.reuse_store.proofs.TreeLemmas.{tree_file}
use Rattle.reuse_plan.proofs.OwnFiles.{by_styles, by_comments, by_own, file_given, read_is}
use Rattle.reuse_plan.proofs.styles.read_own_files.Goals as goal

pub returns-in_err-styles-clause-refusal : goal.returns-in_err-styles-clause-refusal
returns-in_err-styles-clause-refusal g c honest =
    let files = g.S.Store.files c.args.store.now in
    let tree = tree_of files in
    let p = err_from_is_err_and c.from_residual-in_err-styles.result c.from_residual-in_err-styles.ensures.1 in
    rw (p.1, p.2) (by_styles (own_file styles_path (get tree styles_path)) (own_file comments_path (get tree comments_path))
    _ (subst (λ f. IsRefusalOf (own_file styles_path f) c.in_err-styles.field-0.0) (sym (tree_file files styles_path))
    (subst (λ path. IsRefusalOf (own_file path (get files path)) c.in_err-styles.field-0.0)
    c.in_ok-styles_path.ensures (c.in_err-styles.ensures.refusal honest))))

pub returns-in_err-comments_file-clause-refusal : goal.returns-in_err-comments_file-clause-refusal
returns-in_err-comments_file-clause-refusal g c honest =
    let files = g.S.Store.files c.args.store.now in
    let tree = tree_of files in
    let mid = c.in_err-comments_file.ensures.asks.reads.was_honest honest in
    let same = c.in_ok-styles.ensures.asks.reads.files mid in
    let styles = subst (λ f. own_file styles_path f ≡ Ok c.in_ok-styles.styles) (sym (tree_file files styles_path))
    (subst (λ path. own_file path (get files path) ≡ Ok c.in_ok-styles.styles) c.in_ok-styles_path.ensures
    (c.in_ok-styles.ensures.file mid)) in
    let p = err_from_is_err_and c.from_residual-in_err-comments_file.result c.from_residual-in_err-comments_file.ensures.1 in
    rw (p.1, p.2) (by_comments (own_file styles_path (get tree styles_path))
    (own_file comments_path (get tree comments_path)) c.in_ok-styles.styles styles _
    (subst (λ f. IsRefusalOf (own_file comments_path f) c.in_err-comments_file.field-0.0) (sym (tree_file files comments_path))
    (subst (λ fs. IsRefusalOf (own_file comments_path (get fs comments_path)) c.in_err-comments_file.field-0.0) same
    (subst (λ path. IsRefusalOf (own_file path (get (g.S.Store.files c.read_own.new.store) path)) c.in_err-comments_file.field-0.0)
    c.in_ok-comments_path.ensures (c.in_err-comments_file.ensures.refusal honest)))))

pub returns-in_err-comments-clause-refusal : goal.returns-in_err-comments-clause-refusal
returns-in_err-comments-clause-refusal g c honest =
    let files = g.S.Store.files c.args.store.now in
    let tree = tree_of files in
    let mid = c.in_ok-comments_file.ensures.asks.reads.was_honest honest in
    let same = c.in_ok-styles.ensures.asks.reads.files mid in
    let styles = subst (λ f. own_file styles_path f ≡ Ok c.in_ok-styles.styles) (sym (tree_file files styles_path))
    (subst (λ path. own_file path (get files path) ≡ Ok c.in_ok-styles.styles) c.in_ok-styles_path.ensures
    (c.in_ok-styles.ensures.file mid)) in
    let file = subst (λ f. own_file comments_path f ≡ Ok c.in_ok-comments_file.comments_file) (sym (tree_file files comments_path))
    (subst (λ fs. own_file comments_path (get fs comments_path) ≡ Ok c.in_ok-comments_file.comments_file) same
    (subst (λ path. own_file path (get (g.S.Store.files c.read_own.new.store) path) ≡ Ok c.in_ok-comments_file.comments_file)
    c.in_ok-comments_path.ensures (c.in_ok-comments_file.ensures.file honest))) in
    let p = err_from_is_err_and c.from_residual-in_err-comments.result c.from_residual-in_err-comments.ensures.1 in
    rw (p.1, p.2) (by_own (own_file styles_path (get tree styles_path))
    (own_file comments_path (get tree comments_path)) c.in_ok-styles.styles styles c.in_ok-comments_file.comments_file file _
    c.in_err-comments.ensures.refusal)

pub returns-clause-files : goal.returns-clause-files
returns-clause-files g c honest =
    let files = g.S.Store.files c.args.store.now in
    let tree = tree_of files in
    let mid = c.in_ok-comments_file.ensures.asks.reads.was_honest honest in
    let same = c.in_ok-styles.ensures.asks.reads.files mid in
    let styles = subst (λ f. own_file styles_path f ≡ Ok c.in_ok-styles.styles) (sym (tree_file files styles_path))
    (subst (λ path. own_file path (get files path) ≡ Ok c.in_ok-styles.styles) c.in_ok-styles_path.ensures
    (c.in_ok-styles.ensures.file mid)) in
    let file = subst (λ f. own_file comments_path f ≡ Ok c.in_ok-comments_file.comments_file) (sym (tree_file files comments_path))
    (subst (λ fs. own_file comments_path (get fs comments_path) ≡ Ok c.in_ok-comments_file.comments_file) same
    (subst (λ path. own_file path (get (g.S.Store.files c.read_own.new.store) path) ≡ Ok c.in_ok-comments_file.comments_file)
    c.in_ok-comments_path.ensures (c.in_ok-comments_file.ensures.file honest))) in
    read_is (own_file styles_path (get tree styles_path)) (own_file comments_path (get tree comments_path))
    c.in_ok-styles.styles styles c.in_ok-comments_file.comments_file file c.in_ok-comments.comments c.in_ok-comments.ensures.comments

pub returns-clause-read : goal.returns-clause-read
returns-clause-read g c honest =
    let files = g.S.Store.files c.args.store.now in
    let tree = tree_of files in
    let mid = c.in_ok-comments_file.ensures.asks.reads.was_honest honest in
    let same = c.in_ok-styles.ensures.asks.reads.files mid in
    let styles = subst (λ f. own_file styles_path f ≡ Ok c.in_ok-styles.styles) (sym (tree_file files styles_path))
    (subst (λ path. own_file path (get files path) ≡ Ok c.in_ok-styles.styles) c.in_ok-styles_path.ensures
    (c.in_ok-styles.ensures.file mid)) in
    let file = subst (λ f. own_file comments_path f ≡ Ok c.in_ok-comments_file.comments_file)
    (sym (tree_file files comments_path))
    (subst (λ fs. own_file comments_path (get fs comments_path) ≡ Ok c.in_ok-comments_file.comments_file) same
    (subst (λ path. own_file path (get (g.S.Store.files c.read_own.new.store) path)
    ≡ Ok c.in_ok-comments_file.comments_file) c.in_ok-comments_path.ensures
    (c.in_ok-comments_file.ensures.file honest))) in
    record {
      styles = file_given styles_path (get tree styles_path) c.in_ok-styles.styles styles;
      comments_file = file_given comments_path (get tree comments_path) c.in_ok-comments_file.comments_file file;
      comments = c.in_ok-comments.ensures.comments;
    }
