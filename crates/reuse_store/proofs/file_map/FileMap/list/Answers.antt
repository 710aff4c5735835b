use Rattle.std.proofs.Common.{◌≡◌, ◌++◌, ◌∷◌, [], List, ℕ, Bool, true, false, cond, filter, append_assoc, sym, ap, ◌∙◌}
use Rattle.std.proofs.lemmas.List.{append-nil}
use Rattle.std.specs.BTreeMap.{keys}
use Rattle.reuse_change.specs.Listing.{is_wanted}
use Rattle.reuse_store.proofs.Contents.{keys_contents}
use Rattle.reuse_store.proofs.file_map.FileMap.list.Goals as goal

module _ (wanted : List ℕ → Bool) (so_far rest left all : List (List ℕ)) (path : List ℕ) (is : left ≡ path ∷ rest)
    (kept : so_far ++ filter wanted left ≡ all) where
  one_more : wanted path ≡ true → (so_far ++ path ∷ []) ++ filter wanted rest ≡ all
  one_more e =
      append_assoc so_far (path ∷ []) (filter wanted rest)
      ∙ ap (λ l. so_far ++ l)
      (ap (λ b. cond b (path ∷ filter wanted rest) (filter wanted rest)) (sym e) ∙ ap (filter wanted) (sym is))
      ∙ kept

  passed_over : wanted path ≡ false → so_far ++ filter wanted rest ≡ all
  passed_over e = ap (λ l. so_far ++ l)
      (ap (λ b. cond b (path ∷ filter wanted rest) (filter wanted rest)) (sym e) ∙ ap (filter wanted) (sym is)) ∙ kept

pub loop-path-init : goal.loop-path-init
loop-path-init g c =
    let wanted = is_wanted c.args.folders.now (g.P.Pruning.prunes c.args.pruning.now) in
    ap (λ paths. paths ++ filter wanted c.into_iter-path-iterator.result) c.new-paths.ensures.items
    ∙ ap (filter wanted) (c.into_iter-path-iterator.ensures.into_iter_gives ∙ c.keys-path-items.ensures.rest)

pub loop-path-preserved-in_ok-push : goal.loop-path-preserved-in_ok-push
loop-path-preserved-in_ok-push g c =
    let wanted = is_wanted c.args.folders.now (g.P.Pruning.prunes c.args.pruning.now) in
    ap (λ paths. paths ++ filter wanted c.next.new.self)
    (c.in_ok-push.ensures.items ∙ ap (λ path. c.loop-path.paths.items ++ path ∷ []) c.in_ok-try_clone.ensures)
    ∙ one_more wanted c.loop-path.paths.items c.next.new.self c.loop-path.path-iterator
    (filter wanted (keys c.args.self.now.contents)) c.in-Some.path.now c.in-Some.ensures.steps c.loop-path.invariant
    (sym c.is_wanted.ensures ∙ c.if-is_wanted.true)

pub loop-path-preserved : goal.loop-path-preserved
loop-path-preserved g c =
    passed_over (is_wanted c.args.folders.now (g.P.Pruning.prunes c.args.pruning.now)) c.loop-path.paths.items
    c.next.new.self c.loop-path.path-iterator
    (filter (is_wanted c.args.folders.now (g.P.Pruning.prunes c.args.pruning.now)) (keys c.args.self.now.contents))
    c.in-Some.path.now c.in-Some.ensures.steps c.loop-path.invariant
    (sym c.is_wanted.ensures ∙ c.if-is_wanted.false)

pub returns : goal.returns
returns g c =
    let paths = c.loop-path.paths.items in
    let wanted = is_wanted c.args.folders.now (g.P.Pruning.prunes c.args.pruning.now) in
    sym (append-nil paths) ∙ ap (λ left. paths ++ filter wanted left) (sym c.in-None.ensures.steps.0)
    ∙ c.loop-path.invariant
    ∙ ap (filter wanted) (sym (keys_contents c.args.self.now.contents.entries c.keys-path-items.ensures.ordered))
