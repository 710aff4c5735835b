use Rattle.std.proofs.Common.{◌≡◌, ◌∙◌, ℕ, ◌+◌, ◌<◌, ◌≤◌, List, Bor, [], ◌∷◌, ◌++◌, length, get_or, map, take, true}
use Rattle.std.proofs.Common.{false, append_assoc, ap, sym, subst}
use Rattle.std.proofs.lemmas.List.{append-nil, map-append, map_more, take_all}
use Rattle.reuse_journal.specs.History.{Memory, row_listing}
use Rattle.reuse_journal.specs.declared.history.ListedEntry.{ListedEntry}
use Rattle.reuse_journal.proofs.history.History.rows.Goals as goal

pushed : {X Y : Type 0} (f : X → Y) (xs : List X) (i : ℕ) (x : X) (before after : List Y) → i < length xs
    → x ≡ get_or xs i x → before ≡ map f (take i xs) → after ≡ before ++ f x ∷ [] → after ≡ map f (take (i + 1) xs)
pushed f xs i x before after lt is so here =
    here ∙ ap (λ l. l ++ f x ∷ []) so ∙ ap (λ y. map f (take i xs) ++ f y ∷ []) is ∙ sym (map_more f xs i x lt)

pushed_behind : {X Y Z : Type 0} (f : Y → Z) (h : X → Y) (front : List Z) (xs : List X) (x : X)
    → (front ++ map f (map h xs)) ++ f (h x) ∷ [] ≡ front ++ map f (map h (xs ++ x ∷ []))
pushed_behind f h front xs x = simp (append_assoc, map-append)

pub loop-entry-init : goal.loop-entry-init
loop-entry-init c =
    (c.deref-entry-items.ensures.value ∙ ap (λ (m : Memory). m.done) c.self.view_is, c.new-rows.ensures.items)

pub loop-entry-preserved : goal.loop-entry-preserved
loop-entry-preserved c =
    let i = c.loop-entry.entry-index in
    let entry = c.entry-item.result in
    let is = c.loop-entry.invariant.0 in (
      is,
      pushed (row_listing true) c.args.self.now.done i entry c.loop-entry.rows.items c.push.new.self.items
          (subst (λ l. i < length l) is c.loop-entry-test.true)
          (c.entry-item.is ∙ ap (λ l. get_or l i entry) is) c.loop-entry.invariant.1
          (c.in_ok-push.ensures.items ∙ ap (λ r. c.loop-entry.rows.items ++ r ∷ []) c.row_of.ensures),
    )

pub loop-entry-2-init : goal.loop-entry-2-init
loop-entry-2-init c =
    let i = c.loop-entry.entry-index in
    c.loop-entry.invariant.1 ∙ ap (map (row_listing true))
    (take_all i c.args.self.now.done (subst (λ l. length l ≤ i) c.loop-entry.invariant.0 c.loop-entry-test.false))
    ∙ sym (append-nil (map (row_listing true) c.args.self.now.done))

pub loop-entry-2-preserved : goal.loop-entry-2-preserved
loop-entry-2-preserved c =
    let rows = c.loop-entry-2.rows.items in
    c.in_ok-push-2.ensures.items ∙ ap (λ r. rows ++ r ∷ []) c.row_of-in-loop-entry-2.ensures
    ∙ ap (λ l. l ++ row_listing false c.in-Some.entry.now ∷ []) c.loop-entry-2.invariant
    ∙ pushed_behind (row_listing false) (λ (entry : Bor ListedEntry). entry.now)
    (map (row_listing true) c.args.self.now.done) c.loop-entry-2.yielded c.in-Some.entry
