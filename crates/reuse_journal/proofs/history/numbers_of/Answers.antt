use Rattle.std.proofs.Common.{◌≡◌, ◌∙◌, ℕ, ◌+◌, ◌<◌, List, [], ◌∷◌, ◌++◌, length, get_or, map, take, ap, sym}
use Rattle.std.proofs.lemmas.List.{map_more, take_all}
use Rattle.reuse_journal.specs.declared.history.ListedEntry.{ListedEntry}
use Rattle.reuse_journal.proofs.history.numbers_of.Goals as goal

pushed : (xs : List ListedEntry) (i : ℕ) (x : ListedEntry) (before after : List ℕ) → i < length xs → x ≡ get_or xs i x
    → before ≡ map (λ (entry : ListedEntry). entry.number) (take i xs) → after ≡ before ++ x.number ∷ []
    → after ≡ map (λ (entry : ListedEntry). entry.number) (take (i + 1) xs)
pushed xs i x before after lt is so here =
    here ∙ ap (λ l. l ++ x.number ∷ []) so
    ∙ ap (λ (y : ListedEntry). map (λ (entry : ListedEntry). entry.number) (take i xs) ++ y.number ∷ []) is
    ∙ sym (map_more (λ (entry : ListedEntry). entry.number) xs i x lt)

pub loop-entry-init : goal.loop-entry-init
loop-entry-init c = c.in_ok-numbers.ensures.items

pub loop-entry-preserved : goal.loop-entry-preserved
loop-entry-preserved c =
    pushed c.args.entries.now c.loop-entry.entry-index c.entry-item.result c.loop-entry.numbers.items
    c.push.new.self.items c.loop-entry-test.true c.entry-item.is c.loop-entry.invariant c.in_ok-push.ensures.items

pub returns : goal.returns
returns c = c.new.ensures ∙ c.loop-entry.invariant ∙ ap (map (λ (entry : ListedEntry). entry.number))
    (take_all c.loop-entry.entry-index c.args.entries.now c.loop-entry-test.false)
