use Rattle.std.proofs.Common.{◌≡◌, ◌-◌, ◌≤◌, ◌==◌, List, ℕ, not, IfOk, take, drop, length, reverse, map, arith, sym, ap}
use Rattle.std.proofs.Common.{ap₂, subst, ◌∙◌}
use Rattle.std.specs.Prelude.{take_while}
use Rattle.std.specs.List.{prefix_len}
use Rattle.std.proofs.Math.Seq.{take-append_seam}
use Rattle.std.proofs.lemmas.List.{length-drop, length-reverse, reverse-append, take_all, take-append-drop}
use Rattle.std.proofs.lemmas.List.Folds.{length-prefix_len}
use Rattle.std.proofs.lemmas.List.Sums.{prefix_len-le-length}
use Rattle.reuse_journal.specs.History.{Memory}
use Rattle.reuse_journal.specs.declared.history.ListedEntry.{ListedEntry}
use Rattle.reuse_journal.proofs.history.History.numbers_after.Goals as goal

-- the last k, in reverse, are the first k of the reverse
last_in_reverse : {X : Type 0} (xs : List X) (k : ℕ) → k ≤ length xs
    → reverse (drop (length xs - k) xs) ≡ take k (reverse xs)
last_in_reverse xs k low =
    let n = length xs - k in
    let count : k ≡ length (reverse (drop (length xs - k) xs)) =
    omega (arith, low, length-reverse (drop (length xs - k) xs), length-drop (length xs - k) xs) in
    sym (ap (λ m. take m (reverse xs)) count ∙ ap (take (length (reverse (drop (length xs - k) xs))))
    (ap reverse (sym (take-append-drop n xs)) ∙ reverse-append (take n xs) (drop n xs))
    ∙ take-append_seam (reverse (drop n xs)) (reverse (take n xs)))

pub returns : goal.returns
returns c =
    let done = c.args.self.now.done in
    let passes = λ (entry : ListedEntry). not (entry.number == c.args.number) in
    let is_done = ap (λ (m : Memory). m.done) c.self.view_is in
    let shown : c.deref.result.now ≡ c.args.self.now.done = c.deref.ensures.value ∙ is_done in
    let counted : c.count_after.result ≡ prefix_len (λ (entry : ListedEntry). not (entry.number == c.args.number))
    (reverse c.args.self.now.done) =
    c.count_after.ensures.count
    ∙ ap (λ es. length (take_while (λ (entry : ListedEntry). not (entry.number == c.args.number)) (reverse es)))
    (c.as_slice.ensures.value ∙ is_done) ∙ length-prefix_len passes (reverse done) in
    let later : c.len.result - c.count_after.result ≡ length c.args.self.now.done - prefix_len
    (λ (entry : ListedEntry). not (entry.number == c.args.number)) (reverse c.args.self.now.done) =
    omega (arith, counted, c.len.ensures, ap length is_done) in
    let room : prefix_len (λ (entry : ListedEntry). not (entry.number == c.args.number))
    (reverse c.args.self.now.done) ≤ length c.args.self.now.done =
    omega (arith, prefix_len-le-length passes (reverse done), length-reverse done) in
    let rest : take (length c.deref.result.now - (c.len.result - c.count_after.result))
    (drop (c.len.result - c.count_after.result) c.deref.result.now) ≡ drop
    (c.len.result - c.count_after.result) c.deref.result.now =
    take_all (length c.deref.result.now - (c.len.result - c.count_after.result))
    (drop (c.len.result - c.count_after.result) c.deref.result.now)
    (omega (arith, length-drop (c.len.result - c.count_after.result) c.deref.result.now)) in
    subst (λ es. IfOk c.numbers_back.result (λ numbers. numbers.items ≡ map (λ (entry : ListedEntry). entry.number) es))
    (ap reverse rest ∙ ap₂ (λ n es. reverse (drop n es)) later shown
    ∙ last_in_reverse done (prefix_len passes (reverse done)) room) c.numbers_back.ensures
