use Rattle.std.proofs.Common.{◌≡◌, ◌++◌, ℕ, List, Bor, rules, tests, nat_eq, ap, subst, ◌∙◌}
use Rattle.std.specs.Prelude.{filter_map}
use Rattle.std.specs.List.{slice_split}
use Rattle.std.specs.Option.{option_map, option_to_list}
use Rattle.std.proofs.lemmas.Iterator.Consumers.{YieldsList-at, YieldsList-end}
use Rattle.std.proofs.lemmas.Iterator.Splits.{YieldsList-from_slice_split}
use Rattle.reuse_notice.specs.Sets.{set_of}
use Rattle.reuse_arguments.specs.FileLists.{path_listed, separator_of}
use Rattle.reuse_arguments.proofs.FileListLemmas.{one_word_more}
use Rattle.reuse_arguments.proofs.file_list.paths_of_list.Goals as goal

pub loop-word-preserved : goal.loop-word-preserved
loop-word-preserved c =
    let folder = option_map (λ (text : Bor (List ℕ)). text.now) c.args.folder in
    let adds = subst (λ separator. c.push_listed.new.paths.items ≡ c.loop-word.paths.items ++ option_to_list
    (path_listed folder separator c.in-Some.word.now)) c.separator_of-separator.ensures c.in_ok-push_listed.ensures in
    one_word_more (path_listed folder (separator_of c.args.list.now)) c.loop-word.yielded c.in-Some.word
    c.loop-word.paths.items c.push_listed.new.paths.items c.loop-word.invariant adds

pub returns : goal.returns
returns c =
    let separator = c.separator_of-separator.result in
    let named = filter_map (path_listed (option_map (λ text. text.now) c.args.folder) (separator_of c.args.list.now)) in
    let words = YieldsList-end
    (YieldsList-at c.into_iter-word-iterator.ensures.into_iter_gives
    (YieldsList-from_slice_split _ (λ byte. nat_eq byte separator) c.args.list.now c.split-word-items.ensures.rest
    c.split-word-items.ensures.done c.split-word-items.ensures.closure
    (λ x b q k. search (rules, tests))))
    c.loop-word.yielded _ c.loop-word.yielded_by _ _ c.in-None.is c.next.ensures.steps in
    c.new.ensures ∙ ap set_of (c.loop-word.invariant ∙ ap named words.0)
    ∙ ap (λ s. set_of (named (slice_split (λ byte. nat_eq byte s) c.args.list.now))) c.separator_of-separator.ensures
