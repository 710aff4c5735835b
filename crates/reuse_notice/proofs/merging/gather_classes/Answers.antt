use Rattle.std.proofs.Common.{◌∙◌, sym, ap, Some}
use Rattle.std.specs.Option.{option_map}
use Rattle.std.specs.Ordering.{nat_cmp}
use Rattle.std.specs.Cmp.Lexicographic.{slice_cmp}
use Rattle.std.specs.Map.{lookup, update}
use Rattle.std.specs.BTreeMap.{is_at}
use Rattle.std.specs.Str.{bytes_eq}
use Rattle.std.proofs.lemmas.Map.Text.{btree_map_updates_str}
use Rattle.reuse_notice.specs.Tags.{notice_of}
use Rattle.reuse_notice.specs.TagViews.{notice_view}
use Rattle.reuse_notice.specs.MergeSteps.{class_at, grown}
use Rattle.reuse_notice.proofs.MergeLemmas.{summary-nil, classes-more, classes-same}
use Rattle.reuse_notice.proofs.merging.gather_classes.Goals as goal
use Rattle.reuse_notice.proofs.merging.gather_classes.Goals.{in-Some+in_ok-insert, in_default}

pub loop-text-init : goal.loop-text-init
loop-text-init c = λ holder. ap (lookup (is_at (λ k. slice_cmp nat_cmp holder k.now))) c.new-classes.ensures.empty
    ∙ sym (summary-nil c.args.command.now)

pub loop-text-preserved : goal.loop-text-preserved
loop-text-preserved c =
    let read = sym (ap notice_of (c.as_slice.ensures ∙ c.text-item.is)) ∙ sym c.read_notice.ensures in
    elim c.match-read_notice.branch [
      | in-Some+in_ok-insert w ↦
          (let holder = w.in-Some.notice.holder.now in
          let notice = notice_view w.in-Some.notice in
          let old = class_at c.loop-text.classes in
          classes-more c.args.command.now c.args.notices.now c.loop-text.text-index _ notice old
          (class_at c.match-read_notice.classes) c.loop-text-test.true
          (read ∙ ap (option_map notice_view) w.in-Some.is) c.loop-text.invariant
          (λ h. ap (λ m. class_at m h) w.classes-is
          ∙ btree_map_updates_str holder c.loop-text.classes w.insert.new.self _ w.in_ok-insert.ensures.updates h
          ∙ ap (λ v. update bytes_eq old holder (Some v) h)
          (w.grow_class.ensures
          ∙ ap (λ o. grown o w.contains-is_commanded.result notice) (w.copied-old.ensures ∙ w.get.ensures.value)
          ∙ ap (λ b. grown (old holder) b notice)
          (w.contains-is_commanded.ensures ∙ c.in_ok-commanded.ensures w.in-Some.notice.text.now))))
      | in_default w ↦
          (λ h. ap (λ m. class_at m h) w.classes-is
          ∙ classes-same c.args.command.now c.args.notices.now c.loop-text.text-index _
          (class_at c.loop-text.classes) c.loop-text-test.true
          (read ∙ ap (option_map notice_view) w.in_default.is) c.loop-text.invariant h)
    ]
