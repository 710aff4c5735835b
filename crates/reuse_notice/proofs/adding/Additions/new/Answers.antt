use Rattle.std.proofs.Common.{◌≡◌, false, Some, ◌∙◌, sym, ap, subst}
use Rattle.std.specs.Prelude.{All, not, ◌&&◌}
use Rattle.std.specs.Option.{option_map}
use Rattle.reuse_notice.specs.Adding.{bad_expression}
use Rattle.reuse_notice.specs.Contents.{is_nil}
use Rattle.reuse_notice.specs.Refusals.{arguments}
use Rattle.reuse_notice.specs.Texts.{texts_of}
use Rattle.reuse_notice.specs.Keeping.{HaveFourDigits}
use Rattle.reuse_notice.specs.Plain.{IsPlain}
use Rattle.reuse_notice.proofs.PlainLemmas.{good-texts, plain-notices, short-chosen}
use Rattle.reuse_notice.proofs.LicenceLemmas.{good-licences}
use Rattle.reuse_notice.proofs.TestLemmas.{not_first, not_second}
use Rattle.reuse_notice.proofs.RefusalLemmas.{nil_is, nothing_refused, both_refused, year_refused, copyright_refused}
use Rattle.reuse_notice.proofs.RefusalLemmas.{contributor_refused, licence_refused, made}
use Rattle.reuse_notice.proofs.adding.Additions.new.Goals as goal
use Rattle.reuse_notice.proofs.adding.Additions.new.Goals.{Joined-else-is_empty, Joined-else-exclude}
use Rattle.reuse_notice.proofs.adding.Additions.new.Goals.{
  else-is_empty-via-then-is_empty+then-is_empty-2+else-is_empty-3,
}
use Rattle.reuse_notice.proofs.adding.Additions.new.Goals.{else-is_empty-via-then-is_empty+else-is_empty-2}
use Rattle.reuse_notice.proofs.adding.Additions.new.Goals.{else-is_empty-via-else-is_empty}
use Rattle.reuse_notice.proofs.adding.Additions.new.Goals.{else-exclude-via-then-exclude+else-not-is_empty}
use Rattle.reuse_notice.proofs.adding.Additions.new.Goals.{else-exclude-via-else-exclude}

pub returns-clause-plain : goal.returns-clause-plain
returns-clause-plain c = record {
  notices = subst (All IsPlain) (sym c.in_ok-write_notices.ensures.written)
      (plain-notices c.args.prefix c.choose_years-years.result _
      (subst HaveFourDigits (sym c.choose_years-years.ensures)
      (short-chosen _ c.args.exclude c.args.current c.requires))
      (good-texts c.args.copyrights.now
      (sym c.find_bad_text.ensures ∙ ap (option_map (λ t. t.now)) c.in_default-find_bad_text.is)));
  contributors = subst (All IsPlain) (sym c.in_ok-copy_texts.ensures.texts)
      (good-texts c.args.contributors.now
      (sym c.find_bad_text-2.ensures ∙ ap (option_map (λ t. t.now)) c.in_default-find_bad_text-2.is));
  licences = subst (All IsPlain) (sym c.in_ok-copy_texts-2.ensures.texts)
      (good-licences c.args.licences.now (sym c.find_bad_licence.ensures
      ∙ ap (option_map (λ t. bad_expression t.0.now t.1)) c.in_default-find_bad_licence.is));
}

pub returns-clause-utf8 : goal.returns-clause-utf8
returns-clause-utf8 c = record {
  notices = c.in_ok-write_notices.ensures.utf8 (subst HaveFourDigits (sym c.choose_years-years.ensures)
      (short-chosen _ c.args.exclude c.args.current c.requires));
  contributors = c.in_ok-copy_texts.ensures.utf8;
  licences = c.in_ok-copy_texts-2.ensures.utf8;
}

-- a branch that was not taken
something : (c : Joined-else-is_empty) → (is_nil (texts_of c.args.copyrights.now) && is_nil
    (texts_of c.args.licences.now) && is_nil (texts_of c.args.contributors.now)) ≡ false
something c = elim c.else-is_empty.branch [
  | else-is_empty-via-then-is_empty+then-is_empty-2+else-is_empty-3 w ↦
      not_second _ _ (nil_is c.args.contributors.now _ _ w.is_empty-then-is_empty-2.ensures w.if-is_empty-3.false)
  | else-is_empty-via-then-is_empty+else-is_empty-2 w ↦ not_first _ _
      (not_second _ _ (nil_is c.args.licences.now _ _ w.is_empty-then-is_empty.ensures w.if-is_empty-2.false))
  | else-is_empty-via-else-is_empty w ↦
      not_first _ _ (not_first _ _ (nil_is c.args.copyrights.now _ _ c.is_empty.ensures w.if-is_empty.false))
]

either : (c : Joined-else-exclude) → (c.args.exclude && not (is_nil (texts_of c.args.years.now))) ≡ false
either c = elim c.else-exclude.branch [
  | else-exclude-via-then-exclude+else-not-is_empty w ↦
      not_second _ _ (ap not (nil_is c.args.years.now _ _ w.is_empty-then-exclude.ensures w.if-not-is_empty.false))
  | else-exclude-via-else-exclude w ↦ not_first _ _ w.if-exclude.false
]

pub returns-then-is_empty-3-clause-refused : goal.returns-then-is_empty-3-clause-refused
returns-then-is_empty-3-clause-refused c = nothing_refused (arguments c.args.copyrights.now c.args.licences.now
    c.args.contributors.now c.args.years.now c.args.exclude c.args.current c.args.prefix)
    (nil_is c.args.copyrights.now _ _ c.is_empty.ensures c.if-is_empty.true)
    (nil_is c.args.licences.now _ _ c.is_empty-then-is_empty.ensures c.if-is_empty-2.true)
    (nil_is c.args.contributors.now _ _ c.is_empty-then-is_empty-2.ensures c.if-is_empty-3.true)

pub returns-then-not-is_empty-clause-refused : goal.returns-then-not-is_empty-clause-refused
returns-then-not-is_empty-clause-refused c = both_refused (arguments c.args.copyrights.now c.args.licences.now
    c.args.contributors.now c.args.years.now c.args.exclude c.args.current c.args.prefix)
    (something (goal.at.returns-then-not-is_empty-clause-refused c).Joined-else-is_empty) c.if-exclude.true
    (nil_is c.args.years.now _ _ c.is_empty-then-exclude.ensures c.if-not-is_empty.true)

pub returns-in-Some-clause-refused : goal.returns-in-Some-clause-refused
returns-in-Some-clause-refused c = let at = goal.at.returns-in-Some-clause-refused c in
    year_refused (arguments c.args.copyrights.now c.args.licences.now c.args.contributors.now c.args.years.now
    c.args.exclude c.args.current c.args.prefix) (something at.Joined-else-is_empty) (either at.Joined-else-exclude)
    _
    (sym c.find_bad_year.ensures ∙ ap (option_map (λ t. t.now)) c.in-Some.is ∙ ap Some (sym c.in_ok-from_slice.ensures))

pub returns-in-Some-find_bad_text-clause-refused : goal.returns-in-Some-find_bad_text-clause-refused
returns-in-Some-find_bad_text-clause-refused c = let at = goal.at.returns-in-Some-find_bad_text-clause-refused c in
    copyright_refused (arguments c.args.copyrights.now c.args.licences.now c.args.contributors.now c.args.years.now
    c.args.exclude c.args.current c.args.prefix) (something at.Joined-else-is_empty) (either at.Joined-else-exclude)
    (sym c.find_bad_year.ensures ∙ ap (option_map (λ t. t.now)) c.in_default.is) _ (sym c.find_bad_text.ensures
    ∙ ap (option_map (λ t. t.now)) c.in-Some-find_bad_text.is ∙ ap Some (sym c.in_ok-from_slice-2.ensures))

pub returns-in-Some-find_bad_text-2-clause-refused : goal.returns-in-Some-find_bad_text-2-clause-refused
returns-in-Some-find_bad_text-2-clause-refused c = let at = goal.at.returns-in-Some-find_bad_text-2-clause-refused c in
    contributor_refused (arguments c.args.copyrights.now c.args.licences.now c.args.contributors.now c.args.years.now
    c.args.exclude c.args.current c.args.prefix) (something at.Joined-else-is_empty) (either at.Joined-else-exclude)
    (sym c.find_bad_year.ensures ∙ ap (option_map (λ t. t.now)) c.in_default.is)
    (sym c.find_bad_text.ensures ∙ ap (option_map (λ t. t.now)) c.in_default-find_bad_text.is)
    _ (sym c.find_bad_text-2.ensures ∙ ap (option_map (λ t. t.now)) c.in-Some-find_bad_text-2.is
    ∙ ap Some (sym c.in_ok-from_slice-3.ensures))

pub returns-in-Some-find_bad_licence-clause-refused : goal.returns-in-Some-find_bad_licence-clause-refused
returns-in-Some-find_bad_licence-clause-refused c =
    let at = goal.at.returns-in-Some-find_bad_licence-clause-refused c in
    licence_refused (arguments c.args.copyrights.now c.args.licences.now c.args.contributors.now c.args.years.now
    c.args.exclude c.args.current c.args.prefix) (something at.Joined-else-is_empty) (either at.Joined-else-exclude)
    (sym c.find_bad_year.ensures ∙ ap (option_map (λ t. t.now)) c.in_default.is)
    (sym c.find_bad_text.ensures ∙ ap (option_map (λ t. t.now)) c.in_default-find_bad_text.is)
    (sym c.find_bad_text-2.ensures ∙ ap (option_map (λ t. t.now)) c.in_default-find_bad_text-2.is)
    _ (sym c.find_bad_licence.ensures ∙ ap (option_map (λ t. bad_expression t.0.now t.1)) c.in-Some-find_bad_licence.is
    ∙ ap (λ t. Some (bad_expression t c.in-Some-find_bad_licence.place)) (sym c.in_ok-text.ensures))

pub returns-clause-added : goal.returns-clause-added
returns-clause-added c = let at = goal.at.returns-clause-added c in let given = arguments c.args.copyrights.now
    c.args.licences.now c.args.contributors.now c.args.years.now c.args.exclude c.args.current c.args.prefix in (
      licence_refused given (something at.Joined-else-is_empty) (either at.Joined-else-exclude)
          (sym c.find_bad_year.ensures ∙ ap (option_map (λ t. t.now)) c.in_default.is)
          (sym c.find_bad_text.ensures ∙ ap (option_map (λ t. t.now)) c.in_default-find_bad_text.is)
          (sym c.find_bad_text-2.ensures ∙ ap (option_map (λ t. t.now)) c.in_default-find_bad_text-2.is)
          _ (sym c.find_bad_licence.ensures
          ∙ ap (option_map (λ t. bad_expression t.0.now t.1)) c.in_default-find_bad_licence.is),
      made given _ _ _ _ c.choose_years-years.ensures c.in_ok-write_notices.ensures.written
          c.in_ok-copy_texts.ensures.texts
          c.in_ok-copy_texts-2.ensures.texts,
    )
