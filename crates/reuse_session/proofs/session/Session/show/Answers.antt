use Rattle.std.proofs.Common.{◌≡◌, ◌∙◌, Some, None, Err, refl, sym, ap, subst}
use Rattle.std.proofs.lemmas.Bool.{false≢true}
use Rattle.reuse_command.specs.Answer.{DidNotFail}
use Rattle.reuse_session.specs.session.Session.{memory_of}
use Rattle.reuse_journal.specs.Numbered.{row_in}
use Rattle.reuse_command.proofs.OnlyReading.{is_refused}
use Rattle.reuse_session.proofs.lemmas.journal.StepAnswers.{read_reported}
use Rattle.reuse_session.proofs.lemmas.session.StepsByNumber.{none_listed, some_listed, unused_both, row_says, shows}
use Rattle.reuse_session.proofs.lemmas.session.StepsByNumber.{shows_at, read_is_no_absence}
use Rattle.reuse_edit.proofs.Results.{none_unless_some}
use Rattle.reuse_session.proofs.session.Session.show.Goals as goal

-- no step has the number
pub returns-in_default-clause-absent : goal.returns-in_default-clause-absent
returns-in_default-clause-absent g c =
    let none : row_in (memory_of c.args.self.now) c.args.number ≡ None =
    sym c.row.ensures ∙ none_unless_some c.row.result c.in_default.not-Some in
    (λ e. (c.if-self.false, none_listed (memory_of c.args.self.now) c.args.number none), λ h. refl)

pub returns-in_default-clause-exact : goal.returns-in_default-clause-exact
returns-in_default-clause-exact g c honest held stands reported =
    let none : row_in (memory_of c.args.self.now) c.args.number ≡ None =
    sym c.row.ensures ∙ none_unless_some c.row.result c.in_default.not-Some in
    let both = unused_both (memory_of c.args.self.now) held.journal c.args.number stands.remembers none in
    (refl, both.0, both.1)

-- the entry can't be read
pub returns-in_err-entry-clause-absent : goal.returns-in_err-entry-clause-absent
returns-in_err-entry-clause-absent g c =
    let is = is_refused c.from_residual.result c.from_residual.ensures.1 in
    let some : row_in (memory_of c.args.self.now) c.args.number ≡ Some c.in-Some.row =
    sym c.row.ensures ∙ c.in-Some.is in (
      λ e. absurd (read_is_no_absence c.in_err-entry.field-0.0 c.in_err-entry.ensures.refusal c.args.number
          (let h = sym is ∙ e in cc)),
      λ h. absurd (false≢true (sym h.1 ∙ some_listed (memory_of c.args.self.now) c.args.number c.in-Some.row some)),
    )

pub returns-in_err-entry-clause-exact : goal.returns-in_err-entry-clause-exact
returns-in_err-entry-clause-exact g c honest held stands reported =
    let is = is_refused c.from_residual.result c.from_residual.ensures.1 in
    let some : row_in (memory_of c.args.self.now) c.args.number ≡ Some c.in-Some.row =
    sym c.row.ensures ∙ c.in-Some.is in
    let says = row_says g.S.Store.files c.args.self.now held stands c.args.number c.in-Some.row some in
    absurd (read_reported c.in_err-entry.field-0.0 c.in_err-entry.ensures.refusal (subst DidNotFail is reported)
    (λ path e. (c.read_entry.ensures.bad honest path (c.in_err-entry.was ∙ ap (λ x. Err x) e)).1 says.0 says.1))

-- it is shown
pub returns-clause-absent : goal.returns-clause-absent
returns-clause-absent g c =
    let some : row_in (memory_of c.args.self.now) c.args.number ≡ Some c.in-Some.row =
    sym c.row.ensures ∙ c.in-Some.is in (
      λ e. absurd (cc),
      λ h. absurd (false≢true (sym h.1 ∙ some_listed (memory_of c.args.self.now) c.args.number c.in-Some.row some)),
    )

pub returns-clause-exact : goal.returns-clause-exact
returns-clause-exact g c honest held stands reported =
    let some : row_in (memory_of c.args.self.now) c.args.number ≡ Some c.in-Some.row =
    sym c.row.ensures ∙ c.in-Some.is in
    shows g.S.Store.files c.args.self.now held stands c.args.number c.in-Some.row c.in_ok-entry.entry some
    (c.in_ok-entry.ensures.ok honest) (record { row = c.in-Some.row; changes = c.new.result }) refl c.new.ensures

pub returns-clause-machine : goal.returns-clause-machine
returns-clause-machine g c honest state stands_at =
    shows_at stands_at.held state stands_at.holds c.args.number (record { row = c.in-Some.row; changes = c.new.result })
    (returns-clause-exact g c honest stands_at.held stands_at.stands tt)
