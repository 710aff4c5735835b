use Rattle.reuse_folder.proofs.folder.RootFolder.remove.Goals as goal

pub returns-clause-keeps_edits : goal.returns-clause-keeps_edits
returns-clause-keeps_edits g c = (
  c.take_expected-expected.result,
  c.take_expected-expected.ensures.expected,
  rw c.take_expected-expected.ensures.kept at c.remove_expected.ensures.keeps_edits,
)

pub returns-clause-place : goal.returns-clause-place
returns-clause-place g c honest = rw c.take_expected-expected.ensures.kept at (c.remove_expected.ensures.place honest)

pub returns-clause-others : goal.returns-clause-others
returns-clause-others g c honest = rw c.take_expected-expected.ensures.kept at (c.remove_expected.ensures.others honest)
