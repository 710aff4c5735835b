use Rattle.reuse_undo.proofs.run.names.find_names.Goals as goal

pub returns : goal.returns
returns g c =
    let called = c.call-store.ensures in
    let answer = c.call-store.result.1 in
    let found = c.names_answered.ensures in
    record {
      exact = λ honest. (answer, called.carries honest, found);
      survives = λ honest start from.
          let at = called.survives honest start from in
          (at.0, answer, at.1, found, at.2);
      reads_only = called.reads_only;
      fault = (answer, found, called.fault);
      failures = called.failures;
      was_honest = called.was_honest;
    }
