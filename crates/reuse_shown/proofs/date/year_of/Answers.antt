use Rattle.std.proofs.Common.{arith, ◌∙◌, ap, sym, unsigned_abs, w16, FitsSigned}
use Rattle.std.proofs.lemmas.Int.{to_z-of_z}
use Rattle.jiff.proofs.SpanFacts.{signed_arith}
use Rattle.reuse_shown.proofs.date.year_of.Goals as goal

pub returns-clause-year : goal.returns-clause-year
returns-clause-year c =
    let fits : FitsSigned w16 c.year.result = omega (arith, signed_arith, c.year.type_inv) in
    let value = simp to_z-of_z at c.unsigned_abs.ensures.value in
    (c.date_of.result, (c.date_of.ensures, ap unsigned_abs (sym c.year.ensures) ∙ sym value))
