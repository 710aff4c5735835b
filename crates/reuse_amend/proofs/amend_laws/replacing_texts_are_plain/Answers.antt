use Rattle.reuse_notice.proofs.PlainLemmas.{good-text}
use Rattle.reuse_notice.proofs.LicenceLemmas.{good-licence}
use Rattle.reuse_amend.proofs.OrdinaryLemmas.{year_short}
use Rattle.reuse_amend.proofs.amend_laws.replacing_texts_are_plain.Goals as goal

pub returns : goal.returns
returns c = record { licences = good-licence; others = good-text; years = year_short }
