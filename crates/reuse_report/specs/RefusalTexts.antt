-- The texts that say why a call was not begun (docs/RULES.md, "Refusals").
use Rattle.std.specs.Prelude.{ℕ, List, ◌++◌, codes}
use Rattle.reuse_report.specs.declared.access_refusal.AccessRefusal.{AccessRefusal}
use Rattle.reuse_report.specs.declared.access_refusal.AccessRefusal.TheVariants.{JournalOfAnother, CannotKeepOwner}
use Rattle.reuse_report.specs.declared.access_refusal.AccessRefusal.TheVariants.{NameTooLong}

-- why a call wasn't begun
abbrev pub access_refusal_text : AccessRefusal → List ℕ
access_refusal_text JournalOfAnother = codes "journal of another user"
access_refusal_text (CannotKeepOwner path) = path ++ codes ": cannot keep its owner"
access_refusal_text (NameTooLong path) = path ++ codes ": too long"
