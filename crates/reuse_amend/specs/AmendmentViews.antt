-- Amendments as they are asked for, and the answer of a call that may leave the grammar (this project's own).
use Rattle.std.specs.Prelude.{◌≡◌, ℕ, List, [], Option, None, Some, Result, Ok, Err}
use Rattle.reuse_amend.specs.declared.replacements.Replacement.{Replacement}
use Rattle.reuse_amend.specs.declared.amendments.Amendments.{Amendments}
use Rattle.reuse_amend.specs.declared.amendments.AmendRefusal.{AmendRefusal}
use Rattle.reuse_amend.specs.declared.amendments.AmendRefusal.TheVariants.{BadExpression, Memory}
use Rattle.reuse_notice.specs.Adding.{without_spaces}

-- amendments that change nothing
abbrev pub no_amendments : Amendments
no_amendments = record {
  replaced_licences = [];
  removed_licences = [];
  replaced_holders = [];
  removed_holders = [];
  replaced_contributors = [];
  removed_contributors = [];
  until = None;
  prefix = None;
  holder = None;
}

-- a replacement of texts, without their outer spaces
abbrev pub replacement : List ℕ → List ℕ → Replacement
replacement old new = record { old = without_spaces old; new = without_spaces new }

-- the answer that is expected, or an allocation failure, which may take its place
abbrev pub IsAnswer : {X : Type 0} → Option X → Result X AmendRefusal → Type 0
IsAnswer expected (Ok x) = expected ≡ Some x
IsAnswer expected (Err BadExpression) = expected ≡ None
IsAnswer expected (Err (Memory e)) = Unit {0}
