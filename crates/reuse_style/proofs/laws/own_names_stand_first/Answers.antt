use Rattle.std.proofs.Common.{refl}
use Rattle.reuse_style.specs.StyleFile.{first_refusal}
use Rattle.reuse_style.proofs.NameLemmas.{kind_none, kind_others, kind_whole, lookup_cases}
use Rattle.reuse_style.proofs.laws.own_names_stand_first.Goals as goal

pub returns : goal.returns
unfolding first_refusal
returns c = record {
  none = kind_none;
  empty = λ comments. refl;
  others = kind_others;
  whole = kind_whole;
  cases = lookup_cases;
}
