-- What the notices of one holder say together, gathered notice by notice (this project's own).
use Rattle.std.specs.Prelude.{ℕ, Bool, true, false, List, fold, Option, None, Some, unwrap_or, if◌then◌else◌}
use Rattle.std.specs.Option.{option_or}
use Rattle.std.specs.List.{list_any}
use Rattle.std.specs.Str.{bytes_eq}
use Rattle.std.specs.Borrow.{Bor}
use Rattle.std.specs.Ordering.{nat_cmp}
use Rattle.std.specs.Cmp.Lexicographic.{slice_cmp}
use Rattle.std.specs.BTreeMap as map
use Rattle.std.specs.BTreeMap.{BTreeMap}
use Rattle.std.specs.BTreeSet as set
use Rattle.std.specs.BTreeSet.{BTreeSet}
use Rattle.reuse_notice.specs.declared.prefixes.Prefix.{Prefix}
use Rattle.reuse_notice.specs.declared.merging.Class.{Class}
use Rattle.reuse_notice.specs.Tags.{NoticeText}
use Rattle.reuse_notice.specs.Merging.{joined_years, settled}

-- whether a text is one of the command's
abbrev pub is_among : List (List ℕ) → List ℕ → Bool
is_among command text = list_any (λ t. bytes_eq t text) command

abbrev pub prefix_if : Bool → Prefix → Option Prefix
prefix_if commanded prefix = if commanded then Some prefix else None

-- a class with one notice more
abbrev pub grown : Option Class → Bool → NoticeText → Class
grown None commanded n = record {
  several = false;
  years = n.years;
  first = n.prefix;
  commanded = prefix_if commanded n.prefix;
}
grown (Some class) commanded n = record {
  several = true;
  years = joined_years class.years n.years;
  first = class.first;
  commanded = option_or class.commanded (prefix_if commanded n.prefix);
}

-- what the notices of a class say, none where there is no notice
unfoldable pub summary : List (List ℕ) → List NoticeText → Option Class
summary command notices = fold (λ class n. Some (grown class (is_among command n.text) n)) None notices

-- the text that a class of two or more becomes, if it reads back
abbrev pub summed_text : Option Class → List ℕ → Option (List ℕ)
summed_text None holder = None
summed_text (Some class) holder =
    if class.several then settled (unwrap_or class.commanded class.first) class.years holder else None

-- the class of a holder
abbrev pub class_at : BTreeMap (Bor (List ℕ)) Class → List ℕ → Option Class
class_at classes holder = map.get_by (λ k. slice_cmp nat_cmp holder k.now) classes

-- whether a set has a text
abbrev pub has_text : BTreeSet (Bor (List ℕ)) → List ℕ → Bool
has_text texts text = set.contains_by (λ k. slice_cmp nat_cmp text k.now) texts
