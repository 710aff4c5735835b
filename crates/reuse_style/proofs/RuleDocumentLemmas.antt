-- An array of rules is just what it says.
use Rattle.std.proofs.Common.{◌≡◌, ℕ, Bool, true, List, [], ◌∷◌, ◌++◌, map, Option, Some, None, refl, sym, ap, ◌∙◌}
use Rattle.std.proofs.Common.{append_assoc}
use Rattle.std.proofs.lemmas.List.{map-append}
use Rattle.std.specs.Prelude.{codes, option_and_then}
use Rattle.std.specs.Option.{option_map}
use Rattle.toml.specs.Data.{Data, string, integer, float, boolean, datetime, array, table, as_bool}
use Rattle.toml.specs.Data.{Items, no_items, item, Members, no_members, member, as_array, as_table}
use Rattle.toml.proofs.Lines.{data_of_array, data_of_table}
use Rattle.reuse_style.specs.RuleTexts.{RuleTexts, rule_members, rule_items, rules_data, rule_between, texts_of_rule}
use Rattle.reuse_style.specs.RuleTexts.{rule_of_data, rules_of_items, rules_of_data}
use Rattle.reuse_style.specs.Taken.{with_text, take_text, with_value, take_value, is_done}
use Rattle.reuse_style.proofs.TakenLemmas.{begins, taken_value, takes_value, passes_value}
use Rattle.reuse_style.proofs.TextLemmas.{taken, takes, passes, done}
use Rattle.reuse_style.proofs.DocumentLemmas.{given_by, if_some}

-- ---- a rule

bool_is : (value : Data) (b : Bool) → as_bool value ≡ Some b → value ≡ boolean b
bool_is (boolean x) b e = let same : x ≡ b = cc e in ap boolean same
bool_is (string s) b e = absurd (let no : ⊥ = cc e in no)
bool_is (integer z) b e = absurd (let no : ⊥ = cc e in no)
bool_is (float x) b e = absurd (let no : ⊥ = cc e in no)
bool_is (datetime d) b e = absurd (let no : ⊥ = cc e in no)
bool_is (array ds) b e = absurd (let no : ⊥ = cc e in no)
bool_is (table ms) b e = absurd (let no : ⊥ = cc e in no)

-- a rule between texts
between : (first_line name : Option (List ℕ)) (over_table : Option Bool) (style : Option (List ℕ)) (others : Members)
    (rule : RuleTexts) → rule_between first_line name over_table (style, others) ≡ Some rule
    → with_text (codes "first-line") first_line (with_text (codes "name") name
    (with_value boolean (codes "over-table") over_table (with_text (codes "style") style others))) ≡ rule_members rule
between first_line name over_table style others rule e = by style c.1
  where
    the : List ℕ → RuleTexts
    the text = record { first_line = first_line; name = name; over_table = over_table; style = text }

    c : (is_done others ≡ true) × (option_map the style ≡ Some rule)
    c = if_some (is_done others) (option_map the style) rule e

    by : (o : Option (List ℕ)) → option_map the o ≡ Some rule
        → with_text (codes "first-line") first_line (with_text (codes "name") name
        (with_value boolean (codes "over-table") over_table (with_text (codes "style") o others))) ≡ rule_members rule
    by None f = absurd (let no : ⊥ = cc f in no)
    by (Some text) f =
        let same : the text ≡ rule = cc f in
        ap (λ ms. with_text (codes "first-line") first_line (with_text (codes "name") name
        (with_value boolean (codes "over-table") over_table (member (codes "style") (string text) ms))))
        (done others c.0) ∙ ap rule_members same

rule_is : (ms : Members) (rule : RuleTexts) → texts_of_rule ms ≡ Some rule → ms ≡ rule_members rule
unfolding texts_of_rule
rule_is ms rule e =
    let first_line = take_text (codes "first-line") ms in
    let name = take_text (codes "name") first_line.1 in
    let over_table = take_value as_bool (codes "over-table") name.1 in
    let style = take_text (codes "style") over_table.1 in
    taken (codes "first-line") ms
    ∙ ap (with_text (codes "first-line") first_line.0) (taken (codes "name") first_line.1
    ∙ ap (with_text (codes "name") name.0)
    (taken_value as_bool boolean bool_is (codes "over-table") name.1
    ∙ ap (with_value boolean (codes "over-table") over_table.0) (taken (codes "style") over_table.1)))
    ∙ between first_line.0 name.0 over_table.0 style.0 style.1 rule e

rule_of_members : (rule : RuleTexts) → texts_of_rule (rule_members rule) ≡ Some rule
unfolding texts_of_rule begins
rule_of_members rule =
    let m1 = member (codes "style") (string rule.style) no_members in
    let m2 = with_value boolean (codes "over-table") rule.over_table m1 in
    let m3 = with_text (codes "name") rule.name m2 in
    let e1 = takes (codes "style") (Some rule.style) no_members refl in
    let e2 = takes_value as_bool boolean (λ b. refl) (codes "over-table") rule.over_table m1 refl in
    let b3 = passes_value boolean (codes "name") (codes "over-table") rule.over_table m1 refl refl in
    let e3 = takes (codes "name") rule.name m2 b3 in
    let b4 = passes (codes "first-line") (codes "name") rule.name m2 refl
    (passes_value boolean (codes "first-line") (codes "over-table") rule.over_table m1 refl refl) in
    let e4 = takes (codes "first-line") rule.first_line m3 b4 in
    rw (e4, e3, e2, e1) refl

-- texts that are taken off one after another, where nothing is left, are a rule's
pub rule_texts : (ms m1 m2 m3 m4 : Members) (first_line name style : Option (List ℕ)) (over_table : Option Bool)
    → (first_line, m1) ≡ take_text (codes "first-line") ms → (name, m2) ≡ take_text (codes "name") m1
    → (over_table, m3) ≡ take_value as_bool (codes "over-table") m2 → (style, m4) ≡ take_text (codes "style") m3
    → rule_between first_line name over_table (style, m4) ≡ texts_of_rule ms
unfolding texts_of_rule
rule_texts ms m1 m2 m3 m4 first_line name style over_table e1 e2 e3 e4 =
    rw (sym e1, sym e2, sym e3, sym e4) refl

-- ---- an array of rules

data_is : (value : Data) (rule : RuleTexts) → rule_of_data value ≡ Some rule → value ≡ table (rule_members rule)
data_is value rule e =
    let texts = given_by texts_of_rule table (as_table value) value (data_of_table value) rule e in
    texts.1 ∙ ap table (rule_is texts.0 rule texts.2)

items_are : (items : Items) (rules : List RuleTexts) → rules_of_items items ≡ Some rules → items ≡ rule_items rules
unfolding rules_of_items
items_are no_items rules e = let none : [] ≡ rules = cc e in ap rule_items none
items_are (item value others) rules e =
    by (λ more is. items_are others more is) (rule_of_data value) refl (rules_of_items others) refl e
  where
    by : ((more : List RuleTexts) → rules_of_items others ≡ Some more → others ≡ rule_items more)
        → (r : Option RuleTexts) → rule_of_data value ≡ r
        → (o : Option (List RuleTexts)) → rules_of_items others ≡ o
        → option_and_then (λ rule. option_map (λ rs. rule ∷ rs) o) r ≡ Some rules
        → item value others ≡ rule_items rules
    by rest None is o are f = absurd (let no : ⊥ = cc f in no)
    by rest (Some rule) is None are f = absurd (let no : ⊥ = cc f in no)
    by rest (Some rule) is (Some more) are f =
        let same : rule ∷ more ≡ rules = cc f in
        ap (λ (v : Data). item v others) (data_is value rule is)
        ∙ ap (item (table (rule_members rule))) (rest more are) ∙ ap rule_items same

items_of_rules : (rules : List RuleTexts) → rules_of_items (rule_items rules) ≡ Some rules
unfolding rules_of_items
items_of_rules [] = refl
items_of_rules (rule ∷ rules) =
    ap (option_and_then (λ r. option_map (λ rs. r ∷ rs) (rules_of_items (rule_items rules)))) (rule_of_members rule)
    ∙ ap (option_map (λ rs. rule ∷ rs)) (items_of_rules rules)

pub rules_are : (value : Data) (rules : List RuleTexts) → rules_of_data value ≡ Some rules → value ≡ rules_data rules
rules_are value rules e =
    let items = given_by rules_of_items array (as_array value) value (data_of_array value) rules e in
    items.1 ∙ ap array (items_are items.0 rules items.2)

pub rules_of_texts : (rules : List RuleTexts) → rules_of_data (rules_data rules) ≡ Some rules
rules_of_texts rules = items_of_rules rules

-- ---- rules one by one

rules_more : (before : List RuleTexts) (rule : RuleTexts) (value : Data) (others : Items)
    → Some rule ≡ rule_of_data value
    → option_map (λ rules. before ++ rules) (rules_of_items (item value others)) ≡ option_map
    (λ rules. (before ++ rule ∷ []) ++ rules) (rules_of_items others)
unfolding rules_of_items
rules_more before rule value others is =
    ap (λ (o : Option RuleTexts). option_map (λ rules. before ++ rules)
    (option_and_then (λ r. option_map (λ rules. r ∷ rules) (rules_of_items others)) o)) (sym is)
    ∙ by (rules_of_items others)
  where
    by : (o : Option (List RuleTexts)) → option_map (λ rules. before ++ rules)
        (option_map (λ rules. rule ∷ rules) o) ≡ option_map (λ rules. (before ++ rule ∷ []) ++ rules) o
    by None = refl
    by (Some rules) = ap (λ (rs : List RuleTexts). Some rs) (sym (append_assoc before (rule ∷ []) rules))

-- one more rule behind those before, where they are lent from what was read
module _ {X : Type 0} (seen : X → RuleTexts) where
  pub rules_pushed : (all : Option (List RuleTexts)) (before now : List X) (x : X) (value : Data) (others old : Items)
      → now ≡ before ++ x ∷ [] → Some (seen x) ≡ rule_of_data value → old ≡ item value others
      → all ≡ option_map (λ rules. map seen before ++ rules) (rules_of_items old)
      → all ≡ option_map (λ rules. map seen now ++ rules) (rules_of_items others)
  rules_pushed all before now x value others old pushed is entry e =
      e ∙ ap (λ (is : Items). option_map (λ rules. map seen before ++ rules) (rules_of_items is)) entry
      ∙ rules_more (map seen before) (seen x) value others is
      ∙ ap (λ (rs : List RuleTexts). option_map (λ rules. rs ++ rules) (rules_of_items others))
      (sym (ap (map seen) pushed ∙ map-append seen before (x ∷ [])))
