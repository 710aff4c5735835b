-- Own comments: the styles that texts say one by one, and the style that has a name.
use Rattle.std.proofs.Common.{◌≡◌, ℕ, Bool, true, false, cond, List, [], ◌∷◌, ◌++◌, map, Option, Some, None, Result}
use Rattle.std.proofs.Common.{append_assoc, append-nil, length, get_or, drop, drop-cons, add-one, ◌+◌, ◌<◌, ◌≤◌}
use Rattle.std.proofs.Common.{Ok, Err, refl, sym, ap, ◌∙◌, subst}
use Rattle.std.proofs.lemmas.List.{drop_all, map-append}
use Rattle.std.specs.Prelude.{◌&&◌, ◌||◌, option_and_then, is_none, is_some, find, unwrap_or, Vec}
use Rattle.std.specs.declared.alloc.Global.{Global}
use Rattle.std.specs.List.{list_all, filter_map, cons_option, position_from}
use Rattle.std.specs.Option.{option_map, option_or}
use Rattle.std.specs.Str.{bytes_eq}
use Rattle.std.proofs.lemmas.Slice.Eq.{bytes_eq-Decides}
use Rattle.toml.specs.Data.{Data, Members, member}
use Rattle.reuse_style.specs.declared.marks.MarksFault.{MarksFault}
use Rattle.reuse_style.specs.declared.style.Kind.{Kind}
use Rattle.reuse_style.specs.declared.style.Kind.TheVariants.{Style}
use Rattle.reuse_style.specs.declared.comments_refusal.CommentsRefusal.{CommentsRefusal}
use Rattle.reuse_style.specs.declared.comments_refusal.CommentsRefusal.TheVariants.{NotToml, BadShape, BadName}
use Rattle.reuse_style.specs.declared.comments_refusal.CommentsRefusal.TheVariants.{BadMarks, BadRule, Memory}
use Rattle.reuse_style.specs.Marks.{CommentMarks, GoodStyle, is_good, marks_fault}
use Rattle.reuse_style.specs.StyleFile.{table_kind_named, own_style_named, kind_named}
use Rattle.reuse_style.specs.CommentFile.{CommentTexts, NamedComments, marks_of, is_shaped, is_bad_style_name}
use Rattle.reuse_style.specs.CommentFile.{style_refusal, first_style_refusal, style_if, good_style, checked_styles}
use Rattle.reuse_style.specs.CommentFile.{are_shaped, checked_rules, comments_by, comments_of, comments_in}
use Rattle.reuse_style.specs.CommentFile.{first_stray, rules_beside, texts_named}
use Rattle.reuse_style.specs.Rules.{Rule, CommentRules, is_rule, rule_of}
use Rattle.reuse_style.specs.RuleTexts.{RuleTexts}
use Rattle.reuse_style.specs.CommentFile.{texts_of_data, comments_in_table}
use Rattle.reuse_style.specs.CommentFile.{IsFirstRefusal, IsCommentsRefused}
use Rattle.reuse_style.specs.Documents.{read_document}
use Rattle.reuse_style.proofs.SameLemmas.{same_style}

-- ---- one style

-- good marks make the style
made : (name : List ℕ) (marks : CommentMarks) (b : Bool) (e : is_good marks ≡ b) → b ≡ true
    → (style : GoodStyle) × (style_if name marks b e ≡ Some style) × (style.name ≡ name) × (style.marks ≡ marks)
unfolding style_if
made name marks true e t = (record { name = name; marks = marks; good = e }, refl, refl, refl)
made name marks false e t = absurd (let no : ⊥ = cc t in no)

pub good_if : (marks : CommentMarks) → marks_fault marks ≡ None → is_good marks ≡ true
unfolding is_good
good_if marks e = ap is_none e

-- the style of a name and of good marks is any of that name and marks
pub good_style_is : (name : List ℕ) (texts : CommentTexts) (style : GoodStyle) → style.name ≡ name
    → style.marks ≡ marks_of texts → good_style (name, texts) ≡ Some style
good_style_is name texts style n m =
    let good : is_good (marks_of texts) ≡ true = ap is_good (sym m) ∙ style.good in
    let (other, is, n', m') = made name (marks_of texts) (is_good (marks_of texts)) refl good in
    is ∙ ap (λ (s : GoodStyle). Some s) (same_style other style (n' ∙ sym n) (m' ∙ sym m))

-- a style without a refusal
accepted : (name : List ℕ) (texts : CommentTexts) → style_refusal (name, texts) ≡ None
    → (is_bad_style_name name ≡ false) × (marks_fault (marks_of texts) ≡ None)
accepted name texts e = by (is_bad_style_name name) refl (marks_fault (marks_of texts)) refl e
  where
    by : (b : Bool) → is_bad_style_name name ≡ b → (o : Option MarksFault) → marks_fault (marks_of texts) ≡ o
        → cond b (Some (BadName name)) (option_map (λ fault. BadMarks name fault) o) ≡ None
        → (is_bad_style_name name ≡ false) × (marks_fault (marks_of texts) ≡ None)
    by true b o f e = absurd (let no : ⊥ = cc e in no)
    by false b None f e = (b, f)
    by false b (Some fault) f e = absurd (let no : ⊥ = cc e in no)

-- a good name names nothing by itself
free : (name : List ℕ) → is_bad_style_name name ≡ false → table_kind_named name ≡ None
free name e = by (table_kind_named name) (last _ _ e)
  where
    last : (a b : Bool) → (a || b) ≡ false → b ≡ false
    last true b e = absurd (let no : ⊥ = cc e in no)
    last false b e = e

    by : (o : Option Kind) → is_some o ≡ false → o ≡ None
    by None e = refl
    by (Some k) e = absurd (let no : ⊥ = cc e in no)

-- ---- texts one by one

-- one more style's texts, at the end of those before
named_more : (before : List NamedComments) (name : List ℕ) (texts : CommentTexts) (value : Data) (others : Members)
    → Some texts ≡ texts_of_data value
    → option_map (λ named. before ++ named) (comments_in_table (member name value others)) ≡ option_map
    (λ named. (before ++ (name, texts) ∷ []) ++ named) (comments_in_table others)
unfolding comments_in_table
named_more before name texts value others is =
    ap (λ (o : Option CommentTexts). option_map (λ named. before ++ named)
    (option_and_then (λ ts. option_map (λ named. (name, ts) ∷ named) (comments_in_table others)) o)) (sym is)
    ∙ by (comments_in_table others)
  where
    by : (o : Option (List NamedComments)) → option_map (λ named. before ++ named)
        (option_map (λ named. (name, texts) ∷ named) o) ≡ option_map
        (λ named. (before ++ (name, texts) ∷ []) ++ named) o
    by None = refl
    by (Some named) = ap (λ (ns : List NamedComments). Some ns) (sym (append_assoc before ((name, texts) ∷ []) named))

-- ---- styles one by one

-- styles are those before these texts, which have the first refusal and the last styles of all
pub record AtStyles (styles : List GoodStyle) (named all : List NamedComments) : Type 0 where
  pub refusal : first_style_refusal named ≡ first_style_refusal all
  pub more : styles ++ filter_map good_style named ≡ filter_map good_style all

pub styles_start : (styles : List GoodStyle) (all : List NamedComments) → styles ≡ [] → AtStyles styles all all
styles_start styles all e = record {
  refusal = refl;
  more = ap (λ (ss : List GoodStyle). ss ++ filter_map good_style all) e;
}

next : (before now : List GoodStyle) (style : NamedComments) (others all : List NamedComments) (good : GoodStyle)
    → AtStyles before (style ∷ others) all → style_refusal style ≡ None → good_style style ≡ Some good
    → now ≡ before ++ good ∷ [] → AtStyles now others all
unfolding first_style_refusal
next before now style others all good at none is pushed = record {
  refusal = ap (λ (o : Option CommentsRefusal). option_or o (first_style_refusal others)) (sym none) ∙ at.refusal;
  more = ap (λ (ss : List GoodStyle). ss ++ filter_map good_style others) pushed
      ∙ append_assoc before (good ∷ []) (filter_map good_style others)
      ∙ ap (λ (o : Option GoodStyle). before ++ cons_option o (filter_map good_style others)) (sym is) ∙ at.more;
}

first_refused : (styles : List GoodStyle) (style : NamedComments) (others all : List NamedComments)
    (refusal : CommentsRefusal) → AtStyles styles (style ∷ others) all
    → IsFirstRefusal (style_refusal style) refusal → IsFirstRefusal (first_style_refusal all) refusal
unfolding first_style_refusal
first_refused styles style others all refusal at first = by refusal first
  where
    expected : (r : CommentsRefusal) → style_refusal style ≡ Some r → first_style_refusal all ≡ Some r
    expected r e = sym at.refusal ∙ ap (λ (o : Option CommentsRefusal). option_or o (first_style_refusal others)) e

    by : (r : CommentsRefusal) → IsFirstRefusal (style_refusal style) r → IsFirstRefusal (first_style_refusal all) r
    by NotToml e = expected NotToml e
    by BadShape e = expected BadShape e
    by (BadName name) e = expected (BadName name) e
    by (BadMarks name fault) e = expected (BadMarks name fault) e
    by (BadRule number) e = expected (BadRule number) e
    by (Memory m) e = tt

none_left : (styles : List GoodStyle) (all : List NamedComments) → AtStyles styles [] all
    → (first_style_refusal all ≡ None) × (styles ≡ filter_map good_style all)
unfolding first_style_refusal
none_left styles all at = (sym at.refusal, sym (append-nil styles) ∙ at.more)

-- the same, at a place among texts as the code has them
module _ {X : Type 0} (seen : X → NamedComments) where
  first_at : (xs : List X) (i : ℕ) (d x : X) → i < length xs → x ≡ get_or xs i d
      → map seen (drop i xs) ≡ seen x ∷ map seen (drop (i + 1) xs)
  first_at xs i d x low here =
      let split : drop i xs ≡ get_or xs i d ∷ drop (i + 1) xs = rw (add-one, drop-cons xs i d) refl in
      ap (map seen) split ∙ ap (λ (y : X). seen y ∷ map seen (drop (i + 1) xs)) (sym here)

  pub styles_next : (before now : List GoodStyle) (xs : List X) (i : ℕ) (d x : X) (good : GoodStyle) → i < length xs
      → x ≡ get_or xs i d → AtStyles before (map seen (drop i xs)) (map seen xs) → style_refusal (seen x) ≡ None
      → good_style (seen x) ≡ Some good → now ≡ before ++ good ∷ []
      → AtStyles now (map seen (drop (i + 1) xs)) (map seen xs)
  styles_next before now xs i d x good low here at none is pushed =
      next before now (seen x) (map seen (drop (i + 1) xs)) (map seen xs) good
      (subst (λ (named : List NamedComments). AtStyles before named (map seen xs)) (first_at xs i d x low here) at) none
      is pushed

  pub styles_refused : (styles : List GoodStyle) (xs : List X) (i : ℕ) (d x : X) (refusal : CommentsRefusal)
      → i < length xs → x ≡ get_or xs i d → AtStyles styles (map seen (drop i xs)) (map seen xs)
      → IsFirstRefusal (style_refusal (seen x)) refusal → IsFirstRefusal (first_style_refusal (map seen xs)) refusal
  styles_refused styles xs i d x refusal low here at refused =
      first_refused styles (seen x) (map seen (drop (i + 1) xs)) (map seen xs) refusal
      (subst (λ (named : List NamedComments). AtStyles styles named (map seen xs)) (first_at xs i d x low here) at)
      refused

  pub styles_end : (styles : List GoodStyle) (xs : List X) (i : ℕ) → length xs ≤ i
      → AtStyles styles (map seen (drop i xs)) (map seen xs)
      → (first_style_refusal (map seen xs) ≡ None) × (styles ≡ filter_map good_style (map seen xs))
  styles_end styles xs i past at = none_left styles (map seen xs)
      (subst (λ (named : List NamedComments). AtStyles styles named (map seen xs)) (ap (map seen) (drop_all i xs past))
      at)

  -- a test of what is seen
  pub shaped_map : (xs : List X) → list_all (λ x. is_shaped (seen x).1) xs ≡ list_all
      (λ style. is_shaped style.1) (map seen xs)
  shaped_map [] = refl
  shaped_map (x ∷ xs) = ap (λ (b : Bool). is_shaped (seen x).1 && b) (shaped_map xs)

  -- one more style's texts behind those before, where they are lent from what was read
  pub named_pushed : (all : Option (List NamedComments)) (before now : List X) (x : X) (value : Data)
      (others old : Members) → now ≡ before ++ x ∷ [] → Some (seen x).1 ≡ texts_of_data value
      → old ≡ member (seen x).0 value others
      → all ≡ option_map (λ named. map seen before ++ named) (comments_in_table old)
      → all ≡ option_map (λ named. map seen now ++ named) (comments_in_table others)
  named_pushed all before now x value others old pushed is entry e =
      e ∙ ap (λ (ms : Members). option_map (λ named. map seen before ++ named) (comments_in_table ms)) entry
      ∙ named_more (map seen before) (seen x).0 (seen x).1 value others is
      ∙ ap (λ (ns : List NamedComments). option_map (λ named. ns ++ named) (comments_in_table others))
      (sym (ap (map seen) pushed ∙ map-append seen before (x ∷ [])))

-- ---- the answers for texts, and for a file

-- a list that is there, or none
pub seen_or_none : {X Y : Type 0} (seen : X → Y) (o : Option (Vec X Global)) (none got : Vec X Global)
    → none.items ≡ [] → got ≡ unwrap_or o none
    → map seen got.items ≡ unwrap_or (option_map (λ (v : Vec X Global). map seen v.items) o) []
seen_or_none {X = X} seen None none got empty is = ap (λ (v : Vec X Global). map seen v.items) is ∙ ap (map seen) empty
seen_or_none {X = X} seen (Some v) none got empty is = ap (λ (w : Vec X Global). map seen w.items) is

pub checked_good : (named : List NamedComments) (styles : List GoodStyle) → first_style_refusal named ≡ None
    → styles ≡ filter_map good_style named → checked_styles named (first_style_refusal named) ≡ Ok styles
checked_good named styles none are = ap (checked_styles named) none ∙ ap (λ (ss : List GoodStyle). Ok ss) (sym are)

-- the answer for texts that have the shape of styles and of rules
shaped_answer : (named : List NamedComments) (rules : List RuleTexts)
    → list_all (λ style. is_shaped style.1) named ≡ true → list_all is_rule rules ≡ true
    → comments_by named rules ≡ checked_rules (map rule_of rules) (checked_styles named (first_style_refusal named))
shaped_answer named rules styled ruled =
    ap (λ (b : Bool). cond (b && list_all is_rule rules)
    (checked_rules (map rule_of rules) (checked_styles named (first_style_refusal named))) (Err BadShape)) styled
    ∙ ap (λ (b : Bool). cond b
    (checked_rules (map rule_of rules) (checked_styles named (first_style_refusal named))) (Err BadShape)) ruled

pub by_answer : (named : List NamedComments) (rules : List RuleTexts) (styles : List GoodStyle) (are : List Rule)
    → list_all (λ style. is_shaped style.1) named ≡ true → list_all is_rule rules ≡ true → are ≡ map rule_of rules
    → checked_styles named (first_style_refusal named) ≡ Ok styles
    → comments_by named rules ≡ checked_rules are (Ok styles)
by_answer named rules styles are styled ruled same good =
    shaped_answer named rules styled ruled ∙ ap (checked_rules (map rule_of rules)) good
    ∙ ap (λ (rs : List Rule). checked_rules rs (Ok styles)) (sym same)

pub by_bad_styles : (named : List NamedComments) (rules : List RuleTexts)
    → list_all (λ style. is_shaped style.1) named ≡ false → comments_by named rules ≡ Err BadShape
by_bad_styles named rules e =
    ap (λ (b : Bool). cond (b && list_all is_rule rules)
    (checked_rules (map rule_of rules) (checked_styles named (first_style_refusal named))) (Err BadShape)) e

pub by_bad_rules : (named : List NamedComments) (rules : List RuleTexts)
    → list_all (λ style. is_shaped style.1) named ≡ true → list_all is_rule rules ≡ false
    → comments_by named rules ≡ Err BadShape
by_bad_rules named rules styled e =
    ap (λ (b : Bool). cond (b && list_all is_rule rules)
    (checked_rules (map rule_of rules) (checked_styles named (first_style_refusal named))) (Err BadShape)) styled
    ∙ ap (λ (b : Bool). cond b
    (checked_rules (map rule_of rules) (checked_styles named (first_style_refusal named))) (Err BadShape)) e

pub by_refused : (named : List NamedComments) (rules : List RuleTexts) (refusal : CommentsRefusal)
    → list_all (λ style. is_shaped style.1) named ≡ true → list_all is_rule rules ≡ true
    → IsFirstRefusal (first_style_refusal named) refusal → IsCommentsRefused (comments_by named rules) refusal
by_refused named rules refusal styled ruled first = by refusal first
  where
    checked : (o : Option CommentsRefusal) → first_style_refusal named ≡ o
        → comments_by named rules ≡ checked_rules (map rule_of rules) (checked_styles named o)
    checked o e = shaped_answer named rules styled ruled
        ∙ ap (λ (r : Option CommentsRefusal). checked_rules (map rule_of rules) (checked_styles named r)) e

    by : (r : CommentsRefusal) → IsFirstRefusal (first_style_refusal named) r
        → IsCommentsRefused (comments_by named rules) r
    by NotToml e = checked (Some NotToml) e
    by BadShape e = checked (Some BadShape) e
    by (BadName name) e = checked (Some (BadName name)) e
    by (BadMarks name fault) e = checked (Some (BadMarks name fault)) e
    by (BadRule number) e = checked (Some (BadRule number)) e
    by (Memory m) e = tt

-- an answer that is a refusal is refused so
pub refused_if : (answer : Result CommentRules CommentsRefusal) (refusal : CommentsRefusal) → answer ≡ Err refusal
    → IsCommentsRefused answer refusal
refused_if answer NotToml e = e
refused_if answer BadShape e = e
refused_if answer (BadName name) e = e
refused_if answer (BadMarks name fault) e = e
refused_if answer (BadRule number) e = e
refused_if answer (Memory m) e = tt

pub comments_some : (bytes : List ℕ) → comments_of (Some bytes) ≡ comments_in (read_document bytes)
unfolding comments_of
comments_some bytes = refl

-- an answer is that of what is the same
pub comments_refused_by : (expected other : Result CommentRules CommentsRefusal) (refusal : CommentsRefusal)
    → other ≡ expected → IsCommentsRefused expected refusal → IsCommentsRefused other refusal
comments_refused_by expected other refusal same is =
    subst (λ result. IsCommentsRefused result refusal) (sym same) is

-- ---- the style that has a name

both_none : (a b : Option CommentsRefusal) → option_or a b ≡ None → (a ≡ None) × (b ≡ None)
both_none None b e = (refl, e)
both_none (Some r) b e = absurd (let no : ⊥ = cc e in no)

pub record HasStyle (styles : List GoodStyle) (name : List ℕ) (texts : CommentTexts) : Type 0 where
  pub style : GoodStyle
  pub found : own_style_named styles name ≡ Some style
  pub name_is : style.name ≡ name
  pub marks_are : style.marks ≡ marks_of texts
  pub good_name : is_bad_style_name name ≡ false

has_style : (named : List NamedComments) (name : List ℕ) (texts : CommentTexts) → first_style_refusal named ≡ None
    → texts_named named name ≡ Some texts → HasStyle (filter_map good_style named) name texts
unfolding first_style_refusal
has_style [] name texts e f = absurd (let no : ⊥ = cc f in no)
has_style (first ∷ others) name texts e f =
    let none = both_none (style_refusal first) (first_style_refusal others) e in
    let ok = accepted first.0 first.1 none.0 in
    let (style, is, n, m) = made first.0 (marks_of first.1) (is_good (marks_of first.1)) refl
    (good_if (marks_of first.1) ok.1) in
    subst (λ (o : Option GoodStyle). HasStyle (cons_option o (filter_map good_style others)) name texts) (sym is)
    (by style n m ok.0 (bytes_eq first.0 name) refl (λ g. has_style others name texts none.1 g) f)
  where
    by : (style : GoodStyle) → style.name ≡ first.0 → style.marks ≡ marks_of first.1
        → is_bad_style_name first.0 ≡ false → (b : Bool) → bytes_eq first.0 name ≡ b
        → (texts_named others name ≡ Some texts → HasStyle (filter_map good_style others) name texts)
        → option_map (λ (s : NamedComments). s.1) (cond b (Some first) (find (λ s. bytes_eq s.0 name) others)) ≡ Some texts
        → HasStyle (style ∷ filter_map good_style others) name texts
    by style n m good true b rest g =
        let same : first.1 ≡ texts = cc g in
        let named : first.0 ≡ name = (bytes_eq-Decides first.0 name).0 b in
        record {
          style = style;
          found = ap (λ (t : Bool). cond t (Some style) (own_style_named (filter_map good_style others) name))
              (ap (λ (k : List ℕ). bytes_eq k name) n ∙ b);
          name_is = n ∙ named;
          marks_are = m ∙ ap marks_of same;
          good_name = ap is_bad_style_name (sym named) ∙ good;
        }
    by style n m good false b rest g =
        let more = rest g in
        record {
          style = more.style;
          found = ap (λ (t : Bool). cond t (Some style) (own_style_named (filter_map good_style others) name))
              (ap (λ (k : List ℕ). bytes_eq k name) n ∙ b) ∙ more.found;
          name_is = more.name_is;
          marks_are = more.marks_are;
          good_name = more.good_name;
        }

checked_parts : (named : List NamedComments) (o : Option CommentsRefusal) (own : List GoodStyle)
    → checked_styles named o ≡ Ok own → (o ≡ None) × (filter_map good_style named ≡ own)
checked_parts named None own e = (refl, cc e)
checked_parts named (Some r) own e = absurd (let no : ⊥ = cc e in no)

-- what texts give, where they are good
pub record Given (named : List NamedComments) (rules : List RuleTexts) (own : CommentRules) : Type 0 where
  pub styles : checked_styles named (first_style_refusal named) ≡ Ok own.styles
  pub are : own.rules ≡ map rule_of rules
  pub none : first_stray own.styles own.rules ≡ None

pub given : (named : List NamedComments) (rules : List RuleTexts) (own : CommentRules)
    → comments_by named rules ≡ Ok own
    → Given named rules own
given named rules own e =
    by (are_shaped named rules) (checked_styles named (first_style_refusal named)) refl e
  where
    beside : (styles : List GoodStyle) (o : Option ℕ) → first_stray styles (map rule_of rules) ≡ o
        → checked_styles named (first_style_refusal named) ≡ Ok styles
        → rules_beside styles (map rule_of rules) o ≡ Ok own → Given named rules own
    beside styles (Some number) none is f = absurd (let no : ⊥ = cc f in no)
    beside styles None none is f =
        let all : CommentRules = record { styles = styles; rules = map rule_of rules } in
        let same : all ≡ own = cc f in record {
          styles = is ∙ ap (λ (o : CommentRules). Ok o.styles) same;
          are = ap (λ (o : CommentRules). o.rules) (sym same);
          none = ap (λ (o : CommentRules). first_stray o.styles o.rules) (sym same) ∙ none;
        }

    by : (b : Bool) (r : Result (List GoodStyle) CommentsRefusal)
        → checked_styles named (first_style_refusal named) ≡ r
        → cond b (checked_rules (map rule_of rules) r) (Err BadShape) ≡ Ok own → Given named rules own
    by false r is f = absurd (let no : ⊥ = cc f in no)
    by true (Err refusal) is f = absurd (let no : ⊥ = cc f in no)
    by true (Ok styles) is f = beside styles (first_stray styles (map rule_of rules)) refl is f

pub own_style_is : (named : List NamedComments) (rules : List RuleTexts) (own : CommentRules) (name : List ℕ)
    (texts : CommentTexts) → comments_by named rules ≡ Ok own → texts_named named name ≡ Some texts
    → (style : GoodStyle) × (kind_named own.styles name ≡ Some (Style style)) × (style.name ≡ name)
    × (style.marks ≡ marks_of texts)
own_style_is named rules own name texts e f =
    let g = given named rules own e in
    let p = checked_parts named (first_style_refusal named) own.styles g.styles in
    let it = has_style named name texts p.0 f in (
      it.style,
      ap (λ (o : Option Kind). option_or o (option_map (λ style. Style style) (own_style_named own.styles name)))
          (free name it.good_name)
          ∙ ap (option_map (λ style. Style style)) (ap (λ ss. own_style_named ss name) (sym p.1) ∙ it.found),
      it.name_is,
      it.marks_are,
    )

pub own_rules_are : (named : List NamedComments) (rules : List RuleTexts) (own : CommentRules)
    → comments_by named rules ≡ Ok own → own.rules ≡ map rule_of rules
own_rules_are named rules own e = let g = given named rules own e in g.are

-- where none passes a test
none_passes : {A : Type 0} (kind : A → Option Kind) (number : ℕ) (xs : List A)
    → position_from (λ x. is_none (kind x)) number xs ≡ None → list_all (λ x. is_some (kind x)) xs ≡ true
none_passes kind number [] e = refl
none_passes kind number (x ∷ xs) e = by (kind x) (λ f. none_passes kind (number + 1) xs f) e
  where
    by : (o : Option Kind) → (position_from (λ y. is_none (kind y)) (number + 1) xs ≡ None
        → list_all (λ y. is_some (kind y)) xs ≡ true)
        → cond (is_none o) (Some number) (position_from (λ y. is_none (kind y)) (number + 1) xs) ≡ None
        → (is_some o && list_all (λ y. is_some (kind y)) xs) ≡ true
    by None rest f = absurd (let no : ⊥ = cc f in no)
    by (Some k) rest f = rest f

pub own_rules_name : (named : List NamedComments) (rules : List RuleTexts) (own : CommentRules)
    → comments_by named rules ≡ Ok own → list_all (λ rule. is_some (kind_named own.styles rule.style)) own.rules ≡ true
own_rules_name named rules own e =
    let g = given named rules own e in
    none_passes (λ (rule : Rule). kind_named own.styles rule.style) 1 own.rules g.none

pub alone : (text : List ℕ) → kind_named [] text ≡ table_kind_named text
alone text = by (table_kind_named text)
  where
    by : (o : Option Kind) → option_or o None ≡ o
    by None = refl
    by (Some k) = refl

pub comments_none : comments_of None ≡ Ok (record { styles = []; rules = [] })
unfolding comments_of
comments_none = refl
