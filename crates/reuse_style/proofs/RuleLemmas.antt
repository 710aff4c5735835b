-- Which rule gives a file its kind.
use Rattle.std.proofs.Common.{◌≡◌, ℕ, Bool, true, false, cond, List, [], ◌∷◌, ◌++◌, Option, Some, None}
use Rattle.std.proofs.Common.{refl, sym, ap, ◌∙◌}
use Rattle.std.specs.Prelude.{◌&&◌, ◌||◌, is_some, find}
use Rattle.std.specs.List.{filter, list_any}
use Rattle.reuse_style.specs.declared.style.Kind.{Kind}
use Rattle.std.specs.Option.{option_map_or}
use Rattle.reuse_style.specs.declared.glob.GlobPiece.{GlobPiece}
use Rattle.reuse_style.specs.declared.glob.Letters.TheVariants.{Exact}
use Rattle.reuse_style.specs.Globs.{glob_fits}
use Rattle.reuse_style.specs.Kinds.{OwnKinds, candidates, fits_file, has_name, kind_by, kind_before, kind_of_file}
use Rattle.reuse_style.specs.Kinds.{kind_unread, part_of}
use Rattle.reuse_style.specs.Names.{kind_in, lookup, table_of_names}
use Rattle.reuse_style.specs.Rules.{Rule, first_line_of, line_fits, may_fit}

-- ---- rules one by one

module _ {A : Type 0} (p q : A → Bool) where
  -- the first that passes a test among those that pass another
  pub find_next : (x : A) (xs : List A) → (q x && p x) ≡ false
      → find p (filter q (x ∷ xs)) ≡ find p (filter q xs)
  find_next x xs e = by (q x) (p x) refl e
    where
      by : (b c : Bool) → p x ≡ c → (b && c) ≡ false
          → find p (cond b (x ∷ filter q xs) (filter q xs)) ≡ find p (filter q xs)
      by false c is f = refl
      by true c is f = ap (λ (t : Bool). cond t (Some x) (find p (filter q xs))) (is ∙ f)

  pub find_here : (x : A) (xs : List A) → (q x && p x) ≡ true → find p (filter q (x ∷ xs)) ≡ Some x
  find_here x xs e = by (q x) (p x) refl e
    where
      by : (b c : Bool) → p x ≡ c → (b && c) ≡ true
          → find p (cond b (x ∷ filter q xs) (filter q xs)) ≡ Some x
      by false c is f = absurd (let no : ⊥ = cc f in no)
      by true c is f = ap (λ (t : Bool). cond t (Some x) (find p (filter q xs))) (is ∙ f)

  pub find_behind : (before after : List A) (x : A) → list_any (λ y. q y && p y) before ≡ false
      → (q x && p x) ≡ true → find p (filter q (before ++ x ∷ after)) ≡ Some x
  find_behind [] after x none e = find_here x after e
  find_behind (y ∷ before) after x none e =
      let parts = neither (q y && p y) (list_any (λ z. q z && p z) before) none in
      find_next y (before ++ x ∷ after) parts.0 ∙ find_behind before after x parts.1 e
    where
      neither : (a b : Bool) → (a || b) ≡ false → (a ≡ false) × (b ≡ false)
      neither true b f = absurd (let no : ⊥ = cc f in no)
      neither false b f = (refl, f)

-- a rule that asks for no line fits any
fits_any : (line : Option (List ℕ)) (glob : Option (List GlobPiece)) → is_some glob ≡ false
    → option_map_or (λ g. option_map_or (λ content. glob_fits Exact g content) line false) glob true ≡ true
fits_any line None e = refl
fits_any line (Some glob) e = absurd (let no : ⊥ = cc e in no)

-- ---- the kind of a file

module _ (own : OwnKinds) (path : List ℕ) where
  -- no rule stands where an own name does
  pub no_candidates : has_name own.names path ≡ true → candidates own path ≡ []
  unfolding candidates
  no_candidates e = ap (λ (b : Bool). cond b []
      (filter (may_fit (has_name (lookup table_of_names) path) (part_of path)) own.comments.rules)) e

  pub named_candidates : has_name own.names path ≡ false
      → candidates own path ≡ filter (may_fit (has_name (lookup table_of_names) path) (part_of path)) own.comments.rules
  unfolding candidates
  named_candidates e = ap (λ (b : Bool). cond b []
      (filter (may_fit (has_name (lookup table_of_names) path) (part_of path)) own.comments.rules)) e

  without_rules : own.comments.rules ≡ [] → candidates own path ≡ []
  unfolding candidates
  without_rules e = by (has_name own.names path)
    where
      by : (b : Bool) → cond b []
          (filter (may_fit (has_name (lookup table_of_names) path) (part_of path)) own.comments.rules) ≡ []
      by true = refl
      by false = ap (filter (may_fit (has_name (lookup table_of_names) path) (part_of path))) e

  by_name : (file : List ℕ) → candidates own path ≡ [] → kind_of_file own path file ≡ kind_in own.names path
  unfolding kind_of_file
  by_name file e = ap (λ (rs : List Rule). kind_by own path (find (line_fits (first_line_of file)) rs)) e

  pub kind_without_rules : (file : List ℕ) → own.comments.rules ≡ []
      → kind_of_file own path file ≡ kind_in own.names path
  kind_without_rules file e = by_name file (without_rules e)

  pub unread_without_rules : own.comments.rules ≡ [] → kind_unread own path ≡ Some (kind_in own.names path)
  unfolding kind_unread
  unread_without_rules e = ap (kind_before own path) (without_rules e)

  pub kind_of_own_name : (file : List ℕ) → has_name own.names path ≡ true
      → kind_of_file own path file ≡ kind_in own.names path
  kind_of_own_name file e = by_name file (no_candidates e)

  pub kind_by_first : (file : List ℕ) (before after : List Rule) (rule : Rule) → has_name own.names path ≡ false
      → own.comments.rules ≡ before ++ rule ∷ after → list_any (fits_file path file) before ≡ false
      → fits_file path file rule ≡ true → kind_of_file own path file ≡ kind_by own path (Some rule)
  unfolding kind_of_file
  kind_by_first file before after rule unnamed are none fits =
      let line = first_line_of file in
      let may = may_fit (has_name (lookup table_of_names) path) (part_of path) in
      ap (λ (rs : List Rule). kind_by own path (find (line_fits line) rs))
      (named_candidates unnamed ∙ ap (filter may) are)
      ∙ ap (kind_by own path) (find_behind (line_fits line) may before after rule none fits)

  -- a kind that is known of a file that wasn't read is the kind whatever it holds
  pub kind_if_unread : (file : List ℕ) (kind : Kind) → kind_unread own path ≡ Some kind
      → kind_of_file own path file ≡ kind
  unfolding kind_unread kind_of_file
  kind_if_unread file kind e = by (candidates own path) e
    where
      by_line : (rule : Rule) (rules : List Rule) (b : Bool) → is_some rule.first_line ≡ b
          → cond b None (Some (kind_by own path (Some rule))) ≡ Some kind
          → kind_by own path (find (line_fits (first_line_of file)) (rule ∷ rules)) ≡ kind
      by_line rule rules true is f = absurd (let no : ⊥ = cc f in no)
      by_line rule rules false is f =
          let same : kind_by own path (Some rule) ≡ kind = cc f in
          ap (λ (t : Bool). kind_by own path (cond t (Some rule) (find (line_fits (first_line_of file)) rules)))
          (fits_any (first_line_of file) rule.first_line is) ∙ same

      by : (rules : List Rule) → kind_before own path rules ≡ Some kind
          → kind_by own path (find (line_fits (first_line_of file)) rules) ≡ kind
      by [] f = cc f
      by (rule ∷ rules) f = by_line rule rules (is_some rule.first_line) refl f

  -- the kind that is known by the first of the rules that may fit
  pub unread_found : (found : Option Rule) (b : Bool) → found ≡ find (λ rule. true) (candidates own path)
      → b ≡ option_map_or (λ rule. is_some rule.first_line) found false
      → kind_unread own path ≡ cond b None (Some (kind_by own path found))
  unfolding kind_unread
  unread_found found b is asks =
      by (candidates own path) ∙ ap (λ (f : Option Rule). known f (asked f)) (sym is) ∙ ap (known found) (sym asks)
    where
      asked : Option Rule → Bool
      asked f = option_map_or (λ rule. is_some rule.first_line) f false

      known : Option Rule → Bool → Option Kind
      known f t = cond t None (Some (kind_by own path f))

      by : (rules : List Rule) → kind_before own path rules ≡ known (find (λ rule. true) rules)
          (asked (find (λ rule. true) rules))
      by [] = refl
      by (rule ∷ rules) = refl
