-- What an amended `REUSE.toml` is.
use Rattle.std.proofs.Common.{◌≡◌, ◌≢◌, ◌⊎◌, inl, inr, ◌+◌, ◌≤◌, ℕ, Bool, true, false, List, length, Option, Some, None}
use Rattle.std.proofs.Common.{refl, sym, ap, ap₂, ◌∙◌, subst, cond}
use Rattle.std.specs.Prelude.{Result, Ok, Err, is_ok, nat_lt, not, ◌&&◌}
use Rattle.std.specs.Str.{bytes_eq}
use Rattle.std.proofs.lemmas.Bool.{and_parts, false≢true, ltb-false}
use Rattle.std.proofs.lemmas.Bool.Decides.{Decides-int_eq}
use Rattle.std.proofs.lemmas.Option.{same_Some}
use Rattle.std.proofs.lemmas.Slice.Eq.{bytes_eq-Decides}
use Rattle.toml.specs.Data.{Data, string, integer, float, boolean, datetime, array, table, Items, no_items, item}
use Rattle.toml.specs.Data.{Members, no_members, member}
use Rattle.reuse_text.specs.Text.{spliced}
use Rattle.reuse_text.specs.declared.TheConstants.{LONGEST_FILE}
use Rattle.reuse_amend.specs.declared.amendments.Amendments.{Amendments}
use Rattle.reuse_toml.specs.declared.toml_values.AmendTomlRefusal.{AmendTomlRefusal}
use Rattle.reuse_toml.specs.declared.toml_values.AmendTomlRefusal.TheVariants.{CannotBeAmended, TooLong}
use Rattle.reuse_toml.specs.declared.toml_judge.TomlLevel.{TomlLevel}
use Rattle.reuse_toml.specs.declared.toml_judge.TomlLevel.TheVariants.{Document, Plain}
use Rattle.reuse_toml.specs.declared.toml_change.TomlSplice.{TomlSplice}
use Rattle.reuse_toml.specs.TomlText.{read_toml}
use Rattle.reuse_toml.specs.TomlAmending.{if_ok, level_of_item, level_of_member, text_amended, is_emptied, is_removed}
use Rattle.reuse_toml.specs.TomlAmending.{is_amended, are_amended, members_amended, is_same, same_truth, change_between}
use Rattle.reuse_toml.specs.TomlAmending.{change_judged, text_judged, table_amended, toml_amendment_of}
use Rattle.reuse_toml.specs.TomlLaws.{IsAmendedText, IsChangedText, DiffersInStrings}
use Rattle.reuse_toml.proofs.ChangeLemmas.{change-makes, change-within}
use Rattle.reuse_toml.proofs.KeptLemmas.{differs}

-- ---- the same table

truth-is : (b c : Bool) → same_truth b c ≡ true → b ≡ c
truth-is true true h = refl
truth-is true false h = absurd (false≢true h)
truth-is false false h = refl
truth-is false true h = absurd (false≢true h)

module _ (a : Amendments) where
  none-removed : (d : Data) → is_removed a Plain d ≡ false
  none-removed (string text) = refl
  none-removed (integer n) = refl
  none-removed (float x) = refl
  none-removed (boolean b) = refl
  none-removed (datetime dt) = refl
  none-removed (array ds) = refl
  none-removed (table ms) = refl

  items-both : (d e : Data) (ds es : Items) → are_amended a Plain (item d ds) (item e es) ≡ true
      → (is_amended a Plain d e && are_amended a Plain ds es) ≡ true
  items-both d e ds es h =
      sym (ap (λ b. cond b (are_amended a Plain ds (item e es)) (is_amended a Plain d e && are_amended a Plain ds es))
      (none-removed d)) ∙ h

  items-more : (d : Data) (ds : Items) → are_amended a Plain (item d ds) no_items ≡ true → false ≡ true
  items-more d ds h = sym (ap (λ b. b && are_amended a Plain ds no_items) (none-removed d)) ∙ h

  mutual
    data-is : (d e : Data) → is_amended a Plain d e ≡ true → d ≡ e
    data-is (string s) (string t) h = ap string (sym ((bytes_eq-Decides t s).0 h))
    data-is (integer m) (integer n) h = ap integer ((Decides-int_eq m n).0 h)
    data-is (boolean b) (boolean c) h = ap boolean (truth-is b c h)
    data-is (array ds) (array es) h = ap array (items-are ds es (and_parts _ (are_amended a Plain ds es) h).1)
    data-is (table ms) (table ns) h = ap table (members-are ms ns h)
    data-is d e h = absurd (false≢true h)

    items-are : (ds es : Items) → are_amended a Plain ds es ≡ true → ds ≡ es
    items-are no_items no_items h = refl
    items-are no_items (item e es) h = absurd (false≢true h)
    items-are (item d ds) no_items h = absurd (false≢true (items-more d ds h))
    items-are (item d ds) (item e es) h =
        let parts = and_parts (is_amended a Plain d e) (are_amended a Plain ds es) (items-both d e ds es h) in
        ap₂ item (data-is d e parts.0) (items-are ds es parts.1)

    members-are : (ms ns : Members) → members_amended a Plain ms ns ≡ true → ms ≡ ns
    members-are no_members no_members h = refl
    members-are (member k d ms) (member l e ns) h =
        let parts = and_parts (bytes_eq k l && is_amended a Plain d e) (members_amended a Plain ms ns) h in
        let first = and_parts (bytes_eq k l) (is_amended a Plain d e) parts.0 in
        ap (λ x. member x d ms) ((bytes_eq-Decides k l).0 first.0) ∙ ap (λ x. member l x ms) (data-is d e first.1)
        ∙ ap (member l e) (members-are ms ns parts.1)
    members-are ms ns h = absurd (false≢true h)

  -- an item gives way, or it becomes the first of the others
  one-or-more : (level : TomlLevel) (d e : Data) (ds es : Items) (b : Bool) → is_removed a level d ≡ b
      → cond b (are_amended a level ds (item e es)) (is_amended a level d e && are_amended a level ds es) ≡ true
      → ((is_removed a level d ≡ true) × (are_amended a level ds (item e es) ≡ true))
      ⊎ ((is_amended a level d e ≡ true) × (are_amended a level ds es ≡ true))
  one-or-more level d e ds es true is h = inl (is, h)
  one-or-more level d e ds es false is h = inr (and_parts (is_amended a level d e) (are_amended a level ds es) h)

-- ---- what is compared is itself

not-emptied : (ds : Items) → not (is_emptied ds ds) ≡ true
not-emptied no_items = refl
not-emptied (item d ds) = refl

and-both : (b c : Bool) → b ≡ true → c ≡ true → (b && c) ≡ true
and-both b c e f = ap₂ (λ x y. x && y) e f

module _ (a : Amendments) where
  removed-itself : (level : TomlLevel) (d : Data) → is_removed a level d ≡ true → is_amended a Plain d d ≡ true
  removed-itself level (string s) h = (bytes_eq-Decides s s).1 refl
  removed-itself level d h = absurd (false≢true h)

  item-itself : (d : Data) (ds : Items) → is_amended a Plain d d ≡ true → are_amended a Plain ds ds ≡ true
      → are_amended a Plain (item d ds) (item d ds) ≡ true
  item-itself d ds h k =
      ap (λ b. cond b (are_amended a Plain ds (item d ds)) (is_amended a Plain d d && are_amended a Plain ds ds))
      (none-removed a d) ∙ and-both (is_amended a Plain d d) (are_amended a Plain ds ds) h k

  -- a value that something becomes of is the same as itself
  mutual
    data-itself : (level : TomlLevel) (d e : Data) → is_amended a level d e ≡ true → is_amended a Plain d d ≡ true
    data-itself level (string s) (string t) h = (bytes_eq-Decides s s).1 refl
    data-itself level (integer m) (integer n) h = (Decides-int_eq m m).1 refl
    data-itself level (boolean true) (boolean c) h = refl
    data-itself level (boolean false) (boolean c) h = refl
    data-itself level (array ds) (array es) h =
        and-both (not (is_emptied ds ds)) (are_amended a Plain ds ds) (not-emptied ds)
        (items-themselves (level_of_item level) ds es
        (and_parts (not (is_emptied ds es)) (are_amended a (level_of_item level) ds es) h).1)
    data-itself level (table ms) (table ns) h = members-themselves level ms ns h
    data-itself level d e h = absurd (false≢true h)

    items-themselves : (level : TomlLevel) (ds es : Items) → are_amended a level ds es ≡ true
        → are_amended a Plain ds ds ≡ true
    items-themselves level no_items es h = refl
    items-themselves level (item d ds) no_items h =
        let parts = and_parts (is_removed a level d) (are_amended a level ds no_items) h in
        item-itself d ds (removed-itself level d parts.0) (items-themselves level ds no_items parts.1)
    items-themselves level (item d ds) (item e es) h =
        elim (one-or-more a level d e ds es (is_removed a level d) refl h) [
          | inl gone ↦ item-itself d ds (removed-itself level d gone.0) (items-themselves level ds (item e es) gone.1)
          | inr stays ↦ item-itself d ds (data-itself level d e stays.0) (items-themselves level ds es stays.1)
        ]

    members-themselves : (level : TomlLevel) (ms ns : Members) → members_amended a level ms ns ≡ true
        → members_amended a Plain ms ms ≡ true
    members-themselves level no_members ns h = refl
    members-themselves level (member k d ms) (member l e ns) h =
        let parts =
        and_parts (bytes_eq k l && is_amended a (level_of_member level k) d e) (members_amended a level ms ns) h in
        let first = and_parts (bytes_eq k l) (is_amended a (level_of_member level k) d e) parts.0 in
        and-both (bytes_eq k k && is_amended a Plain d d) (members_amended a Plain ms ms)
        (and-both (bytes_eq k k) (is_amended a Plain d d) ((bytes_eq-Decides k k).1 refl)
        (data-itself (level_of_member level k) d e first.1)) (members-themselves level ms ns parts.1)
    members-themselves level (member k d ms) no_members h = absurd (false≢true h)

-- ---- an answer, and what it comes from

no-error : {X : Type 0} {e : AmendTomlRefusal} {x : X} {P : Type 0}
    → ◌≡◌ {A = Result X AmendTomlRefusal} (Err e) (Ok x) → P
no-error h = absurd (false≢true (ap is_ok h))

module _ (a : Amendments) (file : List ℕ) where
  -- how an answer comes about
  record IsJudged (text : List ℕ) (old new : Members) : Type 0 where
    read : read_toml file ≡ Some old
    made : text_amended a file ≡ Ok text
    fits : length text ≤ LONGEST_FILE
    read_new : read_toml text ≡ Some new
    amended : members_amended a Document old new ≡ true

  abbrev IsJudgedTo : Option TomlSplice → Type 0
  IsJudgedTo None =
      (text : List ℕ) × (old : Members) × (new : Members) × IsJudged text old new × (is_same a old new ≡ true)
  IsJudgedTo (Some change) = (text : List ℕ) × (old : Members) × (new : Members) × IsJudged text old new
      × ((change ≡ change_between file text) × (is_same a old new ≡ false))

  module _ (o : Option TomlSplice) (old : Members) (read : read_toml file ≡ Some old) (text : List ℕ)
      (made : text_amended a file ≡ Ok text) (fits : length text ≤ LONGEST_FILE) where
    sorted : (new : Members) → read_toml text ≡ Some new → members_amended a Document old new ≡ true
        → (same : Bool) → is_same a old new ≡ same → ◌≡◌ {A = Result (Option TomlSplice) AmendTomlRefusal}
        (cond same (Ok None) (Ok (Some (change_between file text)))) (Ok o) → IsJudgedTo o
    sorted new read_new amended true same h =
        subst IsJudgedTo (ap (in-ok None) h)
        (text, old, new, record { read = read; made = made; fits = fits; read_new = read_new; amended = amended }, same)
      where
        in-ok : Option TomlSplice → Result (Option TomlSplice) AmendTomlRefusal → Option TomlSplice
        in-ok other (Ok x) = x
        in-ok other (Err e) = other
    sorted new read_new amended false same h =
        subst IsJudgedTo (ap (in-ok None) h) (
          text,
          old,
          new,
          record { read = read; made = made; fits = fits; read_new = read_new; amended = amended },
          (refl, same),
        )
      where
        in-ok : Option TomlSplice → Result (Option TomlSplice) AmendTomlRefusal → Option TomlSplice
        in-ok other (Ok x) = x
        in-ok other (Err e) = other

    compared : (new : Members) → read_toml text ≡ Some new → (is : Bool) → members_amended a Document old new ≡ is
        → cond (not is) (Err CannotBeAmended)
        (cond (is_same a old new) (Ok None) (Ok (Some (change_between file text)))) ≡ Ok o → IsJudgedTo o
    compared new read_new false amended h = no-error h
    compared new read_new true amended h = sorted new read_new amended (is_same a old new) refl h

    read-again : (found : Option Members) → read_toml text ≡ found
        → change_judged a file text old found ≡ Ok o → IsJudgedTo o
    read-again None read_new h = no-error h
    read-again (Some new) read_new h = compared new read_new (members_amended a Document old new) refl h

  measured : (o : Option TomlSplice) (old : Members) → read_toml file ≡ Some old → (text : List ℕ)
      → text_amended a file ≡ Ok text → (long : Bool) → nat_lt LONGEST_FILE (length text) ≡ long
      → cond long (Err TooLong) (change_judged a file text old (read_toml text)) ≡ Ok o → IsJudgedTo o
  measured o old read text made true e h = no-error h
  measured o old read text made false e h =
      read-again o old read text made (ltb-false LONGEST_FILE (length text) e) (read_toml text) refl h

  written : (o : Option TomlSplice) (old : Members) → read_toml file ≡ Some old → (r : Result (List ℕ) AmendTomlRefusal)
      → text_amended a file ≡ r → if_ok (text_judged a file old) r ≡ Ok o → IsJudgedTo o
  written o old read (Err e) made h = no-error h
  written o old read (Ok text) made h = measured o old read text made (nat_lt LONGEST_FILE (length text)) refl h

  begun : (o : Option TomlSplice) (found : Option Members) → read_toml file ≡ found
      → table_amended a file found ≡ Ok o → IsJudgedTo o
  begun o None read h = no-error h
  begun o (Some old) read h = written o old read (text_amended a file) refl h

  judged-to : (o : Option TomlSplice) → toml_amendment_of a file ≡ Ok o → IsJudgedTo o
  unfolding toml_amendment_of
  judged-to o h = begun o (read_toml file) refl h

  pub unchanged : toml_amendment_of a file ≡ Ok None → IsAmendedText a file file
  unchanged h =
      let (text, old, new, j, same) = judged-to None h in
      record {
        old = old;
        new = old;
        read = j.read;
        read_new = j.read;
        amended = subst (λ x. members_amended a Document old x ≡ true) (sym (members-are a old new same)) j.amended;
      }

  pub changed : (change : TomlSplice) → toml_amendment_of a file ≡ Ok (Some change)
      → IsChangedText a file (spliced file change.at change.old change.new)
  changed change h =
      let (text, old, new, j, is) = judged-to (Some change) h in
      let makes : spliced file change.at change.old change.new ≡ text =
      ap (λ c. spliced file c.at c.old c.new) is.0 ∙ change-makes file text in
      record {
        old = old;
        new = new;
        read = j.read;
        read_new = ap read_toml makes ∙ j.read_new;
        amended = j.amended;
        differs = is.1;
      }

  pub differing : (change : TomlSplice) → toml_amendment_of a file ≡ Ok (Some change)
      → DiffersInStrings file (spliced file change.at change.old change.new)
  differing change h =
      let (text, old, new, j, is) = judged-to (Some change) h in
      let makes : spliced file change.at change.old change.new ≡ text =
      ap (λ c. spliced file c.at c.old c.new) is.0 ∙ change-makes file text in
      subst (DiffersInStrings file) (sym makes) (differs a file text j.made)

  -- it is another text
  pub another : (change : TomlSplice) → toml_amendment_of a file ≡ Ok (Some change)
      → spliced file change.at change.old change.new ≢ file
  another change h = λ same.
      let is = changed change h in
      let one : is.old ≡ is.new = same_Some is.old is.new (sym is.read ∙ ap read_toml (sym same) ∙ is.read_new) in
      false≢true
      (sym is.differs ∙ ap (is_same a is.old) (sym one) ∙ members-themselves a Document is.old is.new is.amended)

  pub within : (change : TomlSplice) → toml_amendment_of a file ≡ Ok (Some change)
      → change.at + change.old ≤ length file
  within change h =
      let (text, old, new, j, is) = judged-to (Some change) h in
      subst (λ (c : TomlSplice). c.at + c.old ≤ length file) (sym is.0) (change-within file text)

  pub fitting : (change : TomlSplice) → toml_amendment_of a file ≡ Ok (Some change)
      → length (spliced file change.at change.old change.new) ≤ LONGEST_FILE
  fitting change h =
      let (text, old, new, j, is) = judged-to (Some change) h in
      let makes : spliced file change.at change.old change.new ≡ text =
      ap (λ c. spliced file c.at c.old c.new) is.0 ∙ change-makes file text in
      subst (λ t. length t ≤ LONGEST_FILE) (sym makes) j.fits
