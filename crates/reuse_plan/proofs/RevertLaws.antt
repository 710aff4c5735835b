-- What a revert gives where files are as a step left them, and below a range that is put back.
use Rattle.std.proofs.Common.{◌≡◌, ◌≢◌, ℕ, ◌+◌, ◌-◌, ◌≤◌, Bool, true, false, cond, not, ◌&&◌, ◌||◌, nat_eq, nat_le}
use Rattle.std.proofs.Common.{List, [], ◌∷◌, ◌++◌, length, take, drop, sum_by, get_or, Option, Some, None, is_some, Ok}
use Rattle.std.proofs.Common.{Err, refl, sym, ap, ap₂, subst, ◌∙◌, arith, length-append, append_assoc, le-leb, bytes_eq}
use Rattle.std.proofs.Common.{option_map}
use Rattle.sha2.specs.Sha256.{sha256}
use Rattle.std.specs.FinMap.{empty, get}
use Rattle.std.proofs.lemmas.Option.{same_Some, cond_some}
use Rattle.std.specs.List.{AllByRecursion, cons_option, starts_with}
use Rattle.std.proofs.Math.Seq.{drop-append_seam, take-append_seam}
use Rattle.std.proofs.lemmas.Bool.{false≢true, and_from}
use Rattle.std.proofs.lemmas.Bool.Decides.{Decides-eqb}
use Rattle.std.proofs.lemmas.List.{drop-drop, length-drop, append-nil, nil_from_length}
use Rattle.std.proofs.lemmas.List.Elements.{recursion_from_All}
use Rattle.std.proofs.lemmas.List.Sums.{sum_by-cons}
use Rattle.std.proofs.lemmas.Slice.Eq.{bytes_eq-Decides, starts_is}
use Rattle.reuse_text.specs.Text.{spliced}
use Rattle.reuse_change.specs.Files.{Files, AreFiles}
use Rattle.reuse_change.specs.Change.{path_of, is_sealed, digest_after, AppliesByRange}
use Rattle.reuse_change.specs.Digest.{IsDigestOf}
use Rattle.reuse_change.specs.declared.change.Change.{Change}
use Rattle.reuse_change.specs.declared.change.Change.TheVariants.{Make, Drop, Splice}
use Rattle.reuse_change.specs.declared.digest.Seal.{Seal}
use Rattle.reuse_change.proofs.FileMaps.{same_files}
use Rattle.reuse_text.specs.declared.TheConstants.{LONGEST_FILE}
use Rattle.reuse_change.specs.Clash.{is_clash}
use Rattle.reuse_edit.specs.Edit.{Edit, made, dropped}
use Rattle.reuse_change.specs.Entry.{makes, removed_by, written_by, touches, fixed_size, change_size, AreAllSealed}
use Rattle.reuse_change.specs.Entry.{IsEntry, IsSmall, LeadsAll}
use Rattle.reuse_change.specs.Listing.{is_among}
use Rattle.reuse_plan.specs.Outcome.{edited, edit_size, is_too_many, tree_after, outcome_of}
use Rattle.reuse_plan.specs.Reverting.{stands_at, has_digest, is_as_left, stands_as_written, is_short, put_back}
use Rattle.reuse_plan.specs.Reverting.{taken_back, taken_back_on}
use Rattle.reuse_command.specs.declared.command.Command.TheVariants.{Revert}
use Rattle.reuse_change.specs.declared.direction.Direction.TheVariants.{Backward}
use Rattle.reuse_command.specs.declared.reply.Refusal.TheVariants.{TooMany}
use Rattle.reuse_plan.proofs.Planning.{paths_at, EachHas, edited_other, edited_has}
use Rattle.reuse_plan.proofs.RevertPlanning.{backs, still_ascend, still_among, and_first, and_second, within}
use Rattle.reuse_plan.proofs.RevertPlanning.{spliced_len, where_free}
use Rattle.reuse_store.proofs.Testing.{clashes_keys}
use Rattle.reuse_change.proofs.Walk.{can_lead, leads_back}
use Rattle.reuse_plan.proofs.Outcomes.{few_held}
use Rattle.reuse_plan.proofs.CommandEdits.{stuck_on, unless_stuck, revert_edits, of_revert}

-- ---- the old bytes come back, whatever follows them

all_true : (a b c : Bool) → a ≡ true → b ≡ true → c ≡ true → (a && b && c) ≡ true
all_true true true true e f g = refl
all_true true true false e f g = g
all_true true false c e f g = absurd (false≢true f)
all_true false b c e f g = absurd (false≢true e)

module _ (path front old new behind : List ℕ) (rest : ℕ) (seal : Option Seal) where
  abbrev file : List ℕ
  file = front ++ new ++ behind

  beyond : drop (length front) file ≡ new ++ behind
  beyond = ap (drop (length front)) (append_assoc front new behind) ∙ drop-append_seam front (new ++ behind)

  stands : stands_at file new (length front) ≡ true
  stands = and_from (nat_le (length front) (length file)) (starts_with nat_eq (drop (length front) file) new)
      (le-leb (length front) (length file)
      (omega (arith, length-append (front ++ new) behind, length-append front new)))
      ((starts_is Decides-eqb (drop (length front) file) new _ refl).1 behind beyond)

  spliced_is : spliced file (length front) (length new) old ≡ front ++ old ++ behind
  spliced_is = ap₂ (λ x y. x ++ old ++ y)
      (ap (take (length front)) (append_assoc front new behind) ∙ take-append_seam front (new ++ behind))
      (sym (drop-drop (length new) (length front) file) ∙ ap (drop (length new)) beyond ∙ drop-append_seam new behind)

  put_back_there : (not (starts_with nat_eq old new) || is_as_left file (length front) new rest seal) ≡ true
      → length (front ++ new ++ behind) ≤ LONGEST_FILE → length (front ++ old ++ behind) ≤ LONGEST_FILE
      → taken_back (Splice path (length front) old new rest seal) (Some (front ++ new ++ behind)) ≡ Some
      (record { path = path; removed = new; written = old; file = Some (front ++ old ++ behind) })
  put_back_there reported short fits =
      ap (λ b. cond b (Some (put_back path file (length front) old new)) None)
      (all_true (stands_as_written file (length front) old new rest seal) (is_short file)
      (is_short (spliced file (length front) (length new) old))
      (and_from (stands_at file new (length front)) (not (starts_with nat_eq old new) || is_as_left file
      (length front) new rest seal) stands reported) (le-leb (length file) LONGEST_FILE short)
      (ap is_short spliced_is ∙ le-leb (length (front ++ old ++ behind)) LONGEST_FILE fits))
      ∙ ap (λ f. Some (record { path = path; removed = new; written = old; file = Some f })) spliced_is

  pub put_back_below : starts_with nat_eq old new ≡ false → length (front ++ new ++ behind) ≤ LONGEST_FILE
      → length (front ++ old ++ behind) ≤ LONGEST_FILE
      → taken_back (Splice path (length front) old new rest seal) (Some (front ++ new ++ behind)) ≡ Some
      (record { path = path; removed = new; written = old; file = Some (front ++ old ++ behind) })
  put_back_below marked short fits =
      put_back_there (ap (λ b. not b || is_as_left file (length front) new rest seal) marked) short fits

  or_left : (b c : Bool) → c ≡ true → (not b || c) ≡ true
  or_left true c e = e
  or_left false c e = refl

  recorded : (digest : Option Seal) → IsDigestOf (option_map (λ s. s.after) digest) (Some file)
      → has_digest file digest ≡ true
  recorded None is = refl
  recorded (Some s) is = (bytes_eq-Decides (sha256 file) s.after).1 (same_Some (sha256 file) s.after is)

  pub put_back_left : length behind ≡ rest → IsDigestOf (option_map (λ s. s.after) seal) (Some (front ++ new ++ behind))
      → length (front ++ new ++ behind) ≤ LONGEST_FILE → length (front ++ old ++ behind) ≤ LONGEST_FILE
      → taken_back (Splice path (length front) old new rest seal) (Some (front ++ new ++ behind)) ≡ Some
      (record { path = path; removed = new; written = old; file = Some (front ++ old ++ behind) })
  put_back_left end digest short fits =
      put_back_there
      (or_left (starts_with nat_eq old new) (is_as_left file (length front) new rest seal)
      (and_from (nat_eq (length file - length front - length new) rest) (has_digest file seal)
      ((Decides-eqb (length file - length front - length new) rest).1
      (omega (arith, end, length-append (front ++ new) behind, length-append front new))) (recorded seal digest)))
      short fits

-- ---- bytes that were taken away come back once

at_least : (old new : List ℕ) → starts_with nat_eq old new ≡ true → length new ≤ length old
at_least old new begins =
    let whole : old ≡ new ++ drop (length new) old = (starts_is Decides-eqb old new _ refl).0 begins in
    omega (arith, ap length whole, length-append new (drop (length new) old))

longer : (old new : List ℕ) → starts_with nat_eq old new ≡ true → old ≢ new → length old ≡ length new → ⊥
longer old new begins apart same =
    let whole : old ≡ new ++ drop (length new) old = (starts_is Decides-eqb old new _ refl).0 begins in
    let none : length (drop (length new) old) ≡ 0 = omega (arith, same, length-drop (length new) old) in
    apart (whole ∙ ap (λ l. new ++ l) (nil_from_length (drop (length new) old) none) ∙ append-nil new)

module _ (path old new file : List ℕ) (at rest : ℕ) (seal : Option Seal) where
  pub once : (edit : Edit) → starts_with nat_eq old new ≡ true → old ≢ new
      → taken_back (Splice path at old new rest seal) (Some file) ≡ Some edit
      → taken_back (Splice path at old new rest seal) edit.file ≡ None
  once edit begins apart taken =
      let is = cond_some (stands_as_written file at old new rest seal && is_short file && is_short
      (spliced file at (length new) old)) (put_back path file at old new) edit taken in
      let as_written = and_first (stands_as_written file at old new rest seal) (is_short file)
      (and_first (stands_as_written file at old new rest seal && is_short file)
      (is_short (spliced file at (length new) old)) is.0) in
      let left : is_as_left file at new rest seal ≡ true =
      ap (λ b. not b || is_as_left file at new rest seal) (sym begins) ∙ and_second (stands_at file new at)
      (not (starts_with nat_eq old new) || is_as_left file at new rest seal) as_written in
      let behind : length file - at - length new ≡ rest = (Decides-eqb (length file - at - length new) rest).0
      (and_first (nat_eq (length file - at - length new) rest) (has_digest file seal) left) in
      let size = spliced_len empty path file old new at rest seal as_written in
      let room = within empty path file old new at rest seal as_written in
      let least = at_least old new begins in
      ap (taken_back (Splice path at old new rest seal)) (ap (λ (x : Edit). x.file) (sym is.1))
      ∙ ap (λ b. cond b (Some (put_back path (spliced file at (length new) old) at old new)) None)
      (first_false (stands_at (spliced file at (length new) old) new at) (starts_with nat_eq old new)
      (is_as_left (spliced file at (length new) old) at new rest seal) begins
      (not_left (spliced file at (length new) old)
      (λ e. longer old new begins apart (omega (arith, e, behind, size, room, least)))))
    where
      not_left : (after : List ℕ) → (length after - at - length new ≡ rest → ⊥)
          → is_as_left after at new rest seal ≡ false
      not_left after apart = by_test (nat_eq (length after - at - length new) rest) refl
        where
          by_test : (b : Bool) → nat_eq (length after - at - length new) rest ≡ b → (b && has_digest after seal) ≡ false
          by_test true e = absurd (apart ((Decides-eqb (length after - at - length new) rest).0 e))
          by_test false e = refl

      first_false : (a b c : Bool) → b ≡ true → c ≡ false
          → (a && (not b || c) && is_short (spliced file at (length new) old) && is_short
          (spliced (spliced file at (length new) old) at (length new) old)) ≡ false
      first_false true true false e f = refl
      first_false false b c e f = refl
      first_false true true true e f = absurd (false≢true (sym f))
      first_false true false c e f = absurd (false≢true e)

-- ---- one change of a step, where its file is as the step left it

-- the edit takes the change back to this file
pub record TakesTo (change : Change) (before after : Option (List ℕ)) : Type 0 where
  pub edit : Edit
  pub is : taken_back change after ≡ Some edit
  pub path : edit.path ≡ path_of change
  pub removed : edit.removed ≡ written_by change
  pub written : edit.written ≡ removed_by change
  pub file : edit.file ≡ before

pub takes_to : (change : Change) (before after : Option (List ℕ)) → IsSmall change → AppliesByRange change before after
    → IsDigestOf (digest_after change) after → TakesTo change before after
takes_to (Make path new digest) before after small t sealed = record {
  edit = dropped path new;
  is = ap (taken_back (Make path new digest)) t.1
      ∙ ap (λ b. cond b (Some (dropped path new)) None) ((bytes_eq-Decides new new).1 refl);
  path = refl;
  removed = refl;
  written = refl;
  file = sym t.0;
}
takes_to (Drop path old digest) before after small t sealed = record {
  edit = made path old;
  is = ap (taken_back (Drop path old digest)) t.1;
  path = refl;
  removed = refl;
  written = refl;
  file = sym t.0;
}
takes_to (Splice path at old new rest seal) before after small t sealed =
    let front = t.0 in
    let back = t.1 in
    let low = t.3.before in
    let end = t.3.behind in
    record {
      edit = record { path = path; removed = new; written = old; file = Some (t.0 ++ old ++ t.1) };
      is = ap (taken_back (Splice path at old new rest seal)) t.3.whole
          ∙ subst (λ a. taken_back (Splice path a old new rest seal) (Some (t.0 ++ new ++ t.1)) ≡ Some
          (record { path = path; removed = new; written = old; file = Some (t.0 ++ old ++ t.1) })) low
          (put_back_left path front old new back rest seal end
          (subst (IsDigestOf (option_map (λ s. s.after) seal)) t.3.whole sealed)
          (omega (arith, small.1, low, end, length-append (front ++ new) back, length-append front new))
          (omega (arith, small.0, low, end, length-append (front ++ old) back, length-append front old)));
      path = refl;
      removed = refl;
      written = refl;
      file = sym t.2.whole;
    }

-- ---- all changes of a step

pub not_both : (a b : Bool) → (a ≡ true → b ≡ true → ⊥) → (a && b) ≡ false
not_both true true h = absurd (h refl refl)
not_both true false h = refl
not_both false b h = refl

module _ (before after : Files) where
  -- on the tree after, the change is taken back to its file on the tree before
  abbrev IsBack : Change → Type 0
  IsBack change = (taken : TakesTo change (get before (path_of change)) (get after (path_of change)))
      × (taken_back_on after change ≡ Some taken.edit)

  is_back : (changes : List Change) → IsEntry changes → AreFiles before → LeadsAll changes before after
      → AllByRecursion IsBack changes
  is_back changes entry are leads = recursion_from_All IsBack changes (λ k d low.
      let change = get_or changes k d in
      let taken = takes_to change (get before (path_of change)) (get after (path_of change)) (entry.small k d low)
      (leads.each k d low).range (leads.each k d low).to in
      let free =
      (can_lead Backward changes after before entry are (leads_back changes before after leads) k d low).free in
      let none = not_both (makes Backward change) (is_clash after (path_of change))
      (λ m c. free m ((clashes_keys after (path_of change)).0 c)) in
      (taken, where_free after change none ∙ taken.is))

  none_stuck : (changes : List Change) → AllByRecursion IsBack changes → stuck_on [] after changes ≡ []
  none_stuck [] all = refl
  none_stuck (c ∷ cs) all =
      ap (λ o. cond (not (is_some o)) (c ∷ stuck_on [] after cs) (stuck_on [] after cs)) all.0.1 ∙ none_stuck cs all.1

  skips_none : (b : Bool) → cond b [] (stuck_on [] after []) ≡ []
  skips_none true = refl
  skips_none false = refl

  edits_are : (changes : List Change) (skip : Bool) → AllByRecursion IsBack changes
      → revert_edits changes [] skip after ≡ Ok (backs [] after changes)
  edits_are changes skip all = ap (λ cs. unless_stuck cs (backs [] after changes))
      (ap (λ cs. cond skip [] cs) (none_stuck changes all) ∙ skips_none skip)

  same_count : (changes : List Change) → AllByRecursion IsBack changes
      → length (backs [] after changes) ≡ length changes
  same_count [] all = refl
  same_count (c ∷ cs) all = let n = same_count cs all.1 in
      ap (λ o. length (cons_option o (backs [] after cs))) all.0.1 ∙ omega (arith, n)

  same_size : (change : Change) → is_sealed change ≡ true
      → (taken : TakesTo change (get before (path_of change)) (get after (path_of change)))
      → edit_size taken.edit ≡ change_size change
  same_size change sealed taken =
      let a = ap length taken.path in
      let b = ap length taken.removed in
      let d = ap length taken.written in
      let e = ap fixed_size sealed in
      omega (arith, a, b, d, e)

  same_sizes : (changes : List Change) → AllByRecursion (λ c. is_sealed c ≡ true) changes
      → AllByRecursion IsBack changes → sum_by edit_size (backs [] after changes) ≡ sum_by change_size changes
  same_sizes [] sealed all = refl
  same_sizes (c ∷ cs) sealed all =
      ap (λ o. sum_by edit_size (cons_option o (backs [] after cs))) all.0.1
      ∙ sum_by-cons edit_size all.0.0.edit (backs [] after cs)
      ∙ ap₂ (λ m n. m + n) (same_size c sealed.0 all.0.0) (same_sizes cs sealed.1 all.1)
      ∙ sym (sum_by-cons change_size c cs)

  few : (changes : List Change) → IsEntry changes → AreAllSealed true changes → AllByRecursion IsBack changes
      → is_too_many (backs [] after changes) ≡ false
  few changes entry sealed all =
      let count = same_count changes all in
      let size = same_sizes changes (recursion_from_All (λ (c : Change). is_sealed c ≡ true) changes sealed) all in
      few_held (backs [] after changes) (omega (arith, count, entry.few), omega (arith, size, entry.light))

  -- ---- the tree

  has_before : (files : Files) (changes : List Change) → AllByRecursion IsBack changes → EachHas files
      (backs [] after changes) → AllByRecursion (λ c. get files (path_of c) ≡ get before (path_of c)) changes
  has_before files [] all has = tt
  has_before files (c ∷ cs) all has =
      let here : EachHas files (all.0.0.edit ∷ backs [] after cs) =
      subst (λ o. EachHas files (cons_option o (backs [] after cs))) all.0.1 has in
      (ap (get files) (sym all.0.0.path) ∙ here.0 ∙ all.0.0.file, has_before files cs all.1 here.1)

  at_path : (files : Files) (changes : List Change) (q : List ℕ)
      → AllByRecursion (λ c. get files (path_of c) ≡ get before (path_of c)) changes → touches changes q ≡ true
      → get files q ≡ get before q
  at_path files [] q all h = absurd (false≢true h)
  at_path files (c ∷ cs) q all h = of_test (bytes_eq q (path_of c)) refl h (at_path files cs q all.1)
    where
      of_test : (b : Bool) → bytes_eq q (path_of c) ≡ b → (b || touches cs q) ≡ true
          → (touches cs q ≡ true → get files q ≡ get before q) → get files q ≡ get before q
      of_test true e t rest = subst (λ p. get files p ≡ get before p) (sym ((bytes_eq-Decides q (path_of c)).0 e)) all.0
      of_test false e t rest = rest t

  edited_is : (changes : List Change) → IsEntry changes → LeadsAll changes before after → AllByRecursion IsBack changes
      → edited after (backs [] after changes) ≡ before
  edited_is changes entry leads all = same_files _ _ (λ q. of_test q (touches changes q) refl)
    where
      untouched : (q : List ℕ) (b : Bool) → is_among (paths_at (backs [] after changes)) q ≡ b
          → touches changes q ≡ false → is_among (paths_at (backs [] after changes)) q ≡ false
      untouched q true e none = absurd (false≢true (sym none ∙ still_among [] after changes q e))
      untouched q false e none = e

      of_test : (q : List ℕ) (b : Bool) → touches changes q ≡ b
          → get (edited after (backs [] after changes)) q ≡ get before q
      of_test q false e = edited_other after (backs [] after changes) q
          (untouched q (is_among (paths_at (backs [] after changes)) q) refl e) ∙ leads.others q e
      of_test q true e =
          at_path (edited after (backs [] after changes)) changes q
          (has_before (edited after (backs [] after changes)) changes all
          (edited_has after (backs [] after changes) (still_ascend [] after changes entry.ascending))) e

  pub reverts_as_undo : (changes : List Change) (skip : Bool) → IsEntry changes → AreAllSealed true changes
      → AreFiles before → LeadsAll changes before after → outcome_of (Revert changes [] skip) after ≡ Ok before
  unfolding outcome_of
  reverts_as_undo changes skip entry sealed are leads =
      let all = is_back changes entry are leads in
      ap (tree_after after) (of_revert changes [] skip after ∙ edits_are changes skip all)
      ∙ ap (λ b. cond b (Err TooMany) (Ok (edited after (backs [] after changes)))) (few changes entry sealed all)
      ∙ ap (λ t. Ok t) (edited_is changes entry leads all)
