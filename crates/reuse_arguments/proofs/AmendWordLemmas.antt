-- One change of `amend` more.
use Rattle.std.proofs.Common.{Bor, ◌≡◌, ◌∙◌, ℕ, true, false, cond, List, [], ◌∷◌, Option, Some, None, ap, sym}
use Rattle.std.specs.Prelude.{Ok, Err, IfSome, option_map}
use Rattle.std.specs.Option.{option_or}
use Rattle.reuse_notice.specs.Adding.{Refusal, bad_expression, bad_licence, bad_text, bad_year, is_bad_text}
use Rattle.reuse_notice.specs.Adding.{is_bad_year, without_spaces}
use Rattle.reuse_amend.specs.AmendmentViews.{replacement}
use Rattle.reuse_notice.specs.ExpressionSteps.{fault_of}
use Rattle.reuse_notice.specs.Refusals.{refusal_view}
use Rattle.reuse_notice.specs.Tags.{year_of}
use Rattle.reuse_notice.specs.declared.prefixes.Prefix.{Prefix}
use Rattle.reuse_notice.specs.declared.adding.NoticeRefusal.{NoticeRefusal}
use Rattle.reuse_amend.specs.declared.amendments.Amendments.{Amendments}
use Rattle.reuse_arguments.specs.AmendSteps.{new_refusal, prefix_read, removed, replaced, searched_read, with_holder}
use Rattle.reuse_arguments.specs.AmendSteps.{with_prefix, with_removed, with_replaced, with_until}
use Rattle.reuse_arguments.specs.LineFaults.{bad_additions, mistake_of, unless_refused}
use Rattle.reuse_arguments.specs.declared.line.LineFault.{LineFault}
use Rattle.reuse_arguments.specs.declared.line.LineFault.TheVariants as faults
use Rattle.reuse_arguments.specs.declared.words.amend_words.Part.{Part}
use Rattle.reuse_arguments.proofs.LineFaultLemmas.{mistake_first, mistake_same, read_on, refused_mistake}

pub removed_now : (part : Part) (text found : List ℕ) (so_far after : Amendments) → searched_read text ≡ Ok found
    → after ≡ with_removed part (without_spaces found) so_far
    → removed part text so_far ≡ Ok after
unfolding removed
removed_now part text found so_far after is e =
    read_on (searched_read text) (λ searched. Ok (with_removed part (without_spaces searched) so_far)) found is ∙ ap Ok
    (sym e)

pub replaced_now : (part : Part) (old new found : List ℕ) (so_far after : Amendments) → searched_read old ≡ Ok found
    → new_refusal part (without_spaces new) ≡ None
    → after ≡ with_replaced part (replacement found new) so_far → replaced part old new so_far ≡ Ok after
unfolding replaced
replaced_now part old new found so_far after is fit e =
    read_on (searched_read old) (λ searched. unless_refused (new_refusal part (without_spaces new))
    (with_replaced part (replacement searched new) so_far)) found is
    ∙ ap (λ o. unless_refused o (with_replaced part (replacement found new) so_far)) fit ∙ ap Ok (sym e)

pub replaced_refused : (part : Part) (old new found : List ℕ) (so_far : Amendments) (e : NoticeRefusal)
    → searched_read old ≡ Ok found
    → IfSome (refusal_view e) (λ refusal. new_refusal part (without_spaces new) ≡ Some refusal)
    → IfSome (mistake_of (faults.BadAdditions e)) (λ mistake. replaced part old new so_far ≡ Err mistake)
unfolding replaced
replaced_refused part old new found so_far e is h = refused_mistake (replaced part old new so_far) e
    (go (refusal_view e) h)
  where
    go : (o : Option Refusal) → IfSome o (λ refusal. new_refusal part (without_spaces new) ≡ Some refusal) → IfSome o
        (λ refusal. replaced part old new so_far ≡ Err (bad_additions refusal))
    go None h = tt
    go (Some refusal) h =
        read_on (searched_read old) (λ searched. unless_refused (new_refusal part (without_spaces new))
        (with_replaced part (replacement searched new) so_far)) found is
        ∙ ap (λ o. unless_refused o (with_replaced part (replacement found new) so_far)) h

-- a licence or a text that is fit, and one that isn't
pub licence_fit : (text : List ℕ) → fault_of text ≡ None → bad_licence (text ∷ []) ≡ None
licence_fit text h = ap (λ o. option_or (option_map (bad_expression text) o) None) h

pub text_fit : (text : List ℕ) → is_bad_text text ≡ false → cond (is_bad_text text) (Some (bad_text text)) None ≡ None
text_fit text h = ap (λ b. cond b (Some (bad_text text)) None) h

pub text_unfit : (text : List ℕ) (o : Option Refusal) → IfSome o
    (λ refusal. (is_bad_text text ≡ true) × (refusal ≡ bad_text text))
    → IfSome o (λ refusal. cond (is_bad_text text) (Some (bad_text text)) None ≡ Some refusal)
text_unfit text None h = tt
text_unfit text (Some refusal) h = ap (λ b. cond b (Some (bad_text text)) None) h.0 ∙ ap Some (sym h.1)

-- the year
pub until_now : (year : Option (Bor (List ℕ))) (text : Bor (List ℕ)) (so_far after : Amendments) → year ≡ Some text
    → is_bad_year (without_spaces text.now) ≡ false
    → after ≡ record so_far { until = year_of (without_spaces text.now) } → with_until
    (option_map (λ t. t.now) year) so_far ≡ Ok after
unfolding with_until
until_now year text so_far after is fit e =
    ap (λ y. with_until (option_map (λ t. t.now) y) so_far) is
    ∙ ap (λ b. cond b (Err (bad_additions (bad_year (without_spaces text.now))))
    (Ok (record so_far { until = year_of (without_spaces text.now) }))) fit ∙ ap Ok (sym e)

pub until_refused : (year : Option (Bor (List ℕ))) (text : Bor (List ℕ)) (so_far : Amendments) (e : NoticeRefusal)
    → year ≡ Some text
    → IfSome (refusal_view e) (λ refusal. (is_bad_year (without_spaces text.now) ≡ true) ×
    (refusal ≡ bad_year (without_spaces text.now)))
    → IfSome (mistake_of (faults.BadAdditions e)) (λ mistake. with_until (option_map (λ t. t.now) year) so_far
    ≡ Err mistake)
unfolding with_until
until_refused year text so_far e is h = refused_mistake (with_until (option_map (λ t. t.now) year) so_far) e
    (go (refusal_view e) h)
  where
    go : (o : Option Refusal) → IfSome o (λ refusal. (is_bad_year (without_spaces text.now) ≡ true) ×
        (refusal ≡ bad_year (without_spaces text.now)))
        → IfSome o (λ refusal. with_until (option_map (λ t. t.now) year) so_far ≡ Err (bad_additions refusal))
    go None h = tt
    go (Some refusal) h =
        ap (λ y. with_until (option_map (λ t. t.now) y) so_far) is
        ∙ ap (λ b. cond b (Err (bad_additions (bad_year (without_spaces text.now))))
        (Ok (record so_far { until = year_of (without_spaces text.now) }))) h.0
        ∙ ap (λ r. Err (bad_additions r)) (sym h.1)

-- the prefix
pub prefix_now : (name : Option (Bor (List ℕ))) (text : Bor (List ℕ)) (prefix : Prefix) (so_far after : Amendments)
    → name ≡ Some text → prefix_read text.now ≡ Ok prefix
    → after ≡ record so_far { prefix = Some prefix } → with_prefix (option_map (λ t. t.now) name) so_far ≡ Ok after
unfolding with_prefix
prefix_now name text prefix so_far after is read e =
    ap (λ y. with_prefix (option_map (λ t. t.now) y) so_far) is
    ∙ read_on (prefix_read text.now) (λ p. Ok (record so_far { prefix = Some p })) prefix read ∙ ap Ok (sym e)

pub prefix_mistake : (name : Option (Bor (List ℕ))) (text : Bor (List ℕ)) (so_far : Amendments) (fault : LineFault)
    → name ≡ Some text
    → IfSome (mistake_of fault) (λ mistake. prefix_read text.now ≡ Err mistake) → IfSome (mistake_of fault)
    (λ mistake. with_prefix (option_map (λ t. t.now) name) so_far ≡ Err mistake)
unfolding with_prefix
prefix_mistake name text so_far fault is h =
    mistake_same (with_prefix (option_map (λ t. t.now) name) so_far) (with_prefix (Some text.now) so_far) fault
    (ap (λ y. with_prefix (option_map (λ t. t.now) y) so_far) is)
    (mistake_first (prefix_read text.now) (λ p. Ok (record so_far { prefix = Some p })) fault h)

-- the holder
pub holder_now : (name : Option (Bor (List ℕ))) (text found : Bor (List ℕ)) (so_far after : Amendments) → name
    ≡ Some text → searched_read text.now ≡ Ok found.now
    → after ≡ record so_far { holder = Some (without_spaces found.now) } → with_holder
    (option_map (λ t. t.now) name) so_far ≡ Ok after
unfolding with_holder
holder_now name text found so_far after is read e =
    ap (λ y. with_holder (option_map (λ t. t.now) y) so_far) is
    ∙ read_on (searched_read text.now) (λ searched. Ok
    (record so_far { holder = Some (without_spaces searched) })) found.now read ∙ ap Ok (sym e)

pub holder_mistake : (name : Option (Bor (List ℕ))) (text : Bor (List ℕ)) (so_far : Amendments) (fault : LineFault)
    → name ≡ Some text
    → IfSome (mistake_of fault) (λ mistake. searched_read text.now ≡ Err mistake) → IfSome (mistake_of fault)
    (λ mistake. with_holder (option_map (λ t. t.now) name) so_far ≡ Err mistake)
unfolding with_holder
holder_mistake name text so_far fault is h =
    mistake_same (with_holder (option_map (λ t. t.now) name) so_far) (with_holder (Some text.now) so_far) fault
    (ap (λ y. with_holder (option_map (λ t. t.now) y) so_far) is)
    (mistake_first (searched_read text.now) (λ searched. Ok
    (record so_far { holder = Some (without_spaces searched) })) fault h)
