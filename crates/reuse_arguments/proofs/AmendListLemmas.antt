-- The changes of `amend` in their order, one at a time.
use Rattle.std.proofs.Common.{◌≡◌, ◌≤◌, ◌<◌, ◌-◌, ◌∙◌, ℕ, List, [], ◌∷◌, Bor, arith, ap, refl, sym, get_or, length, map}
use Rattle.std.proofs.Common.{take, drop, codes, true, false, cond}
use Rattle.std.specs.Prelude.{Result, Ok, Err, IfSome}
use Rattle.std.proofs.lemmas.List.{take_all}
use Rattle.reuse_amend.specs.declared.amendments.Amendments.{Amendments}
use Rattle.reuse_arguments.specs.AmendSteps.{all_removed, all_replaced, removed, replaced}
use Rattle.reuse_amend.specs.AmendmentViews.{no_amendments}
use Rattle.reuse_arguments.specs.AmendWords.{amendments_read, in_turn, is_amending, steps_of}
use Rattle.reuse_arguments.specs.Found.{Rows}
use Rattle.reuse_arguments.specs.LineFaults.{Mistake, mistake_of, nothing_to_amend, then_read, unread}
use Rattle.reuse_arguments.specs.declared.line.LineFault.{LineFault}
use Rattle.reuse_arguments.specs.declared.words.amend_words.Part.{Part}
use Rattle.reuse_arguments.proofs.LineFaultLemmas.{mistake_first, mistake_same, read_on}

-- the texts of lent ones
abbrev pub texts_in : List (Bor (List ℕ)) → List (List ℕ)
texts_in list = map (λ (text : Bor (List ℕ)). text.now) list

rest_of_one : (x : Bor (List ℕ)) (xs : List (Bor (List ℕ))) → xs ≡ take (length (x ∷ xs) - 1) xs
rest_of_one x xs = sym (take_all (length (x ∷ xs) - 1) xs (omega arith))

rest_of_two : (x y : Bor (List ℕ)) (xs : List (Bor (List ℕ))) → xs ≡ take (length (x ∷ y ∷ xs) - 2) xs
rest_of_two x y xs = sym (take_all (length (x ∷ y ∷ xs) - 2) xs (omega arith))

pub removed_on : (part : Part) (list : List (Bor (List ℕ))) (d : Bor (List ℕ)) (so_far after : Amendments)
    → 1 ≤ length list → removed part (get_or list 0 d).now so_far ≡ Ok after
    → all_removed part (texts_in list) so_far ≡ all_removed part (texts_in (take (length list - 1) (drop 1 list))) after
unfolding all_removed
removed_on part [] d so_far after some h = absurd (omega arith)
removed_on part (x ∷ xs) d so_far after some h =
    read_on (removed part x.now so_far) (all_removed part (texts_in xs)) after h ∙ ap
    (λ l. all_removed part (texts_in l) after) (rest_of_one x xs)

pub removed_stops : (part : Part) (list : List (Bor (List ℕ))) (d : Bor (List ℕ)) (so_far : Amendments)
    (fault : LineFault) → 1 ≤ length list
    → IfSome (mistake_of fault) (λ mistake. removed part (get_or list 0 d).now so_far ≡ Err mistake) → IfSome
    (mistake_of fault) (λ mistake. all_removed part (texts_in list) so_far ≡ Err mistake)
unfolding all_removed
removed_stops part [] d so_far fault some h = absurd (omega arith)
removed_stops part (x ∷ xs) d so_far fault some h = mistake_first (removed part x.now so_far)
    (all_removed part (texts_in xs)) fault h

pub removed_all : (part : Part) (list : List (Bor (List ℕ))) (so_far : Amendments) → length list < 1
    → all_removed part (texts_in list) so_far ≡ Ok so_far
unfolding all_removed
removed_all part [] so_far none = refl
removed_all part (x ∷ xs) so_far none = absurd (omega arith)

pub replaced_on : (part : Part) (list : List (Bor (List ℕ))) (d : Bor (List ℕ)) (so_far after : Amendments)
    → 2 ≤ length list
    → replaced part (get_or list 0 d).now (get_or list 1 d).now so_far ≡ Ok after
    → all_replaced part (texts_in list) so_far ≡ all_replaced part
    (texts_in (take (length list - 2) (drop 2 list))) after
unfolding all_replaced
replaced_on part [] d so_far after some h = absurd (omega arith)
replaced_on part (x ∷ []) d so_far after some h = absurd (omega arith)
replaced_on part (x ∷ y ∷ xs) d so_far after some h =
    read_on (replaced part x.now y.now so_far) (all_replaced part (texts_in xs)) after h ∙ ap
    (λ l. all_replaced part (texts_in l) after) (rest_of_two x y xs)

pub replaced_stops : (part : Part) (list : List (Bor (List ℕ))) (d : Bor (List ℕ)) (so_far : Amendments)
    (fault : LineFault) → 2 ≤ length list
    → IfSome (mistake_of fault) (λ mistake. replaced part (get_or list 0 d).now (get_or list 1 d).now so_far
    ≡ Err mistake)
    → IfSome (mistake_of fault) (λ mistake. all_replaced part (texts_in list) so_far ≡ Err mistake)
unfolding all_replaced
replaced_stops part [] d so_far fault some h = absurd (omega arith)
replaced_stops part (x ∷ []) d so_far fault some h = absurd (omega arith)
replaced_stops part (x ∷ y ∷ xs) d so_far fault some h = mistake_first (replaced part x.now y.now so_far)
    (all_replaced part (texts_in xs)) fault h

pub replaced_all : (part : Part) (list : List (Bor (List ℕ))) (so_far : Amendments) → length list ≡ 0
    → all_replaced part (texts_in list) so_far ≡ Ok so_far
unfolding all_replaced
replaced_all part [] so_far none = refl
replaced_all part (x ∷ xs) so_far none = absurd (omega arith)

-- a text with none that takes its place
pub replaced_odd : (part : Part) (list : List (Bor (List ℕ))) (so_far : Amendments) → length list < 2 →
    (length list ≡ 0 → ⊥)
    → all_replaced part (texts_in list) so_far ≡ Err (unread (codes "a text that nothing takes the place of"))
unfolding all_replaced
replaced_odd part [] so_far few some = absurd (some refl)
replaced_odd part (x ∷ []) so_far few some = refl
replaced_odd part (x ∷ y ∷ xs) so_far few some = absurd (omega arith)

-- a step that was made, and one that ends the changes
pub turn_on : {X : Type 0} (step : X → Amendments → Result Amendments Mistake) (given wanted : X)
    (steps : List (Amendments → Result Amendments Mistake)) (so_far after : Amendments) → given ≡ wanted
    → step given so_far ≡ Ok after → in_turn (step wanted ∷ steps) so_far ≡ in_turn steps after
unfolding in_turn
turn_on step given wanted steps so_far after e h = ap (λ x. then_read (step x so_far) (in_turn steps)) (sym e)
    ∙ read_on (step given so_far) (in_turn steps) after h

pub turn_stops : {X : Type 0} (step : X → Amendments → Result Amendments Mistake) (given wanted : X)
    (steps : List (Amendments → Result Amendments Mistake)) (so_far : Amendments) (fault : LineFault) → given ≡ wanted
    → IfSome (mistake_of fault) (λ mistake. step given so_far ≡ Err mistake) → IfSome (mistake_of fault)
    (λ mistake. in_turn (step wanted ∷ steps) so_far ≡ Err mistake)
unfolding in_turn
turn_stops step given wanted steps so_far fault e h =
    mistake_same (in_turn (step wanted ∷ steps) so_far) (in_turn (step given ∷ steps) so_far) fault
    (ap (λ x. then_read (step x so_far) (in_turn steps)) (sym e))
    (mistake_first (step given so_far) (in_turn steps) fault h)

-- the last step
pub turn_end : {X : Type 0} (step : X → Amendments → Result Amendments Mistake) (given wanted : X)
    (so_far : Amendments) → given ≡ wanted → in_turn (step wanted ∷ []) so_far ≡ step given so_far
unfolding in_turn
turn_end step given wanted so_far e = ap (λ x. then_read (step x so_far) (in_turn [])) (sym e) ∙ alone
    (step given so_far)
  where
    alone : (expected : Result Amendments Mistake) → then_read expected (in_turn []) ≡ expected
    alone (Ok a) = refl
    alone (Err mistake) = refl

-- where something is to be changed, and where nothing is
pub when_amending : (found : Rows) (empty : Amendments) → is_amending found ≡ true → empty ≡ no_amendments
    → amendments_read found ≡ in_turn (steps_of found) empty
unfolding amendments_read
when_amending found empty h e = ap (λ b. cond b (in_turn (steps_of found) no_amendments) (Err nothing_to_amend)) h
    ∙ ap (in_turn (steps_of found)) (sym e)

pub when_not_amending : (found : Rows) → is_amending found ≡ false → amendments_read found ≡ Err nothing_to_amend
unfolding amendments_read
when_not_amending found h = ap (λ b. cond b (in_turn (steps_of found) no_amendments) (Err nothing_to_amend)) h
