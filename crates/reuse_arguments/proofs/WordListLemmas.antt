-- What words make, one word at a time.
use Rattle.std.proofs.Common.{◌≡◌, ◌≤◌, ◌<◌, ◌+◌, ◌∙◌, ℕ, suc, List, [], ◌∷◌, ◌++◌, Bor, arith, ap, refl, sym, get_or}
use Rattle.std.proofs.Common.{length, map, take, drop, append_assoc, append-nil}
use Rattle.std.specs.Prelude.{Result, Ok, Err, IfSome}
use Rattle.std.proofs.lemmas.List.{drop_all, take_more, map-append}
use Rattle.std.proofs.Math.Seq.{drop-cons}
use Rattle.reuse_arguments.specs.LineFaults.{Mistake, all_read, mistake_of, then_read}
use Rattle.reuse_arguments.specs.declared.line.LineFault.{LineFault}
use Rattle.reuse_arguments.proofs.LineFaultLemmas.{mistake_first, mistake_same, read_on}

-- the texts of lent ones
abbrev pub texts_in : List (Bor (List ℕ)) → List (List ℕ)
texts_in list = map (λ (text : Bor (List ℕ)). text.now) list

-- what is expected is what was made, and behind it what the other words make
pub record HasRead {A : Type 0} (read : List ℕ → Result (List A) Mistake) (words : List (Bor (List ℕ))) (i : ℕ)
    (made : List A) : Type 0 where
  pub expected : all_read read (texts_in words) ≡ then_read (all_read read (texts_in (drop i words)))
      (λ others. Ok (made ++ others))

next_word : (words : List (Bor (List ℕ))) (i : ℕ) (d : Bor (List ℕ)) → i < length words → texts_in (drop i words) ≡
    (get_or words i d).now ∷ texts_in (drop (i + 1) words)
next_word words i d h =
    let next : suc i ≡ i + 1 = omega arith in
    ap (λ l. texts_in l) (drop-cons words i d h) ∙ ap (λ n. (get_or words i d).now ∷ texts_in (drop n words)) next

module _ {A : Type 0} where
  behind : (expected : Result (List A) Mistake) (made more : List A)
      → then_read (then_read expected (λ others. Ok (more ++ others)))
      (λ others. Ok (made ++ others)) ≡ then_read expected
      (λ others. Ok ((made ++ more) ++ others))
  behind (Ok list) made more = ap Ok (sym (append_assoc made more list))
  behind (Err mistake) made more = refl

  pub HasRead-more : (read : List ℕ → Result (List A) Mistake) (words : List (Bor (List ℕ))) (i : ℕ)
      (d : Bor (List ℕ)) (made more after : List A) → i < length words → HasRead read words i made
      → read (get_or words i d).now ≡ Ok more → after ≡ made ++ more → HasRead read words (i + 1) after
  unfolding all_read
  HasRead-more read words i d made more after h so_far e new =
      let others = all_read read (texts_in (drop (i + 1) words)) in
      record {
        expected = so_far.expected
            ∙ ap (λ l. then_read (all_read read l) (λ others. Ok (made ++ others))) (next_word words i d h)
            ∙ ap (λ d. then_read d (λ others. Ok (made ++ others)))
            (read_on (read (get_or words i d).now) (λ first. then_read others (λ rest. Ok (first ++ rest))) more e)
            ∙ behind others made more ∙ ap (λ l. then_read others (λ rest. Ok (l ++ rest))) (sym new);
      }

  pub HasRead-stops : (read : List ℕ → Result (List A) Mistake) (words : List (Bor (List ℕ))) (i : ℕ)
      (d : Bor (List ℕ)) (made : List A) (fault : LineFault) → i < length words → HasRead read words i made
      → IfSome (mistake_of fault) (λ mistake. read (get_or words i d).now ≡ Err mistake) → IfSome (mistake_of fault)
      (λ mistake. all_read read (texts_in words) ≡ Err mistake)
  unfolding all_read
  HasRead-stops read words i d made fault h so_far e =
      let word = (get_or words i d).now in
      let others = all_read read (texts_in (drop (i + 1) words)) in
      mistake_same (all_read read (texts_in words)) (then_read (all_read read (word ∷ texts_in (drop (i + 1) words)))
      (λ others. Ok (made ++ others))) fault
      (so_far.expected ∙ ap (λ l. then_read (all_read read l) (λ others. Ok (made ++ others))) (next_word words i d h))
      (mistake_first (then_read (read word) (λ first. then_read others (λ rest. Ok (first ++ rest))))
      (λ others. Ok (made ++ others)) fault
      (mistake_first (read word) (λ first. then_read others (λ rest. Ok (first ++ rest))) fault e))

  pub HasRead-end : (read : List ℕ → Result (List A) Mistake) (words : List (Bor (List ℕ))) (i : ℕ) (made : List A)
      → length words ≤ i → HasRead read words i made → all_read read (texts_in words) ≡ Ok made
  unfolding all_read
  HasRead-end read words i made h so_far =
      so_far.expected ∙ ap (λ l. then_read (all_read read (texts_in l)) (λ others. Ok (made ++ others)))
      (drop_all i words h) ∙ ap Ok (append-nil made)

-- one text more
pub one_text_more : (words : List (Bor (List ℕ))) (i : ℕ) (d : Bor (List ℕ)) (old new : List (List ℕ))
    → i < length words → old ≡ texts_in (take i words) → new ≡ old ++ (get_or words i d).now ∷ []
    → new ≡ texts_in (take (i + 1) words)
one_text_more words i d old new h so_far e =
    e ∙ ap (λ l. l ++ (get_or words i d).now ∷ []) so_far ∙ sym
    (ap (λ l. texts_in l) (take_more words i d h) ∙ map-append (λ (w : Bor (List ℕ)). w.now) (take i words)
    (get_or words i d ∷ []))
