-- What is known of the parts of a notice that is read.
use Rattle.std.proofs.Common.{◌≡◌, ℕ, zero, suc, nat_eq, Bool, true, false, cond, List, [], ◌∷◌}
use Rattle.std.proofs.Common.{length, drop, Option, Some, None, refl, sym, ap, subst, ◌∙◌}
use Rattle.std.proofs.Common.{inl, inr, ◌⊎◌}
use Rattle.std.specs.Prelude.{not, ◌&&◌, ◌==◌, codes, find}
use Rattle.std.specs.List.{starts_with, list_all}
use Rattle.std.specs.Option.{option_map_or}
use Rattle.std.proofs.lemmas.Bool.{false≢true, eqb-true}
use Rattle.std.proofs.lemmas.List.{append-nil}
use Rattle.reuse_notice.specs.Prefixes.{copyright_sign}
use Rattle.reuse_notice.specs.Tags.{is_blank, all_blank, drop_front}
use Rattle.reuse_amend.specs.YearSpans.{behind, RunText, run_front}
use Rattle.reuse_amend.specs.NoticeParts
use Rattle.reuse_amend.proofs.ChoiceLemmas.{not_some}
use Rattle.reuse_amend.proofs.EndLemmas.{Holds, IsEnd, end_self, end_further}
use Rattle.reuse_amend.proofs.EndLemmas.{end_blanks, end_behind, run_read, run_end}

-- ---- texts that begin with more than a blank byte

abbrev pub is_full : List ℕ → Bool
is_full [] = false
is_full (b ∷ bytes) = not (is_blank b)

-- what blank bytes are dropped in front of is so, or nothing is left
pub drop_full : (xs : List ℕ) → (drop_front is_blank xs ≡ []) ⊎ (is_full (drop_front is_blank xs) ≡ true)
unfolding drop_front
drop_full [] = inl refl
drop_full (x ∷ xs) = by (is_blank x) refl (drop_full xs)
  where
    by : (t : Bool) → is_blank x ≡ t → (drop_front is_blank xs ≡ []) ⊎ (is_full (drop_front is_blank xs) ≡ true)
        → (cond t (drop_front is_blank xs) (x ∷ xs) ≡ []) ⊎ (is_full (cond t (drop_front is_blank xs) (x ∷ xs)) ≡ true)
    by true e again = again
    by false e again = inr (ap not e)

pub full_kept : (xs : List ℕ) → is_full xs ≡ true → drop_front is_blank xs ≡ xs
unfolding drop_front
full_kept [] e = refl
full_kept (x ∷ xs) e = by (is_blank x) e
  where
    by : (t : Bool) → not t ≡ true → cond t (drop_front is_blank xs) (x ∷ xs) ≡ x ∷ xs
    by true e' = absurd (false≢true e')
    by false e' = refl

pub full_some : (xs : List ℕ) → is_full xs ≡ true → all_blank xs ≡ false
full_some [] e = absurd (false≢true e)
full_some (x ∷ xs) e = by (is_blank x) e
  where
    by : (t : Bool) → not t ≡ true → (t && list_all is_blank xs) ≡ false
    by true e' = absurd (false≢true e')
    by false e' = refl

not_nil : (z : ℕ) (zs : List ℕ) → z ∷ zs ≡ [] → ⊥
not_nil z zs h = cc h

all_dropped : (ys : List ℕ) → drop_front is_blank ys ≡ [] → all_blank ys ≡ true
unfolding drop_front
all_dropped [] n = refl
all_dropped (y ∷ ys) n = by (is_blank y) refl n (all_dropped ys)
  where
    by : (t : Bool) → is_blank y ≡ t → cond t (drop_front is_blank ys) (y ∷ ys) ≡ []
        → (drop_front is_blank ys ≡ [] → all_blank ys ≡ true)
        → (is_blank y && all_blank ys) ≡ true
    by true is n' again = ap (λ t. t && all_blank ys) is ∙ again n'
    by false is n' again = absurd (not_nil y ys n')

-- more than blank bytes are left of a text that has more
pub some_full : (xs : List ℕ) → all_blank xs ≡ false → is_full (drop_front is_blank xs) ≡ true
some_full xs e = elim (drop_full xs) [
  | inl none ↦ absurd (false≢true (sym e ∙ all_dropped xs none))
  | inr full ↦ full
]

full_unless : (text rest : List ℕ) → is_full text ≡ true → (rest ≡ []) ⊎ (is_full rest ≡ true)
    → is_full (NoticeParts.unless_nil text rest) ≡ true
full_unless text [] full e = full
full_unless text (b ∷ rest) full (inl e) = absurd (let none : ⊥ = cc e in none)
full_unless text (b ∷ rest) full (inr e) = e

pub full_past : (lead text : List ℕ) → is_full text ≡ true → is_full (NoticeParts.past lead text) ≡ true
full_past lead text full = by (starts_with nat_eq text lead)
  where
    by : (t : Bool) → is_full (cond t (NoticeParts.unless_nil text
        (drop_front is_blank (drop (length lead) text))) text) ≡ true
    by true = full_unless text (drop_front is_blank (drop (length lead) text)) full
        (drop_full (drop (length lead) text))
    by false = full

pub full_sign : (text : List ℕ) → is_full text ≡ true → is_full (NoticeParts.past_sign text) ≡ true
full_sign text full = by (find (starts_with nat_eq text) NoticeParts.signs)
  where
    by : (o : Option (List ℕ)) → is_full (option_map_or (λ sign. NoticeParts.past sign text) o text) ≡ true
    by None = full
    by (Some sign) = full_past sign text full

pub full_by : (text : List ℕ) → is_full text ≡ true → is_full (NoticeParts.past_by text) ≡ true
full_by text full = by (NoticeParts.starts_blank (drop 2 text))
  where
    by : (t : Bool) → is_full (cond t (NoticeParts.past (codes "by") text) text) ≡ true
    by true = full_past (codes "by") text full
    by false = full

-- ---- ends of a notice

module _ (P : List ℕ → Type 0) (h : Holds P) where
  end_unless : (text rest : List ℕ) → IsEnd P text rest → IsEnd P text (NoticeParts.unless_nil text rest)
  end_unless text [] e = end_self P h text
  end_unless text (b ∷ rest) e = e

  pub end_past : (lead text : List ℕ) → P lead → IsEnd P text (NoticeParts.past lead text)
  end_past lead text p = by (starts_with nat_eq text lead) refl
    where
      by : (t : Bool) → starts_with nat_eq text lead ≡ t → IsEnd P text
          (cond t (NoticeParts.unless_nil text (drop_front is_blank (drop (length lead) text))) text)
      by true is =
          let rest = drop (length lead) text in
          let found : behind lead text ≡ Some rest = ap (λ t. cond t (Some rest) None) is in
          end_unless text (drop_front is_blank rest) (end_further P h text rest (drop_front is_blank rest)
          (end_behind P h lead text rest p found) (end_blanks P h rest))
      by false is = end_self P h text

  pub end_sign : (text : List ℕ) → IsEnd P text (NoticeParts.past_sign text)
  end_sign text = by (starts_with nat_eq text (codes "(c)")) (starts_with nat_eq text (codes "(C)"))
      (starts_with nat_eq text copyright_sign)
    where
      by : (t u v : Bool) → IsEnd P text (option_map_or (λ sign. NoticeParts.past sign text)
          (cond t (Some (codes "(c)")) (cond u (Some (codes "(C)")) (cond v (Some copyright_sign) None))) text)
      by true u v = end_past (codes "(c)") text (h.low (codes "(c)") refl)
      by false true v = end_past (codes "(C)") text (h.low (codes "(C)") refl)
      by false false true = end_past copyright_sign text h.sign
      by false false false = end_self P h text

  pub end_value : (text : List ℕ) → IsEnd P text (NoticeParts.value_behind text)
  end_value text =
      let front = drop_front is_blank text in
      let colon = NoticeParts.past (codes ":") front in
      end_further P h text front (NoticeParts.past_sign colon) (end_blanks P h text)
      (end_further P h front colon (NoticeParts.past_sign colon) (end_past (codes ":") front (h.low (codes ":") refl))
      (end_sign colon))

  end_by : (text : List ℕ) → IsEnd P text (NoticeParts.past_by text)
  end_by text = by (NoticeParts.starts_blank (drop 2 text))
    where
      by : (t : Bool) → IsEnd P text (cond t (NoticeParts.past (codes "by") text) text)
      by true = end_past (codes "by") text (h.low (codes "by") refl)
      by false = end_self P h text

  pub end_holder : (rest : List ℕ) → IsEnd P rest (NoticeParts.holder_behind rest)
  end_holder rest =
      let front = drop_front is_blank rest in
      let comma = NoticeParts.past (codes ",") front in
      end_further P h rest front (NoticeParts.past_by comma) (end_blanks P h rest)
      (end_further P h front comma (NoticeParts.past_by comma) (end_past (codes ",") front (h.low (codes ",") refl))
      (end_by comma))

-- ---- the tail

abbrev pub Anything : List ℕ → Type 0
Anything bytes = Unit {0}

pub anything : Holds Anything
anything = record { nil = tt; join = λ a b p q. tt; low = λ bytes e. tt; sign = tt; dash = tt }

end_comma : (text : List ℕ) → IsEnd Anything text (drop_front NoticeParts.is_no_comma text)
unfolding drop_front
end_comma [] = end_self Anything anything []
end_comma (b ∷ text) = by (NoticeParts.is_no_comma b) (end_comma text)
  where
    by : (t : Bool) → IsEnd Anything text (drop_front NoticeParts.is_no_comma text)
        → IsEnd Anything (b ∷ text) (cond t (drop_front NoticeParts.is_no_comma text) (b ∷ text))
    by true e = record { front = b ∷ e.front; joined = ap (λ t. b ∷ t) e.joined; holds = tt }
    by false e = end_self Anything anything (b ∷ text)

comma_first : (text : List ℕ) → (drop_front NoticeParts.is_no_comma text ≡ [])
    ⊎ ((bytes : List ℕ) × (drop_front NoticeParts.is_no_comma text ≡ 44 ∷ bytes))
unfolding drop_front
comma_first [] = inl refl
comma_first (b ∷ text) = by (b == 44) refl (comma_first text)
  where
    by : (t : Bool) → (b == 44) ≡ t → (drop_front NoticeParts.is_no_comma text ≡ [])
        ⊎ ((bytes : List ℕ) × (drop_front NoticeParts.is_no_comma text ≡ 44 ∷ bytes))
        → (cond (not t) (drop_front NoticeParts.is_no_comma text) (b ∷ text) ≡ [])
        ⊎ ((bytes : List ℕ) × (cond (not t) (drop_front NoticeParts.is_no_comma text) (b ∷ text) ≡ 44 ∷ bytes))
    by true is again = inr (text, ap (λ (c : ℕ). c ∷ text) (eqb-true b 44 is))
    by false is again = again

-- it is an end of the text, and nothing or a comma and more
pub record TailRead (text tail : List ℕ) : Type 0 where
  pub cut : IsEnd Anything text tail
  pub first : (tail ≡ []) ⊎ ((bytes : List ℕ) × (tail ≡ 44 ∷ bytes))

pub end_nil : (text : List ℕ) → IsEnd Anything text []
end_nil text = record { front = text; joined = sym (append-nil text); holds = tt }

end_searched : (text rest : List ℕ) → NoticeParts.next_searched text ≡ Some rest → IsEnd Anything text rest
end_searched [] rest e = absurd (not_some rest e)
end_searched (comma ∷ bytes) rest e = by (run_front front) refl e
  where
    front : List ℕ
    front = drop_front is_blank bytes

    first : IsEnd Anything (comma ∷ bytes) bytes
    first = record { front = comma ∷ []; joined = refl; holds = tt }

    by : (o : Option RunText) → run_front front ≡ o → option_map_or (λ run. NoticeParts.unless_blank run.rest) o
        (Some bytes) ≡ Some rest
        → IsEnd Anything (comma ∷ bytes) rest
    by None is e' = let same : bytes ≡ rest = cc e' in subst (IsEnd Anything (comma ∷ bytes)) same first
    by (Some run) is e' =
        let more = blank (all_blank run.rest) run.rest e' in
        subst (IsEnd Anything (comma ∷ bytes)) more
        (end_further Anything anything (comma ∷ bytes) bytes run.rest first
        (end_further Anything anything bytes front run.rest (end_blanks Anything anything bytes)
        (run_end Anything anything front run (run_read Anything anything front run is))))
      where
        blank : (t : Bool) (r : List ℕ) → cond t None (Some r) ≡ Some rest → r ≡ rest
        blank true r e'' = absurd (not_some rest e'')
        blank false r e'' = cc e''

pub tail_read : (n : ℕ) (text : List ℕ) → TailRead text (NoticeParts.years_tail n text)
unfolding NoticeParts.years_tail
tail_read zero text = record { cut = end_nil text; first = inl refl }
tail_read (suc n) text = by (NoticeParts.next_searched tail) refl (λ rest. tail_read n rest)
  where
    tail : List ℕ
    tail = drop_front NoticeParts.is_no_comma text

    by : (o : Option (List ℕ)) → NoticeParts.next_searched tail ≡ o
        → ((rest : List ℕ) → TailRead rest (NoticeParts.years_tail n rest))
        → TailRead text (option_map_or (NoticeParts.years_tail n) o tail)
    by None is again = record { cut = end_comma text; first = comma_first text }
    by (Some rest) is again =
        let inner = again rest in record {
          cut = end_further Anything anything text tail (NoticeParts.years_tail n rest) (end_comma text)
              (end_further Anything anything tail rest (NoticeParts.years_tail n rest)
              (end_searched tail rest is) inner.cut);
          first = inner.first;
        }
