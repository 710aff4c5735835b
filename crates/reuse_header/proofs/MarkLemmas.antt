-- What good marks are to the reader of blocks: what is written behind them is read back.
use Rattle.std.proofs.Common.{◌≡◌, ℕ, Bool, true, false, cond, nat_eq, List, [], ◌∷◌, ◌++◌, length, take, drop}
use Rattle.std.proofs.Common.{append_assoc, append-nil, Option, None, Some, refl, sym, ap, subst, ◌∙◌, inl, inr, arith}
use Rattle.std.specs.Prelude.{◌&&◌, ◌||◌, ◌==◌, unwrap_or, option_and_then}
use Rattle.std.specs.List.{starts_with, prefix_len, list_all, list_any}
use Rattle.std.specs.Option.{option_map_or}
use Rattle.std.specs.Char.{is_ascii_punctuation}
use Rattle.std.proofs.Math.Seq.{drop-append_seam}
use Rattle.std.proofs.lemmas.Bool.{false≢true, and_parts, eqb-true, eq-eqb, cases_Bool as truth}
use Rattle.std.proofs.lemmas.Bool.Decides.{nat_tests}
use Rattle.std.proofs.lemmas.List.{take-append-drop}
use Rattle.std.proofs.lemmas.List.Folds.{list_all-append}
use Rattle.reuse_text.specs.Text.{ends_in_return}
use Rattle.reuse_notice.specs.Tags.{is_blank, is_filler, drop_front, drop_end, tag_in, tag_of}
use Rattle.reuse_notice.specs.Contents.{is_blank_content}
use Rattle.reuse_notice.proofs.BlankLemmas.{drop_end-all, dropped_end, drop_front-no}
use Rattle.reuse_notice.proofs.SoundLemmas.{IsSound, is_low, is_nul, sound_low}
use Rattle.reuse_style.specs.declared.style.Style.{Style}
use Rattle.reuse_style.specs.Marks.{LineForm, BlockForm, is_plain, is_filling}
use Rattle.reuse_style.specs.Styles.{line_comment_of, block_comment_of, punctuation_of}
use Rattle.reuse_style.proofs.GoodLemmas.{IsMark, Follows, IsGoodLine, IsGoodBlock, IsGoodMiddle, AreGoodMiddle}
use Rattle.reuse_style.proofs.GoodLemmas.{AreFormsApart, forms_apart}
use Rattle.reuse_style.proofs.GoodLemmas.{punctuation_is}
use Rattle.reuse_header.specs.Ends.{is_return, is_indent}
use Rattle.reuse_header.specs.Marks.{LineMarks}
use Rattle.reuse_header.specs.Blocks.{without_returns, without_middle, multi_count, multi_lines, marked_lines}
use Rattle.reuse_header.specs.Writing.{separator_of}
use Rattle.reuse_header.proofs.FeedLemmas.{Feedless, is_feed}
use Rattle.reuse_header.proofs.SayableLemmas.{end_behind}

-- ---- tests of bytes

pub or_true : (a b : Bool) → b ≡ true → (a || b) ≡ true
or_true true b e = refl
or_true false b e = e

pub first_or : (a b : Bool) → a ≡ true → (a || b) ≡ true
first_or true b e = refl
first_or false b e = absurd (false≢true e)

pub all-weaker : (p q : ℕ → Bool) → ((b : ℕ) → p b ≡ true → q b ≡ true) → (xs : List ℕ) → list_all p xs ≡ true
    → list_all q xs ≡ true
all-weaker p q w [] h = refl
all-weaker p q w (x ∷ xs) h =
    let both = and_parts (p x) (list_all p xs) h in
    ap (λ (t : Bool). t && list_all q xs) (w x both.0) ∙ all-weaker p q w xs both.1

module _ (test : ℕ → Bool) where
  pub drop_front-all : (xs ys : List ℕ) → list_all test xs ≡ true → drop_front test (xs ++ ys) ≡ drop_front test ys
  unfolding drop_front
  drop_front-all [] ys p = refl
  drop_front-all (x ∷ xs) ys p = elim (truth (test x)) [
    | inl e ↦ (let h = rw e at p in rw e (drop_front-all xs ys h))
    | inr e ↦ (let h = rw e at p in absurd (false≢true h))
  ]

  pub drop_front-every : (xs : List ℕ) → list_all test xs ≡ true → drop_front test xs ≡ []
  unfolding drop_front
  drop_front-every [] p = refl
  drop_front-every (x ∷ xs) p = elim (truth (test x)) [
    | inl e ↦ (let h = rw e at p in rw e (drop_front-every xs h))
    | inr e ↦ (let h = rw e at p in absurd (false≢true h))
  ]

  drop_end-every : (xs : List ℕ) → list_all test xs ≡ true → drop_end test xs ≡ []
  unfolding drop_end
  drop_end-every [] p = refl
  drop_end-every (x ∷ xs) p = rw p refl

  drop_end-one : (x : ℕ) → test x ≡ false → drop_end test (x ∷ []) ≡ x ∷ []
  unfolding drop_end
  drop_end-one x e = ap (λ (t : Bool). cond (t && true) [] (x ∷ [])) e

  -- what all bytes are, all that are left are
  pub all-front : (n : ℕ) (xs : List ℕ) → list_all test xs ≡ true → list_all test (take n xs) ≡ true
  all-front n xs e = (and_parts (list_all test (take n xs)) (list_all test (drop n xs))
      (sym (list_all-append test (take n xs) (drop n xs)) ∙ ap (list_all test) (take-append-drop n xs) ∙ e)).0

  pub all-back : (n : ℕ) (xs : List ℕ) → list_all test xs ≡ true → list_all test (drop n xs) ≡ true
  all-back n xs e = (and_parts (list_all test (take n xs)) (list_all test (drop n xs))
      (sym (list_all-append test (take n xs) (drop n xs)) ∙ ap (list_all test) (take-append-drop n xs) ∙ e)).1

  pub all-ended : (dropped : ℕ → Bool) (xs : List ℕ) → list_all test xs ≡ true
      → list_all test (drop_end dropped xs) ≡ true
  all-ended dropped xs e =
      let d = dropped_end dropped xs in
      (and_parts (list_all test (drop_end dropped xs)) (list_all test d.0)
      (sym (list_all-append test (drop_end dropped xs) d.0) ∙ ap (list_all test) (sym d.1) ∙ e)).0

  -- a byte among others that all pass
  pub among-all : (xs : List ℕ) (b : ℕ) → list_all test xs ≡ true → list_any (λ x. x == b) xs ≡ true → test b ≡ true
  among-all [] b e h = absurd (false≢true h)
  among-all (x ∷ xs) b e h =
      let both = and_parts (test x) (list_all test xs) e in
      elim (truth (x == b)) [
        | inl is ↦ ap test (sym (eqb-true x b is)) ∙ both.0
        | inr isnt ↦ among-all xs b both.1 (ap (λ (t : Bool). t || list_any (λ y. y == b) xs) (sym isnt) ∙ h)
      ]

-- ---- plain bytes

-- a byte that isn't plain is another one than a plain byte
apart_from : (b other : ℕ) → is_plain b ≡ true → is_plain other ≡ false → (b == other) ≡ false
apart_from b other plain isnt = elim (truth (b == other)) [
  | inl is ↦ absurd (false≢true (sym isnt ∙ ap is_plain (sym (eqb-true b other is)) ∙ plain))
  | inr differs ↦ differs
]

sign_is_plain : (b : ℕ) → is_ascii_punctuation b ≡ true → is_plain b ≡ true
sign_is_plain b e = grind (arith, nat_tests)

pub plain_is_low : (b : ℕ) → is_plain b ≡ true → is_low b ≡ true
plain_is_low b e = grind (arith, nat_tests)

filling_is_plain : (style : Style) (b : ℕ) → is_filling (punctuation_of style) b ≡ true → is_plain b ≡ true
filling_is_plain style b e = elim (truth (b == 32)) [
  | inl is ↦ ap is_plain (eqb-true b 32 is)
  | inr isnt ↦
      let among = ap (λ (t : Bool). t || list_any (λ sign. sign == b) (punctuation_of style)) (sym isnt) ∙ e in
      sign_is_plain b (among-all is_ascii_punctuation (punctuation_of style) b (punctuation_is style) among)
]

pub low_punctuation : (style : Style) → list_all is_low (punctuation_of style) ≡ true
low_punctuation style = all-weaker is_ascii_punctuation is_low (λ b e. plain_is_low b (sign_is_plain b e))
    (punctuation_of style) (punctuation_is style)

pub plain_sound : (bytes : List ℕ) → list_all is_plain bytes ≡ true → IsSound bytes
plain_sound bytes e = sound_low bytes (all-weaker is_plain is_low (λ b p. plain_is_low b p) bytes e) (no_nul bytes e)
  where
    no_nul : (xs : List ℕ) → list_all is_plain xs ≡ true → list_any is_nul xs ≡ false
    no_nul [] h = refl
    no_nul (x ∷ xs) h =
        let both = and_parts (is_plain x) (list_all is_plain xs) h in
        ap (λ (t : Bool). t || list_any is_nul xs) (apart_from x 0 both.0 refl) ∙ no_nul xs both.1

pub plain_feedless : (bytes : List ℕ) → list_all is_plain bytes ≡ true → Feedless bytes
plain_feedless [] h = refl
plain_feedless (x ∷ xs) h =
    let both = and_parts (is_plain x) (list_all is_plain xs) h in
    ap (λ (t : Bool). t || list_any is_feed xs) (apart_from x 10 both.0 refl) ∙ plain_feedless xs both.1

pub plain_ends : (bytes : List ℕ) → list_all is_plain bytes ≡ true → ends_in_return bytes ≡ false
plain_ends [] h = refl
plain_ends (x ∷ []) h = apart_from x 13 (and_parts (is_plain x) true h).0 refl
plain_ends (x ∷ y ∷ xs) h = plain_ends (y ∷ xs) (and_parts (is_plain x) (list_all is_plain (y ∷ xs)) h).1

-- a lead is plain where what it follows is
pub lead_plain : (style : Style) (mark lead : List ℕ) → list_all is_plain mark ≡ true
    → Follows (punctuation_of style) mark lead → list_all is_plain lead ≡ true
lead_plain style mark lead e f =
    let rest =
    all-weaker (is_filling (punctuation_of style)) is_plain (λ b h. filling_is_plain style b h) f.rest f.filled in
    ap (list_all is_plain) f.is ∙ list_all-append is_plain mark f.rest
    ∙ ap (λ (t : Bool). t && list_all is_plain f.rest) e ∙ rest

-- ---- fillings, and the ends of marks

filling_is_filler : (punct : List ℕ) (b : ℕ) → is_filling punct b ≡ true → is_filler punct b ≡ true
filling_is_filler punct b e = elim (truth (b == 32)) [
  | inl is ↦ subst (λ (k : ℕ). is_filler punct k ≡ true) (sym (eqb-true b 32 is)) refl
  | inr isnt ↦ or_true (is_blank b) (list_any (λ p. nat_eq p b) punct)
      (ap (λ (t : Bool). t || list_any (λ p. nat_eq p b) punct) (sym isnt) ∙ e)
]

pub fillings_are_fillers : (punct xs : List ℕ) → list_all (is_filling punct) xs ≡ true
    → list_all (is_filler punct) xs ≡ true
fillings_are_fillers punct xs e =
    all-weaker (is_filling punct) (is_filler punct) (λ b h. filling_is_filler punct b h) xs e

last_unblank : (mark : List ℕ) (m : IsMark mark) → is_blank m.last ≡ false
last_unblank mark m =
    let all : (list_all is_plain m.front && (is_plain m.last && true)) ≡ true =
    sym (list_all-append is_plain m.front (m.last ∷ [])) ∙ ap (list_all is_plain) (sym m.is) ∙ m.plain in
    let plain =
    (and_parts (is_plain m.last) true (and_parts (list_all is_plain m.front) (is_plain m.last && true) all).1).0 in
    ap (λ (t : Bool). t || m.last == 9 || m.last == 13) m.ends
    ∙ ap (λ (t : Bool). t || m.last == 13) (apart_from m.last 9 plain refl) ∙ apart_from m.last 13 plain refl

-- behind a mark, blank bytes are dropped to the mark's end
pub whole_mark : (mark rest : List ℕ) → IsMark mark → drop_end is_blank (mark ++ rest) ≡ mark ++ drop_end is_blank rest
whole_mark mark rest m = elim (truth (list_all is_blank rest)) [
  | inl all ↦ drop_end-all is_blank mark rest all ∙ ended ∙ sym (append-nil mark)
      ∙ ap (λ (xs : List ℕ). mark ++ xs) (sym (drop_end-every is_blank rest all))
  | inr some ↦ end_behind is_blank mark rest some
]
  where
    unblank : (is_blank m.last && true) ≡ false
    unblank = ap (λ (t : Bool). t && true) (last_unblank mark m)

    ended : drop_end is_blank mark ≡ mark
    ended =
        ap (drop_end is_blank) m.is ∙ end_behind is_blank m.front (m.last ∷ []) unblank
        ∙ ap (λ (xs : List ℕ). m.front ++ xs) (drop_end-one is_blank m.last (last_unblank mark m)) ∙ sym m.is

-- ---- the middle

indent_middle : (middle text : List ℕ) (m : IsGoodMiddle middle) → drop_front is_indent (middle ++ text) ≡ m.sign ∷ text
indent_middle middle text m =
    let spaces = all-weaker (λ b. b == 32) is_indent (λ b e. first_or (b == 32) (b == 9) e) m.spaces m.blank in
    let plain = sign_is_plain m.sign m.signed in
    let unspaced : (m.sign == 32) ≡ false = elim (truth (m.sign == 32)) [
      | inl is ↦ absurd (false≢true (ap is_ascii_punctuation (sym (eqb-true m.sign 32 is)) ∙ m.signed))
      | inr isnt ↦ isnt
    ] in
    let stays : is_indent m.sign ≡ false =
    ap (λ (t : Bool). t || m.sign == 9) unspaced ∙ apart_from m.sign 9 plain refl in
    ap (drop_front is_indent) (ap (λ (xs : List ℕ). xs ++ text) m.is ∙ append_assoc m.spaces (m.sign ∷ []) text)
    ∙ drop_front-all is_indent m.spaces (m.sign ∷ text) spaces ∙ drop_front-no is_indent m.sign text stays

pub without_middle-behind : (middle text : List ℕ) → IsGoodMiddle middle
    → without_middle (Some middle) (middle ++ text) ≡ text
unfolding without_middle
without_middle-behind middle text m =
    let picked =
    λ (rest sign : List ℕ). cond (starts_with nat_eq rest sign) (drop (length sign) rest) (middle ++ text) in
    let alone : drop_front is_indent middle ≡ m.sign ∷ [] =
    ap (drop_front is_indent) (sym (append-nil middle)) ∙ indent_middle middle [] m in
    ap (λ (rest : List ℕ). picked rest (drop_front is_indent middle)) (indent_middle middle text m)
    ∙ ap (λ (sign : List ℕ). picked (m.sign ∷ text) sign) alone
    ∙ ap (λ (t : Bool). cond (t && true) text (middle ++ text)) (eq-eqb m.sign m.sign refl)

-- ---- reading behind a mark

-- what a reading of lines makes of those that are written by some marks: of a tag, of a free content, and of
-- a separator, where `punct` are the punctuation
pub record IsReader (punct : List ℕ) (inner : List ℕ → List ℕ) (marks : LineMarks) : Type 0 where
  pub rest : List ℕ
  pub rest_blank : list_all (is_filler punct) rest ≡ true
  pub lead : (text : List ℕ) → inner (marks.lead ++ text) ≡ without_returns (rest ++ text)
  pub mark : (text : List ℕ) → inner (marks.mark ++ text) ≡ without_returns text
  pub separator_blank : is_blank_content punct (inner (separator_of marks)) ≡ true
  pub separator_tag : tag_of punct (inner (separator_of marks)) ≡ None

no_tag : (punct xs : List ℕ) → list_all (is_filler punct) xs ≡ true → tag_of punct xs ≡ None
unfolding drop_end
no_tag punct xs e = ap (λ (t : List ℕ). tag_in (drop_end is_blank t)) (drop_front-every (is_filler punct) xs e)

-- where the mark is dropped from what is written behind it, and blank bytes are dropped to the mark's end
pub reads_behind : (punct mark lead : List ℕ) (strip : List ℕ → List ℕ) (first last closer : Option (List ℕ))
    → ((text : List ℕ) → strip (mark ++ text) ≡ text)
    → ((rest : List ℕ) → drop_end is_blank (mark ++ rest) ≡ mark ++ drop_end is_blank rest) → Follows punct mark lead
    → IsReader punct (λ line. without_returns (strip line))
    (record { lead = lead; mark = mark; first = first; last = last; closer = closer })
reads_behind punct mark lead strip first last closer drops whole f =
    let fillers = fillings_are_fillers punct f.rest f.filled in
    let separator : without_returns (strip (drop_end is_blank lead)) ≡ without_returns (drop_end is_blank f.rest) =
    ap (λ (l : List ℕ). without_returns (strip (drop_end is_blank l))) f.is
    ∙ ap (λ (l : List ℕ). without_returns (strip l)) (whole f.rest)
    ∙ ap without_returns (drops (drop_end is_blank f.rest)) in
    let blank : list_all (is_filler punct) (without_returns (drop_end is_blank f.rest)) ≡ true =
    all-ended (is_filler punct) is_return (drop_end is_blank f.rest)
    (all-ended (is_filler punct) is_blank f.rest fillers) in
    record {
      rest = f.rest;
      rest_blank = fillers;
      lead = λ text. ap (λ (l : List ℕ). without_returns (strip (l ++ text))) f.is
          ∙ ap (λ (l : List ℕ). without_returns (strip l)) (append_assoc mark f.rest text)
          ∙ ap without_returns (drops (f.rest ++ text));
      mark = λ text. ap without_returns (drops text);
      separator_blank = ap (is_blank_content punct) separator ∙ blank;
      separator_tag = ap (tag_of punct) separator ∙ no_tag punct (without_returns (drop_end is_blank f.rest)) blank;
    }

pub reads_line : (punct : List ℕ) (form : LineForm) (first last closer : Option (List ℕ)) → IsGoodLine punct form
    → IsReader punct (λ line. without_returns (drop (length form.marker) line))
    (record { lead = form.lead; mark = form.marker; first = first; last = last; closer = closer })
reads_line punct form first last closer good =
    reads_behind punct form.marker form.lead (λ line. drop (length form.marker) line) first last closer
    (λ text. drop-append_seam form.marker text)
    (λ rest. whole_mark form.marker rest good.marker) good.lead

reads_middle : (punct lead : List ℕ) (middle : Option (List ℕ)) (first last closer : Option (List ℕ))
    → AreGoodMiddle middle → Follows punct (unwrap_or middle []) lead
    → IsReader punct (λ line. without_returns (without_middle middle line))
    (record { lead = lead; mark = unwrap_or middle []; first = first; last = last; closer = closer })
unfolding without_middle
reads_middle punct lead None first last closer good f =
    reads_behind punct [] lead (λ line. line) first last closer (λ text. refl) (λ rest. refl) f
reads_middle punct lead (Some middle) first last closer good f =
    reads_behind punct middle lead (λ line. without_middle (Some middle) line) first last closer
    (λ text. without_middle-behind middle text good.1)
    (λ rest. whole_mark middle rest good.0) f

pub reads_block : (punct : List ℕ) (form : BlockForm) (first last closer : Option (List ℕ)) → IsGoodBlock punct form
    → IsReader punct (λ line. without_returns (without_middle form.middle line))
    (record { lead = form.lead; mark = unwrap_or form.middle []; first = first; last = last; closer = closer })
reads_block punct form first last closer good =
    reads_middle punct form.lead form.middle first last closer good.middle good.lead

-- ---- what begins with a mark

-- where neither of two texts begins with the other, no more does what begins with the one
apart-append : (a b text : List ℕ) → starts_with nat_eq a b ≡ false → starts_with nat_eq b a ≡ false
    → starts_with nat_eq (a ++ text) b ≡ false
apart-append a [] text e f = absurd (false≢true (sym e))
apart-append [] (y ∷ ys) text e f = absurd (false≢true (sym f))
apart-append (x ∷ xs) (y ∷ ys) text e f = elim (truth (nat_eq y x)) [
  | inl is ↦
      let back : nat_eq x y ≡ true = eq-eqb x y (sym (eqb-true y x is)) in
      let e' = ap (λ (t : Bool). t && starts_with nat_eq xs ys) (sym is) ∙ e in
      let f' = ap (λ (t : Bool). t && starts_with nat_eq ys xs) (sym back) ∙ f in
      ap (λ (t : Bool). t && starts_with nat_eq (xs ++ text) ys) is ∙ apart-append xs ys text e' f'
  | inr isnt ↦ ap (λ (t : Bool). t && starts_with nat_eq (xs ++ text) ys) isnt
]

-- a line that begins with the marker begins no block over several lines, and the opener no run
pub no_multi_behind : (style : Style) (form : LineForm) (line : List ℕ) (lines : List (List ℕ))
    → line_comment_of style ≡ Some form → multi_lines style ((form.marker ++ line) ∷ lines) ≡ None
unfolding multi_lines multi_count
no_multi_behind style form line lines is = by (block_comment_of style)
    (subst (λ (o : Option LineForm). AreFormsApart o (block_comment_of style)) is (forms_apart style))
  where
    by : (o : Option BlockForm) → AreFormsApart (Some form) o
        → option_and_then (λ block. multi_count block ((form.marker ++ line) ∷ lines)) o ≡ None
    by None apart = refl
    by (Some block) apart = let no = apart-append form.marker block.opener line apart.marker apart.opener in rw no refl

pub no_run_behind : (style : Style) (form : BlockForm) (lines : List (List ℕ)) → block_comment_of style ≡ Some form
    → marked_lines style (form.opener ∷ lines) ≡ 0
unfolding marked_lines
no_run_behind style form lines is = by (line_comment_of style)
    (subst (λ (o : Option BlockForm). AreFormsApart (line_comment_of style) o) is (forms_apart style))
  where
    by : (o : Option LineForm) → AreFormsApart o (Some form) → option_map_or
        (λ line. prefix_len (λ content. starts_with nat_eq content line.marker) (form.opener ∷ lines)) o 0 ≡ 0
    by None apart = refl
    by (Some line) apart = let no = apart.opener in rw no refl
