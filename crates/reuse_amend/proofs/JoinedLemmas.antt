-- The parts of a notice, put together, are its text; and its holder is more than blank bytes.
use Rattle.std.proofs.Common.{◌≡◌, ℕ, nat_eq, Bool, true, false, cond, List, [], ◌∷◌, ◌++◌, length}
use Rattle.std.proofs.Common.{drop, Option, Some, None, refl, sym, ap, subst, ◌∙◌}
use Rattle.std.proofs.Common.{append_assoc, inl, inr}
use Rattle.std.specs.Prelude.{not, ◌&&◌, ◌||◌, codes, unwrap_or}
use Rattle.std.specs.List.{starts_with}
use Rattle.std.specs.Option.{option_map_or, option_and_then}
use Rattle.std.proofs.lemmas.Bool.{false≢true, and_parts, cases_Bool as truth}
use Rattle.std.proofs.lemmas.Bool.Decides.{Decides-eqb}
use Rattle.std.proofs.lemmas.Slice.Eq.{starts_is}
use Rattle.std.proofs.lemmas.List.{append_cancel_right}
use Rattle.std.proofs.Math.Seq.{drop-append_seam}
use Rattle.reuse_notice.specs.declared.prefixes.Prefix.{Prefix}
use Rattle.reuse_notice.specs.Prefixes.{prefix_text, longest_first}
use Rattle.reuse_notice.specs.Tags.{is_blank, all_blank, drop_front, drop_end, leaves_value, needs_no_space}
use Rattle.reuse_notice.proofs.BlankLemmas.{dropped_end, drop_end-twice, all-drop_end}
use Rattle.reuse_notice.proofs.PrefixLemmas.{found_passes}
use Rattle.reuse_amend.proofs.ShapeLemmas.{IsWhole}
use Rattle.reuse_amend.specs.YearSpans.{upto, behind, RunText, run_front}
use Rattle.reuse_amend.specs.NoticeParts.{Parts, parts_text, past, starts_blank, has_colon}
use Rattle.reuse_amend.specs.NoticeParts.{is_begun_by, value_behind, holder_behind, behind_comma, leaves_holder}
use Rattle.reuse_amend.specs.NoticeParts.{if_leaves_holder, tail_of, cut_years_first, cut_holder_first, parts_from}
use Rattle.reuse_amend.specs.NoticeParts.{parts_behind, wide_prefix_of, parts_of}
use Rattle.reuse_amend.proofs.ChoiceLemmas.{not_some, was_some, then_some, if_some}
use Rattle.reuse_amend.proofs.EndLemmas.{Holds, IsEnd, upto_is, upto_joined, end_further, end_blanks}
use Rattle.reuse_amend.proofs.EndLemmas.{run_read, run_end}
use Rattle.reuse_amend.proofs.PartLemmas.{Anything, anything, end_value, end_holder, TailRead, tail_read, is_full}
use Rattle.reuse_amend.proofs.PartLemmas.{full_kept, full_some, some_full, full_past, full_sign, full_by}

-- ---- what is left behind what is dropped at an end

pub end_rest : (xs : List ℕ) → drop_end is_blank xs ++ drop (length (drop_end is_blank xs)) xs ≡ xs
end_rest xs =
    let d = dropped_end is_blank xs in
    ap (λ ys. drop_end is_blank xs ++ drop (length (drop_end is_blank xs)) ys) d.1
    ∙ ap (λ ys. drop_end is_blank xs ++ ys) (drop-append_seam (drop_end is_blank xs) d.0) ∙ sym d.1

-- what is dropped is blank
pub rest_blank : (xs : List ℕ) → all_blank (drop (length (drop_end is_blank xs)) xs) ≡ true
rest_blank xs =
    let d = dropped_end is_blank xs in
    ap (λ ys. all_blank (drop (length (drop_end is_blank xs)) ys)) d.1
    ∙ ap all_blank (drop-append_seam (drop_end is_blank xs) d.0) ∙ d.2

pub five : (a b c d e : List ℕ) → a ++ b ++ c ++ d ++ e ≡ a ++ (b ++ (c ++ (d ++ e)))
five a b c d e =
    append_assoc (a ++ b ++ c) d e ∙ append_assoc (a ++ b) c (d ++ e) ∙ append_assoc a b (c ++ (d ++ e))

-- ---- the years first

pub years_joined : (text : List ℕ) (prefix : Prefix) (value : List ℕ) (run : RunText) → IsEnd Anything text value
    → IsEnd Anything value run.rest
    → parts_text (cut_years_first text prefix value run) ≡ text
years_joined text prefix value run cut rest =
    let named = holder_behind run.rest in
    let holder = drop_end is_blank named in
    let a = upto text value in
    let b = upto value run.rest in
    let c = upto run.rest named in
    five a b c holder (drop (length holder) named)
    ∙ ap (λ x. a ++ (b ++ (c ++ x))) (end_rest named)
    ∙ ap (λ x. a ++ (b ++ x)) (upto_joined Anything run.rest named (end_holder Anything anything run.rest))
    ∙ ap (λ x. a ++ x) (upto_joined Anything value run.rest rest)
    ∙ upto_joined Anything text value cut

-- ---- the holder first

-- what stands between the holder and the years: blank bytes, and what stands in front of the years in the tail
pub between_split : (named tail dated : List ℕ) → IsEnd Anything named tail → IsEnd Anything tail dated
    → (blanks : List ℕ) × (all_blank blanks ≡ true) × (drop (length (drop_end is_blank (upto named tail)))
    (upto named dated) ≡ blanks ++ upto tail dated)
    × (upto named dated ≡ drop_end is_blank (upto named tail) ++ (blanks ++ upto tail dated))
between_split named tail dated cut more =
    let holder = drop_end is_blank (upto named tail) in
    let d = dropped_end is_blank (upto named tail) in
    let whole : upto named dated ≡ holder ++ (d.0 ++ upto tail dated) =
    both ∙ ap (λ x. x ++ upto tail dated) d.1 ∙ append_assoc holder d.0 (upto tail dated) in
    (d.0, d.2, ap (drop (length holder)) whole ∙ drop-append_seam holder (d.0 ++ upto tail dated), whole)
  where
    both : upto named dated ≡ upto named tail ++ upto tail dated
    both =
        let joined : (upto named tail ++ upto tail dated) ++ dated ≡ named =
        append_assoc (upto named tail) (upto tail dated) dated
        ∙ ap (λ x. upto named tail ++ x) (upto_joined Anything tail dated more)
        ∙ upto_joined Anything named tail cut in
        append_cancel_right (upto named dated) (upto named tail ++ upto tail dated) dated
        (upto_joined Anything named dated (end_further Anything anything named tail dated cut more) ∙ sym joined)

between_joined : (named tail dated : List ℕ) → IsEnd Anything named tail → IsEnd Anything tail dated
    → drop_end is_blank (upto named tail) ++ drop (length (drop_end is_blank (upto named tail))) (upto named dated)
    ≡ upto named dated
between_joined named tail dated cut more =
    let split = between_split named tail dated cut more in
    ap (λ x. drop_end is_blank (upto named tail) ++ x) split.2 ∙ sym split.3

pub tail_dated : (named tail : List ℕ) → TailRead named tail → IsEnd Anything tail (drop_front is_blank (drop 1 tail))
tail_dated named tail read = elim read.first [
  | inl none ↦ subst (λ t. IsEnd Anything t (drop_front is_blank (drop 1 t))) (sym none)
      (end_blanks Anything anything [])
  | inr some ↦ subst (λ t. IsEnd Anything t (drop_front is_blank (drop 1 t))) (sym some.1)
      (end_further Anything anything (44 ∷ some.0) some.0 (drop_front is_blank some.0)
      (record { front = 44 ∷ []; joined = refl; holds = tt }) (end_blanks Anything anything some.0))
]

pub holder_joined : (text : List ℕ) (prefix : Prefix) (named tail : List ℕ) → IsEnd Anything text named
    → TailRead named tail
    → parts_text (cut_holder_first text prefix named tail) ≡ text
holder_joined text prefix named tail cut read =
    let holder = drop_end is_blank (upto named tail) in
    let dated = drop_front is_blank (drop 1 tail) in
    let years = drop_end is_blank dated in
    let more = tail_dated named tail read in
    let a = upto text named in
    let c = drop (length holder) (upto named dated) in
    five a holder c years (drop (length years) dated)
    ∙ ap (λ x. a ++ (holder ++ (c ++ x))) (end_rest dated)
    ∙ ap (λ x. a ++ x) (sym (append_assoc holder c dated))
    ∙ ap (λ x. a ++ (x ++ dated)) (between_joined named tail dated read.cut more)
    ∙ ap (λ x. a ++ x) (upto_joined Anything named dated (end_further Anything anything named tail dated read.cut more))
    ∙ upto_joined Anything text named cut

-- ---- a notice

-- how the parts of a text are read
pub record PartsRead (text : List ℕ) (p : Parts) : Type 0 where
  pub prefix : Prefix
  pub found : wide_prefix_of text ≡ Some prefix
  pub same : parts_behind text prefix ≡ p

pub parts_read : (text : List ℕ) (p : Parts) → parts_of text ≡ Some p → PartsRead text p
parts_read text p e =
    let was = was_some (parts_behind text) (wide_prefix_of text) p e in
    record { prefix = was.0; found = was.1; same = was.2 }

-- the two ways in which a value is cut
pub record YearsFirst (value : List ℕ) (run : RunText) : Type 0 where
  pub found : run_front value ≡ Some run
  pub leaves : leaves_holder run.rest ≡ true

pub leading : (value : List ℕ) (run : RunText) → option_and_then if_leaves_holder (run_front value) ≡ Some run
    → YearsFirst value run
leading value run e =
    let is = then_some if_leaves_holder (run_front value) run e in
    let t = if_some (leaves_holder is.0.rest) (Some is.0) run is.2 in
    let same : is.0 ≡ run = cc t.1 in
    record {
      found = is.1 ∙ ap (λ (r : RunText). Some r) same;
      leaves = ap (λ (r : RunText). leaves_holder r.rest)
          (sym same) ∙ t.0;
    }

tail_in : (named : List ℕ) → TailRead named (tail_of named)
tail_in [] = tail_read 0 []
tail_in (b ∷ named) =
    let inner = tail_read (length (b ∷ named)) named in record {
      cut = record { front = b ∷ inner.cut.front; joined = ap (λ t. b ∷ t) inner.cut.joined; holds = tt };
      first = inner.first;
    }

pub tail_found : (named : List ℕ) → TailRead named (tail_of named)
tail_found = tail_in

value_joined : (text : List ℕ) (prefix : Prefix) (value : List ℕ) → IsEnd Anything text value
    → parts_text (parts_from text prefix value) ≡ text
value_joined text prefix value cut = by (option_and_then if_leaves_holder (run_front value)) refl
  where
    named : List ℕ
    named = holder_behind value

    by : (o : Option RunText) → option_and_then if_leaves_holder (run_front value) ≡ o
        → parts_text (option_map_or (cut_years_first text prefix value) o
        (cut_holder_first text prefix named (tail_of named))) ≡ text
    by None e =
        holder_joined text prefix named (tail_of named)
        (end_further Anything anything text value named cut (end_holder Anything anything value)) (tail_found named)
    by (Some run) e =
        let first = leading value run e in
        years_joined text prefix value run cut (run_end Anything anything value run
        (run_read Anything anything value run first.found))

-- a prefix with which a text begins, and what follows it
begun : (s n x m y : Bool) → ((s && n && x) || (s && m && y)) ≡ true → s ≡ true
begun true n x m y e = refl
begun false n x m y e = absurd (false≢true e)

pub prefix_begins : (text : List ℕ) (prefix : Prefix) → wide_prefix_of text ≡ Some prefix
    → starts_with nat_eq text (prefix_text prefix) ≡ true
prefix_begins text prefix e =
    let rest = drop (length (prefix_text prefix)) text in
    begun (starts_with nat_eq text (prefix_text prefix)) (needs_no_space prefix || starts_with nat_eq rest (32 ∷ []))
    (not (all_blank rest))
    (starts_with nat_eq rest (codes ":")) (not (all_blank (drop 1 rest)))
    (found_passes (is_begun_by text) longest_first prefix e)

abbrev pub prefix_cut : (P : List ℕ → Type 0) (text : List ℕ) (prefix : Prefix) → P (prefix_text prefix)
    → wide_prefix_of text ≡ Some prefix
    → IsEnd P text (drop (length (prefix_text prefix)) text)
prefix_cut P text prefix p e =
    record {
      front = prefix_text prefix;
      joined = (starts_is Decides-eqb text (prefix_text prefix) _ refl).0
          (prefix_begins text prefix e);
      holds = p;
    }

-- where years or the holder begin
pub value_cut : (P : List ℕ → Type 0) → Holds P → (text : List ℕ) (prefix : Prefix) → P (prefix_text prefix)
    → wide_prefix_of text ≡ Some prefix
    → IsEnd P text (value_behind (drop (length (prefix_text prefix)) text))
value_cut P h text prefix p e =
    let rest = drop (length (prefix_text prefix)) text in
    end_further P h text rest (value_behind rest) (prefix_cut P text prefix p e) (end_value P h rest)

-- the parts of a notice are its text
pub parts_joined : (text : List ℕ) (p : Parts) → parts_of text ≡ Some p → parts_text p ≡ text
parts_joined text p e =
    let read = parts_read text p e in
    ap parts_text (sym read.same)
    ∙ value_joined text read.prefix (value_behind (drop (length (prefix_text read.prefix)) text))
    (value_cut Anything anything text read.prefix tt read.found)

-- ---- the value is more than blank bytes

blank_behind : (n x : Bool) (xs : List ℕ) → (n && not x) ≡ true → x ≡ false
blank_behind true false xs e = refl
blank_behind true true xs e = absurd (false≢true e)
blank_behind false x xs e = absurd (false≢true e)

blank_more : (xs : List ℕ) → all_blank (drop 1 xs) ≡ false → starts_with nat_eq xs (codes ":") ≡ true
    → all_blank xs ≡ false
blank_more [] e f = absurd (false≢true (sym e))
blank_more (x ∷ xs) e f = ap (λ t. is_blank x && t) e ∙ by (is_blank x)
  where
    by : (t : Bool) → (t && false) ≡ false
    by true = refl
    by false = refl

pub rest_some : (text : List ℕ) (prefix : Prefix) → wide_prefix_of text ≡ Some prefix
    → all_blank (drop (length (prefix_text prefix)) text) ≡ false
rest_some text prefix e =
    by (leaves_value text prefix) refl (found_passes (is_begun_by text) longest_first prefix e)
  where
    rest : List ℕ
    rest = drop (length (prefix_text prefix)) text

    by : (t : Bool) → leaves_value text prefix ≡ t → (t || has_colon text prefix) ≡ true → all_blank rest ≡ false
    by true is e' =
        blank_behind (starts_with nat_eq text (prefix_text prefix) &&
        (needs_no_space prefix || starts_with nat_eq rest (32 ∷ []))) (all_blank rest) rest is
    by false is e' =
        let starts = starts_with nat_eq text (prefix_text prefix) && starts_with nat_eq rest (codes ":") in
        let two = and_parts starts (not (all_blank (drop 1 rest))) e' in
        blank_more rest (blank_behind starts (all_blank (drop 1 rest)) rest e')
        (and_parts (starts_with nat_eq text (prefix_text prefix)) (starts_with nat_eq rest (codes ":")) two.0).1

pub value_full : (text : List ℕ) (prefix : Prefix) → wide_prefix_of text ≡ Some prefix
    → is_full (value_behind (drop (length (prefix_text prefix)) text)) ≡ true
value_full text prefix e =
    let rest = drop (length (prefix_text prefix)) text in
    full_sign (past (codes ":") (drop_front is_blank rest)) (full_past (codes ":") (drop_front is_blank rest)
    (some_full rest (rest_some text prefix e)))

-- ---- and so is what the holder begins

pub holder_full : (rest : List ℕ) → all_blank rest ≡ false → is_full (holder_behind rest) ≡ true
holder_full rest e = full_by (past (codes ",") (drop_front is_blank rest))
    (full_past (codes ",") (drop_front is_blank rest) (some_full rest e))

drop_front-all : (xs : List ℕ) → all_blank xs ≡ true → drop_front is_blank xs ≡ []
unfolding drop_front
drop_front-all [] a = refl
drop_front-all (x ∷ xs) a =
    let two = and_parts (is_blank x) (all_blank xs) a in
    ap (λ t. cond t (drop_front is_blank xs) (x ∷ xs)) two.0 ∙ drop_front-all xs two.1

-- years leave more than blank bytes
comma_some : (rest : List ℕ) → all_blank (behind_comma rest) ≡ false → all_blank rest ≡ false
comma_some rest e = by (behind (codes ",") (drop_front is_blank rest)) refl e
  where
    by : (o : Option (List ℕ)) → behind (codes ",") (drop_front is_blank rest) ≡ o
        → all_blank (unwrap_or o rest) ≡ false → all_blank rest ≡ false
    by None is e' = e'
    by (Some more) is e' = elim (truth (all_blank rest)) [
      | inl all ↦ absurd (not_some more (sym (ap (behind (codes ",")) (drop_front-all rest all)) ∙ is))
      | inr some ↦ some
    ]

pub leaves_some : (rest : List ℕ) → leaves_holder rest ≡ true → all_blank rest ≡ false
leaves_some rest e =
    comma_some rest (blank_behind (starts_blank rest || starts_with nat_eq rest (codes ","))
    (all_blank (behind_comma rest)) rest e)

-- ---- the holder is whole

full_end : (ys : List ℕ) → is_full ys ≡ true → is_full (drop_end is_blank ys) ≡ true
unfolding drop_end
full_end [] e = e
full_end (y ∷ ys) e = ap (λ t. is_full (cond t [] (y ∷ drop_end is_blank ys))) (full_some (y ∷ ys) e) ∙ e

-- a text without the blank bytes at its end, where it doesn't begin with one
pub end_whole : (xs : List ℕ) → is_full xs ≡ true → IsWhole (drop_end is_blank xs)
end_whole xs full = record {
  some = all-drop_end is_blank xs ∙ full_some xs full;
  trim = ap (drop_end is_blank) (full_kept (drop_end is_blank xs) (full_end xs full)) ∙ drop_end-twice is_blank xs;
}

-- a text up to an end that isn't all of it
upto_full : (named tail : List ℕ) → is_full named ≡ true → (front : List ℕ) (b : ℕ) → named ≡ (b ∷ front) ++ tail
    → is_full (upto named tail) ≡ true
upto_full named tail full front b e =
    ap is_full (upto_is Anything named tail (record { front = b ∷ front; joined = e; holds = tt }))
    ∙ sym (ap is_full e) ∙ full

pub tail_whole : (named : List ℕ) → is_full named ≡ true → is_full (upto named (tail_of named)) ≡ true
tail_whole [] full = absurd (false≢true full)
tail_whole (b ∷ named) full =
    let inner = tail_read (length (b ∷ named)) named in
    upto_full (b ∷ named) (tail_of (b ∷ named)) full inner.cut.front b (ap (λ t. b ∷ t) inner.cut.joined)

value_whole : (text : List ℕ) (prefix : Prefix) (value : List ℕ) → is_full value ≡ true
    → IsWhole (parts_from text prefix value).holder
value_whole text prefix value full = by (option_and_then if_leaves_holder (run_front value)) refl
  where
    named : List ℕ
    named = holder_behind value

    by : (o : Option RunText) → option_and_then if_leaves_holder (run_front value) ≡ o
        → IsWhole (option_map_or (cut_years_first text prefix value) o
        (cut_holder_first text prefix named (tail_of named))).holder
    by None e = end_whole (upto named (tail_of named)) (tail_whole named (holder_full value (full_some value full)))
    by (Some run) e = end_whole (holder_behind run.rest) (holder_full run.rest
        (leaves_some run.rest (leading value run e).leaves))

-- a notice's holder is more than blank bytes, and none of them at the ends
pub parts_whole : (text : List ℕ) (p : Parts) → parts_of text ≡ Some p → IsWhole p.holder
parts_whole text p e =
    let read = parts_read text p e in
    subst (λ (q : Parts). IsWhole q.holder) read.same
    (value_whole text read.prefix (value_behind (drop (length (prefix_text read.prefix)) text))
    (value_full text read.prefix read.found))
