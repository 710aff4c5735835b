-- Where years or the holder of a notice begin, and what stands behind them.
use Rattle.std.proofs.Common.{◌≡◌, ℕ, ◌≤◌, true, List, ◌++◌, length}
use Rattle.std.proofs.Common.{length-append, drop, Option, Some, None, subst, arith}
use Rattle.std.specs.Option.{option_map_or, option_and_then}
use Rattle.reuse_notice.specs.declared.prefixes.Prefix.{Prefix}
use Rattle.reuse_notice.specs.Prefixes.{prefix_text}
use Rattle.reuse_notice.specs.Tags.{is_blank, all_blank, drop_front}
use Rattle.reuse_amend.specs.YearSpans.{RunText, run_front}
use Rattle.reuse_amend.specs.NoticeParts.{Parts}
use Rattle.reuse_amend.specs.NoticeParts.{value_behind, holder_behind}
use Rattle.reuse_amend.specs.NoticeParts.{if_leaves_holder, tail_of, cut_years_first, cut_holder_first, parts_from}
use Rattle.reuse_amend.specs.NoticeParts.{parts_behind, wide_prefix_of, parts_of}
use Rattle.reuse_amend.proofs.EndLemmas.{IsEnd, upto_is, end_further}
use Rattle.reuse_amend.proofs.JoinedLemmas.{rest_blank, parts_read, prefix_cut, value_full, holder_full}
use Rattle.reuse_amend.proofs.PartLemmas.{Anything, anything, end_value, end_holder, is_full}
use Rattle.reuse_amend.proofs.PartLemmas.{full_some}

-- all in front of years and holder is what stands in front of an end of the text, behind the prefix
pub record FrontRead (text : List ℕ) (p : Parts) : Type 0 where
  pub prefix : Prefix
  pub found : wide_prefix_of text ≡ Some prefix
  pub end : List ℕ
  pub cut : IsEnd Anything text end
  pub full : is_full end ≡ true
  pub front : p.front ≡ cut.front
  pub long : length (prefix_text prefix) ≤ length cut.front

pub front_read : (text : List ℕ) (p : Parts) → parts_of text ≡ Some p → FrontRead text p
front_read text p e =
    let read = parts_read text p e in
    subst (FrontRead text) read.same (by_value read.prefix read.found)
  where
    by_value : (prefix : Prefix) → wide_prefix_of text ≡ Some prefix → FrontRead text (parts_behind text prefix)
    by_value prefix found = by (option_and_then if_leaves_holder (run_front value))
      where
        rest : List ℕ
        rest = drop (length (prefix_text prefix)) text

        value : List ℕ
        value = value_behind rest

        first : IsEnd Anything text rest
        first = prefix_cut Anything text prefix tt found

        cut : IsEnd Anything text value
        cut = end_further Anything anything text rest value first (end_value Anything anything rest)

        long : (more : List ℕ) → length (prefix_text prefix) ≤ length (prefix_text prefix ++ more)
        long more = let n = length-append (prefix_text prefix) more in omega (arith, n)

        full : is_full value ≡ true
        full = value_full text prefix found

        by : (o : Option RunText) → FrontRead text (option_map_or (cut_years_first text prefix value) o
            (cut_holder_first text prefix (holder_behind value) (tail_of (holder_behind value))))
        by None =
            let named = holder_behind value in
            let more = end_holder Anything anything value in
            record {
              prefix = prefix;
              found = found;
              end = named;
              cut = end_further Anything anything text value named cut more;
              full = holder_full value (full_some value full);
              front = upto_is Anything text named (end_further Anything anything text value named cut more);
              long = let n = length-append (prefix_text prefix ++
                  (end_value Anything anything rest).front) more.front in
                  let m = long (end_value Anything anything rest).front in omega (arith, n, m);
            }
        by (Some run) = record {
          prefix = prefix;
          found = found;
          end = value;
          cut = cut;
          full = full;
          front = upto_is Anything text value cut;
          long = long (end_value Anything anything rest).front;
        }

-- what stands at the end is blank
pub trailing_blank : (text : List ℕ) (p : Parts) → parts_of text ≡ Some p → all_blank p.trailing ≡ true
trailing_blank text p e =
    let read = parts_read text p e in
    subst (λ (q : Parts). all_blank q.trailing ≡ true) read.same
    (by_value read.prefix (value_behind (drop (length (prefix_text read.prefix)) text)))
  where
    by_value : (prefix : Prefix) (value : List ℕ) → all_blank (parts_from text prefix value).trailing ≡ true
    by_value prefix value = by (option_and_then if_leaves_holder (run_front value))
      where
        by : (o : Option RunText) → all_blank (option_map_or (cut_years_first text prefix value) o
            (cut_holder_first text prefix (holder_behind value) (tail_of (holder_behind value)))).trailing ≡ true
        by None = rest_blank (drop_front is_blank (drop 1 (tail_of (holder_behind value))))
        by (Some run) = rest_blank (holder_behind run.rest)
