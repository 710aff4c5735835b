-- How amendments change a notice: in place (docs/RULES.md, "What amend writes").
use Rattle.std.specs.Prelude.{◌≡◌, ℕ, nat_eq, nat_lt, Bool, true, List, [], ◌∷◌, ◌++◌, take, Option, Some}
use Rattle.std.specs.Prelude.{if◌then◌else◌, unwrap_or, codes, ◌⊎◌}
use Rattle.std.specs.Option.{option_map, option_map_or}
use Rattle.std.specs.List.{list_any, starts_with}
use Rattle.reuse_notice.specs.declared.prefixes.Prefix.{Prefix}
use Rattle.reuse_notice.specs.Prefixes.{prefix_text}
use Rattle.reuse_notice.specs.declared.tags.Years.{Years}
use Rattle.reuse_notice.specs.Tags.{NoticeText, year_of}
use Rattle.reuse_notice.specs.Adding.{notice_written}
use Rattle.reuse_amend.specs.declared.amendments.Amendments.{Amendments}
use Rattle.reuse_amend.specs.YearSpans.{SpanText, en_dash, spans_of, ends_by}
use Rattle.reuse_amend.specs.NoticeParts.{Parts, parts_text}
use Rattle.reuse_amend.specs.Amending.{text_amended, if_concerned, range_text}

-- years of which one span is written anew, so that it reaches a year: what stands in front of it and behind it stays
pub record IsReached (year : ℕ) (years new : List ℕ) : Type 0 where
  pub before : List ℕ
  pub span : List ℕ
  pub after : List ℕ
  pub low : ℕ
  pub is : years ≡ before ++ span ++ after
  pub begins : year_of (take 4 (span ++ after)) ≡ Some low
  pub written : new ≡ before ++ range_text low year ++ after

-- all in front of years and holder stays, or it is another prefix
pub record IsPrefixed (prefix : Option Prefix) (front : List ℕ) : Type 0 where
  pub set : Prefix
  pub is : prefix ≡ Some set
  pub written : front ≡ prefix_text set ++ codes " "

-- years stay, or a span of them reaches the year
pub record IsUntil (until : Option ℕ) (years new : List ℕ) : Type 0 where
  pub year : ℕ
  pub is : until ≡ Some year
  pub reached : IsReached year years new

-- A notice is changed in place: its holder becomes another one, and all else stays byte for byte, but that a prefix may
-- take the place of all in front of years and holder, and that a span of the years may reach a year.
pub record IsChangedInPlace (a : Amendments) (old : Parts) (new : List ℕ) : Type 0 where
  pub parts : Parts
  pub written : new ≡ parts_text parts
  pub holder : parts.holder ≡ text_amended a.replaced_holders old.holder
  pub front : (parts.front ≡ old.front) ⊎ IsPrefixed (if_concerned a parts.holder a.prefix) parts.front
  pub years : (parts.years ≡ old.years) ⊎ IsUntil (if_concerned a parts.holder a.until) old.years parts.years
  pub between : parts.between ≡ old.between
  pub trailing : parts.trailing ≡ old.trailing
  pub order : parts.years_first ≡ old.years_first

-- each span includes the one in its place: it begins in the same year, and ends no earlier
abbrev pub EachIncludes : List SpanText → List SpanText → Type 0
EachIncludes [] [] = Unit {0}
EachIncludes (old ∷ olds) (new ∷ news) =
    (new.low ≡ old.low) × (ends_by old.high new.high ≡ true) × EachIncludes olds news
EachIncludes _ _ = ⊥

-- ---- both readings

-- a holder that might be read as a part of the years in front of it
abbrev pub goes_on : List ℕ → Bool
goes_on holder =
    list_any (λ lead. starts_with nat_eq holder lead)
    (codes "-" ∷ en_dash ∷ codes "," ∷ codes "&" ∷ codes "and" ∷ codes "by" ∷ [])

-- the parts of a notice have the prefix, the years and the holder that annotate reads
pub record IsReadAlike (notice : NoticeText) (years : Years) (p : Parts) : Type 0 where
  pub prefix : p.prefix ≡ notice.prefix
  pub holder : p.holder ≡ notice.holder
  pub years_first : p.years_first ≡ true
  pub span : SpanText
  pub only : spans_of p.years ≡ span ∷ []
  pub low : span.low ≡ years.low
  pub high : span.high ≡ Some years.high

-- years as one span of them reaches a year
abbrev pub reaching : ℕ → Years → Years
reaching year years = if nat_lt years.high year then record { low = years.low; high = year } else years

abbrev pub years_reaching : Option ℕ → Option Years → Option Years
years_reaching until years = option_map (λ own. option_map_or (λ year. reaching year own) until own) years

-- a notice that is written as an addition is, amended, where its holder becomes this one
abbrev pub addition_amended : Amendments → Prefix → Option Years → List ℕ → List ℕ
addition_amended a prefix years holder =
    notice_written (unwrap_or (if_concerned a holder a.prefix) prefix)
    (years_reaching (if_concerned a holder a.until) years) holder
