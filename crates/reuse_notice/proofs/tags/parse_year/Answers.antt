-- The four bytes are read from their list of digits.
use Rattle.std.proofs.Common.{◌≡◌, ℕ, ◌+◌, ◌-◌, ◌*◌, ◌≤◌, ◌<◌, Bool, cond, List, [], ◌∷◌, length, get_or, Some, None}
use Rattle.std.proofs.Common.{sym, ap, ◌∙◌, arith, rules, tests}
use Rattle.std.specs.List.{list_all}
use Rattle.std.specs.Char.{is_ascii_digit}
use Rattle.std.proofs.lemmas.Iterator.{YieldsList-from_slice}
use Rattle.std.proofs.lemmas.Iterator.Search.{all_from_yields_List}
use Rattle.reuse_notice.specs.Tags.{year_of}
use Rattle.reuse_notice.proofs.tags.parse_year.Goals as goal
use Rattle.reuse_notice.proofs.tags.parse_year.Goals.{After-all}

abbrev four : List ℕ → List ℕ
four text = get_or text 0 0 ∷ get_or text 1 0 ∷ get_or text 2 0 ∷ get_or text 3 0 ∷ []

year-at : (text : List ℕ) → 4 ≤ length text → length text < 5 → (t : Bool) → t ≡ list_all is_ascii_digit (four text)
    → year_of text ≡ cond t (Some ((get_or text 0 0 - 48) * 1000 + (get_or text 1 0 - 48) * 100 + (get_or text 2 0 - 48)
    * 10 + (get_or text 3 0 - 48))) None
year-at [] low high t e = absurd (omega arith)
year-at (a ∷ []) low high t e = absurd (omega arith)
year-at (a ∷ b ∷ []) low high t e = absurd (omega arith)
year-at (a ∷ b ∷ c ∷ []) low high t e = absurd (omega arith)
year-at (a ∷ b ∷ c ∷ d ∷ []) low high t e =
    ap (λ x. cond x (Some ((a - 48) * 1000 + (b - 48) * 100 + (c - 48) * 10 + (d - 48))) None) (sym e)
year-at (a ∷ b ∷ c ∷ d ∷ e ∷ text) low high t is = absurd (omega arith)

are-digits : (c : After-all) → c.all.result ≡ list_all is_ascii_digit (four c.args.text.now)
are-digits c = all_from_yields_List is_ascii_digit _ _ _ c.all.ensures.ran (YieldsList-from_slice _ c.iter.ensures.rest)
    (λ x b q k. search (rules, tests))

pub number_of-requires : goal.number_of-requires
number_of-requires c = sym (are-digits (goal.at.number_of-requires c).After-all) ∙ c.if-all.true

pub returns-then-all-clause-year : goal.returns-then-all-clause-year
returns-then-all-clause-year c =
    ap Some c.number_of.ensures.year ∙ sym (year-at c.args.text.now c.in-len4.len_at_least c.in-len4.len_below _
    (sym c.if-all.true ∙ are-digits (goal.at.returns-then-all-clause-year c).After-all))

pub returns-then-all-clause-fits : goal.returns-then-all-clause-fits
returns-then-all-clause-fits c = c.number_of.ensures.fits

pub returns-else-all-clause-year : goal.returns-else-all-clause-year
returns-else-all-clause-year c = sym (year-at c.args.text.now c.in-len4.len_at_least c.in-len4.len_below _
    (sym c.if-all.false ∙ are-digits (goal.at.returns-else-all-clause-year c).After-all))

pub returns-else-all-clause-fits : goal.returns-else-all-clause-fits
returns-else-all-clause-fits c = tt
