-- The first refusal of arguments, as the order of the tests finds it, and what they add where there is none.
use Rattle.std.proofs.Common.{◌≡◌, ℕ, Bool, true, false, List, [], ◌∷◌, length, Bor, Option, Some, None, sym, ◌∙◌}
use Rattle.std.proofs.Common.{arith}
use Rattle.std.specs.Prelude.{find, map, not, ◌&&◌, ◌==◌}
use Rattle.std.proofs.lemmas.Bool.Decides.{nat_tests}
use Rattle.reuse_notice.specs.Texts.{texts_of}
use Rattle.reuse_notice.specs.Contents.{is_nil}
use Rattle.reuse_notice.specs.Adding.{Arguments, Refusal, nothing_to_add, year_and_exclude, bad_year, bad_text}
use Rattle.reuse_notice.specs.Adding.{is_bad_year, is_bad_text, bad_licence, refusal_of, chosen_years, notice_written}
use Rattle.reuse_notice.specs.Adding.{additions_of}
use Rattle.reuse_notice.specs.declared.tags.Years.{Years}
use Rattle.reuse_notice.specs.declared.adding.Additions.{Additions}

-- a test of emptiness, as it is answered
pub nil_is : (texts : List (Bor (List ℕ))) (b t : Bool) → b ≡ (length texts == 0) → b ≡ t → is_nil (texts_of texts) ≡ t
nil_is [] b t e is = sym e ∙ is
nil_is (x ∷ texts) b t e is = let some : (length (x ∷ texts) == 0) ≡ false = grind (arith, nat_tests) in
    sym some ∙ sym e ∙ is

pub nothing_refused : (a : Arguments) → is_nil a.copyrights ≡ true → is_nil a.licences ≡ true
    → is_nil a.contributors ≡ true → refusal_of a ≡ Some nothing_to_add
nothing_refused a e f g = rw (e, f, g)

module _ (a : Arguments) (some : (is_nil a.copyrights && is_nil a.licences && is_nil a.contributors) ≡ false) where
  pub both_refused : a.exclude ≡ true → is_nil a.years ≡ false → refusal_of a ≡ Some year_and_exclude
  both_refused e f = rw (some, e, f)

  module _ (one : (a.exclude && not (is_nil a.years)) ≡ false) where
    pub year_refused : (text : List ℕ) → find is_bad_year a.years ≡ Some text → refusal_of a ≡ Some (bad_year text)
    year_refused text e = rw (some, one, e)

    module _ (years : find is_bad_year a.years ≡ None) where
      pub copyright_refused : (text : List ℕ) → find is_bad_text a.copyrights ≡ Some text
          → refusal_of a ≡ Some (bad_text text)
      copyright_refused text e = rw (some, one, years, e)

      module _ (copyrights : find is_bad_text a.copyrights ≡ None) where
        pub contributor_refused : (text : List ℕ) → find is_bad_text a.contributors ≡ Some text
            → refusal_of a ≡ Some (bad_text text)
        contributor_refused text e = rw (some, one, years, copyrights, e)

        pub licence_refused : find is_bad_text a.contributors ≡ None → (r : Option Refusal) → bad_licence a.licences ≡ r
            → refusal_of a ≡ r
        licence_refused e r is = rw (some, one, years, copyrights, e) is

pub made : (a : Arguments) (notices contributors licences : List (List ℕ)) (years : Option Years)
    → years ≡ chosen_years a.years a.exclude a.current
    → notices ≡ map (notice_written a.prefix years) a.copyrights → contributors ≡ a.contributors → licences ≡ a.licences
    → ◌≡◌ {A = Additions} record {
      notices = notices;
      contributors = contributors;
      licences = licences;
    } (additions_of a)
made a notices contributors licences years e f g h = rw (f, g, h, e)
