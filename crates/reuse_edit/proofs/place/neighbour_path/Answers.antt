use Rattle.std.proofs.Common.{◌≡◌, ◌∙◌, ℕ, Bool, true, false, Err, nat_lt, List, ◌++◌, codes, length, refl, sym, ap}
use Rattle.std.proofs.lemmas.Bool.{false≢true, ltb-false}
use Rattle.reuse_change.specs.Path.{is_path}
use Rattle.reuse_edit.specs.Annotate.{neighbour_of}
use Rattle.reuse_change.proofs.NeighbourLemmas.{good_neighbour}
use Rattle.reuse_edit.proofs.place.neighbour_path.Goals as goal

too_long : (path : List ℕ) → is_path path ≡ true → is_path (neighbour_of path) ≡ false
    → nat_lt 4096 (length (neighbour_of path)) ≡ true
too_long path good bad = of_test (nat_lt 4096 (length (neighbour_of path))) refl
  where
    of_test : (b : Bool) → nat_lt 4096 (length (neighbour_of path)) ≡ b → b ≡ true
    of_test true e = refl
    of_test false e =
        absurd (false≢true (sym bad ∙ good_neighbour path good (ltb-false 4096 (length (neighbour_of path)) e)))

pub returns-in-Err-BadPath-clause-long : goal.returns-in-Err-BadPath-clause-long
returns-in-Err-BadPath-clause-long c =
    let bad : is_path c.as_str.result.now ≡ false =
    c.in-Err-BadPath.ensures.bad.0 (ap (λ e. Err e) c.in-Err-BadPath.field-0-is) in
    let text : c.as_str.result.now ≡ neighbour_of c.args.path.now =
    c.as_str.ensures.value ∙ c.in_ok-text.ensures.ok ∙ ap (λ xs. xs ++ codes ".license") c.text.ensures.text in
    too_long c.args.path.now c.text.ensures.path (ap is_path (sym text) ∙ bad)
