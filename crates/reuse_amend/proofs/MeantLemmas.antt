-- An expression has one meaning.
use Rattle.std.proofs.Common.{◌≡◌, ℕ, Bool, true, false, cond, List, [], ◌∷◌, ◌++◌, refl, sym, ap, ◌∙◌}
use Rattle.std.specs.Prelude.{codes, Option, None, Some, ◌||◌}
use Rattle.std.specs.Str.{bytes_eq}
use Rattle.reuse_notice.specs.declared.expressions.Token.TheVariants.{Open, Close, Operator, With, Identifier, Stray}
use Rattle.reuse_notice.specs.Expressions.{licence as a_licence, licence_with, group as a_group, joined}
use Rattle.reuse_notice.specs.Expressions.{spelling, IsExpression}
use Rattle.reuse_amend.specs.Meanings.{Meaning, licence, excepted, both, either, Rank, Operand, Conjunction, Whole}
use Rattle.reuse_amend.specs.Meanings.{Phrase, name, name_with, group, operand, joined_by_and, conjunction}
use Rattle.reuse_amend.specs.Meanings.{joined_by_or, written, meant}
use Rattle.reuse_amend.proofs.WordLemmas.{Word, kinds, kinds-append}

-- ---- reading words from left to right, as a stack of what is open

-- what was read in the parentheses that are open last: what stands before OR, what stands before AND, and the last
-- operand
record Frame : Type 0 where
  ors : Option Meaning
  ands : Option Meaning
  last : Meaning
  behind_with : Bool

record Stack : Type 0 where
  outer : List Frame
  frame : Frame

abbrev and_also : Option Meaning → Meaning → Meaning
and_also None m = m
and_also (Some left) m = both left m

abbrev or_else : Option Meaning → Meaning → Meaning
or_else None m = m
or_else (Some left) m = either left m

abbrev whole_of : Frame → Meaning
whole_of f = or_else f.ors (and_also f.ands f.last)

abbrev fresh : Meaning → Frame
fresh m = record { ors = None; ands = None; last = m; behind_with = false }

abbrev named : Frame → List ℕ → Frame
named f text = record f { last = cond f.behind_with (excepted f.last text) (licence text); behind_with = false }

abbrev operated : Bool → Frame → Frame
operated true f = record f { ands = Some (and_also f.ands f.last) }
operated false f = record f { ors = Some (whole_of f); ands = None }

abbrev is_and : List ℕ → Bool
is_and text = bytes_eq text (codes "AND") || bytes_eq text (codes "and")

abbrev closed : List Frame → Meaning → Stack
closed [] m = record { outer = []; frame = fresh m }
closed (f ∷ outer) m = record { outer = outer; frame = record f { last = m } }

abbrev read_word : Stack → Word → Stack
read_word s (text, Identifier plus) = record s { frame = named s.frame text }
read_word s (text, With) = record s { frame = record s.frame { behind_with = true } }
read_word s (text, Operator) = record s { frame = operated (is_and text) s.frame }
read_word s (text, Open) = record { outer = s.frame ∷ s.outer; frame = fresh (licence []) }
read_word s (text, Close) = closed s.outer (whole_of s.frame)
read_word s (text, Stray) = s

abbrev read_words : Stack → List Word → Stack
read_words s [] = s
read_words s (w ∷ ws) = read_words (read_word s w) ws

read-append : (ws vs : List Word) (s : Stack) → read_words s (ws ++ vs) ≡ read_words (read_words s ws) vs
read-append [] vs s = refl
read-append (w ∷ ws) vs s = read-append ws vs (read_word s w)

abbrev stack_of : List Frame → Option Meaning → Option Meaning → Meaning → Stack
stack_of outer ors ands last = record {
  outer = outer;
  frame = record { ors = ors; ands = ands; last = last; behind_with = false };
}

-- what reading a phrase of a rank leaves, where its first word is expected
abbrev Reads : Rank → List Word → Meaning → Type 0
Reads Operand ws m = (outer : List Frame) (ors ands : Option Meaning) (last : Meaning)
    → read_words (stack_of outer ors ands last) ws ≡ stack_of outer ors ands m
Reads Conjunction ws m = (outer : List Frame) (ors : Option Meaning) (last : Meaning)
    → (ands : Option Meaning) × (new : Meaning)
    × (read_words (stack_of outer ors None last) ws ≡ stack_of outer ors ands new) × (and_also ands new ≡ m)
Reads Whole ws m = (outer : List Frame) (last : Meaning)
    → (ors : Option Meaning) × (ands : Option Meaning) × (new : Meaning)
    × (read_words (stack_of outer None None last) ws ≡ stack_of outer ors ands new)
    × (or_else ors (and_also ands new) ≡ m)

says_and : (capitals : Bool) → is_and (cond capitals (codes "AND") (codes "and")) ≡ true
says_and true = refl
says_and false = refl

says_or : (capitals : Bool) → is_and (cond capitals (codes "OR") (codes "or")) ≡ false
says_or true = refl
says_or false = refl

-- an operator behind a phrase
operator : (s next : Stack) (ws vs : List Word) (text : List ℕ) (b : Bool) → read_words s ws ≡ next → is_and text ≡ b
    → read_words s (ws ++ (text, Operator) ∷ vs) ≡ read_words (record next { frame = operated b next.frame }) vs
operator s next ws vs text b e is =
    read-append ws ((text, Operator) ∷ vs) s ∙ ap (λ t. read_words t ((text, Operator) ∷ vs)) e
    ∙ ap (λ a. read_words (record next { frame = operated a next.frame }) vs) is

reads : {rank : Rank} (p : Phrase rank) → Reads rank (written p) (meant p)
reads (name text plus) = λ outer ors ands last. refl
reads (name_with text plus capitals exception) = λ outer ors ands last. refl
reads (group inner) = λ outer ors ands last.
    let f : Frame = record { ors = ors; ands = ands; last = last; behind_with = false } in
    let h = reads inner (f ∷ outer) (licence []) in
    read-append (written inner) ((codes ")", Close) ∷ []) (stack_of (f ∷ outer) None None (licence []))
    ∙ ap (λ s. read_words s ((codes ")", Close) ∷ [])) h.3 ∙ ap (stack_of outer ors ands) h.4
reads (operand inner) = λ outer ors last. (None, meant inner, reads inner outer ors None last, refl)
reads (joined_by_and left capitals right) = λ outer ors last.
    let l = reads left outer ors last in (
      Some (and_also l.0 l.1),
      meant right,
      operator (stack_of outer ors None last) (stack_of outer ors l.0 l.1) (written left) (written right)
          (cond capitals (codes "AND") (codes "and")) true l.2 (says_and capitals)
          ∙ reads right outer ors (Some (and_also l.0 l.1)) l.1,
      ap (λ m. both m (meant right)) l.3,
    )
reads (conjunction inner) = λ outer last. let h = reads inner outer None last in (None, h.0, h.1, h.2, h.3)
reads (joined_by_or left capitals right) = λ outer last.
    let l = reads left outer last in
    let r = reads right outer (Some (or_else l.0 (and_also l.1 l.2))) l.2 in (
      Some (or_else l.0 (and_also l.1 l.2)),
      r.0,
      r.1,
      operator (stack_of outer None None last) (stack_of outer l.0 l.1 l.2) (written left) (written right)
          (cond capitals (codes "OR") (codes "or")) false l.3 (says_or capitals) ∙ r.2,
      ap (λ m. either m (and_also r.0 r.1)) l.4 ∙ ap (either (meant left)) r.3,
    )

read_as : (p : Phrase Whole) → whole_of (read_words (stack_of [] None None (licence [])) (written p)).frame ≡ meant p
read_as p = let h = reads p [] (licence []) in ap (λ (s : Stack). whole_of s.frame) h.3 ∙ h.4

-- words have one meaning
pub one_meant : (p q : Phrase Whole) → written p ≡ written q → meant p ≡ meant q
one_meant p q e =
    sym (read_as p) ∙ ap (λ ws. whole_of (read_words (stack_of [] None None (licence [])) ws).frame) e ∙ read_as q

-- ---- phrases are expressions

joins : (text : List ℕ) (ws vs : List Word) → IsExpression (kinds ws) → IsExpression (kinds vs)
    → IsExpression (kinds (ws ++ (text, Operator) ∷ vs))
joins text ws vs l r = (
  joined l.0 r.0,
  ap (λ ts. ts ++ Operator ∷ spelling r.0) l.1 ∙ ap (λ ts. kinds ws ++ Operator ∷ ts) r.1
      ∙ sym (kinds-append ws ((text, Operator) ∷ vs)),
)

pub phrase_spelled : {rank : Rank} (p : Phrase rank) → IsExpression (kinds (written p))
phrase_spelled (name text plus) = (a_licence plus, refl)
phrase_spelled (name_with text plus capitals exception) = (licence_with plus, refl)
phrase_spelled (group inner) = let h = phrase_spelled inner in (
  a_group h.0,
  ap (λ ts. Open ∷ ts ++ Close ∷ []) h.1
      ∙ ap (λ ts. Open ∷ ts) (sym (kinds-append (written inner) ((codes ")", Close) ∷ []))),
)
phrase_spelled (operand inner) = phrase_spelled inner
phrase_spelled (conjunction inner) = phrase_spelled inner
phrase_spelled (joined_by_and left capitals right) = joins (cond capitals (codes "AND") (codes "and")) (written left)
    (written right) (phrase_spelled left) (phrase_spelled right)
phrase_spelled (joined_by_or left capitals right) = joins (cond capitals (codes "OR") (codes "or")) (written left)
    (written right) (phrase_spelled left) (phrase_spelled right)
