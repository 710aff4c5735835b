-- The pieces of an expression in which an identifier is replaced.
use Rattle.std.proofs.Common.{◌≡◌, ℕ, Bool, true, false, cond, List, [], ◌∷◌, ◌++◌, length, refl, sym, ap, ◌∙◌}
use Rattle.std.specs.Prelude.{◌&&◌, ◌||◌, not, codes}
use Rattle.std.specs.Str.{bytes_eq}
use Rattle.std.proofs.lemmas.List.{append-nil}
use Rattle.std.proofs.lemmas.List.Elements.{filter-append}
use Rattle.std.proofs.lemmas.Slice.Eq.{bytes_eq-Decides}
use Rattle.reuse_notice.specs.declared.expressions.Token.{Token}
use Rattle.reuse_amend.specs.declared.replacements.Replacement.{Replacement}
use Rattle.reuse_notice.specs.Expressions.{token_at, word_len}
use Rattle.reuse_amend.specs.Pieces.{pieces_of, is_name, is_identifier}
use Rattle.reuse_amend.specs.Amending.{operand, is_behind_with, pieces_replaced}
use Rattle.reuse_amend.specs.Meanings.{words_of}
use Rattle.reuse_amend.proofs.UnnamedLemmas.{together, pieces-join, other_text}
use Rattle.reuse_amend.proofs.CutLemmas.{is_plain, WellCut, pieces_cut, plain_first}
use Rattle.reuse_amend.proofs.CutLemmas.{together-append, cut-append}
use Rattle.reuse_amend.proofs.WordLemmas.{Word, no_space, without_blanks, blank_plain, name_begins}

-- ---- the pieces replaced

-- pieces, in which each that is replaced becomes others
abbrev pub replaced_by : List (List ℕ × Token) → Replacement → Bool → List (List ℕ × Token) → List (List ℕ × Token)
replaced_by others r behind [] = []
replaced_by others r behind (p ∷ ps) =
    cond (bytes_eq p.0 r.old && (is_identifier r.new || not behind)) others (p ∷ []) ++ replaced_by others r
    (is_behind_with behind p.1) ps

abbrev pub new_pieces : Replacement → Bool → List (List ℕ × Token) → List (List ℕ × Token)
new_pieces r behind ps = replaced_by (pieces_of (operand r.new)) r behind ps

pub new_together : (r : Replacement) (behind : Bool) (ps : List (List ℕ × Token))
    → together (new_pieces r behind ps) ≡ pieces_replaced r behind ps
unfolding pieces_replaced
new_together r behind [] = refl
new_together r behind (p ∷ ps) =
    together-append (cond chosen (pieces_of (operand r.new)) (p ∷ [])) (new_pieces r (is_behind_with behind p.1) ps)
    ∙ ap (λ t. t ++ together (new_pieces r (is_behind_with behind p.1) ps)) (by chosen)
    ∙ ap (λ t. cond chosen (operand r.new) p.0 ++ t) (new_together r (is_behind_with behind p.1) ps)
  where
    chosen : Bool
    chosen = bytes_eq p.0 r.old && (is_identifier r.new || not behind)

    by : (t : Bool) → together (cond t (pieces_of (operand r.new)) (p ∷ [])) ≡ cond t (operand r.new) p.0
    by true = pieces-join (operand r.new)
    by false = append-nil p.0

-- a text that an identifier is not
pub not_old : (r : Replacement) (text : List ℕ) → is_name (token_at r.old) ≡ true → is_name (token_at text) ≡ false
    → bytes_eq text r.old ≡ false
not_old r text named other = other_text text r.old
    (λ e. let f : false ≡ true = sym other ∙ ap (λ t. is_name (token_at t)) e ∙ named in absurd (cc f))

pub plain_other : (r : Replacement) (text : List ℕ) → is_name (token_at r.old) ≡ true → is_plain text ≡ true
    → bytes_eq text r.old ≡ false
plain_other r text named plain = other_text text r.old
    (λ e. let f : true ≡ false = sym plain ∙ ap is_plain e ∙ name_begins r.old named in absurd (cc f))

-- what doesn't go on with a word doesn't do so where it is replaced
pub plain_kept : (r : Replacement) (behind : Bool) (ps : List (List ℕ × Token)) → is_name (token_at r.old) ≡ true
    → WellCut ps → is_plain (together ps) ≡ true → is_plain (together (new_pieces r behind ps)) ≡ true
plain_kept r behind [] named cut plain = refl
plain_kept r behind (p ∷ ps) named cut plain =
    let own : is_plain p.0 ≡ true = sym (plain_first p.0 (together ps) cut.0.some) ∙ plain in
    ap (λ t. is_plain (together (cond (t && (is_identifier r.new || not behind)) (pieces_of (operand r.new))
    (p ∷ []) ++ new_pieces r (is_behind_with behind p.1) ps))) (plain_other r p.0 named own)
    ∙ plain_first p.0 (together (new_pieces r (is_behind_with behind p.1) ps)) cut.0.some ∙ own

module _ (r : Replacement) (named : is_name (token_at r.old) ≡ true) (whole : word_len r.old ≡ length r.old) where
  pub new_cut : (behind : Bool) (ps : List (List ℕ × Token)) → WellCut ps → WellCut (new_pieces r behind ps)
  new_cut behind [] cut = tt
  new_cut behind (p ∷ ps) cut =
      by (new_cut (is_behind_with behind p.1) ps cut.2) (bytes_eq p.0 r.old) (is_identifier r.new || not behind) refl
    where
      by : WellCut (new_pieces r (is_behind_with behind p.1) ps) → (same may : Bool) → bytes_eq p.0 r.old ≡ same
          → WellCut
          (cond (same && may) (pieces_of (operand r.new)) (p ∷ []) ++ new_pieces r (is_behind_with behind p.1) ps)
      by rest true true e =
          let is : p.0 ≡ r.old = (bytes_eq-Decides p.0 r.old).0 e in
          cut-append (pieces_of (operand r.new)) (new_pieces r (is_behind_with behind p.1) ps)
          (pieces_cut (operand r.new)) rest
          (λ _. plain_kept r (is_behind_with behind p.1) ps named cut.2
          (cut.1 (ap word_len is ∙ whole ∙ ap length (sym is))))
      by rest true false e = (cut.0, λ k. plain_kept r (is_behind_with behind p.1) ps named cut.2 (cut.1 k), rest)
      by rest false may e = (cut.0, λ k. plain_kept r (is_behind_with behind p.1) ps named cut.2 (cut.1 k), rest)

-- ---- the words of what is replaced

abbrev pub new_words : Replacement → Bool → List Word → List Word
new_words r behind ws = replaced_by (words_of (operand r.new)) r behind ws

pub words_replaced : (r : Replacement) (behind : Bool) (ps : List Word) → is_name (token_at r.old) ≡ true → WellCut ps
    → without_blanks (new_pieces r behind ps) ≡ new_words r behind (without_blanks ps)
words_replaced r behind [] named cut = refl
words_replaced r behind (p ∷ ps) named cut =
    by (words_replaced r (is_behind_with behind p.1) ps named cut.2) (bytes_eq p.0 (codes " ")) refl
  where
    kept : (t : Bool) (ws : List Word) → bytes_eq p.0 (codes " ") ≡ false
        → without_blanks (new_pieces r (is_behind_with behind p.1) ps) ≡ ws
        → without_blanks (cond t (pieces_of (operand r.new)) (p ∷ []) ++ new_pieces r (is_behind_with behind p.1) ps)
        ≡ cond t (words_of (operand r.new)) (p ∷ []) ++ ws
    kept true ws e again = filter-append no_space (pieces_of (operand r.new))
        (new_pieces r (is_behind_with behind p.1) ps) ∙ ap (λ vs. words_of (operand r.new) ++ vs) again
    kept false ws e again =
        ap (λ t. cond (not t) (p ∷ without_blanks (new_pieces r (is_behind_with behind p.1) ps))
        (without_blanks (new_pieces r (is_behind_with behind p.1) ps))) e ∙ ap (λ vs. p ∷ vs) again

    by : without_blanks (new_pieces r (is_behind_with behind p.1) ps) ≡ new_words r (is_behind_with behind p.1)
        (without_blanks ps) → (s : Bool) → bytes_eq p.0 (codes " ") ≡ s
        → without_blanks (new_pieces r behind (p ∷ ps)) ≡ new_words r behind
        (cond (not s) (p ∷ without_blanks ps) (without_blanks ps))
    by again false e = kept (bytes_eq p.0 r.old && (is_identifier r.new || not behind))
        (new_words r (is_behind_with behind p.1) (without_blanks ps)) e again
    by again true e =
        let is = blank_plain p e cut.0 in
        ap (λ t. without_blanks (cond (t && (is_identifier r.new || not behind)) (pieces_of (operand r.new)) (p ∷ [])
        ++ new_pieces r (is_behind_with behind p.1) ps)) (not_old r p.0 named (ap (λ t. is_name (token_at t)) is.0))
        ∙ ap (λ t. cond (not t) (p ∷ without_blanks (new_pieces r (is_behind_with behind p.1) ps))
        (without_blanks (new_pieces r (is_behind_with behind p.1) ps))) e
        ∙ again ∙ ap (λ t. new_words r (is_behind_with behind t) (without_blanks ps)) is.1
