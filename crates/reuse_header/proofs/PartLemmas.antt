-- What holds of bytes and of each part of them, and of the lines of a file, holds of the contents of its blocks.
use Rattle.std.proofs.Common.{◌≡◌, ℕ, zero, suc, Bool, true, false, List, [], ◌∷◌, length, take, drop, Option, None}
use Rattle.std.proofs.Common.{Some, refl, sym, ap, subst, inl, inr}
use Rattle.std.specs.Prelude.{◌&&◌, ◌||◌, ◌==◌, if◌then◌else◌, unwrap_or, nat_eq}
use Rattle.std.specs.List.{list_all, starts_with}
use Rattle.std.specs.Option.{option_map_or, option_to_list}
use Rattle.std.proofs.lemmas.Bool.{cases_Bool as truth}
use Rattle.reuse_notice.specs.Tags.{is_blank, drop_front, drop_end}
use Rattle.reuse_style.specs.declared.style.Style.{Style}
use Rattle.reuse_style.specs.declared.marks.Form.{Form}
use Rattle.reuse_style.specs.declared.marks.Form.TheVariants.{Single, Multi}
use Rattle.reuse_style.specs.Search.{place_of}
use Rattle.reuse_header.specs.Ends.{is_return, is_indent}
use Rattle.reuse_style.specs.Marks.{BlockForm}
use Rattle.reuse_style.specs.Styles.{line_comment_of, block_comment_of}
use Rattle.reuse_text.specs.Text.{TextLine}
use Rattle.reuse_header.specs.Body.{PlacedLines, is_barrier, body_lines, open_contents}
use Rattle.reuse_header.specs.Blocks.{without_returns, without_middle, between_marks, is_blank_content as is_blank_line}
use Rattle.reuse_header.specs.Blocks.{single_content, multi_content, line_content, contents_from}
use Rattle.reuse_header.proofs.SayableLemmas.{Each, each_both, of_picked}
use Rattle.reuse_header.proofs.PrefixLemmas.{body_rest}

-- ---- a front and a back part of bytes

pub record IsOfParts (P : List ℕ → Type 0) : Type 0 where
  pub front : (n : ℕ) (bytes : List ℕ) → P bytes → P (take n bytes)
  pub back : (n : ℕ) (bytes : List ℕ) → P bytes → P (drop n bytes)

front_left : (test : ℕ → Bool) (bytes : List ℕ) → (n : ℕ) × (drop_front test bytes ≡ drop n bytes)
unfolding drop_front
front_left test [] = (0, refl)
front_left test (b ∷ bytes) = elim (truth (test b)) [
  | inl is ↦ (let left = front_left test bytes in (suc left.0, rw is left.1))
  | inr isnt ↦ (0, rw isnt refl)
]

end_left : (test : ℕ → Bool) (bytes : List ℕ) → (n : ℕ) × (drop_end test bytes ≡ take n bytes)
unfolding drop_end
end_left test [] = (0, refl)
end_left test (b ∷ bytes) = elim (truth (list_all test (b ∷ bytes))) [
  | inl is ↦ (0, rw is refl)
  | inr isnt ↦ (let left = end_left test bytes in (suc left.0, rw isnt (ap (λ (xs : List ℕ). b ∷ xs) left.1)))
]

-- ---- lines

pub each_dropped : {X : Type 0} (P : X → Type 0) (n : ℕ) (xs : List X) → Each P xs → Each P (drop n xs)
unfolding Each
each_dropped P zero xs h = h
each_dropped P (suc n) [] h = h
each_dropped P (suc n) (x ∷ xs) h = each_dropped P n xs h.1

module _ (P : List ℕ → Type 0) where
  pub each_open : (lines : PlacedLines) → Each (λ line. P line.1.content) lines → Each P (open_contents lines)
  unfolding Each
  each_open [] h = tt
  each_open (line ∷ lines) h = elim (truth (is_barrier line.1.content)) [
    | inl e ↦ rw e tt
    | inr e ↦ rw e (h.0, each_open lines h.1)
  ]

  pub each_in_body : (style : Style) (lines : PlacedLines) → Each (λ line. P line.1.content) lines
      → Each (λ line. P line.1.content) (body_lines style lines)
  each_in_body style lines h =
      let rest = body_rest style lines in
      subst (Each (λ (line : ℕ × TextLine). P line.1.content)) (sym rest.1)
      (each_dropped (λ (line : ℕ × TextLine). P line.1.content) rest.0 lines h)

module _ (P : List ℕ → Type 0) (parts : IsOfParts P) where
  pub of_front : (test : ℕ → Bool) (bytes : List ℕ) → P bytes → P (drop_front test bytes)
  of_front test bytes p = let left = front_left test bytes in subst P (sym left.1) (parts.back left.0 bytes p)

  pub of_end : (test : ℕ → Bool) (bytes : List ℕ) → P bytes → P (drop_end test bytes)
  of_end test bytes p = let left = end_left test bytes in subst P (sym left.1) (parts.front left.0 bytes p)

  -- ---- the contents of a block

  pub of_middle : (middle : Option (List ℕ)) (content : List ℕ) → P content → P (without_middle middle content)
  unfolding without_middle
  of_middle None content p = p
  of_middle (Some middle) content p =
      let sign = drop_front is_indent middle in
      let rest = drop_front is_indent content in
      of_picked P (starts_with nat_eq rest sign) (drop (length sign) rest) content
      (parts.back (length sign) rest (of_front is_indent content p)) p

  of_between : (comment : BlockForm) (is_first is_last : Bool) (content : List ℕ) → P content
      → P (between_marks comment is_first is_last content)
  unfolding between_marks
  of_between comment is_first is_last content p = behind _ (closed is_last _ (opened is_first))
    where
      opened : (first : Bool) → P (if first then drop (length comment.opener) content else content)
      opened first = of_picked P first (drop (length comment.opener) content) content
          (parts.back (length comment.opener) content p) p

      closed : (last : Bool) (bytes : List ℕ) → P bytes → P (if last
          then drop_end is_blank (take (unwrap_or (place_of comment.closer bytes) (length bytes)) bytes) else bytes)
      closed true bytes q =
          of_end is_blank _ (parts.front (unwrap_or (place_of comment.closer bytes) (length bytes)) bytes q)
      closed false bytes q = q

      behind : (bytes : List ℕ) → P bytes → P (if is_first then bytes else without_middle comment.middle bytes)
      behind bytes q =
          of_picked P is_first bytes (without_middle comment.middle bytes) q (of_middle comment.middle bytes q)

  of_line : (style : Style) (form : Form) (is_first is_last : Bool) (line : List ℕ) → P line
      → Each P (option_to_list (line_content style form is_first is_last line))
  unfolding Each single_content multi_content
  of_line style Single is_first is_last line p = (
    of_end is_return _ (parts.back (option_map_or (λ comment. length comment.marker) (line_comment_of style) 0) line p),
    tt,
  )
  of_line style Multi is_first is_last line p = by_test ((is_first || is_last) && is_blank_line style inner) inner
      (of_end is_return _ (by_form (block_comment_of style)))
    where
      inner : List ℕ
      inner = without_returns
          (option_map_or (λ comment. between_marks comment is_first is_last line) (block_comment_of style) line)

      by_form : (form : Option BlockForm)
          → P (option_map_or (λ comment. between_marks comment is_first is_last line) form line)
      by_form None = p
      by_form (Some comment) = of_between comment is_first is_last line p

      by_test : (blank : Bool) (content : List ℕ) → P content
          → Each P (option_to_list (if blank then None else Some content))
      by_test true content q = tt
      by_test false content q = (q, tt)

  pub each_content : (style : Style) (form : Form) (lines : List (List ℕ)) (is_first : Bool) (count : ℕ) → Each P lines
      → Each P (contents_from style form is_first count lines)
  unfolding Each contents_from
  each_content style form lines is_first zero h = tt
  each_content style form [] is_first (suc count) h = tt
  each_content style form (line ∷ lines) is_first (suc count) h =
      each_both P (option_to_list (line_content style form is_first (count == 0) line))
      (contents_from style form false count lines)
      (of_line style form is_first (count == 0) line h.0) (each_content style form lines false count h.1)
