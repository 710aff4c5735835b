-- The parts of the prefix lines, as their law says them.
use Rattle.std.proofs.Common.{◌≡◌, ℕ, zero, suc, Bool, true, false, cond, List, [], ◌∷◌, ◌++◌, length}
use Rattle.std.proofs.Common.{take, drop, Option, None, Some, refl, sym, ap, subst, ◌∙◌, inl, inr, arith}
use Rattle.std.specs.Option.{option_map, option_map_or}
use Rattle.std.proofs.lemmas.Bool.{cases_Bool as truth}
use Rattle.std.proofs.lemmas.List.{append-nil, take-append-drop}
use Rattle.reuse_text.specs.Text.{TextLine}
use Rattle.reuse_style.specs.declared.style.Style.{Style}
use Rattle.reuse_style.specs.Marks.{FrontMatterForm, begins_with_one}
use Rattle.reuse_style.specs.Styles.{first_lines_of, front_matter_of}
use Rattle.reuse_header.specs.Body.{PlacedLines, is_shebang, is_declaration, without_first, first_lines_count}
use Rattle.reuse_header.specs.Body.{is_whole_line, count_to, front_matter_count}
use Rattle.reuse_header.specs.Body.{after_declaration, after_first_lines, body_lines}
use Rattle.reuse_header.specs.Annotation.{first_if, first_lines_in, front_matter_in, prefix_lines}
use Rattle.reuse_header.specs.PrefixLaws.{BeginsOther, IsFrontMatter, IsMatterBefore, IsPrefixCut}
use Rattle.reuse_header.specs.PrefixLaws.{HasPlainPrefix}
use Rattle.reuse_header.proofs.SayableLemmas.{Each, all_of_each, each_of_all}
use Rattle.reuse_header.proofs.PassedLemmas.{count_here, no_first_lines}
use Rattle.reuse_header.proofs.PrefixLemmas.{prefix_body}

-- ---- first lines

first_begin : (beginnings : List (List ℕ)) (lines : PlacedLines)
    → Each (λ (line : ℕ × TextLine). begins_with_one beginnings line.1.content ≡ true)
    (take (first_lines_count beginnings lines) lines)
unfolding Each first_lines_count
first_begin beginnings [] = tt
first_begin beginnings (line ∷ lines) = elim (truth (begins_with_one beginnings line.1.content)) [
  | inl e ↦ subst (λ (n : ℕ). Each (λ (l : ℕ × TextLine). begins_with_one beginnings l.1.content ≡ true)
      (take n (line ∷ lines))) (sym (count_here beginnings line lines true e)) (e, first_begin beginnings lines)
  | inr e ↦ subst (λ (n : ℕ). Each (λ (l : ℕ × TextLine). begins_with_one beginnings l.1.content ≡ true)
      (take n (line ∷ lines))) (sym (count_here beginnings line lines false e)) tt
]

others_begin : (beginnings : List (List ℕ)) (lines : PlacedLines)
    → BeginsOther (begins_with_one beginnings) (drop (first_lines_count beginnings lines) lines)
unfolding first_lines_count
others_begin beginnings [] = tt
others_begin beginnings (line ∷ lines) = elim (truth (begins_with_one beginnings line.1.content)) [
  | inl e ↦ subst (λ (n : ℕ). BeginsOther (begins_with_one beginnings) (drop n (line ∷ lines)))
      (sym (count_here beginnings line lines true e)) (others_begin beginnings lines)
  | inr e ↦ subst (λ (n : ℕ). BeginsOther (begins_with_one beginnings) (drop n (line ∷ lines)))
      (sym (count_here beginnings line lines false e)) e
]

-- ---- front matter

-- lines up to the first that is a text
record IsUpTo (text : List ℕ) (lines : PlacedLines) : Type 0 where
  between : PlacedLines
  last : ℕ × TextLine
  joined : lines ≡ between ++ last ∷ []
  goes_on : Each (λ (line : ℕ × TextLine). is_whole_line text line.1.content ≡ false) between
  ends : is_whole_line text last.1.content ≡ true

counted_to : (text : List ℕ) (lines : PlacedLines) (n : ℕ) → count_to text lines ≡ Some n → IsUpTo text (take n lines)
unfolding count_to Each
counted_to text [] n e = absurd (let none : ⊥ = cc e in none)
counted_to text (line ∷ lines) n e = elim (truth (is_whole_line text line.1.content)) [
  | inl is ↦ (let one : Some 1 ≡ Some n = ap (λ (b : Bool). cond b (Some 1)
      (option_map (λ count. suc count) (count_to text lines))) (sym is) ∙ e in
      subst (λ (k : ℕ). IsUpTo text (take k (line ∷ lines))) (some_is one)
      (record { between = []; last = line; joined = refl; goes_on = tt; ends = is }))
  | inr isnt ↦ (let more : option_map (λ count. suc count) (count_to text lines) ≡ Some n =
      ap (λ (b : Bool). cond b (Some 1) (option_map (λ count. suc count) (count_to text lines))) (sym isnt) ∙ e in
      by (count_to text lines) refl more isnt (λ k is. counted_to text lines k is))
]
  where
    some_is : {a b : ℕ} → Some a ≡ Some b → a ≡ b
    some_is e = cc e

    by : (count : Option ℕ) → count_to text lines ≡ count → option_map (λ k. suc k) count ≡ Some n
        → is_whole_line text line.1.content ≡ false
        → ((k : ℕ) → count_to text lines ≡ Some k → IsUpTo text (take k lines)) → IsUpTo text (take n (line ∷ lines))
    by None is e isnt later = absurd (let none : ⊥ = cc e in none)
    by (Some k) is e isnt later =
        let rest = later k is in
        subst (λ (m : ℕ). IsUpTo text (take m (line ∷ lines))) (some_is e) (record {
          between = line ∷ rest.between;
          last = rest.last;
          joined = ap (λ (xs : PlacedLines). line ∷ xs) rest.joined;
          goes_on = (isnt, rest.goes_on);
          ends = rest.ends;
        })

-- where there is such a line, the count is found
found_behind : (text : List ℕ) (between back : PlacedLines) (last : ℕ × TextLine)
    → Each (λ (line : ℕ × TextLine). is_whole_line text line.1.content ≡ false) between
    → is_whole_line text last.1.content ≡ true
    → count_to text ((between ++ last ∷ []) ++ back) ≡ Some (suc (length between))
unfolding count_to Each
found_behind text [] back last goes_on ends = rw ends refl
found_behind text (line ∷ between) back last goes_on ends =
    rw (goes_on.0) (ap (λ (o : Option ℕ). option_map (λ count. suc count) o)
    (found_behind text between back last goes_on.1 ends))

matter_is : (form : FrontMatterForm) (lines : PlacedLines) (n : ℕ) → front_matter_count (Some form) lines ≡ suc n
    → IsFrontMatter form (take (suc n) lines)
unfolding front_matter_count
matter_is form [] n e = absurd (omega (arith, e))
matter_is form (line ∷ lines) n e = elim (truth (is_whole_line form.first_line line.1.content)) [
  | inl is ↦ by (count_to form.last_line lines) refl is (ap (λ (b : Bool). cond b
      (option_map_or (λ count. suc count) (count_to form.last_line lines) 0) 0) (sym is) ∙ e)
  | inr isnt ↦ absurd (let zero_is : 0 ≡ suc n = ap (λ (b : Bool). cond b
      (option_map_or (λ count. suc count) (count_to form.last_line lines) 0) 0) (sym isnt) ∙ e in omega (arith, zero_is))
]
  where
    by : (count : Option ℕ) → count_to form.last_line lines ≡ count
        → is_whole_line form.first_line line.1.content ≡ true → option_map_or (λ k. suc k) count 0 ≡ suc n
        → IsFrontMatter form (take (suc n) (line ∷ lines))
    by None is begins e = absurd (omega (arith, e))
    by (Some k) is begins e =
        let same : k ≡ n = omega (arith, e) in
        let rest = counted_to form.last_line lines k is in
        subst (λ (m : ℕ). IsFrontMatter form (line ∷ take m lines)) same (record {
          first = line;
          between = rest.between;
          last = rest.last;
          joined = ap (λ (xs : PlacedLines). line ∷ xs) rest.joined;
          begins = begins;
          goes_on = all_of_each _ rest.between rest.goes_on;
          ends = rest.ends;
        })

matter_counts : (form : FrontMatterForm) (front back : PlacedLines) → IsFrontMatter form front
    → front_matter_count (Some form) (front ++ back) ≡ 0 → ⊥
unfolding front_matter_count
matter_counts form front back m e =
    let there : front_matter_count (Some form) (front ++ back) ≡ suc (suc (length m.between)) =
    ap (λ (xs : PlacedLines). front_matter_count (Some form) (xs ++ back)) m.joined
    ∙ rw m.begins (ap (λ (o : Option ℕ). option_map_or (λ count. suc count) o 0)
    (found_behind form.last_line m.between back m.last (each_of_all _ m.between m.goes_on) m.ends)) in
    omega (arith, there, e)

matter_before : (form : Option FrontMatterForm) (lines : PlacedLines)
    → IsMatterBefore form (take (front_matter_count form lines) lines) (drop (front_matter_count form lines) lines)
unfolding front_matter_count
matter_before None lines = refl
matter_before (Some form) lines = by (front_matter_count (Some form) lines) refl
  where
    by : (n : ℕ) → front_matter_count (Some form) lines ≡ n → IsMatterBefore (Some form) (take n lines) (drop n lines)
    by zero is = inr (
      refl,
      λ front back joined m. matter_counts form front back m
          (ap (front_matter_count (Some form)) (sym joined) ∙ is),
    )
    by (suc n) is = inl (matter_is form lines n is)

-- ---- all prefix lines

pub prefix_cut : (style : Style) (lines : PlacedLines)
    → (first : PlacedLines) × (matter : PlacedLines) × IsPrefixCut style lines first matter
unfolding prefix_lines body_lines
prefix_cut style lines =
    let declared = after_declaration style lines in
    let behind = after_first_lines style lines in (
      first_lines_in style declared,
      front_matter_in style behind,
      record {
        whole = prefix_body style lines;
        prefix = refl;
        begin = all_of_each _ (first_lines_in style declared) (first_begin (first_lines_of style) declared);
        others = subst (BeginsOther (begins_with_one (first_lines_of style)))
            (sym (take-append-drop (front_matter_count (front_matter_of style) behind) behind))
            (others_begin (first_lines_of style) declared);
        ends = matter_before (front_matter_of style) behind;
      },
    )

pub plain_prefix : (style : Style) (lines : PlacedLines) → first_lines_of style ≡ [] → front_matter_of style ≡ None
    → HasPlainPrefix style lines
unfolding prefix_lines body_lines front_matter_count
plain_prefix style lines no_first no_matter =
    let declared = after_declaration style lines in
    let behind = after_first_lines style lines in
    let shebang = first_if is_shebang lines in
    let declaration = first_if (is_declaration style) (without_first is_shebang lines) in
    let none_first : first_lines_count (first_lines_of style) declared ≡ 0 =
    ap (λ (bs : List (List ℕ)). first_lines_count bs declared) no_first ∙ no_first_lines [] declared refl in
    let none_matter : front_matter_count (front_matter_of style) behind ≡ 0 =
    ap (λ (o : Option FrontMatterForm). front_matter_count o behind) no_matter in
    record {
      prefix =
          ap (λ (n : ℕ). shebang ++ (declaration ++ (take n declared ++ front_matter_in style behind))) none_first
          ∙ ap (λ (n : ℕ). shebang ++ (declaration ++ take n behind)) none_matter
          ∙ ap (λ (xs : PlacedLines). shebang ++ xs) (append-nil declaration);
      body = ap (λ (n : ℕ). drop n behind) none_matter ∙ ap (λ (n : ℕ). drop n declared) none_first;
    }
