use Rattle.std.proofs.Common.{Option, drop, take, sym, ap, subst, ◌∙◌, List, ℕ}
use Rattle.std.specs.Option.{option_or}
use Rattle.reuse_text.specs.declared.Line.{Line}
use Rattle.reuse_text.specs.Text.{file_lines}
use Rattle.reuse_text.specs.Lines.{lines_left}
use Rattle.reuse_style.specs.Marks.{FrontMatterForm}
use Rattle.reuse_header.specs.Body.{PlacedLines, is_shebang, is_declaration, without_first, first_lines_count}
use Rattle.reuse_header.specs.Body.{front_matter_count}
use Rattle.reuse_header.specs.Annotation.{first_if, prefix_lines}
use Rattle.reuse_header.specs.Passed.{IsLastOf}
use Rattle.reuse_header.proofs.PrefixLemmas.{last_of_prefix}
use Rattle.reuse_header.proofs.prefix.pass_prefix.Goals as goal

pub returns-clause-last : goal.returns-clause-last
returns-clause-last c =
    let style = c.args.style.now in
    let shebang = c.pass_shebang-shebang.result in
    let declaration = c.pass_declaration-declaration.result in
    let first = c.pass_first_lines-first.result in
    let matter = c.pass_front_matter-matter.result in
    let behind = c.pass_shebang-shebang.ensures.rest ∙ ap (without_first is_shebang) c.new.ensures in
    let declared = c.pass_declaration-declaration.ensures.rest ∙ ap (without_first (is_declaration style)) behind in
    let left =
    c.pass_first_lines-first.ensures.rest
    ∙ ap (λ (bs : List (List ℕ)). drop (first_lines_count bs (lines_left declaration.rest)) (lines_left declaration.rest))
    c.first_lines.ensures
    ∙ ap (λ (xs : PlacedLines). drop (first_lines_count style.marks.first_lines xs) xs) declared in
    let f = subst (λ (xs : PlacedLines). IsLastOf first.last (take (first_lines_count style.marks.first_lines xs) xs))
    declared (subst (λ (bs : List (List ℕ)). IsLastOf first.last
    (take (first_lines_count bs (lines_left declaration.rest)) (lines_left declaration.rest)))
    c.first_lines.ensures c.pass_first_lines-first.ensures.last) in
    let m = subst (λ (o : Option FrontMatterForm). IsLastOf matter.last
    (take (front_matter_count o (lines_left first.rest)) (lines_left first.rest)))
    c.front_matter.ensures c.pass_front_matter-matter.ensures.last in
    let same =
    c.or-3.ensures ∙ ap (λ (o : Option Line). option_or o shebang.last)
    (c.or-2.ensures ∙ ap (λ (o : Option Line). option_or o declaration.last) c.or.ensures) in
    subst (λ (o : Option Line). IsLastOf o (prefix_lines style (file_lines c.args.file.now))) (sym same)
    (last_of_prefix style (file_lines c.args.file.now) (lines_left shebang.rest) (lines_left first.rest) shebang.last
    declaration.last first.last matter.last behind left
    (c.pass_shebang-shebang.ensures.last ∙ ap (first_if is_shebang) c.new.ensures)
    c.pass_declaration-declaration.ensures.last f m)
