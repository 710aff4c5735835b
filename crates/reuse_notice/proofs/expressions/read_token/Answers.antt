-- Each test before the last form of a token fails.
use Rattle.std.proofs.Common.{◌≡◌, ℕ, false, List, drop, take, nat_eq, sym, ap, ◌∙◌}
use Rattle.std.specs.Prelude.{◌==◌, codes}
use Rattle.std.specs.List.{starts_with}
use Rattle.std.proofs.lemmas.Bool.{ne_eqb}
use Rattle.std.proofs.lemmas.List.{take_rest}
use Rattle.reuse_notice.specs.Expressions.{word_len, word_token, token_at}
use Rattle.reuse_notice.proofs.expressions.read_token.Goals as goal

word-at : (bytes : List ℕ) → starts_with nat_eq bytes (codes "(") ≡ false → starts_with nat_eq bytes (codes ")") ≡ false
    → (word_len bytes == 0) ≡ false
    → starts_with nat_eq (drop (word_len bytes) bytes) (codes "+") ≡ false
    → token_at bytes ≡ word_token (take (word_len bytes) bytes)
word-at bytes opens closes empty more = rw (opens, closes, empty, more)

pub returns-else-starts_with-3 : goal.returns-else-starts_with-3
returns-else-starts_with-3 c =
    let bytes = c.args.bytes.now in
    let count = c.count_word-len.ensures.count in
    c.name_word.ensures ∙ ap (λ n. word_token (take n bytes)) count
    ∙ sym (word-at bytes (sym c.starts_with.ensures.value ∙ c.if-starts_with.false)
    (sym c.starts_with-else-starts_with.ensures.value ∙ c.if-starts_with-2.false)
    (ap (λ n. n == 0) (sym count) ∙ ne_eqb _ 0 c.if-len-eq0.false)
    (ap (λ n. starts_with nat_eq (drop n bytes) (codes "+")) (sym count)
    ∙ ap (λ t. starts_with nat_eq t (codes "+")) (sym (take_rest bytes c.count_word-len.result))
    ∙ sym c.starts_with-else-len-eq0.ensures.value ∙ c.if-starts_with-3.false))
