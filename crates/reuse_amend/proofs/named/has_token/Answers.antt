use Rattle.std.proofs.Common.{◌≡◌, ◌<◌, ◌∙◌, sym, ap, length, take, true, false, rules}
use Rattle.std.specs.Str.{bytes_eq}
use Rattle.reuse_notice.specs.Expressions.{token_len}
use Rattle.reuse_amend.specs.Named.{has_token}
use Rattle.reuse_amend.proofs.NamedLemmas.{has-more, has-stop, has-end}
use Rattle.reuse_amend.proofs.named.has_token.Goals as goal

pub returns-then-eq : goal.returns-then-eq
returns-then-eq c =
    let rest = c.loop-token.rest.now in
    let token = c.args.token.now in
    let low : 0 < length rest = search rules in
    let found : bytes_eq (take (token_len rest) rest) token ≡ true =
    ap (λ t. bytes_eq t token) (sym c.front_token.ensures) ∙ sym c.eq.ensures ∙ c.if-eq.true in
    has-stop token rest (has_token token c.args.text.now) low found c.loop-token.invariant

pub loop-token-preserved : goal.loop-token-preserved
loop-token-preserved c =
    let rest = c.loop-token.rest.now in
    let token = c.args.token.now in
    let low : 0 < length rest = search rules in
    let other : bytes_eq (take (token_len rest) rest) token ≡ false =
    ap (λ t. bytes_eq t token) (sym c.front_token.ensures) ∙ sym c.eq.ensures ∙ c.if-eq.false in
    ap (has_token token) c.after_token-rest.ensures.rest
    ∙ has-more token rest (has_token token c.args.text.now) low other c.loop-token.invariant

pub returns : goal.returns
returns c =
    let none : length c.loop-token.rest.now ≡ 0 = search rules in
    has-end c.args.token.now c.loop-token.rest.now (has_token c.args.token.now c.args.text.now) none
    c.loop-token.invariant
