use Rattle.std.specs.Prelude.{codes, nat_eq}
use Rattle.std.proofs.Common.{◌∙◌, ◌||◌, ◌&&◌, drop, sym, ap, ap₂}
use Rattle.std.proofs.lemmas.List.{take_rest}
use Rattle.std.specs.List.{starts_with}
use Rattle.reuse_system.specs.Ignored.{is_number}
use Rattle.reuse_system.proofs.ignored.is_beside_name.Goals as goal

pub returns-then-starts_with : goal.returns-then-starts_with
returns-then-starts_with c =
    c.is_number.ensures ∙ ap is_number (take_rest c.as_bytes-bytes.result.now 16)
    ∙ ap (λ b. is_number (drop 16 b)) c.as_bytes-bytes.ensures.value
    ∙ sym (ap₂ (λ a b. a || b) (sym c.eq.ensures ∙ c.if-eq.false)
    (ap (λ a. a && is_number (drop 16 c.args.name.now)) (ap (λ b. starts_with nat_eq b (codes ".reuse-undo-new."))
    (sym c.as_bytes-bytes.ensures.value) ∙ sym c.starts_with.ensures.value ∙ c.if-starts_with.true)))
