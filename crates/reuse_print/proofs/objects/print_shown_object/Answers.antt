use Rattle.std.proofs.Common.{◌≡◌, false, refl, sym, subst}
use Rattle.serde_json.specs.Written.{has_float}
use Rattle.reuse_print.specs.Objects.{IsShownObject}
use Rattle.reuse_print.proofs.ObjectLemmas.{printed_as, shown_no_float}
use Rattle.reuse_print.proofs.objects.print_shown_object.Goals as goal

pub print_value-requires : goal.print_value-requires
print_value-requires g c =
    subst (λ v. has_float v ≡ false) (sym c.in_ok-value.ensures) (shown_no_float c.args.shown.now c.date_of.result)

pub returns : goal.returns
returns g c =
    printed_as (IsShownObject c.args.shown.now) _ _ _ _ c.print_value.result c.in_ok-value.ensures
    (c.date_of.result, (c.date_of.ensures, refl)) c.print_value.ensures
