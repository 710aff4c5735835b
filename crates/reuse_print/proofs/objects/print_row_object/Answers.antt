use Rattle.std.proofs.Common.{◌≡◌, false, refl, sym, subst}
use Rattle.serde_json.specs.Written.{has_float}
use Rattle.reuse_print.specs.Objects.{IsRowObject}
use Rattle.reuse_print.proofs.ObjectLemmas.{printed_as, row_no_float}
use Rattle.reuse_print.proofs.objects.print_row_object.Goals as goal

pub print_value-requires : goal.print_value-requires
print_value-requires g c =
    subst (λ v. has_float v ≡ false) (sym c.in_ok-value.ensures) (row_no_float c.args.row.now c.date_of.result)

pub returns : goal.returns
returns g c =
    printed_as (IsRowObject c.args.row.now) _ _ _ _ c.print_value.result c.in_ok-value.ensures
    (c.date_of.result, (c.date_of.ensures, refl)) c.print_value.ensures
