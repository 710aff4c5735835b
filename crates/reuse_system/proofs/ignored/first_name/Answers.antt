-- The names are what stands between the slashes.
use Rattle.std.proofs.Common.{◌≡◌, false, ◌==◌, Some, None, refl, lit<}
use Rattle.std.proofs.lemmas.Bool.{ne_eqb}
use Rattle.std.proofs.lemmas.List.Elements.{All-from_get_or}
use Rattle.std.proofs.lemmas.List.Splits.{slice_split_at, slice_split_none}
use Rattle.std.proofs.lemmas.Str.Pattern.{split_parts}
use Rattle.reuse_system.proofs.ignored.first_name.Goals as goal

pub returns-in-Some-clause-names : goal.returns-in-Some-clause-names
returns-in-Some-clause-names c =
    let parts =
    split_parts 47 c.args.path.now (Some (c.in-Some.name, c.in-Some.rest)) c.in-Some.ensures.cases (lit< tt) in
    rw parts.0 (slice_split_at _ _ 47 _
    (All-from_get_or (λ byte. (byte == 47) ≡ false) _ 0 (λ i lt. ne_eqb _ 47 (parts.1 i lt))) refl)

pub returns-in-None-clause-names : goal.returns-in-None-clause-names
returns-in-None-clause-names c =
    let lacks = split_parts 47 c.args.path.now None c.in-None.ensures.cases (lit< tt) in
    slice_split_none _ _ (All-from_get_or (λ byte. (byte == 47) ≡ false) _ 0 (λ i lt. ne_eqb _ 47 (lacks i lt)))
