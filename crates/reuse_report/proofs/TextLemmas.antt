-- The texts of ids, one id more.
use Rattle.std.proofs.Common.{◌≡◌, ◌<◌, ◌+◌, ◌∙◌, ℕ, Bool, true, false, cond, List, [], ◌∷◌, ◌++◌, Some, None, ap, refl}
use Rattle.std.proofs.Common.{sym, get_or, length, map, take, append-nil}
use Rattle.std.specs.Prelude.{filter_map}
use Rattle.std.specs.List.{cons_option}
use Rattle.std.specs.Str.{IsUtf8}
use Rattle.std.proofs.lemmas.List.{map-append, take_more}
use Rattle.std.proofs.lemmas.List.Elements.{filter_map-append}
use Rattle.reuse_edit.specs.Licence.{is_id}
use Rattle.reuse_command.specs.declared.licence.LicenceText.{LicenceText}
use Rattle.reuse_edit.proofs.LicenceLemmas.{no_id}
use Rattle.reuse_report.specs.Texts.{licence_named, licences_among}

-- bytes that are no text are no licence's
pub none_named : (id : List ℕ) → ¬ (IsUtf8 id) → None ≡ licence_named id
none_named id h = sym (ap (λ b. cond b (Some id) None) (no_id id h))

-- who is named is named as it is
same_name : (id name : List ℕ) → licence_named id ≡ Some name → licence_named id ≡ Some id
same_name id name h = go (is_id id) refl h
  where
    go : (b : Bool) → is_id id ≡ b → cond b (Some id) None ≡ Some name → cond b (Some id) None ≡ Some id
    go true is e = refl
    go false is e = cc

one_more : (ids : List (List ℕ)) (i : ℕ) (id : List ℕ) → i < length ids → id ≡ get_or ids i id → licences_among
    (take (i + 1) ids) ≡ licences_among (take i ids) ++ filter_map licence_named (id ∷ [])
one_more ids i id h is =
    ap (filter_map licence_named) (take_more ids i id h) ∙ filter_map-append licence_named (take i ids)
    (get_or ids i id ∷ [])
    ∙ ap (λ x. licences_among (take i ids) ++ filter_map licence_named (x ∷ [])) (sym is)

pub text_more : (ids : List (List ℕ)) (i : ℕ) (id name : List ℕ) (text : LicenceText) (old new : List LicenceText)
    → i < length ids → id ≡ get_or ids i id
    → map (λ (t : LicenceText). t.id) old ≡ licences_among (take i ids) → licence_named id ≡ Some name → text.id ≡ id
    → new ≡ old ++ text ∷ []
    → map (λ (t : LicenceText). t.id) new ≡ licences_among (take (i + 1) ids)
text_more ids i id name text old new h is so_far named same e =
    ap (map (λ (t : LicenceText). t.id)) e ∙ map-append (λ (t : LicenceText). t.id) old (text ∷ []) ∙ ap
    (λ l. l ++ text.id ∷ []) so_far
    ∙ ap (λ x. licences_among (take i ids) ++ x ∷ []) same
    ∙ sym (one_more ids i id h is ∙ ap (λ o. licences_among (take i ids) ++ cons_option o []) (same_name id name named))

pub no_text_more : (ids : List (List ℕ)) (i : ℕ) (id : List ℕ) (old new : List LicenceText) → i < length ids → id
    ≡ get_or ids i id
    → map (λ (t : LicenceText). t.id) old ≡ licences_among (take i ids) → licence_named id ≡ None → new ≡ old → map
    (λ (t : LicenceText). t.id) new ≡ licences_among (take (i + 1) ids)
no_text_more ids i id old new h is so_far named e =
    ap (map (λ (t : LicenceText). t.id)) e ∙ so_far
    ∙ sym (one_more ids i id h is ∙ ap (λ o. licences_among (take i ids) ++ cons_option o []) named ∙ append-nil
    (licences_among (take i ids)))
