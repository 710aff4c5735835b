-- A map of the rows of names: one name more, and its values, which are the rows.
use Rattle.std.proofs.Common.{◌≡◌, ◌∙◌, ℕ, ◌+◌, Bool, true, false, cond, List, [], ◌∷◌, ◌++◌, map, length}
use Rattle.std.proofs.Common.{◌<◌, take, get_or, Option, Some, None, refl, sym, ap, subst, inl, inr, ◌⊎◌}
use Rattle.std.proofs.lemmas.List.{take_more, map-append}
use Rattle.std.specs.Prelude.{find, count_by, IsSome, Contains}
use Rattle.std.specs.declared.cmp.Ordering.TheVariants.{Greater}
use Rattle.std.specs.BTreeMap.{BTreeMap, is_at, get, IsOrdered}
use Rattle.std.specs.Cmp.Lexicographic.{nat_list_cmp_total}
use Rattle.std.specs.List.{filter_map, cons_option}
use Rattle.std.specs.List.Sorted.{IsStrictlySortedBy}
use Rattle.std.specs.Map.{keys_of, values_of, lookup}
use Rattle.std.specs.Ordering.{is_eq, ordering_reverse}
use Rattle.std.specs.Str.{str_to_ascii_lowercase}
use Rattle.std.proofs.lemmas.Bool.{cases_Bool as truth, false≢true}
use Rattle.std.proofs.lemmas.Cmp.{tied_itself}
use Rattle.std.proofs.lemmas.Map.Lookups.{exact_bytes}
use Rattle.std.proofs.lemmas.Map.Text.{is_eq-slice_cmp}
use Rattle.std.proofs.lemmas.Map.Views.{btree_map_contains_key_iff}
use Rattle.std.proofs.lemmas.Slice.Eq.{bytes_eq-Decides}
use Rattle.reuse_notice.specs.Sets.{byte_order, set_of}
use Rattle.reuse_notice.proofs.SetLemmas.{In, In-from_contains, Contains-from_in, above, sorted-head, sorted-tail}
use Rattle.reuse_notice.proofs.SetLemmas.{set_of-sorted}
use Rattle.reuse_ready.specs.declared.name_count.NameCount.{NameCount}
use Rattle.reuse_ready.specs.Counted.{IsCounted}
use Rattle.reuse_ready.specs.Tally.{is_spelling, name_of, row_of, rows_of}
use Rattle.reuse_ready.proofs.RowLemmas.{more, row_by, row_more}

-- ---- one name more

pub counted_none : (rows : BTreeMap (List ℕ) NameCount) → rows.entries ≡ [] → IsOrdered byte_order rows
    → IsCounted rows []
counted_none rows e ordered = record {
  ordered = ordered;
  counted = λ lowered. ap (lookup (is_at (byte_order lowered))) e;
}

pub counted_more : (rows new : BTreeMap (List ℕ) NameCount) (names : List (List ℕ)) (name : List ℕ) (row : NameCount)
    → IsCounted rows names → row ≡ more name (get byte_order rows (str_to_ascii_lowercase name))
    → ((lowered : List ℕ) → get byte_order new lowered ≡ cond
    (is_at (byte_order (str_to_ascii_lowercase name)) lowered) (Some row) (get byte_order rows lowered))
    → IsOrdered byte_order new → IsCounted new (names ++ name ∷ [])
counted_more rows new names name row before is updates ordered = record { ordered = ordered; counted = counted }
  where
    counted : (lowered : List ℕ) → get byte_order new lowered ≡ row_of (names ++ name ∷ []) lowered
    counted lowered =
        updates lowered
        ∙ ap (λ (b : Bool). cond b (Some row) (get byte_order rows lowered))
        (is_eq-slice_cmp (str_to_ascii_lowercase name) lowered)
        ∙ by (truth (is_spelling lowered name)) ∙ sym (row_more names name lowered)
      where
        by : ((is_spelling lowered name ≡ true) ⊎ (is_spelling lowered name ≡ false))
            → cond (is_spelling lowered name) (Some row) (get byte_order rows lowered) ≡ cond (is_spelling lowered name)
            (Some (more name (row_of names lowered))) (row_of names lowered)
        by (inl t) =
            let same : str_to_ascii_lowercase name ≡ lowered =
            (bytes_eq-Decides (str_to_ascii_lowercase name) lowered).0 t in
            let found : row ≡ more name (row_of names lowered) =
            is ∙ ap (λ (o : Option NameCount). more name o) (ap (get byte_order rows) same ∙ before.counted lowered) in
            rw t (ap (λ (r : NameCount). Some r) found)
        by (inr f) = rw f (before.counted lowered)

-- the same by another spelling of the name in lower case
pub counted_at : (rows new : BTreeMap (List ℕ) NameCount) (names : List (List ℕ)) (name key : List ℕ) (row : NameCount)
    → key ≡ str_to_ascii_lowercase name → IsCounted rows names → row ≡ more name (get byte_order rows key)
    → ((lowered : List ℕ) → get byte_order new lowered
    ≡ cond (is_at (byte_order key) lowered) (Some row) (get byte_order rows lowered))
    → IsOrdered byte_order new → IsCounted new (names ++ name ∷ [])
counted_at rows new names name key row same before is updates ordered =
    counted_more rows new names name row before (is ∙ ap (λ k. more name (get byte_order rows k)) same)
    (λ lowered. updates lowered
    ∙ ap (λ k. cond (is_at (byte_order k) lowered) (Some row) (get byte_order rows lowered)) same) ordered

-- ---- the values

-- a name is found where a spelling of it is there
spelled : (names : List (List ℕ)) (lowered : List ℕ) → In lowered (map str_to_ascii_lowercase names)
    → IsSome (find (is_spelling lowered) names)
spelled [] lowered h = absurd h
spelled (name ∷ names) lowered h = by (truth (is_spelling lowered name)) h (spelled names lowered)
  where
    by : ((is_spelling lowered name ≡ true) ⊎ (is_spelling lowered name ≡ false))
        → In lowered (map str_to_ascii_lowercase (name ∷ names))
        → (In lowered (map str_to_ascii_lowercase names) → IsSome (find (is_spelling lowered) names))
        → IsSome (find (is_spelling lowered) (name ∷ names))
    by (inl t) k rest = rw t refl
    by (inr f) (inl e) rest =
        absurd (false≢true (sym f ∙ (bytes_eq-Decides (str_to_ascii_lowercase name) lowered).1 (sym e)))
    by (inr f) (inr k) rest = rw f (rest k)

found_in : (names : List (List ℕ)) (lowered : List ℕ) → IsSome (find (is_spelling lowered) names)
    → In lowered (map str_to_ascii_lowercase names)
found_in [] lowered h = absurd (false≢true h)
found_in (name ∷ names) lowered h = by (is_spelling lowered name) refl h (found_in names lowered)
  where
    by : (b : Bool) → is_spelling lowered name ≡ b → IsSome (cond b (Some name) (find (is_spelling lowered) names))
        → (IsSome (find (is_spelling lowered) names) → In lowered (map str_to_ascii_lowercase names))
        → In lowered (map str_to_ascii_lowercase (name ∷ names))
    by true t k rest = inl (sym ((bytes_eq-Decides (str_to_ascii_lowercase name) lowered).0 t))
    by false f k rest = inr (rest k)

-- a row is there where a name is found
row_from : (first : Option (List ℕ)) (n : ℕ) → IsSome first → IsSome (row_by first n)
row_from None n h = absurd (false≢true h)
row_from (Some name) n h = refl

from_row : (first : Option (List ℕ)) (n : ℕ) → IsSome (row_by first n) → IsSome first
from_row None n h = absurd (false≢true h)
from_row (Some name) n h = refl

-- the values are what their keys have
values_by : (f : List ℕ → Option NameCount) (es : List (List ℕ × NameCount))
    → IsStrictlySortedBy byte_order (keys_of es)
    → ((key : List ℕ) → In key (keys_of es) → lookup (is_at (byte_order key)) es ≡ f key)
    → values_of es ≡ filter_map f (keys_of es)
values_by f [] s h = refl
values_by f (e ∷ es) s h =
    ap (λ (vs : List NameCount). e.1 ∷ vs)
    (values_by f es (sorted-tail e.0 (keys_of es) s) (λ key k. sym (behind key k) ∙ h key (inr k)))
    ∙ sym (ap (λ (o : Option NameCount). cons_option o (filter_map f (keys_of es))) head)
  where
    head : f e.0 ≡ Some e.1
    head = sym (h e.0 (inl refl)) ∙ ap (λ (b : Bool). cond b (Some e.1) (lookup (is_at (byte_order e.0)) es))
        (ap is_eq (tied_itself nat_list_cmp_total e.0))

    behind : (key : List ℕ) → In key (keys_of es)
        → lookup (is_at (byte_order key)) (e ∷ es) ≡ lookup (is_at (byte_order key)) es
    behind key k =
        let up = above e.0 (keys_of es) (sorted-head e.0 (keys_of es) s) key k in
        let down : byte_order key e.0 ≡ Greater =
        nat_list_cmp_total.antisymm key e.0 ∙ ap ordering_reverse up in
        ap (λ (b : Bool). cond b (Some e.1) (lookup (is_at (byte_order key)) es)) (ap is_eq down)

pub values_are : (rows : BTreeMap (List ℕ) NameCount) (names : List (List ℕ)) → IsCounted rows names
    → values_of rows.entries ≡ rows_of names
values_are rows names before =
    values_by (row_of names) rows.entries before.ordered (λ key k. before.counted key)
    ∙ ap (filter_map (row_of names)) keys_are
  where
    has_row : (key : List ℕ) → Contains (map str_to_ascii_lowercase names) key → Contains (keys_of rows.entries) key
    has_row key c = (btree_map_contains_key_iff nat_list_cmp_total exact_bytes rows key).0
        (subst (λ (o : Option NameCount). IsSome o) (sym (before.counted key))
        (row_from (find (is_spelling key) names) (count_by (is_spelling key) names)
        (spelled names key (In-from_contains (map str_to_ascii_lowercase names) key c))))

    has_name : (key : List ℕ) → Contains (keys_of rows.entries) key → Contains (map str_to_ascii_lowercase names) key
    has_name key c = Contains-from_in (map str_to_ascii_lowercase names) key
        (found_in names key (from_row (find (is_spelling key) names) (count_by (is_spelling key) names)
        (subst (λ (o : Option NameCount). IsSome o) (before.counted key)
        ((btree_map_contains_key_iff nat_list_cmp_total exact_bytes rows key).1 c))))

    keys_are : keys_of rows.entries ≡ set_of (map str_to_ascii_lowercase names)
    keys_are =
        set_of-sorted (map str_to_ascii_lowercase names) (keys_of rows.entries) before.ordered has_row has_name

-- the names of the paths up to one are those of the paths before it, and its own
pub counted_next : (new : BTreeMap (List ℕ) NameCount) (paths : List (List ℕ)) (i : ℕ) (d name : List ℕ)
    → i < length paths → name ≡ name_of (get_or paths i d) → IsCounted new (map name_of (take i paths) ++ name ∷ [])
    → IsCounted new (map name_of (take (i + 1) paths))
counted_next new paths i d name low is counted =
    subst (λ (names : List (List ℕ)). IsCounted new names)
    (ap (λ (n : List ℕ). map name_of (take i paths) ++ n ∷ []) is
    ∙ sym (ap (map name_of) (take_more paths i d low) ∙ map-append name_of (take i paths) (get_or paths i d ∷ [])))
    counted
