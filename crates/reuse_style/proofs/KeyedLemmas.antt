-- Names in lower case as keys: what a binary search among them finds, and one more name in a map of them.
use Rattle.std.proofs.Common.{◌≡◌, ◌<◌, ◌+◌, ℕ, Bool, true, false, cond, List, [], ◌∷◌, ◌++◌, map, length, get_or}
use Rattle.std.proofs.Common.{Option, Some, None, Err, refl, sym, ap, ◌∙◌, subst, arith, inl, inr, Ordering}
use Rattle.std.specs.Prelude.{◌||◌, is_some}
use Rattle.std.specs.declared.cmp.Ordering.TheVariants.{Less, Equal, Greater}
use Rattle.std.specs.List.{list_any}
use Rattle.std.specs.List.Sorted.{IsStrictlySortedBy, IsSortedBy, IsBinarySearchResult}
use Rattle.std.specs.Map.{keys_of, lookup as found_by}
use Rattle.std.specs.BTreeMap.{BTreeMap, is_at, get, insert_entry}
use Rattle.std.specs.Option.{option_or}
use Rattle.std.specs.Ordering.{nat_cmp, is_eq, is_lt, ordering_reverse, match_ordering}
use Rattle.std.specs.Cmp.Lexicographic.{slice_cmp, nat_list_cmp_total, texts_ties}
use Rattle.std.specs.Str.{str_to_ascii_lowercase, str_eq_ignore_ascii_case, bytes_eq}
use Rattle.std.proofs.Math.Bool.{or-false}
use Rattle.std.proofs.lemmas.Bool.{cases_Bool as truth}
use Rattle.std.proofs.lemmas.Cmp.{eq_by_cmp_equiv}
use Rattle.std.proofs.lemmas.Slice.Eq.{bytes_eq-Decides}
use Rattle.std.proofs.lemmas.Str.Ascii.{lowercase-lowercase}
use Rattle.std.proofs.lemmas.List.{get_or-map, length-map}
use Rattle.std.proofs.lemmas.List.Folds.{list_any-append}
use Rattle.std.proofs.lemmas.List.Sorted.{searchable_from_sorted}
use Rattle.std.proofs.lemmas.Map.Keys.{Less-from_sorted, IsDistinct-from_sorted}
use Rattle.std.proofs.lemmas.Map.Entries.{lookup_from_place, lookup_at_gap}
use Rattle.std.proofs.lemmas.Map.Text.{is_eq-slice_cmp}
use Rattle.std.proofs.lemmas.Option.{slice_get-get_or, get_or_from_slice_get, slice_get_within}
use Rattle.reuse_style.specs.declared.style.Kind.{Kind}
use Rattle.reuse_style.specs.Names.{lookup}
use Rattle.reuse_style.specs.Keyed.{AreKeys, IsKeyed, Keyed}

-- ---- a binary search

-- a look-up by any case among keys in lower case is one by the name in lower case
pub lookup_lowered : (es : List (List ℕ × Kind)) (name : List ℕ) → map str_to_ascii_lowercase (keys_of es) ≡ keys_of es
    → lookup es name ≡ found_by (is_at (slice_cmp nat_cmp (str_to_ascii_lowercase name))) es
unfolding lookup
lookup_lowered [] name e = refl
lookup_lowered (entry ∷ es) name e =
    let key = str_to_ascii_lowercase name in
    let head : str_to_ascii_lowercase entry.0 ≡ entry.0 = cc in
    let tail : map str_to_ascii_lowercase (keys_of es) ≡ keys_of es = cc in
    let same : bytes_eq (str_to_ascii_lowercase entry.0) key ≡ is_eq (slice_cmp nat_cmp key entry.0) =
    ap (λ (k : List ℕ). bytes_eq k key) head ∙ texts_ties entry.0 key
    ∙ (eq_by_cmp_equiv nat_list_cmp_total).symm entry.0 key in
    ap (λ (b : Bool). cond b (Some entry.1) (lookup es name)) same
    ∙ ap (λ (o : Option Kind). cond (is_eq (slice_cmp nat_cmp key entry.0)) (Some entry.1) o)
    (lookup_lowered es name tail)

text_same : (xs ys : List ℕ) → slice_cmp nat_cmp xs ys ≡ Equal → xs ≡ ys
text_same xs ys e = (bytes_eq-Decides xs ys).0 (sym (is_eq-slice_cmp xs ys) ∙ ap is_eq e)

-- the entry that a search finds is the name's
pub own_found : (es : List (List ℕ × Kind)) (name : List ℕ) (i : ℕ) (d : List ℕ × Kind) → AreKeys es → i < length es
    → slice_cmp nat_cmp (get_or es i d).0 (str_to_ascii_lowercase name) ≡ Equal
    → lookup es name ≡ Some (get_or es i d).1
own_found es name i d keys low at =
    let e = get_or es i d in
    let here = lookup_from_place (eq_by_cmp_equiv nat_list_cmp_total) es i e.0 e.1
    (IsDistinct-from_sorted (slice_cmp nat_cmp) (keys_of es) keys.ordered) (slice_get-get_or es i d low) in
    lookup_lowered es name keys.lowered ∙ ap (λ (k : List ℕ). found_by (is_at (slice_cmp nat_cmp k)) es)
    (sym (text_same e.0 (str_to_ascii_lowercase name) at)) ∙ here

-- the keys do not fall
rising : (es : List (List ℕ × Kind)) → AreKeys es → IsSortedBy (λ a b. is_lt (slice_cmp nat_cmp a.0 b.0)) es
rising es keys k d low high =
    let size : length (keys_of es) ≡ length es = length-map es (λ (e : List ℕ × Kind). e.0) in
    let here = get_or-map (λ (e : List ℕ × Kind). e.0) es k d d.0 (omega arith) in
    let next = get_or-map (λ (e : List ℕ × Kind). e.0) es (k + 1) d d.0 (omega arith) in
    let less =
    Less-from_sorted (slice_cmp nat_cmp) (keys_of es) k (k + 1) d.0 keys.ordered (omega arith) (omega (arith, size)) in
    let less' : slice_cmp nat_cmp (get_or es k d).0 (get_or es (k + 1) d).0 ≡ Less = cc (here, next, less) in
    ap is_lt (nat_list_cmp_total.antisymm (get_or es (k + 1) d).0 (get_or es k d).0 ∙ ap ordering_reverse less')

-- where a search finds no entry, the name has none
pub own_missing : (es : List (List ℕ × Kind)) (name : List ℕ) (i : ℕ) → AreKeys es
    → IsBinarySearchResult (λ e. slice_cmp nat_cmp e.0 (str_to_ascii_lowercase name)) es (Err i) → lookup es name ≡ None
own_missing es name i keys found =
    let key = str_to_ascii_lowercase name in
    let parted =
    found (searchable_from_sorted nat_list_cmp_total (λ (e : List ℕ × Kind). e.0) es key (rising es keys)) in
    lookup_lowered es name keys.lowered
    ∙ lookup_at_gap nat_list_cmp_total key es i keys.ordered
    (λ j e low is. turned Greater e.0 (ap (λ (f : List ℕ × Kind). slice_cmp nat_cmp f.0 key)
    (sym (get_or_from_slice_get es j e e is)) ∙ parted.0 j e (omega arith) low))
    (λ e is. turned Less e.0 (ap (λ (f : List ℕ × Kind). slice_cmp nat_cmp f.0 key)
    (sym (get_or_from_slice_get es i e e is)) ∙ parted.1 i e (omega arith) (slice_get_within es i e is)))
  where
    turned : (o : Ordering) (k : List ℕ) → slice_cmp nat_cmp k (str_to_ascii_lowercase name) ≡ ordering_reverse o
        → slice_cmp nat_cmp (str_to_ascii_lowercase name) k ≡ o
    turned o k e = nat_list_cmp_total.antisymm (str_to_ascii_lowercase name) k ∙ ap ordering_reverse e ∙ twice o
      where
        twice : (o : Ordering) → ordering_reverse (ordering_reverse o) ≡ o
        twice Less = refl
        twice Equal = refl
        twice Greater = refl

-- ---- one more name

lower_twice : (xs : List ℕ) → str_to_ascii_lowercase (str_to_ascii_lowercase xs) ≡ str_to_ascii_lowercase xs
lower_twice [] = refl
lower_twice (x ∷ xs) = let a = lowercase-lowercase x in let b = lower_twice xs in cc

insert_lowered : (es : List (List ℕ × Kind)) (k : List ℕ) (v : Kind) → str_to_ascii_lowercase k ≡ k
    → map str_to_ascii_lowercase (keys_of es) ≡ keys_of es
    → map str_to_ascii_lowercase (keys_of (insert_entry (slice_cmp nat_cmp) es k v)) ≡ keys_of
    (insert_entry (slice_cmp nat_cmp) es k v)
insert_lowered [] k v low all = ap (λ (x : List ℕ). x ∷ []) low
insert_lowered (e ∷ es) k v low all =
    let head : str_to_ascii_lowercase e.0 ≡ e.0 = cc in
    let tail : map str_to_ascii_lowercase (keys_of es) ≡ keys_of es = cc in
    by (slice_cmp nat_cmp k e.0) head (insert_lowered es k v low tail)
  where
    by : (o : Ordering) → str_to_ascii_lowercase e.0 ≡ e.0 → map str_to_ascii_lowercase
        (keys_of (insert_entry (slice_cmp nat_cmp) es k v)) ≡ keys_of (insert_entry (slice_cmp nat_cmp) es k v)
        → map str_to_ascii_lowercase
        (keys_of (match_ordering o ((k, v) ∷ e ∷ es) ((e.0, v) ∷ es) (e ∷ insert_entry (slice_cmp nat_cmp) es k v)))
        ≡ keys_of (match_ordering o ((k, v) ∷ e ∷ es) ((e.0, v) ∷ es) (e ∷ insert_entry (slice_cmp nat_cmp) es k v))
    by Less head more = cc (low, all)
    by Equal head more = all
    by Greater head more = cc (head, more)

lookup_more : (es : List (List ℕ × Kind)) (name : List ℕ) (kind : Kind) (other : List ℕ)
    → lookup (es ++ (name, kind) ∷ []) other ≡ option_or (lookup es other)
    (cond (str_eq_ignore_ascii_case name other) (Some kind) None)
unfolding lookup
lookup_more [] name kind other = refl
lookup_more (e ∷ es) name kind other = elim (truth (str_eq_ignore_ascii_case e.0 other)) [
  | inl t ↦ rw t refl
  | inr f ↦ rw f (lookup_more es name kind other)
]

pub keyed_none : (names : BTreeMap (List ℕ) Kind) → names.entries ≡ []
    → IsStrictlySortedBy (slice_cmp nat_cmp) (keys_of names.entries) → Keyed names [] []
unfolding lookup
keyed_none names e ordered = record {
  own = record {
    keys = record {
      lowered =
          subst (λ (es : List (List ℕ × Kind)). map str_to_ascii_lowercase (keys_of es) ≡ keys_of es) (sym e) refl;
      ordered = ordered;
    };
    kinds = λ name. ap (found_by (is_at (slice_cmp nat_cmp (str_to_ascii_lowercase name)))) e;
  };
  held = λ name. refl;
}

-- a map with one more name, which it did not hold
pub keyed_more : (names new : BTreeMap (List ℕ) Kind) (earlier : List (List ℕ)) (entries : List (List ℕ × Kind))
    (name : List ℕ) (kind : Kind) → Keyed names earlier entries
    → get (slice_cmp nat_cmp) names (str_to_ascii_lowercase name) ≡ None
    → ((q : List ℕ) → get (slice_cmp nat_cmp) new q ≡ cond (is_at (slice_cmp nat_cmp (str_to_ascii_lowercase name)) q)
    (Some kind) (get (slice_cmp nat_cmp) names q))
    → new.entries ≡ insert_entry (slice_cmp nat_cmp) names.entries (str_to_ascii_lowercase name) kind
    → IsStrictlySortedBy (slice_cmp nat_cmp) (keys_of new.entries)
    → Keyed new (earlier ++ name ∷ []) (entries ++ (name, kind) ∷ [])
keyed_more names new earlier entries name kind before absent updates inserted ordered = record {
  own = record {
    keys = record {
      lowered =
          subst (λ (es : List (List ℕ × Kind)). map str_to_ascii_lowercase (keys_of es) ≡ keys_of es) (sym inserted)
          (insert_lowered names.entries (str_to_ascii_lowercase name) kind (lower_twice name) before.own.keys.lowered);
      ordered = ordered;
    };
    kinds = kinds;
  };
  held = λ other. ap is_some (lookup_more entries name kind other)
      ∙ either (lookup entries other) (str_eq_ignore_ascii_case name other)
      ∙ ap (λ (b : Bool). b || str_eq_ignore_ascii_case name other) (before.held other)
      ∙ sym (list_any-append (λ (o : List ℕ). str_eq_ignore_ascii_case o other) earlier (name ∷ [])
      ∙ ap (λ (b : Bool). list_any (λ o. str_eq_ignore_ascii_case o other) earlier || b)
      (or-false (str_eq_ignore_ascii_case name other)));
}
  where
    either : (o : Option Kind) (b : Bool) → is_some (option_or o (cond b (Some kind) None)) ≡ (is_some o || b)
    either None true = refl
    either None false = refl
    either (Some k) b = refl

    kinds : (other : List ℕ)
        → get (slice_cmp nat_cmp) new (str_to_ascii_lowercase other) ≡ lookup (entries ++ (name, kind) ∷ []) other
    kinds other = elim (truth (str_eq_ignore_ascii_case name other)) [
      | inl t ↦ (
          let same : str_to_ascii_lowercase name ≡ str_to_ascii_lowercase other =
          (bytes_eq-Decides (str_to_ascii_lowercase name) (str_to_ascii_lowercase other)).0 t in
          let none : lookup entries other ≡ None =
          sym (before.own.kinds other) ∙ ap (get (slice_cmp nat_cmp) names) (sym same) ∙ absent in
          updates (str_to_ascii_lowercase other)
          ∙ ap (λ (b : Bool). cond b (Some kind) (get (slice_cmp nat_cmp) names (str_to_ascii_lowercase other)))
          (is_eq-slice_cmp (str_to_ascii_lowercase name) (str_to_ascii_lowercase other) ∙ t)
          ∙ sym (lookup_more entries name kind other
          ∙ ap (λ (o : Option Kind). option_or o (cond (str_eq_ignore_ascii_case name other) (Some kind) None)) none
          ∙ ap (λ (b : Bool). cond b (Some kind) None) t)
          )
      | inr f ↦ (
          updates (str_to_ascii_lowercase other)
          ∙ ap (λ (b : Bool). cond b (Some kind) (get (slice_cmp nat_cmp) names (str_to_ascii_lowercase other)))
          (is_eq-slice_cmp (str_to_ascii_lowercase name) (str_to_ascii_lowercase other) ∙ f)
          ∙ before.own.kinds other
          ∙ sym (lookup_more entries name kind other ∙ ap
          (λ (b : Bool). option_or (lookup entries other) (cond b (Some kind) None)) f ∙ or_none (lookup entries other))
          )
    ]
      where
        or_none : (o : Option Kind) → option_or o None ≡ o
        or_none None = refl
        or_none (Some k) = refl

-- a look-up among the entries of the map is the own names' look-up
pub own_is : (names : BTreeMap (List ℕ) Kind) (own : List ℕ → Option Kind) → IsKeyed names own
    → lookup names.entries ≡ own
own_is names own keyed = λ i name. (lookup_lowered names.entries name keyed.keys.lowered ∙ keyed.kinds name) i
