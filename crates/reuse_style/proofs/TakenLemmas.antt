-- Values that are taken off the front of a table stood there, and those that stand there are taken off.
use Rattle.std.proofs.Common.{◌≡◌, ℕ, Bool, true, false, cond, List, Option, Some, None, refl, ap, ◌∙◌}
use Rattle.std.specs.Str.{bytes_eq}
use Rattle.std.proofs.lemmas.Slice.Eq.{bytes_eq-Decides}
use Rattle.toml.specs.Data.{Data, Members, no_members, member}
use Rattle.reuse_style.specs.Taken.{with_value, value_before, take_value}

-- whether the first member has a key
unfoldable pub begins : List ℕ → Members → Bool
begins key no_members = false
begins key (member name value others) = bytes_eq name key

module _ {A : Type 0} (read : Data → Option A) (written : A → Data) where
  -- a value that is taken off stood in front, where what is read is written so
  pub taken_value : ((value : Data) (x : A) → read value ≡ Some x → value ≡ written x) → (key : List ℕ) (ms : Members)
      → ms ≡ with_value written key (take_value read key ms).0 (take_value read key ms).1
  unfolding take_value
  taken_value is key no_members = refl
  taken_value is key (member name value others) = by (bytes_eq name key) refl (read value) refl
    where
      of : Option A → Option A × Members
      of o = value_before o (member name value others) others

      by : (b : Bool) → bytes_eq name key ≡ b → (o : Option A) → read value ≡ o
          → member name value others ≡ with_value written key (of (cond b o None)).0 (of (cond b o None)).1
      by false b o e = refl
      by true b None e = refl
      by true b (Some x) e = ap (λ (k : List ℕ). member k value others) ((bytes_eq-Decides name key).0 b)
          ∙ ap (λ (v : Data). member key v others) (is value x e)

  nothing_taken : (key : List ℕ) (ms : Members) → begins key ms ≡ false → take_value read key ms ≡ (None, ms)
  unfolding take_value begins
  nothing_taken key no_members e = refl
  nothing_taken key (member name value others) e =
      ap (λ (b : Bool). value_before (cond b (read value) None) (member name value others) others) e

  -- a value that stands in front is taken off
  pub takes_value : ((x : A) → read (written x) ≡ Some x) → (key : List ℕ) (o : Option A) (others : Members)
      → begins key others ≡ false → take_value read key (with_value written key o others) ≡ (o, others)
  unfolding take_value
  takes_value is key None others e = nothing_taken key others e
  takes_value is key (Some x) others e =
      let all = member key (written x) others in
      ap (λ (b : Bool). value_before (cond b (read (written x)) None) all others) ((bytes_eq-Decides key key).1 refl)
      ∙ ap (λ (o : Option A). value_before o all others) (is x)

pub passes_value : {A : Type 0} (written : A → Data) (key other : List ℕ) (o : Option A) (others : Members)
    → bytes_eq other key ≡ false → begins key others ≡ false → begins key (with_value written other o others) ≡ false
unfolding begins
passes_value written key other None others differs behind = behind
passes_value written key other (Some x) others differs behind = differs
