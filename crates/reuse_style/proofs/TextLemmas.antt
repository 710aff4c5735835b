-- Texts that are taken off the front of a table stood there, and those that stand there are taken off.
use Rattle.std.proofs.Common.{◌≡◌, ℕ, Bool, true, false, cond, List, Option, Some, None, refl, ap}
use Rattle.std.specs.Str.{bytes_eq}
use Rattle.std.proofs.lemmas.Slice.Eq.{bytes_eq-Decides}
use Rattle.toml.specs.Data.{string, integer, float, boolean, datetime, array, table, Members, no_members, member}
use Rattle.reuse_style.specs.Taken.{with_text, take_text, is_done}
use Rattle.reuse_style.proofs.TakenLemmas.{begins}

-- what is taken off stood in front
pub taken : (key : List ℕ) (ms : Members) → ms ≡ with_text key (take_text key ms).0 (take_text key ms).1
unfolding take_text
taken key no_members = refl
taken key (member name (string text) others) = by (bytes_eq name key) refl
  where
    of : Bool → Option (List ℕ) × Members
    of b = cond b (Some text, others) (None, member name (string text) others)

    by : (b : Bool) → bytes_eq name key ≡ b → member name (string text) others ≡ with_text key (of b).0 (of b).1
    by true e = ap (λ (k : List ℕ). member k (string text) others) ((bytes_eq-Decides name key).0 e)
    by false e = refl
taken key (member name (integer z) others) = refl
taken key (member name (float x) others) = refl
taken key (member name (boolean b) others) = refl
taken key (member name (datetime d) others) = refl
taken key (member name (array ds) others) = refl
taken key (member name (table ms) others) = refl

pub passes : (key other : List ℕ) (text : Option (List ℕ)) (others : Members) → bytes_eq other key ≡ false
    → begins key others ≡ false → begins key (with_text other text others) ≡ false
unfolding begins
passes key other None others differs behind = behind
passes key other (Some text) others differs behind = differs

nothing_taken : (key : List ℕ) (ms : Members) → begins key ms ≡ false → take_text key ms ≡ (None, ms)
unfolding take_text begins
nothing_taken key no_members e = refl
nothing_taken key (member name (string text) others) e =
    ap (λ (b : Bool). cond b (Some text, others) (None, member name (string text) others)) e
nothing_taken key (member name (integer z) others) e = refl
nothing_taken key (member name (float x) others) e = refl
nothing_taken key (member name (boolean b) others) e = refl
nothing_taken key (member name (datetime d) others) e = refl
nothing_taken key (member name (array ds) others) e = refl
nothing_taken key (member name (table ms) others) e = refl

-- what stands in front is taken off
pub takes : (key : List ℕ) (text : Option (List ℕ)) (others : Members) → begins key others ≡ false
    → take_text key (with_text key text others) ≡ (text, others)
unfolding take_text
takes key None others e = nothing_taken key others e
takes key (Some text) others e = ap (λ (b : Bool). cond b (Some text, others) (None, member key (string text) others))
    ((bytes_eq-Decides key key).1 refl)

pub done : (ms : Members) → is_done ms ≡ true → ms ≡ no_members
done no_members e = refl
done (member name value others) e = absurd (let no : ⊥ = cc e in no)
