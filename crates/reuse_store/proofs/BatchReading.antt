-- Reading the files of a batch, one after the other.
use Rattle.std.proofs.Common.{◌≡◌, ℕ, ◌+◌, ◌<◌, Bool, true, false, cond, List, [], ◌∷◌, ◌++◌, length, map, take, get_or}
use Rattle.std.proofs.Common.{refl, sym, ap, subst, ◌∙◌, arith}
use Rattle.std.specs.FinMap.{get}
use Rattle.std.specs.List.{All}
use Rattle.std.proofs.lemmas.List.{take_more, map-append, length-take-le, length-map}
use Rattle.std.proofs.lemmas.List.Elements.{All-append, All-cons}
use Rattle.reuse_text.specs.declared.TheConstants.{LONGEST_FILE}
use Rattle.reuse_store.specs.Asked.{OnlyReads}
use Rattle.reuse_store.specs.Batch.{IsFrontOf, IsReadIn}
use Rattle.reuse_change.specs.Change.{path_of}
use Rattle.reuse_store.specs.Store.{reading_of}
use Rattle.reuse_change.specs.declared.change.Change.{Change}
use Rattle.reuse_store.specs.declared.apply_changes.ReadChange.{ReadChange}
use Rattle.reuse_store.specs.declared.store.Store.{Ghosts}
use Rattle.reuse_store.proofs.AskedLemmas.{reads_none, reads_more}

-- so many of the changes are read
pub record HasRead {S : Type 0} (store : Ghosts S) (changes : List Change) (old now : S) (batch : List ReadChange)
    (count : ℕ) : Type 0 where
  pub front : map (λ read. read.change.now) batch ≡ take count changes
  pub readings : store.honest now → All (IsReadIn (store.files old)) batch
  pub reads : OnlyReads store old now

module _ {S : Type 0} (store : Ghosts S) (changes : List Change) (old : S) where
  pub none_read : HasRead store changes old old [] 0
  none_read = record {
    front = refl;
    readings = λ honest i d lt. absurd (omega (arith, lt));
    reads = reads_none store old;
  }

  pub one_more : (i : ℕ) (lt : i < length changes) (read : ReadChange)
      (is : read.change.now ≡ get_or changes i read.change.now) (now next : S) (batch : List ReadChange)
      → HasRead store changes old now batch i
      → OnlyReads store now next
      → (store.honest next → read.reading ≡ reading_of (get (store.files now) (path_of read.change.now)) LONGEST_FILE)
      → HasRead store changes old next (batch ++ read ∷ []) (i + 1)
  one_more i lt read is now next batch so_far reads reading = record {
    front = map-append (λ r. r.change.now) batch (read ∷ []) ∙ ap (λ cs. cs ++ read.change.now ∷ []) so_far.front
        ∙ ap (λ c. take i changes ++ c ∷ []) is ∙ sym (take_more changes i read.change.now lt);
    readings =
        λ honest. All-append (IsReadIn (store.files old)) batch (read ∷ []) (so_far.readings (reads.was_honest honest))
        (here (subst (λ files. read.reading ≡ reading_of (get files (path_of read.change.now)) LONGEST_FILE)
        (so_far.reads.files (reads.was_honest honest)) (reading honest)));
    reads = reads_more store old now next so_far.reads reads;
  }
    where
      here : IsReadIn (store.files old) read → All (IsReadIn (store.files old)) (read ∷ [])
      here h = All-cons (IsReadIn (store.files old)) read [] h (λ i d lt. absurd (omega (arith, lt)))

  pub pushed : (i : ℕ) (lt : i < length changes) (read : ReadChange) (now next : S) (batch more : List ReadChange)
      (pushes : Bool) → more ≡ cond pushes (batch ++ read ∷ []) batch → pushes ≡ true
      → read.change.now ≡ get_or changes i read.change.now
      → HasRead store changes old now batch i → OnlyReads store now next
      → (store.honest next → read.reading ≡ reading_of (get (store.files now) (path_of read.change.now)) LONGEST_FILE)
      → HasRead store changes old next more (i + 1)
  pushed i lt read now next batch more true made e is so_far reads reading =
      subst (λ b. HasRead store changes old next b (i + 1)) (sym made)
      (one_more i lt read is now next batch so_far reads reading)
  pushed i lt read now next batch more false made e is so_far reads reading = absurd (cc)

  -- they are the front of the changes
  pub is_front : (i : ℕ) (now : S) (batch : List ReadChange) → HasRead store changes old now batch i
      → i < length changes + 1 → IsFrontOf changes batch × (length batch ≡ i)
  is_front i now batch so_far le =
      let count : length batch ≡ i = sym (length-map batch (λ r. r.change.now)) ∙ ap length so_far.front
      ∙ length-take-le i changes (omega (arith, le)) in
      (so_far.front ∙ ap (λ n. take n changes) (sym count), count)
