-- One text more behind others, as a writer is given them.
use Rattle.std.proofs.Common.{◌<◌, ◌+◌, ℕ, List, [], ◌∷◌, ◌++◌, Option, Some, None, length, take, refl, sym, ◌∙◌, ap}
use Rattle.std.proofs.Common.{append_assoc, append-nil, get_or, subst, ◌≡◌}
use Rattle.std.proofs.lemmas.List.{take_more}
use Rattle.std.proofs.KnownBytes.{Appends-trans}
use Rattle.std.specs.Io.KnownBytes.{Appends}
use Rattle.reuse_shown.specs.JoinedTexts.{AreJoined, AppendsSome}

-- nothing is written
pub appends_none : (known : Option (List ℕ)) → Appends known known []
appends_none None = tt
appends_none (Some xs) = sym (append-nil xs)

AreJoined-push : {A : Type 0} (IsText : A → List ℕ → Type 0) (xs : List A) (x : A) (text line : List ℕ)
    → AreJoined IsText xs text → IsText x line
    → AreJoined IsText (xs ++ x ∷ []) (text ++ line)
AreJoined-push IsText [] x text line none one =
    (line, ([], (one, (refl, ap (λ l. l ++ line) none ∙ sym (append-nil line)))))
AreJoined-push IsText (first ∷ xs) x text line all one = (
  all.0,
  (
    all.1.0 ++ line,
    (
      all.1.1.0,
      (
        AreJoined-push IsText xs x all.1.0 line all.1.1.1.0 one,
        ap (λ l. l ++ line) all.1.1.1.1 ∙ append_assoc all.0 all.1.0 line,
      ),
    ),
  ),
)

-- with one more
pub AppendsSome-row : {A : Type 0} (IsText : A → List ℕ → Type 0) (old mid new : Option (List ℕ)) (xs : List A) (i : ℕ)
    (x : A) → i < length xs → x ≡ get_or xs i x
    → AppendsSome old mid (AreJoined IsText (take i xs)) → AppendsSome mid new (IsText x)
    → AppendsSome old new (AreJoined IsText (take (i + 1) xs))
AppendsSome-row IsText old mid new xs i x h is all one =
    let line = subst (λ (y : _). IsText y one.0) is one.1.0 in
    subst (λ l. AppendsSome old new (AreJoined IsText l)) (sym (take_more xs i x h)) (
      all.0 ++ one.0,
      (
        AreJoined-push IsText (take i xs) (get_or xs i x) all.0 one.0 all.1.0 line,
        Appends-trans old mid new all.0 one.0 all.1.1 one.1.1,
      ),
    )
