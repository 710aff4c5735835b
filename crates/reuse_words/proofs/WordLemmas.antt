-- Words, one byte at a time.
use Rattle.std.proofs.Common.{◌≡◌, ℕ, Bool, true, false, List, [], ◌∷◌, ◌++◌, cond, sym, ap, ◌∙◌, append_assoc}
use Rattle.reuse_notice.specs.Tags.{is_blank}
use Rattle.reuse_words.specs.Words.{ends_word, spaced_words}

-- a space, where a word ends, and the words behind
spaced_if : (ends : Bool) (words behind : List ℕ) (b : ℕ)
    → (words ++ b ∷ cond ends (32 ∷ []) []) ++ behind ≡ words ++ (b ∷ cond ends (32 ∷ behind) behind)
spaced_if true words behind b = append_assoc words (b ∷ 32 ∷ []) behind
spaced_if false words behind b = append_assoc words (b ∷ []) behind

-- a blank adds nothing
pub words_pass : (b : ℕ) (bytes : List ℕ) → is_blank b ≡ true → spaced_words (b ∷ bytes) ≡ spaced_words bytes
unfolding spaced_words
words_pass b bytes e =
    ap (λ t. cond t (spaced_words bytes) (b ∷ cond (ends_word bytes) (32 ∷ spaced_words bytes) (spaced_words bytes))) e

-- another byte adds itself, and a space where its word ends
pub words_more : (words : List ℕ) (b : ℕ) (bytes : List ℕ) → is_blank b ≡ false
    → (words ++ b ∷ cond (ends_word bytes) (32 ∷ []) []) ++ spaced_words bytes ≡ words ++ spaced_words (b ∷ bytes)
unfolding spaced_words
words_more words b bytes e =
    spaced_if (ends_word bytes) words (spaced_words bytes) b
    ∙ ap (λ t. words ++ cond t (spaced_words bytes)
    (b ∷ cond (ends_word bytes) (32 ∷ spaced_words bytes) (spaced_words bytes))) (sym e)
