use Rattle.std.proofs.Common.{◌≡◌, ◌≢◌, ℕ, Bool, true, false, nat_le, length, if◌then◌else◌, List, Option, None, Some}
use Rattle.std.proofs.Common.{Err, is_some, rules, sym, ap, refl, ◌∙◌}
use Rattle.std.specs.FinMap.{get, keys}
use Rattle.std.proofs.lemmas.Bool.{false≢true, false_from_ne_true}
use Rattle.reuse_change.specs.Path.{is_path}
use Rattle.reuse_change.specs.Files.{Files, AreFiles}
use Rattle.reuse_change.specs.Listing.{is_among}
use Rattle.reuse_store.specs.Store.{reading_of}
use Rattle.reuse_store.specs.declared.store.Reading.{Reading}
use Rattle.reuse_store.specs.declared.store.Reading.TheVariants.{Absent, Found, TooLong}
use Rattle.reuse_store.proofs.TreeLemmas.{among_keys}
use Rattle.reuse_store.proofs.at_path.is_file_at.Goals as goal

-- a text that is no path is the path of no file
no_file : (files : Files) (text : List ℕ) → AreFiles files → is_path text ≡ false → false ≡ is_among (keys files) text
no_file files text are bad =
    sym (among_keys files text
    ∙ false_from_ne_true (is_some (get files text)) (λ there. false≢true (sym bad ∙ are.are_paths text there)))

not_absent : (b : Bool) (bytes : List ℕ) → Absent ≡ (if b then Found bytes else TooLong) → ⊥
not_absent true bytes e = cc
not_absent false bytes e = cc

absent : (file : Option (List ℕ)) (limit : ℕ) → Absent ≡ reading_of file limit → false ≡ is_some file
absent None limit is = refl
absent (Some bytes) limit is = absurd (not_absent (nat_le (length bytes) limit) bytes is)

found : (file : Option (List ℕ)) (limit : ℕ) (reading : Reading) → reading ≢ Absent → reading ≡ reading_of file limit
    → true ≡ is_some file
found None limit reading other is = absurd (other is)
found (Some bytes) limit reading other is = refl

pub returns-in-Err-BadPath-clause-file : goal.returns-in-Err-BadPath-clause-file
returns-in-Err-BadPath-clause-file g c honest =
    no_file (g.S.Store.files c.args.store.now) c.args.text.now (g.met.S.Store.are_files c.args.store.now honest)
    (c.new.ensures.bad.0 (c.in-Err-BadPath.is ∙ ap Err c.in-Err-BadPath.field-0-is))

pub returns-in-Absent-clause-file : goal.returns-in-Absent-clause-file
returns-in-Absent-clause-file g c honest =
    let files = g.S.Store.files c.args.store.now in
    absent (get files c.in-Ok.path) 0 (sym c.in-Absent.is ∙ c.in_ok-read.ensures.reading honest)
    ∙ ap (λ p. is_some (get files p)) c.in-Ok.ensures.ok ∙ sym (among_keys files c.args.text.now)

pub returns : goal.returns
returns g c =
    let files = g.S.Store.files c.args.store.now in
    record {
      file = λ honest.
          found (get files c.in-Ok.path) 0 c.in_ok-read.field-0 c.in_default.not-Absent
          (c.in_ok-read.ensures.reading honest)
          ∙ ap (λ p. is_some (get files p)) c.in-Ok.ensures.ok ∙ sym (among_keys files c.args.text.now);
      fails = search rules;
      reads = search rules;
    }
