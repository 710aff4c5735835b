use Rattle.std.proofs.Common.{◌≡◌, ℕ, List, Bor, Option, None, Ok, sym, ap, subst, ◌∙◌}
use Rattle.std.specs.Prelude.{IfOk, IfErr}
use Rattle.std.proofs.lemmas.Bool.{false≢true}
use Rattle.toml.specs.View.{table_view}
use Rattle.reuse_style.specs.declared.style.Kind.{Kind}
use Rattle.reuse_style.specs.Keyed.{IsKeyed}
use Rattle.reuse_style.specs.StyleFile.{styles_in, IsRefused}
use Rattle.toml.specs.Parse.{parse_document}
use Rattle.reuse_text.proofs.Utf8Lemmas.{none_if_utf8}
use Rattle.reuse_style.proofs.StyleFileLemmas.{answer_by, answer_lent}
use Rattle.reuse_style.proofs.style_file.read_names.Goals as goal

pub returns-in-Err-clause-refused : goal.returns-in-Err-clause-refused
returns-in-Err-clause-refused c = ap (styles_in c.args.comments.now) (none_if_utf8 parse_document c.args.file.now
    (c.in-Err.ensures.refused (λ m. false≢true (sym c.if-is_memory.false ∙ c.is_memory.ensures.1 m))))

pub returns-in-None-clause-refused : goal.returns-in-None-clause-refused
returns-in-None-clause-refused c =
    let t = rw c.in-None.is at c.in_ok-texts_of_document.ensures in
    answer_by c.args.comments.now c.args.file.now (table_view c.in-Ok.document) None c.in-Ok.ensures.ok.0 c.in-Ok.ensures.ok.1 t

pub returns-clause-ok : goal.returns-clause-ok
returns-clause-ok c =
    let t = rw c.in-Some.is at c.in_ok-texts_of_document.ensures in
    let e =
    answer_lent c.args.comments.now (λ (t : Bor (List ℕ) × Bor (List ℕ)). (t.0.now, t.1.now)) c.args.file.now (table_view c.in-Ok.document)
    c.in-Some.texts.items c.deref.result.now c.in-Ok.ensures.ok.0 c.in-Ok.ensures.ok.1 t c.deref.ensures.value in
    subst (λ d. IfOk c.names_of_texts.result (λ names. (own : List ℕ → Option Kind) × (d ≡ Ok own) × IsKeyed names own))
    e c.names_of_texts.ensures.ok

pub returns-clause-refused : goal.returns-clause-refused
returns-clause-refused c =
    let t = rw c.in-Some.is at c.in_ok-texts_of_document.ensures in
    let e =
    answer_lent c.args.comments.now (λ (t : Bor (List ℕ) × Bor (List ℕ)). (t.0.now, t.1.now)) c.args.file.now (table_view c.in-Ok.document)
    c.in-Some.texts.items c.deref.result.now c.in-Ok.ensures.ok.0 c.in-Ok.ensures.ok.1 t c.deref.ensures.value in
    subst (λ d. IfErr c.names_of_texts.result (IsRefused d)) e c.names_of_texts.ensures.refused
