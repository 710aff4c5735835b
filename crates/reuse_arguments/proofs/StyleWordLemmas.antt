-- What `styles` asks for, by its flags.
use Rattle.std.proofs.Common.{◌≡◌, ◌∙◌, ℕ, Bool, true, false, List, ap, refl, sym, codes}
use Rattle.std.specs.Prelude.{Err}
use Rattle.reuse_arguments.specs.Contexts.{ContextView}
use Rattle.reuse_arguments.specs.Found.{Rows, flag}
use Rattle.reuse_arguments.specs.LineFaults.{help, unread}
use Rattle.reuse_arguments.specs.StyleWords.{annotation_read, is_without_objects, ready_table, styles_read}

pub styles_all : (found : Rows) (context : ContextView) (comments : Bool) (text : List ℕ)
    → true ≡ flag found (codes "all")
    → comments ≡ flag found (codes "comments") → text ≡ ready_table comments
    → styles_read found context ≡ Err (help text)
unfolding styles_read
styles_all found context comments text all of_comments is =
    rw (sym all) (ap (λ t. Err (help t)) (ap ready_table (sym of_comments) ∙ sym is))

pub styles_unread : (found : Rows) (context : ContextView) → false ≡ flag found (codes "all")
    → true ≡ is_without_objects found
    → styles_read found context ≡ Err (unread (codes "with --add, --json goes with --dry-run or --check alone"))
unfolding styles_read
styles_unread found context all wrong = rw (sym all, sym wrong) refl

pub styles_else : (found : Rows) (context : ContextView) → false ≡ flag found (codes "all")
    → false ≡ is_without_objects found → styles_read found context ≡ annotation_read found context
unfolding styles_read
styles_else found context all wrong = rw (sym all, sym wrong) refl
