-- What a subcommand asks for, by its name.
use Rattle.std.proofs.Common.{◌≡◌, ◌≢◌, ◌∙◌, ℕ, Bool, false, List, Option, ap, refl, sym, codes}
use Rattle.std.specs.Prelude.{None, Ok, Err}
use Rattle.std.specs.Str.{bytes_eq}
use Rattle.std.proofs.lemmas.Bool.{false_from_ne_true}
use Rattle.std.proofs.lemmas.Slice.Eq.{bytes_eq-Decides}
use Rattle.reuse_command.specs.declared.request.Call.{Call}
use Rattle.reuse_command.specs.declared.request.Request.{Request}
use Rattle.reuse_arguments.specs.Asking.{Invocation}
use Rattle.reuse_arguments.specs.Choices.{change_status_of, format_of, is_dry_run}
use Rattle.reuse_arguments.specs.Contexts.{ContextView}
use Rattle.reuse_arguments.specs.CommandLine.{call_read, request_read, texts_read}
use Rattle.reuse_arguments.specs.Found.{Rows}
use Rattle.reuse_arguments.specs.LineFaults.{then_read, unread}
use Rattle.reuse_arguments.specs.Requests.{made_or_seen}
use Rattle.reuse_arguments.specs.declared.line.ChangeStatus.{ChangeStatus}
use Rattle.reuse_arguments.specs.declared.line.NamesUse.{NamesUse}
use Rattle.reuse_arguments.specs.declared.line.OutputFormat.{OutputFormat}

-- the name is another
other : (name word : List ℕ) → name ≢ word → bytes_eq name word ≡ false
other name word h = false_from_ne_true _ (λ is. h ((bytes_eq-Decides name word).0 is))

pub request_else : (name : List ℕ) (found : Rows) (moment : ℕ) (context : ContextView) → name ≢ codes "log"
    → name ≢ codes "show"
    → name ≢ codes "forget" → name ≢ codes "recover" → name ≢ codes "styles"
    → request_read name found moment context ≡ then_read (call_read name found context)
    (λ asked. Ok (made_or_seen asked moment (is_dry_run found)))
unfolding request_read
request_else name found moment context log show forget recover styles =
    rw (
      other name (codes "log") log,
      other name (codes "show") show,
      other name (codes "forget") forget,
      other name (codes "recover") recover,
      other name (codes "styles") styles,
    ) refl

pub call_else : (name : List ℕ) (found : Rows) (context : ContextView) → name ≢ codes "annotate" → name ≢ codes "amend"
    → name ≢ codes "convert-dep5" → name ≢ codes "download" → name ≢ codes "undo" → name ≢ codes "redo"
    → name ≢ codes "revert"
    → call_read name found context ≡ Err (unread (codes "a subcommand that nothing reads"))
unfolding call_read
call_else name found context a b c d e f g =
    rw (
      other name (codes "annotate") a,
      other name (codes "amend") b,
      other name (codes "convert-dep5") c,
      other name
          (codes "download") d,
      other name (codes "undo") e,
      other name (codes "redo") f,
      other name (codes "revert") g,
    ) refl

pub texts_else : (name : List ℕ) (found : Rows) → name ≢ codes "download" → texts_read name found ≡ Ok None
unfolding texts_read
texts_else name found download = rw (other name (codes "download") download) refl

-- what is made or seen, as the words say
pub made_of : (asked : Call) (moment : ℕ) (dry wanted : Bool) (request : Request) → dry ≡ wanted
    → request ≡ made_or_seen asked moment dry → made_or_seen asked moment wanted ≡ request
made_of asked moment dry wanted request same is = ap (made_or_seen asked moment) (sym same) ∙ sym is

-- a line of these parts
abbrev asked_of : List ℕ → Request → NamesUse → Option (List ℕ) → OutputFormat → ChangeStatus → Invocation
asked_of root request names texts format status =
    record { root = root; request = request; names = names; texts = texts; format = format; change_status = status }

pub asked_same : (root : List ℕ) (request : Request) (wanted names : NamesUse) (texts : Option (List ℕ)) (found : Rows)
    (format : OutputFormat) (status : ChangeStatus) → names ≡ wanted → format ≡ format_of found
    → status ≡ change_status_of found
    → asked_of root request wanted texts (format_of found) (change_status_of found)
    ≡ asked_of root request names texts format status
asked_same root request wanted names texts found format status u a b =
    ap (λ n. asked_of root request n texts (format_of found) (change_status_of found)) (sym u)
    ∙ ap (λ f. asked_of root request names texts f (change_status_of found)) (sym a)
    ∙ ap (asked_of root request names texts format) (sym b)
