-- The texts of the refusals (docs/RULES.md, "Refusals").
use Rattle.std.specs.Prelude.{ℕ, List, ◌++◌, codes, encode_utf8_all}
use Rattle.std.specs.Fmt.{decimal}
use Rattle.bstr.specs.Utf8.{lossy_chars}
use Rattle.reuse_dep5.specs.RefusalTexts as dep5
use Rattle.reuse_command.specs.Command.{place_text}
use Rattle.reuse_command.specs.declared.amend_fault.AmendFault.{AmendFault}
use Rattle.reuse_command.specs.declared.amend_fault.AmendFault.TheVariants as amend_faults
use Rattle.reuse_command.specs.declared.header_fault.HeaderFault.{HeaderFault}
use Rattle.reuse_command.specs.declared.header_fault.HeaderFault.TheVariants as faults
use Rattle.reuse_command.specs.declared.reply.Refusal.{Refusal}
use Rattle.reuse_command.specs.declared.failure.Failure.{Failure}
use Rattle.reuse_command.specs.declared.failure.Failure.TheVariants as failures
use Rattle.reuse_command.specs.declared.reply.Refusal.TheVariants as refusals

-- why a header can't be written
abbrev pub fault_text : HeaderFault → List ℕ
fault_text faults.NoSuchForm = codes "no such form"
fault_text faults.BadText = codes "bad text"
fault_text faults.HoldsCloser = codes "holds the closer"
fault_text faults.TooLong = codes "too long"
fault_text faults.Unsettled = codes "block would not be found again"
fault_text faults.NotText = codes "neighbour is not text"

-- why licensing information can't be amended
abbrev pub amend_fault_text : AmendFault → List ℕ
amend_fault_text amend_faults.BadExpression = codes "bad licence expression"
amend_fault_text amend_faults.NothingLeft = codes "nothing left"
amend_fault_text amend_faults.CannotBeAmended = codes "cannot be amended"

-- why a call failed
abbrev pub failure_text : Failure → List ℕ
failure_text (failures.Interrupted cause) = codes "interrupted"
failure_text (failures.Fault fault) = codes "store fault"
failure_text failures.Memory = codes "out of memory"

-- bytes as text, with a replacement character for what is not UTF-8
abbrev pub shown : List ℕ → List ℕ
shown bytes = encode_utf8_all (lossy_chars bytes)

-- the path that is to blame, if there is one, and the reason
abbrev pub refusal_text : Refusal → List ℕ
refusal_text refusals.Broken = codes "broken"
refusal_text refusals.JournalFull = codes "journal full"
refusal_text (refusals.NoSuchPath path) = path ++ codes ": no such path"
refusal_text (refusals.IsFolder place) = place_text place ++ codes ": is a folder"
refusal_text (refusals.NotCovered path) = path ++ codes ": not covered"
refusal_text (refusals.TooLong path) = path ++ codes ": too long"
refusal_text (refusals.Unrecognised path) = path ++ codes ": unrecognised"
refusal_text (refusals.Header path fault) = path ++ codes ": " ++ fault_text fault
refusal_text (refusals.Amend path fault) = path ++ codes ": " ++ amend_fault_text fault
refusal_text refusals.NoDep5 = codes ".reuse/dep5: absent"
refusal_text (refusals.Exists path) = path ++ codes ": exists"
refusal_text (refusals.Dep5 refusal) = dep5.refusal_text refusal
refusal_text (refusals.BadId id) = codes "bad id: " ++ shown id
refusal_text (refusals.NoText id) = codes "no text: " ++ shown id
refusal_text (refusals.Clash path) = path ++ codes ": clash"
refusal_text refusals.TooMany = codes "too many changes"
refusal_text (refusals.BadStyles refusal) = codes ".reuse/styles.toml: bad styles"
refusal_text (refusals.BadComments refusal) = codes ".reuse/comments.toml: bad comments"
refusal_text refusals.NothingToUndo = codes "nothing to undo"
refusal_text (refusals.Moved path) = path ++ codes ": moved"
refusal_text refusals.NothingToRedo = codes "nothing to redo"
refusal_text (refusals.NoSuchStep number) = codes "no such step: " ++ decimal number
refusal_text (refusals.BadJournal path) = path ++ codes ": bad journal"
refusal_text (refusals.Failed failure) = failure_text failure
