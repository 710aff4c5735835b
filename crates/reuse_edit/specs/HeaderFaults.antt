-- Why a header can't be written or amended, as a refusal that names the file (docs/RULES.md, "Refusals").
use Rattle.std.specs.Prelude.{ℕ, List}
use Rattle.reuse_header.specs.declared.annotation.HeaderRefusal.{HeaderRefusal}
use Rattle.reuse_header.specs.declared.annotation.HeaderRefusal.TheVariants as header
use Rattle.reuse_header.specs.declared.amendment.AmendHeaderRefusal.{AmendHeaderRefusal}
use Rattle.reuse_header.specs.declared.amendment.AmendHeaderRefusal.TheVariants as amendment
use Rattle.reuse_words.specs.declared.refusal.TextHeaderRefusal.{TextHeaderRefusal}
use Rattle.reuse_words.specs.declared.refusal.TextHeaderRefusal.TheVariants as words
use Rattle.reuse_command.specs.declared.amend_fault.AmendFault.TheVariants.{BadExpression, NothingLeft}
use Rattle.reuse_command.specs.declared.header_fault.HeaderFault.TheVariants as faults
use Rattle.reuse_command.specs.declared.reply.Refusal.{Refusal}
use Rattle.reuse_command.specs.declared.failure.Failure.TheVariants.{Memory}
use Rattle.reuse_command.specs.declared.reply.Refusal.TheVariants.{Amend, Header, Failed}

abbrev pub refused_by : List ℕ → HeaderRefusal → Refusal
refused_by path header.NotText = Header path faults.NotText
refused_by path header.NoSuchForm = Header path faults.NoSuchForm
refused_by path header.HoldsCloser = Header path faults.HoldsCloser
refused_by path header.TooLong = Header path faults.TooLong
refused_by path header.Unsettled = Header path faults.Unsettled
refused_by path (header.Memory e) = Failed Memory

-- why a header can't be written with what is added to it
abbrev pub text_refused_by : List ℕ → TextHeaderRefusal → Refusal
text_refused_by path words.BadText = Header path faults.BadText
text_refused_by path (words.Header refusal) = refused_by path refusal

-- why a file can't be amended
abbrev pub amend_refused_by : List ℕ → AmendHeaderRefusal → Refusal
amend_refused_by path amendment.BadExpression = Amend path BadExpression
amend_refused_by path amendment.NothingLeft = Amend path NothingLeft
amend_refused_by path (amendment.Header refusal) = refused_by path refusal
