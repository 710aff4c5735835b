-- Information that was amended once stays, where its notices are sure to be read as they were written.
use Rattle.std.proofs.Common.{◌≡◌, ℕ, List, Some, sym, ap, subst, ◌∙◌}
use Rattle.std.specs.Prelude.{Contains}
use Rattle.reuse_amend.specs.declared.amendments.Amendments.{Amendments}
use Rattle.reuse_notice.specs.declared.infos.Info.{Info}
use Rattle.reuse_amend.specs.NoticeParts.{Parts, parts_text, parts_of}
use Rattle.reuse_amend.specs.Amending
use Rattle.reuse_amend.specs.Settled.{NoLicenceComesBack, NoTextComesBack, BringNothingBack, ReadsAsAmended}
use Rattle.reuse_amend.specs.Settled.{WritePlainTexts, HasFourDigits, IsPlainAddition, OnlyRemoveNotices}
use Rattle.reuse_amend.proofs.JoinedLemmas.{parts_joined}
use Rattle.reuse_amend.proofs.InPlaceLemmas.{parts_stay}
use Rattle.reuse_amend.proofs.NamedLemmas.{none_concerned}
use Rattle.reuse_amend.proofs.AmendedAdditionLemmas.{addition_read}
use Rattle.reuse_amend.proofs.SecondLemmas.{amended_again}

-- ---- additions

plain_reads : (a : Amendments) (text : List ℕ) → WritePlainTexts a → HasFourDigits a.until → IsPlainAddition a text
    → ReadsAsAmended a text
plain_reads a text plain short n =
    subst (ReadsAsAmended a) (sym n.is)
    (addition_read a n.prefix n.years n.holder plain short n.can n.some n.trim n.clear n.new_clear)

pub additions_again : (a : Amendments) (info new : Info) → BringNothingBack a → WritePlainTexts a
    → HasFourDigits a.until → ((text : List ℕ) → Contains info.notices text → IsPlainAddition a text)
    → Amending.amended a info ≡ Some new → Amending.amended a new ≡ Some new
additions_again a info new back plain short each e =
    amended_again a info new back short (λ text h. plain_reads a text plain short (each text h)) e

-- ---- amendments that change no notice

same_reads : (a : Amendments) (text : List ℕ) → OnlyRemoveNotices a → ReadsAsAmended a text
same_reads a text only parts found kept =
    subst (λ (q : Parts). parts_of (parts_text q) ≡ Some q) (sym stays)
    (ap parts_of (parts_joined text parts found) ∙ found)
  where
    stays : Amending.parts_amended a parts (Amending.text_amended a.replaced_holders parts.holder) ≡ parts
    stays =
        ap (λ rs. Amending.parts_amended a parts (Amending.text_amended rs parts.holder)) only.replaced
        ∙ parts_stay parts (Amending.if_concerned a parts.holder a.prefix)
        (Amending.if_concerned a parts.holder a.until)
        (none_concerned a parts.holder a.prefix only.prefix) (none_concerned a parts.holder a.until only.until)

pub removals_again : (a : Amendments) (info new : Info) → OnlyRemoveNotices a → NoLicenceComesBack a.replaced_licences
    → NoTextComesBack a.replaced_contributors → Amending.amended a info ≡ Some new → Amending.amended a new ≡ Some new
removals_again a info new only licences contributors e =
    amended_again a info new (record {
      licences = licences;
      holders = subst NoTextComesBack (sym only.replaced) tt;
      contributors = contributors;
    }) (subst HasFourDigits (sym only.until) tt) (λ text h. same_reads a text only) e
