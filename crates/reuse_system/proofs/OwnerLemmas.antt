-- A file that can keep its owner, so far as the rule says, takes no access from its owner and gives none to others.
use Rattle.std.proofs.Common.{◌≡◌, ◌≢◌, ℕ, Bool, true, false, not, if◌then◌else◌, ◌||◌, ◌&&◌, ◌==◌, IsTrue, arith, refl}
use Rattle.std.proofs.Common.{sym, ap, ◌∙◌, eq-eqb, eqb-true, true≢false}
use lib.Bits.{and_self}
use Rattle.std.proofs.lemmas.Grind.{common_steps}
use Rattle.reuse_system.specs.Owners.{access, covers, gives_user, gives_group, kept_owner, cannot_keep}
use Rattle.reuse_system.specs.declared.owner.Owner.{Owner}
use Rattle.reuse_system.specs.declared.owner.Process.{Process}
use Rattle.reuse_system.specs.declared.owner.Rights.{Rights}

-- where the group is lost and has the rights of others, it is of no account which group it is
any_group : (x y : Bool) (group others : ℕ) → group ≡ others
    → (if x then group else others) ≡ (if y then group else others)
any_group true true group others same = refl
any_group true false group others same = same
any_group false true group others same = sym same
any_group false false group others same = refl

same_group : (gives : Bool) (old new : ℕ) (is_member : ℕ → Bool) (group others : ℕ) → (gives ≡ false → group ≡ others)
    → (if is_member (if gives then old else new) then group else others) ≡ (if is_member old then group else others)
same_group true old new is_member group others same = refl
same_group false old new is_member group others same =
    any_group (is_member new) (is_member old) group others (same refl)

-- the rule, by what is kept
if_group_lost : (u c g e : Bool) → ((not u && not c) || (not g && not e)) ≡ false → g ≡ false → e ≡ true
if_group_lost u c g true keeps lost = refl
if_group_lost u c true false keeps lost = absurd (true≢false lost)
if_group_lost true c false false keeps lost = absurd (true≢false keeps)
if_group_lost false true false false keeps lost = absurd (true≢false keeps)
if_group_lost false false false false keeps lost = absurd (true≢false keeps)

if_user_lost : (u c g e : Bool) → ((not u && not c) || (not g && not e)) ≡ false → u ≡ false → c ≡ true
if_user_lost u true g e keeps lost = refl
if_user_lost true false g e keeps lost = absurd (true≢false lost)
if_user_lost false false g e keeps lost = absurd (true≢false keeps)

-- the user is neither
neither : (gives : Bool) (user old new : ℕ) → user ≢ old → user ≢ new → (user == (if gives then old else new)) ≡ false
neither true user old new other another = grind (arith, common_steps)
neither false user old new other another = grind (arith, common_steps)

pub same_access : (process : Process) (owner : Owner) (rights : Rights) → cannot_keep process owner rights ≡ false
    → (made : Owner) → (user : ℕ) → (is_member : ℕ → Bool) → user ≢ owner.user → user ≢ made.user
    → access user is_member (kept_owner process owner made) rights ≡ access user is_member owner rights
same_access process owner rights keeps made user is_member other another =
    let u = gives_user process owner.user in
    let g = gives_group process owner.group in
    let c = covers rights.group rights.owner in
    let e = rights.group == rights.others in
    let lost : g ≡ false → rights.group ≡ rights.others =
    λ lost. eqb-true rights.group rights.others (if_group_lost u c g e keeps lost) in
    let first = neither u user owner.user made.user other another in
    let second = neither true user owner.user made.user other another in
    ap (λ b. if b then rights.owner
    else (if is_member (if g then owner.group else made.group) then rights.group else rights.others)) first
    ∙ same_group g owner.group made.group is_member rights.group rights.others lost
    ∙ sym (ap (λ b. if b then rights.owner else (if is_member owner.group then rights.group else rights.others)) second)

-- rights cover themselves
covers_self : (rights : ℕ) → covers rights rights ≡ true
covers_self rights = ap (λ n. n == rights) (and_self rights) ∙ eq-eqb rights rights refl

covers_own : (owns : Bool) (own rights : ℕ) → (owns ≡ false → covers rights own ≡ true)
    → covers (if owns then own else rights) own ≡ true
covers_own true own rights covered = covers_self own
covers_own false own rights covered = covered refl

not_owned : (gives : Bool) (user new : ℕ) → (user == (if gives then user else new)) ≡ false → gives ≡ false
not_owned false user new other = refl
not_owned true user new other = absurd (true≢false (sym (eq-eqb user user refl) ∙ other))

pub no_loss : (process : Process) (owner : Owner) (rights : Rights) → cannot_keep process owner rights ≡ false
    → (made : Owner) → (is_member : ℕ → Bool) → IsTrue (is_member owner.group)
    → IsTrue (covers (access owner.user is_member (kept_owner process owner made) rights)
    (access owner.user is_member owner rights))
no_loss process owner rights keeps made is_member member =
    let u = gives_user process owner.user in
    let g = gives_group process owner.group in
    let c = covers rights.group rights.owner in
    let e = rights.group == rights.others in
    let owns = owner.user == (if u then owner.user else made.user) in
    let of_group = if is_member (if g then owner.group else made.group) then rights.group else rights.others in
    let lost : g ≡ false → rights.group ≡ rights.others =
    λ lost. eqb-true rights.group rights.others (if_group_lost u c g e keeps lost) in
    let group : of_group ≡ rights.group =
    same_group g owner.group made.group is_member rights.group rights.others lost
    ∙ ap (λ b. if b then rights.group else rights.others) member in
    let before : access owner.user is_member owner rights ≡ rights.owner =
    ap (λ b. if b then rights.owner else (if is_member owner.group then rights.group else rights.others))
    (eq-eqb owner.user owner.user refl) in
    ap (λ n. covers (if owns then rights.owner else of_group) n) before
    ∙ ap (λ n. covers (if owns then rights.owner else n) rights.owner) group
    ∙ covers_own owns rights.owner rights.group
    (λ other. if_user_lost u c g e keeps (not_owned u owner.user made.user other))
