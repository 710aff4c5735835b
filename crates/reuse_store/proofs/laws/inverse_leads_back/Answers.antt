use Rattle.reuse_change.proofs.Applying.{leads_back, inverse_before, inverse_after, inverse_twice}
use Rattle.reuse_store.proofs.laws.inverse_leads_back.Goals as goal

pub returns : goal.returns
returns c = record { back = leads_back; before = inverse_before; after = inverse_after; twice = inverse_twice }
