pub mod HostLemmas
pub mod NameLemmas
pub mod NewNameLemmas
pub mod OwnerLemmas
pub mod ReaderLemmas
pub mod SlashLemmas
pub mod SystemLemmas
pub mod VersionLemmas
