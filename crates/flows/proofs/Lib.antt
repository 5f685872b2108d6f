-- The lemmas. Trails, Certificates and Spreads have those that other crates want: what follows from a certificate.
pub mod Sets
pub mod Sums
pub mod Listings
pub mod Fittings
pub mod Relabels
pub mod Trails
pub mod Certificates
pub mod Walks
pub mod Puts
pub mod Spreads
pub mod Leads
pub mod Chains
pub mod Traces
pub mod Firsts
