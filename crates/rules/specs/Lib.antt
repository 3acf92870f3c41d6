-- Meaning: Binding, Area (the runs area, and when it is valid) and Operations (what binding answers and leaves). The others define what laws speak of; the laws are in proofs/.
pub mod Binding
pub mod Area
pub mod Operations
pub mod AreaLaws
pub mod ValidLaws
pub mod Laws
pub mod Numbers
