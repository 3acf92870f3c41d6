-- Meaning for this crate's contracts: Outgoing (arcs as words), Sweep (what a pass goes over, and what it asks).
pub mod Outgoing
pub mod Sweep
