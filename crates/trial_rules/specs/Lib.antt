-- Meaning: Trials (states, reports, tests, the three rules, lists of reports), and Claim and Oracle (what is claimed of every list). The others define what laws speak of; the laws are in proofs/.
pub mod Trials
pub mod Accepted
pub mod Lacking
pub mod Claim
pub mod Oracle
