-- Meaning: Reports (a list of reports as bytes), Making (one made, and all of them) and the first part of Whole (a list of reports, each on what the one before it
-- left). Laws: ReportsLaws, and the rest of Whole (the claims over whole lists, of the operations).
pub mod Reports
pub mod ReportsLaws
pub mod Making
pub mod Whole
