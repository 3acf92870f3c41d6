-- Meaning: Planning. RuleSets (when rule sets differ in their order alone) serves statements. The laws are in proofs/.
pub mod Planning
pub mod RuleSets
