pub mod ValidArea
pub mod RuleSets
