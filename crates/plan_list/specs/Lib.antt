-- Meaning: `Items`, the items of a list in bytes. Laws: `ItemsLaws`.
pub mod Items
pub mod ItemsLaws
