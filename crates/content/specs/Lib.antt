-- Meaning: Content, from numbers to items, and from items to a book or a refusal. Loading defines what laws speak of.
pub mod Content
pub mod Loading
