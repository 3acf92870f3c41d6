-- Meaning for this crate's contracts: Product (the edges) and Base (where the distances start, and their direction), and View (a Product's tables as these take them). For loops over open vertices Word (sets of vertices as words) and Visit (those that are left). Laws: ProductLaws, Fits.
pub mod Product
pub mod Word
pub mod Visit
pub mod ProductLaws
pub mod Base
pub mod Fits
pub mod View
