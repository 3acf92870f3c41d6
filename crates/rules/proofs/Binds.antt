-- Binding, by what the reading of the book and the length of the area say.
use Rattle.std.proofs.Common.{◌≡◌, true, ℕ, ◌≤◌, List, ◌++◌, length, drop, Ok, sym, ap, ◌∙◌, le-leb}
use Rattle.dates.specs.Dates.{is_date}
use Rattle.book.specs.declared.Loaded.{Loaded}
use Rattle.book.specs.Book.{Book}
use Rattle.book.specs.Reading.{reading}
use Rattle.book.specs.Tables.{IsSets, LoadedAs}
use Rattle.book.specs.Loaded.{LoadedFrom}
use Rattle.book.proofs.LoadedLaws.{loaded}
use Rattle.rules.specs.Area.{written}
use Rattle.limits.specs.Limits.{area_size}
use Rattle.rules.specs.Binding.{known}
use Rattle.rules.specs.Operations.{Binding, binding_of, binding, bound_as, area_after}
use Rattle.rules.specs.declared.Batch.{Batch}

module _ (s : List ℕ) (batch : Batch) (area : List ℕ) where
  -- what binding comes to decides the answer and the area
  through : (b : Binding) → binding s batch area ≡ b → (bound_as b ≡ bound_as (binding s batch area)) × (area_after b area ≡ area_after (binding s batch area) area)
  through b e = (sym (ap bound_as e), sym (ap (λ x. area_after x area) e))

  module _ (l : Loaded) (held : LoadedAs (reading s) (Ok l)) where
    from : LoadedFrom s l
    from = loaded s l held

    pub the-sets : (b : Book) × IsSets b l.counts.paths l.needs l.owners l.entries
    the-sets = (from.book, from.tables.sets)

    pub bind-known : area_size ≤ length area → is_date batch.date ≡ true → (n : ℕ) (table : List ℕ)
        → ((b : Book) → IsSets b l.counts.paths l.needs l.owners l.entries → (n ≡ length (known batch b.sets)) × (table ≡ written (known batch b.sets)))
        → (Ok n ≡ bound_as (binding s batch area)) × (table ++ drop area_size area ≡ area_after (binding s batch area) area)
    bind-known enough dated n table gathered =
        let (count-is, table_is) = gathered from.book from.tables.sets in
        let done = through (Binding.bound (known batch from.book.sets)) (ap (λ r. binding_of r batch area) from.is ∙ rw (le-leb area_size (length area) enough, dated)) in
        (ap Ok count-is ∙ done.0, ap (λ t. t ++ drop area_size area) table_is ∙ done.1)
