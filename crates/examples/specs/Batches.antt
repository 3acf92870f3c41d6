-- What the sums speak of: batches by their marks and their date, and all dates.
use Rattle.std.specs.Prelude.{ℕ, ◌+◌, ◌*◌, List, [], ◌∷◌}
use Rattle.dates.specs.declared.Date.{Date}
use Rattle.dates.specs.Calendar.{IsDate}
use Rattle.rules.specs.declared.Batch.{Batch}

-- The batch of these marks on this date.
abbrev pub marks : ℕ → Date → Batch
marks n date = record { flags = n; date = date }

-- On every date of the years 1900 to 2199.
abbrev pub ForDates : (Date → Type 0) → Type 0
ForDates P = (date : Date) → IsDate date → P date

-- For every batch on such a date, whatever its marks.
abbrev pub ForBatches : (Batch → Type 0) → Type 0
ForBatches P = (batch : Batch) → IsDate batch.date → P batch

-- A date as the programs read it, in four bytes: day, month, and the year in two, high byte first. For every four; and for those that are such a date.
abbrev pub ForFour : (List ℕ → Type 0) → Type 0
ForFour P = (day month high low : ℕ) → P (day ∷ month ∷ high ∷ low ∷ [])

abbrev pub ForDateBytes : (List ℕ → Type 0) → Type 0
ForDateBytes P = (day month high low : ℕ) → IsDate (record { day = day; month = month; year = high * 256 + low }) → P (day ∷ month ∷ high ∷ low ∷ [])
