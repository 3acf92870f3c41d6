-- The check of a walk in a book that has been loaded, by what the tests of area and walk say.
use Rattle.std.proofs.Common.{◌≡◌, ℕ, ◌≤◌, Bool, true, false, List, length, Ok, Err, sym, ap, ◌∙◌, le-leb}
use Rattle.std.proofs.Math.Option.{Option, none, some}
use Rattle.book.specs.declared.Loaded.{Loaded}
use Rattle.book.specs.declared.Refusal.{Refusal}
use Rattle.book.specs.declared.Refusal.TheVariants.{Invalid, NotAWalk}
use Rattle.book.specs.Book.{graph}
use Rattle.book.specs.Reading.{reading}
use Rattle.book.specs.Refusal.{refusal_by}
use Rattle.book.specs.RefusalLaws.{Fails, here, later}
use Rattle.book.proofs.RefusalLaws.{first-fails, hold→none}
use Rattle.book.specs.Tables.{LoadedAs}
use Rattle.book.specs.Loaded.{LoadedFrom}
use Rattle.book.proofs.LoadedLaws.{loaded}
use Rattle.limits.specs.Limits.{area_size}
use Rattle.rules.specs.Area.{spelled, valid}
use Rattle.walk_check.specs.Checking.{occurrence, checkable, checked_unless, check_tests, checking_of, checking}

module _ (s area : List ℕ) (count : ℕ) (w : List ℕ) (l : Loaded) (held : LoadedAs (reading s) (Ok l)) where
  abbrev pub from : LoadedFrom s l
  from = loaded s l held

  decided : (o : Option Refusal) → refusal_by (check_tests area count w from.book) ≡ o → checked_unless o (occurrence (spelled count area) w) ≡ checking s area count w
  decided o e = sym (ap (λ r. checking_of r area count w) from.is ∙ ap (λ o. checked_unless o (occurrence (spelled count area) w)) e)

  fails : {q : Refusal} → Fails (check_tests area count w from.book) q → Err q ≡ checking s area count w
  fails {q} f = decided (some q) (first-fails f)

  module _ (enough : area_size ≤ length area) (x : Bool) (validity : valid l.counts.vertices area count ≡ x) where
    valid-is : valid from.book.count area count ≡ x
    valid-is = ap (λ n. valid n area count) (sym from.tables.graph.vertices_are) ∙ validity

    pub check-invalid : x ≡ false → Err Invalid ≡ checking s area count w
    check-invalid e = fails (later (le-leb _ _ enough) (here (valid-is ∙ e)))

    pub check-no-walk : x ≡ true → checkable (graph from.book) w ≡ false → Err NotAWalk ≡ checking s area count w
    check-no-walk e walked = fails (later (le-leb _ _ enough) (later (valid-is ∙ e) (here walked)))

    pub check-done : x ≡ true → checkable (graph from.book) w ≡ true → Ok (occurrence (spelled count area) w) ≡ checking s area count w
    check-done e walked = decided none (hold→none (check_tests area count w from.book) (le-leb _ _ enough, (valid-is ∙ e, (walked, tt))))
