-- An arc that is entered, by what its tests and the table of weights say; and the field of an arc.
use Rattle.std.proofs.Common.{◌≡◌, ℕ, ◌+◌, ◌*◌, ◌<◌, ◌≤◌, Bool, true, List, [], ◌∷◌, length, get_or, set, Ok, Err, refl, sym, ap, ap₂, ◌∙◌, arith, length-append}
use Rattle.std.proofs.Math.Option.{Option, none, some}
use Rattle.limits.specs.Limits.{most_vertices, no_arc}
use Rattle.walks.specs.Graph.{Arc}
use Rattle.book.specs.declared.Counts.{Counts}
use Rattle.book.specs.declared.Loaded.{Loaded}
use Rattle.book.specs.declared.Refusal.{Refusal}
use Rattle.book.specs.declared.Refusal.TheVariants.{Repeated}
use Rattle.book.specs.Refusal.{first_failure}
use Rattle.book.specs.Book.{Book, IsArc, all_paths, proper_arc}
use Rattle.book.proofs.BookLaws.{is-arc}
use Rattle.book.specs.Reading.{Reading, accepted, refused, outcome, verdict_of, u32_at, arc_at, arc_tests, add_arc, with_arc, kept}
use Rattle.book.proofs.TableLaws.{entered-arc, marked→free, unmarked→given}
use Rattle.book.specs.Tables.{IsGraph, IsLoaded, AreTables, Leaves, Enters, weight_table}

module _ (n : ℕ) (b : Book) (t : List ℕ) (h : IsGraph b n t) (at : ℕ) (a : Arc) where
  proper-is : (x : Bool) → proper_arc n a ≡ x → proper_arc b.count a ≡ x
  proper-is x e = ap (λ k. proper_arc k a) (sym h.vertices_are) ∙ e

  -- a refusal leaves the table as it is
  stays : (r : Refusal) → with_arc b at a ≡ refused r → Enters b at a (Err r) t
  stays r is = (sym (ap verdict_of is), h.weights_are ∙ ap (λ x. weight_table (kept b x).arcs) (sym is))

  module _ (p : proper_arc n a ≡ true) where
    within : IsArc n a
    within = is-arc n a p

    few : n ≤ most_vertices
    few = omega (arith, h.vertices_are, h.well.few-vertices)

    tail-fits : a.tail < most_vertices
    tail-fits = omega (arith, within.tail-below, few)

    head-fits : a.head < most_vertices
    head-fits = omega (arith, within.head-below, few)

    module _ (i : ℕ) (at-pair : i ≡ a.tail * most_vertices + a.head) where
      in_table : get_or t i 0 ≡ get_or (weight_table b.arcs) (a.tail * most_vertices + a.head) 0
      in_table = ap₂ (λ l k. get_or l k 0) h.weights_are at-pair

      pub arc-repeated : (get_or t i 0 ≡ no_arc → ⊥) → Enters b at a (Err (Repeated at)) t
      arc-repeated ne =
          let seen = unmarked→given b h.well _ _ tail-fits head-fits (λ e. ne (in_table ∙ e)) in
          stays (Repeated at) (rw (proper-is true p, seen))

      pub arc-added : get_or t i 0 ≡ no_arc → Enters b at a (Ok tt) (set t i a.weight)
      arc-added e =
          let new = marked→free b h.well _ _ tail-fits head-fits (sym in_table ∙ e) in
          let is : with_arc b at a ≡ accepted (add_arc b a) = rw (proper-is true p, new) in (
            sym (ap verdict_of is),
            ap₂ (λ l k. set l k a.weight) h.weights_are at-pair
                ∙ sym (entered-arc _ b.arcs a)
                ∙ ap (λ x. weight_table (kept b x).arcs) (sym is),
          )

-- ---- the field of one
pub arc-read : (s : List ℕ) (at tail head weight : ℕ) → tail ≡ get_or s (at + 3) 0 → head ≡ get_or s (at + 4) 0 → weight ≡ u32_at s (at + 5)
    → record { tail = tail; head = head; weight = weight } ≡ arc_at s at
arc-read s at tail head weight t h w = rw (t, h, w) refl

-- ---- one that is entered and counted
refusal-told : (x : Reading) (r : Refusal) → Err r ≡ verdict_of x → Leaves AreTables x (Err r)
refusal-told (accepted b) r e = absurd (cc)
refusal-told (refused q) r e = cc

good-adds : (o : Option Refusal) (d : Book) → Ok tt ≡ verdict_of (outcome o d) → outcome o d ≡ accepted d
good-adds none d e = refl
good-adds (some r) d e = absurd (cc)

module _ (l : Loaded) (b : Book) (at : ℕ) (h : IsLoaded b l) (a : Arc) (t : List ℕ) where
  pub arc-refused : (r : Refusal) → Enters b at a (Err r) t → Leaves AreTables (with_arc b at a) (Err r)
  arc-refused r enters = refusal-told (with_arc b at a) r enters.0

  pub arc-counted : Enters b at a (Ok tt) t
      → Leaves AreTables (with_arc b at a)
      (Ok (record {
        counts = record { vertices = l.counts.vertices; arcs = l.counts.arcs + 1; sets = l.counts.sets; paths = l.counts.paths };
        weights = t;
        needs = l.needs;
        owners = l.owners;
        entries = l.entries;
      }))
  arc-counted enters =
      let is : with_arc b at a ≡ accepted (add_arc b a) = good-adds (first_failure (arc_tests b at a)) (add_arc b a) enters.0 in
      rw is
      (record {
        counts_are =
            ap (λ (d : Counts). record { vertices = d.vertices; arcs = d.arcs + 1; sets = d.sets; paths = d.paths }) h.counted
            ∙ ap (λ n. record { vertices = b.count; arcs = n; sets = length b.sets; paths = length (all_paths b.sets) })
            (sym (length-append b.arcs (a ∷ [])));
        weights_are = enters.1 ∙ ap (λ x. weight_table (kept b x).arcs) is;
        needs_are = h.sets.needs_are;
        owners_are = h.sets.owners_are;
        paths_are = h.sets.paths_are;
      })
