-- What a rule set and a path add: to the lists that a book's tables stand for, and to what stands for the book.
use Rattle.std.proofs.Common.{◌≡◌, ℕ, suc, ◌+◌, ◌-◌, ◌*◌, ◌≤◌, ◌<◌, true, List, [], ◌∷◌, ◌++◌, length, set, take, drop, replicate, Ok, refl, sym, ap, ap₂, ◌∙◌, append-nil, append_assoc, add-zero, arith, length-append, lt-ltb}
use Rattle.std.proofs.lemmas.List.{length-map, replicate-append-replicate}
use Rattle.std.proofs.Math.Seq.{paste}
use Rattle.lists.specs.Paste.{slice_part}
use Rattle.limits.specs.Limits.{area_size, entry_size, longest_path, most_paths, most_sets}
use Rattle.book.specs.declared.Counts.{Counts}
use Rattle.book.specs.declared.Loaded.{Loaded}
use Rattle.book.specs.declared.Needs.{Needs}
use Rattle.dates.specs.Dates.{window_fits}
use Rattle.book.specs.Book.{RuleSet, Book, All, all_paths, are_vertices}
use Rattle.book.specs.Reading.{path_at, end_at, length_at, add_path, with_set, with_path}
use Rattle.book.specs.Tables.{needs_of, nothing_needed, owners_from, entries, padded_with, padded, needs_table, owner_table, path_table, IsLoaded, AreTables, Leaves}
use Rattle.book.specs.BookLaws.{bare, paths-set}
use Rattle.book.proofs.BookLaws.{all_map, length-sets-path, paths-path}
use Rattle.book.proofs.EntryLaws.{length_owners, entries_snoc, length-entries}
use Rattle.book.proofs.Padded.{padded-set, padded-entry}

-- ---- a rule set
module _ (f : Needs) where
  pub needs-set : (ss : List RuleSet) → needs_of (ss ++ bare f) ≡ needs_of ss ++ (f ∷ [])
  needs-set [] = refl
  needs-set (s ∷ ss) = ap (λ l. s.needs ∷ l) (needs-set ss)

  pub owners_set : (k : ℕ) (ss : List RuleSet) → owners_from k (ss ++ bare f) ≡ owners_from k ss
  unfolding owners_from
  owners_set k [] = refl
  owners_set k (s ∷ ss) = ap (λ l. replicate (length s.paths) k ++ l) (owners_set (suc k) ss)

-- ---- a path
module _ (p : List ℕ) where
  pub needs-path : (ss : List RuleSet) → needs_of (add_path ss p) ≡ needs_of ss
  unfolding add_path
  needs-path [] = refl
  needs-path (s ∷ []) = refl
  needs-path (s ∷ (s' ∷ ss)) = ap (λ l. s.needs ∷ l) (needs-path (s' ∷ ss))

  pub owners_path : (k : ℕ) (ss : List RuleSet) → 1 ≤ length ss
      → owners_from k (add_path ss p) ≡ owners_from k ss ++ ((k + (length ss - 1)) ∷ [])
  unfolding owners_from add_path
  owners_path k [] h = absurd (omega arith)
  owners_path k (s ∷ []) h =
      append-nil _
      ∙ ap (λ n. replicate n k) (length-append s.paths (p ∷ []))
      ∙ sym (replicate-append-replicate (length s.paths) 1 k)
      ∙ ap₂ (λ l j. l ++ (j ∷ [])) (sym (append-nil (replicate (length s.paths) k))) (sym (add-zero k))
  owners_path k (s ∷ (s' ∷ ss)) h =
      ap (λ l. replicate (length s.paths) k ++ l) (owners_path (suc k) (s' ∷ ss) (omega arith))
      ∙ sym (append_assoc (replicate (length s.paths) k) _ _)
      ∙ ap (λ j. replicate (length s.paths) k ++ owners_from (suc k) (s' ∷ ss) ++ (j ∷ [])) (omega arith)

-- ---- the tables
pub needs_after_set : (t : List Needs) (k : ℕ) (f : Needs) (ss : List RuleSet) → length ss < most_sets → t ≡ needs_table ss → k ≡ length ss
    → set t k f ≡ needs_table (ss ++ bare f)
needs_after_set t k f ss few held at-end =
    ap₂ (λ u j. set u j f) held (at-end ∙ sym (length-map ss _))
    ∙ padded-set nothing_needed most_sets (needs_of ss) f (omega (arith, length-map ss (λ (s : RuleSet). s.needs)))
    ∙ ap (padded_with nothing_needed most_sets) (sym (needs-set f ss))

-- the owner right after the others'
owner_added : (o : List ℕ) (k x : ℕ) (ss : List RuleSet) (p : List ℕ) → 1 ≤ length ss → o ≡ owner_table ss → k ≡ length (all_paths ss) → k < most_paths → x ≡ length ss - 1
    → set o k x ≡ owner_table (add_path ss p)
owner_added o k x ss p some-set held count room value =
    let size = length_owners 0 ss in
    ap₂ (λ l j. set l j x) held (count ∙ sym size)
    ∙ padded-set 0 most_paths (owners_from 0 ss) x (omega (arith, size))
    ∙ ap (λ y. padded most_paths (owners_from 0 ss ++ (y ∷ []))) (let last : x ≡ 0 + (length ss - 1) = omega arith in last)
    ∙ ap (padded most_paths) (sym (owners_path p 0 ss some-set))

-- the entry right after the others
entry-added : (e : List ℕ) (k n : ℕ) (ss : List RuleSet) (p : List ℕ) → 1 ≤ length ss → e ≡ path_table ss → k ≡ length (all_paths ss) → k < most_paths
    → All (λ q. length q ≤ longest_path) (all_paths ss) → n ≡ length p → n ≤ longest_path
    → paste (set e (k * entry_size) n) (k * entry_size + 1) p n ≡ path_table (add_path ss p)
entry-added e k n ss p some-set held count room short size small =
    let all : List ℕ = entries (all_paths ss) in
    let length-all : k * entry_size ≡ length all = omega (arith, length-entries (all_paths ss) short) in
    ap (λ l. paste (set l (k * entry_size) n) (k * entry_size + 1) p n) held
    ∙ ap₂ (λ j m. paste (set (padded area_size all) j m) (j + 1) p m) length-all size
    ∙ padded-entry area_size all p (omega arith) (omega arith)
    ∙ ap (padded area_size) (sym (entries_snoc (all_paths ss) p) ∙ ap entries (sym (paths-path p ss some-set)))

-- ---- what stands for the book then
module _ (l : Loaded) (b : Book) (h : IsLoaded b l) (at : ℕ) where
  sets-are : l.counts.sets ≡ length b.sets
  sets-are = ap (λ (d : Counts). d.sets) h.counted

  paths_are : l.counts.paths ≡ length (all_paths b.sets)
  paths_are = ap (λ (d : Counts). d.paths) h.counted

  pub set-added : (f : Needs) → window_fits f.window ≡ true → l.counts.sets < most_sets
      → Leaves AreTables (with_set b at f)
      (Ok (record {
        counts = record { vertices = l.counts.vertices; arcs = l.counts.arcs; sets = l.counts.sets + 1; paths = l.counts.paths };
        weights = l.weights;
        needs = set l.needs l.counts.sets f;
        owners = l.owners;
        entries = l.entries;
      }))
  set-added f season room =
      let few : length b.sets < most_sets = omega (arith, sets-are) in
      rw (season, lt-ltb (length b.sets) most_sets few)
      (record {
        counts_are =
            ap (λ (d : Counts). record { vertices = d.vertices; arcs = d.arcs; sets = d.sets + 1; paths = d.paths }) h.counted
            ∙ ap₂ (λ n m. record { vertices = b.count; arcs = length b.arcs; sets = n; paths = m })
            (sym (length-append b.sets (bare f)))
            (sym (ap length (paths-set f b.sets)));
        weights_are = h.graph.weights_are;
        needs_are = needs_after_set l.needs l.counts.sets f b.sets few h.sets.needs_are sets-are;
        owners_are = h.sets.owners_are ∙ ap (padded most_paths) (sym (owners_set f 0 b.sets));
        paths_are = h.sets.paths_are ∙ ap (λ ps. padded area_size (entries ps)) (sym (paths-set f b.sets));
      })

  pub path-added : (p : List ℕ) → are_vertices l.counts.vertices p ≡ true → l.counts.paths < most_paths → 1 ≤ l.counts.sets
      → length p ≤ longest_path → (e : List ℕ)
      → e ≡ paste (set l.entries (l.counts.paths * entry_size) (length p)) (l.counts.paths * entry_size + 1) p (length p)
      → Leaves AreTables (with_path b at p)
      (Ok (record {
        counts = record { vertices = l.counts.vertices; arcs = l.counts.arcs; sets = l.counts.sets; paths = l.counts.paths + 1 };
        weights = l.weights;
        needs = l.needs;
        owners = set l.owners l.counts.paths (l.counts.sets - 1);
        entries = e;
      }))
  path-added p vertices room some short e copied =
      let some-set : 1 ≤ length b.sets = omega (arith, sets-are) in
      let owner : l.counts.sets - 1 ≡ length b.sets - 1 = omega (arith, sets-are) in
      let good : are_vertices b.count p ≡ true = ap (λ n. are_vertices n p) (sym h.graph.vertices_are) ∙ vertices in
      let few : length (all_paths b.sets) < most_paths = omega (arith, paths_are) in
      rw (good, lt-ltb (length (all_paths b.sets)) most_paths few)
      (record {
        counts_are =
            ap (λ (d : Counts). record { vertices = d.vertices; arcs = d.arcs; sets = d.sets; paths = d.paths + 1 }) h.counted
            ∙ ap₂ (λ n m. record { vertices = b.count; arcs = length b.arcs; sets = n; paths = m })
            (sym (length-sets-path p b.sets))
            (sym (ap length (paths-path p b.sets some-set) ∙ length-append (all_paths b.sets) (p ∷ [])));
        weights_are = h.graph.weights_are;
        needs_are = h.sets.needs_are ∙ ap (padded_with nothing_needed most_sets) (sym (needs-path p b.sets));
        owners_are = owner_added l.owners l.counts.paths _ b.sets p some-set h.sets.owners_are paths_are room owner;
        paths_are =
            copied
            ∙ entry-added l.entries l.counts.paths (length p) b.sets p some-set h.sets.paths_are paths_are room
            (all_map (λ q k. k.eight) (all_paths b.sets) h.graph.well.paths-proper) refl short;
      })

-- ---- the bytes of a field's path
pub path_part : (s : List ℕ) (at end : ℕ) → end ≡ end_at s at → end_at s at ≤ length s → take (end - (at + 3)) (drop (at + 3) s) ≡ path_at s at
path_part s at end is whole =
    let size : end - (at + 3) ≡ length_at s at = omega arith in
    ap (λ n. take n (drop (at + 3) s)) size ∙ sym (slice_part (at + 3) (length_at s at) s whole)
