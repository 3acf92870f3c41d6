-- The laws of what specs/Loaded.antt defines.
use Rattle.std.specs.Prelude.{ℕ, zero, suc, ◌+◌, ◌≤◌, ◌<◌, List, [], ◌∷◌, ◌++◌, ◌≡◌, refl, length, get_or, replicate, Ok, Err}
use Rattle.std.proofs.Common.{sym, ap, subst, ◌∙◌, arith}
use Rattle.limits.specs.Limits.{most_vertices, most_sets, most_paths, area_size}
use Rattle.book.specs.declared.Loaded.{Loaded}
use Rattle.book.specs.declared.Needs.{Needs}
use Rattle.book.specs.declared.Refusal.{Refusal}
use Rattle.walks.specs.Weights.{Weights}
use Rattle.book.specs.Book.{Book, RuleSet, All, all_paths, graph}
use Rattle.book.proofs.BookLaws.{all_map}
use Rattle.book.specs.Reading.{Reading, accepted, refused, reading}
use Rattle.book.specs.Tables.{IsGraph, IsSets, IsLoaded, Leaves, LoadedAs, entries, owners_from, owner_table}
use Rattle.book.proofs.TableLaws.{book-weights}
use Rattle.book.specs.EntryLaws.{Short}
use Rattle.book.proofs.EntryLaws.{length-padded, length-entries}
use Rattle.book.specs.Loaded.{LoadedFrom}

-- what a step leaves where its reading is accepted, and where it is refused
pub leaves-accepted : (P : Book → Loaded → Type 0) (x : Reading) (l : Loaded) → Leaves P x (Ok l) → (b : Book) × (x ≡ accepted b) × P b l
leaves-accepted P (accepted b) l held = (b, refl, held)
leaves-accepted P (refused q) l held = absurd held

pub leaves-refused : (P : Book → Loaded → Type 0) (x : Reading) (r : Refusal) → Leaves P x (Err r) → x ≡ refused r
leaves-refused P (accepted b) r held = absurd held
leaves-refused P (refused q) r held = ap refused (sym held)

pub loaded : (s : List ℕ) (l : Loaded) → LoadedAs (reading s) (Ok l) → LoadedFrom s l
loaded s l held =
    let (b, is, tables) = leaves-accepted IsLoaded (reading s) l held in
    record { book = b; is = is; tables = tables }

pub graph-few : {b : Book} {n : ℕ} {w : List ℕ} → IsGraph b n w → n ≤ most_vertices
graph-few g = omega (arith, g.vertices_are, g.well.few-vertices)

pub graph-weights : {b : Book} {n : ℕ} {w : List ℕ} → IsGraph b n w → Weights (graph b) w
graph-weights {b} g = subst (Weights (graph b)) (sym g.weights_are) (book-weights b g.well)

-- each path has the index of one of the rule sets
pub get_or-padding : {A : Type 0} (z : A) (l : List A) (m i : ℕ) → get_or (l ++ replicate m z) i z ≡ get_or l i z
get_or-padding z [] zero i = refl
get_or-padding z [] (suc m) zero = refl
get_or-padding z [] (suc m) (suc i) = get_or-padding z [] m i
get_or-padding z (x ∷ l) m zero = refl
get_or-padding z (x ∷ l) m (suc i) = get_or-padding z l m i

owner_below : (k : ℕ) (ss : List RuleSet) (i : ℕ) → 1 ≤ k + length ss → get_or (owners_from k ss) i 0 < k + length ss
unfolding owners_from
owner_below k [] i h = omega arith
owner_below k (s ∷ ss) i h = among (length s.paths) i (owner_below (suc k) ss)
  where
    among : (m i : ℕ) → ((j : ℕ) → 1 ≤ suc k + length ss → get_or (owners_from (suc k) ss) j 0 < suc k + length ss)
        → get_or (replicate m k ++ owners_from (suc k) ss) i 0 < k + suc (length ss)
    among zero i later = omega (arith, later i (omega arith))
    among (suc m) zero later = omega arith
    among (suc m) (suc i) later = among m i later

owners_below : (ss : List RuleSet) → length ss ≤ most_sets → (i : ℕ) → get_or (owner_table ss) i 0 < most_sets
unfolding owners_from
owners_below ss few i = rw (get_or-padding 0 (owners_from 0 ss)) (go ss few)
  where
    go : (ss : List RuleSet) → length ss ≤ most_sets → get_or (owners_from 0 ss) i 0 < most_sets
    go [] few = omega arith
    go (s ∷ ss) few = omega (arith, owner_below 0 (s ∷ ss) i (omega arith))

module _ {b : Book} {n : ℕ} {f : List Needs} {o p : List ℕ} (s : IsSets b n f o p) where
  pub sets-short : All Short (all_paths b.sets)
  sets-short = all_map (λ q h. h.eight) (all_paths b.sets) s.well.paths-proper

  pub sets-few : n ≤ most_paths
  sets-few = omega (arith, s.counted, s.well.few-paths)

  pub sets_owners : (i : ℕ) → get_or o i 0 < most_sets
  sets_owners i = rw s.owners_are (owners_below b.sets s.well.few-sets i)

  pub sets-entries : length p ≡ area_size
  sets-entries =
      ap length s.paths_are
      ∙ length-padded area_size (entries (all_paths b.sets)) (omega (arith, length-entries (all_paths b.sets) sets-short, s.well.few-paths))
