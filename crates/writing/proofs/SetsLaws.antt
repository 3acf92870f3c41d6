-- Laws of the rule sets of a list: where the paths of one stand among the paths of all, and whose a path is.
use Rattle.std.specs.Prelude.{ℕ, zero, suc, ◌+◌, ◌≤◌, ◌<◌, ◌≢◌, ◌≡◌, refl, length, get_or, take, drop, replicate}
use Rattle.std.proofs.Common.{sym, ap, ap₂, ◌∙◌, arith, add-one, length-append, length-take-le, take-append-drop, drop-cons, take-suc, drop_of_length-le}
use mathlib.Core.List.{List, [], ◌∷◌, ◌++◌, append_assoc, append-nil, flat_map}
use Rattle.std.proofs.Math.ListN.{get_or-append}
use Rattle.std.proofs.lemmas.List.{length-replicate, get_or-replicate, get_or-append-add}
use Rattle.book.specs.declared.Loaded.{Loaded}
use Rattle.book.specs.Book.{RuleSet, Book, all_paths}
use Rattle.book.specs.Tables.{needs_of, nothing_needed, owners_from}
use Rattle.book.proofs.EntryLaws.{length_owners}
use Rattle.book.proofs.LoadedLaws.{get_or-padding}
use Rattle.book_bytes.specs.Bytes.{needs_field, path_field, set_fields}
use Rattle.writing.specs.Kept.{Kept, set_at}

-- ---- one rule set between others
module _ (s : RuleSet) (after : List RuleSet) where
  paths_between : (before : List RuleSet) → all_paths (before ++ (s ∷ after)) ≡ all_paths before ++ (s.paths ++ all_paths after)
  unfolding all_paths
  paths_between [] = refl
  paths_between (r ∷ before) = ap (λ l. r.paths ++ l) (paths_between before) ∙ sym (append_assoc r.paths (all_paths before) _)

  owners_between : (m k : ℕ) (before : List RuleSet) → k ≡ m + length before
      → owners_from m (before ++ (s ∷ after)) ≡ owners_from m before ++ (replicate (length s.paths) k ++ owners_from (suc k) after)
  unfolding owners_from
  owners_between m k [] e = let same : m ≡ k = omega arith in ap (λ i. replicate (length s.paths) i ++ owners_from (suc i) after) same
  owners_between m k (r ∷ before) e =
      ap (λ l. replicate (length r.paths) m ++ l) (owners_between (suc m) k before (omega arith)) ∙ sym (append_assoc (replicate (length r.paths) m) (owners_from (suc m) before) _)

-- the rule set of the first path
owner_first : (k : ℕ) (ss : List RuleSet) → 1 ≤ length (all_paths ss) → k ≤ get_or (owners_from k ss) 0 0
unfolding owners_from all_paths
owner_first k [] h = absurd (omega arith)
owner_first k (s ∷ ss) h = go s.paths (owner_first (suc k) ss) h
  where
    go : (ps : List (List ℕ)) → (1 ≤ length (all_paths ss) → suc k ≤ get_or (owners_from (suc k) ss) 0 0) → 1 ≤ length (ps ++ all_paths ss)
        → k ≤ get_or (replicate (length ps) k ++ owners_from (suc k) ss) 0 0
    go [] later h = omega (arith, later h)
    go (p ∷ ps) later h = omega arith

-- ---- the rule set with index k
abbrev no_set : RuleSet
no_set = record { needs = nothing_needed; paths = [] }

needs_at : (ss : List RuleSet) (k : ℕ) → get_or (needs_of ss) k nothing_needed ≡ (get_or ss k no_set).needs
needs_at [] k = refl
needs_at (s ∷ ss) zero = refl
needs_at (s ∷ ss) (suc k) = needs_at ss k

module _ (ss : List RuleSet) (k : ℕ) (h : k < length ss) where
  abbrev s : RuleSet
  s = get_or ss k no_set

  abbrev after : List RuleSet
  after = drop (suc k) ss

  -- how many paths there are before it
  abbrev first : ℕ
  first = length (all_paths (take k ss))

  set_here : flat_map set_fields (drop k ss) ≡ needs_field s.needs ++ (flat_map path_field s.paths ++ flat_map set_fields (drop (k + 1) ss))
  unfolding flat_map
  set_here =
      ap (flat_map set_fields) (drop-cons ss k no_set h)
      ∙ append_assoc (needs_field s.needs) (flat_map path_field s.paths) (flat_map set_fields after)
      ∙ ap (λ i. needs_field s.needs ++ (flat_map path_field s.paths ++ flat_map set_fields (drop i ss))) (sym (add-one k))

  around : ss ≡ take k ss ++ (s ∷ after)
  around = sym (take-append-drop k ss) ∙ ap (λ l. take k ss ++ l) (drop-cons ss k no_set h)

  paths_are : all_paths ss ≡ all_paths (take k ss) ++ (s.paths ++ all_paths after)
  paths_are = ap all_paths around ∙ paths_between s after (take k ss)

  owners_are : owners_from 0 ss ≡ owners_from 0 (take k ss) ++ (replicate (length s.paths) k ++ owners_from (suc k) after)
  owners_are = ap (owners_from 0) around ∙ owners_between s after 0 k (take k ss) (omega (arith, length-take-le k ss (omega arith)))

  pub first_next : length (all_paths (take (k + 1) ss)) ≡ first + length s.paths
  unfolding all_paths
  first_next =
      ap (λ i. length (all_paths (take i ss))) (add-one k)
      ∙ ap (λ l. length (all_paths l)) (take-suc ss k no_set h)
      ∙ ap length (paths_between s [] (take k ss) ∙ ap (λ l. all_paths (take k ss) ++ l) (append-nil s.paths))
      ∙ length-append (all_paths (take k ss)) s.paths

  pub last_within : first + length s.paths ≤ length (all_paths ss)
  last_within =
      omega (arith, ap length paths_are, length-append (all_paths (take k ss)) (s.paths ++ all_paths after), length-append s.paths (all_paths after))

  -- the path with index i of its paths
  pub path_inside : (i : ℕ) → i < length s.paths → get_or (all_paths ss) (first + i) [] ≡ get_or s.paths i []
  path_inside i l =
      ap (λ ps. get_or ps (first + i) []) paths_are
      ∙ get_or-append-add (all_paths (take k ss)) (s.paths ++ all_paths after) i []
      ∙ get_or-append s.paths (all_paths after) [] i l

  owner_at : (i : ℕ) → get_or (owners_from 0 ss) (first + i) 0 ≡ get_or (replicate (length s.paths) k ++ owners_from (suc k) after) i 0
  owner_at i =
      ap₂ (λ os n. get_or os (n + i) 0) owners_are (sym (length_owners 0 (take k ss)))
      ∙ get_or-append-add (owners_from 0 (take k ss)) (replicate (length s.paths) k ++ owners_from (suc k) after) i 0

  pub owner_inside : (i : ℕ) → i < length s.paths → get_or (owners_from 0 ss) (first + i) 0 ≡ k
  owner_inside i l =
      owner_at i
      ∙ get_or-append (replicate (length s.paths) k) (owners_from (suc k) after) 0 i (omega (arith, length-replicate (length s.paths) k))
      ∙ get_or-replicate (length s.paths) i k 0 l

  -- The path after its last is of a later rule set.
  pub owner_after : first + length s.paths < length (all_paths ss) → get_or (owners_from 0 ss) (first + length s.paths) 0 ≢ k
  owner_after l e =
      let more : 1 ≤ length (all_paths after) =
      omega (arith, ap length paths_are, length-append (all_paths (take k ss)) (s.paths ++ all_paths after), length-append s.paths (all_paths after)) in
      let next : get_or (owners_from 0 ss) (first + length s.paths) 0 ≡ get_or (owners_from (suc k) after) 0 0 =
      owner_at (length s.paths)
      ∙ ap (λ i. get_or (replicate (length s.paths) k ++ owners_from (suc k) after) i 0) (omega (arith, length-replicate (length s.paths) k))
      ∙ get_or-append-add (replicate (length s.paths) k) (owners_from (suc k) after) 0 0 in
      omega (arith, e, next, owner_first (suc k) after more)

-- ---- the rule set with index k of a book's tables
module _ {b : Book} {l : Loaded} (kept : Kept b l) (k : ℕ) where
  sets_counted : l.counts.sets ≡ length b.sets
  sets_counted = ap (λ n. n.sets) kept.tables.counted

  pub set_listed : k < l.counts.sets → k < length b.sets
  set_listed more = omega (arith, sets_counted)

  pub no_set_left : l.counts.sets ≤ k → flat_map set_fields (drop k b.sets) ≡ []
  unfolding flat_map
  no_set_left past = ap (flat_map set_fields) (drop_of_length-le b.sets (omega (arith, sets_counted)))

  pub set_left : k < l.counts.sets
      → flat_map set_fields (drop k b.sets)
      ≡ needs_field (get_or l.needs k nothing_needed) ++ (flat_map path_field (set_at b k).paths ++ flat_map set_fields (drop (k + 1) b.sets))
  set_left more =
      let needs_is : get_or l.needs k nothing_needed ≡ (set_at b k).needs =
      ap (λ fs. get_or fs k nothing_needed) kept.tables.sets.needs_are ∙ get_or-padding nothing_needed (needs_of b.sets) _ k ∙ needs_at b.sets k in
      set_here b.sets k (set_listed more)
      ∙ ap (λ f. needs_field f ++ (flat_map path_field (set_at b k).paths ++ flat_map set_fields (drop (k + 1) b.sets))) (sym needs_is)
