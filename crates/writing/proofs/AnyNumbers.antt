-- Any numbers say a book, or end within an arc, a rule set, or the paths of one.
use Rattle.std.specs.Prelude.{ℕ, zero, suc, ◌-◌, ◌<◌, ◌≤◌, ◌⊎◌, ◌≡◌, refl, Bool, true, false, length, eqb, leb, get_or, drop}
use Rattle.std.proofs.Common.{sym, ap, ap₂, subst, ◌∙◌, inl, inr, arith, leb-true, length-append}
use Rattle.std.proofs.lemmas.Bool.{leb-false}
use mathlib.Core.List.{List, [], ◌∷◌, ◌++◌, append_assoc, append-nil, flat_map}
use Rattle.walks.specs.Graph.{Arc}
use Rattle.book.specs.declared.Needs.{Needs}
use Rattle.book.specs.Book.{RuleSet, Book}
use Rattle.book_bytes.proofs.ReadsLaws.{book}
use Rattle.content.specs.Content.{path_size, path_in}
use Rattle.writing.specs.Contents.{arc_numbers, path_numbers, set_shown, SetsSaid, Said, EndInArc, EndInSet, EndInPath, EndInPaths, CutArcs, CutSets}
use Rattle.writing.proofs.ItemsLaws.{size_by, needs_by, paths_by}
use Rattle.writing.proofs.SaidLaws.{path-front, SetRead, set-front, marker}

-- ---- arcs
record ArcsThen (ns : List ℕ) : Type 0 where
  arcs : List Arc
  rest : List ℕ
  are : ns ≡ flat_map arc_numbers arcs ++ rest
  ends : (rest ≡ []) ⊎ EndInArc rest

arcs-any : (ns : List ℕ) → ArcsThen ns
unfolding flat_map
arcs-any [] = record { arcs = []; rest = []; are = refl; ends = inl refl }
arcs-any (u ∷ []) = record { arcs = []; rest = u ∷ []; are = refl; ends = inr (omega arith, omega arith) }
arcs-any (u ∷ v ∷ []) = record { arcs = []; rest = u ∷ v ∷ []; are = refl; ends = inr (omega arith, omega arith) }
arcs-any (u ∷ v ∷ w ∷ s) =
    let r = arcs-any s in
    record { arcs = record { tail = u; head = v; weight = w } ∷ r.arcs; rest = r.rest; are = ap (λ l. u ∷ v ∷ w ∷ l) r.are; ends = r.ends }

-- ---- paths
record PathsThen (many : ℕ) (ns : List ℕ) : Type 0 where
  paths : List (List ℕ)
  rest : List ℕ
  are : ns ≡ flat_map path_numbers paths ++ rest
  ends : (many ≡ length paths) ⊎ ((length paths < many) × EndInPath rest)

paths-any : (many : ℕ) (ns : List ℕ) → PathsThen many ns
unfolding flat_map
paths-any zero ns = record { paths = []; rest = ns; are = refl; ends = inl refl }
paths-any (suc many) [] = record { paths = []; rest = []; are = refl; ends = inr (omega arith, inl refl) }
paths-any (suc many) (n ∷ s) = go (leb (path_size (n ∷ s)) (length (n ∷ s))) refl (paths-any many (drop (path_size (n ∷ s)) (n ∷ s)))
  where
    go : (fit : Bool) → leb (path_size (n ∷ s)) (length (n ∷ s)) ≡ fit → PathsThen many (drop (path_size (n ∷ s)) (n ∷ s)) → PathsThen (suc many) (n ∷ s)
    go false e r =
        let few : length (n ∷ s) < path_size (n ∷ s) = leb-false _ _ e in
        record { paths = []; rest = n ∷ s; are = refl; ends = inr (omega arith, inr (n, s, refl, omega (arith, few))) }
    go true e r =
        record {
          paths = path_in (n ∷ s) ∷ r.paths;
          rest = r.rest;
          are =
              path-front (n ∷ s) (leb-true _ _ e)
              ∙ ap (λ l. path_numbers (path_in (n ∷ s)) ++ l) r.are
              ∙ sym (append_assoc (path_numbers (path_in (n ∷ s))) (flat_map path_numbers r.paths) r.rest);
          ends = one_more r.ends;
        }
      where
        one_more : (many ≡ length r.paths) ⊎ ((length r.paths < many) × EndInPath r.rest)
            → (suc many ≡ suc (length r.paths)) ⊎ ((suc (length r.paths) < suc many) × EndInPath r.rest)
        one_more (inl all) = inl (ap suc all)
        one_more (inr (few, ends)) = inr (omega (arith, few), ends)

-- ---- rule sets
abbrev WithinSet : List ℕ → Type 0
WithinSet ns = EndInSet ns ⊎ ((f : Needs) × (paths : List (List ℕ)) × EndInPaths f paths ns)

record SetsThen (ns : List ℕ) : Type 0 where
  sets : List RuleSet
  front : List ℕ
  rest : List ℕ
  said : SetsSaid sets front
  are : ns ≡ front ++ rest
  ends : (rest ≡ []) ⊎ WithinSet rest

set_joined : (ns : List ℕ) (s : RuleSet) (shown : List ℕ) (many : ℕ) (later others front rest : List ℕ) → ns ≡ s.needs.flags ∷ (shown ++ (many ∷ later))
    → many ≡ length s.paths → later ≡ flat_map path_numbers s.paths ++ others → others ≡ front ++ rest → ns ≡ (set_shown s shown ++ front) ++ rest
set_joined ns s shown many later others front rest is all paths are =
    is
    ∙ ap₂ (λ k l. s.needs.flags ∷ (shown ++ (k ∷ l))) all (paths ∙ ap (λ l. flat_map path_numbers s.paths ++ l) are)
    ∙ ap (λ l. s.needs.flags ∷ l) (sym (append_assoc shown (length s.paths ∷ flat_map path_numbers s.paths) (front ++ rest)))
    ∙ sym (append_assoc (set_shown s shown) front rest)

-- none whole
module _ (ns : List ℕ) where
  cut_off : WithinSet ns → SetsThen ns
  cut_off ends = record { sets = []; front = []; rest = ns; said = refl; are = refl; ends = inr ends }

  set-short : (bare : Bool) → eqb (get_or ns 1 0) 0 ≡ bare → 1 ≤ length ns → length ns < size_by bare → EndInSet ns
  set-short true e some few = (some, inl few)
  set-short false e some few = (some, inr (marker (get_or ns 1 0) e, few))

  abbrev later : Bool → List ℕ
  later bare = drop (size_by bare) ns

  one_set : (bare : Bool) (r : SetRead bare ns) → PathsThen (paths_by ns bare) (later bare) → ((l : List ℕ) → length l < length ns → SetsThen l) → SetsThen ns
  one_set bare r p others = go p.ends
    where
      go : (paths_by ns bare ≡ length p.paths) ⊎ ((length p.paths < paths_by ns bare) × EndInPath p.rest) → SetsThen ns
      go (inr (few, ends)) =
          cut_off (inr (
            needs_by ns bare,
            p.paths,
            record { shown = r.shown; shows = r.shows; many = paths_by ns bare; more = few; cut_off = p.rest; ends = ends; are = r.are ∙ ap (λ l. get_or ns 0 0 ∷ (r.shown ++ (paths_by ns bare ∷ l))) p.are },
          ))
      go (inl all) =
          let s : RuleSet = record { needs = needs_by ns bare; paths = p.paths } in
          let o =
          others p.rest (omega (arith, ap length r.are, length-append r.shown (paths_by ns bare ∷ later bare), ap length p.are, length-append (flat_map path_numbers p.paths) p.rest)) in
          record {
            sets = s ∷ o.sets;
            front = set_shown s r.shown ++ o.front;
            rest = o.rest;
            said = (r.shown, o.front, r.shows, o.said, refl);
            are = set_joined ns s r.shown (paths_by ns bare) (later bare) p.rest o.front o.rest r.are all p.are o.are;
            ends = o.ends;
          }

sets-any : (turns : ℕ) (ns : List ℕ) → length ns < turns → SetsThen ns
sets-any zero ns h = absurd (omega (arith, h))
sets-any (suc turns) [] h = record { sets = []; front = []; rest = []; said = refl; are = refl; ends = inl refl }
sets-any (suc turns) (x ∷ s) h = go (eqb (get_or (x ∷ s) 1 0) 0) refl (λ l k. sets-any turns l (omega (arith, h, k)))
  where
    go : (bare : Bool) → eqb (get_or (x ∷ s) 1 0) 0 ≡ bare → ((l : List ℕ) → length l < length (x ∷ s) → SetsThen l) → SetsThen (x ∷ s)
    go bare e others = by (leb (size_by bare) (length (x ∷ s))) refl
      where
        by : (fit : Bool) → leb (size_by bare) (length (x ∷ s)) ≡ fit → SetsThen (x ∷ s)
        by true f =
            one_set (x ∷ s) bare (set-front x s bare e (leb-true _ _ f)) (paths-any (paths_by (x ∷ s) bare) (later (x ∷ s) bare)) others
        by false f = cut_off (x ∷ s) (inl (set-short (x ∷ s) bare e (omega arith) (leb-false _ _ f)))

-- ---- both
module _ (n : ℕ) (arcs sets : List ℕ) where
  abbrev Any : Type 0
  Any = ((b : Book) × ((n ≡ b.count) × Said b arcs sets)) ⊎ CutArcs arcs ⊎ (((given : List Arc) × (arcs ≡ flat_map arc_numbers given)) × CutSets sets)

  by-ends : (a : ArcsThen arcs) (s : SetsThen sets) → (a.rest ≡ []) ⊎ EndInArc a.rest → (s.rest ≡ []) ⊎ WithinSet s.rest → Any
  by-ends a s (inr ends) _ = inr (inl (record { arcs = a.arcs; rest = a.rest; are = a.are; ends = ends }))
  by-ends a s (inl none) more = go more
    where
      all : arcs ≡ flat_map arc_numbers a.arcs
      all = a.are ∙ ap (λ l. flat_map arc_numbers a.arcs ++ l) none ∙ append-nil _

      go : (s.rest ≡ []) ⊎ WithinSet s.rest → Any
      go (inr ends) = inr (inr ((a.arcs, all), record { sets = s.sets; front = s.front; rest = s.rest; said = s.said; are = s.are; ends = ends }))
      go (inl none) =
          let front : sets ≡ s.front = s.are ∙ ap (λ l. s.front ++ l) none ∙ append-nil _ in
          inl (book n a.arcs s.sets, (refl, record { arcs_are = all; sets_are = subst (SetsSaid s.sets) (sym front) s.said }))

  pub any-numbers : Any
  any-numbers =
      let a = arcs-any arcs in
      let s = sets-any (suc (length sets)) sets (omega arith) in
      by-ends a s a.ends s.ends
