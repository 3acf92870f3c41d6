-- Laws of numbers that end too early: items that are whole, and one that is cut.
use Rattle.std.specs.Prelude.{ℕ, zero, suc, ◌+◌, ◌-◌, ◌≤◌, ◌<◌, ◌⊎◌, ◌≡◌, refl, cond, map, length, eqb, get_or}
use Rattle.std.proofs.Common.{sym, ap, subst, ◌∙◌, inl, inr, arith, ne_eqb}
use Rattle.std.proofs.lemmas.Bool.{lt-leb}
use mathlib.Core.List.{List, [], ◌∷◌, ◌++◌, flat_map}
use Rattle.walks.specs.Graph.{Arc}
use Rattle.book.specs.declared.Needs.{Needs}
use Rattle.book.specs.Book.{RuleSet}
use Rattle.content.specs.Content.{Item, an_arc, a_set, a_path, cut, arc_items, set_items, set_size, path_size, whole}
use Rattle.writing.specs.Contents.{set_list, arc_numbers, SetsSaid, EndInArc, EndInSet, EndInPath, EndInPaths}
use Rattle.writing.proofs.ItemsLaws.{set-listed, sets-listed}

pub arcs-cut : (arcs : List Arc) (rest : List ℕ) → EndInArc rest → arc_items (flat_map arc_numbers arcs ++ rest) ≡ map an_arc arcs ++ (cut ∷ [])
unfolding arc_items flat_map
arcs-cut [] [] h = absurd (omega (arith, h.0))
arcs-cut [] (u ∷ []) h = refl
arcs-cut [] (u ∷ v ∷ []) h = refl
arcs-cut [] (u ∷ v ∷ w ∷ s) h = absurd (omega (arith, h.1))
arcs-cut (a ∷ arcs) rest h = ap (λ l. an_arc a ∷ l) (arcs-cut arcs rest h)

not-whole : (size : ℕ) (ns : List ℕ) (x : Item) (rest : List Item) → length ns < size → whole size ns x rest ≡ cut ∷ []
not-whole size ns x rest h = ap (λ fit. cond fit (x ∷ rest) (cut ∷ [])) (lt-leb size (length ns) h)

set-short : (ns : List ℕ) → EndInSet ns → length ns < set_size ns
set-short ns h = go (get_or ns 1 0) h.1
  where
    go : (mark : ℕ) → ((length ns < 3) ⊎ ((1 ≤ mark) × (length ns < 7))) → length ns < cond (eqb mark 0) 3 7
    go zero (inl few) = few
    go zero (inr (low, few)) = absurd (omega (arith, low))
    go (suc m) few =
        let longer : length ns < 7 = few_of few in
        subst (λ z. length ns < cond z 3 7) (sym (ne_eqb (suc m) 0 (omega arith))) longer
      where
        few_of : ((length ns < 3) ⊎ ((1 ≤ suc m) × (length ns < 7))) → length ns < 7
        few_of (inl few) = omega (arith, few)
        few_of (inr (low, few)) = few

set-cut : (turns : ℕ) (ns : List ℕ) → EndInSet ns → length ns < turns → set_items turns 0 ns ≡ cut ∷ []
unfolding set_items
set-cut zero ns ends h = absurd (omega (arith, h))
set-cut (suc turns) [] ends h = absurd (omega (arith, ends.0))
set-cut (suc turns) (x ∷ s) ends h = not-whole (set_size (x ∷ s)) (x ∷ s) _ _ (set-short (x ∷ s) ends)

path-short : (ns : List ℕ) → EndInPath ns → length ns < path_size ns
path-short ns (inl none) = omega (arith, ap length none)
path-short ns (inr (size, vertices, is, few)) = subst (λ l. length l < path_size l) (sym is) (omega (arith, few))

path-cut : (turns more : ℕ) (ns : List ℕ) → EndInPath ns → length ns < turns → set_items turns (suc more) ns ≡ cut ∷ []
unfolding set_items
path-cut zero more ns ends h = absurd (omega (arith, h))
path-cut (suc turns) more ns ends h = not-whole (path_size ns) ns _ _ (path-short ns ends)

module _ (ss : List RuleSet) (front rest : List ℕ) (said : SetsSaid ss front) where
  abbrev numbers : List ℕ
  numbers = front ++ rest

  pub sets-cut : EndInSet rest → set_items (suc (length numbers)) 0 numbers ≡ flat_map set_list ss ++ (cut ∷ [])
  sets-cut ends =
      let left = sets-listed (suc (length numbers)) ss front rest said (omega arith) in
      left.says ∙ ap (λ l. flat_map set_list ss ++ l) (set-cut left.turns rest ends left.enough)

  pub paths-cut : (f : Needs) (ps : List (List ℕ)) → EndInPaths f ps rest
      → set_items (suc (length numbers)) 0 numbers ≡ flat_map set_list ss ++ (a_set f ∷ (map a_path ps ++ (cut ∷ [])))
  paths-cut f ps e =
      let left = sets-listed (suc (length numbers)) ss front rest said (omega arith) in
      let more : ℕ = e.many - suc (length ps) in
      let as-many : e.many ≡ length ps + suc more = omega (arith, e.more) in
      let within = set-listed f e.many (suc more) ps e.cut_off as-many left.turns e.shown e.shows (omega (arith, left.enough, ap length e.are)) in
      left.says
      ∙ ap (λ l. flat_map set_list ss ++ l)
      (ap (set_items left.turns 0) e.are ∙ within.says ∙ ap (λ l. a_set f ∷ (map a_path ps ++ l)) (path-cut within.turns more e.cut_off e.ends within.enough))
