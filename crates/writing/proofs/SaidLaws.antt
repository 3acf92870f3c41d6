-- Laws of what numbers say: they say a book where their items are the book's, and just there; and they say one book at most.
use Rattle.std.specs.Prelude.{ℕ, zero, suc, ◌+◌, ◌-◌, ◌≤◌, ◌<◌, ◌≡◌, ◌↔◌, refl, Bool, true, false, cond, map, length, eqb, leb, get_or, take, drop, Option, Some, None}
use Rattle.std.proofs.Common.{sym, ap, ap₂, subst, ◌∙◌, arith, eqb-true, leb-true, length-append, take-append-drop, length-take-le}
use Rattle.std.proofs.lemmas.Bool.{false≢true}
use mathlib.Core.List.{List, [], ◌∷◌, ◌++◌, append_assoc, flat_map}
use Rattle.dates.specs.declared.Window.{Window}
use Rattle.walks.specs.Graph.{Arc}
use Rattle.book.specs.declared.Needs.{Needs}
use Rattle.book.specs.Book.{RuleSet, Book}
use Rattle.content.specs.Content.{Item, an_arc, a_set, a_path, cut, arc_items, set_items, items, set_size, paths_in, needs_in, path_size, path_in}
use Rattle.writing.specs.Contents.{set_list, book_items, arc_numbers, ShownAs, path_numbers, SetsSaid, Said, window_numbers, set_numbers}
use Rattle.writing.proofs.ItemsLaws.{size_by, needs_by, paths_by, sets-said, said→items}
use Rattle.writing.proofs.ContentLaws.{InOrder, sets-in-order}

-- ---- a book's own numbers say it
window-shown : (w : Option Window) → ShownAs w (window_numbers w)
window-shown None = refl
window-shown (Some w) = (1, omega arith, refl)

sets-numbered : (ss : List RuleSet) → SetsSaid ss (flat_map set_numbers ss)
unfolding flat_map
sets-numbered [] = refl
sets-numbered (s ∷ ss) = (window_numbers s.needs.window, flat_map set_numbers ss, window-shown s.needs.window, sets-numbered ss, refl)

pub numbers-said : (b : Book) → Said b (flat_map arc_numbers b.arcs) (flat_map set_numbers b.sets)
numbers-said b = record { arcs_are = refl; sets_are = sets-numbered b.sets }

-- ---- from items to numbers
arcs-are : (s : List ℕ) (arcs : List Arc) → arc_items s ≡ map an_arc arcs → s ≡ flat_map arc_numbers arcs
unfolding arc_items flat_map
arcs-are [] [] e = refl
arcs-are [] (a ∷ arcs) e = absurd (cc)
arcs-are (u ∷ []) [] e = absurd (cc)
arcs-are (u ∷ []) (a ∷ arcs) e = absurd (cc)
arcs-are (u ∷ v ∷ []) [] e = absurd (cc)
arcs-are (u ∷ v ∷ []) (a ∷ arcs) e = absurd (cc)
arcs-are (u ∷ v ∷ w ∷ s) [] e = absurd (cc)
arcs-are (u ∷ v ∷ w ∷ s) (a ∷ arcs) e =
    let same : record { tail = u; head = v; weight = w } ≡ a = cc in
    ap₂ (λ (x : Arc) l. x.tail ∷ x.head ∷ x.weight ∷ l) same (arcs-are s arcs (cc))

-- which item is which
cut-path : (p : List ℕ) (xs ys : List Item) → ◌≡◌ {A = List Item} (cut ∷ xs) (a_path p ∷ ys) → ⊥
cut-path p xs ys e = absurd (cc)

set-path : (f : Needs) (p : List ℕ) (xs ys : List Item) → ◌≡◌ {A = List Item} (a_set f ∷ xs) (a_path p ∷ ys) → ⊥
set-path f p xs ys e = absurd (cc)

none-path : (p : List ℕ) (ys : List Item) → ◌≡◌ {A = List Item} [] (a_path p ∷ ys) → ⊥
none-path p ys e = absurd (cc)

cut-sets : (xs : List Item) (ss : List RuleSet) → ◌≡◌ {A = List Item} (cut ∷ xs) (flat_map set_list ss) → ⊥
unfolding flat_map
cut-sets xs [] e = absurd (cc)
cut-sets xs (s ∷ ss) e = absurd (cc)

path-sets : (p : List ℕ) (xs : List Item) (ss : List RuleSet) → ◌≡◌ {A = List Item} (a_path p ∷ xs) (flat_map set_list ss) → ⊥
unfolding flat_map
path-sets p xs [] e = absurd (cc)
path-sets p xs (s ∷ ss) e = absurd (cc)

same-path : {p q : List ℕ} {xs ys : List Item} → ◌≡◌ {A = List Item} (a_path p ∷ xs) (a_path q ∷ ys) → (p ≡ q) × (xs ≡ ys)
same-path e = (cc, cc)

same-set : {f h : Needs} {xs ys : List Item} → ◌≡◌ {A = List Item} (a_set f ∷ xs) (a_set h ∷ ys) → (f ≡ h) × (xs ≡ ys)
same-set e = (cc, cc)

-- Where no path is to come, none comes; where some are, the first comes, or the numbers end.
no-path-first : (turns : ℕ) (ns : List ℕ) (p : List ℕ) (xs : List Item) → set_items turns 0 ns ≡ a_path p ∷ xs → ⊥
unfolding set_items
no-path-first zero ns p xs e = none-path p xs e
no-path-first (suc turns) [] p xs e = none-path p xs e
no-path-first (suc turns) (x ∷ s) p xs e = go (leb (set_size (x ∷ s)) (length (x ∷ s))) _ e
  where
    go : (whole : Bool) (rest : List Item) → cond whole (a_set (needs_in (x ∷ s)) ∷ rest) (cut ∷ []) ≡ a_path p ∷ xs → ⊥
    go true rest e = set-path _ p rest xs e
    go false rest e = cut-path p [] xs e

path-first : (turns more : ℕ) (ns : List ℕ) (ss : List RuleSet) → length ns < turns → set_items turns (suc more) ns ≡ flat_map set_list ss → ⊥
unfolding set_items
path-first zero more ns ss h e = absurd (omega (arith, h))
path-first (suc turns) more ns ss h e = go (leb (path_size ns) (length ns)) _ e
  where
    go : (whole : Bool) (rest : List Item) → cond whole (a_path (path_in ns) ∷ rest) (cut ∷ []) ≡ flat_map set_list ss → ⊥
    go true rest e = path-sets _ rest ss e
    go false rest e = cut-sets [] ss e

-- A path that is whole, in numbers.
pub path-front : (ns : List ℕ) → path_size ns ≤ length ns → ns ≡ path_numbers (path_in ns) ++ drop (path_size ns) ns
path-front [] fit = absurd (omega arith)
path-front (n ∷ s) fit =
    let size : path_size (n ∷ s) ≡ suc n = omega arith in
    let as-long : length (take n s) ≡ n = length-take-le n s (omega arith) in
    ap₂ ◌∷◌ (sym as-long) (sym (take-append-drop n s) ∙ ap (λ k. take n s ++ drop k (n ∷ s)) (sym size))

-- Numbers whose items are these paths and rule sets: those of the paths, then some whose items are the rule sets.
record PathsRead (many : ℕ) (ns : List ℕ) (ps : List (List ℕ)) (ss : List RuleSet) : Type 0 where
  as-many : many ≡ length ps
  rest : List ℕ
  are : ns ≡ flat_map path_numbers ps ++ rest
  turns : ℕ
  enough : length rest < turns
  says : set_items turns 0 rest ≡ flat_map set_list ss

paths-read : (turns many : ℕ) (ns : List ℕ) (ps : List (List ℕ)) (ss : List RuleSet) → length ns < turns
    → set_items turns many ns ≡ map a_path ps ++ flat_map set_list ss → PathsRead many ns ps ss
unfolding flat_map set_items
paths-read turns zero ns [] ss h e = record { as-many = refl; rest = ns; are = refl; turns = turns; enough = h; says = e }
paths-read turns zero ns (p ∷ ps) ss h e = absurd (no-path-first turns ns p _ e)
paths-read turns (suc many) ns [] ss h e = absurd (path-first turns many ns ss h e)
paths-read zero (suc many) ns (p ∷ ps) ss h e = absurd (omega (arith, h))
paths-read (suc turns) (suc many) ns (p ∷ ps) ss h e = go (leb (path_size ns) (length ns)) refl e (paths-read turns many (drop (path_size ns) ns) ps ss)
  where
    go : (whole : Bool) → leb (path_size ns) (length ns) ≡ whole
        → cond whole (a_path (path_in ns) ∷ set_items turns many (drop (path_size ns) ns)) (cut ∷ []) ≡ a_path p ∷ (map a_path ps ++ flat_map set_list ss)
        → (length (drop (path_size ns) ns) < turns → set_items turns many (drop (path_size ns) ns) ≡ map a_path ps ++ flat_map set_list ss
        → PathsRead many (drop (path_size ns) ns) ps ss)
        → PathsRead (suc many) ns (p ∷ ps) ss
    go false w e later-read = absurd (cut-path p [] _ e)
    go true w e later-read =
        let (one, more) = same-path e in
        let front = path-front ns (leb-true _ _ w) in
        let later : List ℕ = drop (path_size ns) ns in
        let read = later-read (omega (arith, h, ap length front, length-append (path_numbers (path_in ns)) later)) more in
        record {
          as-many = ap suc read.as-many;
          rest = read.rest;
          are =
              front
              ∙ ap₂ (λ q l. path_numbers q ++ l) one read.are
              ∙ sym (append_assoc (path_numbers p) (flat_map path_numbers ps) read.rest);
          turns = read.turns;
          enough = read.enough;
          says = read.says;
        }

pub marker : (m : ℕ) → eqb m 0 ≡ false → 1 ≤ m
marker zero e = absurd (false≢true (sym e))
marker (suc m) e = omega arith

-- A rule set that is whole, in numbers, by whether it has no window: its flags, its window, and how many paths it has.
pub record SetRead (bare : Bool) (ns : List ℕ) : Type 0 where
  pub shown : List ℕ
  pub shows : ShownAs (needs_by ns bare).window shown
  pub are : ns ≡ get_or ns 0 0 ∷ (shown ++ (paths_by ns bare ∷ drop (size_by bare) ns))

pub set-front : (x : ℕ) (s : List ℕ) (bare : Bool) → eqb (get_or (x ∷ s) 1 0) 0 ≡ bare → size_by bare ≤ length (x ∷ s) → SetRead bare (x ∷ s)
set-front x [] true e h = absurd (omega (arith, h))
set-front x (m ∷ []) true e h = absurd (omega (arith, h))
set-front x (m ∷ k ∷ s) true e h = record { shown = m ∷ []; shows = ap (λ y. y ∷ []) (eqb-true m 0 e); are = refl }
set-front x [] false e h = absurd (omega (arith, h))
set-front x (m ∷ []) false e h = absurd (omega (arith, h))
set-front x (m ∷ a ∷ []) false e h = absurd (omega (arith, h))
set-front x (m ∷ a ∷ b ∷ []) false e h = absurd (omega (arith, h))
set-front x (m ∷ a ∷ b ∷ c ∷ []) false e h = absurd (omega (arith, h))
set-front x (m ∷ a ∷ b ∷ c ∷ d ∷ []) false e h = absurd (omega (arith, h))
set-front x (m ∷ a ∷ b ∷ c ∷ d ∷ k ∷ s) false e h = record { shown = m ∷ a ∷ b ∷ c ∷ d ∷ []; shows = (m, marker m e, refl); are = refl }

sets-read : (turns : ℕ) (ns : List ℕ) (ss : List RuleSet) → length ns < turns → set_items turns 0 ns ≡ flat_map set_list ss → SetsSaid ss ns
unfolding flat_map set_items
sets-read zero ns ss h e = absurd (omega (arith, h))
sets-read (suc turns) [] [] h e = refl
sets-read (suc turns) [] (s ∷ ss) h e = absurd (cc)
sets-read (suc turns) (x ∷ r) [] h e = absurd (go (leb (set_size (x ∷ r)) (length (x ∷ r))) _ e)
  where
    go : (whole : Bool) (rest : List Item) → cond whole (a_set (needs_in (x ∷ r)) ∷ rest) (cut ∷ []) ≡ [] → ⊥
    go true rest e = absurd (cc)
    go false rest e = absurd (cc)
sets-read (suc turns) (x ∷ r) (s ∷ ss) h e = go (leb (set_size (x ∷ r)) (length (x ∷ r))) refl e (λ t l. sets-read t l ss)
  where
    ns : List ℕ
    ns = x ∷ r

    go : (whole : Bool) → leb (set_size ns) (length ns) ≡ whole
        → cond whole (a_set (needs_in ns) ∷ set_items turns (paths_in ns) (drop (set_size ns) ns)) (cut ∷ []) ≡ set_list s ++ flat_map set_list ss
        → ((t : ℕ) (l : List ℕ) → length l < t → set_items t 0 l ≡ flat_map set_list ss → SetsSaid ss l)
        → SetsSaid (s ∷ ss) ns
    go false w e later-read = absurd (cut-sets [] (s ∷ ss) e)
    go true w e later-read =
        let (needs, more) = same-set e in
        let front = set-front x r (eqb (get_or ns 1 0) 0) refl (leb-true _ _ w) in
        let later : List ℕ = drop (set_size ns) ns in
        let read = paths-read turns (paths_in ns) later s.paths ss (omega (arith, h, ap length front.are, length-append front.shown (paths_in ns ∷ later))) more in (
          front.shown,
          read.rest,
          subst (λ (f : Needs). ShownAs f.window front.shown) needs front.shows,
          later-read read.turns read.rest read.enough read.says,
          front.are
              ∙ ap₂ (λ (f : Needs) l. f.flags ∷ (front.shown ++ l)) needs (ap₂ ◌∷◌ read.as-many read.are)
              ∙ ap (λ l. s.needs.flags ∷ l) (sym (append_assoc front.shown (length s.paths ∷ flat_map path_numbers s.paths) read.rest)),
        )

-- ---- the items of arcs, and the others
same-arc : {a c : Arc} {xs ys : List Item} → ◌≡◌ {A = List Item} (an_arc a ∷ xs) (an_arc c ∷ ys) → (a ≡ c) × (xs ≡ ys)
same-arc e = (cc, cc)

no-arc-first : (a : Arc) (xs ys : List Item) → InOrder 1 ys → ◌≡◌ {A = List Item} ys (an_arc a ∷ xs) → ⊥
no-arc-first a xs ys h e = let no : ◌≡◌ {A = ℕ} 1 0 = (subst (InOrder 1) e h).0 in omega arith

not-cut : (xs : List Item) (arcs : List Arc) (ss : List RuleSet) → ◌≡◌ {A = List Item} (cut ∷ xs) (map an_arc arcs ++ flat_map set_list ss) → ⊥
unfolding flat_map
not-cut xs [] [] e = absurd (cc)
not-cut xs [] (s ∷ ss) e = absurd (cc)
not-cut xs (a ∷ arcs) ss e = absurd (cc)

not-of-sets : (a : Arc) (xs : List Item) (ss : List RuleSet) → ◌≡◌ {A = List Item} (an_arc a ∷ xs) (flat_map set_list ss) → ⊥
unfolding flat_map
not-of-sets a xs [] e = absurd (cc)
not-of-sets a xs (s ∷ ss) e = absurd (cc)

split : (arcs : List ℕ) (as' : List Arc) (xs : List Item) (ss : List RuleSet) → InOrder 1 xs → arc_items arcs ++ xs ≡ map an_arc as' ++ flat_map set_list ss
    → (arc_items arcs ≡ map an_arc as') × (xs ≡ flat_map set_list ss)
unfolding arc_items
split [] [] xs ss h e = (refl, e)
split [] (a ∷ as') xs ss h e = absurd (no-arc-first a _ xs h e)
split (u ∷ []) as' xs ss h e = absurd (not-cut xs as' ss e)
split (u ∷ v ∷ []) as' xs ss h e = absurd (not-cut xs as' ss e)
split (u ∷ v ∷ w ∷ s) [] xs ss h e = absurd (not-of-sets _ _ ss e)
split (u ∷ v ∷ w ∷ s) (a ∷ as') xs ss h e =
    let (one, more) = same-arc e in
    let (left, right) = split s as' xs ss h more in
    (ap₂ (λ x l. an_arc x ∷ l) one left, right)

-- Numbers that say a book's items say its arcs and its rule sets apart.
pub items-arcs : (arcs sets : List ℕ) (b : Book) → items arcs sets ≡ book_items b
    → (arc_items arcs ≡ map an_arc b.arcs) × (set_items (suc (length sets)) 0 sets ≡ flat_map set_list b.sets)
items-arcs arcs sets b e =
    split arcs b.arcs (set_items (suc (length sets)) 0 sets) b.sets (sets-in-order (suc (length sets)) 0 sets 1 (λ h. omega arith)) e

-- Numbers have the items of a book where they say it, and just there.
pub said-items : (arcs sets : List ℕ) (b : Book) → (items arcs sets ≡ book_items b) ↔ Said b arcs sets
said-items arcs sets b = (to, said→items arcs sets b)
  where
    to : items arcs sets ≡ book_items b → Said b arcs sets
    to e =
        let (left, right) = items-arcs arcs sets b e in
        record { arcs_are = arcs-are arcs b.arcs left; sets_are = sets-read (suc (length sets)) sets b.sets (omega arith) right }

-- ---- numbers say one book
paths-same : (ps qs : List (List ℕ)) (ss ts : List RuleSet) → map a_path ps ++ flat_map set_list ss ≡ map a_path qs ++ flat_map set_list ts
    → (ps ≡ qs) × (flat_map set_list ss ≡ flat_map set_list ts)
paths-same [] [] ss ts e = (refl, e)
paths-same [] (q ∷ qs) ss ts e = absurd (path-sets q _ ss (sym e))
paths-same (p ∷ ps) [] ss ts e = absurd (path-sets p _ ts e)
paths-same (p ∷ ps) (q ∷ qs) ss ts e =
    let (one, more) = same-path e in
    let (others, rest) = paths-same ps qs ss ts more in
    (ap₂ ◌∷◌ one others, rest)

sets-same : (ss ts : List RuleSet) → flat_map set_list ss ≡ flat_map set_list ts → ss ≡ ts
unfolding flat_map
sets-same [] [] e = refl
sets-same [] (t ∷ ts) e = absurd (cc)
sets-same (s ∷ ss) [] e = absurd (cc)
sets-same (s ∷ ss) (t ∷ ts) e =
    let (needs, more) = same-set e in
    let (paths, rest) = paths-same s.paths t.paths ss ts more in
    ap₂ ◌∷◌ (ap₂ (λ f ps. record { needs = f; paths = ps }) needs paths) (sets-same ss ts rest)

-- No two lists of arcs have the same numbers.
arc_same : (a b : Arc) → a.tail ≡ b.tail → a.head ≡ b.head → a.weight ≡ b.weight → a ≡ b
arc_same a b t h w = ap₂ (λ u v. record { tail = u; head = v; weight = a.weight }) t h ∙ ap (λ x. record { tail = b.tail; head = b.head; weight = x }) w

pub arcs-same : (as' bs : List Arc) → flat_map arc_numbers as' ≡ flat_map arc_numbers bs → as' ≡ bs
unfolding flat_map
arcs-same [] [] e = refl
arcs-same [] (b ∷ bs) e = absurd (cc)
arcs-same (a ∷ as') [] e = absurd (cc)
arcs-same (a ∷ as') (b ∷ bs) e =
    let one : a ≡ b = arc_same a b (cc) (cc) (cc) in
    ap₂ ◌∷◌ one (arcs-same as' bs (cc))

pub one-said : (arcs sets : List ℕ) (b c : Book) → Said b arcs sets → Said c arcs sets → (b.arcs ≡ c.arcs) × (b.sets ≡ c.sets)
one-said arcs sets b c p q =
    (arcs-same b.arcs c.arcs (sym p.arcs_are ∙ q.arcs_are), sets-same b.sets c.sets (sym (sets-said b.sets sets p.sets_are) ∙ sets-said c.sets sets q.sets_are))
