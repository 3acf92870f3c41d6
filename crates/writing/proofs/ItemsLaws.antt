-- Laws of items: numbers that say a book have its items, which are its arcs, then its rule sets, each with its paths.
use Rattle.std.specs.Prelude.{ℕ, zero, suc, ◌+◌, ◌-◌, ◌≤◌, ◌<◌, ◌≡◌, refl, Bool, true, cond, map, length, leb, get_or, drop, Option, Some, None}
use Rattle.std.proofs.Common.{sym, ap, ap₂, subst, ◌∙◌, arith, ne_eqb, le-leb, length-append}
use Rattle.std.proofs.Math.Seq.{take-append_seam}
use mathlib.Core.List.{List, [], ◌∷◌, ◌++◌, append_assoc, append-nil, flat_map}
use Rattle.dates.specs.declared.Window.{Window}
use Rattle.walks.specs.Graph.{Arc}
use Rattle.book.specs.declared.Needs.{Needs}
use Rattle.book.specs.Book.{RuleSet, Book}
use Rattle.content.specs.Content.{Item, an_arc, a_set, a_path, cut, arc_items, set_items, items, path_size, path_in}
use Rattle.writing.specs.Contents.{set_list, book_items, arc_numbers, ShownAs, path_numbers, set_shown, SetsSaid, Said}

-- ---- from a book's numbers to its items
pub arcs-listed : (arcs : List Arc) → arc_items (flat_map arc_numbers arcs) ≡ map an_arc arcs
unfolding flat_map arc_items
arcs-listed [] = refl
arcs-listed (a ∷ arcs) = ap (λ l. an_arc a ∷ l) (arcs-listed arcs)

-- A path's size is 1 and its length, so it is whole where it stands in front.
path-whole : (p rest : List ℕ) → leb (path_size (path_numbers p ++ rest)) (length (path_numbers p ++ rest)) ≡ true
path-whole p rest = le-leb _ _ (omega (arith, length-append p rest))

path-dropped : (p rest : List ℕ) → drop (path_size (path_numbers p ++ rest)) (path_numbers p ++ rest) ≡ rest
path-dropped p rest =
    let size : path_size (path_numbers p ++ rest) ≡ suc (length p) = omega arith in
    ap (λ n. drop n (path_numbers p ++ rest)) size ∙ go p
  where
    go : (q : List ℕ) → drop (suc (length q)) (length p ∷ (q ++ rest)) ≡ rest
    go [] = refl
    go (x ∷ q) = go q

-- What is said begins with these items; `more` paths are to come, and the turns that are left are enough for the other numbers.
pub record Left (said front : List Item) (more : ℕ) (rest : List ℕ) : Type 0 where
  pub turns : ℕ
  pub enough : length rest < turns
  pub says : said ≡ front ++ set_items turns more rest

-- A path and what follows it, by whether the path is whole.
abbrev said_path : ℕ → ℕ → List ℕ → Bool → List Item
said_path turns more s whole = cond whole (a_path (path_in s) ∷ set_items turns more (drop (path_size s) s)) (cut ∷ [])

paths-listed : (turns many more : ℕ) (ps : List (List ℕ)) (rest : List ℕ) → many ≡ length ps + more → length (flat_map path_numbers ps ++ rest) < turns
    → Left (set_items turns many (flat_map path_numbers ps ++ rest)) (map a_path ps) more rest
unfolding flat_map set_items
paths-listed turns many more [] rest e h =
    let same : many ≡ more = omega (arith, e) in
    record { turns = turns; enough = h; says = ap (λ k. set_items turns k rest) same }
paths-listed zero many more (p ∷ ps) rest e h = absurd (omega arith)
paths-listed (suc turns) zero more (p ∷ ps) rest e h = absurd (omega (arith, e))
paths-listed (suc turns) (suc many) more (p ∷ ps) rest e h =
    let others : List ℕ = flat_map path_numbers ps ++ rest in
    let joined : path_numbers p ++ flat_map path_numbers ps ++ rest ≡ path_numbers p ++ others = append_assoc (path_numbers p) (flat_map path_numbers ps) rest in
    let left = paths-listed turns many more ps rest (omega (arith, e)) (omega (arith, ap length joined, length-append p others)) in
    record {
      turns = left.turns;
      enough = left.enough;
      says =
          ap (set_items (suc turns) (suc many)) joined
          ∙ ap (said_path turns many (path_numbers p ++ others)) (path-whole p others)
          ∙ ap₂ (λ q l. a_path q ∷ l) (take-append_seam p others) (ap (set_items turns many) (path-dropped p others) ∙ left.says);
    }

-- What numbers say where a rule set stands in front, by whether it has no window: how many of them stand before its paths, its needs, and how many paths it has.
abbrev pub size_by : Bool → ℕ
size_by bare = cond bare 3 7

abbrev pub needs_by : List ℕ → Bool → Needs
needs_by s bare =
    record {
      flags = get_or s 0 0;
      window =
          cond bare None
          (Some (record { first = record { day = get_or s 2 0; month = get_or s 3 0 }; last = record { day = get_or s 4 0; month = get_or s 5 0 } }));
    }

abbrev pub paths_by : List ℕ → Bool → ℕ
paths_by s bare = get_or s (size_by bare - 1) 0

-- A rule set and what follows it.
abbrev said_set : ℕ → List ℕ → Bool → List Item
said_set turns s bare =
    cond (leb (size_by bare) (length s)) (a_set (needs_by s bare) ∷ set_items turns (paths_by s bare) (drop (size_by bare) s)) (cut ∷ [])

-- A rule set's size is that of its window, and 2. Of its `many` paths ps are the first.
module _ (f : Needs) (many more : ℕ) (ps : List (List ℕ)) (rest : List ℕ) (e : many ≡ length ps + more) where
  abbrev paths : List ℕ
  paths = flat_map path_numbers ps ++ rest

  abbrev pub set_front : List ℕ → List ℕ
  set_front shown = f.flags ∷ (shown ++ (many ∷ paths))

  abbrev set : Option Window → Item
  set w = a_set (record { flags = f.flags; window = w })

  abbrev Leaves : ℕ → Option Window → List ℕ → Type 0
  Leaves turns w shown = Left (set_items turns 0 (set_front shown)) (set w ∷ map a_path ps) more rest

  told : (turns : ℕ) (w : Option Window) (shown : List ℕ) (size : ℕ) → size ≤ length (set_front shown) → length paths < turns
      → Left (cond (leb size (length (set_front shown))) (set w ∷ set_items turns many paths) (cut ∷ [])) (set w ∷ map a_path ps) more rest
  told turns w shown size fit enough =
      let left = paths-listed turns many more ps rest e enough in
      record {
        turns = left.turns;
        enough = left.enough;
        says =
            ap (λ whole. cond whole (set w ∷ set_items turns many paths) (cut ∷ [])) (le-leb size (length (set_front shown)) fit)
            ∙ ap (λ l. set w ∷ l) left.says;
      }

  -- by whether a number but 0 stands before the window
  marked : (turns : ℕ) (w : Option Window) (shown : List ℕ) → ShownAs w shown → length (set_front shown) < suc turns → Leaves (suc turns) w shown
  unfolding set_items
  marked turns None shown is h =
      subst (λ l. length (set_front l) < suc turns → Leaves (suc turns) None l) (sym is) (λ h. told turns None (0 ∷ []) 3 (omega arith) (omega (arith, h))) h
  marked turns (Some w) shown (m, low, is) h =
      subst (λ l. length (set_front l) < suc turns → Leaves (suc turns) (Some w) l) (sym is)
      (λ h.
      subst (λ z. Left (said_set turns (set_front (five m)) z) (set (Some w) ∷ map a_path ps) more rest) (sym (ne_eqb m 0 (omega (arith, low))))
      (told turns (Some w) (five m) 7 (omega arith) (omega (arith, h))))
      h
    where
      five : ℕ → List ℕ
      five m = m ∷ w.first.day ∷ w.first.month ∷ w.last.day ∷ w.last.month ∷ []

  pub set-listed : (turns : ℕ) (shown : List ℕ) → ShownAs f.window shown → length (set_front shown) < turns → Leaves turns f.window shown
  set-listed zero shown is h = absurd (omega (arith, h))
  set-listed (suc turns) shown is h = marked turns f.window shown is h

-- Rule sets, before any other numbers.
pub sets-listed : (turns : ℕ) (ss : List RuleSet) (ns rest : List ℕ) → SetsSaid ss ns → length (ns ++ rest) < turns
    → Left (set_items turns 0 (ns ++ rest)) (flat_map set_list ss) 0 rest
unfolding flat_map
sets-listed turns [] ns rest is h =
    record { turns = turns; enough = omega (arith, h, length-append ns rest); says = ap (λ l. set_items turns 0 (l ++ rest)) is }
sets-listed turns (s ∷ ss) ns rest (shown, later, shows, others, is) h =
    let after : List ℕ = later ++ rest in
    let joined : ns ++ rest ≡ set_front s.needs (length s.paths) 0 s.paths after (omega arith) shown =
    ap (λ l. l ++ rest) is
    ∙ append_assoc (set_shown s shown) later rest
    ∙ ap (λ l. s.needs.flags ∷ l) (append_assoc shown (length s.paths ∷ flat_map path_numbers s.paths) after) in
    let first = set-listed s.needs (length s.paths) 0 s.paths after (omega arith) turns shown shows (omega (arith, h, ap length joined)) in
    let left = sets-listed first.turns ss later rest others first.enough in
    record {
      turns = left.turns;
      enough = left.enough;
      says =
          ap (set_items turns 0) joined
          ∙ first.says
          ∙ ap (λ l. set_list s ++ l) left.says
          ∙ sym (append_assoc (set_list s) (flat_map set_list ss) (set_items left.turns 0 rest));
    }

no-numbers : (turns : ℕ) → set_items turns 0 [] ≡ []
unfolding set_items
no-numbers zero = refl
no-numbers (suc turns) = refl

pub sets-said : (ss : List RuleSet) (ns : List ℕ) → SetsSaid ss ns → set_items (suc (length ns)) 0 ns ≡ flat_map set_list ss
sets-said ss ns said =
    let left = sets-listed (suc (length ns)) ss ns [] said (omega (arith, ap length (append-nil ns))) in
    ap (set_items (suc (length ns)) 0) (sym (append-nil ns)) ∙ left.says ∙ ap (λ l. flat_map set_list ss ++ l) (no-numbers left.turns) ∙ append-nil _

-- Numbers that say a book have its items.
pub said→items : (arcs sets : List ℕ) (b : Book) → Said b arcs sets → items arcs sets ≡ book_items b
said→items arcs sets b said = ap₂ ◌++◌ (ap arc_items said.arcs_are ∙ arcs-listed b.arcs) (sets-said b.sets sets said.sets_are)
