-- A path sought among the windows of a walk.
use Rattle.std.proofs.Common.{◌≡◌, ℕ, ◌≤◌, ◌<◌, Bool, true, false, cond, ◌&&◌, ◌||◌, List, [], ◌∷◌, length, take, drop, eqb, leb, refl, sym, ap, ap₂, ◌∙◌, arith, leb-true, true≢false}
use Rattle.std.proofs.lemmas.Iterator.{YieldsList}
use Rattle.std.specs.Cmp.Lexicographic.{pointwise}
use Rattle.std.specs.Iterator.{AlwaysYields}
use Rattle.std.specs.List.{list_any}
use Rattle.std.specs.Slice.Iter.{windows_steps, windows_rest, windows_size}
use Rattle.std.specs.declared.slice.Windows.{Windows}
use Rattle.std.proofs.lemmas.Bool.{leb-false}
use Rattle.std.proofs.Math.Bool.{and-false}
use Rattle.walks.specs.Avoid.{is_prefix, occurs}

-- the parts of m vertices, at each place in turn
unfoldable pub windows : ℕ → List ℕ → List (List ℕ)
windows m [] = []
windows m (v ∷ w) = cond (leb m (length (v ∷ w))) (take m (v ∷ w) ∷ windows m w) []

windowed : (m : ℕ) → 0 < m → (w : List ℕ) (s : Windows ℕ) → windows_rest s ≡ w → windows_size s ≡ m → AlwaysYields windows_steps (λ y. y.now) s (windows m w)
unfolding windows
windowed m some [] s rest size = λ x t p. absurd (omega (arith, p.1.0, ap length rest, size))
windowed m some (v ∷ w) s rest size = go (leb m (length (v ∷ w))) refl (windowed m some w)
  where
    go : (x : Bool) → leb m (length (v ∷ w)) ≡ x
        → ((t : Windows ℕ) → windows_rest t ≡ w → windows_size t ≡ m → AlwaysYields windows_steps (λ y. y.now) t (windows m w))
        → AlwaysYields windows_steps (λ y. y.now) s (cond x (take m (v ∷ w) ∷ windows m w) [])
    go true fits later = (
      λ t p. omega (arith, p.1.0, ap length rest, size, leb-true m (length (v ∷ w)) fits),
      λ x t p. (p.1.1 ∙ ap₂ take size rest, later t (p.1.2 ∙ ap (drop 1) rest) (p.0 ∙ size)),
    )
    go false short later = λ x t p. absurd (omega (arith, p.1.0, ap length rest, size, leb-false m (length (v ∷ w)) short))

pub YieldsList-from_windows : {s : Windows ℕ} (m : ℕ) (w : List ℕ) → 0 < m → windows_rest s ≡ w → windows_size s ≡ m → YieldsList windows_steps (λ y. y.now) s (windows m w)
YieldsList-from_windows {s} m w some rest size = record { runs = windowed m some w s rest size }

-- ---- a path is one of the windows of its length exactly if it occurs
front : (r u : List ℕ) → length r ≤ length u → pointwise eqb r (take (length r) u) ≡ is_prefix r u
front [] u h = refl
front (a ∷ r) [] h = absurd (omega arith)
front (a ∷ r) (b ∷ u) h = ap (λ x. eqb a b && x) (front r u (omega arith))

-- no longer path stands at the front, or further on
longer : (r w : List ℕ) → length w < length r → is_prefix r w ≡ false
longer [] w h = absurd (omega arith)
longer (a ∷ r) [] h = refl
longer (a ∷ r) (b ∷ w) h = ap (λ x. eqb a b && x) (longer r w (omega arith)) ∙ and-false (eqb a b)

nowhere : (r w : List ℕ) → length w < length r → occurs r w ≡ false
nowhere r [] h = longer r [] h
nowhere r (v ∷ w) h = ap₂ (λ x y. x || y) (longer r (v ∷ w) h) (nowhere r w (omega arith))

pub among-windows : (r w : List ℕ) → 0 < length r → list_any (pointwise eqb r) (windows (length r) w) ≡ occurs r w
unfolding windows
among-windows r [] some = sym (longer r [] some)
among-windows r (v ∷ w) some = go (leb (length r) (length (v ∷ w))) refl (among-windows r w some)
  where
    go : (x : Bool) → leb (length r) (length (v ∷ w)) ≡ x → list_any (pointwise eqb r) (windows (length r) w) ≡ occurs r w
        → list_any (pointwise eqb r) (cond x (take (length r) (v ∷ w) ∷ windows (length r) w) []) ≡ occurs r (v ∷ w)
    go true fits later = ap₂ (λ x y. x || y) (front r (v ∷ w) (leb-true (length r) (length (v ∷ w)) fits)) later
    go false short later = sym (nowhere r (v ∷ w) (leb-false (length r) (length (v ∷ w)) short))

pub empty-occurs : (r w : List ℕ) → length r ≡ 0 → occurs r w ≡ true
empty-occurs [] [] e = refl
empty-occurs [] (v ∷ w) e = refl
empty-occurs (a ∷ r) w e = absurd (omega arith)

pub some-vertex : (r : List ℕ) → eqb (length r) 0 ≡ false → 0 < length r
some-vertex [] e = absurd (true≢false e)
some-vertex (a ∷ r) e = omega arith
