-- The forbidden paths as bytes: entry j is a length at 9 j, and then the vertices (01: the runs area).
use mathlib.Core.List.{List, [], ◌∷◌, ◌++◌, Memᴰ}
use Rattle.std.specs.Prelude.{◌≡◌, refl, ℕ, zero, suc, ◌+◌, ◌*◌, ◌<◌, ◌≤◌, length, get_or}
use Rattle.std.proofs.Common.{ap, ◌∙◌, arith, length-append, get_or-append-add}
use Rattle.std.proofs.Math.ListN.{get_or-append}
use Rattle.walks.specs.Avoid.{Long}
use Rattle.limits.specs.Limits.{most_vertices, most_paths, entry_size, longest_path}
use Rattle.states.specs.Count.{Below}

-- The first `count` entries are the paths of F.
pub record Spells (area : List ℕ) (count : ℕ) (F : List (List ℕ)) : Type 0 where
  pub room : count * entry_size ≤ length area
  pub paths : length F ≡ count
  pub size : (j : ℕ) → j < count → get_or area (j * entry_size) 0 ≡ length (get_or F j [])
  pub vertex : (j k : ℕ) → j < count → k < length (get_or F j []) → get_or area (j * entry_size + 1 + k) 0 ≡ get_or (get_or F j []) k 0

-- At most 256 paths of 2 to 8 vertices below n, of which there are at most 64.
pub record Bounded (n : ℕ) (F : List (List ℕ)) : Type 0 where
  pub few-vertices : n ≤ most_vertices
  pub few : length F ≤ most_paths
  pub long : Long F
  pub short : (r : List ℕ) → Memᴰ r F → length r ≤ longest_path
  pub below : Below n F

-- The bytes spell paths within the bounds.
pub record Given (area : List ℕ) (count n : ℕ) : Type 0 where
  pub paths : List (List ℕ)
  pub spells : Spells area count paths
  pub bounded : Bounded n paths

pub spells_nil : (area : List ℕ) → Spells area 0 []
spells_nil area = record { room = omega arith; paths = refl; size = λ j h. absurd (omega arith); vertex = λ j k h. absurd (omega arith) }

-- One entry more in front: the length of r, r, and what fills the entry up to nine bytes.
pub spells_cons : (r filling area : List ℕ) (count : ℕ) (F : List (List ℕ)) → length r + length filling ≡ longest_path → Spells area count F → Spells ((length r ∷ r ++ filling) ++ area) (suc count) (r ∷ F)
spells_cons r filling area count F nine s = record { room = omega (arith, s.room, length-append entry area, nine_bytes); paths = ap suc s.paths; size = size; vertex = vertex }
  where
    entry : List ℕ
    entry = length r ∷ r ++ filling

    nine_bytes : length entry ≡ entry_size
    nine_bytes = omega (arith, length-append r filling, nine)

    later : (x y : ℕ) → x ≡ entry_size + y → get_or (entry ++ area) x 0 ≡ get_or area y 0
    later x y e = ap (λ (z : ℕ). get_or (entry ++ area) z 0) (let at : x ≡ length entry + y = omega (arith, e, nine_bytes) in at) ∙ get_or-append-add entry area y 0

    size : (j : ℕ) → j < suc count → get_or (entry ++ area) (j * entry_size) 0 ≡ length (get_or (r ∷ F) j [])
    size zero h = refl
    size (suc j) h = later (suc j * entry_size) (j * entry_size) (omega arith) ∙ s.size j (omega arith)

    vertex : (j k : ℕ) → j < suc count → k < length (get_or (r ∷ F) j []) → get_or (entry ++ area) (j * entry_size + 1 + k) 0 ≡ get_or (get_or (r ∷ F) j []) k 0
    vertex zero k h b =
        ap (λ (z : ℕ). get_or (entry ++ area) z 0) (let e : 0 * entry_size + 1 + k ≡ suc k = omega arith in e)
        ∙ get_or-append (r ++ filling) area 0 k (omega (arith, length-append r filling))
        ∙ get_or-append r filling 0 k b
    vertex (suc j) k h b = later (suc j * entry_size + 1 + k) (j * entry_size + 1 + k) (omega arith) ∙ s.vertex j k (omega arith) b
