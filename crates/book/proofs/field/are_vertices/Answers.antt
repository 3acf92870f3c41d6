-- The chain tests what the definition tests.
use Rattle.std.proofs.Common.{◌≡◌, ℕ, Bool, ltb, List, [], ◌∷◌, refl, ap, ◌∙◌, rules, tests}
use Rattle.std.proofs.Math.Bool.{◌&&◌}
use Rattle.std.specs.List.{list_all}
use Rattle.std.proofs.lemmas.Iterator.{YieldsList-from_slice}
use Rattle.std.proofs.lemmas.Iterator.Search.{all_from_yields_List}
use Rattle.lists.specs.Test.{all}
use Rattle.book.specs.Book.{are_vertices}
use Rattle.book.proofs.field.are_vertices.Goals as goal

same : (p : ℕ → Bool) (l : List ℕ) → list_all p l ≡ all p l
same p [] = refl
same p (x ∷ l) = ap (λ r. p x && r) (same p l)

pub returns : goal.returns
unfolding are_vertices
returns c =
    let test = λ (v : ℕ). ltb v c.args.vertices in
    all_from_yields_List test _ _ c.all.result c.all.ensures.ran (YieldsList-from_slice c.args.path.now cc) (λ x b q k. search (rules, tests))
    ∙ same test c.args.path.now
