-- What a comparison answers.
use Rattle.std.specs.Prelude.{Bool, true, ◌≡◌}

-- true exactly if the two are equal
abbrev pub Tells : {A : Type 0} → Bool → A → A → Type 0
Tells r x y = (r ≡ true → x ≡ y) × (x ≡ y → r ≡ true)
