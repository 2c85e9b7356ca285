-- The text of a refusal: 'refused', its number and its place (document 01, 'Job file and program'). Assumes nothing.
use Rattle.std.specs.Prelude.{ℕ, List, [], ◌∷◌, ◌++◌}
use Rattle.decimal.specs.Text.{whole_text}

-- 114 is 'r', 101 'e', 102 'f', 117 'u', 115 's', 100 'd', 32 a blank
unfoldable pub refused_text : ℕ → ℕ → List ℕ
refused_text n place = (114 ∷ 101 ∷ 102 ∷ 117 ∷ 115 ∷ 101 ∷ 100 ∷ 32 ∷ []) ++ whole_text n ++ (32 ∷ []) ++ whole_text place
