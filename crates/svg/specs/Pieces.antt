-- What the functions that write pieces of a path's text ask and say of them. Assumes nothing.
use Rattle.std.specs.Prelude.{ℕ, zero, suc, ◌+◌, ◌*◌, ◌≤◌, ◌<◌, ◌≡◌, true, List, length, ℤ, Float}
use Rattle.real.specs.Limit.{in_limit}
use Rattle.geom.specs.declared.point.P.{P}
use Rattle.path.specs.declared.anchor.Anchor.{Anchor}
use Rattle.path.specs.Flat.{anchor_at}
use Rattle.svg_grammar.specs.Grammar.{Command}
use Rattle.svg_grammar.specs.Text.{after_text, commands_text}

-- what cs add to a text that has reached `at`: at 0 nothing stands before them
unfoldable pub glue : ℕ → List (Command ℤ) → List ℕ
unfolding after_text commands_text
glue zero cs = commands_text cs
glue (suc k) cs = after_text cs

-- numbers within the limit
pub record PointIn (p : P) : Type 0 where
  pub x : in_limit p.x ≡ true
  pub y : in_limit p.y ≡ true

pub record AnchorIn (a : Anchor) : Type 0 where
  pub p : PointIn a.p
  pub into : PointIn a.h_in
  pub out : PointIn a.h_out

-- what the calling function has tested of place k: it is one of 1,024, it is in the list, and its numbers are within the limit
pub record Placed (xs : List Float) (k : ℕ) : Type 0 where
  pub few : k < 1024
  pub long : k * 6 + 6 ≤ length xs
  pub within : AnchorIn (anchor_at xs k)
