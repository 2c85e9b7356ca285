-- `joining::limits::first_bad_of` meets its contract: the list is a path of one open subpath.
use Rattle.std.proofs.Common.{◌≡◌, ℕ, ◌≤◌, arith, false, [], ◌∷◌}
use mathlib.Core.Path.{ap, ◌∙◌}
use Rattle.path.specs.Shape.{total, word_of}
use Rattle.path.specs.Limit.{anchor_in, first_bad}
use Rattle.joining.proofs.limits.first_bad_of.Goals as goal

-- the anchors that the word calls for
one_word : (n w : ℕ) → n ≤ 512 → w ≡ word_of n false → total (w ∷ []) ≡ n
unfolding word_of
one_word n w h e = omega arith

pub first_bad_anchor-requires : goal.first_bad_anchor-requires
first_bad_anchor-requires c =
    let e = one_word _ _ c.requires.few c.word.ensures in
    (omega arith, omega (arith, e, c.requires.few), omega (arith, e, c.requires.long))

pub returns : goal.returns
returns c = c.first_bad_anchor.ensures ∙ ap (first_bad (anchor_in c.args.list.now)) (one_word _ _ c.requires.few c.word.ensures)
