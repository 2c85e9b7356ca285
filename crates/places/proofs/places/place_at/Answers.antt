-- Both of its segments have their ends within one step more.
use mathlib.Core.Path.{refl}
use Rattle.path.specs.Flat.{anchor_at}
use Rattle.cut.specs.Subpath.{view_of}
use Rattle.cut.specs.Places.{place_at}
use Rattle.places.proofs.Ends.{cut_here, ends_after, ends_before}
use Rattle.places.proofs.places.place_at.Goals as goal

pub returns : goal.returns
unfolding view_of place_at
returns c radius kind h e =
    let a = c.args in
    let v = view_of (anchor_at a.anchors.now) radius kind 128 a.sub in
    let g = c.requires.1.index in
    let l = c.requires.2 in
    rw (
      c.place_of.ensures,
      c.handle_out-out.ensures radius kind (ends_after v a.w.reach a.w.at a.cuts.now g a.i l e h),
      c.handle_in-into.ensures radius kind (ends_before v a.w.reach a.w.at a.cuts.now g a.i l e h),
      c.anchor.ensures,
      cut_here v a.w.reach a.w.at a.cuts.now g a.i l e h,
    ) refl
