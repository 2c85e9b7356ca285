-- Each return cites what its tests come to.
use Rattle.std.proofs.Common.{rules, ◌≡◌, true, false}
use mathlib.Core.Path.{ap, ◌∙◌}
use Rattle.root.specs.Root.{root_of}
use Rattle.geom.specs.Point.{len}
use Rattle.hit.specs.Best.{beats}
use Rattle.hit.proofs.Bars.{root-is-len, barred_out, too_far, no_nearer, leads}
use Rattle.hit.proofs.best.Best.take.Goals as goal

pub returns-then-self-square-clause-best : goal.returns-then-self-square-clause-best
returns-then-self-square-clause-best c = (barred_out _ _ _ _ c.requires _ c.dot-square.ensures c.if-self-square.true).0

pub returns-then-not-dist-tol-clause-best : goal.returns-then-not-dist-tol-clause-best
returns-then-not-dist-tol-clause-best c =
    let l : c.root-dist.result ≡ len c.args.d = c.root-dist.ensures ∙ ap root_of c.dot-square.ensures ∙ root-is-len _ in
    (too_far _ _ _ _ c.requires _ l c.if-not-dist-tol.true).0

pub returns-then-not-is_none_or-clause-best : goal.returns-then-not-is_none_or-clause-best
unfolding beats
returns-then-not-is_none_or-clause-best c =
    let l : c.root-dist.result ≡ len c.args.d = c.root-dist.ensures ∙ ap root_of c.dot-square.ensures ∙ root-is-len _ in
    let n : beats c.args.self.nearest c.root-dist.result ≡ false = search rules in
    (no_nearer _ _ _ _ c.requires _ l c.if-not-dist-tol.false n).0

pub returns : goal.returns
unfolding beats
returns c =
    let l : c.root-dist.result ≡ len c.args.d = c.root-dist.ensures ∙ ap root_of c.dot-square.ensures ∙ root-is-len _ in
    let n : beats c.args.self.nearest c.root-dist.result ≡ true = search rules in
    let t = leads _ _ _ _ c.requires _ l _ c.dot-square.ensures c.if-not-dist-tol.false n in
    record { best = t.0; bar = t.1 }
